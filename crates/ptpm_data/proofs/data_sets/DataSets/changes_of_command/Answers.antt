use Rattle.std.proofs.Common.{arith, ◌≡◌, ◌∙◌, ap, sym}
use Rattle.ptpm_data.specs.declared.management_id.Layout.{Layout}
use Rattle.ptpm_data.specs.Changed.{changed}
use Rattle.ptpm_data.specs.Changes.{commanded}
use Rattle.ptpm_data.specs.Members.{DataSetsValue}
use Rattle.ptpm_data.proofs.Differing.{nothing_changed}
use Rattle.ptpm_data.proofs.data_sets.DataSets.changes_of_command.Goals as goal

pub returns-in-EnablePort : goal.returns-in-EnablePort
unfolding commanded
returns-in-EnablePort c =
    c.changes_of_ports.ensures
    ∙ ap (λ (l : Layout). changed c.args.self.now (commanded l c.args.port c.args.self.now)) (sym c.in-EnablePort.is)

pub returns-in-DisablePort : goal.returns-in-DisablePort
unfolding commanded
returns-in-DisablePort c =
    c.changes_of_ports-in-DisablePort.ensures
    ∙ ap (λ (l : Layout). changed c.args.self.now (commanded l c.args.port c.args.self.now)) (sym c.in-DisablePort.is)

pub returns-in_default : goal.returns-in_default
unfolding commanded
returns-in_default c =
    let d = c.args.self.now in
    let same : d ≡ commanded c.args.layout c.args.port d = grind arith in
    nothing_changed d ∙ ap (λ (e : DataSetsValue). changed d e) same
