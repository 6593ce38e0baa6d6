use Rattle.std.proofs.Common.{arith, ◌≡◌, ◌∙◌, ap, sym}
use Rattle.ptpm_codec.specs.declared.message.Action.TheVariants as actions
use Rattle.ptpm_data.specs.Changed.{changed}
use Rattle.ptpm_data.specs.Changes.{applied}
use Rattle.ptpm_data.specs.Members.{DataSetsValue}
use Rattle.ptpm_data.specs.Request.{RequestValue}
use Rattle.ptpm_data.proofs.Differing.{nothing_changed}
use Rattle.ptpm_data.proofs.data_sets.DataSets.changes_at.Goals as goal

pub returns-in-Set : goal.returns-in-Set
returns-in-Set c =
    let d = c.args.self.now in
    let action : actions.Set ≡ c.args.request.now.action = sym c.in-Set.is ∙ ap (λ (q : RequestValue). q.action) c.request.view_is in
    c.changes_of_set.ensures ∙ (λ i. changed d (applied c.args.layout (c.request.view_is i) (action i) d))

pub returns-in-Command : goal.returns-in-Command
returns-in-Command c =
    let d = c.args.self.now in
    let action : actions.Command ≡ c.args.request.now.action = sym c.in-Command.is ∙ ap (λ (q : RequestValue). q.action) c.request.view_is in
    c.changes_of_command.ensures ∙ (λ i. changed d (applied c.args.layout (c.request.view_is i) (action i) d))

pub returns-in_default : goal.returns-in_default
returns-in_default c =
    let d = c.args.self.now in
    let same : d ≡ applied c.args.layout c.args.request.now c.args.request.now.action d = grind arith in
    nothing_changed d ∙ ap (λ (e : DataSetsValue). changed d e) same
