-- The data sets of a start are of the clock that the settings name.
use Rattle.std.proofs.Common.{◌≡◌, List, Ok, ap, sym, ◌∙◌}
use Rattle.ptpm_data.specs.declared.start.ClockStart.{ClockStart}
use Rattle.ptpm_data.specs.declared.start.PortStart.{PortStart}
use Rattle.ptpm_data.specs.Members.{DataSetsValue}
use Rattle.ptpm_data.specs.declared.ports.TheConstants.{PORTS}
use Rattle.ptpm_data.specs.Start.{start_within}
use Rattle.ptpm_data.proofs.StartLemmas.{started_by}
use Rattle.ptpm_host.proofs.judged.JudgedStart.new.Goals as goal

identity_of_start : (c : ClockStart) (ports : List PortStart) (sets : DataSetsValue)
    → start_within PORTS c ports ≡ Ok sets
    → sets.default.identity ≡ c.identity
identity_of_start c ports sets h = ap (λ (d : DataSetsValue). d.default.identity) (started_by PORTS c ports sets (sym h))

pub returns-clause-identity : goal.returns-clause-identity
returns-clause-identity c =
    identity_of_start c.start.result c.as_slice.result.now c.in-Ok-new_in.sets c.in-Ok-new_in.ensures
    ∙ ap (λ (s : ClockStart). s.identity) c.start.ensures
