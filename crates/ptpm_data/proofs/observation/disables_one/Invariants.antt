use Rattle.std.proofs.Common.{◌≡◌, take}
use Rattle.ptpm_data.specs.Observation.{disables_one}
use Rattle.ptpm_data.proofs.observation.disables_one.Given as goal

abbrev pub invariant-loop-place : goal.invariant-loop-place
invariant-loop-place l = l.disables ≡ disables_one (take l.place l.observed) l.ports
