use Rattle.std.proofs.Common.{◌≢◌, ℕ, ◌<◌, get_or}
use Rattle.ptpm_members.specs.declared.forms.Field.{Field}
use Rattle.ptpm_host.proofs.parsing.place.Given as goal

abbrev pub invariant-loop-place : goal.invariant-loop-place
invariant-loop-place l = (k : ℕ) (d : Field) → k < l.place → (get_or l.field-items k d).0 ≢ l.member
