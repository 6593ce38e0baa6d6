-- No octets are no record.
use Rattle.std.proofs.Common.{arith, ◌≡◌, None, refl, List, [], ◌∷◌, ℕ, length}
use Rattle.ptpm_journal.specs.Octets.{found_in, record_at}
use Rattle.ptpm_journal.proofs.reading.found_in.Goals as goal

of_none : found_in [] ≡ None
unfolding found_in record_at
of_none = refl

none_in_empty : (body : List ℕ) → length body ≡ 0 → found_in body ≡ None
none_in_empty [] h = of_none
none_in_empty (octet ∷ body) h = absurd (omega (arith, h))

pub returns-then-is_empty-clause-found : goal.returns-then-is_empty-clause-found
returns-then-is_empty-clause-found c = grind (arith, none_in_empty)
