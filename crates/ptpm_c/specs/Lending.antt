-- What is lent of a pointer that a host keeps: what it points to.
use Rattle.std.specs.Borrow.{Fml, Lends, MutBor}
use Rattle.std.specs.Prelude.{Some}
use Rattle.ptpm_c.specs.declared.keeping.Keeping.{Keeping}
use Rattle.ptpm_c.specs.declared.kept.Hosted.{Hosted}
use Rattle.ptpm_c.specs.declared.kept.Kept.{Kept}
use Rattle.ptpm_c.specs.contracts.keeping.Keeping as keeping
use Rattle.ptpm_c.specs.contracts.kept.Hosted as hosted
use Rattle.ptpm_c.specs.contracts.kept.Kept as kept

-- this, as it is kept
abbrev pub kept_of : Hosted → Kept
kept_of w = record { hosted = record { value = w } }

abbrev pub LendsHostedIn : MutBor Kept → MutBor Hosted → Fml
LendsHostedIn s r = Lends kept.the_row hosted.the_row s r kept_of

-- the same pointer, which points to this
abbrev pub with_kept : Keeping → Kept → Keeping
with_kept k w = record k { kept = Some w }

abbrev pub LendsKept : MutBor Keeping → MutBor Kept → Fml
LendsKept s r = Lends keeping.the_row kept.the_row s r (with_kept s.now)

abbrev pub LendsHosted : MutBor Keeping → MutBor Hosted → Fml
LendsHosted s r = Lends keeping.the_row hosted.the_row s r (λ w. with_kept s.now (kept_of w))
