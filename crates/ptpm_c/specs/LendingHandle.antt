-- What is lent of a handle: what it holds.
use Rattle.std.specs.Borrow.{Fml, LendsIf, MutBor}
use Rattle.std.specs.Prelude.{Option, refl, true}
use Rattle.ptpm_c.specs.declared.handle.Handle.{Handle}
use Rattle.ptpm_c.specs.declared.kept.Hosted.{Hosted}
use Rattle.ptpm_c.specs.contracts.handle.Handle as handle
use Rattle.ptpm_c.specs.contracts.kept.Hosted as hosted
use Rattle.ptpm_c.specs.Lending.{kept_of, with_kept}

-- the handle, whose pointer points to this
abbrev pub holding : Handle → Hosted → Handle
holding h w = record { keeping = with_kept h.keeping (kept_of w); live = true; restored = h.restored; tied = refl }

abbrev pub LendsHeld : MutBor Handle → Option (MutBor Hosted) → Fml
LendsHeld s r = LendsIf handle.the_row hosted.the_row s r (holding s.now) s.now
