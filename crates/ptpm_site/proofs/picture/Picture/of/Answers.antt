-- Each clock follows one of the clocks.
use Rattle.std.proofs.Common.{subst, sym}
use Rattle.ptpm_site.specs.Loops.{AreWithin}
use Rattle.ptpm_site.proofs.picture.Picture.of.Goals as goal

pub least_of_loops-requires : goal.least_of_loops-requires
least_of_loops-requires c = subst AreWithin (sym c.as_slice.ensures.value) c.in_ok-forest.forest.within
