use Rattle.ptpm_seal.specs.NewestImage.{IsNewestOf}
use Rattle.ptpm_seal.specs.Places.{held_in}
use Rattle.ptpm_seal.proofs.places.newest_image.Given as goal

abbrev pub invariant-loop-place : goal.invariant-loop-place
invariant-loop-place l = IsNewestOf (held_in l.size l.octets) l.place l.newest
