use Rattle.std.proofs.Common.{◌++◌, ◌+◌, ◌∙◌, ap, drop, length, take}
use Rattle.ptpm_manager.proofs.ImageLaws.{written}
use Rattle.ptpm_manager.proofs.image.write_both.Goals as goal

pub returns : goal.returns
returns c =
    let front = c.args.front.now in
    let rest = c.args.rest.now in
    c.write.ensures
    ∙ ap (λ p. take (length front) p ++ rest ++ drop (length front + length rest) p) c.write_first.ensures
    ∙ written front rest c.args.place.now
