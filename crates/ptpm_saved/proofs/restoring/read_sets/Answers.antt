use Rattle.std.proofs.Common.{◌∙◌, ◌∷◌, arith, length, sym}
use Rattle.std.proofs.lemmas.Bool.{false≢true}
use Rattle.ptpm_saved.specs.Image.{entries_image}
use Rattle.ptpm_saved.proofs.BodyLemmas.{begins, begun, body_is, front_is, image_long}
use Rattle.ptpm_saved.proofs.restoring.read_sets.Goals as goal

pub returns-then-image-lt-HEAD_OCTETS-clause-found : goal.returns-then-image-lt-HEAD_OCTETS-clause-found
returns-then-image-lt-HEAD_OCTETS-clause-found c = λ k is.
    absurd (let long = image_long k c.args.image.now is in omega (arith, long, c.if-image-lt-HEAD_OCTETS.true))

pub returns-then-not-is_head-clause-found : goal.returns-then-not-is_head-clause-found
returns-then-not-is_head-clause-found c = λ k is.
    let front = front_is k c.args.image.now c.split_at.result.0.now c.split_at.result.1.now is c.split_at.ensures.front c.split_at.ensures.back in
    absurd (false≢true (sym c.if-not-is_head.true ∙ c.is_head.ensures.1 front))

pub returns-clause-begun : goal.returns-clause-begun
returns-clause-begun c = λ yes.
    begun c.args.image.now c.split_at.result.0.now c.split_at.result.1.now c.restore.new.self (omega (arith, c.if-image-lt-HEAD_OCTETS.false))
    c.split_at.ensures.front c.split_at.ensures.back (c.is_head.ensures.0 c.if-not-is_head.false) (c.in_ok-is_first.ensures.image yes)

pub returns-clause-found : goal.returns-clause-found
returns-clause-found c = λ k is.
    c.in_ok-is_first.ensures.found k.sets is.saved.consistent is.saved.fits
    (begins k.sets c.split_at.result.1.now (length k.entries ∷ entries_image k.entries)
    (body_is k c.args.image.now c.split_at.result.1.now is c.split_at.ensures.back))
