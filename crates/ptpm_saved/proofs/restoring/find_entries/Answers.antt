use Rattle.std.proofs.Common.{◌∷◌, ◌∙◌, arith, drop, length, refl, subst, sym}
use Rattle.std.proofs.lemmas.Option.{same_Some}
use Rattle.ptpm_data.specs.Image.{BeginsWithImage, data_sets_octets}
use Rattle.ptpm_saved.specs.Image.{entries_image}
use Rattle.ptpm_saved.proofs.BodyLemmas.{back_is, body_is, image_long, nothing_behind, opened}
use Rattle.ptpm_saved.proofs.ReadingLemmas.{same_heads, same_tails}
use Rattle.ptpm_saved.proofs.restoring.find_entries.Goals as goal

pub returns-then-image-lt-HEAD_OCTETS-clause-found : goal.returns-then-image-lt-HEAD_OCTETS-clause-found
returns-then-image-lt-HEAD_OCTETS-clause-found c = λ k is.
    absurd (let long = image_long k c.args.image.now is in omega (arith, long, c.if-image-lt-HEAD_OCTETS.true))

pub returns-in_err-end-clause-found : goal.returns-in_err-end-clause-found
returns-in_err-end-clause-found c = λ k is.
    let body = body_is k c.args.image.now c.split_at.result.1.now is c.split_at.ensures.back in
    let none = c.in_err-end.ensures.found k.sets (length k.entries ∷ entries_image k.entries) is.saved.fits body in absurd (cc)

pub returns-in_err-count-clause-found : goal.returns-in_err-count-clause-found
returns-in_err-count-clause-found c = λ k is.
    let body = body_is k c.args.image.now c.split_at.result.1.now is c.split_at.ensures.back in
    let end = same_Some _ _ (c.in_ok-end.ensures.found k.sets (length k.entries ∷ entries_image k.entries) is.saved.fits body) in
    let back = back_is k k.sets c.split_at.result.1.now c.split_at-2.result.1.now c.in_ok-end.end refl body end c.split_at-2.ensures.back in
    absurd (nothing_behind c.split_at-2.result.1.now (entries_image k.entries) (length k.entries) back c.in_err-count.ensures.cases)

pub returns-clause-opened : goal.returns-clause-opened
returns-clause-opened c = λ d begun consistent fits.
    let body = c.split_at.result.1.now in
    let first : BeginsWithImage d body = subst (BeginsWithImage d) (sym c.split_at.ensures.back) begun.sets_first in
    let end = same_Some _ _ (c.in_ok-end.ensures.found d (drop (length (data_sets_octets d)) body) fits first) in
    opened c.args.image.now body c.split_at-2.result.1.now c.in_ok-count.octets.now d
    c.in_ok-count.count.now c.in_ok-end.end begun consistent fits
    c.split_at.ensures.back c.split_at-2.ensures.back end c.in_ok-count.ensures.cases.0

pub returns-clause-found : goal.returns-clause-found
returns-clause-found c = λ k is.
    let body = body_is k c.args.image.now c.split_at.result.1.now is c.split_at.ensures.back in
    let end = same_Some _ _ (c.in_ok-end.ensures.found k.sets (length k.entries ∷ entries_image k.entries) is.saved.fits body) in
    let back = back_is k k.sets c.split_at.result.1.now c.split_at-2.result.1.now c.in_ok-end.end refl body end c.split_at-2.ensures.back in
    let both = sym c.in_ok-count.ensures.cases.0 ∙ back in record {
      sets_are = refl;
      count_is = same_heads c.in_ok-count.count.now (length k.entries) c.in_ok-count.octets.now (entries_image k.entries) both;
      octets_are = same_tails c.in_ok-count.count.now (length k.entries) c.in_ok-count.octets.now (entries_image k.entries) both;
    }
