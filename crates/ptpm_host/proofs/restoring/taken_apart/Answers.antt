use Rattle.std.proofs.Common.{arith, ◌≡◌, ◌∙◌, ◌≤◌, ◌<◌, ◌+◌, ◌%◌, ap, drop, length, sym, take, List, ℕ}
use Rattle.std.proofs.lemmas.Bool.{false≢true}
use Rattle.std.proofs.lemmas.Grind.{common_steps}
use Rattle.ptpm_saved.specs.SavingClock.{Datagram}
use Rattle.ptpm_host.specs.UnderWay.{IsUnderWayImage, may_be_under_way, under_way_front, under_way_image}
use Rattle.ptpm_host.proofs.UnderWay.{may_be_small}
use Rattle.ptpm_host.proofs.RestoredWith.{AreParts, put_together, taken_apart}
use Rattle.ptpm_host.proofs.restoring.taken_apart.Goals as goal

parts : (ports : ℕ) (x : Datagram) (clock image : List ℕ) → IsUnderWayImage ports x clock image → AreParts x clock image
parts ports x clock image there =
    let few : length x.1 < 65536 = omega (arith, may_be_small x.1 there.may_be) in
    taken_apart x clock image there.is_number few there.octets_are

pub returns-then-image-lt-FRONT_OCTETS-clause-found : goal.returns-then-image-lt-FRONT_OCTETS-clause-found
returns-then-image-lt-FRONT_OCTETS-clause-found c = λ x clock there.
    let p = parts c.args.ports x clock c.args.image.now there in
    absurd (omega (arith, p.long, c.if-image-lt-FRONT_OCTETS.true))

pub returns-then-not-is_front-clause-found : goal.returns-then-not-is_front-clause-found
returns-then-not-is_front-clause-found c = λ x clock there.
    let p = parts c.args.ports x clock c.args.image.now there in
    let front : c.split_at.result.0.now ≡ under_way_front ((4 + length c.split_at.result.1.now) % 4294967296) c.u16_at-port.result c.u16_at-count.result =
    c.split_at.ensures.front ∙ p.front
    ∙ (λ i. under_way_front ((4 + length (sym c.split_at.ensures.back i)) % 4294967296) (sym (c.u16_at-port.ensures ∙ p.port) i)
    (sym (c.u16_at-count.ensures ∙ p.count) i)) in
    false≢true (sym c.if-not-is_front.true ∙ c.is_front.ensures.1 front)

pub returns-then-rest-count-clause-found : goal.returns-then-rest-count-clause-found
returns-then-rest-count-clause-found c = λ x clock there.
    let p = parts c.args.ports x clock c.args.image.now there in
    absurd (omega (arith, p.fits, p.count, c.u16_at-count.ensures, ap (λ (l : List ℕ). length l) c.split_at.ensures.back, c.if-rest-count.true))

pub returns-then-port-eq0-clause-found : goal.returns-then-port-eq0-clause-found
returns-then-port-eq0-clause-found c = λ x clock there.
    let p = parts c.args.ports x clock c.args.image.now there in
    absurd (omega (arith, there.from_one, p.port, c.u16_at-port.ensures, c.if-port-eq0.true))

pub returns-then-ports-port-clause-found : goal.returns-then-ports-port-clause-found
returns-then-ports-port-clause-found c = λ x clock there.
    let p = parts c.args.ports x clock c.args.image.now there in
    absurd (omega (arith, there.port, p.port, c.u16_at-port.ensures, c.if-ports-port.true))

pub returns-then-not-may_be_under_way-clause-found : goal.returns-then-not-may_be_under_way-clause-found
returns-then-not-may_be_under_way-clause-found c = λ x clock there.
    let p = parts c.args.ports x clock c.args.image.now there in
    let message : c.split_at-2.result.0.now ≡ x.1 =
    c.split_at-2.ensures.front ∙ (λ i. take ((c.u16_at-count.ensures ∙ p.count) i) (c.split_at.ensures.back i)) ∙ p.message in
    false≢true (sym c.if-not-may_be_under_way.true ∙ c.may_be_under_way.ensures ∙ ap may_be_under_way message ∙ there.may_be)

pub returns-clause-opened : goal.returns-clause-opened
returns-clause-opened c =
    let image = c.args.image.now in
    let count = c.u16_at-count.result in
    let port = c.u16_at-port.result in
    let back = c.split_at.ensures.back in
    let front : take 16 image ≡ under_way_front ((4 + length (drop 16 image)) % 4294967296) port count =
    sym c.split_at.ensures.front ∙ c.is_front.ensures.0 c.if-not-is_front.false
    ∙ ap (λ (l : List ℕ). under_way_front ((4 + length l) % 4294967296) port count) back in
    let fits : count ≤ length (drop 16 image) = omega (arith, ap (λ (l : List ℕ). length l) back, c.if-rest-count.false) in
    let message = c.split_at-2.ensures.front ∙ ap (take count) back in
    let clock = c.split_at-2.ensures.back ∙ ap (drop count) back in
    record {
      from_one = grind (arith, common_steps);
      port = grind (arith, common_steps);
      is_number = grind (arith, common_steps);
      may_be = sym c.may_be_under_way.ensures ∙ c.if-not-may_be_under_way.false;
      octets_are = put_together image port count front fits ∙ (λ i. under_way_image (port, sym message i) (sym clock i));
    }

pub returns-clause-found : goal.returns-clause-found
returns-clause-found c = λ x clock there.
    let p = parts c.args.ports x clock c.args.image.now there in
    let back = c.split_at.ensures.back in
    let port = c.u16_at-port.ensures ∙ p.port in
    let count = c.u16_at-count.ensures ∙ p.count in (
      (λ i. (port i, (c.split_at-2.ensures.front ∙ (λ j. take (count j) (back j)) ∙ p.message) i)),
      c.split_at-2.ensures.back ∙ (λ j. drop (count j) (back j)) ∙ p.clock_is,
    )
