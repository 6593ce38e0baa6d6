use Rattle.std.proofs.Common.{◌≡◌, ◌-◌, ◌<◌, ◌∙◌, Some, ap, arith, get_or, length, slice_get, suc, subst, sym}
use Rattle.std.proofs.lemmas.List.Elements.{All-nil}
use Rattle.std.proofs.lemmas.Option.{slice_get-get_or}
use Rattle.ptpm_table.specs.InOrder.{AreLendable, IsLendable, entries_at, rank}
use Rattle.ptpm_table.proofs.InOrderLaws.{lendable_more, lendable_slot, none_left, placed, sorted_from}
use Rattle.ptpm_table.proofs.in_order.in_order.Goals as goal

pub loop-place-init : goal.loop-place-init
loop-place-init c =
    let slots = c.args.slots.now in
    record {
      entries = ap (entries_at slots) c.new-places.ensures ∙ sym (none_left slots);
      lendable = subst (AreLendable slots) (sym c.new-places.ensures) (All-nil (λ p. IsLendable (slice_get slots p)));
      count = omega (arith, ap length c.new-places.ensures);
    }

pub loop-place-preserved-then-slots-place : goal.loop-place-preserved-then-slots-place
loop-place-preserved-then-slots-place c =
    let slots = c.args.slots.now in
    let ps = c.loop-place.places.items in
    let n = c.loop-place.place - 1 in
    let s = get_or slots (c.loop-place.place - 1) c.index-slots-place.result in
    let inside : n < length slots = omega (arith, c.loop-place.auto.place, c.loop-place-test.true) in
    let at : slice_get slots n ≡ Some s = slice_get-get_or slots n c.index-slots-place.result inside in
    let next : c.loop-place.place ≡ suc n = omega (arith, c.loop-place-test.true) in
    let behind : entries_at slots ps ≡ sorted_from slots (suc n) = c.loop-place.invariant.entries ∙ ap (sorted_from slots) next in
    let put = c.insert_place.ensures.places s at in
    record {
      entries = ap (entries_at slots) put ∙ placed slots n s ps c.requires.distinct at c.if-slots-place.true c.loop-place.invariant.lendable behind;
      lendable = subst (AreLendable slots) (sym put)
          (lendable_more slots ps (rank s.kept.manager (entries_at slots ps)) n c.loop-place.invariant.lendable
          (lendable_slot slots n s c.requires.keepable at c.if-slots-place.true));
      count = omega (arith, c.insert_place.ensures.count, c.loop-place.invariant.count, c.loop-place-test.true);
    }
