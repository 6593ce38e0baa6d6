use Rattle.std.proofs.Common.{◌≡◌, ◌+◌, ◌*◌, ◌<◌, ◌≤◌, ◌⊎◌, ℕ, ◌∙◌, ⊎_elim, ap, arith, length, sym, take}
use Rattle.std.proofs.lemmas.List.{take_all}
use Rattle.std.specs.FinMap.{entries}
use Rattle.ptpm_saved.specs.declared.image.TheConstants.{ENTRY_OCTETS}
use Rattle.ptpm_saved.specs.Image.{entries_image, entry_image, over}
use Rattle.ptpm_saved.proofs.ImageLemmas.{entry_given, entry_small, no_entries}
use Rattle.ptpm_saved.proofs.WrittenLemmas.{over_none, over_on}
use Rattle.ptpm_saved.proofs.image.write_entries.Goals as goal

-- one entry more is within the most of all
less_than_all : (i count : ℕ) → i < count → i * ENTRY_OCTETS + ENTRY_OCTETS ≤ count * ENTRY_OCTETS
less_than_all i count less = omega (arith, less)

room_for_one : (at end i count len one all done : ℕ)
    → i < count
    → one ≤ ENTRY_OCTETS
    → end ≤ at + i * ENTRY_OCTETS
    → end ≡ at + done
    → done + one ≤ all
    → (at + count * ENTRY_OCTETS ≤ len) ⊎ (at + all ≤ len)
    → end + one ≤ len
room_for_one at end i count len one all done inside small so_far ends fits =
    ⊎_elim (λ (every : at + count * ENTRY_OCTETS ≤ len). omega (arith, less_than_all i count inside, small, so_far, every)) (λ (own : at + all ≤ len). omega (arith, ends, fits, own))

pub loop-index-init : goal.loop-index-init
loop-index-init g c = record {
  place = sym (ap (λ xs. over c.args.at xs c.args.place.now) no_entries ∙ over_none c.args.at c.args.place.now);
  end = omega (arith, ap length no_entries);
  small = omega arith;
}

pub write_entry-end-requires-clause-room : goal.write_entry-end-requires-clause-room
write_entry-end-requires-clause-room g c =
    let es = entries (g.T.ReplyTable.entries c.args.table.now) in
    let i = c.loop-index.index in
    let x = c.entry.result in
    let given = entry_given es c.in_order-entries.result i (x.manager, x.entry) c.in_order-entries.ensures c.entry.ensures.entry in
    let room = room_for_one c.args.at c.loop-index.end i (length es) (length c.args.place.now)
    (length (entry_image (x.manager, x.entry))) (length (entries_image es)) (length (entries_image (take i es)))
    (omega (arith, c.loop-index-test.true, c.count-index-end.ensures.count, ap length c.in_order-entries.ensures))
    (entry_small x c.entry.ensures.keepable c.entry.ensures.fits) c.loop-index.invariant.small c.loop-index.invariant.end given.room c.requires in
    omega (arith, room, c.loop-index.auto.place)

pub loop-index-preserved : goal.loop-index-preserved
loop-index-preserved g c =
    let es = entries (g.T.ReplyTable.entries c.args.table.now) in
    let i = c.loop-index.index in
    let x = c.entry.result in
    let done = entries_image (take i es) in
    let one = entry_image (x.manager, x.entry) in
    let at = c.args.at in
    let first = c.args.place.now in
    let given = entry_given es c.in_order-entries.result i (x.manager, x.entry) c.in_order-entries.ensures c.entry.ensures.entry in
    let small = entry_small x c.entry.ensures.keepable c.entry.ensures.fits in
    let room = room_for_one at c.loop-index.end i (length es) (length first) (length one) (length (entries_image es))
    (length done) (omega (arith, c.loop-index-test.true, c.count-index-end.ensures.count, ap length c.in_order-entries.ensures))
    small c.loop-index.invariant.small c.loop-index.invariant.end given.room c.requires in
    record {
      place =
          c.write_entry-end.ensures.place ∙ ap (over c.loop-index.end one) c.loop-index.invariant.place
          ∙ over_on at c.loop-index.end done one first c.loop-index.invariant.end
          (omega (arith, room))
          ∙ ap (λ s. over at s first) (sym given.on);
      end = omega (arith, c.write_entry-end.ensures.end, c.loop-index.invariant.end, given.size);
      small = omega (arith, c.write_entry-end.ensures.end, c.loop-index.invariant.small, small);
    }

pub returns-clause-place : goal.returns-clause-place
returns-clause-place g c =
    let es = entries (g.T.ReplyTable.entries c.args.table.now) in
    let end : c.loop-index.index ≡ length es =
    omega (arith, c.loop-index-test.false, c.loop-index.auto.index-end, c.count-index-end.ensures.count, ap length c.in_order-entries.ensures) in
    c.loop-index.invariant.place
    ∙ ap (λ l. over c.args.at (entries_image l) c.args.place.now) (ap (λ n. take n es) end ∙ take_all (length es) es (omega arith))

pub returns-clause-end : goal.returns-clause-end
returns-clause-end g c =
    let es = entries (g.T.ReplyTable.entries c.args.table.now) in
    let end : c.loop-index.index ≡ length es =
    omega (arith, c.loop-index-test.false, c.loop-index.auto.index-end, c.count-index-end.ensures.count, ap length c.in_order-entries.ensures) in
    let all = ap (λ l. length (entries_image l)) (ap (λ n. take n es) end ∙ take_all (length es) es (omega arith)) in
    omega (arith, c.loop-index.invariant.end, all)

pub returns-clause-small : goal.returns-clause-small
returns-clause-small g c =
    let es = entries (g.T.ReplyTable.entries c.args.table.now) in
    let end : c.loop-index.index ≡ length es =
    omega (arith, c.loop-index-test.false, c.loop-index.auto.index-end, c.count-index-end.ensures.count, ap length c.in_order-entries.ensures) in
    omega (arith, c.loop-index.invariant.small, ap (λ n. n * ENTRY_OCTETS) end)

pub returns-clause-count : goal.returns-clause-count
returns-clause-count g c = omega (arith, c.count-index-end.ensures.count, c.count-index-end.ensures.few, ap length c.in_order-entries.ensures)
