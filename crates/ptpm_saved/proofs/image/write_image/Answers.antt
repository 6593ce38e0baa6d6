use Rattle.std.proofs.Common.{◌≡◌, ◌+◌, ◌*◌, ◌-◌, ◌≤◌, ◌∙◌, ⊎_elim, inl, inr, List, [], ◌∷◌, ℕ, ap, arith, length, sym}
use Rattle.std.specs.FinMap.{entries, len-entries}
use Rattle.ptpm_data.specs.Image.{data_sets_octets}
use Rattle.ptpm_agent.specs.Agent.{state_of}
use Rattle.ptpm_manager.specs.Image.{image_head}
use Rattle.ptpm_saved.specs.declared.image.TheConstants.{ENTRY_OCTETS}
use Rattle.ptpm_saved.specs.Image.{clock_image, entries_image, widest, over}
use Rattle.ptpm_saved.proofs.ImageLemmas.{has_room, head_length, put_together, sets_small, size_is, widest_is}
use Rattle.ptpm_saved.proofs.WrittenLemmas.{all_written}
use Rattle.ptpm_saved.proofs.image.write_image.Goals as goal

pub write_sets-end-requires : goal.write_sets-end-requires
write_sets-end-requires g c =
    let s = state_of g.T.ReplyTable.entries c.args.agent.now in
    let m = g.T.ReplyTable.entries c.table-table.result.now in
    let room = has_room s c.sets-sets.result.now m c.sets-sets.ensures (ap g.T.ReplyTable.entries c.table-table.ensures)
    (length c.args.place.now) c.requires in
    omega (arith, room.before)

pub write-end-requires : goal.write-end-requires
write-end-requires g c =
    let s = state_of g.T.ReplyTable.entries c.args.agent.now in
    let m = g.T.ReplyTable.entries c.table-table.result.now in
    let room = has_room s c.sets-sets.result.now m c.sets-sets.ensures (ap g.T.ReplyTable.entries c.table-table.ensures)
    (length c.args.place.now) c.requires in
    omega (arith, room.before, c.write_sets-end.ensures.end, c.write_sets-end.auto.place)

pub write_entries-end-requires : goal.write_entries-end-requires
write_entries-end-requires g c =
    let s = state_of g.T.ReplyTable.entries c.args.agent.now in
    let m = g.T.ReplyTable.entries c.table-table.result.now in
    let sets : List ℕ = data_sets_octets c.sets-sets.result.now in
    let es : List ℕ = entries_image (entries m) in
    let room = has_room s c.sets-sets.result.now m c.sets-sets.ensures (ap g.T.ReplyTable.entries c.table-table.ensures)
    (length c.args.place.now) c.requires in
    ⊎_elim
    (λ (every : 12 + length sets + 1 + length (entries m) * ENTRY_OCTETS ≤ length c.args.place.now).
    inl (omega (arith, every, c.write_sets-end.ensures.end, c.write_sets-end.auto.place, c.write-end.ensures.end, c.write-end.auto.place)))
    (λ (own : 12 + length sets + 1 + length es ≤ length c.args.place.now).
    inr (omega (arith, own, c.write_sets-end.ensures.end, c.write_sets-end.auto.place, c.write-end.ensures.end, c.write-end.auto.place)))
    room.behind

pub returns-clause-size : goal.returns-clause-size
returns-clause-size g c =
    let s = state_of g.T.ReplyTable.entries c.args.agent.now in
    let m = g.T.ReplyTable.entries c.table-table.result.now in
    omega (
      arith,
      size_is s c.sets-sets.result.now m c.sets-sets.ensures (ap g.T.ReplyTable.entries c.table-table.ensures),
      c.write_sets-end.ensures.end,
      c.write-end.ensures.end,
      c.write_entries-end.ensures.end,
    )

pub returns-clause-place : goal.returns-clause-place
returns-clause-place g c =
    let s = state_of g.T.ReplyTable.entries c.args.agent.now in
    let t = c.table-table.result.now in
    let d = c.sets-sets.result.now in
    let m = g.T.ReplyTable.entries t in
    let p = c.args.place.now in
    let of_entries = ap g.T.ReplyTable.entries c.table-table.ensures in
    let room = has_room s d m c.sets-sets.ensures of_entries (length p) c.requires in
    let end = c.write_entries-end.result in
    let size : end ≡ length (clock_image s) = omega (
      arith,
      size_is s d m c.sets-sets.ensures of_entries,
      c.write_sets-end.ensures.end,
      c.write-end.ensures.end,
      c.write_entries-end.ensures.end,
    ) in
    all_written (image_head 1 (end - 12)) (data_sets_octets d) (c.entry_count.result ∷ []) (entries_image (entries m)) p
    c.write_sets-end.new.place c.write-end.new.place c.write_entries-end.new.place c.write.new.place 12 c.write_sets-end.result c.write-end.result
    c.write_sets-end.ensures.place c.write_sets-end.ensures.end c.write-end.ensures.place c.write-end.ensures.end
    c.write_entries-end.ensures.place
    (c.write.ensures.place ∙ ap (λ h. over 0 h c.write_entries-end.new.place) c.head.ensures)
    (sym (head_length 1 (end - 12)))
    (omega (arith, room.before, c.write_sets-end.ensures.end, c.write-end.ensures.end))
    ∙ ap (λ xs. over 0 xs p) (put_together s d m c.sets-sets.ensures of_entries end c.entry_count.result size
    (c.entry_count.ensures.count ∙ len-entries m))

pub head-requires : goal.head-requires
head-requires g c =
    omega (
      arith,
      c.write_sets-end.ensures.end,
      c.write-end.ensures.end,
      c.write_entries-end.ensures.small,
      c.write_entries-end.ensures.count,
      sets_small c.sets-sets.result.now c.data_sets_law.ensures.sized c.fits_law.ensures,
    )

pub write-requires : goal.write-requires
write-requires g c =
    let s = state_of g.T.ReplyTable.entries c.args.agent.now in
    let m = g.T.ReplyTable.entries c.table-table.result.now in
    let room = has_room s c.sets-sets.result.now m c.sets-sets.ensures (ap g.T.ReplyTable.entries c.table-table.ensures)
    (length c.args.place.now) c.requires in
    omega (
      arith,
      room.before,
      ap length c.head.ensures,
      head_length 1 (c.write_entries-end.result - 12),
      c.write_sets-end.auto.place,
      c.write-end.auto.place,
      c.write_entries-end.auto.place,
    )

pub returns-clause-room : goal.returns-clause-room
returns-clause-room g c =
    let s = state_of g.T.ReplyTable.entries c.args.agent.now in
    let m = g.T.ReplyTable.entries c.table-table.result.now in
    let d = c.sets-sets.result.now in
    let of_entries = ap g.T.ReplyTable.entries c.table-table.ensures in
    let size = size_is s d m c.sets-sets.ensures of_entries in
    let most = widest_is s d m c.sets-sets.ensures of_entries in
    ⊎_elim
    (λ (every : widest s ≤ length c.args.place.now).
    omega (arith, every, most, c.write_sets-end.ensures.end, c.write-end.ensures.end, c.write_entries-end.ensures.small))
    (λ (own : length (clock_image s) ≤ length c.args.place.now).
    omega (arith, own, size, c.write_sets-end.ensures.end, c.write-end.ensures.end, c.write_entries-end.ensures.end))
    c.requires
