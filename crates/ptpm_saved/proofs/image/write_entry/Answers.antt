use Rattle.std.proofs.Common.{[], ◌∷◌, ◌∙◌, ap, arith, length}
use Rattle.ptpm_saved.specs.Image.{answers_image, over}
use Rattle.ptpm_saved.proofs.ImageLemmas.{entry_length, entry_parts}
use Rattle.ptpm_saved.proofs.WrittenLemmas.{four_written}
use Rattle.ptpm_saved.proofs.image.write_entry.Goals as goal

pub write-first-requires : goal.write-first-requires
write-first-requires c =
    omega (
      arith,
      entry_length c.args.entry.now c.request-request.result c.front.result.items c.request-request.ensures c.front.ensures.items,
      ap length c.as_slice.ensures.value,
      c.requires.room,
    )

pub write_field-second-requires : goal.write_field-second-requires
write_field-second-requires c =
    omega (
      arith,
      entry_length c.args.entry.now c.request-request.result c.front.result.items c.request-request.ensures c.front.ensures.items,
      ap length c.as_slice.ensures.value,
      c.requires.room,
      c.write-first.ensures.end,
      c.write-first.auto.place,
    )

pub write-third-requires : goal.write-third-requires
write-third-requires c =
    omega (
      arith,
      entry_length c.args.entry.now c.request-request.result c.front.result.items c.request-request.ensures c.front.ensures.items,
      ap length c.as_slice.ensures.value,
      c.requires.room,
      c.write-first.ensures.end,
      c.write-first.auto.place,
      c.write_field-second.ensures.end,
      c.write_field-second.auto.place,
    )

pub write_answers-requires-clause-room : goal.write_answers-requires-clause-room
write_answers-requires-clause-room c =
    omega (
      arith,
      entry_length c.args.entry.now c.request-request.result c.front.result.items c.request-request.ensures c.front.ensures.items,
      ap length c.as_slice.ensures.value,
      c.requires.room,
      c.write-first.ensures.end,
      c.write-first.auto.place,
      c.write_field-second.ensures.end,
      c.write_field-second.auto.place,
      c.write-third.ensures.end,
      c.write-third.auto.place,
    )

pub returns-clause-end : goal.returns-clause-end
returns-clause-end c =
    omega (
      arith,
      entry_length c.args.entry.now c.request-request.result c.front.result.items c.request-request.ensures c.front.ensures.items,
      ap length c.as_slice.ensures.value,
      c.write-first.ensures.end,
      c.write_field-second.ensures.end,
      c.write-third.ensures.end,
      c.write_answers.ensures.end,
    )

pub returns-clause-place : goal.returns-clause-place
returns-clause-place c =
    let e = c.args.entry.now.entry in
    let q = c.request-request.result in
    let p = c.args.place.now in
    let at = c.args.at in
    let front = c.front.result.items in
    four_written front q.octets (length e.reply.answers ∷ []) (answers_image e.reply.answers) p c.write-first.new.place c.write_field-second.new.place
    c.write-third.new.place c.write_answers.new.place at c.write-first.result c.write_field-second.result c.write-third.result
    (c.write-first.ensures.place ∙ ap (λ xs. over at xs p) c.as_slice.ensures.value)
    (omega (arith, c.write-first.ensures.end, ap length c.as_slice.ensures.value))
    c.write_field-second.ensures.place c.write_field-second.ensures.end
    (c.write-third.ensures.place ∙ ap (λ n. over c.write_field-second.result (n ∷ []) c.write_field-second.new.place) c.answer_count.ensures)
    c.write-third.ensures.end
    c.write_answers.ensures.place
    (omega (
      arith,
      entry_length c.args.entry.now q front c.request-request.ensures c.front.ensures.items,
      ap length c.as_slice.ensures.value,
      c.requires.room,
      c.write-first.ensures.end,
      c.write_field-second.ensures.end,
      c.write-third.ensures.end,
    ))
    ∙ ap (λ xs. over at xs p) (entry_parts c.args.entry.now q front c.request-request.ensures c.front.ensures.items)
