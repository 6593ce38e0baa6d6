use Rattle.std.proofs.Common.{arith, sym, ◌∙◌, ◌≤◌, ap, length, map, refl, subst, true, get_or}
use Rattle.std.specs.FinMap.{from_entries, insert}
use Rattle.std.proofs.lemmas.List.{length-map}
use Rattle.std.proofs.lemmas.List.Quantifiers.{position-Some}
use Rattle.ptpm_codec.specs.Identity.{identity_cmp, same_identity}
use Rattle.ptpm_table.specs.KeptMessages.{KeptValue}
use Rattle.ptpm_table.specs.Slots.{used}
use Rattle.ptpm_table.specs.declared.slot.Slot.{Slot}
use Rattle.ptpm_data.specs.Reply.{answer_of}
use Rattle.ptpm_table.specs.Entries.{Entry, reply_with}
use Rattle.ptpm_table.proofs.LendingLaws.{few_set, keepable_set, room_at, room_set}
use Rattle.ptpm_table.proofs.Slots.{clocks_set, configured_set, entries_set, has_place}
use Rattle.ptpm_table.proofs.slot_list.put.Goals as goal

pub returns-in-Some-clause-entries : goal.returns-in-Some-clause-entries
returns-in-Some-clause-entries c =
    let old : Slot = get_or c.args.slots.now c.in-Some.place c.index-slots-place.result in
    let new : Slot = record { rights = old.rights; taken = true; kept = c.replace.new.self } in
    let p = position-Some (λ (s : Slot). same_identity c.args.who.now s.kept.manager) c.args.slots.now c.in-Some.place c.index-slots-place.result (sym c.in-Some.ensures) in
    entries_set c.args.who.now c.args.slots.now c.in-Some.place c.index-slots-place.result new c.requires.distinct p.0 p.1
    (ap (λ (k : KeptValue). k.manager) c.replace.ensures) refl refl
    ∙ ap (λ (k : KeptValue). insert (from_entries {R = identity_cmp} (used c.args.slots.now)) c.args.who.now k.entry) c.replace.ensures

pub returns-in-Some-clause-configured : goal.returns-in-Some-clause-configured
returns-in-Some-clause-configured c = grind (arith, get_or, position-Some, configured_set)

pub returns-in-Some-clause-clocks : goal.returns-in-Some-clause-clocks
returns-in-Some-clause-clocks c = grind (arith, get_or, position-Some, clocks_set)

pub returns-in-Some-clause-keepable : goal.returns-in-Some-clause-keepable
returns-in-Some-clause-keepable c =
    let e : Entry = record { number = c.args.number; request = c.args.request.now; reply = reply_with c.args.request.now (map answer_of c.args.answers.now) } in
    keepable_set c.args.slots.now c.in-Some.place
    (record { rights = (get_or c.args.slots.now c.in-Some.place c.index-slots-place.result).rights; taken = true; kept = c.replace.new.self }) e
    (ap (λ (k : KeptValue). k.entry) c.replace.ensures)
    (record { action = c.requires.action; octets = c.requires.octets; fits = c.requires.fits })

pub replace-requires-clause-few : goal.replace-requires-clause-few
replace-requires-clause-few c =
    let p = position-Some (λ (s : Slot). same_identity c.args.who.now s.kept.manager) c.args.slots.now c.in-Some.place c.index-slots-place.result (sym c.in-Some.ensures) in
    omega (arith, c.requires.few.2, room_at c.requires.few.0 c.args.slots.now c.in-Some.place c.index-slots-place.result c.requires.few.1 p.0)

pub returns-in-Some-clause-few : goal.returns-in-Some-clause-few
returns-in-Some-clause-few c = λ most few.
    few_set most c.args.slots.now c.in-Some.place
    (record { rights = (get_or c.args.slots.now c.in-Some.place c.index-slots-place.result).rights; taken = true; kept = c.replace.new.self })
    (subst (λ (k : KeptValue). length k.entry.reply.answers ≤ most) (sym c.replace.ensures) (omega (arith, few, length-map c.args.answers.now answer_of)))

pub returns-in-Some-clause-rooms : goal.returns-in-Some-clause-rooms
returns-in-Some-clause-rooms c = λ most rooms.
    let p = position-Some (λ (s : Slot). same_identity c.args.who.now s.kept.manager) c.args.slots.now c.in-Some.place c.index-slots-place.result (sym c.in-Some.ensures) in
    room_set most c.args.slots.now c.in-Some.place
    (record { rights = (get_or c.args.slots.now c.in-Some.place c.index-slots-place.result).rights; taken = true; kept = c.replace.new.self })
    (subst (λ n. most ≤ n) (sym (ap (λ (k : KeptValue). k.most) c.replace.ensures)) (room_at most c.args.slots.now c.in-Some.place c.index-slots-place.result rooms p.0))
    rooms

pub returns-in_default-clause-entries : goal.returns-in_default-clause-entries
returns-in_default-clause-entries c = absurd (has_place c.args.who.now c.args.slots.now c.requires.known (sym c.in_default.ensures))
