use Rattle.std.proofs.Common.{arith, sym, ◌∙◌, ◌≤◌, ap, length, refl, subst, true, get_or}
use Rattle.std.specs.FinMap.{from_entries, insert}
use Rattle.std.proofs.lemmas.List.Quantifiers.{position-Some}
use Rattle.ptpm_codec.specs.declared.identity.ClockIdentity.{ClockIdentity}
use Rattle.ptpm_codec.specs.Identity.{identity_cmp, same_identity}
use Rattle.ptpm_table.specs.KeptMessages.{KeptValue}
use Rattle.ptpm_table.specs.Sending.{IsSentReply}
use Rattle.ptpm_table.specs.Slots.{used}
use Rattle.ptpm_table.specs.declared.slot.Slot.{Slot}
use Rattle.ptpm_codec.proofs.MessageLaws.{same_identity-true}
use Rattle.ptpm_table.specs.Entries.{Entry}
use Rattle.ptpm_table.proofs.LendingLaws.{few_set, keepable_set, room_at, room_set, sent_count, sent_fits}
use Rattle.ptpm_table.proofs.Slots.{clock_at, clocks_set, configured_set, entries_set, has_place}
use Rattle.ptpm_table.proofs.slot_list.put_sent.Goals as goal

pub keep_sent-requires-clause-manager : goal.keep_sent-requires-clause-manager
keep_sent-requires-clause-manager g c = grind (arith, get_or, position-Some, same_identity-true)

pub keep_sent-requires-clause-sent : goal.keep_sent-requires-clause-sent
keep_sent-requires-clause-sent g c =
    let p = position-Some (λ (s : Slot). same_identity c.args.heard.now.source s.kept.manager) c.args.slots.now c.in-Some.place c.index-slots-place.result (sym c.in-Some.ensures) in
    let is = clock_at c.requires.sent.0 c.args.slots.now c.in-Some.place c.index-slots-place.result p.0 c.requires.sent.2 in
    (c.requires.sent.1, subst (λ (k : ClockIdentity). IsSentReply k c.args.heard.now c.args.request.now.action c.args.request.now.id c.args.of_port (g.O.Outgoing.sent c.args.out.now) c.requires.sent.1) (sym is) c.requires.sent.3)

pub returns-in-Some-clause-entries : goal.returns-in-Some-clause-entries
returns-in-Some-clause-entries g c = λ clock r own s.
    let new : Slot = record { rights = (get_or c.args.slots.now c.in-Some.place c.index-slots-place.result).rights; taken = true; kept = c.keep_sent.new.self } in
    let p = position-Some (λ (s : Slot). same_identity c.args.heard.now.source s.kept.manager) c.args.slots.now c.in-Some.place c.index-slots-place.result (sym c.in-Some.ensures) in
    let is = clock_at clock c.args.slots.now c.in-Some.place c.index-slots-place.result p.0 own in
    let kept = c.keep_sent.ensures r (subst (λ (k : ClockIdentity). IsSentReply k c.args.heard.now c.args.request.now.action c.args.request.now.id c.args.of_port (g.O.Outgoing.sent c.args.out.now) r) (sym is) s) in
    entries_set c.args.heard.now.source c.args.slots.now c.in-Some.place c.index-slots-place.result new c.requires.distinct p.0 p.1
    (ap (λ (k : KeptValue). k.manager) kept) refl refl
    ∙ ap (λ (k : KeptValue). insert (from_entries {R = identity_cmp} (used c.args.slots.now)) c.args.heard.now.source k.entry) kept

pub returns-in-Some-clause-configured : goal.returns-in-Some-clause-configured
returns-in-Some-clause-configured g c =
    let new : Slot = record { rights = (get_or c.args.slots.now c.in-Some.place c.index-slots-place.result).rights; taken = true; kept = c.keep_sent.new.self } in
    let p = position-Some (λ (s : Slot). same_identity c.args.heard.now.source s.kept.manager) c.args.slots.now c.in-Some.place c.index-slots-place.result (sym c.in-Some.ensures) in
    let kept = c.keep_sent.ensures c.requires.sent.1 (subst (λ (k : ClockIdentity). IsSentReply k c.args.heard.now c.args.request.now.action c.args.request.now.id c.args.of_port (g.O.Outgoing.sent c.args.out.now) c.requires.sent.1)
    (sym (clock_at c.requires.sent.0 c.args.slots.now c.in-Some.place c.index-slots-place.result p.0 c.requires.sent.2)) c.requires.sent.3) in
    configured_set c.args.slots.now c.in-Some.place c.index-slots-place.result new p.0 (ap (λ (k : KeptValue). k.manager) kept) refl

pub returns-in-Some-clause-clocks : goal.returns-in-Some-clause-clocks
returns-in-Some-clause-clocks g c =
    let p = position-Some (λ (s : Slot). same_identity c.args.heard.now.source s.kept.manager) c.args.slots.now c.in-Some.place c.index-slots-place.result (sym c.in-Some.ensures) in
    let new : Slot = record { rights = (get_or c.args.slots.now c.in-Some.place c.index-slots-place.result).rights; taken = true; kept = c.keep_sent.new.self } in
    let kept = c.keep_sent.ensures c.requires.sent.1 (subst (λ (k : ClockIdentity). IsSentReply k c.args.heard.now c.args.request.now.action c.args.request.now.id c.args.of_port (g.O.Outgoing.sent c.args.out.now) c.requires.sent.1)
    (sym (clock_at c.requires.sent.0 c.args.slots.now c.in-Some.place c.index-slots-place.result p.0 c.requires.sent.2)) c.requires.sent.3) in
    clocks_set c.args.slots.now c.in-Some.place c.index-slots-place.result new p.0 (ap (λ (k : KeptValue). k.clock) kept)

pub returns-in-Some-clause-keepable : goal.returns-in-Some-clause-keepable
returns-in-Some-clause-keepable g c =
    let r = c.requires.sent.1 in
    let own = c.requires.sent.3 in
    let p = position-Some (λ (s : Slot). same_identity c.args.heard.now.source s.kept.manager) c.args.slots.now c.in-Some.place c.index-slots-place.result (sym c.in-Some.ensures) in
    let new : Slot = record { rights = (get_or c.args.slots.now c.in-Some.place c.index-slots-place.result).rights; taken = true; kept = c.keep_sent.new.self } in
    let kept = c.keep_sent.ensures r (subst (λ (k : ClockIdentity). IsSentReply k c.args.heard.now c.args.request.now.action c.args.request.now.id c.args.of_port (g.O.Outgoing.sent c.args.out.now) r)
    (sym (clock_at c.requires.sent.0 c.args.slots.now c.in-Some.place c.index-slots-place.result p.0 c.requires.sent.2)) own) in
    let e : Entry = record { number = c.args.heard.now.number; request = c.args.request.now; reply = r } in
    keepable_set c.args.slots.now c.in-Some.place new e (ap (λ (k : KeptValue). k.entry) kept)
    (record {
      action = c.requires.action;
      octets = c.requires.octets;
      fits = sent_fits c.requires.sent.0 c.args.heard.now c.args.request.now c.args.of_port (g.O.Outgoing.sent c.args.out.now) r own;
    })

pub keep_sent-requires-clause-few : goal.keep_sent-requires-clause-few
keep_sent-requires-clause-few g c =
    let p = position-Some (λ (s : Slot). same_identity c.args.heard.now.source s.kept.manager) c.args.slots.now c.in-Some.place c.index-slots-place.result (sym c.in-Some.ensures) in
    omega (arith, c.requires.few.2, room_at c.requires.few.0 c.args.slots.now c.in-Some.place c.index-slots-place.result c.requires.few.1 p.0)

pub returns-in-Some-clause-few : goal.returns-in-Some-clause-few
returns-in-Some-clause-few g c = λ most few.
    let r = c.requires.sent.1 in
    let own = c.requires.sent.3 in
    let p = position-Some (λ (s : Slot). same_identity c.args.heard.now.source s.kept.manager) c.args.slots.now c.in-Some.place c.index-slots-place.result (sym c.in-Some.ensures) in
    let new : Slot = record { rights = (get_or c.args.slots.now c.in-Some.place c.index-slots-place.result).rights; taken = true; kept = c.keep_sent.new.self } in
    let kept = c.keep_sent.ensures r (subst (λ (k : ClockIdentity). IsSentReply k c.args.heard.now c.args.request.now.action c.args.request.now.id c.args.of_port (g.O.Outgoing.sent c.args.out.now) r)
    (sym (clock_at c.requires.sent.0 c.args.slots.now c.in-Some.place c.index-slots-place.result p.0 c.requires.sent.2)) own) in
    let count = sent_count c.requires.sent.0 c.args.heard.now c.args.request.now c.args.of_port (g.O.Outgoing.sent c.args.out.now) r own in
    few_set most c.args.slots.now c.in-Some.place new
    (subst (λ (k : KeptValue). length k.entry.reply.answers ≤ most) (sym kept) (omega (arith, count, few)))

pub returns-in-Some-clause-rooms : goal.returns-in-Some-clause-rooms
returns-in-Some-clause-rooms g c = λ most rooms.
    let p = position-Some (λ (s : Slot). same_identity c.args.heard.now.source s.kept.manager) c.args.slots.now c.in-Some.place c.index-slots-place.result (sym c.in-Some.ensures) in
    let new : Slot = record { rights = (get_or c.args.slots.now c.in-Some.place c.index-slots-place.result).rights; taken = true; kept = c.keep_sent.new.self } in
    let kept = c.keep_sent.ensures c.requires.sent.1 (subst (λ (k : ClockIdentity). IsSentReply k c.args.heard.now c.args.request.now.action c.args.request.now.id c.args.of_port (g.O.Outgoing.sent c.args.out.now) c.requires.sent.1)
    (sym (clock_at c.requires.sent.0 c.args.slots.now c.in-Some.place c.index-slots-place.result p.0 c.requires.sent.2)) c.requires.sent.3) in
    room_set most c.args.slots.now c.in-Some.place new
    (subst (λ n. most ≤ n) (sym (ap (λ (k : KeptValue). k.most) kept)) (room_at most c.args.slots.now c.in-Some.place c.index-slots-place.result rooms p.0))
    rooms

pub returns-in_default-clause-entries : goal.returns-in_default-clause-entries
returns-in_default-clause-entries g c = absurd (has_place c.args.heard.now.source c.args.slots.now c.requires.known (sym c.in_default.ensures))
