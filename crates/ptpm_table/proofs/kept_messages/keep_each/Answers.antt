use Rattle.std.proofs.Common.{◌∙◌, ◌≤◌, ap, arith, length, map, subst, sym}
use Rattle.std.proofs.lemmas.List.{length-map}
use Rattle.ptpm_table.specs.KeptMessages.{envelope_of}
use Rattle.ptpm_table.specs.Sending.{AreSmall, all_octets}
use Rattle.ptpm_table.proofs.SentLaws.{all_room, count_of, each_room, each_small, message_at, sent_back, sent_encoded, sent_kept, sent_messages}
use Rattle.ptpm_table.proofs.kept_messages.keep_each.Goals as goal

pub copy_all-requires-clause-small : goal.copy_all-requires-clause-small
copy_all-requires-clause-small g c =
    let x = c.args.exchange.now in
    let s = c.requires.sent.1 in
    let each = sent_encoded x c.args.heard.now c.args.of_port _ c.requires.sent.0 c.requires.asks c.requires.copy s in
    subst AreSmall (sym (sent_messages x c.args.heard.now c.args.of_port _ c.requires.sent.0 s))
    (each_small c.args.of_port (envelope_of x) c.args.heard.now s.ingress c.requires.sent.0.answers each)

pub copy_all-requires-clause-room : goal.copy_all-requires-clause-room
copy_all-requires-clause-room g c =
    let x = c.args.exchange.now in
    let s = c.requires.sent.1 in
    let same = ap length (sent_messages x c.args.heard.now c.args.of_port _ c.requires.sent.0 s) in
    let few : length c.requires.sent.0.answers ≤ c.args.kept.now.most = omega (
      arith,
      c.requires.few,
      same,
      count_of (g.O.Outgoing.sent c.args.out.now),
      length-map c.requires.sent.0.answers (message_at (envelope_of x) c.args.heard.now s.ingress),
    ) in
    let room = all_room c.args.of_port _ _ _ s.count c.requires.least few (each_room c.args.of_port (envelope_of x) c.args.heard.now s.ingress c.requires.sent.0.answers
    (sent_encoded x c.args.heard.now c.args.of_port _ c.requires.sent.0 c.requires.asks c.requires.copy s)) in
    let octets = ap (λ ms. length (all_octets ms)) (sent_messages x c.args.heard.now c.args.of_port _ c.requires.sent.0 s) in
    omega (arith, room, octets)

pub returns-clause-kept : goal.returns-clause-kept
returns-clause-kept g c =
    let x = c.args.exchange.now in
    let s = c.requires.sent.1 in
    let each = sent_encoded x c.args.heard.now c.args.of_port _ c.requires.sent.0 c.requires.asks c.requires.copy s in
    let same = sent_messages x c.args.heard.now c.args.of_port _ c.requires.sent.0 s in
    sent_kept c.args.of_port (envelope_of x) c.args.heard.now s.ingress c.requires.sent.0.answers _ _ each
    (c.copy_all.ensures.sizes ∙ ap (map length) same)
    (c.copy_all.ensures.messages ∙ ap all_octets same)

pub returns-clause-answers : goal.returns-clause-answers
returns-clause-answers g c = λ r s.
    let x = c.args.exchange.now in
    let each = sent_encoded x c.args.heard.now c.args.of_port _ r c.requires.asks c.requires.copy s in
    let same = sent_messages x c.args.heard.now c.args.of_port _ r s in
    sent_back c.args.of_port (envelope_of x) c.args.heard.now s.ingress r.answers _ _ each
    (c.copy_all.ensures.sizes ∙ ap (map length) same)
    (c.copy_all.ensures.messages ∙ ap all_octets same)
