use Rattle.std.proofs.Common.{◌≡◌, ◌≤◌, ◌∙◌, ◌++◌, ℕ, Bool, List, ap, arith, length, nat_lt, rules, sym, take}
use Rattle.std.proofs.lemmas.Bool.Decides.{nat_tests}
use Rattle.std.proofs.lemmas.List.{length-map, length-take-le}
use Rattle.ptpm_agent.specs.Forwarding.{copies_if}
use Rattle.ptpm_host.specs.Answers.{answer_in, answers_in, egress_if, most_replied}
use Rattle.ptpm_host.specs.Clock.{clock_in, state_in}
use Rattle.ptpm_host.proofs.MostSent.{replies_no_more}
use Rattle.ptpm_host.proofs.Sharing.{egress_same}
use Rattle.ptpm_host.proofs.clock.HostedClock.handle_shared.Goals as goal

pub reply_into-verdict-requires-clause-room : goal.reply_into-verdict-requires-clause-room
reply_into-verdict-requires-clause-room c =
    let enough : most_replied (state_in c.args.self.now) ≤ length c.args.room.now = first_of (grind (arith, nat_tests), search rules) in
    omega (
      arith,
      replies_no_more (clock_in c.args.self.now).clock (state_in c.args.self.now) c.args.port c.args.datagram.now c.sent_law.ensures.sized,
      enough,
      ap (λ places. length places) c.new-places.ensures.room,
    )

pub returns-clause-turned : goal.returns-clause-turned
returns-clause-turned c =
    let call = c.reply_into-verdict in
    let p = call.new.out in
    let sets = c.args.self.now.agent.sets in
    let sent = c.pass_on-ports.ensures in
    let here : c.room-1.given.0 ≡ p.room.now = search rules in
    let told : nat_lt 0 c.pass_on-ports.result.1 ≡ call.result.1 = search rules in
    let ports : c.pass_on-ports.result.0 ≡ egress_if call.result.1 c.args.port call.new.self.sets = search rules in
    let counted : c.count-count.result ≡ p.count = omega (
      arith,
      c.count-count.ensures,
      length-map {B = ℕ × List ℕ} (take p.count p.room.now) answer_in,
      length-take-le p.count p.room.now p.few,
    ) in
    record {
      verdict_is = call.ensures.turned.verdict_is;
      messages_are = (λ i. copies_if (told i) c.args.port sets c.args.datagram.now ++ answers_in (take (counted i) (here i))) ∙ call.ensures.turned.outbox_is;
      ports_are = ports ∙ egress_same call.result.1 c.args.port sets call.new.self.sets call.ensures.sets ∙ sym (ap (λ (b : Bool). egress_if b c.args.port sets) told);
      copy_is = sent.copy;
      stays = sent.stays;
      sets_are = call.ensures.turned.sets_are;
      entries_are = call.ensures.turned.entries_are;
    }
