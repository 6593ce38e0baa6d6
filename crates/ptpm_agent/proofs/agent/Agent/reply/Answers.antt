use Rattle.std.proofs.Common.{arith, ◌≡◌, ◌++◌, ◌∙◌, ap, length, rules, sym}
use Rattle.ptpm_codec.specs.Message.{reply_action}
use Rattle.ptpm_data.specs.Replies.{read_reply_to}
use Rattle.ptpm_data.proofs.Answering.{read_reply_to-parts}
use Rattle.ptpm_table.specs.Rendering.{rendered}
use Rattle.ptpm_agent.specs.Addressing.{heard_of, request_of}
use Rattle.ptpm_agent.specs.Agent.{state_of}
use Rattle.ptpm_agent.specs.Turn.{reply_by, reply_messages}
use Rattle.ptpm_agent.specs.declared.verdict.Verdict.{Verdict}
use Rattle.ptpm_agent.proofs.MostSent.{rendered_count}
use Rattle.ptpm_agent.proofs.SentReplies.{sent_rendered}
use Rattle.ptpm_agent.proofs.Turns.{unnumbered_parts}
use Rattle.ptpm_agent.proofs.agent.Agent.reply.Goals as goal

pub read_into-requires-clause-action : goal.read_into-requires-clause-action
read_into-requires-clause-action g c = grind (arith, unnumbered_parts)

pub read_into-requires-clause-port : goal.read_into-requires-clause-port
read_into-requires-clause-port g c = grind (arith, unnumbered_parts)

pub read_into-requires-clause-room : goal.read_into-requires-clause-room
read_into-requires-clause-room g c =
    let clock = g.T.ReplyTable.owner c.args.self.now.table in
    let state = state_of g.T.ReplyTable.entries c.args.self.now in
    let v = c.args.message.now in
    let sets = c.args.self.now.sets in
    let reply = λ (w : Verdict). length (reply_messages clock c.args.ingress (heard_of v) (reply_by w clock state v)) in
    omega (
      arith,
      ap reply c.in-AnsweredUnnumbered.is,
      rendered_count clock.identity (heard_of v) (read_reply_to (request_of v) sets) c.args.ingress,
      ap (λ q. length (read_reply_to q sets).answers) c.request_of-request.ensures,
      ap (λ r. length (g.O.Outgoing.sent r.now)) c.address.ensures.place,
      ap (λ o. length (g.O.Outgoing.sent o)) c.new-sender.ensures.held,
      ap (λ r. g.O.Outgoing.most r.now) c.address.ensures.place,
      ap g.O.Outgoing.most c.new-sender.ensures.held,
      c.requires.room,
    )

pub returns-in-AnsweredUnnumbered-clause-sent : goal.returns-in-AnsweredUnnumbered-clause-sent
returns-in-AnsweredUnnumbered-clause-sent g c =
    let clock = g.T.ReplyTable.owner c.args.self.now.table in
    let state = state_of g.T.ReplyTable.entries c.args.self.now in
    let q = c.request_of-request.result in
    let sets = c.args.self.now.sets in
    let sent : g.O.Outgoing.sent c.read_into.new.answers.out.now
    ≡ g.O.Outgoing.sent c.args.out.now
    ++ reply_messages clock c.args.ingress (heard_of c.args.message.now) (reply_by c.args.verdict clock state c.args.message.now) =
    sent_rendered g.O.Outgoing.sent g.O.Outgoing.grown c.address.new.self c.read_into.new.answers c.clock.result c.heard_of-heard.result (read_reply_to q sets)
    (reply_action q.action) q.id c.args.ingress (g.O.Outgoing.sent c.args.out.now) (read_reply_to-parts q sets)
    (record {
      held_is = grind arith;
      ingress_is = c.address.ensures.ingress;
      id_is = c.address.ensures.id;
      envelope_is = c.address.ensures.envelope;
      fits = c.address.ensures.fits;
    })
    c.read_into.ensures
    ∙ (λ i. g.O.Outgoing.sent c.args.out.now ++ rendered (c.clock.ensures i) (c.heard_of-heard.ensures i) (read_reply_to (c.request_of-request.ensures i) sets) c.args.ingress)
    ∙ ap (λ (w : Verdict). g.O.Outgoing.sent c.args.out.now ++ reply_messages clock c.args.ingress (heard_of c.args.message.now) (reply_by w clock state c.args.message.now))
    (sym c.in-AnsweredUnnumbered.is) in
    search (rules, sent)
