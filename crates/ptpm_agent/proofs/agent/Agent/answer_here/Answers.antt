use Rattle.std.proofs.Common.{[], ◌≡◌, ◌∙◌, ap, rules, sym}
use Rattle.ptpm_codec.specs.Message.{reply_action}
use Rattle.ptpm_data.specs.Changed.{changed}
use Rattle.ptpm_data.specs.Members.{DataSetsValue}
use Rattle.ptpm_data.specs.Replies.{reply_to}
use Rattle.ptpm_data.specs.Rights.{all_rights}
use Rattle.ptpm_data.proofs.Answering.{reply_to-parts}
use Rattle.ptpm_table.specs.Rendering.{rendered}
use Rattle.ptpm_agent.specs.Addressing.{heard_of, request_of}
use Rattle.ptpm_agent.proofs.SentReplies.{sender_as_made, sent_rendered}
use Rattle.ptpm_agent.proofs.agent.Agent.answer_here.Goals as goal

pub returns-clause-members : goal.returns-clause-members
returns-clause-members g c =
    c.changes_of-members.ensures ∙ ap (λ (d : DataSetsValue). changed c.args.self.now.sets d) (sym c.decide_into.ensures.changed)

pub returns-clause-sent : goal.returns-clause-sent
returns-clause-sent g c =
    let clock = g.T.ReplyTable.owner c.args.self.now.table in
    let q = c.request_of-request.result in
    let heard = c.heard_of-heard.result in
    let sets = c.args.self.now.sets in
    let sent : g.O.Outgoing.sent c.decide_into.new.answers.out.now
    ≡ rendered clock.identity (heard_of c.args.message.now) (reply_to (request_of c.args.message.now) all_rights sets) c.args.ingress =
    sent_rendered g.O.Outgoing.sent g.O.Outgoing.grown c.address.new.self c.decide_into.new.answers clock.identity heard (reply_to q all_rights sets)
    (reply_action q.action) q.id c.args.ingress [] (reply_to-parts q all_rights sets)
    (sender_as_made g.O.Outgoing.sent c.address.new.self _ _ heard _ _ _ [] _ (ap (λ r. g.O.Outgoing.sent r.now) c.address.ensures.place ∙ ap g.O.Outgoing.sent c.new-sender.ensures.held) c.requires.empty
    c.address.ensures.ingress c.address.ensures.id c.address.ensures.envelope c.address.ensures.fits c.clock.ensures)
    c.decide_into.ensures.reply
    ∙ (λ i. rendered clock.identity (c.heard_of-heard.ensures i) (reply_to (c.request_of-request.ensures i) all_rights sets) c.args.ingress) in
    search (rules, sent)
