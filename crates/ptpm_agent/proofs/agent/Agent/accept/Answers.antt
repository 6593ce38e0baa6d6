use Rattle.std.proofs.Common.{arith, [], ◌≡◌, ◌≤◌, ◌∙◌, ℕ, List, ap, length, refl, rules}
use Rattle.std.specs.FinMap.{insert}
use Rattle.ptpm_codec.specs.Message.{reply_action}
use Rattle.ptpm_data.specs.Changes.{changed_by}
use Rattle.ptpm_data.specs.Replies.{reply_to}
use Rattle.ptpm_data.proofs.Answering.{new_few, reply_to-parts}
use Rattle.ptpm_table.specs.Rendering.{rendered}
use Rattle.ptpm_agent.specs.Addressing.{heard_of}
use Rattle.ptpm_agent.specs.Agent.{state_of}
use Rattle.ptpm_agent.specs.Turn.{new_reply}
use Rattle.ptpm_agent.proofs.SentReplies.{fits_numbered, sender_as_made, sent_rendered, sent_reply}
use Rattle.ptpm_agent.proofs.MostSent.{rendered_count}
use Rattle.ptpm_agent.proofs.Turns.{new_parts}
use Rattle.ptpm_agent.proofs.agent.Agent.accept.Goals as goal

pub decide_into-requires-clause-action : goal.decide_into-requires-clause-action
decide_into-requires-clause-action g c = grind (arith, new_parts)

pub decide_into-requires-clause-port : goal.decide_into-requires-clause-port
decide_into-requires-clause-port g c = grind (arith, new_parts)

pub keep_sent-requires-clause-known : goal.keep_sent-requires-clause-known
keep_sent-requires-clause-known g c = grind (arith, new_parts)

pub keep_sent-requires-clause-action : goal.keep_sent-requires-clause-action
keep_sent-requires-clause-action g c = grind (arith, new_parts)

pub keep_sent-requires-clause-sent : goal.keep_sent-requires-clause-sent
keep_sent-requires-clause-sent g c =
    let p = new_parts _ _ _ c.requires.new in
    let q = c.request_of-request.result in
    let heard = c.heard_of-heard.result in
    let reply = reply_to q c.args.rights c.args.self.now.sets in (
      reply,
      sent_reply g.O.Outgoing.sent g.O.Outgoing.grown q c.address.new.self c.decide_into.new.answers (g.T.ReplyTable.owner c.args.self.now.table).identity heard reply
          c.args.ingress c.of_port-of_port.result _
          (sender_as_made g.O.Outgoing.sent c.address.new.self _ _ heard _ _ _ [] _ (ap (λ r. g.O.Outgoing.sent r.now) c.address.ensures.place ∙ ap g.O.Outgoing.sent c.new-sender.ensures.held) c.requires.empty
          c.address.ensures.ingress c.address.ensures.id c.address.ensures.envelope c.address.ensures.fits c.clock.ensures)
          (fits_numbered q c.args.rights c.args.self.now.sets c.args.message.now reply
          c.request_of-request.ensures c.data_sets_law.ensures.sized p.request p.port c.requires.valid refl)
          c.decide_into.ensures.reply c.of_port-of_port.ensures (search rules),
    )

pub keep_sent-requires-clause-few : goal.keep_sent-requires-clause-few
keep_sent-requires-clause-few g c =
    let clock = g.T.ReplyTable.owner c.args.self.now.table in
    let q = c.request_of-request.result in
    let heard = c.heard_of-heard.result in
    let sets = c.args.self.now.sets in
    let reply = reply_to q c.args.rights sets in
    let sent : g.O.Outgoing.sent c.decide_into.new.answers.out.now ≡ rendered clock.identity heard reply c.args.ingress =
    sent_rendered g.O.Outgoing.sent g.O.Outgoing.grown c.address.new.self c.decide_into.new.answers clock.identity heard reply
    (reply_action q.action) q.id c.args.ingress [] (reply_to-parts q c.args.rights sets)
    (sender_as_made g.O.Outgoing.sent c.address.new.self _ _ heard _ _ _ [] _ (ap (λ r. g.O.Outgoing.sent r.now) c.address.ensures.place ∙ ap g.O.Outgoing.sent c.new-sender.ensures.held) c.requires.empty
    c.address.ensures.ingress c.address.ensures.id c.address.ensures.envelope c.address.ensures.fits c.clock.ensures)
    c.decide_into.ensures.reply in
    let count : length (g.O.Outgoing.sent c.decide_into.new.answers.out.now) ≤ g.T.ReplyTable.most c.args.self.now.table =
    omega (
      arith,
      ap (λ (xs : List (ℕ × List ℕ)). length xs) sent,
      rendered_count clock.identity heard reply c.args.ingress,
      new_few q c.args.rights sets c.data_sets_law.ensures.sized,
      c.args.self.now.room,
    ) in
    search (rules, count)

pub returns-clause-accepted : goal.returns-clause-accepted
returns-clause-accepted g c =
    let p = new_parts _ _ _ c.requires.new in
    let q = c.request_of-request.result in
    let sets = c.args.self.now.sets in
    let entries = g.T.ReplyTable.entries c.args.self.now.table in
    let heard = c.heard_of-heard.result in
    let reply = reply_to q c.args.rights sets in
    let fits = fits_numbered q c.args.rights sets c.args.message.now reply
    c.request_of-request.ensures c.data_sets_law.ensures.sized p.request p.port c.requires.valid refl in
    let sent = sent_reply g.O.Outgoing.sent g.O.Outgoing.grown q c.address.new.self c.decide_into.new.answers (g.T.ReplyTable.owner c.args.self.now.table).identity heard reply
    c.args.ingress c.of_port-of_port.result _
    (sender_as_made g.O.Outgoing.sent c.address.new.self _ _ heard _ _ _ [] _ (ap (λ r. g.O.Outgoing.sent r.now) c.address.ensures.place ∙ ap g.O.Outgoing.sent c.new-sender.ensures.held) c.requires.empty
    c.address.ensures.ingress c.address.ensures.id c.address.ensures.envelope c.address.ensures.fits c.clock.ensures)
    fits c.decide_into.ensures.reply c.of_port-of_port.ensures (search rules) in
    λ i. record {
      sets = (c.decide_into.ensures.changed ∙ (λ j. changed_by (c.request_of-request.ensures j) (c.requires.rights j) sets)) i;
      entries = (c.keep_sent.ensures.kept reply sent ∙ (λ j. insert entries (c.heard_of-heard.ensures j).source (record {
        number = (c.heard_of-heard.ensures j).number;
        request = c.request_of-request.ensures j;
        reply = reply_to (c.request_of-request.ensures j) (c.requires.rights j) sets;
      }))) i;
    }

pub returns-clause-sent : goal.returns-clause-sent
returns-clause-sent g c =
    let clock = g.T.ReplyTable.owner c.args.self.now.table in
    let q = c.request_of-request.result in
    let heard = c.heard_of-heard.result in
    let sets = c.args.self.now.sets in
    let sent : g.O.Outgoing.sent c.decide_into.new.answers.out.now
    ≡ rendered clock.identity (heard_of c.args.message.now) (new_reply clock (state_of g.T.ReplyTable.entries c.args.self.now) c.args.message.now) c.args.ingress =
    sent_rendered g.O.Outgoing.sent g.O.Outgoing.grown c.address.new.self c.decide_into.new.answers clock.identity heard (reply_to q c.args.rights sets)
    (reply_action q.action) q.id c.args.ingress [] (reply_to-parts q c.args.rights sets)
    (sender_as_made g.O.Outgoing.sent c.address.new.self _ _ heard _ _ _ [] _ (ap (λ r. g.O.Outgoing.sent r.now) c.address.ensures.place ∙ ap g.O.Outgoing.sent c.new-sender.ensures.held) c.requires.empty
    c.address.ensures.ingress c.address.ensures.id c.address.ensures.envelope c.address.ensures.fits c.clock.ensures)
    c.decide_into.ensures.reply
    ∙ (λ i. rendered clock.identity (c.heard_of-heard.ensures i) (reply_to (c.request_of-request.ensures i) (c.requires.rights i) sets) c.args.ingress) in
    search (rules, sent)
