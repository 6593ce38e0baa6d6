use Rattle.std.proofs.Common.{arith, ◌∙◌, ap, length}
use Rattle.ptpm_data.specs.Members.{DataSetsValue}
use Rattle.ptpm_data.specs.Replies.{reply_to}
use Rattle.ptpm_data.specs.Reply.{ReplyValue}
use Rattle.ptpm_data.proofs.Answering.{new_few}
use Rattle.ptpm_table.proofs.Fitting.{fitting_sendable}
use Rattle.ptpm_agent.proofs.SentReplies.{fits_numbered}
use Rattle.ptpm_agent.proofs.Turns.{new_parts}
use Rattle.ptpm_agent.proofs.agent.Agent.try_accept.Goals as goal

pub copy-sets-requires : goal.copy-sets-requires
copy-sets-requires g c = omega (arith, c.args.self.now.room, c.requires.small)

pub decide-reply-requires-clause-few : goal.decide-reply-requires-clause-few
decide-reply-requires-clause-few g c = omega (arith, c.args.self.now.room, c.requires.small, ap (λ (d : DataSetsValue). length d.ports) c.copy-sets.ensures)

pub decide-reply-requires-clause-action : goal.decide-reply-requires-clause-action
decide-reply-requires-clause-action g c = grind (arith, new_parts)

pub decide-reply-requires-clause-port : goal.decide-reply-requires-clause-port
decide-reply-requires-clause-port g c = grind (arith, new_parts)

pub keep-requires-clause-known : goal.keep-requires-clause-known
keep-requires-clause-known g c = grind (arith, new_parts)

pub keep-requires-clause-action : goal.keep-requires-clause-action
keep-requires-clause-action g c = grind (arith, new_parts)

pub keep-requires-clause-fits : goal.keep-requires-clause-fits
keep-requires-clause-fits g c =
    let p = new_parts _ _ _ c.requires.new in
    fits_numbered c.request_of-request.result c.args.rights c.args.self.now.sets c.args.message.now c.decide-reply.result
    c.request_of-request.ensures c.data_sets_law.ensures.sized p.request p.port c.requires.valid
    (c.decide-reply.ensures.reply ∙ ap (reply_to c.request_of-request.result c.args.rights) c.copy-sets.ensures)

pub keep-requires-clause-few : goal.keep-requires-clause-few
keep-requires-clause-few g c =
    let reply = c.decide-reply.ensures.reply ∙ ap (reply_to c.request_of-request.result c.args.rights) c.copy-sets.ensures in
    omega (
      arith,
      ap (λ (r : ReplyValue). length r.answers) reply,
      new_few c.request_of-request.result c.args.rights c.args.self.now.sets c.data_sets_law.ensures.sized,
      c.args.self.now.room,
    )

pub returns-clause-few : goal.returns-clause-few
returns-clause-few g c =
    let reply = c.decide-reply.ensures.reply ∙ ap (reply_to c.request_of-request.result c.args.rights) c.copy-sets.ensures in
    omega (
      arith,
      ap (λ (r : ReplyValue). length r.answers) reply,
      new_few c.request_of-request.result c.args.rights c.args.self.now.sets c.data_sets_law.ensures.sized,
      c.args.self.now.room,
      c.requires.small,
    )

pub returns-clause-sendable : goal.returns-clause-sendable
returns-clause-sendable g c =
    let p = new_parts _ _ _ c.requires.new in
    fitting_sendable c.request_of-request.result c.decide-reply.result
    (fits_numbered c.request_of-request.result c.args.rights c.args.self.now.sets c.args.message.now c.decide-reply.result
    c.request_of-request.ensures c.data_sets_law.ensures.sized p.request p.port c.requires.valid
    (c.decide-reply.ensures.reply ∙ ap (reply_to c.request_of-request.result c.args.rights) c.copy-sets.ensures))
