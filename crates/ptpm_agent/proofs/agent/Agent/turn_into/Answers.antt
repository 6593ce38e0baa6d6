use Rattle.std.proofs.Common.{arith, ◌≡◌, ◌++◌, List, ap, length, refl, sym, ◌∙◌, ℕ}
use Rattle.std.specs.FinMap.{get}
use Rattle.ptpm_table.specs.Rendering.{rendered}
use Rattle.ptpm_table.specs.declared.heard.Heard.{Heard}
use Rattle.ptpm_agent.specs.Agent.{state_of}
use Rattle.ptpm_agent.proofs.Turns.{turned_new, turned_other, turned_refused, turned_repeat}
use Rattle.ptpm_codec.specs.declared.identity.PortIdentity.{PortIdentity}
use Rattle.ptpm_agent.specs.Addressing.{heard_of}
use Rattle.ptpm_agent.specs.Forwarding.{forwarded}
use Rattle.ptpm_agent.specs.Turn.{carried_out, new_reply, reply_by, reply_messages}
use Rattle.ptpm_data.proofs.Differing.{nothing_changed}
use Rattle.ptpm_agent.proofs.MostSent.{rendered_count}
use Rattle.ptpm_agent.proofs.agent.Agent.turn_into.Goals as goal

pub accept_asked-members-requires-clause-room : goal.accept_asked-members-requires-clause-room
accept_asked-members-requires-clause-room g c =
    let clock = g.T.ReplyTable.owner c.args.self.now.table in
    let state = state_of g.T.ReplyTable.entries c.args.self.now in
    let v = c.in-Ok.message in
    let replies = rendered clock.identity (heard_of v) (new_reply clock state v) c.args.ingress in
    let turned = turned_new clock state c.args.ingress c.args.datagram.now v c.judge-verdict.result.0 replies (carried_out clock state v)
    (sym c.view.ensures.exact ∙ c.in-Ok.is) c.judge-verdict.ensures.verdict c.in-AnsweredNew.is refl refl in
    omega (arith, ap (λ (xs : List (ℕ × List ℕ)). length xs) turned.outbox_is, rendered_count clock.identity (heard_of v) (new_reply clock state v) c.args.ingress, c.requires.room)

pub send_again-requires-clause-room : goal.send_again-requires-clause-room
send_again-requires-clause-room g c = λ e is.
    let clock = g.T.ReplyTable.owner c.args.self.now.table in
    let state = state_of g.T.ReplyTable.entries c.args.self.now in
    let v = c.in-Ok.message in
    let source : c.heard_of.result.source ≡ v.source = ap (λ (h : Heard). h.source) c.heard_of.ensures in
    let here = ap (λ (who : PortIdentity). get state.entries who) (sym source) ∙ is in
    let turned = turned_repeat clock state c.args.ingress c.args.datagram.now v c.judge-verdict.result.0 (rendered clock.identity (heard_of v) e.reply c.args.ingress) state e
    (sym c.view.ensures.exact ∙ c.in-Ok.is) c.judge-verdict.ensures.verdict c.in-AnsweredRepeat.is here refl refl in
    omega (
      arith,
      ap (λ (xs : List (ℕ × List ℕ)). length xs) c.requires.empty,
      ap (λ (xs : List (ℕ × List ℕ)). length xs) turned.outbox_is,
      rendered_count clock.identity (heard_of v) e.reply c.args.ingress,
      c.requires.room,
    )

pub answer-requires-clause-room : goal.answer-requires-clause-room
answer-requires-clause-room g c =
    let clock = g.T.ReplyTable.owner c.args.self.now.table in
    let state = state_of g.T.ReplyTable.entries c.args.self.now in
    let v = c.in-Ok.message in
    let sent = forwarded clock.identity c.args.ingress c.args.self.now.sets c.args.datagram.now
    ++ reply_messages clock c.args.ingress (heard_of v) (reply_by c.judge-verdict.result.0 clock state v) in
    let turned = turned_other clock state c.args.ingress c.args.datagram.now v c.judge-verdict.result.0 sent state
    (sym c.view.ensures.exact ∙ c.in-Ok.is) c.judge-verdict.ensures.verdict c.in_default.not-AnsweredNew refl refl in
    omega (arith, ap (λ (xs : List (ℕ × List ℕ)). length xs) turned.outbox_is, c.requires.room)

pub returns-in-Err-clause-turned : goal.returns-in-Err-clause-turned
returns-in-Err-clause-turned g c =
    turned_refused (g.T.ReplyTable.owner c.args.self.now.table)
    (state_of g.T.ReplyTable.entries c.args.self.now) c.args.ingress c.args.datagram.now c.in-Err.cause
    (g.O.Outgoing.sent c.args.out.now) (state_of g.T.ReplyTable.entries c.args.self.now)
    (sym c.view.ensures.exact ∙ c.in-Err.is) c.requires.empty refl

pub returns-in-AnsweredNew-clause-turned : goal.returns-in-AnsweredNew-clause-turned
returns-in-AnsweredNew-clause-turned g c =
    let clock = g.T.ReplyTable.owner c.args.self.now.table in
    let state = state_of g.T.ReplyTable.entries c.args.self.now in
    turned_new clock state c.args.ingress c.args.datagram.now c.in-Ok.message c.judge-verdict.result.0 (g.O.Outgoing.sent c.accept_asked-members.new.out)
    (state_of g.T.ReplyTable.entries c.accept_asked-members.new.self)
    (sym c.view.ensures.exact ∙ c.in-Ok.is) c.judge-verdict.ensures.verdict c.in-AnsweredNew.is c.accept_asked-members.ensures.sent c.accept_asked-members.ensures.accepted

pub returns-in-AnsweredRepeat-clause-turned : goal.returns-in-AnsweredRepeat-clause-turned
returns-in-AnsweredRepeat-clause-turned g c =
    let e = (c.judge-verdict.ensures.repeat c.in-AnsweredRepeat.is).kept in
    let source : c.heard_of.result.source ≡ c.in-Ok.message.source = ap (λ (h : Heard). h.source) c.heard_of.ensures in
    turned_repeat (g.T.ReplyTable.owner c.args.self.now.table)
    (state_of g.T.ReplyTable.entries c.args.self.now) c.args.ingress c.args.datagram.now c.in-Ok.message
    c.judge-verdict.result.0 (g.O.Outgoing.sent c.send_again.new.out) (state_of g.T.ReplyTable.entries c.args.self.now) e.entry
    (sym c.view.ensures.exact ∙ c.in-Ok.is) c.judge-verdict.ensures.verdict c.in-AnsweredRepeat.is e.is
    (c.send_again.ensures.messages e.entry (ap (get (g.T.ReplyTable.entries c.args.self.now.table)) source ∙ e.is)
    ∙ (λ i. c.requires.empty i ++ rendered (g.T.ReplyTable.owner c.args.self.now.table).identity (c.heard_of.ensures i) e.entry.reply c.args.ingress))
    refl

pub returns-in_default-clause-turned : goal.returns-in_default-clause-turned
returns-in_default-clause-turned g c =
    turned_other (g.T.ReplyTable.owner c.args.self.now.table)
    (state_of g.T.ReplyTable.entries c.args.self.now) c.args.ingress c.args.datagram.now c.in-Ok.message
    c.judge-verdict.result.0 (g.O.Outgoing.sent c.answer.new.out) (state_of g.T.ReplyTable.entries c.args.self.now)
    (sym c.view.ensures.exact ∙ c.in-Ok.is) c.judge-verdict.ensures.verdict c.in_default.not-AnsweredNew c.answer.ensures.sent refl

pub returns-in-Err-clause-members : goal.returns-in-Err-clause-members
returns-in-Err-clause-members g c = λ asks. nothing_changed c.args.self.now.sets

pub returns-in-AnsweredRepeat-clause-members : goal.returns-in-AnsweredRepeat-clause-members
returns-in-AnsweredRepeat-clause-members g c = λ asks. nothing_changed c.args.self.now.sets

pub returns-in_default-clause-members : goal.returns-in_default-clause-members
returns-in_default-clause-members g c = λ asks. nothing_changed c.args.self.now.sets
