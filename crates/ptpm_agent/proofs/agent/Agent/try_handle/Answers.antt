use Rattle.std.proofs.Common.{arith, ◌≡◌, ◌++◌, ℕ, List, ap, length, refl, sym, ◌∙◌}
use Rattle.std.specs.FinMap.{get}
use Rattle.ptpm_table.specs.Rendering.{rendered}
use Rattle.ptpm_table.specs.declared.heard.Heard.{Heard}
use Rattle.ptpm_table.specs.declared.outbox.TheConstants.{OUTBOX_MESSAGES}
use Rattle.ptpm_agent.specs.Agent.{state_of}
use Rattle.ptpm_agent.specs.Addressing.{heard_of}
use Rattle.ptpm_agent.proofs.MostSent.{verdict_few}
use Rattle.ptpm_agent.proofs.Turns.{turned_new, turned_other, turned_refused, turned_repeat}
use Rattle.ptpm_agent.proofs.agent.Agent.try_handle.Goals as goal

pub returns-in-Err-clause-turned : goal.returns-in-Err-clause-turned
returns-in-Err-clause-turned g c =
    turned_refused (g.T.ReplyTable.owner c.args.self.now.table)
    (state_of g.T.ReplyTable.entries c.args.self.now) c.args.ingress c.args.datagram.now c.in-Err.cause
    c.clear.new.self (state_of g.T.ReplyTable.entries c.args.self.now)
    (sym c.view.ensures.exact ∙ c.in-Err.is) c.clear.ensures refl

pub returns-in_ok-reply-in-AnsweredNew-clause-turned : goal.returns-in_ok-reply-in-AnsweredNew-clause-turned
returns-in_ok-reply-in-AnsweredNew-clause-turned g c =
    turned_new (g.T.ReplyTable.owner c.args.self.now.table)
    (state_of g.T.ReplyTable.entries c.args.self.now) c.args.ingress c.args.datagram.now c.in-Ok.message
    c.judge-verdict.result.0 c.send.new.out
    (state_of g.T.ReplyTable.entries c.try_accept.new.self)
    (sym c.view.ensures.exact ∙ c.in-Ok.is) c.judge-verdict.ensures.verdict c.in-AnsweredNew.is
    (c.send.ensures ∙ (λ i. rendered (c.in_ok-reply-in-AnsweredNew.ensures.clock i).identity (heard_of c.in-Ok.message) (c.in_ok-reply-in-AnsweredNew.ensures.reply i) c.args.ingress))
    c.in_ok-reply-in-AnsweredNew.ensures.accepted

pub returns-in-AnsweredRepeat-clause-turned : goal.returns-in-AnsweredRepeat-clause-turned
returns-in-AnsweredRepeat-clause-turned g c =
    let e = (c.judge-verdict.ensures.repeat c.in-AnsweredRepeat.is).kept in
    let source : c.heard_of.result.source ≡ c.in-Ok.message.source = ap (λ (h : Heard). h.source) c.heard_of.ensures in
    turned_repeat (g.T.ReplyTable.owner c.args.self.now.table)
    (state_of g.T.ReplyTable.entries c.args.self.now) c.args.ingress c.args.datagram.now c.in-Ok.message
    c.judge-verdict.result.0 (c.resend.new.out) (state_of g.T.ReplyTable.entries c.args.self.now) e.entry
    (sym c.view.ensures.exact ∙ c.in-Ok.is) c.judge-verdict.ensures.verdict c.in-AnsweredRepeat.is e.is
    (c.resend.ensures e.entry (ap (get (g.T.ReplyTable.entries c.args.self.now.table)) source ∙ e.is)
    ∙ (λ i. c.clear-in-AnsweredRepeat.ensures i ++ rendered (g.T.ReplyTable.owner c.args.self.now.table).identity (c.heard_of.ensures i) e.entry.reply c.args.ingress))
    refl

pub returns-in_default-clause-turned : goal.returns-in_default-clause-turned
returns-in_default-clause-turned g c =
    turned_other (g.T.ReplyTable.owner c.args.self.now.table)
    (state_of g.T.ReplyTable.entries c.args.self.now) c.args.ingress c.args.datagram.now c.in-Ok.message
    c.judge-verdict.result.0 c.answer.new.out (state_of g.T.ReplyTable.entries c.args.self.now)
    (sym c.view.ensures.exact ∙ c.in-Ok.is) c.judge-verdict.ensures.verdict c.in_default.not-AnsweredNew c.answer.ensures.sent refl

pub returns-in_err-reply-in-AnsweredNew-clause-only_new : goal.returns-in_err-reply-in-AnsweredNew-clause-only_new
returns-in_err-reply-in-AnsweredNew-clause-only_new g c = grind arith

pub resend-requires-clause-room : goal.resend-requires-clause-room
resend-requires-clause-room g c = λ e is.
    let source : c.heard_of.result.source ≡ c.in-Ok.message.source = ap (λ (h : Heard). h.source) c.heard_of.ensures in
    let few = (c.judge-verdict.ensures.repeat c.in-AnsweredRepeat.is).room e (ap (get (g.T.ReplyTable.entries c.args.self.now.table)) (sym source) ∙ is) in
    omega (arith, few, c.requires.small, ap (λ (xs : List (ℕ × List ℕ)). length xs) c.clear-in-AnsweredRepeat.ensures)

pub answer-requires-clause-room : goal.answer-requires-clause-room
answer-requires-clause-room g c =
    let sized = c.data_sets_law.ensures.sized in
    verdict_few (g.T.ReplyTable.owner c.args.self.now.table) (state_of g.T.ReplyTable.entries c.args.self.now) c.args.ingress c.args.datagram.now OUTBOX_MESSAGES
    sized c.requires.port (omega (arith, c.args.self.now.room, c.requires.small)) c.in-Ok.message c.judge-verdict.result.0
    (sym c.view.ensures.exact ∙ c.in-Ok.is) (sym c.judge-verdict.ensures.verdict) (λ repeat. absurd (c.in_default.not-AnsweredRepeat repeat))
