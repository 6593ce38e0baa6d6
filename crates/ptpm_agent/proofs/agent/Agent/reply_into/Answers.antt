use Rattle.std.proofs.Common.{arith, ◌≡◌, ◌++◌, List, ap, length, refl, sym, ◌∙◌, ℕ, Option}
use Rattle.std.specs.FinMap.{get}
use Rattle.ptpm_codec.specs.declared.identity.PortIdentity.{PortIdentity}
use Rattle.ptpm_table.specs.Rendering.{rendered}
use Rattle.ptpm_table.specs.Entries.{Entry}
use Rattle.ptpm_table.specs.declared.heard.Heard.{Heard}
use Rattle.ptpm_agent.specs.Addressing.{heard_of}
use Rattle.ptpm_agent.specs.Agent.{state_of}
use Rattle.ptpm_agent.specs.Forwarding.{copies_if}
use Rattle.ptpm_agent.specs.Turn.{kept_reply_of, new_reply, reply_by, reply_messages}
use Rattle.ptpm_agent.specs.declared.verdict.Verdict.{Verdict}
use Rattle.ptpm_agent.proofs.MostSent.{rendered_count}
use Rattle.ptpm_agent.proofs.Turns.{copies_are, turn_replies, turned_new, turned_other, turned_refused, turned_repeat}
use Rattle.ptpm_agent.proofs.agent.Agent.reply_into.Goals as goal

pub accept-requires-clause-room : goal.accept-requires-clause-room
accept-requires-clause-room g c =
    let clock = g.T.ReplyTable.owner c.args.self.now.table in
    let state = state_of g.T.ReplyTable.entries c.args.self.now in
    let v = c.in-Ok.message in
    let replies = turn_replies clock state c.args.ingress c.args.datagram.now v c.judge-verdict.result.0
    (sym c.view.ensures.exact ∙ c.in-Ok.is) c.judge-verdict.ensures.verdict in
    omega (
      arith,
      ap (λ (xs : List (ℕ × List ℕ)). length xs) replies,
      ap (λ (w : Verdict). length (reply_messages clock c.args.ingress (heard_of v) (reply_by w clock state v))) c.in-AnsweredNew.is,
      rendered_count clock.identity (heard_of v) (new_reply clock state v) c.args.ingress,
      c.requires.room,
    )

pub send_again-requires-clause-room : goal.send_again-requires-clause-room
send_again-requires-clause-room g c = λ e is.
    let clock = g.T.ReplyTable.owner c.args.self.now.table in
    let state = state_of g.T.ReplyTable.entries c.args.self.now in
    let v = c.in-Ok.message in
    let source : c.heard_of.result.source ≡ v.source = ap (λ (h : Heard). h.source) c.heard_of.ensures in
    let here = ap (λ (who : PortIdentity). get state.entries who) (sym source) ∙ is in
    let replies = turn_replies clock state c.args.ingress c.args.datagram.now v c.judge-verdict.result.0
    (sym c.view.ensures.exact ∙ c.in-Ok.is) c.judge-verdict.ensures.verdict in
    omega (
      arith,
      ap (λ (xs : List (ℕ × List ℕ)). length xs) c.requires.empty,
      ap (λ (xs : List (ℕ × List ℕ)). length xs) replies,
      ap (λ (w : Verdict). length (reply_messages clock c.args.ingress (heard_of v) (reply_by w clock state v))) c.in-AnsweredRepeat.is,
      ap (λ (o : Option Entry). length (reply_messages clock c.args.ingress (heard_of v) (kept_reply_of o))) here,
      rendered_count clock.identity (heard_of v) e.reply c.args.ingress,
      c.requires.room,
    )

pub reply-requires-clause-room : goal.reply-requires-clause-room
reply-requires-clause-room g c =
    let clock = g.T.ReplyTable.owner c.args.self.now.table in
    let state = state_of g.T.ReplyTable.entries c.args.self.now in
    let replies = turn_replies clock state c.args.ingress c.args.datagram.now c.in-Ok.message c.judge-verdict.result.0
    (sym c.view.ensures.exact ∙ c.in-Ok.is) c.judge-verdict.ensures.verdict in
    omega (
      arith,
      ap (λ (xs : List (ℕ × List ℕ)). length xs) c.requires.empty,
      ap (λ (xs : List (ℕ × List ℕ)). length xs) replies,
      c.requires.room,
    )

pub returns-in-Err-clause-turned : goal.returns-in-Err-clause-turned
returns-in-Err-clause-turned g c =
    turned_refused (g.T.ReplyTable.owner c.args.self.now.table)
    (state_of g.T.ReplyTable.entries c.args.self.now) c.args.ingress c.args.datagram.now c.in-Err.cause
    (g.O.Outgoing.sent c.args.out.now) (state_of g.T.ReplyTable.entries c.args.self.now)
    (sym c.view.ensures.exact ∙ c.in-Err.is) c.requires.empty refl

pub returns-in-AnsweredNew-clause-turned : goal.returns-in-AnsweredNew-clause-turned
returns-in-AnsweredNew-clause-turned g c =
    turned_new (g.T.ReplyTable.owner c.args.self.now.table)
    (state_of g.T.ReplyTable.entries c.args.self.now) c.args.ingress c.args.datagram.now c.in-Ok.message c.judge-verdict.result.0
    (g.O.Outgoing.sent c.accept.new.out) (state_of g.T.ReplyTable.entries c.accept.new.self)
    (sym c.view.ensures.exact ∙ c.in-Ok.is) c.judge-verdict.ensures.verdict c.in-AnsweredNew.is c.accept.ensures.sent c.accept.ensures.accepted

pub returns-in-AnsweredRepeat-clause-turned : goal.returns-in-AnsweredRepeat-clause-turned
returns-in-AnsweredRepeat-clause-turned g c =
    let e = (c.judge-verdict.ensures.repeat c.in-AnsweredRepeat.is).kept in
    let source : c.heard_of.result.source ≡ c.in-Ok.message.source = ap (λ (h : Heard). h.source) c.heard_of.ensures in
    turned_repeat (g.T.ReplyTable.owner c.args.self.now.table)
    (state_of g.T.ReplyTable.entries c.args.self.now) c.args.ingress c.args.datagram.now c.in-Ok.message
    c.judge-verdict.result.0 (g.O.Outgoing.sent c.send_again.new.out) (state_of g.T.ReplyTable.entries c.args.self.now) e.entry
    (sym c.view.ensures.exact ∙ c.in-Ok.is) c.judge-verdict.ensures.verdict c.in-AnsweredRepeat.is e.is
    (c.send_again.ensures.messages e.entry (ap (get (g.T.ReplyTable.entries c.args.self.now.table)) source ∙ e.is)
    ∙ (λ i. c.requires.empty i ++ rendered (g.T.ReplyTable.owner c.args.self.now.table).identity (c.heard_of.ensures i) e.entry.reply c.args.ingress))
    refl

pub returns-in_default-clause-turned : goal.returns-in_default-clause-turned
returns-in_default-clause-turned g c =
    let clock = g.T.ReplyTable.owner c.args.self.now.table in
    let state = state_of g.T.ReplyTable.entries c.args.self.now in
    let sets = c.args.self.now.sets in
    let read = sym c.view.ensures.exact ∙ c.in-Ok.is in
    let copies = copies_are clock.identity c.args.ingress sets c.args.datagram.now c.in-Ok.message c.passes_on-passed.result read c.passes_on-passed.ensures in
    let replies = reply_messages clock c.args.ingress (heard_of c.in-Ok.message) (reply_by c.judge-verdict.result.0 clock state c.in-Ok.message) in
    let sent = c.reply.ensures.sent ∙ ap (λ (xs : List (ℕ × List ℕ)). xs ++ replies) c.requires.empty in
    turned_other clock state c.args.ingress c.args.datagram.now c.in-Ok.message c.judge-verdict.result.0
    (copies_if c.passes_on-passed.result c.args.ingress sets c.args.datagram.now ++ g.O.Outgoing.sent c.reply.new.out) state
    read c.judge-verdict.ensures.verdict c.in_default.not-AnsweredNew (λ i. copies i ++ sent i) refl
