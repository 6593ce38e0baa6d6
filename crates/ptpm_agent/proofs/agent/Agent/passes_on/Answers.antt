use Rattle.std.proofs.Common.{◌∙◌, ap, sym}
use Rattle.std.specs.Prelude.{◌&&◌, nat_lt, not}
use Rattle.ptpm_codec.specs.Identity.{same_clock}
use Rattle.ptpm_data.specs.Members.{may_forward}
use Rattle.ptpm_agent.specs.Agent.{state_of}
use Rattle.ptpm_agent.proofs.Turns.{forwarded_near, not_forwarded-foreign, not_forwarded-own}
use Rattle.ptpm_agent.proofs.agent.Agent.passes_on.Goals as goal

pub returns-in-OtherDomain : goal.returns-in-OtherDomain
returns-in-OtherDomain g c =
    sym (not_forwarded-foreign (g.T.ReplyTable.owner c.args.self.now.table)
    (state_of g.T.ReplyTable.entries c.args.self.now) c.args.ingress c.args.message.now
    (sym c.requires.verdict ∙ c.in-OtherDomain.is))

pub returns-in-OwnMessage : goal.returns-in-OwnMessage
returns-in-OwnMessage g c =
    sym (not_forwarded-own (g.T.ReplyTable.owner c.args.self.now.table)
    (state_of g.T.ReplyTable.entries c.args.self.now) c.args.ingress c.args.message.now
    (sym c.requires.verdict ∙ c.in-OwnMessage.is))

pub returns-in_default : goal.returns-in_default
returns-in_default g c =
    let v = c.args.message.now in
    let sets = c.args.self.now.sets in
    c.goes_on.ensures
    ∙ ap (λ me. not (same_clock v.target.clock me) && (nat_lt 0 v.hops && may_forward c.args.ingress sets)) c.clock.ensures
    ∙ sym (forwarded_near (g.T.ReplyTable.owner c.args.self.now.table)
    (state_of g.T.ReplyTable.entries c.args.self.now) c.args.ingress v
    (λ e. c.in_default.not-OtherDomain (c.requires.verdict ∙ e))
    (λ e. c.in_default.not-OwnMessage (c.requires.verdict ∙ e))
    (λ e. c.requires.not_repeat (c.requires.verdict ∙ e)))
