use Rattle.std.proofs.Common.{arith, rules, ◌≡◌, ◌∙◌, None, Some, is_none, sym}
use Rattle.std.proofs.lemmas.Grind.{common_steps}
use Rattle.ptpm_agent.specs.Addressing.{request_of}
use Rattle.ptpm_agent.specs.Agent.{clock_of, state_of}
use Rattle.ptpm_device.specs.Asking.{is_asked, rights_of_change}
use Rattle.ptpm_device.specs.Relayed.{refusal_in}
use Rattle.ptpm_device.proofs.WhenAsked.{is_asked-by, is_asked-none}
use Rattle.ptpm_device.proofs.asking.is_asked.Goals as goal

pub returns-in-Some : goal.returns-in-Some
returns-in-Some g c =
    let clock = clock_of g.T.ReplyTable.owner c.args.agent.now in
    let state = state_of g.T.ReplyTable.entries c.args.agent.now in
    let v = c.args.message.now in
    let found : rights_of_change clock state v ≡ Some c.in-Some.rights = first_of (cc, search rules, grind (arith, common_steps)) in
    let e : is_asked c.args.rows.now clock state v ≡ is_none (refusal_in c.args.rows.now (request_of v) c.in-Some.rights) =
    is_asked-by c.args.rows.now clock state v c.in-Some.rights found in
    let own : c.is_none.result ≡ is_none (refusal_in c.args.rows.now (request_of v) c.in-Some.rights) = first_of (cc, search rules, grind (arith, common_steps)) in
    own ∙ sym e

pub returns-in-None : goal.returns-in-None
returns-in-None g c =
    let clock = clock_of g.T.ReplyTable.owner c.args.agent.now in
    let state = state_of g.T.ReplyTable.entries c.args.agent.now in
    let none : rights_of_change clock state c.args.message.now ≡ None = first_of (cc, search rules, grind (arith, common_steps)) in
    sym (is_asked-none c.args.rows.now clock state c.args.message.now none)
