use Rattle.std.proofs.Common.{arith, ◌≡◌, true, false, sym, ◌∙◌}
use Rattle.ptpm_table.specs.declared.reply_table.Look.TheVariants as looks
use Rattle.ptpm_agent.specs.Addressing.{request_of}
use Rattle.ptpm_agent.specs.Agent.{clock_of, state_of}
use Rattle.ptpm_agent.specs.Turn.{look}
use Rattle.ptpm_device.specs.Asking.{is_lacked, is_reached}
use Rattle.ptpm_device.proofs.WhenAsked.{away-not_wanted_once, is_unknown_look-other, is_wanted_once-reached}
use Rattle.ptpm_device.proofs.saying.is_wanted_once.Goals as goal

pub returns-then-not-is_reached : goal.returns-then-not-is_reached
returns-then-not-is_reached g c =
    let clock = clock_of g.T.ReplyTable.owner c.args.agent.now in
    let state = state_of g.T.ReplyTable.entries c.args.agent.now in
    let away : is_reached clock state c.args.message.now ≡ false = cc in
    sym (away-not_wanted_once clock state c.args.message.now away)

pub returns-in-Unknown : goal.returns-in-Unknown
returns-in-Unknown g c =
    let clock = clock_of g.T.ReplyTable.owner c.args.agent.now in
    let state = state_of g.T.ReplyTable.entries c.args.agent.now in
    let v = c.args.message.now in
    let lacked : is_lacked (request_of v) ≡ true = grind arith in
    let reached : is_reached clock state v ≡ true = cc in
    let found : looks.Unknown ≡ look clock state v = sym c.in-Unknown.is ∙ c.look.ensures in
    sym (is_wanted_once-reached clock state v looks.Unknown lacked reached found)

pub returns-in_default : goal.returns-in_default
returns-in_default g c =
    let clock = clock_of g.T.ReplyTable.owner c.args.agent.now in
    let state = state_of g.T.ReplyTable.entries c.args.agent.now in
    let v = c.args.message.now in
    let lacked : is_lacked (request_of v) ≡ true = grind arith in
    let reached : is_reached clock state v ≡ true = cc in
    sym (is_wanted_once-reached clock state v c.look.result lacked reached c.look.ensures
    ∙ is_unknown_look-other c.look.result c.in_default.not-Unknown)
