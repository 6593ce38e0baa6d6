use Rattle.std.proofs.Common.{arith, ◌≡◌, Some, true, false, sym, ◌∙◌}
use Rattle.std.proofs.lemmas.Bool.{cond-false, cond-true}
use Rattle.ptpm_agent.specs.Agent.{clock_of, state_of}
use Rattle.ptpm_agent.specs.Turn.{numbered_from}
use Rattle.ptpm_device.specs.Asking.{wanted, is_wanted}
use Rattle.ptpm_device.proofs.WhenAsked.{wanted-read, wanted-unread}
use Rattle.ptpm_device.proofs.asking.ask_value.Goals as goal

pub returns-in-Err-clause-wanted : goal.returns-in-Err-clause-wanted
returns-in-Err-clause-wanted g c =
    sym (wanted-unread (clock_of g.T.ReplyTable.owner c.args.agent.now) (state_of g.T.ReplyTable.entries c.args.agent.now)
    c.args.datagram.now _ (sym c.view.ensures.exact ∙ c.in-Err.is))

pub returns-then-not-is_wanted-clause-wanted : goal.returns-then-not-is_wanted-clause-wanted
returns-then-not-is_wanted-clause-wanted g c =
    let clock = clock_of g.T.ReplyTable.owner c.args.agent.now in
    let state = state_of g.T.ReplyTable.entries c.args.agent.now in
    let v = c.in-Ok.message in
    let no : is_wanted clock state v ≡ false = cc in
    sym (wanted-read clock state c.args.datagram.now v (sym c.view.ensures.exact ∙ c.in-Ok.is) ∙ cond-false _ _ _ no)

pub returns-clause-wanted : goal.returns-clause-wanted
returns-clause-wanted g c =
    let clock = clock_of g.T.ReplyTable.owner c.args.agent.now in
    let state = state_of g.T.ReplyTable.entries c.args.agent.now in
    let v = c.in-Ok.message in
    let yes : is_wanted clock state v ≡ true = cc in
    let e : wanted clock state c.args.datagram.now ≡ Some (numbered_from v) =
    wanted-read clock state c.args.datagram.now v (sym c.view.ensures.exact ∙ c.in-Ok.is) ∙ cond-true _ _ _ yes in
    grind arith
