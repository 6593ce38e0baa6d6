use Rattle.std.proofs.Common.{arith, ◌≡◌, Some, true, false, sym, ◌∙◌}
use Rattle.std.proofs.lemmas.Bool.{cond-false, cond-true}
use Rattle.ptpm_agent.specs.Agent.{clock_of, state_of}
use Rattle.ptpm_agent.specs.Turn.{numbered_from}
use Rattle.ptpm_device.specs.Asking.{asked, is_asked}
use Rattle.ptpm_device.proofs.WhenAsked.{asked-read, asked-unread}
use Rattle.ptpm_device.proofs.asking.ask.Goals as goal

pub returns-in-Err-clause-asked : goal.returns-in-Err-clause-asked
returns-in-Err-clause-asked g c =
    sym (asked-unread c.args.rows.now (clock_of g.T.ReplyTable.owner c.args.agent.now) (state_of g.T.ReplyTable.entries c.args.agent.now)
    c.args.datagram.now _ (sym c.view.ensures.exact ∙ c.in-Err.is))

pub returns-then-not-is_asked-clause-asked : goal.returns-then-not-is_asked-clause-asked
returns-then-not-is_asked-clause-asked g c =
    let clock = clock_of g.T.ReplyTable.owner c.args.agent.now in
    let state = state_of g.T.ReplyTable.entries c.args.agent.now in
    let v = c.in-Ok.message in
    let no : is_asked c.args.rows.now clock state v ≡ false = cc in
    sym (asked-read c.args.rows.now clock state c.args.datagram.now v (sym c.view.ensures.exact ∙ c.in-Ok.is) ∙ cond-false _ _ _ no)

pub returns-clause-asked : goal.returns-clause-asked
returns-clause-asked g c =
    let clock = clock_of g.T.ReplyTable.owner c.args.agent.now in
    let state = state_of g.T.ReplyTable.entries c.args.agent.now in
    let v = c.in-Ok.message in
    let yes : is_asked c.args.rows.now clock state v ≡ true = cc in
    let e : asked c.args.rows.now clock state c.args.datagram.now ≡ Some (numbered_from v) =
    asked-read c.args.rows.now clock state c.args.datagram.now v (sym c.view.ensures.exact ∙ c.in-Ok.is) ∙ cond-true _ _ _ yes in
    grind arith
