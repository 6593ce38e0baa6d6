use Rattle.std.proofs.Common.{◌∙◌, arith, ap, false, refl, sym}
use Rattle.std.proofs.lemmas.Bool.{le-leb}
use Rattle.std.proofs.lemmas.Bool.Decides.{nat_tests}
use Rattle.ptpm_agent.proofs.Turns.{message_of-reading}
use Rattle.ptpm_host.specs.UnderWay.{is_change_in, may_be_under_way}
use Rattle.ptpm_host.proofs.UnderWay.{all_three, not_first, unread}
use Rattle.ptpm_host.proofs.under_way.may_be_under_way.Goals as goal

pub returns-then-is_change : goal.returns-then-is_change
unfolding may_be_under_way
returns-then-is_change c =
    let read = message_of-reading c.args.octets.now c.in-Ok.message (sym c.view.ensures.exact ∙ c.in-Ok.is) in
    all_three _ _ _ _ (ap is_change_in read ∙ grind arith) (grind (arith, nat_tests)) (le-leb _ _ c.if-octets-gt-MOST_OCTETS.false)

pub returns-else-is_change : goal.returns-else-is_change
unfolding may_be_under_way
returns-else-is_change c =
    let read = message_of-reading c.args.octets.now c.in-Ok.message (sym c.view.ensures.exact ∙ c.in-Ok.is) in
    not_first _ _ _ (grind arith) (ap is_change_in read ∙ grind arith)

pub returns-in-Err : goal.returns-in-Err
unfolding may_be_under_way
returns-in-Err c =
    let none = unread c.args.octets.now c.in-Err.field-0 (sym c.view.ensures.exact ∙ c.in-Err.is) in
    not_first false _ _ refl (ap is_change_in none)
