use Rattle.std.proofs.Common.{◌∙◌, arith, ap, sym}
use Rattle.ptpm_agent.proofs.Turns.{message_of-reading}
use Rattle.ptpm_host.specs.Changing.{moves_domain_in}
use Rattle.ptpm_host.proofs.UnderWay.{unread}
use Rattle.ptpm_host.proofs.owner_change.asks_to_move.Goals as goal

pub returns-in_default : goal.returns-in_default
returns-in_default c =
    ap moves_domain_in (sym (unread c.args.datagram.now c.in_default.field-0 (sym c.view.ensures.exact ∙ c.in_default.is)))

pub returns-then-eq : goal.returns-then-eq
returns-then-eq c =
    let read = message_of-reading c.args.datagram.now c.in-Ok.message (sym c.view.ensures.exact ∙ c.in-Ok.is) in
    sym (ap moves_domain_in read ∙ grind arith)

pub returns-else-eq : goal.returns-else-eq
returns-else-eq c =
    let read = message_of-reading c.args.datagram.now c.in-Ok.message (sym c.view.ensures.exact ∙ c.in-Ok.is) in
    sym (ap moves_domain_in read ∙ grind arith)
