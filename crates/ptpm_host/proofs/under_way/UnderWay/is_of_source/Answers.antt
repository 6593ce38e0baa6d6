use Rattle.std.proofs.Common.{◌∙◌, ap, take, sym}
use Rattle.ptpm_codec.specs.Identity.{same_identity}
use Rattle.ptpm_codec.specs.Reading.{message_of}
use Rattle.ptpm_agent.proofs.Turns.{message_of-reading}
use Rattle.ptpm_host.specs.SavingClock.{is_of_one_source}
use Rattle.ptpm_host.proofs.UnderWay.{unread}
use Rattle.ptpm_host.proofs.under_way.UnderWay.is_of_source.Goals as goal

pub returns : goal.returns
returns c =
    let one = message_of-reading c.args.datagram.now c.in-Ok.message (sym c.view.ensures.exact ∙ c.in-Ok.is) in
    let other = ap message_of (sym c.message.ensures.message)
    ∙ message_of-reading c.message.result.now c.in-Ok-view.under_way (sym c.view-2.ensures.exact ∙ c.in-Ok-view.is) in
    c.eq.ensures ∙ (λ i. same_identity (c.source.ensures i) (c.source-2.ensures i)) ∙ (λ i. is_of_one_source (sym one i) (sym other i))

pub returns-in_default : goal.returns-in_default
returns-in_default c =
    let none = unread c.args.datagram.now c.in_default.field-0 (sym c.view.ensures.exact ∙ c.in_default.is) in
    ap (λ o. is_of_one_source o (message_of (take c.args.self.now.size c.args.self.now.octets))) (sym none)

pub returns-in_default-view : goal.returns-in_default-view
returns-in_default-view c =
    let one = message_of-reading c.args.datagram.now c.in-Ok.message (sym c.view.ensures.exact ∙ c.in-Ok.is) in
    let none = ap message_of (sym c.message.ensures.message)
    ∙ unread c.message.result.now c.in_default-view.field-0 (sym c.view-2.ensures.exact ∙ c.in_default-view.is) in
    (λ i. is_of_one_source (sym one i) (sym none i))
