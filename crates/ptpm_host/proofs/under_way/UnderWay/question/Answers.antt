use Rattle.std.proofs.Common.{◌∙◌, ap, subst, sym}
use Rattle.ptpm_agent.specs.Turn.{NumberedRequest, numbered_from}
use Rattle.ptpm_codec.specs.Reading.{message_of}
use Rattle.ptpm_host.specs.Device.{IsAsked}
use Rattle.ptpm_host.proofs.UnderWay.{change_read, same_read}
use Rattle.ptpm_host.proofs.under_way.UnderWay.question.Goals as goal

pub unreachable-requires : goal.unreachable-requires
unreachable-requires c =
    let read = change_read c.message.result.now c.message.ensures.change in
    c.in_default.not-Ok _ (c.view.ensures.exact ∙ read.1)

pub returns : goal.returns
returns c = λ v is.
    let read = sym c.view.ensures.exact ∙ c.in-Ok.is in
    let same = same_read c.message.result.now c.in-Ok.message v read (ap message_of c.message.ensures.message ∙ is) in
    subst (λ (r : NumberedRequest). IsAsked r c.of.result) (c.asked_by.ensures ∙ ap numbered_from same) c.of.ensures
