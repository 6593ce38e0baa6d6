use Rattle.std.proofs.Common.{subst, sym, take, Option, Some}
use Rattle.std.specs.Option.{option_map}
use Rattle.ptpm_codec.specs.declared.message.Message.{Message}
use Rattle.ptpm_agent.specs.Turn.{numbered_from}
use Rattle.ptpm_agent.proofs.Turns.{message_of-reading}
use Rattle.ptpm_host.specs.declared.under_way.UnderWay.{UnderWay}
use Rattle.ptpm_host.specs.SavingClock.{request_under_way}
use Rattle.ptpm_host.specs.UnderWay.{AnswersAsked, asked_of}
use Rattle.ptpm_host.proofs.UnderWay.{change_read}
use Rattle.ptpm_host.proofs.clock.HostedClock.under_way.Goals as goal

pub returns-in-Some : goal.returns-in-Some
returns-in-Some c =
    let message = take c.in-Some.under_way.size c.in-Some.under_way.octets in
    let read = change_read message c.in-Some.under_way.change in
    let is = message_of-reading message read.0 read.1 in
    subst (λ (o : Option UnderWay). AnswersAsked (asked_of (request_under_way o)) (Some c.question.result)) (sym c.in-Some.is)
    (subst (λ (o : Option Message). AnswersAsked (option_map numbered_from o) (Some c.question.result)) (sym is) (c.question.ensures read.0 is))
