use Rattle.std.proofs.Common.{arith, ◌≡◌, ◌++◌, Some, true, false, length, refl, sym, ◌∙◌, ap, List, ℕ}
use Rattle.std.proofs.lemmas.List.{length-append}
use Rattle.ptpm_codec.specs.Reading.{message_of}
use Rattle.ptpm_table.specs.Rendering.{rendered}
use Rattle.ptpm_agent.specs.Addressing.{heard_of, request_of}
use Rattle.ptpm_agent.specs.Agent.{clock_of, state_of}
use Rattle.ptpm_agent.specs.Forwarding.{forwarded}
use Rattle.ptpm_agent.proofs.MostSent.{rendered_count}
use Rattle.ptpm_agent.proofs.Turns.{message_of-reading}
use Rattle.ptpm_device.specs.Asking.{is_wanted_once}
use Rattle.ptpm_device.specs.Saying.{reply_given}
use Rattle.ptpm_device.proofs.Said.{turned_once, wanted_once_lacked}
use Rattle.ptpm_device.proofs.WhenAsked.{wanted_once-read, wanted_once-unread}
use Rattle.ptpm_device.proofs.saying.answer_value.Goals as goal

pub returns-in-Err-clause-wanted : goal.returns-in-Err-clause-wanted
returns-in-Err-clause-wanted g c =
    sym (wanted_once-unread (clock_of g.T.ReplyTable.owner c.args.agent.now) (state_of g.T.ReplyTable.entries c.args.agent.now)
    c.args.datagram.now _ (sym c.view.ensures.exact ∙ c.in-Err.is))

pub returns-then-not-is_wanted_once-clause-wanted : goal.returns-then-not-is_wanted_once-clause-wanted
returns-then-not-is_wanted_once-clause-wanted g c =
    let clock = clock_of g.T.ReplyTable.owner c.args.agent.now in
    let state = state_of g.T.ReplyTable.entries c.args.agent.now in
    let v = c.in-Ok.message in
    let read : message_of c.args.datagram.now ≡ Some v = message_of-reading c.args.datagram.now v (sym c.view.ensures.exact ∙ c.in-Ok.is) in
    let other : is_wanted_once clock state v ≡ false = cc in
    sym (wanted_once-read clock state c.args.datagram.now v read ∙ other)

pub returns-clause-wanted : goal.returns-clause-wanted
returns-clause-wanted g c =
    let clock = clock_of g.T.ReplyTable.owner c.args.agent.now in
    let state = state_of g.T.ReplyTable.entries c.args.agent.now in
    let v = c.in-Ok.message in
    let read : message_of c.args.datagram.now ≡ Some v = message_of-reading c.args.datagram.now v (sym c.view.ensures.exact ∙ c.in-Ok.is) in
    let yes : is_wanted_once clock state v ≡ true = cc in
    sym (wanted_once-read clock state c.args.datagram.now v read ∙ yes)

pub send_value-requires-clause-lacked : goal.send_value-requires-clause-lacked
send_value-requires-clause-lacked g c =
    let clock = clock_of g.T.ReplyTable.owner c.args.agent.now in
    let state = state_of g.T.ReplyTable.entries c.args.agent.now in
    let yes : is_wanted_once clock state c.in-Ok.message ≡ true = cc in
    wanted_once_lacked clock state c.in-Ok.message yes

pub pass_on-requires-clause-room : goal.pass_on-requires-clause-room
pass_on-requires-clause-room g c =
    let clock = clock_of g.T.ReplyTable.owner c.args.agent.now in
    let state = state_of g.T.ReplyTable.entries c.args.agent.now in
    let v = c.in-Ok.message in
    let read : message_of c.args.datagram.now ≡ Some v = message_of-reading c.args.datagram.now v (sym c.view.ensures.exact ∙ c.in-Ok.is) in
    let yes : is_wanted_once clock state v ≡ true = cc in
    let copies = forwarded clock.identity c.args.ingress state.sets c.args.datagram.now in
    let value = rendered clock.identity (heard_of v) (reply_given 1418 (request_of v) c.args.octets.now) c.args.ingress in
    let turned = turned_once clock state c.args.octets.now c.args.ingress c.args.datagram.now v (copies ++ value) read yes refl in
    omega (arith, ap (λ (xs : List (ℕ × List ℕ)). length xs) turned.outbox_is, length-append copies value, c.requires.room)

pub send_value-requires-clause-room : goal.send_value-requires-clause-room
send_value-requires-clause-room g c =
    let clock = clock_of g.T.ReplyTable.owner c.args.agent.now in
    let state = state_of g.T.ReplyTable.entries c.args.agent.now in
    let v = c.in-Ok.message in
    let read : message_of c.args.datagram.now ≡ Some v = message_of-reading c.args.datagram.now v (sym c.view.ensures.exact ∙ c.in-Ok.is) in
    let yes : is_wanted_once clock state v ≡ true = cc in
    let copies = forwarded clock.identity c.args.ingress state.sets c.args.datagram.now in
    let value = rendered clock.identity (heard_of v) (reply_given 1418 (request_of v) c.args.octets.now) c.args.ingress in
    let turned = turned_once clock state c.args.octets.now c.args.ingress c.args.datagram.now v (copies ++ value) read yes refl in
    omega (
      arith,
      ap (λ (xs : List (ℕ × List ℕ)). length xs) turned.outbox_is,
      length-append copies value,
      rendered_count clock.identity (heard_of v) (reply_given 1418 (request_of v) c.args.octets.now) c.args.ingress,
      g.met.O.Outgoing.as_many c.args.out.now c.pass_on.new.out c.pass_on.ensures.grown,
      ap (λ (xs : List (ℕ × List ℕ)). length xs) c.pass_on.ensures.copies,
      c.requires.room,
    )

pub returns-clause-turned : goal.returns-clause-turned
returns-clause-turned g c = λ told.
    let clock = clock_of g.T.ReplyTable.owner c.args.agent.now in
    let state = state_of g.T.ReplyTable.entries c.args.agent.now in
    let v = c.in-Ok.message in
    let read : message_of c.args.datagram.now ≡ Some v = message_of-reading c.args.datagram.now v (sym c.view.ensures.exact ∙ c.in-Ok.is) in
    let yes : is_wanted_once clock state v ≡ true = cc in
    turned_once clock state c.args.octets.now c.args.ingress c.args.datagram.now v _ read yes
    (c.send_value.ensures.sent ∙ ap (λ (xs : List (ℕ × List ℕ)). xs ++ rendered clock.identity (heard_of v) (reply_given 1418 (request_of v) c.args.octets.now) c.args.ingress) c.pass_on.ensures.copies)

pub returns-clause-grown : goal.returns-clause-grown
returns-clause-grown g c =
    g.met.O.Outgoing.grown_twice c.args.out.now c.pass_on.new.out c.send_value.new.out c.pass_on.ensures.grown c.send_value.ensures.grown
