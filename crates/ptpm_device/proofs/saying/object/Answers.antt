use Rattle.std.proofs.Common.{arith, ◌≡◌, [], Some, true, false, length, refl, sym, ◌∙◌, ap, List, ℕ}
use Rattle.std.specs.Prelude.{is_some}
use Rattle.std.proofs.lemmas.Bool.{cond-false, cond-true}
use Rattle.ptpm_codec.specs.Reading.{message_of}
use Rattle.ptpm_data.specs.Replies.{reply_of}
use Rattle.ptpm_table.specs.Rendering.{rendered}
use Rattle.ptpm_agent.specs.Addressing.{heard_of, request_of}
use Rattle.ptpm_agent.specs.Agent.{clock_of, state_of}
use Rattle.ptpm_agent.specs.Turn.{numbered_from}
use Rattle.ptpm_agent.proofs.MostSent.{rendered_count}
use Rattle.ptpm_agent.proofs.Turns.{message_of-reading}
use Rattle.ptpm_device.specs.Asking.{is_asked}
use Rattle.ptpm_device.specs.Saying.{after_reply}
use Rattle.ptpm_device.proofs.Judged.{judged-asked, objection_alone}
use Rattle.ptpm_device.proofs.Said.{turned_objected}
use Rattle.ptpm_device.proofs.WhenAsked.{asked-read, asked-unread}
use Rattle.ptpm_device.proofs.saying.object.Goals as goal

pub returns-in-Err-clause-asked : goal.returns-in-Err-clause-asked
returns-in-Err-clause-asked g c =
    sym (ap (λ o. is_some o) (asked-unread [] (clock_of g.T.ReplyTable.owner c.args.agent.now) (state_of g.T.ReplyTable.entries c.args.agent.now)
    c.args.datagram.now _ (sym c.view.ensures.exact ∙ c.in-Err.is)))

pub returns-in-Err-clause-own : goal.returns-in-Err-clause-own
returns-in-Err-clause-own g c = λ none.
    let clock = clock_of g.T.ReplyTable.owner c.args.agent.now in
    let state = state_of g.T.ReplyTable.entries c.args.agent.now in
    objection_alone clock state c.args.error c.args.ingress c.args.datagram.now
    (asked-unread [] clock state c.args.datagram.now _ (sym c.view.ensures.exact ∙ c.in-Err.is))

pub returns-then-not-is_asked-clause-asked : goal.returns-then-not-is_asked-clause-asked
returns-then-not-is_asked-clause-asked g c =
    let clock = clock_of g.T.ReplyTable.owner c.args.agent.now in
    let state = state_of g.T.ReplyTable.entries c.args.agent.now in
    let no : is_asked [] clock state c.in-Ok.message ≡ false = cc in
    sym (ap (λ o. is_some o) (asked-read [] clock state c.args.datagram.now c.in-Ok.message (sym c.view.ensures.exact ∙ c.in-Ok.is) ∙ cond-false _ _ _ no))

pub returns-then-not-is_asked-clause-own : goal.returns-then-not-is_asked-clause-own
returns-then-not-is_asked-clause-own g c = λ none.
    let clock = clock_of g.T.ReplyTable.owner c.args.agent.now in
    let state = state_of g.T.ReplyTable.entries c.args.agent.now in
    let no : is_asked [] clock state c.in-Ok.message ≡ false = cc in
    objection_alone clock state c.args.error c.args.ingress c.args.datagram.now
    (asked-read [] clock state c.args.datagram.now c.in-Ok.message (sym c.view.ensures.exact ∙ c.in-Ok.is) ∙ cond-false _ _ _ no)

pub refuse-requires-clause-new : goal.refuse-requires-clause-new
refuse-requires-clause-new g c =
    let clock = clock_of g.T.ReplyTable.owner c.args.agent.now in
    let state = state_of g.T.ReplyTable.entries c.args.agent.now in
    let yes : is_asked [] clock state c.in-Ok.message ≡ true = cc in
    judged-asked [] clock state c.in-Ok.message yes

pub refuse-requires-clause-room : goal.refuse-requires-clause-room
refuse-requires-clause-room g c =
    let clock = clock_of g.T.ReplyTable.owner c.args.agent.now in
    let state = state_of g.T.ReplyTable.entries c.args.agent.now in
    let v = c.in-Ok.message in
    let read : message_of c.args.datagram.now ≡ Some v = message_of-reading c.args.datagram.now v (sym c.view.ensures.exact ∙ c.in-Ok.is) in
    let yes : is_asked [] clock state v ≡ true = cc in
    let reply = reply_of (request_of v) (Some c.args.error) state.sets in
    let turned = turned_objected clock state c.args.error c.args.ingress c.args.datagram.now v (rendered clock.identity (heard_of v) reply c.args.ingress)
    (after_reply state (numbered_from v) reply) read yes refl refl in
    omega (arith, ap (λ (xs : List (ℕ × List ℕ)). length xs) turned.outbox_is, rendered_count clock.identity (heard_of v) reply c.args.ingress, c.requires.room)

pub returns-clause-asked : goal.returns-clause-asked
returns-clause-asked g c =
    let clock = clock_of g.T.ReplyTable.owner c.args.agent.now in
    let state = state_of g.T.ReplyTable.entries c.args.agent.now in
    let yes : is_asked [] clock state c.in-Ok.message ≡ true = cc in
    sym (ap (λ o. is_some o) (asked-read [] clock state c.args.datagram.now c.in-Ok.message (sym c.view.ensures.exact ∙ c.in-Ok.is) ∙ cond-true _ _ _ yes))

pub returns-clause-turned : goal.returns-clause-turned
returns-clause-turned g c = λ objected.
    let clock = clock_of g.T.ReplyTable.owner c.args.agent.now in
    let state = state_of g.T.ReplyTable.entries c.args.agent.now in
    let v = c.in-Ok.message in
    let read : message_of c.args.datagram.now ≡ Some v = message_of-reading c.args.datagram.now v (sym c.view.ensures.exact ∙ c.in-Ok.is) in
    let yes : is_asked [] clock state v ≡ true = cc in
    turned_objected clock state c.args.error c.args.ingress c.args.datagram.now v _ _ read yes c.refuse.ensures.sent c.refuse.ensures.kept
