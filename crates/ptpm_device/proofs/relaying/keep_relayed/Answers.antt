use Rattle.std.proofs.Common.{arith, rules, ◌≡◌, ◌<◌, ◌∙◌, None, Some, sym}
use Rattle.std.proofs.lemmas.Grind.{common_steps}
use Rattle.ptpm_codec.specs.Reading.{message_of}
use Rattle.ptpm_agent.specs.Addressing.{request_of}
use Rattle.ptpm_agent.specs.Agent.{clock_of, state_of}
use Rattle.ptpm_agent.specs.Turn.{numbered_from}
use Rattle.ptpm_agent.proofs.Turns.{message_of-reading}
use Rattle.ptpm_device.specs.Asking.{rights_of_change}
use Rattle.ptpm_device.specs.Relayed.{relayed, relayed_refusal}
use Rattle.ptpm_device.specs.Saying.{after_reply, reply_relayed, said_value}
use Rattle.ptpm_device.proofs.RelayedTurns.{change_lacked, change_made, change_known, old_turn, relayed_turned, unread_turn, unrelayed_turn}
use Rattle.ptpm_device.proofs.relaying.keep_relayed.Goals as goal

pub returns-in-Err-clause-own : goal.returns-in-Err-clause-own
returns-in-Err-clause-own g c = λ away ingress.
    unread_turn c.args.rows.now (clock_of g.T.ReplyTable.owner c.args.agent.now) (state_of g.T.ReplyTable.entries c.args.agent.now)
    (said_value c.args.said) ingress c.args.datagram.now _ (sym c.view.ensures.exact ∙ c.in-Err.is)

pub returns-in_default-clause-own : goal.returns-in_default-clause-own
returns-in_default-clause-own g c = λ away ingress.
    let v = c.in-Ok.message in
    let read : message_of c.args.datagram.now ≡ Some v = message_of-reading c.args.datagram.now v (sym c.view.ensures.exact ∙ c.in-Ok.is) in
    let none : relayed c.args.rows.now (request_of v) ≡ None = first_of (cc, search rules, grind (arith, common_steps)) in
    unrelayed_turn c.args.rows.now (clock_of g.T.ReplyTable.owner c.args.agent.now) (state_of g.T.ReplyTable.entries c.args.agent.now)
    (said_value c.args.said) ingress c.args.datagram.now v read none

pub returns-in_default-rights_of_change-clause-own : goal.returns-in_default-rights_of_change-clause-own
returns-in_default-rights_of_change-clause-own g c = λ away ingress.
    let clock = clock_of g.T.ReplyTable.owner c.args.agent.now in
    let state = state_of g.T.ReplyTable.entries c.args.agent.now in
    let v = c.in-Ok.message in
    let read : message_of c.args.datagram.now ≡ Some v = message_of-reading c.args.datagram.now v (sym c.view.ensures.exact ∙ c.in-Ok.is) in
    let found : relayed c.args.rows.now (request_of v) ≡ Some c.in-Some.row = first_of (cc, search rules, grind (arith, common_steps)) in
    let none : rights_of_change clock state v ≡ None = first_of (cc, search rules, grind (arith, common_steps)) in
    old_turn c.args.rows.now clock state (said_value c.args.said) ingress c.args.datagram.now v c.in-Some.row read found none

pub keep-requires-clause-known : goal.keep-requires-clause-known
keep-requires-clause-known g c =
    let clock = clock_of g.T.ReplyTable.owner c.args.agent.now in
    let state = state_of g.T.ReplyTable.entries c.args.agent.now in
    let v = c.in-Ok.message in
    let new : rights_of_change clock state v ≡ Some c.in-Some-rights_of_change.rights = first_of (cc, search rules, grind (arith, common_steps)) in
    let known = change_known clock state v c.in-Some-rights_of_change.rights new in
    first_of (search (rules, known), grind (arith, common_steps))

pub keep-requires-clause-change : goal.keep-requires-clause-change
keep-requires-clause-change g c =
    let v = c.in-Ok.message in
    let found : relayed c.args.rows.now (request_of v) ≡ Some c.in-Some.row = first_of (cc, search rules, grind (arith, common_steps)) in
    let made = change_made c.args.rows.now v c.in-Some.row found in
    first_of (search (rules, made), grind (arith, common_steps))

pub keep-requires-clause-lacked : goal.keep-requires-clause-lacked
keep-requires-clause-lacked g c =
    let v = c.in-Ok.message in
    let found : relayed c.args.rows.now (request_of v) ≡ Some c.in-Some.row = first_of (cc, search rules, grind (arith, common_steps)) in
    let lacked = change_lacked c.args.rows.now v c.in-Some.row found in
    first_of (search (rules, lacked), grind (arith, common_steps))

pub returns-clause-turned : goal.returns-clause-turned
returns-clause-turned g c = λ kept ingress w out next turned.
    let clock = clock_of g.T.ReplyTable.owner c.args.agent.now in
    let state = state_of g.T.ReplyTable.entries c.args.agent.now in
    let v = c.in-Ok.message in
    let read : message_of c.args.datagram.now ≡ Some v = message_of-reading c.args.datagram.now v (sym c.view.ensures.exact ∙ c.in-Ok.is) in
    let found : relayed c.args.rows.now (request_of v) ≡ Some c.in-Some.row = first_of (cc, search rules, grind (arith, common_steps)) in
    let new : rights_of_change clock state v ≡ Some c.in-Some-rights_of_change.rights = first_of (cc, search rules, grind (arith, common_steps)) in
    let small : v.number < 65536 = first_of (search rules, grind (arith, common_steps)) in
    let asks : c.asked_by.result ≡ numbered_from v = first_of (cc, search rules, grind (arith, common_steps)) in
    let refuses : c.relayed_refusal-refusal.result ≡ relayed_refusal c.in-Some.row (request_of v) c.in-Some-rights_of_change.rights =
    first_of (cc, search rules, grind (arith, common_steps)) in
    let reply = reply_relayed (relayed_refusal c.in-Some.row (request_of v) c.in-Some-rights_of_change.rights) (request_of v) (said_value c.args.said) in
    let keeps : state_of g.T.ReplyTable.entries c.keep.new.agent ≡ after_reply state (numbered_from v) reply =
    first_of (cc, search rules, grind (arith, common_steps)) in
    relayed_turned c.args.rows.now clock _ state _ (said_value c.args.said) ingress c.args.datagram.now v c.in-Some.row
    c.in-Some-rights_of_change.rights w out next read small found new c.keep.ensures.clock keeps turned
