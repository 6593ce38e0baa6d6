-- Places that are enough for a turn with what the device says are enough for the turn that is taken for it.
use Rattle.std.proofs.Common.{arith, ◌≡◌, ◌≤◌, ◌<◌, ℕ, true, false, List, [], ap, length, refl, ◌∙◌, subst, sym}
use Rattle.std.specs.Prelude.{IfSome, is_some}
use Rattle.ptpm_agent.specs.Agent.{IsTurned}
use Rattle.ptpm_agent.specs.Turn.{Clock, State, Turned, outbox_of, turn}
use Rattle.ptpm_device.specs.Asking.{wanted_new, wanted_once}
use Rattle.ptpm_device.specs.Saying.{Gives, given_by, turn_said}
use Rattle.ptpm_device.proofs.Said.{turned_kept, turned_ungiven}
use Rattle.ptpm_data.specs.Changed.{changed}
use Rattle.ptpm_data.specs.Members.{DataSetsValue}
use Rattle.ptpm_data.proofs.Differing.{nothing_changed}
use Rattle.ptpm_host.specs.Clock.{clock_in, state_in}
use Rattle.ptpm_host.proofs.clock.HostedClock.take_value.Goals as goal

as_it_is : (t : Turned) → IsTurned t t.verdict (outbox_of t) t.next
as_it_is t = record { verdict_is = refl; outbox_is = refl; sets_are = refl; entries_are = refl }

sent_few : (out more : List (ℕ × List ℕ)) (room : ℕ) → out ≡ more → length more ≤ room → length out ≤ room
sent_few out more room same few = omega (arith, ap (λ (xs : List (ℕ × List ℕ)). length xs) same, few)

given_fits : (c : Clock) (s : State) (octets : List ℕ) (ingress : ℕ) (datagram : List ℕ)
    (after : Clock) (kept : State) (room : ℕ)
    → IfSome (wanted_new c s datagram) (λ r. r.number < 65536)
    → wanted_once c s datagram ≡ false
    → after ≡ c
    → kept ≡ given_by s (wanted_new c s datagram) octets
    → length (outbox_of (turn_said [] c s (Gives octets) ingress datagram)) ≤ room
    → length (outbox_of (turn after kept ingress datagram)) ≤ room
given_fits c s octets ingress datagram after kept room small once clock is few =
    let t = turn after kept ingress datagram in
    elim (is_some (wanted_new c s datagram)) as (λ b. is_some (wanted_new c s datagram) ≡ b → length (outbox_of t) ≤ room) [
      | true ↦ λ some. sent_few (outbox_of t) _ room
          (turned_kept c s octets ingress datagram after kept t.verdict (outbox_of t) t.next some small clock is (as_it_is t)).outbox_is few
      | false ↦ λ none. sent_few (outbox_of t) _ room
          (turned_ungiven c s octets ingress datagram after kept t.verdict (outbox_of t) t.next none once clock is (as_it_is t)).outbox_is few
    ] refl

pub returns-then-is_kept-clause-turned : goal.returns-then-is_kept-clause-turned
returns-then-is_kept-clause-turned c =
    turned_kept (clock_in c.args.self.now).clock (state_in c.args.self.now) c.args.octets.now c.args.port c.args.datagram.now _ _ _ _ _
    (sym c.keep_value-is_kept.ensures.wanted ∙ c.if-is_kept.true) c.keep_value-is_kept.ensures.number
    c.keep_value-is_kept.ensures.clock c.keep_value-is_kept.ensures.kept c.take_turn-handled.ensures.turned

pub returns-clause-turned : goal.returns-clause-turned
returns-clause-turned c =
    let once : wanted_once (clock_in c.args.self.now).clock (state_in c.args.self.now) c.args.datagram.now ≡ false = grind arith in
    turned_ungiven (clock_in c.args.self.now).clock (state_in c.args.self.now) c.args.octets.now c.args.port c.args.datagram.now _ _ _ _ _
    (sym c.keep_value-is_kept.ensures.wanted ∙ c.if-is_kept.false) once
    c.keep_value-is_kept.ensures.clock c.keep_value-is_kept.ensures.kept c.take_turn-handled.ensures.turned

pub take_turn-handled-requires-clause-room : goal.take_turn-handled-requires-clause-room
take_turn-handled-requires-clause-room c =
    let once : wanted_once (clock_in c.args.self.now).clock (state_in c.args.self.now) c.args.datagram.now ≡ false = grind arith in
    let same : c.answer_value.new.room ≡ c.args.room.now = grind arith in
    subst (λ places. length (outbox_of (turn (clock_in (record c.args.self.now { agent = c.keep_value-is_kept.new.agent })).clock (state_in (record c.args.self.now { agent = c.keep_value-is_kept.new.agent })) c.args.port c.args.datagram.now)) ≤ length places)
    (sym same)
    (given_fits (clock_in c.args.self.now).clock (state_in c.args.self.now) c.args.octets.now c.args.port c.args.datagram.now _ _ (length c.args.room.now)
    c.keep_value-is_kept.ensures.number once c.keep_value-is_kept.ensures.clock c.keep_value-is_kept.ensures.kept c.requires.room)

pub returns-in-Some-clause-members : goal.returns-in-Some-clause-members
returns-in-Some-clause-members c = nothing_changed c.args.self.now.agent.sets

pub returns-then-is_kept-clause-members : goal.returns-then-is_kept-clause-members
returns-then-is_kept-clause-members c =
    c.take_turn-handled.ensures.members
    ∙ ap (λ (d : DataSetsValue). changed d c.take_turn-handled.new.self.agent.sets) c.keep_value-is_kept.ensures.sets

pub returns-clause-members : goal.returns-clause-members
returns-clause-members c =
    c.take_turn-handled.ensures.members
    ∙ ap (λ (d : DataSetsValue). changed d c.take_turn-handled.new.self.agent.sets) c.keep_value-is_kept.ensures.sets
