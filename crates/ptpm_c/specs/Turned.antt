-- What a call of C does to a clock that a handle holds: one turn. What it sends is written into places of the host.
use Rattle.std.specs.Prelude.{◌≡◌, ◌≤◌, ℕ, All, IsSomeAnd, List, None, Option, Some, drop, length, take}
use Rattle.std.specs.List.{AllZip}
use Rattle.ptpm_data.specs.Members.{has_port}
use Rattle.ptpm_agent.specs.Turn.{Turned, outbox_of, turn}
use Rattle.ptpm_host.specs.declared.clock.HostedClock.{HostedClock}
use Rattle.ptpm_host.specs.declared.refusal.HandleRefusal.{HandleRefusal}
use Rattle.ptpm_host.specs.declared.sent.Sent.{Sent}
use Rattle.ptpm_host.specs.Clock.{IsWhole, KeepsBehind, clock_in, handle_refusal, messages_in, state_in}
use Rattle.ptpm_host.specs.MostSent.{most_sent}
use Rattle.ptpm_host.specs.Numbers.{handle_number, no_clock, verdict_number}
use Rattle.ptpm_c.specs.declared.keeping.Keeping.{Keeping}
use Rattle.ptpm_c.specs.Held.{clock_held, held}

-- the turn of a clock at a datagram
abbrev pub turn_of : HostedClock → ℕ → List ℕ → Turned
turn_of c port datagram = turn (clock_in c).clock (state_in c) port datagram

-- the number of its verdict is answered, these messages are written into its host's places, and the clock is where it leads
pub record IsTurnedTo (c : HostedClock) (port : ℕ) (datagram : List ℕ) (number : ℕ) (messages : List (ℕ × List ℕ)) (d : HostedClock) : Type 0 where
  pub number_is : number ≡ verdict_number (turn_of c port datagram).verdict
  pub messages_are : messages ≡ outbox_of (turn_of c port datagram)
  pub sets_are : (state_in d).sets ≡ (turn_of c port datagram).next.sets
  pub entries_are : (state_in d).entries ≡ (turn_of c port datagram).next.entries
  pub clock_is : clock_in d ≡ clock_in c

-- why a datagram at a port is not handed to the clock, by that port and by the places that there are
abbrev pub why_not_handed : HostedClock → ℕ → List Sent → Option HandleRefusal
why_not_handed c port places = handle_refusal (has_port port c.agent.sets) (most_sent (state_in c)) (length places)

-- the first `count` places have a whole message each; what comes after a message stays, and so do the places after them
pub record AreWritten (before : List Sent) (count : ℕ) (after : List Sent) : Type 0 where
  pub within : count ≤ length after
  pub whole : All IsWhole (take count after)
  pub places : drop count after ≡ drop count before
  pub behind : AllZip KeepsBehind before after

-- nothing is sent, and no place is written to
abbrev pub SendsNothing : List Sent → ℕ → List Sent → Type 0
SendsNothing before count after = (count ≡ 0) × (after ≡ before)

-- the clock c, if nothing refuses the datagram, takes the turn, and what is left in the handle is where that leads
abbrev pub TakesTurn : HostedClock → ℕ → List ℕ → List Sent → ℕ → ℕ → List Sent → Option HostedClock → Type 0
TakesTurn c port datagram before number count after left =
    why_not_handed c port before ≡ None
    → IsSomeAnd left (λ d. IsTurnedTo c port datagram number (messages_in (take count after)) d)

-- if something does, the first reason is named, nothing is sent, and the clock stays
abbrev pub RefusesTurn : HostedClock → ℕ → List Sent → ℕ → ℕ → List Sent → Option HostedClock → Type 0
RefusesTurn c port before number count after left =
    (e : HandleRefusal)
    → why_not_handed c port before ≡ Some e
    → (number ≡ handle_number e) × (SendsNothing before count after × IsSomeAnd left (λ d. d ≡ c))

-- a handle that holds no clock that sends at once: that is answered, nothing is sent, and it holds what it held
abbrev pub FindsNoClock : Keeping → List Sent → ℕ → ℕ → List Sent → Keeping → Type 0
FindsNoClock old before number count after new =
    clock_held old ≡ None
    → (number ≡ no_clock) × (SendsNothing before count after × (held new ≡ held old))
