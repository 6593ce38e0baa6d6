-- What a call of C does to a clock that a handle holds: one turn. What it passes on is the datagram itself, and the answers are written into
-- places of the host.
use Rattle.std.specs.Prelude.{◌≡◌, ◌<◌, ◌++◌, ℕ, IsSomeAnd, List, None, Option, Some, length, nat_lt, take}
use Rattle.ptpm_data.specs.Members.{has_port}
use Rattle.ptpm_agent.specs.Forwarding.{copies_if, with_less_hop}
use Rattle.ptpm_agent.specs.Turn.{outbox_of}
use Rattle.ptpm_host.specs.declared.clock.HostedClock.{HostedClock}
use Rattle.ptpm_host.specs.declared.refusal.HandleRefusal.{HandleRefusal}
use Rattle.ptpm_host.specs.declared.answer_places.SentAnswer.{SentAnswer}
use Rattle.ptpm_host.specs.Answers.{answers_in, egress_if, most_replied}
use Rattle.ptpm_host.specs.Clock.{clock_in, handle_refusal, state_in}
use Rattle.ptpm_host.specs.Numbers.{handle_number, no_clock, verdict_number}
use Rattle.ptpm_c.specs.declared.keeping.Keeping.{Keeping}
use Rattle.ptpm_c.specs.declared.sharing.Shared.{Shared}
use Rattle.ptpm_c.specs.Held.{clock_held, held}
use Rattle.ptpm_c.specs.Turned.{turn_of}

abbrev pub nothing_shared : Shared
nothing_shared = record { ports = 0; size = 0; count = 0 }

-- The number of its verdict is answered. What goes on is the first octets of the datagram, if their size is not 0. With a copy at each
-- egress port, the answers are what the turn sends. The clock is where it leads.
pub record IsSharedTo (c : HostedClock) (port : ℕ) (before after : List ℕ) (number : ℕ) (out : Shared) (answers : List (ℕ × List ℕ))
    (d : HostedClock) : Type 0 where
  pub number_is : number ≡ verdict_number (turn_of c port before).verdict
  pub messages_are : copies_if (nat_lt 0 out.size) port c.agent.sets before ++ answers ≡ outbox_of (turn_of c port before)
  pub ports_are : out.ports ≡ egress_if (nat_lt 0 out.size) port c.agent.sets
  pub copy_is : 0 < out.size → take out.size after ≡ with_less_hop before
  pub stays : out.size ≡ 0 → after ≡ before
  pub sets_are : (state_in d).sets ≡ (turn_of c port before).next.sets
  pub entries_are : (state_in d).entries ≡ (turn_of c port before).next.entries
  pub clock_is : clock_in d ≡ clock_in c

-- why a datagram at a port is not handed to the clock, by that port and by the places for answers that there are
abbrev pub why_not_shared : HostedClock → ℕ → List SentAnswer → Option HandleRefusal
why_not_shared c port places = handle_refusal (has_port port c.agent.sets) (most_replied (state_in c)) (length places)

-- nothing is sent, and neither the datagram nor a place is written to
pub record SharesNothing (datagram datagram' : List ℕ) (before : List SentAnswer) (out : Shared) (after : List SentAnswer) : Type 0 where
  pub nothing : out ≡ nothing_shared
  pub datagram_stays : datagram' ≡ datagram
  pub places_stay : after ≡ before

-- the clock c, if nothing refuses the datagram, takes the turn, and what is left in the handle is where that leads
abbrev pub TakesShared : HostedClock → ℕ → List ℕ → List ℕ → List SentAnswer → ℕ → Shared → List SentAnswer → Option HostedClock → Type 0
TakesShared c port datagram datagram' before number out after left =
    why_not_shared c port before ≡ None
    → IsSomeAnd left (λ d. IsSharedTo c port datagram datagram' number out (answers_in (take out.count after)) d)

-- if something does, the first reason is named, nothing is sent, and the clock stays
abbrev pub RefusesShared : HostedClock → ℕ → List ℕ → List ℕ → List SentAnswer → ℕ → Shared → List SentAnswer → Option HostedClock → Type 0
RefusesShared c port datagram datagram' before number out after left =
    (e : HandleRefusal)
    → why_not_shared c port before ≡ Some e
    → (number ≡ handle_number e) × (SharesNothing datagram datagram' before out after × IsSomeAnd left (λ d. d ≡ c))

-- a handle that holds no clock that sends at once: that is answered, nothing is sent, and it holds what it held
abbrev pub FindsNoneToShare : Keeping → List ℕ → List ℕ → List SentAnswer → ℕ → Shared → List SentAnswer → Keeping → Type 0
FindsNoneToShare old datagram datagram' before number out after new =
    clock_held old ≡ None
    → (number ≡ no_clock) × (SharesNothing datagram datagram' before out after × (held new ≡ held old))
