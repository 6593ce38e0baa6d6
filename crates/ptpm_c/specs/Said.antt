-- What a call of C does to a clock that a handle holds, with what its device says, or of its owner.
use Rattle.std.specs.Prelude.{◌≡◌, ◌≢◌, ◌≤◌, ◌+◌, ℕ, All, Bool, IsSomeAnd, List, None, Ok, Option, Some, drop, length, take}
use Rattle.std.specs.List.{AllZip}
use Rattle.ptpm_data.specs.Changed.{changed, no_members}
use Rattle.ptpm_data.specs.Members.{has_port}
use Rattle.ptpm_agent.specs.Turn.{NumberedRequest, State, Turned, outbox_of}
use Rattle.ptpm_device.specs.Asking.{asked, wanted}
use Rattle.ptpm_device.specs.Saying as says
use Rattle.ptpm_host.specs.declared.clock.HostedClock.{HostedClock}
use Rattle.ptpm_host.specs.declared.device.Question.{Question}
use Rattle.ptpm_host.specs.declared.device.Say.{Say}
use Rattle.ptpm_host.specs.declared.refusal.SaidRefusal.{SaidRefusal}
use Rattle.ptpm_host.specs.declared.sent.Sent.{Sent}
use Rattle.ptpm_host.specs.Blanks.{AreBlanked}
use Rattle.ptpm_host.specs.Clock.{DeviceClock, IsWhole, KeepsBehind, clock_in, messages_in, state_in}
use Rattle.ptpm_host.specs.Coming.{turn_of}
use Rattle.ptpm_host.specs.Device.{AsksNothing, IsAsked, IsWanted, said_refusal, say_in}
use Rattle.ptpm_host.specs.MostSent.{most_sent}
use Rattle.ptpm_host.specs.Numbers.{asked_change, asked_value, said_number, verdict_number}
use Rattle.ptpm_c.specs.declared.device.Taken.{Taken}

-- ---- what the device is asked

-- The number says whether it is asked, and the place what. It is to carry out the first, if there is one. Else it is asked for the
-- value of the second.
abbrev pub AsksIn : Option NumberedRequest → Option NumberedRequest → ℕ → Question → Type 0
AsksIn None None number place = (number ≡ 0) × AsksNothing place
AsksIn None (Some r) number place = (number ≡ asked_value) × IsWanted r place
AsksIn (Some r) o number place = (number ≡ asked_change) × IsAsked r place

-- a clock in this state asks this of a datagram
abbrev pub AsksBy : DeviceClock → State → List ℕ → ℕ → Question → Type 0
AsksBy c s datagram number place = AsksIn (asked c.rows c.clock s datagram) (wanted c.clock s datagram) number place

-- ---- what came of a datagram

-- nothing
abbrev pub nothing_taken : Taken
nothing_taken = record { count = 0; waiting = 0; changed = no_members }

-- The first places have a whole message each, and what comes after a message stays. If messages wait, as many places are blank
-- instead. The places after them stay.
pub record ArePlaced (taken : Taken) (before after : List Sent) : Type 0 where
  pub within : taken.count ≤ length after
  pub whole : All IsWhole (take taken.count after)
  pub places : drop (taken.count + taken.waiting) after ≡ drop (taken.count + taken.waiting) before
  pub behind : taken.waiting ≡ 0 → AllZip KeepsBehind before after
  pub blanked : taken.waiting ≢ 0 → (taken.count ≡ 0) × AreBlanked taken.waiting before after

-- ---- what the device says

abbrev pub turn_said_of : HostedClock → says.Say → Bool → ℕ → List ℕ → Turned
turn_said_of c o of_owner port datagram = turn_of (clock_in c) (state_in c) port datagram o of_owner

-- the number of its verdict is answered, these messages are written into its host's places, and the clock is where it leads
pub record IsSaidTo (c : HostedClock) (o : says.Say) (of_owner : Bool) (port : ℕ) (datagram : List ℕ) (number : ℕ) (messages : List (ℕ × List ℕ)) (d : HostedClock) : Type 0 where
  pub number_is : number ≡ verdict_number (turn_said_of c o of_owner port datagram).verdict
  pub messages_are : messages ≡ outbox_of (turn_said_of c o of_owner port datagram)
  pub sets_are : (state_in d).sets ≡ (turn_said_of c o of_owner port datagram).next.sets
  pub entries_are : (state_in d).entries ≡ (turn_said_of c o of_owner port datagram).next.entries
  pub clock_is : clock_in d ≡ clock_in c

-- why a datagram is not handed to the clock with what the device says
abbrev pub why_not_said : HostedClock → ℕ → List Sent → Say → Option SaidRefusal
why_not_said c port places say = said_refusal (has_port port c.agent.sets) (most_sent (state_in c)) (length places) say

-- the clock c, if nothing refuses the datagram, takes the turn with what the device says
abbrev pub TakesSaid : HostedClock → ℕ → List ℕ → Say → Bool → List Sent → ℕ → Taken → List Sent → Option HostedClock → Type 0
TakesSaid c port datagram say of_owner before number taken after left =
    why_not_said c port before say ≡ None
    → (o : says.Say)
    → say_in say ≡ Ok o
    → IsSomeAnd left (λ d. IsSaidTo c o of_owner port datagram number (messages_in (take taken.count after)) d)

-- what it reports as changed is what the turn changed, and nothing waits
abbrev pub ReportsSaid : HostedClock → ℕ → Say → List Sent → Taken → Option HostedClock → Type 0
ReportsSaid c port say before taken left =
    why_not_said c port before say ≡ None
    → IsSomeAnd left (λ d. (taken.changed ≡ changed c.agent.sets d.agent.sets) × (taken.waiting ≡ 0))

-- if something does, the first reason is named, nothing is sent, and the clock stays
abbrev pub RefusesSaid : HostedClock → ℕ → Say → List Sent → ℕ → Taken → List Sent → Option HostedClock → Type 0
RefusesSaid c port say before number taken after left =
    (e : SaidRefusal)
    → why_not_said c port before say ≡ Some e
    → (number ≡ said_number e) × ((taken ≡ nothing_taken) × ((after ≡ before) × IsSomeAnd left (λ d. d ≡ c)))
