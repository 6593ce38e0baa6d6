-- A clock that takes datagrams while its host saves it, as the batch that it is.
use Rattle.std.specs.Prelude.{◌≡◌, ◌<◌, ◌≤◌, ◌-◌, ◌||◌, ◌&&◌, ℕ, Bool, true, false, not, nat_lt, is_some, List, [], ◌∷◌, length, take, if◌then◌else◌, Option, Some, None}
use Rattle.ptpm_codec.specs.declared.message.Message.{Message}
use Rattle.ptpm_codec.specs.Identity.{same_identity}
use Rattle.ptpm_codec.specs.Ordered.{first_of}
use Rattle.ptpm_codec.specs.Reading.{message_of}
use Rattle.ptpm_data.specs.Members.{DataSetsValue, has_port}
use Rattle.ptpm_data.specs.ObservationBack.{Observation}
use Rattle.ptpm_agent.specs.Turn.{State}
use Rattle.ptpm_device.specs.Asking.{asked}
use Rattle.ptpm_saved.specs.Batching.{Call, calls}
use Rattle.ptpm_saved.specs.BatchingClock.{is_of_manager}
use Rattle.ptpm_saved.specs.SavingClock.{Datagram}
use Rattle.ptpm_host.specs.declared.device.Say.{Say}
use Rattle.ptpm_host.specs.declared.clock.HostedClock.{HostedClock}
use Rattle.ptpm_host.specs.declared.refusal.DecideRefusal.{DecideRefusal}
use Rattle.ptpm_host.specs.declared.refusal.DecideRefusal.TheVariants as decides
use Rattle.ptpm_host.specs.declared.refusal.SaidRefusal.{SaidRefusal}
use Rattle.ptpm_host.specs.declared.refusal.SavingRefusal.{SavingRefusal}
use Rattle.ptpm_host.specs.declared.refusal.SavingRefusal.TheVariants as savings
use Rattle.ptpm_host.specs.declared.refusal.TakeRefusal.{TakeRefusal}
use Rattle.ptpm_host.specs.declared.refusal.TakeRefusal.TheVariants as takes
use Rattle.ptpm_host.specs.declared.refusal.UndertakeRefusal.{UndertakeRefusal}
use Rattle.ptpm_host.specs.declared.refusal.UndertakeRefusal.TheVariants as undertakes
use Rattle.ptpm_host.specs.declared.saving_clock.Acting.{Acting}
use Rattle.ptpm_host.specs.declared.saving_clock.Acting.TheVariants as actings
use Rattle.ptpm_host.specs.declared.saving_clock.SavingClock.{SavingClock}
use Rattle.ptpm_host.specs.declared.under_way.UnderWay.{UnderWay}
use Rattle.ptpm_host.specs.Changing.{moves_domain_in}
use Rattle.ptpm_host.specs.Clock.{clock_in, state_in}
use Rattle.ptpm_host.specs.Coming.{ClockBatch, ClockState, Coming, coming_process, is_held_by}
use Rattle.ptpm_host.specs.Device.{said_refusal}
use Rattle.ptpm_host.specs.KeptBatch.{IsKept, KeptBatch, all_given}
use Rattle.ptpm_host.specs.MostSent.{most_sent}
use Rattle.ptpm_host.specs.Queue.{queued, room_of}
use Rattle.ptpm_host.specs.Undertaking.{asked_once_saved}

-- ---- as a batch

-- a request that is under way, with its port
abbrev pub request_under_way : Option UnderWay → Option Datagram
request_under_way None = None
request_under_way (Some u) = Some (u.port, take u.size u.octets)

abbrev pub clock_state_in : HostedClock → ClockState
clock_state_in c = record { state = state_in c; under_way = request_under_way c.under_way }

-- what it keeps; others are shown the data sets alone
abbrev pub kept_of : SavingClock → KeptBatch ClockState DataSetsValue (ℕ × List ℕ)
kept_of c = record {
  live = clock_state_in c.clock.value;
  shown = c.shown;
  copied = c.copied;
  messages = queued c.queue;
  ready = c.ready;
  first = c.first;
  is_imaged = c.is_imaged;
  waits = c.waits;
  is_changed = c.is_changed;
}

abbrev pub shown_sets : ClockState → DataSetsValue
shown_sets s = s.state.sets

-- what its device is asked after a save of all that it has, and after one of the latest image
abbrev pub asked_later : Acting → Option Datagram → Option Datagram
asked_later actings.Nothing under_way = None
asked_later actings.AnImage under_way = under_way
asked_later actings.ItsSave under_way = under_way

abbrev pub asked_next : Acting → Option Datagram → Option Datagram
asked_next actings.Nothing under_way = None
asked_next actings.AnImage under_way = None
asked_next actings.ItsSave under_way = under_way

-- its host acts once the latest image is saved
abbrev pub acts_once_saved : SavingClock → Bool
acts_once_saved c = is_some (asked_next c.acting (request_under_way c.clock.value.under_way))

abbrev pub acting_once_imaged : Acting → Acting
acting_once_imaged actings.Nothing = actings.Nothing
acting_once_imaged _ = actings.ItsSave

-- It is this batch, and its latest image was made after the first `count` of what happened since.
pub record IsAsBatch (c : SavingClock) (b : ClockBatch) (count : ℕ) : Type 0 where
  pub kept : IsKept (coming_process (clock_in c.clock.value)) shown_sets (kept_of c) b count
  pub later : asked_once_saved (clock_in c.clock.value) b (length b.since) ≡ asked_later c.acting (request_under_way c.clock.value.under_way)
  pub next : c.is_imaged ≡ true
      → asked_once_saved (clock_in c.clock.value) b count ≡ asked_next c.acting (request_under_way c.clock.value.under_way)

abbrev pub called_at : SavingClock → ClockBatch → Call Coming Observation → ClockBatch
called_at c b call = calls (coming_process (clock_in c.clock.value)) (is_held_by (clock_in c.clock.value)) b call

-- a call at the batch gives these messages out at once, and it is the batch after it
pub record LeadsTo (given : List (ℕ × List ℕ)) (c : SavingClock) (after : ClockBatch) (count : ℕ) : Type 0 where
  pub given_out : after.ready ≡ given
  pub as_batch : IsAsBatch c (all_given after) count

-- a clock without released messages does this call, and gives these out at once
abbrev pub IsCalled : SavingClock → Call Coming Observation → List (ℕ × List ℕ) → SavingClock → Type 0
IsCalled before call given after = (b : ClockBatch) (count : ℕ)
    → IsAsBatch before b count
    → LeadsTo given after (called_at before b call) count

-- it does this call, and gives nothing out
abbrev pub IsCalledAt : SavingClock → Call Coming Observation → SavingClock → Type 0
IsCalledAt before call after = (b : ClockBatch) (count : ℕ)
    → IsAsBatch before b count
    → IsAsBatch after (called_at before b call) count

-- its latest image is the same, and may be said to be saved if it might before
pub record KeepsImage (c d : SavingClock) : Type 0 where
  pub images : d.images ≡ c.images
  pub imaged : d.is_imaged ≡ c.is_imaged

-- ---- what it has

-- how many places have no message
abbrev pub free_places : SavingClock → ℕ
free_places c = room_of c.queue - length (queued c.queue)

-- something has to be saved: what waits, or a clock that was never saved
abbrev pub is_unsaved : SavingClock → Bool
is_unsaved c = c.waits || not c.is_begun

-- the clock as others are shown it
abbrev pub shown_state : SavingClock → State
shown_state c = record { sets = c.shown; entries = (state_in c.clock.value).entries }

-- a datagram is for the clock as it is; one of anybody else, while something waits, for what is shown
abbrev pub is_for_live : SavingClock → ℕ → List ℕ → Bool → Bool
is_for_live c port datagram of_owner = not c.waits || (of_owner || is_of_manager (clock_in c.clock.value).clock (port, datagram))

abbrev pub state_asked : SavingClock → ℕ → List ℕ → Bool → State
state_asked c port datagram of_owner = if is_for_live c port datagram of_owner then state_in c.clock.value else shown_state c

-- ---- what comes after the change that is under way

-- both are messages of one port
abbrev pub is_of_one_source : Option Message → Option Message → Bool
is_of_one_source (Some v) (Some w) = same_identity v.source w.source
is_of_one_source _ _ = false

abbrev pub is_of_its_source : List ℕ → Option Datagram → Bool
is_of_its_source datagram None = false
is_of_its_source datagram (Some x) = is_of_one_source (message_of datagram) (message_of x.1)

-- it is of the same manager for this clock alone, or another change; of the owner, a SET of DOMAIN
abbrev pub is_behind : SavingClock → ℕ → List ℕ → Bool → Bool
is_behind c port datagram of_owner =
    is_some c.clock.value.under_way
    && (if of_owner then moves_domain_in (message_of datagram)
    else (is_of_its_source datagram (request_under_way c.clock.value.under_way) && is_of_manager (clock_in c.clock.value).clock (port, datagram)
    || is_some (asked (clock_in c.clock.value).rows (clock_in c.clock.value).clock (state_in c.clock.value) datagram)))

-- ---- why it takes nothing

abbrev pub take_refusal_by : Option SaidRefusal → Bool → Bool → Option TakeRefusal
take_refusal_by (Some refusal) behind full = Some (takes.Said refusal)
take_refusal_by None behind full = first_of ((behind, takes.UnderWay) ∷ (full, takes.Unsaved) ∷ [])

-- it was never saved, or released messages were not taken yet
abbrev pub is_stopped : SavingClock → Bool
is_stopped c = not c.is_begun || nat_lt 0 c.ready

-- or there are too few places for what may wait
abbrev pub is_full : SavingClock → Bool → Bool
is_full c for_live =
    not c.is_begun
    || (nat_lt 0 c.ready || (for_live && nat_lt (free_places c) (most_sent (state_in c.clock.value))))

abbrev pub take_refusal : SavingClock → ℕ → List ℕ → Say → Bool → ℕ → Option TakeRefusal
take_refusal c port datagram say of_owner room =
    take_refusal_by (said_refusal (has_port port c.clock.value.agent.sets) (most_sent (state_in c.clock.value)) room say)
    (is_behind c port datagram of_owner)
    (is_full c (is_for_live c port datagram of_owner))

-- ---- why no change is under way, or what is is not decided

abbrev pub undertake_refusal : SavingClock → ℕ → List ℕ → Option UndertakeRefusal
undertake_refusal c port datagram = first_of (
    (not (has_port port c.clock.value.agent.sets), undertakes.NoPort)
    ∷ (is_stopped c, undertakes.Unsaved)
    ∷ (is_some c.clock.value.under_way && is_some (asked (clock_in c.clock.value).rows (clock_in c.clock.value).clock (state_in c.clock.value) datagram), undertakes.UnderWay)
    ∷ [])

abbrev pub decide_refusal_by : Option SaidRefusal → Bool → Option DecideRefusal
decide_refusal_by (Some refusal) full = Some (decides.Said refusal)
decide_refusal_by None full = if full then Some decides.Unsaved else None

abbrev pub decide_refusal : SavingClock → Option UnderWay → Say → ℕ → Option DecideRefusal
decide_refusal c None say room = Some decides.NothingUnderWay
decide_refusal c (Some u) say room =
    decide_refusal_by (said_refusal (has_port u.port c.clock.value.agent.sets) (most_sent (state_in c.clock.value)) room say)
    (is_full c true)

-- ---- why it does not go on while it is saved: the clock is given back

abbrev pub IsNotSaving : HostedClock → ℕ → SavingRefusal → Type 0
IsNotSaving clock places (savings.NoRoom c) = (c.value ≡ clock) × (places < most_sent (state_in clock))
IsNotSaving clock places (savings.OutOfMemory c) = (c.value ≡ clock) × (most_sent (state_in clock) ≤ places)
