-- What a call of C does to a clock that is saved while it takes datagrams, and which a handle holds.
use Rattle.std.specs.Prelude.{◌≡◌, ◌≢◌, ◌≤◌, ◌<◌, ◌||◌, ◌+◌, ◌++◌, ◌∷◌, ℕ, Bool, false, true, IsSomeAnd, List, None, Ok, Option, Some, [], drop, if◌then◌else◌, is_some, length, take}
use Rattle.ptpm_data.specs.Changed.{changed}
use Rattle.ptpm_data.specs.declared.ports.TheConstants.{INLINE_PORTS}
use Rattle.ptpm_data.specs.declared.observation.ObservationError.{ObservationError}
use Rattle.ptpm_agent.specs.Turn.{Turned}
use Rattle.ptpm_device.specs.Asking.{asked}
use Rattle.ptpm_device.specs.Saying as says
use Rattle.ptpm_device.specs.Saying.{turn_said}
use Rattle.ptpm_saved.specs.Image.{clock_image}
use Rattle.ptpm_saved.specs.Batching.{Confirms, GivesOut, Handles, Observes, begun}
use Rattle.ptpm_saved.specs.SavingClock.{Datagram, is_new}
use Rattle.ptpm_host.specs.declared.clock.HostedClock.{HostedClock}
use Rattle.ptpm_host.specs.declared.device.Question.{Question}
use Rattle.ptpm_host.specs.declared.device.Say.{Say}
use Rattle.ptpm_host.specs.declared.observing.ObservedClock.{ObservedClock}
use Rattle.ptpm_host.specs.declared.observing.ObservedPort.{ObservedPort}
use Rattle.ptpm_host.specs.declared.refusal.DecideRefusal.{DecideRefusal}
use Rattle.ptpm_host.specs.declared.refusal.TakeRefusal.{TakeRefusal}
use Rattle.ptpm_host.specs.declared.refusal.UndertakeRefusal.{UndertakeRefusal}
use Rattle.ptpm_host.specs.declared.saving_clock.Saved.{Saved}
use Rattle.ptpm_host.specs.declared.saving_clock.Saved.TheVariants as saves
use Rattle.ptpm_host.specs.declared.saving_clock.SavingClock.{SavingClock}
use Rattle.ptpm_host.specs.declared.sent.Sent.{Sent}
use Rattle.ptpm_host.specs.Clock.{clock_in, message_in, messages_in, state_in}
use Rattle.ptpm_host.specs.Coming.{ClockBatch, Decides, Undertakes, datagram_in, turn_of, undertaken}
use Rattle.ptpm_host.specs.Device.{AsksNothing, say_in}
use Rattle.ptpm_host.specs.Numbers.{act_now, decide_number, no_memory, no_room, observe_number, take_number, undertake_number, verdict_number}
use Rattle.ptpm_host.specs.Observing.{IsObserved, clock_observation, left_number, observe_refusal, port_observations, ports_left}
use Rattle.ptpm_host.specs.SavingClock.{IsAsBatch, IsCalled, IsCalledAt, acts_once_saved, called_at, clock_state_in, decide_refusal, free_places, request_under_way, state_asked, take_refusal, undertake_refusal}
use Rattle.ptpm_host.specs.Undertaking.{asked_once_saved}
use Rattle.ptpm_host.specs.UnderWay.{image_with}
use Rattle.ptpm_c.specs.declared.device.Taken.{Taken}
use Rattle.ptpm_c.specs.Said.{AsksBy, nothing_taken}

-- ---- a clock that begins to be saved

-- it is the clock that was held, with these places; it is saved already or not, and nothing of it waits
pub record BeginsSaved (c : HostedClock) (saved : Bool) (places : ℕ) (x : SavingClock) : Type 0 where
  pub as_batch : (count : ℕ) → IsAsBatch x (begun (clock_state_in c)) count
  pub clock_is : x.clock.value ≡ c
  pub begun_is : x.is_begun ≡ saved
  pub free_is : free_places x ≡ places

-- ---- a datagram

-- its turn: at the clock as it is, or as it is shown
abbrev pub turn_asked : SavingClock → says.Say → Bool → ℕ → List ℕ → Turned
turn_asked w o of_owner port datagram =
    turn_of (clock_in w.clock.value) (state_asked w port datagram of_owner) port datagram o of_owner

-- the number of its verdict is answered, these messages are given out, and the clock is where the call leads
pub record IsTakenTo (w : SavingClock) (o : says.Say) (of_owner : Bool) (port : ℕ) (datagram : List ℕ) (number : ℕ) (taken : Taken) (given : List (ℕ × List ℕ)) (x : SavingClock) : Type 0 where
  pub called : IsCalled w (Handles (datagram_in port datagram o of_owner)) given x
  pub number_is : number ≡ verdict_number (turn_asked w o of_owner port datagram).verdict
  pub waits_is : x.waits ≡ (w.waits || is_new (turn_asked w o of_owner port datagram).verdict)
  pub free_is : free_places x + taken.waiting ≡ free_places w
  pub begun_is : x.is_begun ≡ w.is_begun
  pub clock_is : clock_in x.clock.value ≡ clock_in w.clock.value

abbrev pub why_not_taken : SavingClock → ℕ → List ℕ → Say → Bool → List Sent → Option TakeRefusal
why_not_taken w port datagram say of_owner places = take_refusal w port datagram say of_owner (length places)

-- the saving clock w, if nothing refuses the datagram, is called with it, and what is left in the handle is where that leads
abbrev pub TakesCall : SavingClock → ℕ → List ℕ → Say → Bool → List Sent → ℕ → Taken → List Sent → Option SavingClock → Type 0
TakesCall w port datagram say of_owner before number taken after left =
    why_not_taken w port datagram say of_owner before ≡ None
    → (o : says.Say)
    → say_in say ≡ Ok o
    → IsSomeAnd left (IsTakenTo w o of_owner port datagram number taken (messages_in (take taken.count after)))

-- what it reports as changed is what the call changed
abbrev pub ReportsCall : SavingClock → ℕ → List ℕ → Say → Bool → List Sent → Taken → Option SavingClock → Type 0
ReportsCall w port datagram say of_owner before taken left =
    why_not_taken w port datagram say of_owner before ≡ None
    → IsSomeAnd left (λ x. taken.changed ≡ changed w.clock.value.agent.sets x.clock.value.agent.sets)

-- if something does, the first reason is named, nothing is sent, and the clock stays
abbrev pub RefusesCall : SavingClock → ℕ → List ℕ → Say → Bool → List Sent → ℕ → Taken → List Sent → Option SavingClock → Type 0
RefusesCall w port datagram say of_owner before number taken after left =
    (e : TakeRefusal)
    → why_not_taken w port datagram say of_owner before ≡ Some e
    → (number ≡ take_number e) × ((taken ≡ nothing_taken) × ((after ≡ before) × (left ≡ Some w)))

-- ---- a change of the device

-- it is under way from now on, and nothing changes if there is none
pub record IsUndertakenTo (w : SavingClock) (port : ℕ) (datagram : List ℕ) (x : SavingClock) : Type 0 where
  pub called : IsCalledAt w (Handles (Undertakes port datagram)) x
  pub under_way_is : request_under_way x.clock.value.under_way
      ≡ (undertaken (clock_in w.clock.value) (clock_state_in w.clock.value) port datagram).under_way
  pub waits_is : x.waits ≡ (w.waits || is_some (asked (clock_in w.clock.value).rows (clock_in w.clock.value).clock (state_in w.clock.value) datagram))
  pub others : asked (clock_in w.clock.value).rows (clock_in w.clock.value).clock (state_in w.clock.value) datagram ≡ None → x ≡ w
  pub agent_is : x.clock.value.agent ≡ w.clock.value.agent
  pub free_is : free_places x ≡ free_places w
  pub begun_is : x.is_begun ≡ w.is_begun

-- if nothing refuses it, the place has what the device is asked, and a change is under way
abbrev pub UndertakesCall : SavingClock → ℕ → List ℕ → ℕ → Question → Option SavingClock → Type 0
UndertakesCall w port datagram number place left =
    undertake_refusal w port datagram ≡ None
    → AsksBy (clock_in w.clock.value) (state_asked w port datagram false) datagram number place
    × IsSomeAnd left (IsUndertakenTo w port datagram)

-- if something does, the first reason is named, and the clock stays
abbrev pub RefusesUndertaking : SavingClock → ℕ → List ℕ → ℕ → Question → Option SavingClock → Type 0
RefusesUndertaking w port datagram number place left =
    (e : UndertakeRefusal)
    → undertake_refusal w port datagram ≡ Some e
    → (number ≡ undertake_number e) × (AsksNothing place × (left ≡ Some w))

-- what was under way had its turn, with what the device says; its messages wait, and nothing is under way
pub record IsDecidedTo (w : SavingClock) (o : says.Say) (number : ℕ) (taken : Taken) (x : SavingClock) : Type 0 where
  pub called : IsCalled w (Handles (Decides o)) [] x
  pub number_is : (d : Datagram)
      → request_under_way w.clock.value.under_way ≡ Some d
      → number ≡ verdict_number (turn_said (clock_in w.clock.value).rows (clock_in w.clock.value).clock (state_in w.clock.value) o d.0 d.1).verdict
  pub changed_is : taken.changed ≡ changed w.clock.value.agent.sets x.clock.value.agent.sets
  pub nothing_is : x.clock.value.under_way ≡ None
  pub waits_is : x.waits ≡ true
  pub free_is : free_places x + taken.waiting ≡ free_places w
  pub begun_is : x.is_begun ≡ w.is_begun
  pub clock_is : clock_in x.clock.value ≡ clock_in w.clock.value

abbrev pub why_not_decided : SavingClock → Say → List Sent → Option DecideRefusal
why_not_decided w say places = decide_refusal w w.clock.value.under_way say (length places)

abbrev pub DecidesCall : SavingClock → Say → List Sent → ℕ → Taken → Option SavingClock → Type 0
DecidesCall w say before number taken left =
    why_not_decided w say before ≡ None
    → (o : says.Say)
    → say_in say ≡ Ok o
    → IsSomeAnd left (IsDecidedTo w o number taken)

-- if something refuses it, the first reason is named, nothing is sent, and the clock stays
abbrev pub RefusesDecision : SavingClock → Say → List Sent → ℕ → Taken → List Sent → Option SavingClock → Type 0
RefusesDecision w say before number taken after left =
    (e : DecideRefusal)
    → why_not_decided w say before ≡ Some e
    → (number ≡ decide_number e) × ((taken ≡ nothing_taken) × ((after ≡ before) × (left ≡ Some w)))

-- ---- a save

-- the image of a clock, with what is under way
abbrev pub image_of : HostedClock → List ℕ
image_of c = image_with (request_under_way c.under_way) (clock_image (state_in c))

-- an image was made: it is the one that may be said to be saved
pub record IsImagedAs (w : SavingClock) (token : ℕ) (x : SavingClock) : Type 0 where
  pub as_batch : (b : ClockBatch) (count : ℕ) → IsAsBatch w b count → IsAsBatch x b (length b.since)
  pub token_is : token ≡ x.images
  pub clock_is : x.clock ≡ w.clock
  pub waits_is : x.waits ≡ w.waits
  pub free_is : free_places x ≡ free_places w
  pub begun_is : x.is_begun ≡ w.is_begun

abbrev pub MakesImage : SavingClock → List ℕ → ℕ → ℕ → ℕ → List ℕ → Option SavingClock → Type 0
MakesImage w before number size token after left =
    length (image_of w.clock.value) ≤ length before
    → number ≢ no_memory
    → (number ≡ 0)
    × ((size ≡ length (image_of w.clock.value))
    × ((after ≡ image_of w.clock.value ++ drop size before) × IsSomeAnd left (IsImagedAs w token)))

abbrev pub RefusesImage : SavingClock → List ℕ → ℕ → ℕ → ℕ → List ℕ → Option SavingClock → Type 0
RefusesImage w before number size token after left =
    length before < length (image_of w.clock.value)
    → number ≢ no_memory
    → (number ≡ no_room) × ((size ≡ 0) × ((token ≡ 0) × ((after ≡ before) × (left ≡ Some w))))

-- memory lacks, for the copy of more than INLINE_PORTS ports alone
pub record ForgoesImage (w : SavingClock) (before : List ℕ) (number size token : ℕ) (after : List ℕ) (left : Option SavingClock) : Type 0 where
  pub few : length w.clock.value.agent.sets.ports ≤ INLINE_PORTS → number ≢ no_memory
  pub nothing : number ≡ no_memory → (size ≡ 0) × ((token ≡ 0) × ((after ≡ before) × (left ≡ Some w)))

-- the number of what the host does then
abbrev pub done_number : Saved → ℕ
done_number saves.Saved = 0
done_number saves.ActNow = act_now

-- What waited for the image is released, and the clock counts as saved. Its host acts now if the image has a change that was undertaken and
-- not decided since. It does so once.
pub record IsSaved (w : SavingClock) (number : ℕ) (x : SavingClock) : Type 0 where
  pub number_is : number ≡ done_number (if acts_once_saved w then saves.ActNow else saves.Saved)
  pub asked : (b : ClockBatch) (count : ℕ)
      → IsAsBatch w b count
      → acts_once_saved w ≡ is_some (asked_once_saved (clock_in w.clock.value) b count)
  pub once : acts_once_saved x ≡ false
  pub called : (b : ClockBatch) (count later : ℕ)
      → IsAsBatch w b count
      → IsAsBatch x (called_at w b (Confirms count)) later
  pub waits_is : x.waits ≡ w.is_changed
  pub clock_is : x.clock ≡ w.clock
  pub free_is : free_places x ≡ free_places w

-- the first message that was released is given out
pub record GivesMessage (w : SavingClock) (message : Sent) (x : SavingClock) : Type 0 where
  pub called : IsCalledAt w GivesOut x
  pub given : (b : ClockBatch) (count : ℕ)
      → IsAsBatch w b count
      → (called_at w b GivesOut).sent ≡ b.sent ++ message_in message ∷ []
  pub clock_is : x.clock ≡ w.clock
  pub waits_is : x.waits ≡ w.waits
  pub begun_is : x.is_begun ≡ w.is_begun

-- ---- an observation

-- the clock is observed as any other, and so is what it shows; the answers are those of any other
pub record ObservesCall (w : SavingClock) (o : ObservedClock) (ports : List ObservedPort) (number left : ℕ) (kept : Option SavingClock) : Type 0 where
  pub observed : IsSomeAnd kept (λ x. IsObserved o ports w.clock.value x.clock.value × (x.waits ≡ w.waits) × (x.is_begun ≡ w.is_begun))
  pub accepted : observe_refusal o ports w.clock.value ≡ None
      → (number ≡ 0) × (left ≡ left_number (ports_left ports w.clock.value))
  pub refused : (e : ObservationError)
      → observe_refusal o ports w.clock.value ≡ Some e
      → (number ≡ observe_number e) × ((left ≡ 0) × (kept ≡ Some w))

-- if nothing refuses it, it is that call
abbrev pub NotesCall : SavingClock → ObservedClock → List ObservedPort → Option SavingClock → Type 0
NotesCall w o ports kept =
    observe_refusal o ports w.clock.value ≡ None
    → IsSomeAnd kept (IsCalledAt w (Observes (record { clock = clock_observation o; ports = port_observations ports })))
