-- The clock that takes what comes in, and what its owner asks, is a sound process; what it holds may change it, and nothing else may.
use Rattle.std.proofs.Common.{◌≡◌, ◌≢◌, ◌∙◌, ap, refl, false, ℕ, List, ◌&&◌, ◌||◌, ◌==◌, Bool, true, not, sym, subst, [], ◌∷◌, length, Option, Some, None, Result, Ok, Err, if◌then◌else◌}
use Rattle.ptpm_agent.specs.declared.verdict.Verdict.{Verdict}
use Rattle.ptpm_agent.specs.Agent.{IsTurned}
use Rattle.ptpm_agent.specs.Turn.{State, turn, Clock, Turned, is_repeat, judged, next_by, outbox_of, verdict_at}
use Rattle.ptpm_saved.specs.SavingClock.{is_new, CanBe, Datagram, clock_process}
use Rattle.ptpm_saved.proofs.SavingLaws.{clock_sound}
use Rattle.ptpm_host.specs.declared.clock.HostedClock.{HostedClock}
use Rattle.ptpm_host.specs.Clock.{DeviceClock, clock_in, state_in}
use Rattle.std.specs.FinMap.{empty, get}
use Rattle.std.specs.Prelude.{is_some}
use Rattle.ptpm_codec.specs.Layout.{message_octets}
use Rattle.std.proofs.lemmas.Bool.{false≢true}
use Rattle.ptpm_codec.specs.declared.error.DecodeError.{DecodeError}
use Rattle.ptpm_codec.specs.declared.message.Action.{Action}
use Rattle.ptpm_codec.specs.declared.message.Message.{Message}
use Rattle.ptpm_codec.specs.Message.{action_of, is_reply}
use Rattle.ptpm_codec.specs.Reading.{message_of, reading}
use Rattle.ptpm_data.specs.Members.{DataSetsValue}
use Rattle.ptpm_data.specs.ObservationBack.{Observation}
use Rattle.ptpm_data.specs.Reply.{ReplyValue}
use Rattle.ptpm_data.specs.Rights.{all_rights}
use Rattle.ptpm_data.proofs.Consistency.{changed_by-consistent}
use Rattle.ptpm_data.proofs.Keeping.{changed_by-get}
use Rattle.ptpm_table.specs.declared.reply_table.Look.{Look}
use Rattle.ptpm_table.specs.Entries.{Entries}
use Rattle.ptpm_table.specs.Numbering.{look_of}
use Rattle.ptpm_agent.specs.Addressing.{is_addressed, is_numbered, is_own, is_request, request_of}
use Rattle.ptpm_agent.proofs.Turns.{turn-ports, new_parts, reading-message_of, turn-message}
use Rattle.ptpm_device.specs.Relayed.{is_change}
use Rattle.ptpm_device.specs.Saying.{Say, new_said, reply_said, reply_told, said_at, turn_said, unnumbered_said}
use Rattle.ptpm_device.proofs.Judged.{turn_said-verdict}
use Rattle.ptpm_device.proofs.Steps.{turn_said-at, turn_said-each, turn_said-unread}
use Rattle.ptpm_saved.specs.Batching.{HoldsChanges}
use Rattle.ptpm_saved.specs.BatchingClock.{is_numbered_in, is_of_manager}
use Rattle.ptpm_saved.specs.Saving.{IsSound, noted_each}
use Rattle.ptpm_host.specs.Changing.{owner_by, owner_clock, owner_turn, owner_turned, owner_verdict}
use Rattle.ptpm_host.specs.Coming.{Changed, ClockState, Coming, Decides, Heard, OfOwner, Undertakes, after_coming, coming_process, datagram_in, decided, is_change_of, is_held_by, messages_for, turn_of, undertakes}
use Rattle.ptpm_agent.specs.declared.verdict.Verdict.TheVariants as verdicts
use Rattle.ptpm_codec.specs.declared.message.Action.TheVariants as actions
use Rattle.ptpm_table.specs.declared.reply_table.Look.TheVariants as looks
use Rattle.ptpm_saved.proofs.BatchingLaws as clocks

-- ---- a turn whose verdict is not AnsweredNew leaves the data sets

pub not_new : (verdict : Verdict) → verdict ≢ verdicts.AnsweredNew → is_new verdict ≡ false
not_new verdicts.AnsweredNew other = absurd (other refl)
not_new _ other = refl

pub sets_stay : (before after : HostedClock) (port : ℕ) (datagram : List ℕ) (verdict : Verdict) (outbox : List (ℕ × List ℕ))
    → IsTurned (turn (clock_in before).clock (state_in before) port datagram) verdict outbox (state_in after)
    → verdict ≢ verdicts.AnsweredNew
    → after.agent.sets ≡ before.agent.sets
sets_stay before after port datagram verdict outbox turned other =
    let same = not_new _ (λ new. other (turned.verdict_is ∙ new)) in
    let next = (clock_sound (clock_in before).clock).unchanged (state_in before) (port, datagram) same in
    turned.sets_are ∙ ap (λ (s : State). s.sets) next

-- ---- what the owner asks

-- what holds of the clock's own turn, and of what is left of the owner's, holds of the turn
module _ (P : Turned → Type 0) (c : Clock) (s : State) (port : ℕ) (datagram : List ℕ) where
  each_owner : (o : Option Message)
      → P (turn c s port datagram)
      → ((v : Message) → o ≡ Some v
      → P (owner_turned v s.entries (turn (owner_clock c.identity v.source) (record { sets = s.sets; entries = empty }) port datagram)))
      → P (owner_by c s port datagram o)
  each_owner None own owned = own
  each_owner (Some v) own owned = owned v refl

  pub owner_turn-each : P (turn c s port datagram)
      → ((v : Message) → message_of datagram ≡ Some v
      → P (owner_turned v s.entries (turn (owner_clock c.identity v.source) (record { sets = s.sets; entries = empty }) port datagram)))
      → P (owner_turn c s port datagram)
  unfolding owner_turn
  owner_turn-each own owned = each_owner (message_of datagram) own owned

-- of no message it is the clock's own
pub owner_unread : (c : Clock) (s : State) (port : ℕ) (datagram : List ℕ) (cause : DecodeError)
    → reading datagram ≡ Err cause
    → owner_turn c s port datagram ≡ turn c s port datagram
owner_unread c s port datagram cause malformed =
    owner_turn-each (λ t. t ≡ turn c s port datagram) c s port datagram refl
    (λ v read. absurd (same_reading cause v (sym malformed ∙ reading-message_of datagram v read)))
  where
    same_reading : (e : DecodeError) (v : Message) → ◌≡◌ {A = Result Message DecodeError} (Err e) (Ok v) → ⊥
    same_reading e v same = cc

-- a request that is no change reads
reads : (q : Action) → is_change q ≡ false → not (is_reply q) ≡ true → q ≡ actions.Get
reads actions.Get none request = refl
reads actions.Set none request = absurd (false≢true (sym none))
reads actions.Command none request = absurd (false≢true (sym none))
reads actions.Response none request = absurd (false≢true request)
reads actions.Acknowledge none request = absurd (false≢true request)

no_change : (b : Bool) → is_new (if b then verdicts.AnsweredNew else verdicts.AnsweredUnnumbered) ≡ false → b ≡ false
no_change true none = absurd (false≢true (sym none))
no_change false none = refl

owned_same : (k : Clock) (sets : DataSetsValue) (kept : Entries) (v : Message) (w : Verdict)
    → judged k (record { sets = sets; entries = empty }) v ≡ w
    → is_new (owner_verdict v w) ≡ false
    → ◌≡◌ {A = State} (record { sets = (next_by w k (record { sets = sets; entries = empty }) v).sets; entries = kept })
    (record { sets = sets; entries = kept })
owned_same k sets kept v verdicts.AnsweredNew is none =
    let request = (new_parts k (record { sets = sets; entries = empty }) v is).request in
    λ i. record {
      sets = changed_by-get (request_of v) (k.rights v.source) sets (reads (action_of v.body) (no_change (is_change (action_of v.body)) none) request) i;
      entries = kept;
    }
owned_same k sets kept v _ is none = refl

module _ (c : DeviceClock) where
  said_unchanged : (s : State) (port : ℕ) (datagram : List ℕ) (say : Say)
      → is_new (turn_said c.rows c.clock s say port datagram).verdict ≡ false
      → (turn_said c.rows c.clock s say port datagram).next ≡ s
  said_unchanged s port datagram say =
      turn_said-each (λ t. is_new t.verdict ≡ false → t.next ≡ s) c.rows c.clock s say port datagram
      ((clock_sound c.clock).unchanged s (port, datagram))
      (λ v reply read new is same. absurd (false≢true (sym same)))
      (λ v reply read other is same. refl)

  said_can_be : (s : State) (port : ℕ) (datagram : List ℕ) (say : Say) → CanBe s → CanBe (turn_said c.rows c.clock s say port datagram).next
  said_can_be s port datagram say can =
      turn_said-each (λ t. CanBe t.next) c.rows c.clock s say port datagram ((clock_sound c.clock).after_can_be s (port, datagram) can)
      (λ v reply read new is. can) (λ v reply read other is. can)

  owner_can_be : (s : State) (port : ℕ) (datagram : List ℕ) → CanBe s → CanBe (owner_turn c.clock s port datagram).next
  owner_can_be s port datagram can =
      owner_turn-each (λ t. CanBe t.next) c.clock s port datagram ((clock_sound c.clock).after_can_be s (port, datagram) can)
      (λ v read. (clock_sound (owner_clock c.clock.identity v.source)).after_can_be (record { sets = s.sets; entries = empty }) (port, datagram) can)

  owner_unchanged : (s : State) (port : ℕ) (datagram : List ℕ)
      → is_new (owner_turn c.clock s port datagram).verdict ≡ false
      → (owner_turn c.clock s port datagram).next ≡ s
  owner_unchanged s port datagram =
      owner_turn-each (λ t. is_new t.verdict ≡ false → t.next ≡ s) c.clock s port datagram
      ((clock_sound c.clock).unchanged s (port, datagram))
      (λ v read.
      let k = owner_clock c.clock.identity v.source in
      let s0 : State = record { sets = s.sets; entries = empty } in
      subst (λ t. is_new (owner_turned v s.entries t).verdict ≡ false → (owner_turned v s.entries t).next ≡ s)
      (sym (turn-message k s0 port datagram v read))
      (owned_same k s.sets s.entries v (judged k s0 v) refl))

  -- ---- it is sound

  unchanged_if : (s t : ClockState) (b : Bool) → b ≡ false → (if b then t else s) ≡ s
  unchanged_if s t true same = absurd (false≢true (sym same))
  unchanged_if s t false same = refl

  undecided : (s : State) (o : Option Datagram) (say : Say)
      → is_some o ≡ false
      → ◌≡◌ {A = ClockState} (record { state = decided c s say o; under_way = None }) (record { state = s; under_way = o })
  undecided s None say same = refl
  undecided s (Some x) say same = absurd (false≢true (sym same))

  unchanged : (s : ClockState) (x : Coming) → is_change_of c s x ≡ false → after_coming c s x ≡ s
  unchanged s (Heard port datagram say) same = λ i. record s { state = said_unchanged s.state port datagram say same i }
  unchanged s (OfOwner port datagram) same = λ i. record s { state = owner_unchanged s.state port datagram same i }
  unchanged s (Changed request) same = absurd (false≢true (sym same))
  unchanged s (Undertakes port datagram) same =
      unchanged_if s (record s { under_way = Some (port, message_octets datagram) }) (undertakes c s datagram) same
  unchanged s (Decides say) same = undecided s.state s.under_way say same

  undertaken_can_be : (s t : ClockState) (b : Bool) → CanBe s.state → CanBe t.state → CanBe (if b then t else s).state
  undertaken_can_be s t true can next = next
  undertaken_can_be s t false can next = can

  decided_can_be : (s : State) (say : Say) (o : Option Datagram) → CanBe s → CanBe (decided c s say o)
  decided_can_be s say None can = can
  decided_can_be s say (Some x) can = said_can_be s x.0 x.1 say can

  after_can_be : (s : ClockState) (x : Coming) → CanBe s.state → CanBe (after_coming c s x).state
  after_can_be s (Heard port datagram say) can = said_can_be s.state port datagram say can
  after_can_be s (OfOwner port datagram) can = owner_can_be s.state port datagram can
  after_can_be s (Changed request) can = changed_by-consistent request all_rights s.state.sets can
  after_can_be s (Undertakes port datagram) can =
      undertaken_can_be s (record s { under_way = Some (port, message_octets datagram) }) (undertakes c s datagram) can can
  after_can_be s (Decides say) can = decided_can_be s.state say s.under_way can

  noted_same : (notes : List Observation) (s : ClockState)
      → noted_each (coming_process c) notes s ≡ record s { state = noted_each (clock_process c.clock) notes s.state }
  noted_same [] s = refl
  noted_same (n ∷ notes) s = noted_same notes (record s { state = (clock_process c.clock).noted s.state n })

  pub coming_sound : IsSound (coming_process c) (λ s. CanBe s.state)
  coming_sound = record {
    unchanged = unchanged;
    goes_back = λ s notes can.
        ap (λ t. (coming_process c).noted t ((coming_process c).back s)) (noted_same notes s)
        ∙ (λ i. record s { state = (clock_sound c.clock).goes_back s.state notes can i });
    after_can_be = after_can_be;
    noted_can_be = λ s n can. (clock_sound c.clock).noted_can_be s.state n can;
  }

  -- ---- what is held

  pub said_old : (s : State) (port : ℕ) (datagram : List ℕ) (say : Say)
      → is_of_manager c.clock (port, datagram) ≡ false
      → is_new (turn_said c.rows c.clock s say port datagram).verdict ≡ false
  said_old s port datagram say other =
      ap is_new (turn_said-verdict c.rows c.clock s say port datagram) ∙ clocks.holds_changes c.clock s (port, datagram) other

  pub coming_holds : HoldsChanges (coming_process c) (is_held_by c)
  coming_holds s (Heard port datagram say) other = said_old s.state port datagram say other
  coming_holds s _ other = absurd (false≢true (sym other))

  -- ---- by the data sets alone

  -- a message's verdict, by what is kept of its manager
  abbrev judged_at : Look → State → Message → Verdict
  judged_at l s v =
      if not (v.sdo == 0 && (v.domain == s.sets.default.domain || (not (is_own c.clock v) && (is_addressed c.clock s.sets v && (is_request v && is_repeat l))))) then verdicts.OtherDomain
      else if is_own c.clock v then verdicts.OwnMessage
      else if not (is_addressed c.clock s.sets v) then verdicts.NotAddressed
      else if not (is_request v) then verdicts.NotARequest
      else verdict_at l

  judged_unknown : (s : State) (v : Message) → is_numbered c.clock v ≡ false → judged c.clock s v ≡ judged_at looks.Unknown s v
  unfolding judged
  judged_unknown s v is =
      ap (λ (l : Look). judged_at l s v) (ap (λ (b : Bool). look_of b (get s.entries v.source) v.number (request_of v)) is)

  judged_alone : (s : State) (e : Entries) (v : Message) → is_numbered c.clock v ≡ false → judged c.clock s v ≡ judged c.clock (record { sets = s.sets; entries = e }) v
  judged_alone s e v is = judged_unknown s v is ∙ sym (judged_unknown (record { sets = s.sets; entries = e }) v is)

  module _ (s : State) (e : Entries) (port : ℕ) (datagram : List ℕ) (say : Say)
      (own : outbox_of (turn c.clock s port datagram) ≡ outbox_of (turn c.clock (record { sets = s.sets; entries = e }) port datagram)) where
    unnumbered_alone : (v : Message) (o : Option ReplyValue)
        → outbox_of (unnumbered_said c.clock s port datagram v o) ≡ outbox_of (unnumbered_said c.clock (record { sets = s.sets; entries = e }) port datagram v o)
    unnumbered_alone v None = own
    unnumbered_alone v (Some reply) = refl

    new_alone : (v : Message) (o : Option ReplyValue)
        → outbox_of (new_said c.clock s port datagram v o) ≡ outbox_of (new_said c.clock (record { sets = s.sets; entries = e }) port datagram v o)
    new_alone v None = own
    new_alone v (Some reply) = refl

    said_at_alone : (v : Message) (w : Verdict)
        → outbox_of (said_at w c.rows c.clock s port datagram v say) ≡ outbox_of (said_at w c.rows c.clock (record { sets = s.sets; entries = e }) port datagram v say)
    said_at_alone v verdicts.AnsweredNew = new_alone v (reply_said c.rows c.clock s.sets v.source (request_of v) say)
    said_at_alone v verdicts.AnsweredUnnumbered = unnumbered_alone v (reply_told (request_of v) say)
    said_at_alone v _ = own

    said_by_alone : (o : Option Message)
        → message_of datagram ≡ o
        → is_of_manager c.clock (port, datagram) ≡ false
        → outbox_of (turn_said c.rows c.clock s say port datagram) ≡ outbox_of (turn_said c.rows c.clock (record { sets = s.sets; entries = e }) say port datagram)
    said_by_alone None read is =
        ap outbox_of (turn_said-unread c.rows c.clock s say port datagram read) ∙ own
        ∙ sym (ap outbox_of (turn_said-unread c.rows c.clock (record { sets = s.sets; entries = e }) say port datagram read))
    said_by_alone (Some v) read is =
        let unnumbered : is_numbered c.clock v ≡ false = sym (ap (is_numbered_in c.clock) (reading-message_of datagram v read)) ∙ is in
        let same = judged_alone s e v unnumbered in
        ap outbox_of (turn_said-at c.rows c.clock s say port datagram v (judged c.clock s v) read refl)
        ∙ said_at_alone v (judged c.clock s v)
        ∙ sym (ap outbox_of (turn_said-at c.rows c.clock (record { sets = s.sets; entries = e }) say port datagram v (judged c.clock s v) read (sym same)))

  pub said_alone : (s : State) (e : Entries) (port : ℕ) (datagram : List ℕ) (say : Say)
      → is_of_manager c.clock (port, datagram) ≡ false
      → outbox_of (turn_said c.rows c.clock s say port datagram) ≡ outbox_of (turn_said c.rows c.clock (record { sets = s.sets; entries = e }) say port datagram)
  said_alone s e port datagram say is =
      said_by_alone s e port datagram say (clocks.by_sets_alone c.clock s e (port, datagram) is) (message_of datagram) refl is

  pub coming_alone : (s t : ClockState) (x : Coming)
      → is_held_by c x ≡ false
      → s.state.sets ≡ t.state.sets
      → messages_for c s x ≡ messages_for c t x
  coming_alone s t (Heard port datagram say) is same =
      said_alone s.state t.state.entries port datagram say is
      ∙ ap (λ (d : DataSetsValue). outbox_of (turn_said c.rows c.clock (record { sets = d; entries = t.state.entries }) say port datagram)) same
  coming_alone s t _ is same = absurd (false≢true (sym is))

  -- ---- a datagram, of the owner or not

  pub after_datagram : (s : ClockState) (port : ℕ) (datagram : List ℕ) (say : Say) (of_owner : Bool)
      → after_coming c s (datagram_in port datagram say of_owner) ≡ record s { state = (turn_of c s.state port datagram say of_owner).next }
  after_datagram s port datagram say true = refl
  after_datagram s port datagram say false = refl

  pub messages_of_datagram : (s : ClockState) (port : ℕ) (datagram : List ℕ) (say : Say) (of_owner : Bool)
      → messages_for c s (datagram_in port datagram say of_owner) ≡ outbox_of (turn_of c s.state port datagram say of_owner)
  messages_of_datagram s port datagram say true = refl
  messages_of_datagram s port datagram say false = refl

  pub change_of_datagram : (s : ClockState) (port : ℕ) (datagram : List ℕ) (say : Say) (of_owner : Bool)
      → is_change_of c s (datagram_in port datagram say of_owner) ≡ is_new (turn_of c s.state port datagram say of_owner).verdict
  change_of_datagram s port datagram say true = refl
  change_of_datagram s port datagram say false = refl

  pub held_datagram : (port : ℕ) (datagram : List ℕ) (say : Say) (of_owner : Bool)
      → is_held_by c (datagram_in port datagram say of_owner) ≡ (of_owner || is_of_manager c.clock (port, datagram))
  held_datagram port datagram say true = refl
  held_datagram port datagram say false = refl

  pub turn_of-ports : (s : State) (port : ℕ) (datagram : List ℕ) (say : Say) (of_owner : Bool)
      → length (turn_of c s port datagram say of_owner).next.sets.ports ≡ length s.sets.ports
  turn_of-ports s port datagram say true =
      owner_turn-each (λ t. length t.next.sets.ports ≡ length s.sets.ports) c.clock s port datagram (turn-ports c.clock s port datagram)
      (λ v read. turn-ports (owner_clock c.clock.identity v.source) (record { sets = s.sets; entries = empty }) port datagram)
  turn_of-ports s port datagram say false =
      turn_said-each (λ t. length t.next.sets.ports ≡ length s.sets.ports) c.rows c.clock s say port datagram (turn-ports c.clock s port datagram)
      (λ v reply read new is. refl) (λ v reply read unnumbered is. refl)

  pub turn_of-unchanged : (s : State) (port : ℕ) (datagram : List ℕ) (say : Say) (of_owner : Bool)
      → is_new (turn_of c s port datagram say of_owner).verdict ≡ false
      → (turn_of c s port datagram say of_owner).next ≡ s
  turn_of-unchanged s port datagram say true same = owner_unchanged s port datagram same
  turn_of-unchanged s port datagram say false same = said_unchanged s port datagram say same
