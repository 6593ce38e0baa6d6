-- What a clock undertakes, and how it is decided, at a clock that is saved while it goes on.
use Rattle.std.proofs.Common.{◌≡◌, ◌∙◌, ◌&&◌, ◌||◌, Bool, true, false, not, ap, append-nil, refl, subst, sym, List, [], ◌∷◌, ◌++◌, ℕ, Option, Some, None, if◌then◌else◌}
use Rattle.std.specs.Prelude.{is_some}
use Rattle.std.proofs.lemmas.Bool.{false≢true}
use Rattle.ptpm_codec.specs.declared.message.Message.{Message}
use Rattle.ptpm_codec.specs.Layout.{message_octets}
use Rattle.ptpm_codec.specs.Reading.{IsWellFormed, message_of}
use Rattle.ptpm_codec.proofs.ReadingLaws.{message_of-some}
use Rattle.ptpm_agent.specs.declared.verdict.Verdict.TheVariants as verdicts
use Rattle.ptpm_agent.specs.Turn.{NumberedRequest, State, outbox_of}
use Rattle.ptpm_device.specs.Asking as asking
use Rattle.ptpm_device.specs.Asking.{asked, asked_by}
use Rattle.ptpm_device.specs.Saying.{Say, turn_said}
use Rattle.ptpm_saved.specs.Batching.{Handles, answers, holds, is_held, live, shown, waits}
use Rattle.ptpm_saved.specs.Saving.{Came}
use Rattle.ptpm_saved.specs.SavingClock.{Datagram}
use Rattle.ptpm_host.specs.declared.saving_clock.Acting.TheVariants as actings
use Rattle.ptpm_host.specs.declared.saving_clock.SavingClock.{SavingClock}
use Rattle.ptpm_host.specs.Clock.{DeviceClock, clock_in, state_in}
use Rattle.ptpm_host.specs.Coming.{ClockBatch, ClockState, Coming, Decides, Undertakes, after_coming, coming_process, is_change_of, is_held_by, messages_for, undertakes}
use Rattle.ptpm_host.specs.KeptBatch.{IsKept, LeadsTo, kept_held}
use Rattle.ptpm_host.specs.Queue.{queued}
use Rattle.ptpm_host.specs.SavingClock as saving
use Rattle.ptpm_host.specs.SavingClock.{IsAsBatch, called_at, clock_state_in, kept_of, shown_sets}
use Rattle.ptpm_host.proofs.AskedCalls.{IsAskedOf, asks_decided, asks_held, asks_new, asks_waiting, is_batch, led_to, under_way_of}
use Rattle.ptpm_host.proofs.Batches.{quiet_shown, waiting, waiting_silent}
use Rattle.ptpm_host.proofs.SavingCalls.{Kept}

-- ---- what is asked

pub asked_well_formed : (c : DeviceClock) (s : State) (datagram : List ℕ)
    → is_some (asked c.rows c.clock s datagram) ≡ true
    → IsWellFormed datagram
unfolding asked
asked_well_formed c s datagram is = by_message (message_of datagram) refl is
  where
    by_message : (o : Option Message) → message_of datagram ≡ o → is_some (asked_by c.rows c.clock s o) ≡ true → IsWellFormed datagram
    by_message None read is = absurd (false≢true is)
    by_message (Some v) read is = (message_of-some datagram v read).0

-- ---- what changes nothing, and sends nothing

or_none : (b : Bool) → (b || false) ≡ b
or_none true = refl
or_none false = refl

or_true : (b : Bool) → true ≡ (b || true)
or_true true = refl
or_true false = refl

module _ (old : SavingClock) (x : Coming) (b : ClockBatch) (count : ℕ) (as_batch : IsAsBatch old b count)
    (held : is_held_by (clock_in old.clock.value) x ≡ true) where
  abbrev c : DeviceClock
  c = clock_in old.clock.value

  abbrev s : ClockState
  s = clock_state_in old.clock.value

  -- while nothing waits, it waits if it changes the clock
  held_quiet : (h : Bool)
      → waits b.since ≡ false
      → is_change_of c s x ≡ h
      → is_held (coming_process c) (is_held_by c) b x ≡ h
  held_quiet h still is =
      let here : shown (coming_process c) b ≡ s = sym (quiet_shown (coming_process c) b.base b.since still) ∙ as_batch.kept.live in
      (λ i. held i && (if still i then true else is_change_of c (here i) x)) ∙ is

  held_waiting : waits b.since ≡ true → is_held (coming_process c) (is_held_by c) b x ≡ true
  held_waiting still = λ i. held i && (if still i then true else (coming_process c).changes (shown (coming_process c) b) x)

  -- what changes the clock waits
  pub waits_here : is_change_of c s x ≡ true → is_held (coming_process c) (is_held_by c) b x ≡ true
  waits_here is = by_waits (waits b.since) refl
    where
      by_waits : (w : Bool) → waits b.since ≡ w → is_held (coming_process c) (is_held_by c) b x ≡ true
      by_waits true still = held_waiting still
      by_waits false still = held_quiet true still is

  module _ (none : is_change_of c s x ≡ false) (silent : (t : ClockState) → messages_for c t x ≡ []) (same : after_coming c s x ≡ s)
      (asks : IsAskedOf old (record b { since = b.since ++ Came x ∷ [] }) count) (empty : old.ready ≡ 0) where
    pub unmoved_call : IsAsBatch old (called_at old b (Handles x)) count
    unmoved_call = by_waits (waits b.since) refl
      where
        by_waits : (w : Bool) → waits b.since ≡ w → IsAsBatch old (called_at old b (Handles x)) count
        by_waits true still =
            let is = held_waiting still in
            let l : kept_held s [] false (kept_of old) ≡ kept_of old = λ i. record (kept_of old) {
              messages = append-nil (queued old.queue) i;
              waits = (sym still ∙ as_batch.kept.waits) i;
              is_changed = or_none old.is_changed i;
            } in
            is_batch old (called_at old b (Handles x)) count
            (subst (λ k. IsKept (coming_process c) shown_sets k (called_at old b (Handles x)) count)
            ((λ i. kept_held (same i) [] (none i) (kept_of old)) ∙ l)
            (waiting_silent (coming_process c) shown_sets (is_held_by c) (kept_of old) b count x as_batch.kept is (silent s)))
            (subst (λ (h : Bool). IsAskedOf old (if h then holds b x else answers (coming_process c) b x) count) (sym is) asks)
        by_waits false still =
            let is = held_quiet false still none in
            let stays : answers (coming_process c) b x ≡ b =
            λ i. record b { ready = (ap (λ l. b.ready ++ l) (silent (shown (coming_process c) b)) ∙ append-nil b.ready) i } in
            subst (λ (h : Bool). IsAsBatch old (if h then holds b x else answers (coming_process c) b x) count) (sym is)
            (subst (λ (d : ClockBatch). IsAsBatch old d count) (sym stays) as_batch)

-- ---- a datagram that asks nothing, and one that is undertaken

undertakes_not : (u : Option Datagram) (r : Option NumberedRequest) → r ≡ None → (not (is_some u) && is_some r) ≡ false
undertakes_not None r none = ap is_some none
undertakes_not (Some x) r none = refl

undertakes_now : (u : Option Datagram) (r : Option NumberedRequest) → u ≡ None → is_some r ≡ true → (not (is_some u) && is_some r) ≡ true
undertakes_now u r none is = (λ i. not (is_some (none i)) && is i)

stays_if : (h : Bool) (t s : ClockState) → h ≡ false → (if h then t else s) ≡ s
stays_if true t s none = absurd (false≢true (sym none))
stays_if false t s none = refl

goes_if : (h : Bool) (t s : ClockState) → h ≡ true → (if h then t else s) ≡ t
goes_if true t s is = refl
goes_if false t s is = absurd (false≢true is)

under_way_if : (h : Bool) (t s : ClockState) → h ≡ false → (if h then t else s).under_way ≡ s.under_way
under_way_if h t s none = ap (λ (r : ClockState). r.under_way) (stays_if h t s none)

pub unasked_call : (old : SavingClock) (port : ℕ) (datagram : List ℕ) (b : ClockBatch) (count : ℕ)
    → asked (clock_in old.clock.value).rows (clock_in old.clock.value).clock (state_in old.clock.value) datagram ≡ None
    → old.ready ≡ 0
    → IsAsBatch old b count
    → IsAsBatch old (called_at old b (Handles (Undertakes port datagram))) count
unasked_call old port datagram b count nothing empty as_batch =
    let c = clock_in old.clock.value in
    let s : ClockState = clock_state_in old.clock.value in
    let x = Undertakes port datagram in
    let none : undertakes c s datagram ≡ false = undertakes_not s.under_way (asked c.rows c.clock s.state datagram) nothing in
    let now : ClockState = live (coming_process c) b in
    let none_now : undertakes c now datagram ≡ false = ap (λ (t : ClockState). undertakes c t datagram) as_batch.kept.live ∙ none in
    unmoved_call old x b count as_batch refl none (λ t. refl)
    (stays_if (undertakes c s datagram) (record s { under_way = Some (port, message_octets datagram) }) s none)
    (asks_held old old b count as_batch (Came x) b.ready b.sent
    (record { clock = refl; acting = refl; under_way = refl; imaged = λ is. is }) refl
    (under_way_if (undertakes c now datagram) (record now { under_way = Some (port, message_octets datagram) }) now none_now))
    empty

pub undertaken_call : (old new : SavingClock) (port : ℕ) (datagram : List ℕ) (b : ClockBatch) (count : ℕ)
    → is_some (asked (clock_in old.clock.value).rows (clock_in old.clock.value).clock (state_in old.clock.value) datagram) ≡ true
    → under_way_of old ≡ None
    → clock_in new.clock.value ≡ clock_in old.clock.value
    → new.acting ≡ actings.AnImage
    → (new.is_imaged ≡ true → old.is_imaged ≡ true)
    → under_way_of new ≡ Some (port, message_octets datagram)
    → kept_of new ≡ record (kept_of old) {
      live = record (clock_state_in old.clock.value) { under_way = Some (port, message_octets datagram) };
      waits = true;
      is_changed = true;
    }
    → IsAsBatch old b count
    → IsAsBatch new (called_at old b (Handles (Undertakes port datagram))) count
undertaken_call old new port datagram b count is free clock acting imaged under_way kept as_batch =
    let c = clock_in old.clock.value in
    let s : ClockState = clock_state_in old.clock.value in
    let x = Undertakes port datagram in
    let change : undertakes c s datagram ≡ true = undertakes_now s.under_way (asked c.rows c.clock s.state datagram) free is in
    let now : ClockState = live (coming_process c) b in
    let change_now : undertakes c now datagram ≡ true = ap (λ (t : ClockState). undertakes c t datagram) as_batch.kept.live ∙ change in
    let held = waits_here old x b count as_batch refl change in
    let next : ClockState = record s { under_way = Some (port, message_octets datagram) } in
    let l : ◌≡◌ {A = Kept} (kept_held (after_coming c s x) [] (undertakes c s datagram) (kept_of old)) (kept_of new) =
    (λ i. record (kept_of old) {
      live = goes_if (undertakes c s datagram) next s change i;
      messages = append-nil (queued old.queue) i;
      waits = true;
      is_changed = (ap (λ h. old.is_changed || h) change ∙ sym (or_true old.is_changed)) i;
    }) ∙ sym kept in
    is_batch new (called_at old b (Handles x)) count
    (subst (λ (d : DeviceClock). IsKept (coming_process d) shown_sets (kept_of new) (called_at old b (Handles x)) count) (sym clock)
    (subst (λ k. IsKept (coming_process c) shown_sets k (called_at old b (Handles x)) count) l
    (waiting_silent (coming_process c) shown_sets (is_held_by c) (kept_of old) b count x as_batch.kept held refl)))
    (subst (λ (h : Bool). IsAskedOf new (if h then holds b x else answers (coming_process c) b x) count) (sym held)
    (asks_new old new b count as_batch (Came x) b.ready b.sent clock acting imaged free
    (under_way ∙ sym (ap (λ (t : ClockState). t.under_way)
    (goes_if (undertakes c now datagram) (record now { under_way = Some (port, message_octets datagram) }) now change_now))) refl))

-- ---- a decision

pub decided_call : (old new : SavingClock) (x : Datagram) (say : Say) (made : List (ℕ × List ℕ)) (next : State) (b : ClockBatch) (count : ℕ)
    → under_way_of old ≡ Some x
    → next ≡ (turn_said (clock_in old.clock.value).rows (clock_in old.clock.value).clock (state_in old.clock.value) say x.0 x.1).next
    → made ≡ outbox_of (turn_said (clock_in old.clock.value).rows (clock_in old.clock.value).clock (state_in old.clock.value) say x.0 x.1)
    → clock_in new.clock.value ≡ clock_in old.clock.value
    → new.acting ≡ actings.Nothing
    → (new.is_imaged ≡ true → old.is_imaged ≡ true)
    → kept_of new ≡ record (kept_of old) {
      live = record { state = next; under_way = None };
      messages = queued old.queue ++ made;
      waits = true;
      is_changed = true;
    }
    → old.ready ≡ 0
    → IsAsBatch old b count
    → saving.LeadsTo [] new (called_at old b (Handles (Decides say))) count
decided_call old new x say made next b count busy next_is made_is clock acting imaged kept empty as_batch =
    let c = clock_in old.clock.value in
    let s : ClockState = clock_state_in old.clock.value in
    let y = Decides say in
    let change : is_some s.under_way ≡ true = ap is_some busy in
    let held = waits_here old y b count as_batch refl change in
    let after : after_coming c s y ≡ record { state = next; under_way = None } =
    ap (λ (o : Option Datagram). after_coming c (record s { under_way = o }) y) busy ∙ (λ i. record { state = sym next_is i; under_way = None }) in
    let sends : messages_for c s y ≡ made = ap (λ (o : Option Datagram). messages_for c (record s { under_way = o }) y) busy ∙ sym made_is in
    let l : ◌≡◌ {A = Kept} (kept_held (after_coming c s y) made (is_some s.under_way) (kept_of old)) (kept_of new) =
    (λ i. record (kept_of old) {
      live = after i;
      messages = queued old.queue ++ made;
      waits = true;
      is_changed = (ap (λ h. old.is_changed || h) change ∙ sym (or_true old.is_changed)) i;
    }) ∙ sym kept in
    led_to [] new (called_at old b (Handles y)) count
    (subst (λ (d : DeviceClock). LeadsTo (coming_process d) shown_sets [] (kept_of new) (called_at old b (Handles y)) count) (sym clock)
    (subst (λ k. LeadsTo (coming_process c) shown_sets [] k (called_at old b (Handles y)) count) l
    (waiting (coming_process c) shown_sets (is_held_by c) (kept_of old) b count y made as_batch.kept empty held sends)))
    (asks_waiting old new b count as_batch y held
    (asks_decided old new b count as_batch (Came y) [] (b.sent ++ b.ready) clock acting imaged refl refl))
