-- What each call of a clock does that is saved while it goes on, against the batch that it is.
use Rattle.std.proofs.Common.{◌≡◌, ◌≢◌, ◌∙◌, ◌++◌, ◌&&◌, ◌||◌, Bool, true, false, ap, refl, sym, subst, List, [], ℕ, None, if◌then◌else◌}
use Rattle.std.proofs.lemmas.Bool.{false≢true}
use Rattle.ptpm_table.specs.Tables.{entries_of_block, owner_of_block}
use Rattle.ptpm_agent.specs.declared.verdict.Verdict.{Verdict}
use Rattle.ptpm_agent.specs.declared.verdict.Verdict.TheVariants as verdicts
use Rattle.ptpm_agent.specs.Agent.{IsTurned}
use Rattle.ptpm_agent.specs.Turn.{State, outbox_of}
use Rattle.ptpm_data.specs.Members.{DataSetsValue}
use Rattle.ptpm_device.specs.Saying.{Say, turn_said}
use Rattle.ptpm_saved.specs.Batching.{Confirms, Handles, is_held, shown, waits}
use Rattle.ptpm_saved.specs.BatchingClock.{is_of_manager}
use Rattle.ptpm_saved.specs.SavingClock.{is_new}
use Rattle.ptpm_host.specs.declared.clock.HostedClock.{HostedClock}
use Rattle.ptpm_host.specs.declared.saving_clock.SavingClock.{SavingClock}
use Rattle.ptpm_host.specs.Clock.{DeviceClock, clock_in, state_in}
use Rattle.ptpm_host.specs.Coming.{ClockBatch, ClockState, Coming, Heard, coming_process, datagram_in, is_held_by, turn_of}
use Rattle.ptpm_host.specs.KeptBatch.{IsKept, KeptBatch, LeadsTo, kept_confirmed, kept_held}
use Rattle.ptpm_host.specs.Queue.{queued}
use Rattle.ptpm_host.specs.SavingClock.{called_at, clock_state_in, kept_of, request_under_way, shown_sets, shown_state}
use Rattle.ptpm_host.proofs.Batches.{answered, confirmed, quiet_shown, waiting}
use Rattle.ptpm_host.proofs.ComingLaws.{after_datagram, change_of_datagram, coming_alone, coming_holds, coming_sound, held_datagram, messages_of_datagram, said_old, turn_of-unchanged, not_new}

-- what is kept of a clock, and that it is of a batch
abbrev pub Kept : Type 0
Kept = KeptBatch ClockState DataSetsValue (ℕ × List ℕ)

abbrev pub IsKeptOf : SavingClock → ClockBatch → ℕ → Type 0
IsKeptOf c b count = IsKept (coming_process (clock_in c.clock.value)) shown_sets (kept_of c) b count

abbrev pub with_state : State → ClockState → ClockState
with_state now s = record s { state = now }

-- a clock that keeps this is led there, if one that keeps as much is
led : (c d : DeviceClock) (k l : Kept) (given : List (ℕ × List ℕ)) (b : ClockBatch) (count : ℕ)
    → d ≡ c
    → l ≡ k
    → LeadsTo (coming_process c) shown_sets given k b count
    → LeadsTo (coming_process d) shown_sets given l b count
led c d k l given b count same kept leads =
    subst (λ e. LeadsTo (coming_process e) shown_sets given l b count) (sym same)
    (subst (λ m. LeadsTo (coming_process c) shown_sets given m b count) (sym kept) leads)

-- anybody else is answered by what is shown
pub shown_call : (old : SavingClock) (d : DeviceClock) (l : Kept) (port : ℕ) (datagram : List ℕ) (say : Say)
    (given : List (ℕ × List ℕ))
    → d ≡ clock_in old.clock.value
    → l ≡ kept_of old
    → old.ready ≡ 0
    → is_of_manager (clock_in old.clock.value).clock (port, datagram) ≡ false
    → given ≡ outbox_of (turn_said (clock_in old.clock.value).rows (clock_in old.clock.value).clock (shown_state old) say port datagram)
    → (b : ClockBatch) (count : ℕ)
    → IsKeptOf old b count
    → LeadsTo (coming_process d) shown_sets given l (called_at old b (Handles (Heard port datagram say))) count
shown_call old d l port datagram say given same kept none other is b count as_batch =
    let c = clock_in old.clock.value in
    let p = coming_process c in
    let s : ClockState = record { state = shown_state old; under_way = None } in
    led c d (kept_of old) l given _ count same kept
    (answered p shown_sets (is_held_by c) (kept_of old) b count (Heard port datagram say) given as_batch none
    (ap (λ h. h && (if waits b.since then true else p.changes (shown p b) (Heard port datagram say))) other)
    (coming_alone c (shown p b) s (Heard port datagram say) other as_batch.shown ∙ sym is))

-- while nothing waits, what changes nothing is answered
pub first_call : (old : SavingClock) (d : DeviceClock) (l : Kept) (port : ℕ) (datagram : List ℕ) (say : Say) (of_owner : Bool) (given : List (ℕ × List ℕ))
    → d ≡ clock_in old.clock.value
    → l ≡ kept_of old
    → old.ready ≡ 0
    → old.waits ≡ false
    → is_new (turn_of (clock_in old.clock.value) (state_in old.clock.value) port datagram say of_owner).verdict ≡ false
    → given ≡ outbox_of (turn_of (clock_in old.clock.value) (state_in old.clock.value) port datagram say of_owner)
    → (b : ClockBatch) (count : ℕ)
    → IsKeptOf old b count
    → LeadsTo (coming_process d) shown_sets given l (called_at old b (Handles (datagram_in port datagram say of_owner))) count
first_call old d l port datagram say of_owner given same kept none quiet old_verdict is b count as_batch =
    let c = clock_in old.clock.value in
    let p = coming_process c in
    let x = datagram_in port datagram say of_owner in
    let still : waits b.since ≡ false = as_batch.waits ∙ quiet in
    let here : shown p b ≡ clock_state_in old.clock.value = sym (quiet_shown p b.base b.since still) ∙ as_batch.live in
    let unchanged : p.changes (shown p b) x ≡ false =
    ap (λ s. p.changes s x) here ∙ change_of_datagram c (clock_state_in old.clock.value) port datagram say of_owner ∙ old_verdict in
    led c d (kept_of old) l given _ count same kept
    (answered p shown_sets (is_held_by c) (kept_of old) b count x given as_batch none
    ((λ i. is_held_by c x && (if still i then true else unchanged i)) ∙ and_false (is_held_by c x))
    (ap (λ s. p.messages s x) here ∙ messages_of_datagram c (clock_state_in old.clock.value) port datagram say of_owner ∙ sym is))
  where
    and_false : (h : Bool) → (h && false) ≡ false
    and_false true = refl
    and_false false = refl

-- what waits: it changes the clock, or is held while something waits
module _ (old : SavingClock) (d : DeviceClock) (l : Kept) (port : ℕ) (datagram : List ℕ) (say : Say) (of_owner : Bool)
    (same : d ≡ clock_in old.clock.value)
    (kept : l ≡ kept_held (with_state (turn_of (clock_in old.clock.value) (state_in old.clock.value) port datagram say of_owner).next (clock_state_in old.clock.value))
    (outbox_of (turn_of (clock_in old.clock.value) (state_in old.clock.value) port datagram say of_owner))
    (is_new (turn_of (clock_in old.clock.value) (state_in old.clock.value) port datagram say of_owner).verdict) (kept_of old))
    (none : old.ready ≡ 0) where
  held_call : (b : ClockBatch) (count : ℕ)
      → IsKeptOf old b count
      → is_held (coming_process (clock_in old.clock.value)) (is_held_by (clock_in old.clock.value)) b (datagram_in port datagram say of_owner) ≡ true
      → LeadsTo (coming_process d) shown_sets [] l
      (called_at old b (Handles (datagram_in port datagram say of_owner))) count
  held_call b count as_batch held =
      let c = clock_in old.clock.value in
      let p = coming_process c in
      let s = clock_state_in old.clock.value in
      let x = datagram_in port datagram say of_owner in
      let t = turn_of c s.state port datagram say of_owner in
      let now : p.after s x ≡ with_state t.next s = after_datagram c s port datagram say of_owner in
      let changes : p.changes s x ≡ is_new t.verdict = change_of_datagram c s port datagram say of_owner in
      led c d (kept_held (with_state t.next s) (outbox_of t) (is_new t.verdict) (kept_of old)) l [] _ count same kept
      (subst (λ k. LeadsTo p shown_sets [] k (called_at old b (Handles x)) count)
      (λ i. kept_held (now i) (outbox_of t) (changes i) (kept_of old))
      (waiting p shown_sets (is_held_by c) (kept_of old) b count x (outbox_of t) as_batch none held
      (messages_of_datagram c s port datagram say of_owner)))

  pub more_call : old.waits ≡ true
      → (of_owner || is_of_manager (clock_in old.clock.value).clock (port, datagram)) ≡ true
      → (b : ClockBatch) (count : ℕ)
      → IsKeptOf old b count
      → LeadsTo (coming_process d) shown_sets [] l (called_at old b (Handles (datagram_in port datagram say of_owner))) count
  more_call unsaved held b count as_batch =
      let c = clock_in old.clock.value in
      let p = coming_process c in
      let x = datagram_in port datagram say of_owner in
      held_call b count as_batch
      (λ i. (held_datagram c port datagram say of_owner ∙ held) i
      && (if (as_batch.waits ∙ unsaved) i then true else p.changes (shown p b) x))

  pub new_call : old.waits ≡ false
      → is_new (turn_of (clock_in old.clock.value) (state_in old.clock.value) port datagram say of_owner).verdict ≡ true
      → (b : ClockBatch) (count : ℕ)
      → IsKeptOf old b count
      → LeadsTo (coming_process d) shown_sets [] l (called_at old b (Handles (datagram_in port datagram say of_owner))) count
  new_call quiet is b count as_batch =
      let c = clock_in old.clock.value in
      let p = coming_process c in
      let s = clock_state_in old.clock.value in
      let x = datagram_in port datagram say of_owner in
      let still : waits b.since ≡ false = as_batch.waits ∙ quiet in
      let here : shown p b ≡ s = sym (quiet_shown p b.base b.since still) ∙ as_batch.live in
      let changes : p.changes s x ≡ true = change_of_datagram c s port datagram say of_owner ∙ is in
      held_call b count as_batch
      (λ i. held_if_new c s x (is_held_by c x) refl changes i
      && (if still i then true else (ap (λ t. p.changes t x) here ∙ changes) i))
    where
      held_if_new : (c : DeviceClock) (s : ClockState) (x : Coming) (h : Bool) → is_held_by c x ≡ h → (coming_process c).changes s x ≡ true → is_held_by c x ≡ true
      held_if_new c s x true is changes = is
      held_if_new c s x false is changes = absurd (false≢true (sym (coming_holds c s x is) ∙ changes))

-- a save, after which the copy is any, since no image counts
pub saved_call : (old : SavingClock) (l : Kept) (copied : DataSetsValue) (b : ClockBatch) (count later : ℕ)
    → l ≡ record (kept_confirmed (kept_of old)) { copied = copied }
    → old.is_imaged ≡ true
    → IsKeptOf old b count
    → IsKept (coming_process (clock_in old.clock.value)) shown_sets l (called_at old b (Confirms count)) later
saved_call old l copied b count later kept imaged as_batch =
    let c = clock_in old.clock.value in
    let done = confirmed (coming_process c) shown_sets (is_held_by c) (coming_sound c).unchanged (kept_of old) b count later as_batch imaged in
    subst (λ k. IsKept (coming_process c) shown_sets k (called_at old b (Confirms count)) later) (sym kept)
    (record { live = done.live; shown = done.shown; waits = done.waits; messages = done.messages; ready = done.ready; image = tt })

-- ---- turns, as code takes them

-- the clock with the shown data sets takes a turn of anybody else, and has its own back
module _ (old : SavingClock) (with_shown turned last : HostedClock) (now : DataSetsValue) (port : ℕ) (datagram : List ℕ) (say : Say) (verdict : Verdict)
    (out : List (ℕ × List ℕ))
    (own : with_shown.agent.table ≡ old.clock.value.agent.table)
    (own_rows : with_shown.relayed.items ≡ old.clock.value.relayed.items)
    (sets : with_shown.agent.sets ≡ old.shown)
    (turns : IsTurned (turn_of (clock_in with_shown) (state_in with_shown) port datagram say false) verdict out (state_in turned))
    (clock : clock_in turned ≡ clock_in with_shown)
    (back : last.agent.sets ≡ old.clock.value.agent.sets)
    (table : last.agent.table ≡ turned.agent.table)
    (rows : last.relayed.items ≡ turned.relayed.items)
    (now_is : now ≡ turned.agent.sets)
    (under_way : last.under_way ≡ old.clock.value.under_way)
    (other : is_of_manager (clock_in old.clock.value).clock (port, datagram) ≡ false) where
  own_clock : clock_in with_shown ≡ clock_in old.clock.value
  own_clock = λ i. record { clock = owner_of_block (own i); rows = own_rows i }

  own_state : state_in with_shown ≡ shown_state old
  own_state = λ i. record { sets = sets i; entries = entries_of_block (own i) }

  own_turn : IsTurned (turn_said (clock_in old.clock.value).rows (clock_in old.clock.value).clock (shown_state old) say port datagram) verdict out (state_in turned)
  own_turn = subst (λ (s : State). IsTurned (turn_said (clock_in old.clock.value).rows (clock_in old.clock.value).clock s say port datagram) verdict out (state_in turned)) own_state
      (subst (λ (c : DeviceClock). IsTurned (turn_said c.rows c.clock (state_in with_shown) say port datagram) verdict out (state_in turned)) own_clock turns)

  same_next : (turn_said (clock_in old.clock.value).rows (clock_in old.clock.value).clock (shown_state old) say port datagram).next ≡ shown_state old
  same_next = turn_of-unchanged (clock_in old.clock.value) (shown_state old) port datagram say false
      (said_old (clock_in old.clock.value) (shown_state old) port datagram say other)

  pub shown_not_new : is_new verdict ≡ false
  shown_not_new = ap is_new own_turn.verdict_is ∙ said_old (clock_in old.clock.value) (shown_state old) port datagram say other

  pub shown_clock : clock_in last ≡ clock_in old.clock.value
  shown_clock =
      let last_clock : clock_in last ≡ clock_in turned = λ i. record { clock = owner_of_block (table i); rows = rows i } in
      last_clock ∙ clock ∙ own_clock

  pub shown_kept : ◌≡◌ {A = Kept} (record (kept_of old) { live = clock_state_in last; shown = now }) (kept_of old)
  shown_kept = λ i. record (kept_of old) {
    live = record {
      state = record {
        sets = back i;
        entries = (ap entries_of_block table ∙ own_turn.entries_are ∙ ap (λ (s : State). s.entries) same_next) i;
      };
      under_way = ap request_under_way under_way i;
    };
    shown = (now_is ∙ own_turn.sets_are ∙ ap (λ (s : State). s.sets) same_next) i;
  }

  pub shown_turn : (b : ClockBatch) (count : ℕ)
      → IsKeptOf old b count
      → old.ready ≡ 0
      → LeadsTo (coming_process (clock_in last)) shown_sets out (record (kept_of old) { live = clock_state_in last; shown = now })
      (called_at old b (Handles (Heard port datagram say))) count
  shown_turn b count as_batch none =
      shown_call old (clock_in last) (record (kept_of old) { live = clock_state_in last; shown = now }) port datagram say out shown_clock shown_kept none other
      own_turn.outbox_is b count as_batch

-- a turn of the clock as it is
module _ (old : SavingClock) (here turned : HostedClock) (port : ℕ) (datagram : List ℕ) (say : Say) (of_owner : Bool) (verdict : Verdict)
    (out : List (ℕ × List ℕ))
    (same : here ≡ old.clock.value)
    (turns : IsTurned (turn_of (clock_in here) (state_in here) port datagram say of_owner) verdict out (state_in turned))
    (clock : clock_in turned ≡ clock_in here)
    (under_way : turned.under_way ≡ here.under_way) where
  live_turn : IsTurned (turn_of (clock_in old.clock.value) (state_in old.clock.value) port datagram say of_owner) verdict out (state_in turned)
  live_turn = subst (λ (h : HostedClock). IsTurned (turn_of (clock_in h) (state_in h) port datagram say of_owner) verdict out (state_in turned)) same turns

  next_state : state_in turned ≡ (turn_of (clock_in old.clock.value) (state_in old.clock.value) port datagram say of_owner).next
  next_state = λ i. record { sets = live_turn.sets_are i; entries = live_turn.entries_are i }

  same_under_way : request_under_way turned.under_way ≡ request_under_way old.clock.value.under_way
  same_under_way = ap request_under_way (under_way ∙ ap (λ (h : HostedClock). h.under_way) same)

  -- it changed nothing
  pub first_turn : (b : ClockBatch) (count : ℕ)
      → IsKeptOf old b count
      → old.ready ≡ 0
      → old.waits ≡ false
      → verdict ≢ verdicts.AnsweredNew
      → LeadsTo (coming_process (clock_in turned)) shown_sets out (record (kept_of old) { live = clock_state_in turned })
      (called_at old b (Handles (datagram_in port datagram say of_owner))) count
  first_turn b count as_batch none quiet unchanged =
      let none_new = ap is_new (sym live_turn.verdict_is) ∙ not_new verdict unchanged in
      let still = next_state ∙ turn_of-unchanged (clock_in old.clock.value) (state_in old.clock.value) port datagram say of_owner none_new in
      first_call old (clock_in turned) (record (kept_of old) { live = clock_state_in turned }) port datagram say of_owner out (clock ∙ ap clock_in same)
      (λ i. record (kept_of old) { live = record { state = still i; under_way = same_under_way i } }) none quiet none_new live_turn.outbox_is b count as_batch

  module _ (messages : List (ℕ × List ℕ)) (waits changed : Bool)
      (all : messages ≡ queued old.queue ++ out)
      (is_waiting : waits ≡ true)
      (is_changed : changed ≡ (old.is_changed || is_new verdict)) where
    kept_now : ◌≡◌ {A = Kept}
        (record (kept_of old) { live = clock_state_in turned; messages = messages; waits = waits; is_changed = changed })
        (kept_held (with_state (turn_of (clock_in old.clock.value) (state_in old.clock.value) port datagram say of_owner).next (clock_state_in old.clock.value))
        (outbox_of (turn_of (clock_in old.clock.value) (state_in old.clock.value) port datagram say of_owner))
        (is_new (turn_of (clock_in old.clock.value) (state_in old.clock.value) port datagram say of_owner).verdict) (kept_of old))
    kept_now = λ i. record (kept_of old) {
      live = record { state = next_state i; under_way = same_under_way i };
      messages = (all ∙ ap (λ l. queued old.queue ++ l) live_turn.outbox_is) i;
      waits = is_waiting i;
      is_changed = (is_changed ∙ ap (λ w. old.is_changed || is_new w) live_turn.verdict_is) i;
    }

    pub new_turn : (b : ClockBatch) (count : ℕ)
        → IsKeptOf old b count
        → old.ready ≡ 0
        → old.waits ≡ false
        → verdict ≡ verdicts.AnsweredNew
        → LeadsTo (coming_process (clock_in turned)) shown_sets []
        (record (kept_of old) { live = clock_state_in turned; messages = messages; waits = waits; is_changed = changed })
        (called_at old b (Handles (datagram_in port datagram say of_owner))) count
    new_turn b count as_batch none quiet is =
        new_call old (clock_in turned) (record (kept_of old) { live = clock_state_in turned; messages = messages; waits = waits; is_changed = changed })
        port datagram say of_owner (clock ∙ ap clock_in same) kept_now none quiet (ap is_new (sym live_turn.verdict_is ∙ is)) b count as_batch

    pub more_turn : (b : ClockBatch) (count : ℕ)
        → IsKeptOf old b count
        → old.ready ≡ 0
        → old.waits ≡ true
        → (of_owner || is_of_manager (clock_in old.clock.value).clock (port, datagram)) ≡ true
        → LeadsTo (coming_process (clock_in turned)) shown_sets []
        (record (kept_of old) { live = clock_state_in turned; messages = messages; waits = waits; is_changed = changed })
        (called_at old b (Handles (datagram_in port datagram say of_owner))) count
    more_turn b count as_batch none unsaved held =
        more_call old (clock_in turned) (record (kept_of old) { live = clock_state_in turned; messages = messages; waits = waits; is_changed = changed })
        port datagram say of_owner (clock ∙ ap clock_in same) kept_now none unsaved held b count as_batch

pub or_new : (b : Bool) (verdict : Verdict) → verdict ≡ verdicts.AnsweredNew → true ≡ (b || is_new verdict)
or_new true verdict is = refl
or_new false verdict is = sym (ap is_new is)
