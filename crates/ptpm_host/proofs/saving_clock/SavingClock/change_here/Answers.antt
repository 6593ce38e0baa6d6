-- A change that the owner makes at the device itself, at a clock that is saved while it goes on.
use Rattle.std.proofs.Common.{◌≡◌, ◌∙◌, ◌||◌, Bool, true, false, ap, append-nil, length, refl, sym, subst, [], ℕ, if◌then◌else◌, rules}
use Rattle.ptpm_agent.specs.Turn.{State}
use Rattle.ptpm_data.specs.Request.{RequestValue}
use Rattle.ptpm_device.specs.Changing.{changed_state}
use Rattle.ptpm_saved.specs.Batching.{Handles, waits}
use Rattle.ptpm_host.specs.declared.clock.HostedClock.{HostedClock}
use Rattle.ptpm_host.specs.declared.saving_clock.SavingClock.{SavingClock}
use Rattle.ptpm_host.specs.Clock.{DeviceClock, clock_in, state_in}
use Rattle.ptpm_host.specs.Coming.{Changed, ClockBatch, coming_process, is_held_by}
use Rattle.ptpm_host.specs.KeptBatch.{IsKept, kept_held}
use Rattle.ptpm_host.specs.SavingClock.{IsAsBatch, asked_later, asked_next, called_at, clock_state_in, kept_of, request_under_way, shown_sets}
use Rattle.ptpm_host.specs.Undertaking.{asked_once_saved}
use Rattle.ptpm_host.proofs.AskedCalls.{IsAskedOf, is_batch}
use Rattle.ptpm_host.proofs.AskedLaws.{changed_later, changed_next}
use Rattle.ptpm_host.proofs.Batches.{waiting_silent}
use Rattle.ptpm_host.proofs.SavingCalls.{IsKeptOf, Kept}
use Rattle.ptpm_data.specs.Changed.{changed}
use Rattle.ptpm_data.specs.Rights.{all_rights}
use Rattle.ptpm_data.proofs.Keeping.{changed_by-ports}
use Rattle.ptpm_host.specs.Changing.{request_here}
use Rattle.ptpm_host.proofs.saving_clock.SavingClock.change_here.Goals as goal

always : (w : Bool) → (if w then true else true) ≡ true
always true = refl
always false = refl

or_true : (b : Bool) → true ≡ (b || true)
or_true true = refl
or_true false = refl

changed_call : (old : SavingClock) (here turned : HostedClock) (q : RequestValue) (b : ClockBatch) (count : ℕ)
    → here ≡ old.clock.value
    → state_in turned ≡ changed_state q (state_in here)
    → clock_in turned ≡ clock_in here
    → turned.under_way ≡ here.under_way
    → IsKeptOf old b count
    → IsKept (coming_process (clock_in turned)) shown_sets (record (kept_of old) { live = clock_state_in turned; waits = true; is_changed = true })
    (called_at old b (Handles (Changed q))) count
changed_call old here turned q b count own state clock under_way as_batch =
    let c = clock_in old.clock.value in
    let same : ◌≡◌ {A = Kept} (kept_held (record (clock_state_in old.clock.value) { state = changed_state q (state_in old.clock.value) }) [] true (kept_of old))
    (record (kept_of old) { live = clock_state_in turned; waits = true; is_changed = true }) = λ i. record (kept_of old) {
      live = record {
        state = sym (state ∙ ap (λ (h : HostedClock). changed_state q (state_in h)) own) i;
        under_way = ap request_under_way (sym (under_way ∙ ap (λ (h : HostedClock). h.under_way) own)) i;
      };
      messages = append-nil (kept_of old).messages i;
      waits = true;
      is_changed = sym (or_true old.is_changed) i;
    } in
    subst (λ (d : DeviceClock). IsKept (coming_process d) shown_sets (record (kept_of old) { live = clock_state_in turned; waits = true; is_changed = true })
    (called_at old b (Handles (Changed q))) count) (sym (clock ∙ ap clock_in own))
    (subst (λ k. IsKept (coming_process c) shown_sets k (called_at old b (Handles (Changed q))) count) same
    (waiting_silent (coming_process c) shown_sets (is_held_by c) (kept_of old) b count (Changed q) as_batch (always (waits b.since)) refl))

changed_asks : (old new : SavingClock) (b : ClockBatch) (count : ℕ) (as_batch : IsAsBatch old b count) (q : RequestValue)
    → clock_in new.clock.value ≡ clock_in old.clock.value
    → request_under_way new.clock.value.under_way ≡ request_under_way old.clock.value.under_way
    → new.acting ≡ old.acting
    → (new.is_imaged ≡ true → old.is_imaged ≡ true)
    → IsAskedOf new (called_at old b (Handles (Changed q))) count
changed_asks old new b count as_batch q clock under_way acting imaged = record {
  later = ap (λ c. asked_once_saved c (called_at old b (Handles (Changed q))) (length (called_at old b (Handles (Changed q))).since)) clock
      ∙ changed_later old b count as_batch q ∙ (λ i. asked_later (sym acting i) (sym under_way i));
  next = λ is. ap (λ c. asked_once_saved c (called_at old b (Handles (Changed q))) count) clock
      ∙ changed_next old b count as_batch q (imaged is) ∙ (λ i. asked_next (sym acting i) (sym under_way i));
}

pub returns-clause-members : goal.returns-clause-members
returns-clause-members c =
    let own : c.deref_mut.result.now ≡ c.args.self.now.clock.value = first_of (search rules, cc) in
    c.in_ok-members.ensures.members ∙ ap (λ (k : HostedClock). changed k.agent.sets c.change_here.new.self.agent.sets) own

pub returns-clause-called : goal.returns-clause-called
returns-clause-called c = λ b count as_batch.
    let own : c.deref_mut.result.now ≡ c.args.self.now.clock.value = first_of (search rules, cc) in
    let request = request_here c.args.action c.args.id c.args.port c.args.octets.now in
    let same : c.change_here.new.self.under_way ≡ c.deref_mut.result.now.under_way = first_of (search rules, cc) in
    is_batch _ _ count
    (changed_call c.args.self.now c.deref_mut.result.now c.change_here.new.self (request_here c.args.action c.args.id c.args.port c.args.octets.now) b count own
    c.in_ok-members.ensures.changed.state_is c.in_ok-members.ensures.changed.clock_is same as_batch.kept)
    (changed_asks c.args.self.now _ b count as_batch request (c.in_ok-members.ensures.changed.clock_is ∙ ap clock_in own)
    (ap request_under_way (same ∙ ap (λ (h : HostedClock). h.under_way) own)) refl (λ is. is))

pub invariant_of-self-2 : goal.invariant_of-self-2
invariant_of-self-2 c =
    let own : c.deref_mut.result.now ≡ c.args.self.now.clock.value = first_of (search rules, cc) in
    let same : length c.change_here.new.self.agent.sets.ports ≡ length c.args.self.now.clock.value.agent.sets.ports =
    ap (λ (s : State). length s.sets.ports) c.in_ok-members.ensures.changed.state_is
    ∙ changed_by-ports (request_here c.args.action c.args.id c.args.port c.args.octets.now) all_rights c.deref_mut.result.now.agent.sets
    ∙ ap (λ (k : HostedClock). length k.agent.sets.ports) own in
    let shown : length c.args.self.now.shown.ports ≡ length c.args.self.now.clock.value.agent.sets.ports = search rules in
    let copied : length c.args.self.now.copied.ports ≡ length c.args.self.now.clock.value.agent.sets.ports = search rules in
    record { shown_ports = shown ∙ sym same; copied_ports = copied ∙ sym same; inside = search rules }
