-- What is observed at a clock that is saved while it goes on.
use Rattle.std.proofs.Common.{◌≡◌, ◌∙◌, ◌&&◌, Bool, ap, length, refl, sym, subst, List, ℕ, rules}
use Rattle.ptpm_agent.specs.Observing.{moved_state}
use Rattle.ptpm_data.specs.declared.observation.ClockObservation.{ClockObservation}
use Rattle.ptpm_data.specs.declared.observation.PortObservation.{PortObservation}
use Rattle.ptpm_data.specs.Members.{DataSetsValue}
use Rattle.ptpm_data.specs.Observation.{observed}
use Rattle.ptpm_data.specs.ObservationBack.{Observation}
use Rattle.ptpm_saved.specs.Batching.{Observes}
use Rattle.ptpm_host.specs.declared.clock.HostedClock.{HostedClock}
use Rattle.ptpm_host.specs.declared.saving_clock.SavingClock.{SavingClock}
use Rattle.ptpm_host.specs.Clock.{DeviceClock, clock_in, state_in}
use Rattle.ptpm_host.specs.Coming.{ClockBatch, coming_process, is_held_by}
use Rattle.ptpm_host.specs.KeptBatch.{IsKept, kept_observed}
use Rattle.ptpm_host.specs.SavingClock.{IsAsBatch, asked_later, asked_next, called_at, clock_state_in, kept_of, request_under_way, shown_sets}
use Rattle.ptpm_host.specs.Undertaking.{asked_once_saved}
use Rattle.ptpm_host.proofs.AskedCalls.{IsAskedOf, is_batch}
use Rattle.ptpm_host.proofs.AskedLaws.{observed_later, observed_next}
use Rattle.ptpm_host.proofs.Batches.{observed_kept}
use Rattle.ptpm_host.proofs.SavingCalls.{IsKeptOf, Kept}
use Rattle.ptpm_data.proofs.Observed.{observed-ports}
use Rattle.ptpm_host.specs.Observing.{clock_observation, port_observations}
use Rattle.ptpm_host.proofs.saving_clock.SavingClock.observe.Goals as goal

observed_call : (old : SavingClock) (moved : HostedClock) (shown copied : DataSetsValue) (imaged : Bool) (o : ClockObservation)
    (ports : List PortObservation) (b : ClockBatch) (count : ℕ)
    → state_in moved ≡ moved_state o ports (state_in old.clock.value)
    → clock_in moved ≡ clock_in old.clock.value
    → moved.under_way ≡ old.clock.value.under_way
    → shown ≡ observed o ports old.shown
    → copied ≡ observed o ports old.copied
    → imaged ≡ (old.is_imaged && old.waits)
    → IsKeptOf old b count
    → IsKept (coming_process (clock_in moved)) shown_sets
    (record (kept_of old) { live = clock_state_in moved; shown = shown; copied = copied; is_imaged = imaged })
    (called_at old b (Observes (record { clock = o; ports = ports }))) count
observed_call old moved shown copied imaged o ports b count live clock under_way shown_is copied_is imaged_is as_batch =
    let c = clock_in old.clock.value in
    let n : Observation = record { clock = o; ports = ports } in
    let same : ◌≡◌ {A = Kept}
    (kept_observed (record (clock_state_in old.clock.value) { state = moved_state o ports (state_in old.clock.value) }) (observed o ports) (kept_of old))
    (record (kept_of old) { live = clock_state_in moved; shown = shown; copied = copied; is_imaged = imaged }) = λ i. record (kept_of old) {
      live = record { state = sym live i; under_way = ap request_under_way (sym under_way) i };
      shown = sym shown_is i;
      copied = sym copied_is i;
      is_imaged = sym imaged_is i;
    } in
    subst (λ (d : DeviceClock). IsKept (coming_process d) shown_sets
    (record (kept_of old) { live = clock_state_in moved; shown = shown; copied = copied; is_imaged = imaged }) (called_at old b (Observes n)) count) (sym clock)
    (subst (λ k. IsKept (coming_process c) shown_sets k (called_at old b (Observes n)) count) same
    (observed_kept (coming_process c) shown_sets (is_held_by c) (observed o ports) n (λ s. refl) (kept_of old) b count as_batch))

observed_asks : (old new : SavingClock) (b : ClockBatch) (count : ℕ) (as_batch : IsAsBatch old b count) (o : Observation)
    → clock_in new.clock.value ≡ clock_in old.clock.value
    → request_under_way new.clock.value.under_way ≡ request_under_way old.clock.value.under_way
    → new.acting ≡ old.acting
    → new.is_imaged ≡ (old.is_imaged && old.waits)
    → IsAskedOf new (called_at old b (Observes o)) count
observed_asks old new b count as_batch o clock under_way acting imaged = record {
  later = ap (λ c. asked_once_saved c (called_at old b (Observes o)) (length (called_at old b (Observes o)).since)) clock
      ∙ observed_later old b count as_batch o ∙ (λ i. asked_later (sym acting i) (sym under_way i));
  next = λ is. ap (λ c. asked_once_saved c (called_at old b (Observes o)) count) clock
      ∙ observed_next old b count as_batch o (sym imaged ∙ is) ∙ (λ i. asked_next (sym acting i) (sym under_way i));
}

pub returns-clause-called : goal.returns-clause-called
returns-clause-called c = λ b count as_batch.
    let moved : HostedClock = record c.deref_mut.result.now { agent = c.observe.new.self } in
    let live : state_in moved ≡ moved_state (clock_observation c.args.clock.now) (port_observations c.args.ports.now) (state_in c.args.self.now.clock.value) =
    first_of (search rules, cc) in
    let clock : clock_in moved ≡ clock_in c.args.self.now.clock.value = first_of (search rules, cc) in
    let shown : c.observe-2.new.self ≡ observed (clock_observation c.args.clock.now) (port_observations c.args.ports.now) c.args.self.now.shown =
    first_of (search rules, cc) in
    let copied : c.observe-3.new.self ≡ observed (clock_observation c.args.clock.now) (port_observations c.args.ports.now) c.args.self.now.copied =
    first_of (search rules, cc) in
    let same : moved.under_way ≡ c.args.self.now.clock.value.under_way = first_of (search rules, cc) in
    let seen : Observation = record { clock = clock_observation c.args.clock.now; ports = port_observations c.args.ports.now } in
    is_batch _ _ count
    (observed_call c.args.self.now moved c.observe-2.new.self c.observe-3.new.self c.keeps_image-self.result (clock_observation c.args.clock.now)
    (port_observations c.args.ports.now) b count live clock same shown copied c.keeps_image-self.ensures as_batch.kept)
    (observed_asks c.args.self.now _ b count as_batch seen clock (ap request_under_way same) refl c.keeps_image-self.ensures)

pub invariant_of-self-2 : goal.invariant_of-self-2
invariant_of-self-2 c =
    let live : c.observe.new.self.sets ≡ observed (clock_observation c.args.clock.now) (port_observations c.args.ports.now) c.args.self.now.clock.value.agent.sets =
    first_of (search rules, cc) in
    let shown : c.observe-2.new.self ≡ observed (clock_observation c.args.clock.now) (port_observations c.args.ports.now) c.args.self.now.shown =
    first_of (search rules, cc) in
    let copied : c.observe-3.new.self ≡ observed (clock_observation c.args.clock.now) (port_observations c.args.ports.now) c.args.self.now.copied =
    first_of (search rules, cc) in
    let same = ap (λ (d : DataSetsValue). length d.ports) live
    ∙ observed-ports (clock_observation c.args.clock.now) (port_observations c.args.ports.now) c.args.self.now.clock.value.agent.sets in
    let shown_before : length c.args.self.now.shown.ports ≡ length c.args.self.now.clock.value.agent.sets.ports = search rules in
    let copied_before : length c.args.self.now.copied.ports ≡ length c.args.self.now.clock.value.agent.sets.ports = search rules in
    record {
      shown_ports = ap (λ (d : DataSetsValue). length d.ports) shown
          ∙ observed-ports (clock_observation c.args.clock.now) (port_observations c.args.ports.now) c.args.self.now.shown ∙ shown_before ∙ sym same;
      copied_ports = ap (λ (d : DataSetsValue). length d.ports) copied
          ∙ observed-ports (clock_observation c.args.clock.now) (port_observations c.args.ports.now) c.args.self.now.copied ∙ copied_before ∙ sym same;
      inside = search rules;
    }
