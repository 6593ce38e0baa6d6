use Rattle.std.proofs.Common.{List, [], subst, ℕ}
use Rattle.ptpm_saved.specs.Batching.{all_events, begun}
use Rattle.ptpm_saved.specs.Saving.{IsAsIfPowered}
use Rattle.ptpm_saved.specs.SavingClock.{CanBe}
use Rattle.ptpm_saved.proofs.BatchingLaws.{as_the_device}
use Rattle.ptpm_saved.proofs.SavingLaws.{as_if_powered}
use Rattle.ptpm_host.specs.Coming.{ClockState, Coming, coming_process, is_held_by}
use Rattle.ptpm_host.proofs.Batches.{given_all}
use Rattle.ptpm_host.proofs.ComingLaws.{coming_alone, coming_holds, coming_sound}
use Rattle.ptpm_host.proofs.laws.coming_clock_law.Goals as goal

pub returns-clause-device : goal.returns-clause-device
returns-clause-device c = λ clock s calls can.
    as_the_device (coming_process clock) (is_held_by clock) (λ s. CanBe s.state) (coming_sound clock) (coming_holds clock) s calls can

pub returns-clause-powered : goal.returns-clause-powered
returns-clause-powered c = λ clock s calls can.
    let p = coming_process clock in
    let events = all_events p (is_held_by clock) (begun s) calls in
    let none : ClockState → Coming → List ℕ = λ t x. [] in
    subst (λ d. IsAsIfPowered p s events d)
    (as_the_device p (is_held_by clock) (λ s. CanBe s.state) (coming_sound clock) (coming_holds clock) s calls can)
    (as_if_powered p none (λ s. CanBe s.state) (coming_sound clock) s can events)

pub returns-clause-alone : goal.returns-clause-alone
returns-clause-alone c = λ clock s t x is same. coming_alone clock s t x is same

pub returns-clause-given : goal.returns-clause-given
returns-clause-given c = λ clock b. given_all (coming_process clock) (λ s. s.state.sets) (is_held_by clock) b
