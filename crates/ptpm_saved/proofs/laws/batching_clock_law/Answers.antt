use Rattle.std.proofs.Common.{subst}
use Rattle.ptpm_saved.specs.Saving.{IsAsIfPowered}
use Rattle.ptpm_saved.specs.SavingClock.{CanBe, clock_process}
use Rattle.ptpm_saved.specs.Batching.{all_events, begun}
use Rattle.ptpm_saved.specs.BatchingClock.{is_of_manager}
use Rattle.ptpm_saved.proofs.SavingLaws.{clock_as_if_powered, clock_sound}
use Rattle.ptpm_saved.proofs.BatchingLaws.{as_the_device, by_sets_alone, holds_changes}
use Rattle.ptpm_saved.proofs.laws.batching_clock_law.Goals as goal

pub returns-clause-device : goal.returns-clause-device
returns-clause-device c = λ clock s calls can.
    as_the_device (clock_process clock) (is_of_manager clock) CanBe (clock_sound clock) (holds_changes clock) s calls can

pub returns-clause-powered : goal.returns-clause-powered
returns-clause-powered c = λ clock s calls can.
    let p = clock_process clock in
    let events = all_events p (is_of_manager clock) (begun s) calls in
    subst (λ d. IsAsIfPowered p s events d)
    (as_the_device p (is_of_manager clock) CanBe (clock_sound clock) (holds_changes clock) s calls can)
    (clock_as_if_powered clock s events can)

pub returns-clause-alone : goal.returns-clause-alone
returns-clause-alone c = λ clock s e x is. by_sets_alone clock s e x is
