use Rattle.std.proofs.Common.{arith, refl, rules}
use Rattle.std.proofs.lemmas.Bool.{false≢true}
use Rattle.std.proofs.lemmas.Grind.{common_steps}
use Rattle.ptpm_saved.specs.Batching.{begun}
use Rattle.ptpm_host.specs.Clock.{clock_in}
use Rattle.ptpm_host.specs.SavingClock.{clock_state_in}
use Rattle.ptpm_host.proofs.AskedLaws.{quiet_later}
use Rattle.ptpm_host.proofs.saving_clock.SavingClock.new.Goals as goal

pub returns-clause-as_batch : goal.returns-clause-as_batch
returns-clause-as_batch c = λ count. record {
  kept = first_of (search rules, grind (arith, common_steps));
  later = quiet_later (clock_in c.args.clock.value) (begun (clock_state_in c.args.clock.value)) refl;
  next = λ is. absurd (false≢true is);
}
