use Rattle.std.proofs.Common.{◌≡◌, subst, sym}
use Rattle.ptpm_host.specs.declared.saving_clock.SavingClock.{SavingClock}
use Rattle.ptpm_c.specs.Batching.{BeginsSaved}
use Rattle.ptpm_c.proofs.batching.begin_saving.Goals as goal

pub returns-in-Ok-new-clause-saving : goal.returns-in-Ok-new-clause-saving
returns-in-Ok-new-clause-saving c = λ zero.
    subst (λ (x : SavingClock). BeginsSaved c.args.clock.value c.args.saved c.args.places x) (sym c.in-Ok-new.ensures.ok) (record {
      as_batch = c.in-Ok.ensures.as_batch;
      clock_is = λ i. (c.in-Ok.ensures.clock i).value;
      begun_is = c.in-Ok.ensures.begun;
      free_is = c.in-Ok.ensures.free;
    })
