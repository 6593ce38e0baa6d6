use Rattle.std.proofs.Common.{◌≡◌, ◌+◌, ◌-◌, arith, rules}
use Rattle.std.proofs.lemmas.Grind.{common_steps}
use Rattle.ptpm_host.specs.Clock.{clock_in, message_in}
use Rattle.ptpm_host.specs.Coming.{coming_process, is_held_by}
use Rattle.ptpm_host.specs.Queue.{queued}
use Rattle.ptpm_host.specs.SavingClock.{kept_of, shown_sets}
use Rattle.ptpm_host.proofs.AskedLaws.{given_later, given_next}
use Rattle.ptpm_host.proofs.Batches.{given_first}
use Rattle.ptpm_host.proofs.saving_clock.SavingClock.next.Goals as goal

pub returns-clause-called : goal.returns-clause-called
returns-clause-called c = λ is b count as_batch.
    let old = c.args.self.now in
    let many : old.ready ≡ (old.ready - 1) + 1 = first_of (search rules, grind (arith, common_steps)) in
    record {
      kept = (given_first (coming_process (clock_in old.clock.value)) shown_sets (is_held_by (clock_in old.clock.value)) (kept_of old)
          (message_in c.take_first.new.sent) (queued c.take_first.new.self) (old.ready - 1) b count as_batch.kept c.take_first.ensures.queued many).as_batch;
      later = given_later old b count as_batch;
      next = given_next old b count as_batch;
    }
