use Rattle.std.proofs.Common.{◌≡◌, ◌-◌, ◌∙◌, ap, false, length, rules, subst, sym, true}
use Rattle.ptpm_host.specs.Clock.{clock_in}
use Rattle.ptpm_host.specs.Coming.{coming_process, is_held_by}
use Rattle.ptpm_host.specs.KeptBatch.{IsKept}
use Rattle.ptpm_host.specs.Queue.{queued}
use Rattle.ptpm_host.specs.SavingClock.{asked_later, asked_next, kept_of, request_under_way, shown_sets}
use Rattle.ptpm_host.proofs.AskedLaws.{imaged_later, imaged_next}
use Rattle.ptpm_host.proofs.Batches.{imaged}
use Rattle.ptpm_host.proofs.SavingCalls.{Kept}
use Rattle.ptpm_host.proofs.saving_clock.SavingClock.image.Goals as goal

pub returns-clause-called : goal.returns-clause-called
returns-clause-called c = λ b count as_batch.
    let old = c.args.self.now in
    let k : Kept = kept_of old in
    let acting = c.acting_once_imaged-self.ensures in
    let copied : c.in-Ok.copied ≡ old.clock.value.agent.sets = first_of (search rules, cc) in
    let first : c.count.result - old.ready ≡ length (queued old.queue) - old.ready = first_of (search rules, cc) in
    record {
      kept = subst (λ l. IsKept (coming_process (clock_in old.clock.value)) shown_sets l b (length b.since))
          (λ i. record k { copied = sym copied i; first = sym first i; is_imaged = true; is_changed = false })
          (imaged (coming_process (clock_in old.clock.value)) shown_sets (is_held_by (clock_in old.clock.value)) k b count as_batch.kept);
      later = imaged_later old b count as_batch ∙ ap (λ a. asked_later a (request_under_way old.clock.value.under_way)) (sym acting);
      next = λ is. imaged_next old b count as_batch ∙ ap (λ a. asked_next a (request_under_way old.clock.value.under_way)) (sym acting);
    }
