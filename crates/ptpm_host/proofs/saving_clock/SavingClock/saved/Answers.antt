use Rattle.std.proofs.Common.{◌≡◌, ◌∙◌, ap, false, rules, true, arith, if◌then◌else◌}
use Rattle.std.proofs.lemmas.Bool.{false≢true}
use Rattle.std.proofs.lemmas.Grind.{common_steps}
use Rattle.ptpm_host.specs.declared.saving_clock.Acting.TheVariants as actings
use Rattle.ptpm_host.specs.SavingClock.{acts_once_saved, asked_later, kept_of, request_under_way}
use Rattle.ptpm_host.proofs.AskedLaws.{saved_later}
use Rattle.ptpm_host.proofs.SavingCalls.{Kept, saved_call}
use Rattle.ptpm_host.proofs.saving_clock.SavingClock.saved.Goals as goal

pub returns-then-not-acts_once_saved-clause-called : goal.returns-then-not-acts_once_saved-clause-called
returns-then-not-acts_once_saved-clause-called c = λ b count later as_batch.
    let k : Kept = kept_of c.args.self.now in
    let shown : c.swap.new.x ≡ k.copied = first_of (search rules, cc) in
    let imaged : c.args.self.now.is_imaged ≡ true = first_of (search rules, grind (arith, common_steps)) in
    let acts : acts_once_saved c.args.self.now ≡ false = first_of (search rules, grind (arith, common_steps)) in
    record {
      kept = saved_call c.args.self.now
          (record k { shown = c.swap.new.x; copied = c.swap.new.y; ready = c.ready_once_saved-self.result; first = 0; is_imaged = false; waits = k.is_changed })
          c.swap.new.y b count later
          (λ i. record k { shown = shown i; copied = c.swap.new.y; ready = c.ready_once_saved-self.ensures.ready i; first = 0; is_imaged = false; waits = k.is_changed })
          imaged as_batch.kept;
      later = saved_later c.args.self.now b count as_batch imaged
          ∙ ap (λ t. asked_later (if t then actings.Nothing else c.args.self.now.acting) (request_under_way c.args.self.now.clock.value.under_way)) acts;
      next = λ is. absurd (false≢true is);
    }

pub returns-clause-called : goal.returns-clause-called
returns-clause-called c = λ b count later as_batch.
    let k : Kept = kept_of c.args.self.now in
    let shown : c.swap.new.x ≡ k.copied = first_of (search rules, cc) in
    let imaged : c.args.self.now.is_imaged ≡ true = first_of (search rules, grind (arith, common_steps)) in
    let acts : acts_once_saved c.args.self.now ≡ true = first_of (search rules, grind (arith, common_steps)) in
    record {
      kept = saved_call c.args.self.now
          (record k { shown = c.swap.new.x; copied = c.swap.new.y; ready = c.ready_once_saved-self.result; first = 0; is_imaged = false; waits = k.is_changed })
          c.swap.new.y b count later
          (λ i. record k { shown = shown i; copied = c.swap.new.y; ready = c.ready_once_saved-self.ensures.ready i; first = 0; is_imaged = false; waits = k.is_changed })
          imaged as_batch.kept;
      later = saved_later c.args.self.now b count as_batch imaged
          ∙ ap (λ t. asked_later (if t then actings.Nothing else c.args.self.now.acting) (request_under_way c.args.self.now.clock.value.under_way)) acts;
      next = λ is. absurd (false≢true is);
    }
