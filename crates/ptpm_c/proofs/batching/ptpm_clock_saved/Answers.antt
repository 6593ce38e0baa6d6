use Rattle.std.proofs.Common.{rules, ◌≡◌, ◌∙◌, ap, subst}
use Rattle.ptpm_host.specs.declared.saving_clock.SavingClock.{SavingClock}
use Rattle.ptpm_c.specs.Batching.{IsSaved, done_number}
use Rattle.ptpm_c.proofs.batching.ptpm_clock_saved.Goals as goal

pub returns-in-Ok-clause-saved : goal.returns-in-Ok-clause-saved
returns-in-Ok-clause-saved c = λ w is confirmed.
    let lent : c.deref_mut.result.now ≡ w = search rules in
    subst (λ (x : SavingClock). IsSaved x c.done_number.result c.saved.new.self) lent (record {
      number_is = c.done_number.ensures ∙ ap done_number c.in-Ok.ensures.acts;
      asked = c.in-Ok.ensures.asked;
      once = c.in-Ok.ensures.told;
      called = c.in-Ok.ensures.called;
      waits_is = c.in-Ok.ensures.waits;
      clock_is = c.saved.ensures.clock;
      free_is = c.saved.ensures.free;
    })
