use Rattle.std.proofs.Common.{rules, ◌≡◌, refl, subst}
use Rattle.ptpm_host.specs.declared.saving_clock.SavingClock.{SavingClock}
use Rattle.ptpm_c.specs.Batching.{GivesMessage}
use Rattle.ptpm_c.proofs.batching.ptpm_clock_next.Goals as goal

pub returns-then-next-clause-given : goal.returns-then-next-clause-given
returns-then-next-clause-given c = λ w is ready.
    let lent : c.deref_mut.result.now ≡ w = search rules in
    let given = c.if-next.true in (
      refl,
      (
        c.next.ensures.whole given,
        subst (λ (x : SavingClock). GivesMessage x c.next.new.sent c.next.new.self) lent (record {
          called = c.next.ensures.called given;
          given = c.next.ensures.given given;
          clock_is = c.next.ensures.clock;
          waits_is = c.next.ensures.waits;
          begun_is = c.next.ensures.begun;
        }),
      ),
    )
