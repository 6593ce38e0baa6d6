use Rattle.std.proofs.Common.{rules, ◌≡◌, ◌∙◌, Err, None, Ok, Option, Result, Some, ap, subst}
use Rattle.std.specs.Prelude.{OnOk}
use Rattle.ptpm_data.specs.Start.{unless}
use Rattle.ptpm_host.specs.declared.saving_clock.SavingClock.{SavingClock}
use Rattle.ptpm_c.specs.Batching.{NotesCall}
use Rattle.ptpm_c.proofs.ptpm_clock_observe.Goals as goal

-- what holds of a call that is done, if nothing refuses it
done : {A E : Type 0} (P : Type 0) (outcome : Result A E) (refusal : Option E) (a : A)
    → OnOk outcome P
    → outcome ≡ unless refusal a
    → refusal ≡ None
    → P
done {E = E} P (Ok x) refusal a holds is none = holds
done {E = E} P (Err e) refusal a holds is none =
    let ok : Err e ≡ Ok a = is ∙ ap (λ (r : Option E). unless r a) none in absurd cc

pub returns-in-SavingClock-clause-noted : goal.returns-in-SavingClock-clause-noted
returns-in-SavingClock-clause-noted c = λ w is.
    let lent : c.deref_mut-in-SavingClock.result.now ≡ w = search rules in
    let here = c.observe-in-SavingClock in
    subst (λ (x : SavingClock). NotesCall x c.args.observed.now c.args.ports.now (Some here.new.self)) lent
    (done _ here.result _ _ here.ensures.called here.ensures.answer)
