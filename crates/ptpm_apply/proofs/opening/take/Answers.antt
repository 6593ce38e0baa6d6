use Rattle.std.proofs.Common.{◌∙◌, ap, drop, subst, sym, take}
use Rattle.ptpm_journal.specs.declared.record.Record.{Record}
use Rattle.ptpm_apply.specs.Opening.{StepsAfter, numbers_after}
use Rattle.ptpm_apply.proofs.opening.take.Goals as goal

pub returns-in_ok-push-in-Step-2-clause-takes : goal.returns-in_ok-push-in-Step-2-clause-takes
returns-in_ok-push-in-Step-2-clause-takes c =
    let found = c.args.next.found in
    let body = c.args.body.now in
    record {
      steps = subst
          (λ (entry : Record). StepsAfter entry (take found.first_size (drop found.first body)) (take found.second_size (drop found.second body))
          c.args.steps.now.items c.push.new.self.items) (sym c.in-Step.is)
          (record {
            planned = c.in_ok-planned_of-in-Step.field-0;
            is = c.in_ok-planned_of-in-Step.ensures {u = tt};
            added = c.in_ok-push-in-Step.ensures.items;
          });
      numbers = c.in_ok-push-in-Step-2.ensures.items
          ∙ sym (ap (λ (entry : Record). numbers_after entry c.args.numbers.now.items) c.in-Step.is);
    }
