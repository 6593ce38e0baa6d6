use Rattle.std.proofs.Common.{◌∙◌, None, ap, refl, rules, sym}
use Rattle.ptpm_journal.specs.declared.record.Ending.TheVariants as endings
use Rattle.ptpm_apply.specs.Going.{Ends, Leaves, asks_steps}
use Rattle.ptpm_apply.specs.Rollout.{RolloutValue}
use Rattle.ptpm_apply.proofs.rollout.Rollout.go_on_apart.Goals as goal

pub returns-in-Some : goal.returns-in-Some
returns-in-Some c =
    let found = c.in-Some.ensures {u = tt} in
    Leaves c.in-Some.lane c.leave.ensures c.requires.seen c.requires.keeps_going found.marked found.over

pub returns-then-not-are_done : goal.returns-then-not-are_done
returns-then-not-are_done c =
    Ends endings.InPart None c.end.ensures
    (refl, c.requires.keeps_going, (c.in_default-next_step.ensures {u = tt}).none, λ done. cc (c.are_done.ensures.1 done, c.if-not-are_done.true)) c.requires.seen
    (λ keeps. (c.in_default.ensures {u = tt}).none)

pub returns-then-self : goal.returns-then-self
returns-then-self c =
    Ends endings.Changed None c.end-then-self.ensures
    (refl, sym (ap (λ (o : RolloutValue). o.is_changed) c.self.view_is) ∙ c.if-self.true, ap asks_steps c.requires.keeps_going, λ keeps. c.are_done.ensures.0 (search rules)) c.requires.seen
    (λ keeps. (c.in_default.ensures {u = tt}).none)
