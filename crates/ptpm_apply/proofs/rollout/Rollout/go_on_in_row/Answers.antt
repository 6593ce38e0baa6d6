use Rattle.std.proofs.Common.{◌∙◌, None, Some, ap, refl, sym}
use Rattle.ptpm_journal.specs.declared.record.Ending.TheVariants as endings
use Rattle.ptpm_apply.specs.Going.{Ends, asks_steps}
use Rattle.ptpm_apply.specs.Rollout.{RolloutValue}
use Rattle.ptpm_apply.proofs.rollout.Rollout.go_on_in_row.Goals as goal

pub returns-then-self : goal.returns-then-self
returns-then-self c =
    Ends endings.Changed None c.end.ensures
    (refl, sym (ap (λ (o : RolloutValue). o.is_changed) c.self.view_is) ∙ c.if-self.true, ap asks_steps c.requires.stops, λ keeps. cc (c.requires.stops, keeps)) c.requires.seen
    (λ keeps. cc (c.requires.stops, keeps))

pub returns-in-Some : goal.returns-in-Some
returns-in-Some c =
    Ends c.in-Some.ending (Some c.in-Some.step) c.end-in-Some.ensures ((c.in-Some.ensures {u = tt}).found c.requires.stops) c.requires.seen
    (λ keeps. cc (c.requires.stops, keeps))
