use Rattle.std.proofs.Common.{◌≡◌, drop}
use Rattle.ptpm_apply.specs.Rollout.{domain_after}
use Rattle.ptpm_apply.proofs.planned.Planned.domain_after.Given as goal

abbrev pub invariant-loop-step : goal.invariant-loop-step
invariant-loop-step l = domain_after (drop l.step-index l.steps) l.self ≡ domain_after l.steps l.self
