use Rattle.std.proofs.Common.{◌≡◌, ◌≢◌, ◌<◌, ◌≤◌, ℕ}
use Rattle.ptpm_apply.specs.Going.{IsUntouched}
use Rattle.ptpm_apply.specs.declared.choice.Choice.TheVariants as choices
use Rattle.ptpm_apply.proofs.rollout.Rollout.next_unseen.Given as goal

abbrev pub invariant-loop-lane : goal.invariant-loop-lane
invariant-loop-lane l =
    (l.self.choice ≢ choices.Settle → l.lane ≡ l.self.seen)
    × ((lane : ℕ) → l.self.seen ≤ lane → lane < l.lane → IsUntouched l.self lane)
