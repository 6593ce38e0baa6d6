-- The rollout that a handle holds.
use Rattle.std.specs.Prelude.{Option, Some, None}
use Rattle.ptpm_apply.specs.Rollout.{RolloutValue}
use Rattle.ptpm_c.specs.declared.keeping.Keeping.{Keeping}
use Rattle.ptpm_c.specs.declared.kept.Hosted.{Hosted}
use Rattle.ptpm_c.specs.declared.kept.Hosted.TheVariants as hosts
use Rattle.ptpm_c.specs.Held.{held}

abbrev pub rollout_of : Hosted → Option RolloutValue
rollout_of (hosts.Rollout rollout) = Some rollout.value
rollout_of _ = None

abbrev pub rollout_held : Keeping → Option RolloutValue
rollout_held keeping = rollout_of (held keeping)
