use Rattle.std.proofs.Common.{subst, sym}
use Rattle.ptpm_apply.specs.declared.stage.Then.{Then}
use Rattle.ptpm_apply.specs.Turning.{Follows}
use Rattle.ptpm_apply.proofs.rollout.Rollout.follow.Goals as goal

pub returns-in-GoOn : goal.returns-in-GoOn
returns-in-GoOn c = subst (λ (n : Then). Follows c.args.time c.args.self.now n c.go_on.new.self) (sym c.in-GoOn.is) c.go_on.ensures
