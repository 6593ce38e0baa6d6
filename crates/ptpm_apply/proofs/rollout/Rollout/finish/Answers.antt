use Rattle.std.proofs.Common.{◌≡◌, ◌∙◌, ℕ, ap, refl, true}
use Rattle.ptpm_apply.specs.declared.stage.Stage.{Stage}
use Rattle.ptpm_apply.specs.declared.stage.Stage.TheVariants as stages
use Rattle.ptpm_apply.specs.declared.stage.Then.{Then}
use Rattle.ptpm_apply.specs.Going.{Going}
use Rattle.ptpm_apply.specs.Rollout.{RolloutValue}
use Rattle.ptpm_apply.specs.Turning.{DoneAt, awaits_done}
use Rattle.ptpm_apply.proofs.rollout.Rollout.finish.Goals as goal

rest : (s : Stage) (time : ℕ) (o v : RolloutValue) → awaits_done s ≡ true → ((n : Then) → s ≡ stages.Noting n → ⊥) → Going time o v
    → DoneAt time o s v
rest (stages.Noting n) time o v d h g = absurd (h n refl)
rest (stages.LettingGo lane) time o v d h g = g
rest (stages.Resting lane) time o v d h g = g
rest (stages.Leaving lane) time o v d h g = g
rest _ time o v d h g = cc d

pub returns-in_default : goal.returns-in_default
returns-in_default c =
    rest c.args.self.now.stage c.args.time c.args.self.now c.go_on.new.self c.requires
    (λ n e. c.in_default.not-Noting n (ap (λ (o : RolloutValue). o.stage) c.self.view_is ∙ e)) c.go_on.ensures
