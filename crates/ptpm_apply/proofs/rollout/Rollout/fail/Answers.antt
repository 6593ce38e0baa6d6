use Rattle.std.proofs.Common.{◌≡◌, ◌∙◌, ap, subst, sym}
use Rattle.ptpm_apply.specs.declared.choice.Choice.{Choice}
use Rattle.ptpm_apply.specs.declared.choice.Choice.TheVariants as choices
use Rattle.ptpm_apply.specs.Going.{FailingBy, Going}
use Rattle.ptpm_apply.specs.Rollout.{RolloutValue, held}
use Rattle.ptpm_apply.proofs.rollout.Rollout.fail.Goals as goal

pub returns-in-KeepGoing : goal.returns-in-KeepGoing
returns-in-KeepGoing c =
    let keeps : c.args.self.now.choice ≡ choices.KeepGoing = sym (ap (λ (o : RolloutValue). o.choice) c.self.view_is) ∙ c.in-KeepGoing.is in
    let goes : Going c.args.time (held c.args.self.now c.args.lane) c.go_on.new.self =
    subst (λ (o : RolloutValue). Going c.args.time o c.go_on.new.self) c.hold.ensures c.go_on.ensures in
    subst (λ (k : Choice). FailingBy k c.args.time c.args.self.now c.args.why c.args.lane c.args.step c.go_on.new.self) (sym keeps) goes
