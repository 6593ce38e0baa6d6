use Rattle.std.proofs.Common.{◌≡◌, ◌∙◌, ℕ, ap, subst, sym}
use Rattle.ptpm_apply.specs.declared.choice.Choice.{Choice}
use Rattle.ptpm_apply.specs.declared.choice.Choice.TheVariants as choices
use Rattle.ptpm_apply.specs.Going.{ChangingBy, Going}
use Rattle.ptpm_apply.specs.Rollout.{RolloutValue, held, lane_of}
use Rattle.ptpm_apply.proofs.rollout.Rollout.change_at.Goals as goal

pub returns-in-KeepGoing : goal.returns-in-KeepGoing
returns-in-KeepGoing c =
    let keeps : c.args.self.now.choice ≡ choices.KeepGoing = sym (ap (λ (o : RolloutValue). o.choice) c.self.view_is) ∙ c.in-KeepGoing.is in
    let goes : Going c.args.time (held c.args.self.now c.lane_of.result) c.go_on.new.self =
    subst (λ (o : RolloutValue). Going c.args.time o c.go_on.new.self) c.hold.ensures c.go_on.ensures in
    let here : Going c.args.time (held c.args.self.now (lane_of c.args.self.now c.args.step)) c.go_on.new.self =
    subst (λ (n : ℕ). Going c.args.time (held c.args.self.now n) c.go_on.new.self) c.lane_of.ensures goes in
    subst (λ (k : Choice). ChangingBy k c.args.time c.args.self.now c.args.step c.go_on.new.self) (sym keeps) here
