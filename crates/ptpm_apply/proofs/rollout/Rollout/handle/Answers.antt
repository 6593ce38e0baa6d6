use Rattle.std.proofs.Common.{subst, sym}
use Rattle.ptpm_apply.specs.declared.event.Event.{Event}
use Rattle.ptpm_apply.specs.Turning.{Turned}
use Rattle.ptpm_apply.proofs.rollout.Rollout.handle.Goals as goal

pub returns-in-Begin : goal.returns-in-Begin
returns-in-Begin c = subst (λ (e : Event). Turned c.args.time c.args.self.now e c.go_on.new.self) (sym c.in-Begin.is) c.go_on.ensures
