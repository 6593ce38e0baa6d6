use Rattle.ptpm_world.proofs.Common.{arith, names_in}
use Rattle.ptpm_world.proofs.Following.{step-carries, step-machine, step-serves}
use Rattle.ptpm_world.proofs.world.World.step.Goals as goal

pub returns-clause-machine : goal.returns-clause-machine
returns-clause-machine c = λ N past is at.
    step-machine N past c.args.self.now c.dispatch.new.self _ c.dispatch.result (c.dispatch.ensures.step N is) at (c.placed_event.ensures (names_in c.args.self.now))

pub returns-clause-carried : goal.returns-clause-carried
returns-clause-carried c = grind (arith, step-carries)

pub returns-clause-served : goal.returns-clause-served
returns-clause-served c = grind (arith, step-serves)
