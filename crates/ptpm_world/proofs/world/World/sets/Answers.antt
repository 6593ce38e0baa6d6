use Rattle.ptpm_world.proofs.Common.{arith, ap, sym, ◌∙◌, refl, Some, length, slice_get_read, RunningClock, sets_of}
use Rattle.ptpm_data.specs.Members.{DataSetsValue}
use Rattle.ptpm_world.proofs.WorldLemmas.{known-found, unknown-name, sets-shown, at_name, of_no_name}
use Rattle.ptpm_world.proofs.world.World.sets.Goals as goal

pub returns-in-Some-clause-sets : goal.returns-in-Some-clause-sets
returns-in-Some-clause-sets c =
    let xs = c.args.self.now.clocks.items in
    let at = slice_get_read xs (length xs) c.in-Some.place c.index.result.now refl c.in-Some.ensures.found.1 c.index.ensures in
    ap Some c.sets.ensures
    ∙ sym (ap (sets_of) (at_name (λ (x : RunningClock). x.name) xs c.args.clock.now c.in-Some.place c.index.result.now c.in-Some.ensures.found.0 at))

pub returns-in-Some-clause-few : goal.returns-in-Some-clause-few
returns-in-Some-clause-few c =
    let k = c.index.result.now in
    omega (arith, ap (λ (d : DataSetsValue). length d.ports) c.sets.ensures, k.agent.room, k.few_answers)

pub returns-in-None-clause-sets : goal.returns-in-None-clause-sets
returns-in-None-clause-sets c =
    sym (ap (sets_of) (of_no_name (λ (x : RunningClock). x.name) c.args.self.now.clocks.items c.args.clock.now c.in-None.ensures.none))

pub returns-in-Some-clause-known : goal.returns-in-Some-clause-known
returns-in-Some-clause-known c = grind (arith, known-found)

pub returns-in-None-clause-known : goal.returns-in-None-clause-known
returns-in-None-clause-known c = unknown-name (λ (x : RunningClock). x.name) c.args.self.now.clocks.items c.args.clock.now c.in-None.ensures.none

pub returns-in-Some-clause-applied : goal.returns-in-Some-clause-applied
returns-in-Some-clause-applied c = grind (arith, slice_get_read, sets-shown)
