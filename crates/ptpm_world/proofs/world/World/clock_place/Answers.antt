use Rattle.ptpm_world.proofs.Common.{ap, ◌∙◌, bytes_eq, position, RunningClock}
use Rattle.ptpm_world.proofs.WorldLemmas.{found_clause, none_clause}
use Rattle.ptpm_world.proofs.world.World.clock_place.Goals as goal

pub returns-clause-found : goal.returns-clause-found
returns-clause-found c =
    let e = c.place_of_clock.ensures ∙ ap (position (λ (x : RunningClock). bytes_eq x.name c.args.name.now)) c.as_slice.ensures.value in
    found_clause (λ (x : RunningClock). x.name) c.args.self.now.clocks.items c.args.name.now _ e

pub returns-clause-none : goal.returns-clause-none
returns-clause-none c =
    let e = c.place_of_clock.ensures ∙ ap (position (λ (x : RunningClock). bytes_eq x.name c.args.name.now)) c.as_slice.ensures.value in
    none_clause (λ (x : RunningClock). x.name) c.args.self.now.clocks.items c.args.name.now _ e
