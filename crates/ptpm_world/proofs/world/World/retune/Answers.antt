use Rattle.ptpm_world.proofs.Common.{◌≡◌, None, Some, refl, slice_get_read, slice_get, Retune, retuned, network_event}
use Rattle.ptpm_world.proofs.Changing.{names-session}
use Rattle.ptpm_world.proofs.Ending.{step_named}
use Rattle.ptpm_world.proofs.Steps.{acts-fine, no_name}
use Rattle.ptpm_world.proofs.world.World.retune.Goals as goal
use Rattle.ptpm_world.proofs.world.World.retune.Goals.{After-index_mut}

-- the session of that name
named : (c : After-index_mut)
    → slice_get c.args.self.now.sessions.items c.in-Some.place ≡ Some c.index_mut.result.now
named c = slice_get_read c.args.self.now.sessions.items _ c.in-Some.place c.index_mut.result.now refl c.in-Some.ensures.found.1 c.index_mut.ensures.value

pub returns-in_default-clause-step : goal.returns-in_default-clause-step
unfolding network_event
returns-in_default-clause-step c = λ N is. no_name N c.args.self.now _ _ _ is c.in_default.ensures.none refl

pub returns-clause-step : goal.returns-clause-step
unfolding network_event
returns-clause-step c = λ N is.
    let at = named (goal.at.returns-clause-step c).After-index_mut in
    step_named N c.args.self.now _ (λ k. Retune k c.args.domain) c.in-Some.place _ _ c.in-Some.ensures.found.0
    (acts-fine N c.args.self.now _ c.in-Some.place c.index_mut.result.now _ is (record { at = at; sessions = refl; clocks = refl; links = refl; name = refl; identity = refl })
    (Retune c.in-Some.place c.args.domain) (λ z. None) (λ z. retuned z c.args.domain) refl (refl) c.retune.ensures refl refl)

pub returns-clause-names : goal.returns-clause-names
returns-clause-names c = names-session c.args.self.now c.in-Some.place c.index_mut.result.now _ (named (goal.at.returns-clause-names c).After-index_mut) refl
