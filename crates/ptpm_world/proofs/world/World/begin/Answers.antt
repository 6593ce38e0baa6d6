use Rattle.ptpm_world.proofs.Common.{◌≡◌, Some, refl, ap, option_map, slice_get_read, slice_get, Begin, BeginRefused, begin_refusal, begun, network_event}
use Rattle.ptpm_manager.specs.Ask.{request_of}
use Rattle.ptpm_world.proofs.Changing.{names-session}
use Rattle.ptpm_world.proofs.Ending.{step_error, step_named}
use Rattle.ptpm_world.proofs.Steps.{begin-error, acts-fine, no_name}
use Rattle.ptpm_world.proofs.world.World.begin.Goals as goal
use Rattle.ptpm_world.proofs.world.World.begin.Goals.{After-index_mut}

-- the session of that name
named : (c : After-index_mut)
    → slice_get c.args.self.now.sessions.items c.in-Some.place ≡ Some c.index_mut.result.now
named c = slice_get_read c.args.self.now.sessions.items _ c.in-Some.place c.index_mut.result.now refl c.in-Some.ensures.found.1 c.index_mut.ensures.value

pub returns-in_default-clause-step : goal.returns-in_default-clause-step
unfolding network_event
returns-in_default-clause-step c = λ N is. no_name N c.args.self.now _ _ _ is c.in_default.ensures.none refl

pub returns-clause-step : goal.returns-clause-step
unfolding network_event
returns-clause-step c = λ N is.
    let at = named (goal.at.returns-clause-step c).After-index_mut in
    step_named N c.args.self.now _ (λ k. Begin k c.args.ask.now) c.in-Some.place _ _ c.in-Some.ensures.found.0
    (acts-fine N c.args.self.now _ c.in-Some.place c.index_mut.result.now _ is (record { at = at; sessions = refl; clocks = refl; links = refl; name = refl; identity = refl })
    (Begin c.in-Some.place c.args.ask.now) (λ z. option_map BeginRefused (begin_refusal z c.args.ask.now)) (λ z. begun z (request_of c.args.ask.now)) refl (ap (option_map BeginRefused) c.in_ok-begin.ensures.permitted) c.in_ok-begin.ensures.begun refl refl)

pub returns-clause-names : goal.returns-clause-names
returns-clause-names c = names-session c.args.self.now c.in-Some.place c.index_mut.result.now _ (named (goal.at.returns-clause-names c).After-index_mut) refl

pub returns-in_err-begin-clause-step : goal.returns-in_err-begin-clause-step
returns-in_err-begin-clause-step c = λ N is.
    let at = named (goal.at.returns-in_err-begin-clause-step c).After-index_mut in
    step_named N c.args.self.now _ (λ k. Begin k c.args.ask.now) c.in-Some.place _ _ c.in-Some.ensures.found.0
    (step_error N c.args.self.now _ (Begin c.in-Some.place c.args.ask.now) _ c.from_residual.result c.from_residual.ensures.1
    (begin-error N c.args.self.now _ c.in-Some.place c.index_mut.result.now _ is (record { at = at; sessions = refl; clocks = refl; links = refl; name = refl; identity = refl })
    c.args.ask.now c.in_err-begin.field-0.0 c.in_err-begin.ensures.no_other))
