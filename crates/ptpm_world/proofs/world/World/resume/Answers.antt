use Rattle.ptpm_world.proofs.Common.{◌≡◌, Some, refl, ap, not, cond-true, cond-false, slice_get_read, slice_get, Resume, SendRefused, resumed, network_event}
use Rattle.ptpm_network.specs.RunningNetwork.{nothing_to_resume}
use Rattle.ptpm_manager.specs.declared.error.SendError.TheVariants as sends
use Rattle.ptpm_world.proofs.Changing.{names-session}
use Rattle.ptpm_world.proofs.Ending.{step_error, step_named}
use Rattle.ptpm_world.proofs.Steps.{acts-fine, no_name, acts-refused}
use Rattle.ptpm_world.proofs.world.World.resume.Goals as goal
use Rattle.ptpm_world.proofs.world.World.resume.Goals.{After-index_mut}

-- the session of that name
named : (c : After-index_mut)
    → slice_get c.args.self.now.sessions.items c.in-Some.place ≡ Some c.index_mut.result.now
named c = slice_get_read c.args.self.now.sessions.items _ c.in-Some.place c.index_mut.result.now refl c.in-Some.ensures.found.1 c.index_mut.ensures.value

pub returns-in_default-clause-step : goal.returns-in_default-clause-step
unfolding network_event
returns-in_default-clause-step c = λ N is. no_name N c.args.self.now _ _ _ is c.in_default.ensures.none refl

pub returns-clause-step : goal.returns-clause-step
unfolding network_event
returns-clause-step c = λ N is.
    let at = named (goal.at.returns-clause-step c).After-index_mut in
    step_named N c.args.self.now _ (λ k. Resume k c.args.attempts) c.in-Some.place _ _ c.in-Some.ensures.found.0
    (acts-fine N c.args.self.now _ c.in-Some.place c.index_mut.result.now _ is (record { at = at; sessions = refl; clocks = refl; links = refl; name = refl; identity = refl })
    (Resume c.in-Some.place c.args.attempts) (nothing_to_resume) (λ z. resumed z c.args.attempts) refl (cond-false _ _ _ (ap not c.in_ok-resume.ensures.refusal)) c.in_ok-resume.ensures.resumed refl refl)

pub returns-clause-names : goal.returns-clause-names
returns-clause-names c = names-session c.args.self.now c.in-Some.place c.index_mut.result.now _ (named (goal.at.returns-clause-names c).After-index_mut) refl

pub returns-in_err-resume-clause-step : goal.returns-in_err-resume-clause-step
unfolding network_event
returns-in_err-resume-clause-step c = λ N is.
    let at = named (goal.at.returns-in_err-resume-clause-step c).After-index_mut in
    step_named N c.args.self.now _ (λ k. Resume k c.args.attempts) c.in-Some.place _ _ c.in-Some.ensures.found.0
    (step_error N c.args.self.now _ (Resume c.in-Some.place c.args.attempts) _ c.from_residual.result c.from_residual.ensures.1
    (rw c.in_err-resume.ensures.refusal.0 (acts-refused N c.args.self.now _ c.in-Some.place c.index_mut.result.now _ is (record { at = at; sessions = refl; clocks = refl; links = refl; name = refl; identity = refl })
    (Resume c.in-Some.place c.args.attempts) nothing_to_resume _ (SendRefused sends.Idle) refl (cond-true _ _ _ (ap not c.in_err-resume.ensures.refusal.1)))))
