use Rattle.ptpm_network.proofs.CarriedOut.{run-carried, event-carried, HasCarried}
use Rattle.ptpm_network.proofs.headline_laws.requests_carried_out.Goals as goal
use Rattle.ptpm_network.proofs.Common.{Result, Refusal, subst, Happened}
use Rattle.ptpm_network.specs.CarriedOut.{carried_by_event}
use Rattle.std.specs.Prelude.{IfOk}

pub returns-clause-event : goal.returns-clause-event
returns-clause-event c = λ N r c e h is.
    subst (λ (x : Result Happened Refusal). IfOk x (HasCarried N r c (carried_by_event N r c e))) is (event-carried N r c e)

pub returns-clause-events : goal.returns-clause-events
returns-clause-events c = run-carried
