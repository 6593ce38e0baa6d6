use Rattle.ptpm_restarts.proofs.ActRuns.{acts_as_if_never, served-among-acts, told-same-report}
use Rattle.ptpm_restarts.proofs.restarts.restarts_among_acts.Goals as goal

pub returns-clause-as_if_never : goal.returns-clause-as_if_never
returns-clause-as_if_never c = acts_as_if_never

pub returns-clause-served : goal.returns-clause-served
returns-clause-served c = served-among-acts

pub returns-clause-told_again : goal.returns-clause-told_again
returns-clause-told_again c = told-same-report
