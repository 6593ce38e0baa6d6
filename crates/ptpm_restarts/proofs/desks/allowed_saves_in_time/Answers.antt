use Rattle.ptpm_restarts.proofs.ActRuns.{acts_as_if_never}
use Rattle.ptpm_restarts.proofs.DeskMoves.{all-done, asker-done, kept-reply, mirrors-first}
use Rattle.ptpm_restarts.proofs.desks.allowed_saves_in_time.Goals as goal

pub returns-clause-first : goal.returns-clause-first
returns-clause-first c = mirrors-first

pub returns-clause-in_time : goal.returns-clause-in_time
returns-clause-in_time c = λ N s d k xs place mirrors allowed steps. all-done N s place xs d k mirrors allowed steps

pub returns-clause-of_asker : goal.returns-clause-of_asker
returns-clause-of_asker c = asker-done

pub returns-clause-as_if_never : goal.returns-clause-as_if_never
returns-clause-as_if_never c = λ N s d xs network saved timely. acts_as_if_never N _ (record { network = network; possible = saved.possible; timely = timely })

pub returns-clause-kept : goal.returns-clause-kept
returns-clause-kept c = kept-reply
