-- What a step answers.
use Rattle.std.specs.Prelude.{List, [], ◌∷◌, Result, Ok, Err, ℕ, ◌++◌, codes}
use Rattle.ptpm_manager.specs.declared.error.BeginError.{BeginError}
use Rattle.ptpm_manager.specs.declared.receiving.Received.{Received}
use Rattle.ptpm_manager.specs.declared.report.Report.{Report}
use Rattle.ptpm_network.specs.Events.{Event, Refusal}
use Rattle.ptpm_network.specs.Network.{Network}
use Rattle.ptpm_network.specs.RunningNetwork.{Decided, Deed, Done, Happened, Heard, RunningNetwork, network_after, network_event}
use Rattle.ptpm_world.specs.declared.took.StepError.{StepError}
use Rattle.ptpm_world.specs.declared.took.Took.{Took}
use Rattle.ptpm_world.specs.declared.took.Took.TheVariants.{Fine, AtClock, Answered, Ignored}
use Rattle.ptpm_agent.specs.VerdictText.{verdict_text}
use Rattle.ptpm_manager.specs.ErrorText.{begin_error_text, reason_text, send_error_text}
use Rattle.ptpm_manager.specs.declared.error.BeginError.TheVariants as begins
use Rattle.ptpm_manager.specs.declared.receiving.Received.TheVariants as received
use Rattle.ptpm_network.specs.Events as refusals
use Rattle.ptpm_world.specs.declared.took.StepError.TheVariants as errors

abbrev pub error_of : Refusal → StepError
error_of refusals.NoSuchName = errors.NoSuchName
error_of refusals.NoSuchFrame = errors.NoSuchFrame
error_of refusals.Forged = errors.Forged
error_of refusals.FramesAtMaximum = errors.FramesAtMaximum
error_of (refusals.BeginRefused error) = errors.Begin error
error_of (refusals.SendRefused error) = errors.Send error

-- want of memory is no refusal
abbrev pub begin_error : BeginError → StepError
begin_error begins.OutOfMemory = errors.OutOfMemory
begin_error error = errors.Begin error

-- a session answers Answered if it reports, and else why it does not
abbrev pub heard : Received → Took
heard (received.Answered report) = Answered
heard (received.Ignored reason) = Ignored reason

-- what a session reports
abbrev pub reports_in : Received → List Report
reports_in (received.Answered report) = report ∷ []
reports_in (received.Ignored reason) = []

-- what a step answers of what an event did
abbrev pub took_of : Deed → Took
took_of Done = Fine
took_of (Decided verdict) = AtClock verdict
took_of (Heard got) = heard got

abbrev pub answer_of : Result Happened Refusal → Result Took StepError
answer_of (Ok happened) = Ok (took_of happened.deed)
answer_of (Err reason) = Err (error_of reason)

-- what it did, or why it is refused
abbrev pub answer : Network → RunningNetwork → Event → Result Took StepError
answer N r e = answer_of (network_event N r e)

-- the network after it: a refused event changes nothing
abbrev pub after : Network → RunningNetwork → Event → RunningNetwork
after N r e = network_after r (network_event N r e)

-- ---- how what an event did, and why one is refused, are written (this project's profile)

abbrev pub took_text : Took → List ℕ
took_text Fine = codes "ok"
took_text (AtClock verdict) = verdict_text verdict
took_text Answered = codes "Answered"
took_text (Ignored reason) = codes "Ignored " ++ reason_text reason

-- a session's own refusal has no name before it
abbrev pub step_error_text : StepError → List ℕ
step_error_text errors.NoSuchName = codes "NoSuchName"
step_error_text errors.NoSuchFrame = codes "NoSuchFrame"
step_error_text errors.Forged = codes "Forged"
step_error_text errors.FramesAtMaximum = codes "FramesAtMaximum"
step_error_text (errors.Begin error) = begin_error_text error
step_error_text (errors.Send error) = send_error_text error
step_error_text errors.OutOfMemory = codes "OutOfMemory"
