-- A survey that a host keeps: who gave an answer, and why none is given.
use Rattle.std.specs.Prelude.{ℕ, Option, None, Some}
use Rattle.ptpm_codec.specs.declared.identity.PortIdentity.{PortIdentity}
use Rattle.ptpm_manager.specs.Answers.{Answer}
use Rattle.ptpm_host.specs.declared.refusal.ReportRefusal.{ReportRefusal}
use Rattle.ptpm_host.specs.declared.refusal.ReportRefusal.TheVariants.{NoReport}
use Rattle.ptpm_host.specs.declared.survey.Source.{Source}
use Rattle.ptpm_host.specs.ReportedOutcome.{room_refusal}

abbrev pub source_of : PortIdentity → Source
source_of identity = record { clock = identity.clock.0; port = identity.port }

-- there is no answer at the place, or less room than its dataField takes
abbrev pub answer_refusal : ℕ → Option Answer → Option ReportRefusal
answer_refusal room None = Some NoReport
answer_refusal room (Some answer) = room_refusal room answer.1
