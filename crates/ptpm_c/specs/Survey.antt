-- What a call of C leaves of a survey that a handle holds.
use Rattle.std.specs.Prelude.{◌≡◌, ℕ, List}
use Rattle.ptpm_manager.specs.declared.enquiry.Enquiry.{Enquiry}
use Rattle.ptpm_manager.specs.Answers.{Answer, heard, kept_by}
use Rattle.ptpm_host.specs.declared.survey.HostedSurvey.{HostedSurvey}

-- a survey that asks this, with these answers
abbrev pub IsAt : HostedSurvey → Enquiry → List Answer → Type 0
IsAt t enquiry answers = (t.survey.enquiry ≡ enquiry) × (t.survey.answers ≡ answers)

-- the survey that it holds, after a datagram
abbrev pub HasSurveyed : HostedSurvey → List ℕ → HostedSurvey → Type 0
HasSurveyed s datagram t = IsAt t s.survey.enquiry (kept_by s.survey.answers (heard s.survey.enquiry datagram))
