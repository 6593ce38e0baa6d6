-- What the settings of a host describe: a survey. And why they describe none.
use Rattle.std.specs.Prelude.{ℕ, ◌==◌, if◌then◌else◌, [], ◌∷◌, Option}
use Rattle.ptpm_codec.specs.declared.identity.ClockIdentity.{ClockIdentity}
use Rattle.ptpm_codec.specs.declared.identity.PortIdentity.{PortIdentity}
use Rattle.ptpm_codec.specs.Identity.{every_clock, same_clock}
use Rattle.ptpm_codec.specs.Ordered.{first_of}
use Rattle.ptpm_manager.specs.declared.enquiry.Enquiry.{Enquiry}
use Rattle.ptpm_host.specs.declared.refusal.SessionRefusal.{SessionRefusal}
use Rattle.ptpm_host.specs.declared.refusal.SessionRefusal.TheVariants as refusals
use Rattle.ptpm_host.specs.declared.survey_settings.SurveySettings.{SurveySettings}
use Rattle.ptpm_host.specs.Settings.{is_zero}

-- what a survey has of a host that names no port: the portNumber of no session (this project's profile)
abbrev pub survey_port : ℕ
survey_port = 65534

-- the portNumber that its host gives; 0 is no port's (7.5.2.3)
abbrev pub port_given : ℕ → ℕ
port_given port = if port == 0 then survey_port else port

abbrev pub surveying_port : SurveySettings → PortIdentity
surveying_port s = record { clock = record { 0 = s.clock }; port = port_given s.port }

-- of every port of one clock
abbrev pub enquiry_at : SurveySettings → ClockIdentity → Enquiry
enquiry_at s target = record {
  me = surveying_port s;
  target = target;
  domain = s.domain;
  number = s.number;
  hops = s.hops;
  id = s.id;
}

-- of every port of every clock
abbrev pub enquiry_of : SurveySettings → Enquiry
enquiry_of s = enquiry_at s every_clock

-- the manager's clock is not the identity that means every clock (15.3.1)
abbrev pub survey_refusal : SurveySettings → Option SessionRefusal
survey_refusal s = first_of ((same_clock (surveying_port s).clock every_clock, refusals.ManagerIsEvery) ∷ [])

-- The clock that is asked is another one than the manager's, and neither has the identity that means every clock. That of the
-- clock is not all zeros (this project's profile). So a survey is judged as a session is, without the ports.
abbrev pub survey_refusal_at : SurveySettings → ClockIdentity → Option SessionRefusal
survey_refusal_at s target = first_of (
    (same_clock (surveying_port s).clock every_clock, refusals.ManagerIsEvery)
    ∷ (same_clock target every_clock, refusals.TargetIsEvery)
    ∷ (same_clock (surveying_port s).clock target, refusals.SameClock)
    ∷ (is_zero target, refusals.TargetIsZero)
    ∷ [])
