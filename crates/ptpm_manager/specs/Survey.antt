-- A survey: what it asks, and the answers that it keeps.
use Rattle.std.specs.Prelude.{List}
use Rattle.ptpm_manager.specs.declared.enquiry.Enquiry.{Enquiry}
use Rattle.ptpm_manager.specs.declared.survey.Survey.TheInside.{Inside}
use Rattle.ptpm_manager.specs.Answers.{Answer}

pub record SurveyValue : Type 0 where
  pub enquiry : Enquiry
  pub answers : List Answer

abbrev pub survey_value : Inside → SurveyValue
survey_value s = record { enquiry = s.enquiry; answers = s.answers.entries }
