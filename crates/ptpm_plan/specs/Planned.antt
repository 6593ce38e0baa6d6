-- A plan, by its file and the answers of its clocks.
use Rattle.std.specs.Prelude.{ℕ, Option, Some, None, ◌≡◌, List, [], fold, map, IsPermutation}
use Rattle.ptpm_plan.specs.declared.change.Change.{Change}
use Rattle.ptpm_plan.specs.declared.rows.Row.{Row}
use Rattle.ptpm_plan.specs.declared.subject.Subject.{Subject}
use Rattle.ptpm_plan.specs.declared.verdict.Verdict.{Verdict}
use Rattle.std.specs.List.{filter_map}
use Rattle.ptpm_plan.specs.Asking.{rows_of_file, unnamed_of}
use Rattle.ptpm_plan.specs.Outcome.{found_by}
use Rattle.ptpm_plan.specs.Rows.{with_row}
use Rattle.ptpm_plan.specs.Surveying.{IsSurvey}
use Rattle.ptpm_plan.specs.declared.answer.Answer.{Answer}
use Rattle.ptpm_plan.specs.declared.plan.Plan.{Plan}
use Rattle.ptpm_plan.specs.declared.wish.PlanFile.{PlanFile}
use Rattle.ptpm_plan.specs.declared.verdict.Verdict.TheVariants as verdicts

-- ---- the changes of a plan

abbrev pub change_at : ℕ → Subject → Verdict → Option Change
change_at place s (verdicts.Changes before after) = Some (record {
  place = place;
  domain = s.domain;
  clock = s.clock;
  port = s.port;
  id = s.id;
  before = before;
  after = after;
})
change_at place s _ = None

-- the change that a row is, if its member changes
unfoldable pub change_of : Row → Option Change
change_of r = change_at r.place r.subject r.verdict

-- Its clocks and ports are as the answers say. Its rows are those that the file asks for, one for each member. Its changes are the
-- rows that change, each once. It has the tables that name no clock, and what each table of every clock found.
pub record IsPlanOf (file : PlanFile) (answers : List Answer) (p : Plan) : Type 0 where
  pub surveyed : IsSurvey answers p.surveyed
  pub rows : p.rows.items ≡ fold with_row [] (rows_of_file answers p.surveyed file)
  pub changes : IsPermutation (filter_map change_of p.rows.items) p.changes.items
  pub unnamed : p.unnamed.items ≡ filter_map (unnamed_of answers p.surveyed.clocks.items) file.clocks.items
  pub found : p.found.items ≡ map (found_by answers p.surveyed.clocks.items) file.every.items
