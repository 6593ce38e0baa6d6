-- What `ptpm plan` prints and how it ends, by what it reads (this project's profile).
use Rattle.std.specs.Prelude.{◌≡◌, ℕ, ◌+◌, ◌==◌, Bool, true, false, if◌then◌else◌, codes, decimal, length, List, [], ◌∷◌, ◌++◌, map, Option, Some, None, IfSome, Result, Ok, Err}
use Rattle.std.specs.List.{filter_map, list_any}
use Rattle.std.specs.List.Sorted.{IsSortedByKey}
use Rattle.std.specs.Int.{to_be_bytes, w16}
use Rattle.std.specs.Option.{option_to_list}
use Rattle.std.specs.Io.KnownBytes.{Appends}
use Rattle.hex.specs.Hex.{encode_lower}
use Rattle.ptpm_codec.specs.Identity.{clock_identity_text}
use Rattle.ptpm_commands.specs.declared.faults.Fault.{Fault}
use Rattle.ptpm_commands.specs.Taken.{HasNumbers, line_datagram, taken}
use Rattle.ptpm_text.specs.Lines.{whole_lines}
use Rattle.ptpm_plan.specs.Answers.{answer_in}
use Rattle.ptpm_plan.specs.BestClock.{best_clocks, ranks_of, shown}
use Rattle.ptpm_plan.specs.Digest.{digest_of}
use Rattle.ptpm_plan.specs.FileText.{file_of, file_value, name_of}
use Rattle.ptpm_plan.specs.Order.{group_of, order_key}
use Rattle.ptpm_plan.specs.Outcome.{or_changes, status_of}
use Rattle.ptpm_plan.specs.PlanObject.{IsObjectLine}
use Rattle.ptpm_plan.specs.PlannedId.{number_of}
use Rattle.ptpm_plan.specs.Planned.{IsPlanOf, change_of}
use Rattle.ptpm_plan.specs.Warnings.{AreWarnings}
use Rattle.ptpm_plan.specs.contracts.order.OrderKeyOrd.TheImpl as key_order
use Rattle.ptpm_plan.specs.declared.answer.Answer.{Answer}
use Rattle.ptpm_plan.specs.declared.answers.Answers.{Answers}
use Rattle.ptpm_plan.specs.declared.change.Change.{Change}
use Rattle.ptpm_plan.specs.declared.plan.Plan.{Plan}
use Rattle.ptpm_plan.specs.declared.planning.PlanForm.{PlanForm}
use Rattle.ptpm_plan.specs.declared.planning.PlanForm.TheVariants as forms
use Rattle.ptpm_plan.specs.declared.planning.PlanOptions.{PlanOptions}
use Rattle.ptpm_plan.specs.declared.surveyed.Surveyed.{Surveyed}
use Rattle.ptpm_plan.specs.declared.wish.PlanFile.{PlanFile}

-- ---- the lines of steps, which `apply` reads

-- What a step is: its number and group, the domain, the clock and the port, the id in hexadecimal, and the dataFields before and after.
unfoldable pub step_clock : ℕ → ℕ → Change → List ℕ
step_clock number group c =
    codes "step " ++ decimal number ++ codes " " ++ decimal group ++ codes " " ++ decimal c.domain ++ codes " " ++ clock_identity_text c.clock.0

unfoldable pub step_member : Change → List ℕ
step_member c = codes " " ++ decimal c.port ++ codes " " ++ encode_lower (to_be_bytes w16 (number_of c.id))

unfoldable pub step_fields : Change → List ℕ
step_fields c = codes " " ++ encode_lower c.before.items ++ codes " " ++ encode_lower c.after.items ++ codes " "

abbrev pub step_head : Surveyed → ℕ → Change → List ℕ
step_head s number c = (step_clock number (group_of s c) c ++ step_member c) ++ step_fields c

abbrev pub has_feed : List ℕ → Bool
has_feed text = list_any (λ octet. octet == 10) text

-- a line that says what a step is, and then has words for a person
pub record IsStep (s : Surveyed) (number : ℕ) (c : Change) (line : List ℕ) : Type 0 where
  pub words : List ℕ
  pub is : line ≡ step_head s number c ++ words ++ 10 ∷ []
  pub one : has_feed words ≡ false

-- one, and then the others
pub record Begins (First Others : List ℕ → Type 0) (text : List ℕ) : Type 0 where
  pub first : List ℕ
  pub others : List ℕ
  pub is : text ≡ first ++ others
  pub is_first : First first
  pub are_others : Others others

-- one of this kind for each change, in their order, numbered from this on
abbrev pub AreNumbered : (ℕ → Change → List ℕ → Type 0) → ℕ → List Change → List ℕ → Type 0
AreNumbered Is number [] text = text ≡ []
AreNumbered Is number (c ∷ cs) text = Begins (Is number c) (AreNumbered Is (number + 1) cs) text

-- what was written is of this kind
pub record Writes (Is : List ℕ → Type 0) (old new : Option (List ℕ)) : Type 0 where
  pub text : List ℕ
  pub is : Is text
  pub written : Appends old new text

-- ---- the report

-- it begins with the plan's name, by which `apply --expect` knows it
unfoldable pub name_text : List Change → List ℕ
name_text changes = (codes "plan " ++ encode_lower (digest_of changes)) ++ codes ":"

-- how many changes there are, and then words for a person
pub record IsCount (count : ℕ) (line : List ℕ) : Type 0 where
  pub words : List ℕ
  pub is : line ≡ codes " " ++ decimal count ++ words ++ 10 ∷ []
  pub one : has_feed words ≡ false

-- port 0 means the clock itself
abbrev pub port_text : ℕ → List ℕ
port_text port = if port == 0 then [] else codes "/" ++ decimal port

abbrev pub domain_text : ℕ → List ℕ
domain_text domain = if domain == 0 then [] else codes " domain " ++ decimal domain

unfoldable pub row_head : ℕ → Change → List ℕ
row_head number c = codes "  " ++ decimal number ++ codes " " ++ clock_identity_text c.clock.0 ++ port_text c.port

unfoldable pub row_member : Change → List ℕ
row_member c = domain_text c.domain ++ codes " " ++ name_of c.id ++ codes " "

-- the row of a change: its number, the clock and the port, the clock's name, the domain, the id, and the values for a person
pub record IsRow (number : ℕ) (c : Change) (line : List ℕ) : Type 0 where
  pub name : List ℕ
  pub values : List ℕ
  pub is : line ≡ row_head number c ++ name ++ row_member c ++ values ++ 10 ∷ []
  pub one_name : has_feed name ≡ false
  pub one : has_feed values ≡ false

-- the number of changes, and a row for each
abbrev pub AreRows : List Change → List ℕ → Type 0
AreRows changes text = Begins (IsCount (length changes)) (AreNumbered IsRow 1 changes) text

pub record IsNamed (changes : List Change) (text : List ℕ) : Type 0 where
  pub rows : List ℕ
  pub words : List ℕ
  pub is : text ≡ name_text changes ++ rows ++ words
  pub are_rows : AreRows changes rows

pub record ComeAfterLine (Are : List ℕ → Type 0) (text : List ℕ) : Type 0 where
  pub further : List ℕ
  pub is : text ≡ 10 ∷ further
  pub are : Are further

-- the text, an empty line, and a line for each step of the plan
abbrev pub IsWithSteps : Plan → List ℕ → Type 0
IsWithSteps p text = Begins (IsNamed p.changes.items) (ComeAfterLine (AreNumbered (IsStep p.surveyed) 1 p.changes.items)) text

-- what is written of a plan
abbrev pub IsReport : PlanForm → Plan → Option (List ℕ) → Option (List ℕ) → Type 0
IsReport forms.Text p old new = Writes (IsNamed p.changes.items) old new
IsReport forms.Json p old new = Writes (IsObjectLine p.changes.items) old new
IsReport forms.Steps p old new = Writes (IsWithSteps p) old new

-- ---- the answers among lines

-- the answers that the datagrams of lines have
unfoldable pub answers_in : List ℕ → List Answer
answers_in octets = filter_map answer_in (taken line_datagram 1 (whole_lines octets)).values

-- what is taken from a line, by its datagram
abbrev pub TakesLine : Result (Option (List ℕ)) Fault → List Answer → List Answer → Type 0
TakesLine (Ok None) old new = new ≡ old
TakesLine (Ok (Some datagram)) old new = new ≡ old ++ option_to_list (answer_in datagram)
TakesLine (Err fault) old new = ⊥

-- these are the answers of a reader, if its octets are known
abbrev pub AreAnswersOf : Option (List ℕ) → List Answer → Type 0
AreAnswersOf known answers = IfSome known (λ octets. HasNumbers octets → answers ≡ answers_in octets)

-- ---- the end

-- the status of a plan; changes may have one of their own
abbrev pub status_by : Bool → Plan → ℕ
status_by false p = status_of p.rows.items p.unnamed.items p.found.items p.left_out
status_by true p = or_changes p.changes.items (status_of p.rows.items p.unnamed.items p.found.items p.left_out)

-- what is printed, and the status, are of the plan which a file and answers make: its changes in their order, with their warnings
pub record IsPrinted (text : List ℕ) (known : Option (List ℕ)) (options : PlanOptions) (old new : Option (List ℕ)) (status : ℕ) : Type 0 where
  pub file : PlanFile
  pub answers : Answers
  pub plan : Plan
  pub reads : file_of text ≡ Some (file_value file)
  pub answered : AreAnswersOf known answers.list.items
  pub plans : IsPlanOf file answers.list.items plan
  pub left_out : plan.left_out ≡ answers.left_out
  pub sorted : IsSortedByKey (order_key plan.surveyed (filter_map change_of plan.rows.items)) (key_order.ghosts).cmp plan.changes.items
  pub best : map shown plan.best.items ≡ best_clocks plan.changes.items (ranks_of plan.surveyed) 256
  pub warnings : AreWarnings plan.changes.items plan.best.items plan.surveyed plan.warnings.items
  pub report : IsReport options.form plan old new
  pub is : status ≡ status_by options.tells_changes plan
