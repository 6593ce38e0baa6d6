-- What holds of an asker and its driver at each moment, and how a turn goes on from it.
use Rattle.std.proofs.Common.{◌≡◌, ℕ, Bool, true, false, List, [], ◌∷◌, length, Option, Some, None, is_some, if◌then◌else◌}
use Rattle.std.proofs.lemmas.Bool.{cond_both}
use Rattle.ptpm_manager.specs.declared.ask.Ask.{Ask}
use Rattle.ptpm_manager.specs.declared.report.Outcome.{Outcome}
use Rattle.ptpm_manager.specs.Session.{SessionValue, is_waiting}
use Rattle.ptpm_asker.specs.declared.earlier.Earlier.{Earlier}
use Rattle.ptpm_asker.specs.declared.earlier.Earlier.TheVariants as earlier
use Rattle.ptpm_asker.specs.declared.stage.Stage.{Stage}
use Rattle.ptpm_asker.specs.declared.stage.Stage.TheVariants as stages
use Rattle.ptpm_asker.specs.Asker.{AskerValue}
use Rattle.ptpm_asker.specs.Desk.{AreAllowed, Desk, HasIt, HasNoneOut, Run, IsAllowed, IsBegun, IsFree, IsTold, LeavesTold, Move, Note, Notes, Saves, latest_number, moved, moved_by}
use Rattle.ptpm_asker.specs.Question.{asks_question}
use Rattle.ptpm_asker.specs.Turns.{Turn, after_moves, is_unsettled, latest, next}
use Rattle.ptpm_asker.specs.Allowed.{due_after}

-- the file's latest request is that of this number
abbrev pub IsOfLatest : Option SessionValue → ℕ → Type 0
IsOfLatest None number = Unit {0}
IsOfLatest (Some f) number = latest_number f ≡ number

pub record IsUnderWay (file : Option SessionValue) (s : SessionValue) : Type 0 where
  pub waiting : is_waiting s ≡ true
  pub has : HasIt file s

pub record IsQuestionLeft (file : Option SessionValue) (s : SessionValue) : Type 0 where
  pub under_way : IsUnderWay file s
  pub asks : asks_question s.unanswered ≡ true

pub record IsAtRest (file : Option SessionValue) (s : SessionValue) : Type 0 where
  pub nothing : s.unanswered ≡ None
  pub free : IsFree file

abbrev pub RestsWith : Earlier → Option SessionValue → SessionValue → Type 0
RestsWith earlier.NoRequest file s = IsAtRest file s
RestsWith earlier.Question file s = IsQuestionLeft file s
RestsWith earlier.Reads file s = IsUnderWay file s
RestsWith (earlier.MovesTo domain) file s = IsUnderWay file s
RestsWith earlier.Changes file s = IsUnderWay file s

-- what is tested is a question
abbrev pub TestsQuestion : AskerValue → Type 0
TestsQuestion a = a.is_testing ≡ true → is_waiting a.session ≡ true → asks_question a.session.unanswered ≡ true

-- of a request of this run the asker knows which messages left
pub record IsOut (a : AskerValue) (run : Run) : Type 0 where
  pub left : run.has_left ≡ a.has_left
  pub out : run.is_out ≡ a.is_out

abbrev pub KnowsOut : AskerValue → Run → Type 0
KnowsOut a run = a.is_testing ≡ false → is_unsettled a.earlier ≡ false → IsOut a run

-- no message left of a request that was just begun
abbrev pub IsUnsent : AskerValue → Run → Type 0
IsUnsent a run = a.is_testing ≡ false → is_waiting a.session ≡ true → HasNoneOut run

-- what is wanted is announced only after an answer of this run
abbrev pub IsKnown : Option Ask → Run → Type 0
IsKnown wanted run = is_some wanted ≡ true → run.is_known ≡ true

pub record IsResting (a : AskerValue) (file : Option SessionValue) (due : List Move) : Type 0 where
  pub due_is : due ≡ []
  pub rests : RestsWith a.earlier file a.session

pub record IsWaiting (a : AskerValue) (due : List Move) : Type 0 where
  pub due_is : due ≡ []
  pub nothing : a.session.unanswered ≡ None
  pub unkept : a.is_kept ≡ false

pub record IsNoting (a : AskerValue) (file : Option SessionValue) (run : Run) (due : List Move) : Type 0 where
  pub due_is : due ≡ Notes (IsBegun a.tag (next a)) ∷ []
  pub rests : IsAtRest file a.session
  pub none_left : a.earlier ≡ earlier.NoRequest
  pub known : IsKnown a.wanted run

pub record IsSaving (a : AskerValue) (file : Option SessionValue) (notes : List Note) (run : Run) (due : List Move) : Type 0 where
  pub due_is : due ≡ Saves ∷ []
  pub leaves : LeavesTold file a.session notes run
  pub tests : TestsQuestion a
  pub unsent : IsUnsent a run
  pub known : is_waiting a.session ≡ false → IsKnown a.wanted run
  pub none_left : a.earlier ≡ earlier.NoRequest

pub record IsAsking (a : AskerValue) (file : Option SessionValue) (run : Run) (due : List Move) : Type 0 where
  pub due_is : due ≡ []
  pub under_way : IsUnderWay file a.session
  pub tests : TestsQuestion a
  pub out : KnowsOut a run

pub record IsTelling (a : AskerValue) (file : Option SessionValue) (run : Run) (due : List Move) : Type 0 where
  pub outcome : Outcome
  pub due_is : due ≡ Notes (IsTold a.tag (latest a) outcome) ∷ []
  pub is_heard : run.heard ≡ Some (record { number = latest a; outcome = outcome })
  pub known : run.is_known ≡ true
  pub nothing : a.session.unanswered ≡ None
  pub of_latest : IsOfLatest file (latest_number a.session)
  pub none_left : a.earlier ≡ earlier.NoRequest

abbrev pub StandsAt : Stage → AskerValue → Option SessionValue → List Note → Run → List Move → Type 0
StandsAt stages.Resting a file notes run due = IsResting a file due
StandsAt stages.Waiting a file notes run due = IsWaiting a due
StandsAt stages.Noting a file notes run due = IsNoting a file run due
StandsAt stages.Saving a file notes run due = IsSaving a file notes run due
StandsAt stages.Asking a file notes run due = IsAsking a file run due
StandsAt stages.Telling a file notes run due = IsTelling a file run due
StandsAt stages.Over a file notes run due = due ≡ []

-- what holds at every stage
pub record IsWell (a : AskerValue) (file : Option SessionValue) (run : Run) : Type 0 where
  pub size : length a.drawn ≡ 26
  pub first : a.first ≡ a.session.setup.first
  pub unkept : a.is_kept ≡ false → file ≡ None
  pub known : a.is_new ≡ true → run.is_known ≡ true

pub record Stands (a : AskerValue) (file : Option SessionValue) (notes : List Note) (run : Run) (due : List Move) : Type 0 where
  pub well : IsWell a file run
  pub at : StandsAt a.stage a file notes run due

-- these moves are allowed at a desk, and lead to where the turn leaves the asker
pub record Goes (d : Desk) (moves : List Move) (due : List Move) (t : Turn) : Type 0 where
  pub allowed : AreAllowed d moves
  pub live : (moved_by d moves).live ≡ t.asker.session
  pub stands : Stands t.asker (moved_by d moves).file (moved_by d moves).notes (moved_by d moves).run (due_after due t.output)

abbrev pub GoesOn : Desk → List Move → Turn → Type 0
GoesOn d due t = Goes d t.moves due t

abbrev pub desk : SessionValue → Option SessionValue → List Note → Run → Desk
desk live file notes run = record { live = live; file = file; notes = notes; run = run }

-- one move before others
pub goes_after : (d : Desk) (m : Move) (moves due : List Move) (t : Turn)
    → IsAllowed d m → Goes (moved d m) moves due t → Goes d (m ∷ moves) due t
goes_after d m moves due t h g = record { allowed = (h, g.allowed); live = g.live; stands = g.stands }

pub goes_on_after : (d : Desk) (m : Move) (due : List Move) (t : Turn)
    → IsAllowed d m → GoesOn (moved d m) due t → GoesOn d due (after_moves (m ∷ []) t)
goes_on_after d m due t h g = record { allowed = (h, g.allowed); live = g.live; stands = g.stands }

pub goes_if : (b : Bool) (d : Desk) (due : List Move) (t u : Turn)
    → (b ≡ true → GoesOn d due t) → (b ≡ false → GoesOn d due u) → GoesOn d due (if b then t else u)
goes_if b d due t u p q = cond_both b t u (λ v. GoesOn d due v) p q
