-- A change of several clocks: its steps, one journal, and what happens at each clock.
use Rattle.std.specs.Prelude.{◌≡◌, ℕ, [], ◌∷◌, List}
use Rattle.ptpm_codec.specs.SequenceNumber.{number_of}
use Rattle.ptpm_data.specs.Reply.{Answer}
use Rattle.ptpm_data.specs.Request.{RequestValue}
use Rattle.ptpm_table.specs.Rendering.{answer_body}
use Rattle.ptpm_agent.specs.Once.{Accepted}
use Rattle.ptpm_manager.specs.declared.report.Outcome.{Outcome}
use Rattle.ptpm_manager.specs.Report.{outcome_in}
use Rattle.ptpm_network.specs.ByManager.{Account}
use Rattle.ptpm_network.specs.Network.{Network, manager}
use Rattle.ptpm_network.specs.Worth.{entries_of}
use Rattle.std.specs.List.{Contains}
use Rattle.ptpm_asker.specs.Desk.{IsBegun, IsTold}
use Rattle.ptpm_restarts.specs.Incidents.{Incident}
use Rattle.ptpm_journal.specs.declared.record.Step.{Step}
use Rattle.ptpm_journal.specs.declared.record.Note.{Note}
use Rattle.ptpm_journal.specs.InOrder.{AreAllowed, HasNote, Precedes}
use Rattle.ptpm_apply.specs.Watching.{Sent}
use Rattle.ptpm_changes.specs.Lane.{IsLane, Lane, notes_of}
use Rattle.ptpm_manager.specs.declared.report.Outcome.TheVariants as outcomes
use Rattle.ptpm_journal.specs.declared.record.Note.TheVariants as notes
use Rattle.ptpm_journal.specs.declared.record.Outcome as noted
use Rattle.ptpm_journal.specs.declared.record.Outcome.TheVariants as noted_outcomes

-- ---- what it means that a clock carried a request out: once, under a number, with an answer

-- By this account the target of a session carried this request out, once, as the one of this number. Its one answer says this.
pub record IsCarriedOut (N : Network) (s : ℕ) (a : Account) (request : RequestValue) (number : ℕ) (outcome : Outcome) : Type 0 where
  pub index : ℕ
  pub of_number : number_of (N.session s).setup.first index ≡ number
  pub entry : Accepted
  pub once : entries_of (manager N s) index a.accepted ≡ entry ∷ []
  pub is : entry.request ≡ request
  pub answer : Answer
  pub one : entry.reply.answers ≡ answer ∷ []
  pub says : outcome_in (answer_body entry.reply.action entry.reply.id answer.outcome) ≡ outcome

-- what a journal says of an answer: that it has a value, or which error
abbrev pub Says : noted.Outcome → ℕ → Outcome → Type 0
Says noted_outcomes.Done error outcome = (octets : List ℕ) × (outcome ≡ outcomes.Value octets)
Says noted_outcomes.Refused error outcome = outcome ≡ outcomes.Refused error
Says noted_outcomes.Answered error outcome = Unit {0}

-- the answer to a step as its clock's owner noted it
pub record IsToldAt (l : Lane) (step : ℕ) (says : noted.Outcome) (error : ℕ) : Type 0 where
  pub number : ℕ
  pub outcome : Outcome
  pub noted : Contains (notes_of l) (IsTold step number outcome)
  pub is_said : Says says error outcome

-- Each step asks a request, in the session with its clock. At each clock a lane is what happened. What is noted there is in the journal,
-- and the journal has no other answers. Each note of the journal is one that a run may make.
pub record IsChange (N : Network) (requests : ℕ → RequestValue) (steps : ℕ → Step) (session_of : ℕ → ℕ) (lane : ℕ → Lane)
    (journal : List Note) (is : List Incident) : Type 0 where
  pub allowed : AreAllowed steps journal
  pub lanes : (t : ℕ) → IsLane N (session_of t) requests is (lane (session_of t))
  pub begun : (t tag number : ℕ) → Contains (notes_of (lane (session_of t))) (IsBegun tag number) → HasNote journal (notes.Begun tag number)
  pub told : (t error : ℕ) (says : noted.Outcome) → HasNote journal (notes.Told t says error) → IsToldAt (lane (session_of t)) t says error

-- a step is carried out, and its answer has a value
pub record IsDone (N : Network) (s : ℕ) (a : Account) (request : RequestValue) : Type 0 where
  pub number : ℕ
  pub octets : List ℕ
  pub carried_out : IsCarriedOut N s a request number (outcomes.Value octets)

-- It is a message with a step, and each step that precedes that one is done.
pub record IsInOrder (N : Network) (requests : ℕ → RequestValue) (steps : ℕ → Step) (session_of : ℕ → ℕ) (a : ℕ → Account) (m : Sent)
    : Type 0 where
  pub step : ℕ
  pub is : m.request ≡ requests step
  pub before : (u : ℕ) → Precedes steps u step → IsDone N (session_of u) (a (session_of u)) (requests u)
