-- What happens at one clock of a change: the desk of the asker that asks its steps, and what the desk's owner notes.
use Rattle.std.specs.Prelude.{◌≡◌, ◌<◌, ℕ, false, List, [], ◌∷◌, Option}
use Rattle.ptpm_data.specs.Request.{RequestValue}
use Rattle.ptpm_manager.specs.Session.{SessionValue, is_waiting}
use Rattle.ptpm_network.specs.Network.{Network}
use Rattle.ptpm_asker.specs.Desk.{AreAllowed, Begins, Desk, IsBegun, IsFree, IsTold, Move, Note, Notes, SaysBegun, moved, next_number}
use Rattle.ptpm_asker.specs.Question.{asks_question}
use Rattle.ptpm_restarts.specs.DeskIncidents.{AreStepsOf, DeskStep, Mirrors, desk_incidents, desk_moves}
use Rattle.ptpm_restarts.specs.Incidents.{Incident}
use Rattle.ptpm_restarts.specs.Restarting.{initial_restarting}
use Rattle.ptpm_apply.specs.Resuming.{desk_after, opened_desk}
use Rattle.ptpm_apply.specs.Steps.{IsAsked}
use Rattle.ptpm_apply.specs.Watching.{Sent, Watch, nothing_seen, sent_in, watched}

-- ---- what the owner notes

-- Nothing but questions and steps is begun. A step is noted as begun while nothing is under way, under the next number. What is noted as
-- the answer to a step is the one that was heard since it was noted as begun, and answers no question.
abbrev pub IsNotedSo : (ℕ → RequestValue) → Desk → Watch → Move → Type 0
IsNotedSo steps d w (Begins tag request) = IsAsked steps (Begins tag request)
IsNotedSo steps d w (Notes (IsBegun tag number)) = (is_waiting d.live ≡ false) × IsFree d.file × (number ≡ next_number d.live)
IsNotedSo steps d w (Notes (IsTold tag number outcome)) = SaysBegun d.notes tag number × (asks_question w.answered ≡ false)
IsNotedSo steps d w _ = Unit {0}

abbrev pub AreNotedSo : (ℕ → RequestValue) → Desk → Watch → List Move → Type 0
AreNotedSo steps d w [] = Unit {0}
AreNotedSo steps d w (m ∷ ms) = IsNotedSo steps d w m × AreNotedSo steps (moved d m) (watched d w m) ms

-- ---- one clock

-- what a session's file had when the change began, and what happened since
pub record Lane : Type 0 where
  pub file : Option SessionValue
  pub value : SessionValue
  pub happened : List DeskStep

abbrev pub first_of : Lane → Desk
first_of l = opened_desk l.file l.value

abbrev pub notes_of : Lane → List Note
notes_of l = (desk_after l.file l.value (desk_moves l.happened)).notes

abbrev pub messages_of : Lane → List Sent
messages_of l = sent_in (first_of l) (desk_moves l.happened)

-- This is what happens at the clock of a session, and these are the incidents of the network meanwhile. No request was under way at
-- first, but perhaps a question.
pub record IsLane (N : Network) (s : ℕ) (steps : ℕ → RequestValue) (is : List Incident) (l : Lane) : Type 0 where
  pub exists : s < N.sessions
  pub free : IsFree l.file
  pub mirrors : Mirrors N s (first_of l) (initial_restarting N)
  pub allowed : AreAllowed (first_of l) (desk_moves l.happened)
  pub noted : AreNotedSo steps (first_of l) nothing_seen (desk_moves l.happened)
  pub happens : AreStepsOf N s (first_of l) (initial_restarting N) l.happened
  pub incidents : desk_incidents N s (first_of l) (initial_restarting N) l.happened ≡ is
