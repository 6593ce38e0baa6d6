-- A desk is what one asker has: its session as it is, the session as its file has it, and the notebook of its owner. Nothing is sent
-- that the file has not. Nothing leaves the file that the notes have not as reported. Nothing is begun that the notes have not as
-- begun, nor before an answer shows that its number is new. Nothing is begun while the file has another request (this project's
-- profile).
use Rattle.std.specs.Prelude.{◌≡◌, ◌⊎◌, ℕ, ◌+◌, ◌||◌, Bool, true, false, List, [], ◌∷◌, Option, Some, None}
use Rattle.ptpm_codec.specs.SequenceNumber.{number_of}
use Rattle.ptpm_data.specs.Request.{RequestValue}
use Rattle.ptpm_manager.specs.declared.receiving.Received.{Received}
use Rattle.ptpm_manager.specs.declared.receiving.Received.TheVariants as received
use Rattle.ptpm_manager.specs.declared.report.Outcome.{Outcome}
use Rattle.ptpm_manager.specs.declared.setup.Setup.{Setup}
use Rattle.ptpm_manager.specs.Receiving.{left_by, received_of}
use Rattle.ptpm_manager.specs.Session.{SessionValue, anew, begun, fresh, given_up, is_waiting, resumed, retuned, sent}
use Rattle.ptpm_asker.specs.Question.{asks_question, is_question}

pub data Note : Type 0 where
  IsBegun : (tag number : ℕ) → Note
  IsTold : (tag number : ℕ) (outcome : Outcome) → Note
  -- the owner gives up a request of an earlier run
  IsLetGo : (number : ℕ) → Note

-- what an answer that was heard says
pub record Heard : Type 0 where
  pub number : ℕ
  pub outcome : Outcome

-- what a program knows since it began, and loses by a crash
pub record Run : Type 0 where
  -- the answer to the request that was begun last
  pub heard : Option Heard
  -- whether any answer was heard
  pub is_known : Bool
  -- whether a message of the latest request left, or may have, before the one that was handed out last
  pub has_left : Bool
  -- whether that one left, as far as is known
  pub is_out : Bool

pub record Desk : Type 0 where
  pub live : SessionValue
  pub file : Option SessionValue
  -- the latest is the first
  pub notes : List Note
  pub run : Run

-- what was under way before may have left
abbrev pub new_run : Run
new_run = record { heard = None; is_known = false; has_left = true; is_out = false }

-- a request is begun: it has no answer, and no message of it left
abbrev pub unsent_run : Bool → Run
unsent_run known = record { heard = None; is_known = known; has_left = false; is_out = false }

-- the number of the request that was begun last, and that of the next one
abbrev pub latest_number : SessionValue → ℕ
latest_number s = number_of s.setup.first s.issued

abbrev pub next_number : SessionValue → ℕ
next_number s = number_of s.setup.first (s.issued + 1)

-- ---- moves

pub data Move : Type 0 where
  Begins : (tag : ℕ) (request : RequestValue) → Move
  Saves : Move
  Sends : Move
  Hears : (datagram : List ℕ) → Move
  Notes : (note : Note) → Move
  Resumes : (attempts : ℕ) → Move
  Retunes : (domain : ℕ) → Move
  LetsGo : Move
  -- there was no way for the message that was handed out last
  Returns : Move
  -- a session that is in no file begins anew at another number
  Starts : (setup : Setup) (domain : ℕ) → Move
  -- a session goes on as a new one with its next number, or with that of a request that did not leave
  Continues : (setup : Setup) → Move
  TakesBack : (setup : Setup) → Move
  -- what is in no file and in no note is lost
  Crashes : Move

-- the session that a program goes on with; without a file nothing is under way
abbrev pub reopened : Option SessionValue → SessionValue → SessionValue
reopened None s = given_up s
reopened (Some f) s = anew f

abbrev pub heard_after : SessionValue → Option Heard → Received → Option Heard
heard_after s before (received.Answered report) = Some (record { number = latest_number s; outcome = report.outcome })
heard_after s before (received.Ignored reason) = before

abbrev pub known_after : Bool → Received → Bool
known_after before (received.Answered report) = true
known_after before (received.Ignored reason) = before

abbrev pub moved : Desk → Move → Desk
moved d (Begins tag request) = record d { live = begun d.live request; run = unsent_run d.run.is_known }
moved d Saves = record d { file = Some d.live }
moved d Sends = record d {
  live = sent d.live;
  run = record d.run { has_left = d.run.has_left || d.run.is_out; is_out = true };
}
moved d (Hears datagram) = record d {
  live = left_by d.live (received_of d.live datagram);
  run = record d.run {
    heard = heard_after d.live d.run.heard (received_of d.live datagram);
    is_known = known_after d.run.is_known (received_of d.live datagram);
  };
}
moved d (Notes note) = record d { notes = note ∷ d.notes }
moved d (Resumes attempts) = record d { live = resumed d.live attempts }
moved d (Retunes domain) = record d { live = retuned d.live domain }
moved d LetsGo = record d { live = given_up d.live }
moved d Returns = record d { run = record d.run { is_out = false } }
moved d (Starts setup domain) = record d { live = fresh setup domain; run = new_run }
moved d (Continues setup) = record d { live = fresh setup d.live.domain }
moved d (TakesBack setup) = record d { live = fresh setup d.live.domain }
moved d Crashes = record d { live = reopened d.file d.live; run = new_run }

abbrev pub moved_by : Desk → List Move → Desk
moved_by d [] = d
moved_by d (m ∷ ms) = moved_by (moved d m) ms

-- ---- which moves are allowed

-- the file has this under way, under this number; as long as there is no file, a question asks whether a number is new
abbrev pub HasRequest : Option SessionValue → Option RequestValue → ℕ → Type 0
HasRequest None q number = asks_question q ≡ true
HasRequest (Some f) q number = (f.unanswered ≡ q) × (latest_number f ≡ number)

-- the file has what the session has under way
abbrev pub HasIt : Option SessionValue → SessionValue → Type 0
HasIt file s = HasRequest file s.unanswered (latest_number s)

-- the latest note says that this is begun
abbrev pub SaysBegun : List Note → ℕ → ℕ → Type 0
SaysBegun [] tag number = ⊥
SaysBegun (IsBegun t n ∷ further) tag number = (t ≡ tag) × (n ≡ number)
SaysBegun (IsTold t n outcome ∷ further) tag number = ⊥
SaysBegun (IsLetGo n ∷ further) tag number = ⊥

-- the latest note says what came of the request of this number, or that its owner gives it up
abbrev pub SaysTold : List Note → ℕ → Type 0
SaysTold [] number = ⊥
SaysTold (IsBegun t n ∷ further) number = ⊥
SaysTold (IsTold t n outcome ∷ further) number = n ≡ number
SaysTold (IsLetGo n ∷ further) number = n ≡ number

-- no message of the latest request left
pub record HasNoneOut (r : Run) : Type 0 where
  pub none_left : r.has_left ≡ false
  pub none_out : r.is_out ≡ false

-- no message of the file's request left, and the session begins at its number
pub record IsTakenBack (f s : SessionValue) (r : Run) : Type 0 where
  pub none : HasNoneOut r
  pub idle : is_waiting s ≡ false
  pub anew : s.issued ≡ 0
  pub first : s.setup.first ≡ latest_number f

-- what is under way in the file stays there, or is a question, or is reported, or did not leave
abbrev pub MayLeave : Option RequestValue → SessionValue → SessionValue → List Note → Run → Type 0
MayLeave None f s notes r = Unit {0}
MayLeave (Some q) f s notes r =
    HasIt (Some f) s ⊎ ((is_question q ≡ true) ⊎ (SaysTold notes (latest_number f) ⊎ IsTakenBack f s r))

abbrev pub LeavesTold : Option SessionValue → SessionValue → List Note → Run → Type 0
LeavesTold None s notes r = Unit {0}
LeavesTold (Some f) s notes r = MayLeave f.unanswered f s notes r

-- a question at most is under way in the file
abbrev pub IsFreeOf : Option RequestValue → Type 0
IsFreeOf None = Unit {0}
IsFreeOf (Some q) = is_question q ≡ true

abbrev pub IsFree : Option SessionValue → Type 0
IsFree None = Unit {0}
IsFree (Some f) = IsFreeOf f.unanswered

-- what is noted as reported is what the answer says that was heard
abbrev pub IsHeard : Note → Option Heard → Type 0
IsHeard (IsBegun tag number) heard = Unit {0}
IsHeard (IsTold tag number outcome) heard = heard ≡ Some (record { number = number; outcome = outcome })
IsHeard (IsLetGo number) heard = Unit {0}

-- the notes have this as begun under the next number, and an answer of this run says that this number is new
abbrev pub IsKnownNew : Desk → ℕ → Type 0
IsKnownNew d tag = SaysBegun d.notes tag (next_number d.live) × (d.run.is_known ≡ true)

abbrev pub IsAllowed : Desk → Move → Type 0
IsAllowed d (Begins tag request) =
    (is_waiting d.live ≡ false) × IsFree d.file × ((is_question request ≡ true) ⊎ IsKnownNew d tag)
IsAllowed d Saves = LeavesTold d.file d.live d.notes d.run
IsAllowed d Sends = (is_waiting d.live ≡ true) × HasIt d.file d.live
IsAllowed d (Hears datagram) = Unit {0}
IsAllowed d (Notes note) = IsHeard note d.run.heard
IsAllowed d (Resumes attempts) = Unit {0}
IsAllowed d (Retunes domain) = Unit {0}
IsAllowed d LetsGo = SaysTold d.notes (latest_number d.live)
IsAllowed d Returns = Unit {0}
IsAllowed d (Starts setup domain) = d.file ≡ None
IsAllowed d (Continues setup) = (is_waiting d.live ≡ false) × (setup.first ≡ next_number d.live)
IsAllowed d (TakesBack setup) = HasNoneOut d.run × (is_waiting d.live ≡ true) × (setup.first ≡ latest_number d.live)
IsAllowed d Crashes = Unit {0}

-- each of these moves is allowed in its turn
abbrev pub AreAllowed : Desk → List Move → Type 0
AreAllowed d [] = Unit {0}
AreAllowed d (m ∷ ms) = IsAllowed d m × AreAllowed (moved d m) ms
