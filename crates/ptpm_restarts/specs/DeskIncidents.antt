-- The moves of an asker's desk (`ptpm_asker`) as incidents of a network's session. The session runs as that of the desk, and is stored as
-- the desk's file has it. So each message that leaves is of a request that was saved before.
use Rattle.std.specs.Prelude.{◌≡◌, ℕ, ◌+◌, ◌^◌, ◌<◌, ◌≤◌, ◌||◌, true, false, List, [], ◌∷◌, ◌++◌, Option, Some, None, is_some, if◌then◌else◌}
use Rattle.std.specs.List.{AllByRecursion, Contains}
use Rattle.ptpm_codec.specs.SequenceNumber.{number_of}
use Rattle.ptpm_data.specs.Request.{RequestValue}
use Rattle.ptpm_agent.specs.Once.{Accepted}
use Rattle.ptpm_manager.specs.declared.receiving.Received.{Received}
use Rattle.ptpm_manager.specs.declared.receiving.Received.TheVariants as received
use Rattle.ptpm_manager.specs.declared.report.Outcome.{Outcome}
use Rattle.ptpm_manager.specs.declared.report.Report.{Report}
use Rattle.ptpm_manager.specs.declared.setup.Setup.{Setup}
use Rattle.ptpm_manager.specs.Ask.{IsRequestTo, ask_of}
use Rattle.ptpm_manager.specs.Receiving.{received_of}
use Rattle.ptpm_manager.specs.Session.{SessionValue, begun, count_limit, due_message, is_waiting, reach_limit}
use Rattle.ptpm_network.specs.Events.{Begin, Deliver, Resume, Retune, Send, frame_at, no_room}
use Rattle.ptpm_network.specs.GivingUp.{IsKeptReport}
use Rattle.ptpm_network.specs.Network.{AtSession, Network, manager, peers}
use Rattle.ptpm_network.specs.RunningNetwork.{Held, sent_posted}
use Rattle.ptpm_restarts.specs.ActsAsIfNever.{IsPossibleAct}
use Rattle.ptpm_restarts.specs.Incidents.{CrashSession, GivesUp, Happens, Incident, SaveSession, after_incidents, incident}
use Rattle.ptpm_restarts.specs.Restarting.{RestartingNetwork, SessionLog, held_frames}
use Rattle.ptpm_restarts.specs.Storage.{Stored}
use Rattle.ptpm_asker.specs.Desk.{Begins, Continues, Crashes, Desk, Heard, Hears, IsBegun, IsLetGo, IsTold, LetsGo, Move, Note, Returns, Saves, Sends, Starts, TakesBack, moved_by, next_number}

-- ---- what happens at a desk, and in the network around it

pub data DeskStep : Type 0 where
  -- a move; what it sends leaves, and what it hears is no frame of the network
  Moves : (move : Move) → DeskStep
  -- a frame of the network comes in
  Comes : (frame : ℕ) → (datagram : List ℕ) → DeskStep
  -- a message is handed out, and does not leave
  IsUnsent : DeskStep
  -- what happens to anyone else
  Elsewhere : (incident : Incident) → DeskStep

abbrev pub moves_at : DeskStep → List Move
moves_at (Moves m) = m ∷ []
moves_at (Comes n datagram) = Hears datagram ∷ []
moves_at IsUnsent = Sends ∷ []
moves_at (Elsewhere i) = []

abbrev pub desk_moves : List DeskStep → List Move
desk_moves [] = []
desk_moves (x ∷ xs) = moves_at x ++ desk_moves xs

-- ---- a desk's session, and that of the network

-- What the desk has under way and the network's session has not begun. No message of it left.
abbrev pub unbegun : SessionValue → SessionValue → Option RequestValue
unbegun r v = if is_waiting v then None else r.unanswered

abbrev pub with_unbegun : SessionValue → Option RequestValue → SessionValue
with_unbegun v None = v
with_unbegun v (Some q) = begun v q

-- set up for the same manager, clock, ports and hops
abbrev pub IsSetUpFor : Setup → Setup → Type 0
IsSetUpFor own setup = setup ≡ record own { first = setup.first; attempts = setup.attempts }

-- The same request is under way, and the next one has the same number. So the one that is under way has the same number too. A desk
-- counts its requests anew when it takes one back, or goes on as a new session.
pub record IsLike (own : Setup) (r v : SessionValue) : Type 0 where
  pub set_up : IsSetUpFor own r.setup
  pub request : r.unanswered ≡ v.unanswered
  pub counted : is_waiting v ≡ true → (1 ≤ r.issued) × (1 ≤ v.issued)
  pub next : next_number r ≡ next_number v

-- the session can begin it: it names every port unless its id is of a port
pub record CanBegin (v : SessionValue) (q : RequestValue) : Type 0 where
  pub idle : is_waiting v ≡ false
  pub request : IsRequestTo v.setup.ports q
  pub id : q.id < 2 ^ 16
  pub count : v.issued < count_limit

abbrev pub CanBeginIt : SessionValue → Option RequestValue → Type 0
CanBeginIt v None = Unit {0}
CanBeginIt v (Some q) = CanBegin v q

-- once the network's session has begun this, it is like the desk's, whatever the domain and the attempts of each
pub record IsMirroredBut (own : Setup) (r v : SessionValue) (o : Option RequestValue) : Type 0 where
  pub set_up : v.setup ≡ own
  pub can_begin : CanBeginIt v o
  pub like : IsLike own r (with_unbegun v o)

abbrev pub IsMirrored : Setup → SessionValue → SessionValue → Type 0
IsMirrored own r v = IsMirroredBut own r v (unbegun r v)

-- what a file has is what is stored
abbrev pub IsStored : Setup → Option SessionValue → SessionValue → Type 0
IsStored own None v = Unit {0}
IsStored own (Some f) v = IsMirrored own f v

-- ---- what was heard and noted

-- the session reported this of the request of this number
pub record IsReported (own : Setup) (told : List Report) (number : ℕ) (outcome : Outcome) : Type 0 where
  pub report : Report
  pub is_told : Contains told report
  pub says : report.outcome ≡ outcome
  pub of_number : number_of own.first report.index ≡ number

abbrev pub IsHeardReported : Setup → List Report → Option Heard → Type 0
IsHeardReported own told None = Unit {0}
IsHeardReported own told (Some h) = IsReported own told h.number h.outcome

abbrev pub IsNoteReported : Setup → List Report → Note → Type 0
IsNoteReported own told (IsBegun tag number) = Unit {0}
IsNoteReported own told (IsTold tag number outcome) = IsReported own told number outcome
IsNoteReported own told (IsLetGo number) = Unit {0}

-- a session as it runs and is stored, and all that it reported, are those of a desk
pub record IsOfDesk (own : Setup) (d : Desk) (x : Stored SessionLog) (told : List Report) : Type 0 where
  pub live : IsMirrored own d.live x.live.session
  pub stored : IsStored own d.file x.stored.session
  pub saved : x.is_unsaved ≡ false → x.stored ≡ x.live
  -- of what the session has begun a message left, or may have
  pub left : is_waiting x.live.session ≡ true → d.run.has_left || d.run.is_out ≡ true
  pub heard : IsHeardReported own told d.run.heard
  pub noted : AllByRecursion (IsNoteReported own told) d.notes

abbrev pub Mirrors : Network → ℕ → Desk → RestartingNetwork → Type 0
Mirrors N s d k = IsOfDesk (N.session s).setup d (k.session s) (k.told s)

-- ---- incidents

abbrev pub begins_first : ℕ → Option RequestValue → List Incident
begins_first s None = []
begins_first s (Some q) = Happens (Begin s (ask_of q.action q.id (Some q.port) q.octets)) ∷ []

-- A request is begun and saved when its first message leaves: by then the desk's file has it. Each message is sent in the desk's
-- domain.
abbrev pub move_incidents : ℕ → Desk → SessionValue → Move → List Incident
move_incidents s d v Saves = SaveSession s ∷ []
move_incidents s d v Sends =
    begins_first s (unbegun d.live v)
    ++ SaveSession s ∷ Happens (Retune s d.live.domain) ∷ Happens (Resume s 1) ∷ Happens (Send s) ∷ []
move_incidents s d v LetsGo = begins_first s (unbegun d.live v) ++ GivesUp s ∷ []
move_incidents s d v Crashes = CrashSession s ∷ []
move_incidents s d v _ = []

-- what is ignored changes nothing
abbrev pub heard_incidents : ℕ → Desk → SessionValue → ℕ → Received → List Incident
heard_incidents s d v n (received.Ignored reason) = []
heard_incidents s d v n (received.Answered report) =
    begins_first s (unbegun d.live v) ++ Happens (Retune s d.live.domain) ∷ Happens (Deliver n) ∷ []

abbrev pub step_incidents : ℕ → Desk → SessionValue → DeskStep → List Incident
step_incidents s d v (Moves m) = move_incidents s d v m
step_incidents s d v (Comes n datagram) = heard_incidents s d v n (received_of d.live datagram)
step_incidents s d v IsUnsent = []
step_incidents s d v (Elsewhere i) = i ∷ []

abbrev pub incidents_at : ℕ → Desk → RestartingNetwork → DeskStep → List Incident
incidents_at s d k x = step_incidents s d (k.session s).live.session x

abbrev pub desk_incidents : Network → ℕ → Desk → RestartingNetwork → List DeskStep → List Incident
desk_incidents N s d k [] = []
desk_incidents N s d k (x ∷ xs) =
    incidents_at s d k x
    ++ desk_incidents N s (moved_by d (moves_at x)) (after_incidents N k (incidents_at s d k x)) xs

-- ---- the premises

abbrev pub IsIgnored : Received → Type 0
IsIgnored (received.Ignored reason) = Unit {0}
IsIgnored (received.Answered report) = ⊥

-- A desk without a file starts at the session's next number, and does not crash. Each session is for the same manager, clock, ports and
-- hops. What is let go is in the clock's reach. If a message had no way, none of its request left, or one before it.
abbrev pub IsMoveOf : Setup → Desk → RestartingNetwork → SessionValue → Move → Type 0
IsMoveOf own d k v (Begins tag q) = IsRequestTo own.ports q × (q.id < 2 ^ 16) × (v.issued < count_limit)
IsMoveOf own d k v Sends = no_room (held_frames k) ≡ None
IsMoveOf own d k v (Hears datagram) = IsIgnored (received_of d.live datagram)
IsMoveOf own d k v LetsGo = v.issued + 1 < v.reported + reach_limit
IsMoveOf own d k v Returns = is_waiting v ≡ true → d.run.has_left ≡ true
IsMoveOf own d k v (Starts setup domain) = IsSetUpFor own setup × (is_waiting v ≡ false) × (setup.first ≡ next_number v)
IsMoveOf own d k v (Continues setup) = IsSetUpFor own setup
IsMoveOf own d k v (TakesBack setup) = IsSetUpFor own setup
IsMoveOf own d k v Crashes = is_some d.file ≡ true
IsMoveOf own d k v _ = Unit {0}

pub record IsFrameFor (s : ℕ) (k : RestartingNetwork) (n : ℕ) (datagram : List ℕ) : Type 0 where
  pub held : Held
  pub at : frame_at k.frames n ≡ Some held
  pub end : held.end ≡ AtSession s
  pub octets : held.octets ≡ datagram
  pub room : no_room (held_frames k) ≡ None

-- it leaves the session as it is, and all that it reported
pub record IsElsewhere (N : Network) (s : ℕ) (k : RestartingNetwork) (i : Incident) : Type 0 where
  pub possible : IsPossibleAct i
  pub session : (incident N k i).session s ≡ k.session s
  pub told : (incident N k i).told s ≡ k.told s

abbrev pub IsStepOf : Network → ℕ → Desk → RestartingNetwork → DeskStep → Type 0
IsStepOf N s d k (Moves m) = IsMoveOf (N.session s).setup d k (k.session s).live.session m
IsStepOf N s d k (Comes n datagram) = IsFrameFor s k n datagram
IsStepOf N s d k IsUnsent = Unit {0}
IsStepOf N s d k (Elsewhere i) = IsElsewhere N s k i

abbrev pub AreStepsOf : Network → ℕ → Desk → RestartingNetwork → List DeskStep → Type 0
AreStepsOf N s d k [] = Unit {0}
AreStepsOf N s d k (x ∷ xs) =
    IsStepOf N s d k x
    × AreStepsOf N s (moved_by d (moves_at x)) (after_incidents N k (incidents_at s d k x)) xs

-- ---- the law

-- the message of the desk left in the network, octet for octet, and the session is stored as it sent it
pub record LeftSaved (N : Network) (s : ℕ) (d : Desk) (k next : RestartingNetwork) : Type 0 where
  pub frames : next.frames
      ≡ k.frames ++ sent_posted (peers N.links (AtSession s)) s (next.session s).live.session.issued (due_message d.live)
  pub stored : (next.session s).stored ≡ (next.session s).live

abbrev pub LeavesSaved : Network → ℕ → Desk → RestartingNetwork → DeskStep → RestartingNetwork → Type 0
LeavesSaved N s d k (Moves Sends) next = LeftSaved N s d k next
LeavesSaved N s d k _ next = Unit {0}

abbrev pub AllLeaveSaved : Network → ℕ → Desk → RestartingNetwork → List DeskStep → Type 0
AllLeaveSaved N s d k [] = Unit {0}
AllLeaveSaved N s d k (x ∷ xs) =
    LeavesSaved N s d k x (after_incidents N k (incidents_at s d k x))
    × AllLeaveSaved N s (moved_by d (moves_at x)) (after_incidents N k (incidents_at s d k x)) xs

-- After these incidents the network's session is that of the desk. They are possible, and save in time.
pub record SaveInTime (N : Network) (s : ℕ) (d : Desk) (k : RestartingNetwork) (xs : List DeskStep) : Type 0 where
  pub mirrors : Mirrors N s (moved_by d (desk_moves xs)) (after_incidents N k (desk_incidents N s d k xs))
  pub saved : AllLeaveSaved N s d k xs
  pub possible : AllByRecursion IsPossibleAct (desk_incidents N s d k xs)

-- what is noted of the request of this number is the reply that was kept for it
pub record IsKeptReply (N : Network) (s : ℕ) (accepted : List Accepted) (number : ℕ) (outcome : Outcome) : Type 0 where
  pub report : Report
  pub kept : IsKeptReport (manager N s) accepted report
  pub says : report.outcome ≡ outcome
  pub of_number : number_of (N.session s).setup.first report.index ≡ number
