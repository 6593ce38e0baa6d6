-- A network in which sessions also let their requests go, and hosts observe their clocks. What one manager may rely on there, while its
-- own messages come in time. The messages of others may come as late as can be, and others may give up what they like.
use Rattle.std.specs.Prelude.{◌≡◌, ℕ, ◌+◌, ◌-◌, ◌<◌, ◌≤◌, nat_lt, Bool, false, List, [], ◌∷◌, slice_get, Option, Some, None, Result, Ok, Err, if◌then◌else◌, true}
use Rattle.std.specs.List.{AllByRecursion}
use Rattle.ptpm_codec.specs.declared.identity.PortIdentity.{PortIdentity}
use Rattle.ptpm_codec.specs.Identity.{same_identity}
use Rattle.ptpm_codec.specs.declared.message.Message.{Message}
use Rattle.ptpm_data.specs.ObservationBack.{Observation}
use Rattle.ptpm_data.specs.ObservationLaws.{IsSizedObservation}
use Rattle.ptpm_agent.specs.Addressing.{heard_of}
use Rattle.ptpm_agent.specs.Observing.{moved_state}
use Rattle.ptpm_agent.specs.Once.{Accepted, greatest, kept_reply}
use Rattle.ptpm_agent.specs.Turn.{Clock, NumberedRequest, State, after_request, entry_of, reply_messages, turn}
use Rattle.ptpm_manager.specs.declared.error.GiveUpRefusal.{GiveUpRefusal}
use Rattle.ptpm_manager.specs.declared.report.Report.{Report}
use Rattle.ptpm_manager.specs.Session.{give_up_refusal, given_up, reach_limit}
use Rattle.ptpm_network.specs.ByManager.{Account, is_late_for, with_begun}
use Rattle.ptpm_network.specs.CarriedOut.{carried_by_event}
use Rattle.ptpm_network.specs.Events.{Event, Deliver, IsInRange, Refusal, frame_at}
use Rattle.ptpm_network.specs.Machine.{index_of, with_place}
use Rattle.ptpm_network.specs.Network.{Network, manager}
use Rattle.ptpm_network.specs.RunningNetwork.{Happened, Held, RunningNetwork, network_event, with_session_value}
use Rattle.ptpm_network.specs.Served.{IsTimelyCopy}
use Rattle.ptpm_network.specs.Stands.{StandsAfter}
use Rattle.ptpm_network.specs.State.{reports_of}

-- ---- what may happen

pub data Act : Type 0 where
  -- what may happen in any network
  Happens : (event : Event) → Act
  -- a session lets its unanswered request go
  GivesUp : (session : ℕ) → Act
  -- a host reports what it observes of its clock; if this is refused, nothing moves
  Observes : (clock : ℕ) → (observation : Observation) → Act

abbrev pub after_event : Result Happened Refusal → Option RunningNetwork
after_event (Ok happened) = Some happened.network
after_event (Err reason) = None

abbrev pub after_give_up : RunningNetwork → ℕ → Option GiveUpRefusal → Option RunningNetwork
after_give_up r s None = Some (with_session_value r s (given_up (r.session s)))
after_give_up r s (Some reason) = None

abbrev pub after_observation : RunningNetwork → ℕ → Observation → RunningNetwork
after_observation r c o = record r { clock = with_place r.clock c (moved_state o.clock o.ports (r.clock c)) }

-- the network after an act, if it is not refused
unfoldable pub network_act : Network → RunningNetwork → Act → Option RunningNetwork
network_act N r (Happens e) = after_event (network_event N r e)
network_act N r (GivesUp s) =
    if nat_lt s N.sessions then after_give_up r s (give_up_refusal (r.session s)) else None
network_act N r (Observes c o) = if nat_lt c N.clocks then Some (after_observation r c o) else None

abbrev pub IsPossible : Act → Type 0
IsPossible (Happens e) = IsInRange e
IsPossible (GivesUp s) = Unit {0}
IsPossible (Observes c o) = IsSizedObservation o.clock

-- ---- one manager's account of it

-- A clock in this state carries out these requests, some of them this manager's. Each of the manager's is kept under this index, with
-- the reply that the clock gives to it then.
abbrev pub carried_as : ℕ → PortIdentity → Clock → State → List NumberedRequest → List Accepted → List Accepted
carried_as k m c s [] before = before
carried_as k m c s (q ∷ qs) before = carried_as k m c (after_request c s q) qs
    (if same_identity m q.manager
    then record { manager = m; index = k; request = q.request; reply = (entry_of c s q).reply } ∷ before
    else before)

-- the index of the request that an event brings a copy of
abbrev pub index_of_held : Option Held → ℕ
index_of_held None = 0
index_of_held (Some h) = index_of h.origin

abbrev pub index_at : RunningNetwork → Event → ℕ
index_at r (Deliver n) = index_of_held (frame_at r.frames n)
index_at r _ = 0

-- A session's requests in the order in which it began them, and those that its target carried out, the latest first, each under its
-- index.
abbrev pub account_after : Network → ℕ → RunningNetwork → Act → Account → Account
account_after N s r (Happens e) a = record {
  begun = with_begun s e a.begun;
  accepted = carried_as (index_at r e) (manager N s) (N.clock (N.session s).target) (r.clock (N.session s).target) (carried_by_event N r (N.session s).target e) a.accepted;
}
account_after N s r _ a = a

abbrev pub nothing_yet : Account
nothing_yet = record { begun = []; accepted = [] }

abbrev pub is_late_act : Network → ℕ → RunningNetwork → Act → Bool
is_late_act N s r (Happens e) = is_late_for N s r e
is_late_act N s r _ = false

-- an act that is not refused leads from one network to another, and is no late delivery for this session
pub record Acts (N : Network) (s : ℕ) (r next : RunningNetwork) (x : Act) : Type 0 where
  pub possible : IsPossible x
  pub happens : network_act N r x ≡ Some next
  pub in_time : is_late_act N s r x ≡ false

-- the running network came from its start by such acts, and this is the session's account of them
pub data HasHistory (N : Network) (s : ℕ) : RunningNetwork → Account → Type 0 where
  AtStart : (r : RunningNetwork) → s < N.sessions → StandsAfter N [] r → HasHistory N s r nothing_yet
  After : (r next : RunningNetwork) (a : Account) (x : Act) → HasHistory N s r a → Acts N s r next x
      → HasHistory N s next (account_after N s r x a)

-- and it goes on so from a network and account to others
pub data GoesOn (N : Network) (s : ℕ) (r : RunningNetwork) (a : Account) : RunningNetwork → Account → Type 0 where
  Here : GoesOn N s r a r a
  Further : (t next : RunningNetwork) (b : Account) (x : Act) → GoesOn N s r a t b → Acts N s t next x
      → GoesOn N s r a next (account_after N s t x b)

-- ---- what the manager may rely on

-- one after another under indexes that rise, the latest first: so each was carried out once at most
abbrev pub AreRising : PortIdentity → List Accepted → Type 0
AreRising m [] = Unit {0}
AreRising m (e ∷ es) = (same_identity m e.manager ≡ true → greatest m es < e.index) × AreRising m es

-- reports whose indexes rise, the first above this one and the last this other
abbrev pub RiseFrom : ℕ → List Report → ℕ → Type 0
RiseFrom before [] last = before ≡ last
RiseFrom before (report ∷ reports) last = (before < report.index) × RiseFrom report.index reports last

-- it says what is kept for its index
abbrev pub IsKeptReport : PortIdentity → List Accepted → Report → Type 0
IsKeptReport m accepted report = reports_of report.index (kept_reply m report.index accepted) ≡ report ∷ []

pub record IsServedInOrder (N : Network) (s : ℕ) (r : RunningNetwork) (a : Account) : Type 0 where
  -- Its target carried out some of its requests, each as it was begun, and in the order in which they were.
  pub accepted : (k : ℕ) (entry : Accepted) → 0 < k → kept_reply (manager N s) k a.accepted ≡ Some entry
      → slice_get a.begun (k - 1) ≡ Some entry.request
  pub rising : AreRising (manager N s) a.accepted
  -- What is reported are the replies given then, in the same order, and the session knows the latest of them.
  pub reports : AllByRecursion (IsKeptReport (manager N s) a.accepted) (r.reports s)
  pub order : RiseFrom 0 (r.reports s) (r.session s).reported
  -- No later one is reported than was accepted, and no later one accepted than was begun. The clock takes the next for a new one.
  pub reported_accepted : (r.session s).reported ≤ greatest (manager N s) a.accepted
  pub accepted_begun : greatest (manager N s) a.accepted ≤ (r.session s).issued
  pub within_reach : (r.session s).issued ≤ (r.session s).reported + reach_limit
  -- A copy of the last one that was carried out gets the reply that was given then, in any domain. A copy of an older one gets
  -- none.
  pub latest : (n port k : ℕ) (h : Held) (v : Message) → IsTimelyCopy N s r n port k h v → k ≡ greatest (manager N s) a.accepted
      → (entry : Accepted) × (kept_reply (manager N s) k a.accepted ≡ Some entry)
      × ((turn (N.clock (N.session s).target) (r.clock (N.session s).target) port h.octets).replies
      ≡ reply_messages (N.clock (N.session s).target) port (heard_of v) (Some entry.reply))
  pub older : (n port k : ℕ) (h : Held) (v : Message) → IsTimelyCopy N s r n port k h v → k < greatest (manager N s) a.accepted
      → (turn (N.clock (N.session s).target) (r.clock (N.session s).target) port h.octets).replies ≡ []
