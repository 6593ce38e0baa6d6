-- A network whose clocks and sessions save what they have, so that a restart goes on from it. No message of a clock leaves before the
-- state in which it was made is saved. A session sends nothing while a change of it is unsaved. It reports an answer to its owner
-- first, and saves then.
use Rattle.std.specs.Prelude.{ℕ, ◌==◌, not, Bool, true, false, List, [], ◌∷◌, ◌++◌, map}
use Rattle.std.specs.List.{filter}
use Rattle.ptpm_agent.specs.declared.verdict.Verdict.{Verdict}
use Rattle.ptpm_agent.specs.declared.verdict.Verdict.TheVariants as verdicts
use Rattle.ptpm_agent.specs.Turn.{State, turn}
use Rattle.ptpm_manager.specs.declared.receiving.Received.{Received}
use Rattle.ptpm_manager.specs.declared.receiving.Received.TheVariants as received
use Rattle.ptpm_manager.specs.declared.report.Report.{Report}
use Rattle.ptpm_manager.specs.Session.{SessionValue, answered, due_message, sent}
use Rattle.ptpm_network.specs.Machine.{with_place}
use Rattle.ptpm_network.specs.Network.{AtSession, Network, peers}
use Rattle.ptpm_network.specs.RunningNetwork.{Held, RunningNetwork, held, initial_network, sent_posted, turn_frames}
use Rattle.ptpm_network.specs.State.{Frame}
use Rattle.ptpm_restarts.specs.Storage.{Stored, changed, noted, saved_as}

-- a session with its reports
pub record SessionLog : Type 0 where
  pub session : SessionValue
  pub reports : List Report

pub record RestartingNetwork : Type 0 where
  pub clock : ℕ → Stored State
  pub session : ℕ → Stored SessionLog
  -- every frame that was sent; frame n is at place n - 1
  pub frames : List Held
  -- what clocks made and may not send before they save, each frame with its clock
  pub waiting : List (ℕ × Held)
  -- all that a session ever reported to its owner, also what it forgot in a crash
  pub told : ℕ → List Report

abbrev pub log_of : RunningNetwork → ℕ → SessionLog
log_of r s = record { session = r.session s; reports = r.reports s }

abbrev pub initial_restarting : Network → RestartingNetwork
initial_restarting N = record {
  clock = λ c. saved_as ((initial_network N).clock c);
  session = λ s. saved_as (log_of (initial_network N) s);
  frames = [];
  waiting = [];
  told = λ s. [];
}

-- the network as it runs
abbrev pub running : RestartingNetwork → RunningNetwork
running k = record {
  clock = λ c. (k.clock c).live;
  session = λ s. (k.session s).live.session;
  reports = λ s. (k.session s).live.reports;
  frames = k.frames;
}

-- the frames that wait at this clock, and those that wait elsewhere
abbrev pub waiting_at : ℕ → List (ℕ × Held) → List Held
waiting_at c waiting = map (λ w. w.1) (filter (λ w. w.0 == c) waiting)

abbrev pub waiting_elsewhere : ℕ → List (ℕ × Held) → List (ℕ × Held)
waiting_elsewhere c waiting = filter (λ w. not (w.0 == c)) waiting

-- all that it holds, sent or not
abbrev pub held_frames : RestartingNetwork → List Held
held_frames k = k.frames ++ map (λ w. w.1) k.waiting

-- ---- clocks

-- A request that is answered for the first time has to be saved, a GET and a refused one too. No other turn changes a clock.
abbrev pub after_verdict : Verdict → Stored State → State → Stored State
after_verdict verdicts.AnsweredNew x next = changed x next
after_verdict _ x next = x

-- what a clock makes waits while a change of it is unsaved; else it is sent
abbrev pub sent_or_waiting : Bool → RestartingNetwork → ℕ → List Held → RestartingNetwork
sent_or_waiting true k c made = record k { waiting = k.waiting ++ map (λ h. (c, h)) made }
sent_or_waiting false k c made = record k { frames = k.frames ++ made }

abbrev pub turned : RestartingNetwork → ℕ → Stored State → List Held → RestartingNetwork
turned k c x made = sent_or_waiting x.is_unsaved (record k { clock = with_place k.clock c x }) c made

abbrev pub takes_turn : Network → RestartingNetwork → ℕ → ℕ → Frame → RestartingNetwork
takes_turn N k c ingress f =
    turned k c (after_verdict (turn (N.clock c) (k.clock c).live ingress f.octets).verdict (k.clock c)
    (turn (N.clock c) (k.clock c).live ingress f.octets).next) (map held (turn_frames N (k.clock c).live c ingress f))

-- ---- sessions

abbrev pub with_log : RestartingNetwork → ℕ → Stored SessionLog → RestartingNetwork
with_log k s x = record k { session = with_place k.session s x }

-- a session is another, with the reports that it has
abbrev pub log_with : RestartingNetwork → ℕ → SessionValue → SessionLog
log_with k s value = record ((k.session s).live) { session = value }

abbrev pub begins : RestartingNetwork → ℕ → SessionValue → RestartingNetwork
begins k s value = with_log k s (changed (k.session s) (log_with k s value))

-- its domain, and how often it may still send
abbrev pub notes : RestartingNetwork → ℕ → SessionValue → RestartingNetwork
notes k s value = with_log k s (noted (k.session s) (log_with k s value))

abbrev pub sends : Bool → Network → RestartingNetwork → ℕ → RestartingNetwork
sends true N k s = k
sends false N k s = record (notes k s (sent (k.session s).live.session)) {
  frames = k.frames ++ sent_posted (peers N.links (AtSession s)) s (k.session s).live.session.issued
      (due_message (k.session s).live.session);
}

-- the log of a session that takes its answer
abbrev pub log_told : SessionLog → Report → SessionLog
log_told log report = record { session = answered log.session; reports = log.reports ++ report ∷ [] }

abbrev pub hears : RestartingNetwork → ℕ → Received → RestartingNetwork
hears k s (received.Answered report) = record (with_log k s (changed (k.session s) (log_told (k.session s).live report))) {
  told = with_place k.told s (k.told s ++ report ∷ []);
}
hears k s (received.Ignored reason) = k
