-- What a manager may rely on while its own messages come in time, however late those of others come. Also in which states it may.
use Rattle.std.specs.Prelude.{◌≡◌, ℕ, ◌+◌, ◌-◌, ◌<◌, ◌≤◌, true, false, List, [], ◌++◌, length, slice_get, Some, Ok}
use Rattle.ptpm_codec.specs.declared.message.Message.{Message}
use Rattle.ptpm_codec.specs.Reading.{message_of}
use Rattle.ptpm_agent.specs.Addressing.{heard_of}
use Rattle.ptpm_agent.specs.Once.{Accepted, greatest, is_copy, kept_reply}
use Rattle.ptpm_agent.specs.Turn.{reply_messages, turn}
use Rattle.ptpm_manager.specs.declared.report.Report.{Report}
use Rattle.ptpm_network.specs.ByManager.{Account, account_of, account_with, is_behind, is_late_for}
use Rattle.ptpm_network.specs.Events.{Event, IsInRange, frame_at}
use Rattle.ptpm_network.specs.Network.{AtPort, Network, manager, ports}
use Rattle.ptpm_network.specs.RunningNetwork.{Happened, Held, RunningNetwork, network_event}
use Rattle.ptpm_network.specs.Stands.{StandsAfter}
use Rattle.ptpm_network.specs.State.{RequestOf, outcomes_kept}

-- how many of a session's requests its target carried out
abbrev pub accepted_count : Network → ℕ → Account → ℕ
accepted_count N s a = greatest (manager N s) a.accepted

-- frame n is on its way to a port of the session's target, and is a copy of the session's request k in time
pub record IsTimelyCopy (N : Network) (s : ℕ) (r : RunningNetwork) (n port k : ℕ) (h : Held) (v : Message) : Type 0 where
  pub frame : frame_at r.frames n ≡ Some h
  pub end : h.end ≡ AtPort (N.session s).target port
  pub origin : h.origin ≡ RequestOf s k
  pub in_time : is_behind r h.origin ≡ false
  pub read : message_of h.octets ≡ Some v
  pub copy : is_copy (N.clock (N.session s).target) (ports N (N.session s).target) v ≡ true

pub record IsServed (N : Network) (s : ℕ) (r : RunningNetwork) (a : Account) : Type 0 where
  -- Its target carried out its requests from 1 on, each once, in this order. They are as many as were begun, or one less.
  pub accepted : (k : ℕ) → 0 < k → k ≤ accepted_count N s a → (entry : Accepted)
      × (kept_reply (manager N s) k a.accepted ≡ Some entry) × (slice_get a.begun (k - 1) ≡ Some entry.request)
  pub accepted_begun : accepted_count N s a ≤ length a.begun
  pub begun_accepted : length a.begun ≤ accepted_count N s a + 1
  -- What was reported to it is the first of what the replies to them say, in order: as much as was begun, or one less.
  pub reports : (rest : List Report)
      × (outcomes_kept (manager N s) a.accepted (accepted_count N s a) ≡ r.reports s ++ rest)
  pub reported_accepted : length (r.reports s) ≤ accepted_count N s a
  pub begun_reported : length a.begun ≤ length (r.reports s) + 1
  -- A copy of the last one that was carried out gets the reply that was given then, in any domain. A copy of an older one gets
  -- none.
  pub latest : (n port k : ℕ) (h : Held) (v : Message) → IsTimelyCopy N s r n port k h v → k ≡ accepted_count N s a
      → (entry : Accepted) × (kept_reply (manager N s) k a.accepted ≡ Some entry)
      × ((turn (N.clock (N.session s).target) (r.clock (N.session s).target) port h.octets).replies
      ≡ reply_messages (N.clock (N.session s).target) port (heard_of v) (Some entry.reply))
  pub older : (n port k : ℕ) (h : Held) (v : Message) → IsTimelyCopy N s r n port k h v → k < accepted_count N s a
      → (turn (N.clock (N.session s).target) (r.clock (N.session s).target) port h.octets).replies ≡ []

-- The running network r came from its start by events without a late delivery for this session. Deliveries for others may have
-- been late. This is the session's account of these events.
pub data HasAccount (N : Network) (s : ℕ) : RunningNetwork → Account → Type 0 where
  AtStart : (r : RunningNetwork) → s < N.sessions → StandsAfter N [] r → HasAccount N s r (account_of N s [])
  After : (r : RunningNetwork) (a : Account) (e : Event) (h : Happened) → HasAccount N s r a → IsInRange e
      → network_event N r e ≡ Ok h → is_late_for N s r e ≡ false → HasAccount N s h.network (account_with N s r e a)

-- so far it was served
pub record IsServedSoFar (N : Network) (s : ℕ) (r : RunningNetwork) (a : Account) : Type 0 where
  pub account : HasAccount N s r a
  pub served : IsServed N s r a
