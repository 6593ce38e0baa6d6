-- One manager's account, of events and turns as they happened, and when its own messages came in time. Those of others may come as
-- late as can be.
use Rattle.std.specs.Prelude.{◌≡◌, ℕ, ◌+◌, ◌==◌, ◌&&◌, Bool, false, List, [], ◌∷◌, ◌++◌, Option, Some, None, Result, Ok, Err, if◌then◌else◌}
use Rattle.ptpm_codec.specs.declared.identity.PortIdentity.{PortIdentity}
use Rattle.ptpm_codec.specs.Identity.{same_identity}
use Rattle.ptpm_data.specs.Request.{RequestValue}
use Rattle.ptpm_agent.specs.Once.{Accepted, greatest}
use Rattle.ptpm_agent.specs.Turn.{Clock, NumberedRequest, State, after_request, entry_of}
use Rattle.ptpm_manager.specs.Ask.{request_of}
use Rattle.ptpm_network.specs.CarriedOut.{carried_by_event}
use Rattle.ptpm_network.specs.Events.{Event, Begin, Deliver, Refusal, frame_at}
use Rattle.ptpm_network.specs.Network.{AtPort, AtSession, End, Network, manager}
use Rattle.ptpm_network.specs.RunningNetwork.{Happened, Held, RunningNetwork, initial_network, network_event}
use Rattle.ptpm_network.specs.State.{Origin, RequestOf, ReplyTo, Neither, is_late_at}

-- a copy of the session's request that comes in at its target, or of a reply to it that comes in at the session
abbrev pub is_for : Network → ℕ → End → Origin → Bool
is_for N s (AtPort c port) (RequestOf t k) = t == s && c == (N.session s).target
is_for N s (AtSession u) (ReplyTo t k) = t == s && u == s
is_for N s _ _ = false

-- it is late, by the number of requests that its session has begun by now
abbrev pub is_behind : RunningNetwork → Origin → Bool
is_behind r (RequestOf s k) = is_late_at k (r.session s).issued
is_behind r (ReplyTo s k) = is_late_at k (r.session s).issued
is_behind r Neither = false

abbrev pub is_late_frame_for : Network → ℕ → RunningNetwork → Option Held → Bool
is_late_frame_for N s r None = false
is_late_frame_for N s r (Some h) = is_for N s h.end h.origin && is_behind r h.origin

abbrev pub is_late_for : Network → ℕ → RunningNetwork → Event → Bool
is_late_for N s r (Deliver n) = is_late_frame_for N s r (frame_at r.frames n)
is_late_for N s r _ = false

abbrev pub in_time_while : Result Happened Refusal → Bool → (RunningNetwork → Type 0) → Type 0
in_time_while (Ok happened) late others = (late ≡ false) × others happened.network
in_time_while (Err reason) late others = Unit {0}

-- up to the first event that is refused, none is a late delivery for this session, however late it is for others
abbrev pub StaysInTime : Network → ℕ → RunningNetwork → List Event → Type 0
StaysInTime N s r [] = Unit {0}
StaysInTime N s r (e ∷ es) = in_time_while (network_event N r e) (is_late_for N s r e) (λ next. StaysInTime N s next es)

-- A session's requests in the order in which it began them, and those that its target carried out, the latest first. Each of the
-- latter has its place among them, from 1 on, and the reply that the clock gave to it then.
pub record Account : Type 0 where
  pub begun : List RequestValue
  pub accepted : List Accepted

abbrev pub with_begun : ℕ → Event → List RequestValue → List RequestValue
with_begun s (Begin t ask) before = if t == s then before ++ request_of ask ∷ [] else before
with_begun s _ before = before

-- a clock in this state carries out these requests, some of them this manager's
abbrev pub with_carried : PortIdentity → Clock → State → List NumberedRequest → List Accepted → List Accepted
with_carried m c s [] before = before
with_carried m c s (q ∷ qs) before = with_carried m c (after_request c s q) qs
    (if same_identity m q.manager
    then record { manager = m; index = greatest m before + 1; request = q.request; reply = (entry_of c s q).reply } ∷ before
    else before)

abbrev pub account_with : Network → ℕ → RunningNetwork → Event → Account → Account
account_with N s r e a = record {
  begun = with_begun s e a.begun;
  accepted = with_carried (manager N s) (N.clock (N.session s).target) (r.clock (N.session s).target) (carried_by_event N r (N.session s).target e) a.accepted;
}

abbrev pub account_while : Result Happened Refusal → Account → (RunningNetwork → Account) → Account
account_while (Ok happened) before others = others happened.network
account_while (Err reason) before others = before

-- up to the first event that is refused
abbrev pub account_from : Network → ℕ → RunningNetwork → Account → List Event → Account
account_from N s r a [] = a
account_from N s r a (e ∷ es) =
    account_while (network_event N r e) a (λ next. account_from N s next (account_with N s r e a) es)

abbrev pub account_of : Network → ℕ → List Event → Account
account_of N s es = account_from N s (initial_network N) (record { begun = []; accepted = [] }) es
