-- A way from a session to its target over other clocks, and what it takes for one copy each way to come through.
use Rattle.std.specs.Prelude.{◌≡◌, ◌≢◌, ℕ, ◌+◌, ◌*◌, ◌≤◌, true, false, List, [], ◌∷◌, ◌++◌, length, Some, None, ◌⊎◌}
use Rattle.std.specs.List.{AllByRecursion, list_any}
use Rattle.ptpm_data.specs.declared.ports.TheConstants.{PORTS}
use Rattle.ptpm_data.specs.Members.{may_forward}
use Rattle.ptpm_manager.specs.declared.report.Report.{Report}
use Rattle.ptpm_manager.specs.Session.{is_waiting}
use Rattle.ptpm_network.specs.Events.{Event, Deliver, Send, frame_at, refusal}
use Rattle.ptpm_network.specs.Exchange.{HasReported, LastIsForOne}
use Rattle.ptpm_network.specs.RunningNetwork.{RunningNetwork, network_run}
use Rattle.ptpm_network.specs.Machine.{run, step}
use Rattle.ptpm_network.specs.Network.{AtPort, AtSession, End, Network, peers, same_end}
use Rattle.ptpm_network.specs.State.{Frame, NetworkState, greatest_accepted, history, is_late, issued}

-- ---- a way

-- A clock on the way. The request comes in at its near port and is passed on at its far port, and the reply goes the other way.
pub record Hop : Type 0 where
  pub clock : ℕ
  pub near : ℕ
  pub far : ℕ

-- what is sent at either end reaches the other
pub record AreLinked (N : Network) (a b : End) : Type 0 where
  pub there : list_any (same_end b) (peers N.links a) ≡ true
  pub back : list_any (same_end a) (peers N.links b) ≡ true

-- links lead from one end to another, over these clocks
abbrev pub Leads : Network → End → List Hop → End → Type 0
Leads N from [] to = AreLinked N from to
Leads N from (h ∷ hops) to = AreLinked N from (AtPort h.clock h.near)
    × Leads N (AtPort h.clock h.far) hops to

-- the clock is not the target, is in this domain, and both ports are in states in which they forward
pub record PassesOn (N : Network) (w : NetworkState) (target domain : ℕ) (h : Hop) : Type 0 where
  pub other : h.clock ≢ target
  pub two_ports : h.near ≢ h.far
  pub in_domain : (history N w h.clock).sets.default.domain ≡ domain
  pub near : may_forward h.near (history N w h.clock).sets ≡ true
  pub far : may_forward h.far (history N w h.clock).sets ≡ true

-- A way from a session to a port of its target in this domain. Each clock on it passes messages on in that domain, and the
-- session's boundaryHops suffice. The target has the port that the request is for, if it is for one. It hears the request, since it
-- is in that domain too or has accepted the request already.
pub record IsWayIn (N : Network) (w : NetworkState) (s domain : ℕ) (hops : List Hop)
    (port : ℕ) : Type 0 where
  pub leads : Leads N (AtSession s) hops (AtPort (N.session s).target port)
  pub passes : AllByRecursion (PassesOn N w (N.session s).target domain) hops
  pub hops_suffice : length hops ≤ (N.session s).setup.hops
  pub for_one : LastIsForOne N s (w.session s).begun
  pub heard : ((history N w (N.session s).target).sets.default.domain ≡ domain)
      ⊎ (greatest_accepted N w s ≡ issued w s)

-- the same in the domain of the session
abbrev pub IsWay : Network → NetworkState → ℕ → List Hop → ℕ → Type 0
IsWay N w s hops port = IsWayIn N w s (w.session s).domain hops port

-- ---- room

-- no link has more ends than this
abbrev pub LinksHaveAtMost : Network → ℕ → Type 0
LinksHaveAtMost N ends = AllByRecursion (λ link. length link ≤ ends) N.links

-- a clock makes at most this many frames of one message that it passes on
abbrev pub passed_at_most : ℕ → ℕ
passed_at_most ends = PORTS * ends

-- the frames that are made at most, if one message makes this many: at the target, and twice at each clock on the way
abbrev pub made_along : ℕ → List Hop → ℕ
made_along most [] = most
made_along most (h ∷ hops) = most + (made_along most hops + most)

-- all frames that one copy each way makes at most, its sending among them
abbrev pub made_each_way : ℕ → List Hop → ℕ
made_each_way ends hops = passed_at_most ends + made_along (passed_at_most ends) hops

-- ---- one copy each way

-- the frame of this number comes in at this end: it is on its way there, and its delivery is neither refused nor late
pub record ComesIn (N : Network) (w : NetworkState) (number : ℕ) (end : End) : Type 0 where
  pub frame : Frame
  pub is : frame_at w.frames number ≡ Some frame
  pub at_end : frame.end ≡ end
  pub not_refused : refusal N w (Deliver number) ≡ None
  pub in_time : is_late w frame.origin ≡ false

-- frames come in one after another, each by its number and at its end
abbrev pub ComeIn : Network → NetworkState → List (ℕ × End) → Type 0
ComeIn N w [] = Unit {0}
ComeIn N w (d ∷ ds) = ComesIn N w d.0 d.1 × ComeIn N (step N w (Deliver d.0)) ds

-- the events of it, and the ends
abbrev pub handed_in : List (ℕ × End) → List Event
handed_in [] = []
handed_in (d ∷ ds) = Deliver d.0 ∷ handed_in ds

abbrev pub ends_of : List (ℕ × End) → List End
ends_of [] = []
ends_of (d ∷ ds) = d.1 ∷ ends_of ds

-- the ends at which one copy each way comes in: each clock's near port and the target's port, then each clock's far port
abbrev pub visited : List Hop → End → List End
visited [] to = to ∷ []
visited (h ∷ hops) to = AtPort h.clock h.near ∷ (visited hops to ++ AtPort h.clock h.far ∷ [])

-- The unanswered request of a session can be answered over these clocks. The session sends it, and one copy each way comes in at
-- the ends of the way and at last at the session. No other event happens between, and then the request is reported.
pub record IsAnswerable (N : Network) (w : NetworkState) (s : ℕ) (hops : List Hop)
    (port : ℕ) : Type 0 where
  pub sent : refusal N w (Send s) ≡ None
  pub deliveries : List (ℕ × End)
  pub along : ends_of deliveries
      ≡ visited hops (AtPort (N.session s).target port) ++ AtSession s ∷ []
  pub come_in : ComeIn N (step N w (Send s)) deliveries
  pub reported : HasReported w (run N w (Send s ∷ handed_in deliveries)) s

-- a network that runs is led by these events to one report more of a session, and the session waits for nothing then
pub record ReportsAfter (N : Network) (r : RunningNetwork) (s : ℕ) (events : List Event) : Type 0 where
  pub report : Report
  pub reports : (network_run N r events).reports s ≡ r.reports s ++ report ∷ []
  pub idle : is_waiting ((network_run N r events).session s) ≡ false

-- the same of a network that runs: such events lead it to the report
pub record RunsToReport (N : Network) (r : RunningNetwork) (s : ℕ) (hops : List Hop)
    (port : ℕ) : Type 0 where
  pub deliveries : List (ℕ × End)
  pub along : ends_of deliveries
      ≡ visited hops (AtPort (N.session s).target port) ++ AtSession s ∷ []
  pub reported : ReportsAfter N r s (Send s ∷ handed_in deliveries)
