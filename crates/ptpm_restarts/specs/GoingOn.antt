-- How a network that was restarted goes on: as any network does. A request that was under way is answered along a way by sending
-- it again. If each saves at once, all is as in a network that runs.
use Rattle.std.specs.Prelude.{◌≡◌, ℕ, false, List, [], ◌∷◌, ◌++◌, map, Option, Some, None}
use Rattle.std.specs.List.{AllByRecursion, Contains}
use Rattle.ptpm_codec.specs.declared.identity.PortIdentity.{PortIdentity}
use Rattle.ptpm_manager.specs.declared.report.Report.{Report}
use Rattle.ptpm_manager.specs.Session.{is_waiting}
use Rattle.ptpm_network.specs.Events.{Event, Begin, Deliver, Send, Stranger, frame_at}
use Rattle.ptpm_network.specs.Network.{AtPort, AtSession, End, Network}
use Rattle.ptpm_network.specs.RunningNetwork.{Held, RunningNetwork}
use Rattle.ptpm_network.specs.Stands.{AreFirsts, Stands}
use Rattle.ptpm_network.specs.State.{Frame, NetworkState}
use Rattle.ptpm_network.specs.Way.{Hop, ends_of, visited}
use Rattle.ptpm_restarts.specs.AsIfNever.{AreTimely}
use Rattle.ptpm_restarts.specs.Incidents.{Happens, Incident, SaveClock, SaveSession, after_incidents}
use Rattle.ptpm_restarts.specs.Restarting.{RestartingNetwork}

-- a running network is at this state of the machine, without some of its frames
pub record StandsWithFewer (N : Network) (w : NetworkState) (r : RunningNetwork) : Type 0 where
  pub frames : List Frame
  pub fewer : AllByRecursion (Contains w.frames) frames
  pub stands : (first : ℕ → PortIdentity → ℕ) → AreFirsts N first → Stands N first r (record w { frames = frames })

-- ---- a request that was under way

-- the session saves, and each clock at which a frame waits
abbrev pub saves_first : RestartingNetwork → ℕ → List Incident
saves_first k s = SaveSession s ∷ map (λ w. SaveClock w.0) k.waiting

abbrev pub save_at : End → Incident
save_at (AtPort c port) = SaveClock c
save_at (AtSession s) = SaveSession s

-- frames come in one after another, and each time the end at which one comes in saves
abbrev pub handed_in_saved : List (ℕ × End) → List Incident
handed_in_saved [] = []
handed_in_saved (d ∷ ds) = Happens (Deliver d.0) ∷ save_at d.1 ∷ handed_in_saved ds

-- First the session saves, and each clock at which a frame waits. Then the session sends its request. One copy each way comes in
-- at the ends of the way and at last at the session, and each end saves then. The session reports the answer to it and waits for
-- nothing. Nothing else happens meanwhile.
pub record IsAnsweredAgain (N : Network) (k : RestartingNetwork) (s : ℕ) (hops : List Hop) (port : ℕ) : Type 0 where
  pub deliveries : List (ℕ × End)
  pub along : ends_of deliveries ≡ visited hops (AtPort (N.session s).target port) ++ AtSession s ∷ []
  pub end : RestartingNetwork
  pub led : after_incidents N k (saves_first k s ++ Happens (Send s) ∷ handed_in_saved deliveries) ≡ end
  pub timely : AreTimely N k (saves_first k s ++ Happens (Send s) ∷ handed_in_saved deliveries)
  pub report : Report
  pub index : report.index ≡ (k.session s).live.session.issued
  pub reports : (end.session s).live.reports ≡ (k.session s).live.reports ++ report ∷ []
  pub idle : is_waiting (end.session s).live.session ≡ false

-- ---- if each saves at once

abbrev pub save_of_frame : Option Held → List Incident
save_of_frame None = []
save_of_frame (Some h) = save_at h.end ∷ []

-- the save that an event makes due
abbrev pub save_due : RestartingNetwork → Event → List Incident
save_due k (Begin s ask) = SaveSession s ∷ []
save_due k (Deliver n) = save_of_frame (frame_at k.frames n)
save_due k (Stranger c port datagram) = SaveClock c ∷ []
save_due k _ = []

-- no frame waits, and no session has a change that is unsaved
pub record IsCalm (k : RestartingNetwork) : Type 0 where
  pub waiting : k.waiting ≡ []
  pub sessions : (s : ℕ) → (k.session s).is_unsaved ≡ false
