-- How a step that is begun is answered after a crash: the program is opened again, and its session asks the same request.
use Rattle.std.specs.Prelude.{◌≡◌, ◌≤◌, ℕ, ◌+◌, List, [], ◌∷◌, ◌++◌, length, Some}
use Rattle.ptpm_codec.specs.SequenceNumber.{number_of}
use Rattle.ptpm_data.specs.Request.{RequestValue}
use Rattle.ptpm_manager.specs.Session.{SessionValue}
use Rattle.ptpm_network.specs.Events.{Resume, Retune, frames_limit}
use Rattle.ptpm_network.specs.Machine.{state_after}
use Rattle.ptpm_network.specs.Network.{Network}
use Rattle.ptpm_network.specs.Way.{Hop, IsWay, LinksHaveAtMost, made_each_way}
use Rattle.ptpm_restarts.specs.AsIfNever.{IsAsIfNever}
use Rattle.ptpm_restarts.specs.DeskIncidents.{begins_first, unbegun}
use Rattle.ptpm_restarts.specs.GoingOn.{IsAnsweredAgain}
use Rattle.ptpm_restarts.specs.Incidents.{CrashSession, Happens, Incident, SaveSession}
use Rattle.ptpm_restarts.specs.Restarting.{RestartingNetwork, held_frames}

-- The program crashes and is opened again with the session that the file has. If no message of its request left before, the request is
-- begun in the network now. It is saved, and may be sent in this domain.
abbrev pub opened_again : ℕ → SessionValue → RestartingNetwork → ℕ → List Incident
opened_again s file k domain =
    CrashSession s ∷ begins_first s (unbegun file (k.session s).stored.session)
    ++ SaveSession s ∷ Happens (Retune s domain) ∷ Happens (Resume s 1) ∷ []

-- These incidents have led here from the start. This request is under way here, under this number, and may be sent. Wherever a way leads
-- to its target, it is answered.
pub record CanBeAnswered (N : Network) (s : ℕ) (is : List Incident) (k : RestartingNetwork) (request : RequestValue) (number : ℕ) : Type 0 where
  pub under_way : (k.session s).live.session.unanswered ≡ Some request
  pub of_number : number_of (N.session s).setup.first (k.session s).live.session.issued ≡ number
  pub as_if_never : IsAsIfNever N is k
  pub answered : (hops : List Hop) (port ends : ℕ) → IsWay N (state_after N as_if_never.events) s hops port → LinksHaveAtMost N ends
      → length (held_frames k) + made_each_way ends hops ≤ frames_limit
      → IsAnsweredAgain N k s hops port
