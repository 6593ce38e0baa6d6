-- What a session asked while incidents went on: which requests it began, and to which of them its reports are.
use Rattle.std.specs.Prelude.{◌≡◌, ◌⊎◌, ℕ, ◌+◌, List, [], ◌∷◌, ◌++◌, Some, None}
use Rattle.ptpm_data.specs.Request.{RequestValue}
use Rattle.ptpm_manager.specs.declared.ask.Ask.{Ask}
use Rattle.ptpm_manager.specs.declared.report.Report.{Report}
use Rattle.ptpm_manager.specs.Ask.{request_of}
use Rattle.ptpm_network.specs.Events.{Begin}
use Rattle.ptpm_network.specs.Network.{Network}
use Rattle.ptpm_restarts.specs.Incidents.{Happens, Incident, incident, refused}
use Rattle.ptpm_restarts.specs.Restarting.{RestartingNetwork}

-- this holds for one of these incidents as it happens
abbrev pub Sometime : Network → (RestartingNetwork → Incident → Type 0) → RestartingNetwork → List Incident → Type 0
Sometime N P k [] = ⊥
Sometime N P k (i ∷ is) = P k i ⊎ Sometime N P (incident N k i) is

-- the session begins this request, as the one of this index
pub record BeginsAt (N : Network) (s : ℕ) (request : RequestValue) (index : ℕ) (k : RestartingNetwork) (i : Incident) : Type 0 where
  pub ask : Ask
  pub is : i ≡ Happens (Begin s ask)
  pub taken : refused N k (Begin s ask) ≡ None
  pub request_is : request_of ask ≡ request
  pub index_is : index ≡ (k.session s).live.session.issued + 1

-- the session reports this, and has this request under way until then
pub record TellsAt (N : Network) (s : ℕ) (request : RequestValue) (report : Report) (k : RestartingNetwork) (i : Incident) : Type 0 where
  pub under_way : (k.session s).live.session.unanswered ≡ Some request
  pub index_is : report.index ≡ (k.session s).live.session.issued
  pub told : (incident N k i).told s ≡ k.told s ++ report ∷ []
