-- What restarts change where sessions also give up and hosts observe their clocks: still nothing but which messages come. The network
-- is as one that never crashed and went through some of the same acts, in the same order. So each manager may rely there on what
-- `IsServedInOrder` says, and what was reported to it here is what was kept there for its request.
use Rattle.std.specs.Prelude.{◌≡◌, ℕ, ◌+◌, ◌-◌, ◌<◌, List, [], ◌∷◌, Option, Some, slice_get, option_and_then}
use Rattle.std.specs.List.{AllByRecursion, Contains}
use Rattle.ptpm_data.specs.ObservationLaws.{IsSizedObservation}
use Rattle.ptpm_data.specs.Request.{RequestValue}
use Rattle.ptpm_manager.specs.declared.report.Report.{Report}
use Rattle.ptpm_network.specs.ByManager.{Account}
use Rattle.ptpm_network.specs.Events.{IsInRange}
use Rattle.ptpm_network.specs.GivingUp as acts
use Rattle.ptpm_network.specs.GivingUp.{Act, HasHistory, IsKeptReport, network_act}
use Rattle.ptpm_network.specs.Network.{IsNetwork, Network, manager}
use Rattle.ptpm_network.specs.RunningNetwork.{Held, RunningNetwork, initial_network}
use Rattle.ptpm_restarts.specs.AsIfNever.{AreTimely, IsSame}
use Rattle.ptpm_restarts.specs.Asked.{BeginsAt, Sometime, TellsAt}
use Rattle.ptpm_restarts.specs.Incidents.{GivesUp, Happens, Incident, Observes}
use Rattle.ptpm_restarts.specs.Restarting.{RestartingNetwork, held_frames, initial_restarting, running}

-- ---- the premises

-- an observation has identities of eight octets
abbrev pub IsPossibleAct : Incident → Type 0
IsPossibleAct (Happens e) = IsInRange e
IsPossibleAct (Observes c o) = IsSizedObservation o.clock
IsPossibleAct _ = Unit {0}

-- Such a network as the headline's, what a program can hand in, and no frame that is delivered late. When anyone saves, crashes,
-- gives up or observes is free.
pub record IsPromisedActing (N : Network) (is : List Incident) : Type 0 where
  pub network : IsNetwork N
  pub possible : AllByRecursion IsPossibleAct is
  pub timely : AreTimely N (initial_restarting N) is

-- ---- some of what happened, in its order

-- the same act
abbrev pub IsSameAct : List Held → List Held → Incident → Act → Type 0
IsSameAct here there (Happens e) (acts.Happens f) = IsSame here there e f
IsSameAct here there (GivesUp s) x = x ≡ acts.GivesUp s
IsSameAct here there (Observes c o) x = x ≡ acts.Observes c o
IsSameAct here there _ _ = ⊥

pub data AreSomeActsOf (here there : List Held) : List Act → List Incident → Type 0 where
  Ended : AreSomeActsOf here there [] []
  Skip : (i : Incident) (xs : List Act) (is : List Incident) → AreSomeActsOf here there xs is → AreSomeActsOf here there xs (i ∷ is)
  Take : (i : Incident) (x : Act) (xs : List Act) (is : List Incident) → IsSameAct here there i x → AreSomeActsOf here there xs is
      → AreSomeActsOf here there (x ∷ xs) (i ∷ is)

-- ---- the law

-- where these acts lead a network, if none of them is refused
abbrev pub after_acts : Network → RunningNetwork → List Act → Option RunningNetwork
after_acts N r [] = Some r
after_acts N r (x ∷ xs) = option_and_then (λ next. after_acts N next xs) (network_act N r x)

pub record ActsAsIfNever (N : Network) (is : List Incident) (k : RestartingNetwork) : Type 0 where
  -- A network that never crashed went through these acts: some of those here, in their order. None was refused there.
  pub through : List Act
  pub network : RunningNetwork
  pub led : after_acts N (initial_network N) through ≡ Some network
  pub some : AreSomeActsOf k.frames network.frames through is
  -- Each clock has the same data sets and entries, each session the same request under way and the same reports.
  pub same : record (running k) { frames = network.frames } ≡ network
  -- Every frame that was sent here, or waits, was sent there, to the same end and with the same octets.
  pub frames : AllByRecursion (Contains network.frames) (held_frames k)
  -- Each session has its account there, of acts among which no message of it came late.
  pub account : ℕ → Account
  pub history : (s : ℕ) → s < N.sessions → HasHistory N s network (account s)
  -- What is reported there was reported here, once or more. Whatever was reported here is the reply that was given there.
  pub reported : (s : ℕ) → AllByRecursion (Contains (k.told s)) (network.reports s)
  pub kept : (s : ℕ) → s < N.sessions → AllByRecursion (IsKeptReport (manager N s) (account s).accepted) (k.told s)
  -- Each request that was begun there was begun here, under the same index. Whatever was reported here is to the request that was under
  -- way here. It is the one that was begun there under the report's index.
  pub begun : (s j : ℕ) (q : RequestValue) → s < N.sessions → slice_get (account s).begun j ≡ Some q
      → Sometime N (BeginsAt N s q (j + 1)) (initial_restarting N) is
  pub asked : (s : ℕ) (q : RequestValue) (report : Report) → s < N.sessions → Sometime N (TellsAt N s q report) (initial_restarting N) is
      → Contains (k.told s) report × (slice_get (account s).begun (report.index - 1) ≡ Some q)
