-- Ends of links that are there, and what the frames in a store belong to.
use Rattle.std.proofs.Common.{ap, sym, ◌∙◌}
use Rattle.std.specs.Prelude.{◌≡◌, ℕ, ◌<◌, ◌≤◌, List, All, map, length, slice_get, Some, unwrap_or}
use Rattle.std.specs.Coded.{×_prop, Π_prop, →_prop, Unit-prop, le_prop, Coded-set, coded_option, coded_ℕ}
use mathlib.Core.HLevel.{Σ_prop_path}
use Rattle.ptpm_manager.specs.Session.{count_limit}
use Rattle.ptpm_script.specs.declared.network.End.{End}
use Rattle.ptpm_script.specs.declared.network.End.TheVariants as ends
use Rattle.ptpm_script.specs.declared.network.NetworkLink.{NetworkLink}
use Rattle.ptpm_world.specs.declared.frames.Origin.{Origin}
use Rattle.ptpm_world.specs.declared.frames.Origin.TheVariants as origins
use Rattle.ptpm_world.specs.declared.frames.Stored.{Stored}
use Rattle.ptpm_world.specs.declared.running_clock.RunningClock.{RunningClock}

-- how many ports each clock has
abbrev pub port_counts : List RunningClock → List ℕ
port_counts clocks = map (λ c. length c.agent.sets.ports) clocks

-- a port of a clock, or a session, if the clocks have these numbers of ports and there are this many sessions
abbrev pub IsThere : List ℕ → ℕ → End → Type 0
IsThere counts sessions (ends.Clock place port) = (n : ℕ) × ((slice_get counts place ≡ Some n) × ((1 ≤ port) × (port ≤ n)))
IsThere counts sessions (ends.Session place) = place < sessions

-- what a frame belongs to is a request of a session that is there
abbrev pub IsOfSession : ℕ → Origin → Type 0
IsOfSession sessions (origins.Request session index) = (session < sessions) × (index ≤ count_limit)
IsOfSession sessions (origins.Reply session index) = (session < sessions) × (index ≤ count_limit)
IsOfSession sessions origins.Other = Unit {0}

pub record IsStoredFrame (counts : List ℕ) (sessions : ℕ) (s : Stored) : Type 0 where
  pub end : IsThere counts sessions s.end
  pub origin : IsOfSession sessions s.origin

-- a link of at most 16 ends, and all are there
abbrev pub IsLink : List ℕ → ℕ → NetworkLink → Type 0
IsLink counts sessions l = (length l.ends.items ≤ 16) × All (IsThere counts sessions) l.ends.items

abbrev pub AreLinks : List ℕ → ℕ → List NetworkLink → Type 0
AreLinks counts sessions links = All (IsLink counts sessions) links

-- ---- each holds in one way at most

pub IsThere-prop : (counts : List ℕ) (sessions : ℕ) (e : End) → IsProp (IsThere counts sessions e)
IsThere-prop counts sessions (ends.Clock place port) = λ x y.
    Σ_prop_path (λ n. ×_prop (Coded-set (coded_option coded_ℕ) (slice_get counts place) (Some n)) (×_prop le_prop le_prop))
    (ap (λ o. unwrap_or o 0) (sym x.1.0 ∙ y.1.0))
IsThere-prop counts sessions (ends.Session place) = le_prop

pub IsOfSession-prop : (sessions : ℕ) (o : Origin) → IsProp (IsOfSession sessions o)
IsOfSession-prop sessions (origins.Request session index) = ×_prop le_prop le_prop
IsOfSession-prop sessions (origins.Reply session index) = ×_prop le_prop le_prop
IsOfSession-prop sessions origins.Other = Unit-prop

pub IsStoredFrame-prop : (counts : List ℕ) (sessions : ℕ) (s : Stored)
    → IsProp (IsStoredFrame counts sessions s)
IsStoredFrame-prop counts sessions s = λ x y i. record {
  end = IsThere-prop counts sessions s.end x.end y.end i;
  origin = IsOfSession-prop sessions s.origin x.origin y.origin i;
}

pub All-prop : {X : Type 0} (P : X → Type 0)
    → ((x : X) → IsProp (P x))
    → (xs : List X)
    → IsProp (All P xs)
All-prop P each xs = Π_prop (λ k. Π_prop (λ d. →_prop (each _)))

pub IsLink-prop : (counts : List ℕ) (sessions : ℕ) (l : NetworkLink)
    → IsProp (IsLink counts sessions l)
IsLink-prop counts sessions l = ×_prop le_prop (All-prop (IsThere counts sessions) (IsThere-prop counts sessions) l.ends.items)

pub AreLinks-prop : (counts : List ℕ) (sessions : ℕ) (links : List NetworkLink)
    → IsProp (AreLinks counts sessions links)
AreLinks-prop counts sessions links = All-prop (IsLink counts sessions) (IsLink-prop counts sessions) links

pub AreStored-prop : (counts : List ℕ) (sessions : ℕ) (frames : List Stored)
    → IsProp (All (IsStoredFrame counts sessions) frames)
AreStored-prop counts sessions frames = All-prop (IsStoredFrame counts sessions) (IsStoredFrame-prop counts sessions) frames
