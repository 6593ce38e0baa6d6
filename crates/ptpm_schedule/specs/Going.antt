-- How a network goes on while a schedule is written.
use Rattle.std.specs.Prelude.{◌≡◌, ◌≢◌, ◌≤◌, ℕ, ◌+◌, false, true, if◌then◌else◌, List, [], ◌∷◌, ◌++◌, None, Ok, Err, Option, Result, flat_map, length, map}
use Rattle.std.specs.Io.KnownBytes.{Appends}
use Rattle.ptpm_network.specs.Events as machine
use Rattle.ptpm_network.specs.Events.{refusal}
use Rattle.ptpm_network.specs.Stands.{StandsAfter}
use Rattle.ptpm_network.specs.Machine.{is_late_delivery, state_after, taken}
use Rattle.ptpm_network.specs.Network.{Network}
use Rattle.ptpm_schedule.specs.declared.traffic.Tried.{Tried}
use Rattle.ptpm_schedule.specs.declared.traffic.Tried.TheVariants.{Happened, Late, Refused}
use Rattle.ptpm_schedule.specs.Scheduled.{AreAsked, IsRefusedAfter, event_lines, is_asked}
use Rattle.ptpm_script.specs.declared.event.Event.{Event}
use Rattle.ptpm_world.specs.declared.script_error.ScriptError.{ScriptError}
use Rattle.ptpm_world.specs.declared.script_error.ScriptError.TheVariants.{ReadFault, TooManyLines, WriteFault}
use Rattle.ptpm_world.specs.declared.whole_script.EventLine.{EventLine}
use Rattle.ptpm_world.specs.declared.world.World.{World}
use Rattle.ptpm_world.specs.Placed.{Names, names_in, placed}
use Rattle.ptpm_world.specs.Running.{IsOf, running}
use Rattle.ptpm_world.specs.ScriptError.{is_outside}

-- it is the same network with the same names
pub record IsSame (old new : World) : Type 0 where
  pub names : names_in new ≡ names_in old
  pub network : (N : Network) → IsOf N old → IsOf N new

-- ---- one event

-- After these events this one is not refused, and the network is where all of them lead: so it is no late delivery.
pub record Took (N : Network) (past : List machine.Event) (new : World) (e : machine.Event) : Type 0 where
  pub permitted : refusal N (state_after N past) e ≡ None
  pub stands : StandsAfter N (past ++ e ∷ []) (running new)

-- nothing changed; and this held for an event, at any state at which the network may have been
pub record Stayed (old new : World) (P : Network → List machine.Event → Type 0) : Type 0 where
  pub still : running new ≡ running old
  pub why : (N : Network) (past : List machine.Event)
      → IsOf N old
      → StandsAfter N past (running old)
      → P N past

abbrev pub IsLateAfter : machine.Event → Network → List machine.Event → Type 0
IsLateAfter e N past = is_late_delivery (state_after N past) e ≡ true

abbrev pub IsRefused : machine.Event → Network → List machine.Event → Type 0
IsRefused e N past = IsRefusedAfter N past e

-- An event that happened did so at any state at which the network may have been. Any other changed nothing: it would have been
-- late, or was refused.
abbrev pub Became : World → World → Event → Tried → Type 0
Became old new e (Happened did) = (N : Network) (past : List machine.Event)
    → IsOf N old
    → StandsAfter N past (running old)
    → Took N past new (placed (names_in old) e)
Became old new e Late = Stayed old new (IsLateAfter (placed (names_in old) e))
Became old new e (Refused why) = Stayed old new (IsRefused (placed (names_in old) e))

-- ---- what a schedule's events are of

-- an event, if a session is asked for it
abbrev pub asked_by : Event → List Event
asked_by e = if is_asked e then e ∷ [] else []

abbrev pub asked_in : List EventLine → List Event
asked_in lines = flat_map (λ line. asked_by line.event) lines

-- ---- a list of events

-- After these events further ones came, said by names. None of them was refused, a writer took the lines of the further ones, and
-- this many lines were counted more.
pub record Wrote (N : Network) (names : Names) (past : List machine.Event) (before after : Option (List ℕ)) (had has : ℕ) : Type 0 where
  pub events : List Event
  pub written : Appends before after (event_lines events)
  pub happened : taken N (state_after N past) (map (placed names) events) ≡ map (placed names) events
  pub counted : has ≡ had + length events

-- and the network is where all of them lead; among them are those that were to come
pub record WentOn (N : Network) (names : Names) (past : List machine.Event) (asked : List Event) (new : World)
    (before after : Option (List ℕ)) (had has : ℕ) : Type 0 where
  pub wrote : Wrote N names past before after had has
  pub stands : StandsAfter N (past ++ map (placed names) wrote.events) (running new)
  pub asks : AreAsked N names past asked wrote.events

-- the same network went on, from any state at which it may have been
pub record Goes (asked : List Event) (old new : World) (before after : Option (List ℕ)) (had has : ℕ) : Type 0 where
  pub same : IsSame old new
  pub goes : (N : Network) (past : List machine.Event)
      → IsOf N old
      → StandsAfter N past (running old)
      → WentOn N (names_in old) past asked new before after had has

-- It ended early: a schedule has no more than 2,000,000 lines, or writing or memory failed. If writing did not fail, it went on
-- so far.
pub record HasStopped (old : World) (before after : Option (List ℕ)) (had has : ℕ) (e : ScriptError) : Type 0 where
  pub own : is_outside e ≡ false → (e ≡ TooManyLines) × (2000000 ≤ has)
  pub unread : e ≢ ReadFault
  pub wrote : e ≢ WriteFault
      → (N : Network) (past : List machine.Event)
      → IsOf N old
      → StandsAfter N past (running old)
      → Wrote N (names_in old) past before after had has

-- what a call comes to that lets a network go on
abbrev pub Went : {A : Type 0} → Result A ScriptError → List Event → World → World → Option (List ℕ) → Option (List ℕ) → ℕ → ℕ → Type 0
Went (Ok done) asked old new before after had has = Goes asked old new before after had has
Went (Err e) asked old new before after had has = HasStopped old before after had has e
