-- What a step owes at an event, and a run at a list of them.
use Rattle.std.specs.Prelude.{◌≡◌, ◌≢◌, ℕ, Err, IfErr, IsOkAnd, List, [], ◌∷◌, ◌++◌, None, Ok, OnOk, Result, Some, false, map, option_map, slice_get, take}
use Rattle.ptpm_network.specs.Events as machine
use Rattle.ptpm_network.specs.Events.{refusal}
use Rattle.ptpm_network.specs.Headline.{Headline}
use Rattle.ptpm_network.specs.Machine.{is_late_delivery, state_after, taken}
use Rattle.ptpm_network.specs.RunningNetwork.{RunningNetwork, network_event}
use Rattle.ptpm_network.specs.Network.{Network}
use Rattle.ptpm_network.specs.Stands.{StandsAfter}
use Rattle.ptpm_script.specs.declared.event.Event.{Event}
use Rattle.ptpm_world.specs.declared.took.StepError.{StepError}
use Rattle.ptpm_world.specs.declared.took.StepError.TheVariants as errors
use Rattle.ptpm_world.specs.declared.took.Took.{Took}
use Rattle.ptpm_world.specs.declared.world.World.{World}
use Rattle.ptpm_world.specs.Placed.{names_in, placed}
use Rattle.ptpm_world.specs.Running.{IsOf, running}
use Rattle.ptpm_world.specs.Took.{after, answer, error_of}

-- ---- an event

-- The world answers what the event did and went where it leads, or answers why it is refused; or memory was refused.
pub record IsStep (N : Network) (old new : World) (e : machine.Event) (result : Result Took StepError) : Type 0 where
  pub answers : result ≢ Err errors.OutOfMemory → result ≡ answer N (running old) e
  pub goes : OnOk result (running new ≡ after N (running old) e)
  pub network : IsOf N new

-- after events without a late delivery: it is where the machine is, and refuses what that refuses
pub record IsMachineStep (N : Network) (past : List machine.Event) (new : World) (e : machine.Event) (result : Result Took StepError) : Type 0 where
  pub stands : is_late_delivery (state_after N past) e ≡ false
      → OnOk result (StandsAfter N (past ++ e ∷ []) (running new))
  pub taken : OnOk result (refusal N (state_after N past) e ≡ None)
  pub reason : IfErr result
      (λ x.
      x ≢ errors.OutOfMemory → option_map error_of (refusal N (state_after N past) e) ≡ Some x)

-- ---- a list of events

-- these events lead from one network to another, and none of them is refused in its turn
abbrev pub Leads : Network → RunningNetwork → List machine.Event → RunningNetwork → Type 0
Leads N r [] new = new ≡ r
Leads N r (e ∷ es) new = IsOkAnd (network_event N r e) (λ h. Leads N h.network es new)

-- the elements of a list of events that a run carries out: all of them, or those before the one where it stops
abbrev pub events_carried_out : {A B E : Type 0} → Result A (ℕ × B) → List E → List E
events_carried_out (Ok done) events = events
events_carried_out (Err stop) events = take stop.0 events

-- as the network has them
abbrev pub carried_out : {A : Type 0} → World → Result A (ℕ × StepError) → List Event → List machine.Event
carried_out w result events = map (placed (names_in w)) (events_carried_out result events)

-- the world went where these lead, and all happen; the event where it stops is refused for its first reason, or for want of memory
pub record IsRun {A : Type 0} (N : Network) (old new : World) (events : List Event)
    (result : Result A (ℕ × StepError)) : Type 0 where
  pub goes : Leads N (running old) (carried_out old result events) (running new)
  pub refuses : IfErr result
      (λ e.
      e.1 ≢ errors.OutOfMemory
      → (event : Event)
      → slice_get events e.0 ≡ Some event
      → answer N (running new) (placed (names_in old) event) ≡ Err e.1)
  pub network : IsOf N new

-- Let no event before be a late delivery, and none of these. Then the headline holds. These events are those that the machine
-- takes, up to the first that it refuses, and it refuses that one for this reason. `OutOfMemory` is excepted.
pub record IsMachineRun {A : Type 0} (N : Network) (past : List machine.Event) (old new : World)
    (events : List Event) (result : Result A (ℕ × StepError)) : Type 0 where
  pub stands : StandsAfter N (past ++ carried_out old result events) (running new)
  pub headline : Headline N (state_after N (past ++ carried_out old result events)) (running new)
  pub taken : IfErr result (λ e. e.1 ≢ errors.OutOfMemory)
      → taken N (state_after N past) (map (placed (names_in old)) events)
      ≡ carried_out old result events
  pub reason : IfErr result
      (λ e.
      e.1 ≢ errors.OutOfMemory
      → (event : Event)
      → slice_get events e.0 ≡ Some event
      → option_map error_of
      (refusal N (state_after N (past ++ carried_out old result events))
      (placed (names_in old) event)) ≡ Some e.1)
