-- The events of a script by places. A name means the place of the session or clock that has it, and no place if there is
-- none.
use Rattle.std.specs.Prelude.{ℕ, List, map, bytes_eq}
use Rattle.std.specs.List.{position_or_len}
use Rattle.ptpm_script.specs.declared.event.Event.{Event}
use Rattle.ptpm_script.specs.declared.event.Event.TheVariants as events
use Rattle.ptpm_network.specs.Events as machine
use Rattle.ptpm_script.specs.NetworkValue.{NetworkValue}
use Rattle.ptpm_world.specs.declared.whole_script.EventLine.{EventLine}
use Rattle.ptpm_world.specs.declared.world.World.{World}

-- the first place of a name, or the number of names
abbrev pub place_in : List (List ℕ) → List ℕ → ℕ
place_in names name = position_or_len (λ n. bytes_eq n name) names

-- the names of clocks and sessions, by places
pub record Names : Type 0 where
  pub clocks : List (List ℕ)
  pub sessions : List (List ℕ)

abbrev pub names_in : World → Names
names_in w = record { clocks = map (λ c. c.name) w.clocks.items; sessions = map (λ s. s.name) w.sessions.items }

-- those of the clocks and sessions of a network
abbrev pub names_of : NetworkValue → Names
names_of n = record { clocks = map (λ c. c.name) n.clocks; sessions = map (λ s. s.name) n.sessions }

abbrev pub placed : Names → Event → machine.Event
placed n (events.Begin session ask) = machine.Begin (place_in n.sessions session) ask
placed n (events.Send session) = machine.Send (place_in n.sessions session)
placed n (events.Resume session attempts) = machine.Resume (place_in n.sessions session) attempts
placed n (events.Retune session domain) = machine.Retune (place_in n.sessions session) domain
placed n (events.Deliver frame) = machine.Deliver frame
placed n (events.Stranger clock port octets) = machine.Stranger (place_in n.clocks clock) port octets

-- the events of these lines
abbrev pub placed_all : Names → List EventLine → List machine.Event
placed_all n lines = map (λ l. placed n l.event) lines
