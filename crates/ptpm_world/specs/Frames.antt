-- The frames that a running network holds, over one store of octets.
use Rattle.std.specs.Prelude.{ℕ, ◌+◌, ◌*◌, ◌≤◌, List, map, take, drop, length, vec_capacity, vec_len}
use Rattle.ptpm_script.specs.declared.network.NetworkLink.{NetworkLink}
use Rattle.ptpm_network.specs.Network as machine
use Rattle.ptpm_network.specs.RunningNetwork.{Held}
use Rattle.ptpm_network.specs.State as state
use Rattle.ptpm_world.specs.declared.frames.Frame.{Frame}
use Rattle.ptpm_world.specs.declared.frames.Frames.{Frames}
use Rattle.ptpm_world.specs.declared.frames.Origin.{Origin}
use Rattle.ptpm_world.specs.declared.frames.Origin.TheVariants as origins
use Rattle.ptpm_world.specs.declared.frames.Stored.{Stored}
use Rattle.ptpm_world.specs.Described.{described_end}

-- what a frame belongs to, as the machine has it
abbrev pub origin_of : Origin → state.Origin
origin_of (origins.Request session index) = state.RequestOf session index
origin_of (origins.Reply session index) = state.ReplyTo session index
origin_of origins.Other = state.Neither

abbrev pub frame_in : List ℕ → Stored → Held
frame_in store s = record { end = described_end s.end; octets = take s.size (drop s.start store); origin = origin_of s.origin }

-- all frames, in the order in which they were sent
abbrev pub held_in : Frames → List Held
held_in f = map (frame_in f.octets.items) f.stored.items

-- a lent frame
abbrev pub frame_value : Frame → Held
frame_value f = record { end = described_end f.end; octets = f.octets.now; origin = origin_of f.origin }

-- the ends of a link, as the machine has them
abbrev pub ends_of : NetworkLink → List machine.End
ends_of l = map described_end l.ends.items

abbrev pub link_ends : List NetworkLink → List (List machine.End)
link_ends links = map ends_of links

-- frames held at most, and memory was had for this many messages, each to 15 ends at most
pub record HasRoom (messages : ℕ) (f : Frames) : Type 0 where
  pub limit : length f.stored.items + messages * 15 ≤ 400000
  pub frames : vec_len f.stored + messages * 15 ≤ vec_capacity f.stored
  pub octets : vec_len f.octets + messages * 1472 ≤ vec_capacity f.octets
