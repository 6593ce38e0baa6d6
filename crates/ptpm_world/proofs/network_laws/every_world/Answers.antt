-- What holds of every world, by what it keeps of itself.
use Rattle.ptpm_world.proofs.Common.{arith, ◌≡◌, ℕ, ◌<◌, ◌≤◌, All, Option, Some, None, false, refl, ◌∙◌, ap, length, length-map, length-take, slice_get_within, is_some, slice_index_or, PortIdentity, is_known, identities, AreOfManagers, HasEnd, Network, ports, Held, RunningClock, World, described_end, IsThere, port_counts, frame_in, IsOf, running, state_of, table_entries}
use Rattle.std.proofs.lemmas.List.Elements.{All-map}
use Rattle.std.specs.FinMap.{get}
use Rattle.ptpm_data.proofs.OwnOctets.{some_at}
use Rattle.ptpm_table.specs.declared.slot.Slot.{Slot}
use Rattle.ptpm_table.specs.Slots.{configured, entry_in}
use Rattle.ptpm_table.specs.Tables.{OfSixteen}
use Rattle.ptpm_table.proofs.Slots.{get_used, known_slot}
use Rattle.ptpm_script.specs.declared.network.End.{End}
use Rattle.ptpm_world.proofs.WorldLemmas.{made_at}
use Rattle.ptpm_script.specs.declared.network.End.TheVariants as ends
use Rattle.ptpm_world.proofs.network_laws.every_world.Goals as goal

-- ---- clocks

nothing_kept : (o : Option Slot) → is_some o ≡ false → entry_in o ≡ None
nothing_kept None e = refl
nothing_kept (Some s) e = absurd (cc)

-- a table has entries only of the managers of its slots
table-of_managers : (t : OfSixteen) (m : PortIdentity)
    → is_known m (identities (configured t.slots.items)) ≡ false
    → get (table_entries t) m ≡ None
table-of_managers t m e = grind (arith, get_used, nothing_kept, known_slot)

of_managers : (N : Network) (w : World)
    → IsOf N w
    → (c : ℕ)
    → c < N.clocks
    → AreOfManagers (N.clock c) ((running w).clock c).entries
of_managers N w is c below m e =
    let x = some_at w.clocks.items c (omega (arith, below, is.clock_count)) in grind (arith, table-of_managers)

has_ports : (N : Network) (w : World)
    → IsOf N w
    → (c : ℕ)
    → c < N.clocks
    → length ((running w).clock c).sets.ports ≡ ports N c
has_ports N w is c below =
    let x = some_at w.clocks.items c (omega (arith, below, is.clock_count)) in
    ap (λ o. length (state_of o).sets.ports) x.1 ∙ (is.clocks c x.0 x.1).ports

-- ---- frames

has_end : (N : Network) (w : World)
    → IsOf N w
    → (e : End)
    → IsThere (port_counts w.clocks.items) (length w.sessions.items) e
    → HasEnd N (described_end e)
has_end N w is (ends.Clock place port) there =
    let x = made_at (λ (k : RunningClock). length k.agent.sets.ports) w.clocks.items place there.0 there.1.0 in (
      omega (arith, slice_get_within w.clocks.items place x.0 x.1, is.clock_count),
      there.1.1.0,
      omega (arith, there.1.1.1, x.2, (is.clocks place x.0 x.1).ports),
    )
has_end N w is (ends.Session place) there = omega (arith, there, is.session_count)

has_ends : (N : Network) (w : World)
    → IsOf N w
    → All (λ (f : Held). HasEnd N f.end) (running w).frames
has_ends N w is = All-map (λ (f : Held). HasEnd N f.end) (frame_in w.frames.octets.items) w.frames.stored.items
    (λ k d below. has_end N w is (slice_index_or w.frames.stored.items k d).end (w.frames_there k d below).end)

short_frames : (w : World) → All (λ (f : Held). length f.octets ≤ 1472) (running w).frames
short_frames w = All-map (λ (f : Held). length f.octets ≤ 1472) (frame_in w.frames.octets.items) w.frames.stored.items
    (λ k d below. grind (arith, length-take))

few_frames : (w : World) → length (running w).frames ≤ 400000
few_frames w = omega (arith, length-map w.frames.stored.items (frame_in w.frames.octets.items), w.frames.few)

pub returns-clause-entries : goal.returns-clause-entries
returns-clause-entries c = λ N is place below. of_managers N c.args.world.now is place below

pub returns-clause-ports : goal.returns-clause-ports
returns-clause-ports c = λ N is place below. has_ports N c.args.world.now is place below

pub returns-clause-ends : goal.returns-clause-ends
returns-clause-ends c = λ N is. has_ends N c.args.world.now is

pub returns-clause-octets : goal.returns-clause-octets
returns-clause-octets c = short_frames c.args.world.now

pub returns-clause-frames : goal.returns-clause-frames
returns-clause-frames c = few_frames c.args.world.now
