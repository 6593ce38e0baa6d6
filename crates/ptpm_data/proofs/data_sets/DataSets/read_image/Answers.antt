use Rattle.std.proofs.Common.{◌≤◌, ap, arith, length, refl}
use Rattle.ptpm_data.specs.declared.ports.TheConstants.{INLINE_PORTS, PORTS}
use Rattle.ptpm_data.proofs.ImageLemmas.{ports_length}
use Rattle.ptpm_data.proofs.OneImage.{reads_back, text_small}
use Rattle.ptpm_data.proofs.data_sets.DataSets.read_image.Goals as goal

pub returns-in_default-read_clock : goal.returns-in_default-read_clock
returns-in_default-read_clock c =
    λ d rest consistent fits is. let split = c.in-Some.ensures.parts d rest fits is in
    let none = c.in_default-read_clock.ensures (text_small d _ _ _ consistent split) in absurd cc

pub returns-then-ports-le-INLINE_PORTS_OCTETS : goal.returns-then-ports-le-INLINE_PORTS_OCTETS
returns-then-ports-le-INLINE_PORTS_OCTETS c =
    λ d rest consistent fits is. let split = c.in-Some.ensures.parts d rest fits is in
    let start = c.in-Some-read_clock.ensures (text_small d _ _ _ consistent split) in
    let size = ap length split.by_port in
    let each = ports_length d.ports in
    let few : length d.ports ≤ INLINE_PORTS = omega arith in
    c.start_with_few.ensures d.ports d few fits.ports split.by_port
    (reads_back INLINE_PORTS d _ _ _ _ _ consistent fits split start refl few)

pub returns-else-ports-le-INLINE_PORTS_OCTETS : goal.returns-else-ports-le-INLINE_PORTS_OCTETS
returns-else-ports-le-INLINE_PORTS_OCTETS c =
    λ d rest consistent fits is. let split = c.in-Some.ensures.parts d rest fits is in
    let start = c.in-Some-read_clock.ensures (text_small d _ _ _ consistent split) in
    c.start_with_many.ensures d.ports d fits.ports split.by_port
    (reads_back PORTS d _ _ _ _ _ consistent fits split start refl consistent.few_ports)
