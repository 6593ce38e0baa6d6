use Rattle.std.proofs.Common.{arith, ℕ, ap, subst, sym, take}
use Rattle.std.proofs.lemmas.List.{length-take-le}
use Rattle.ptpm_codec.specs.Layout.{message_length, message_octets}
use Rattle.ptpm_codec.specs.Reading.{IsViewed}
use Rattle.ptpm_codec.proofs.ReadingLaws.{message_size, octets-take, reading-well_formed, spelled-well_formed, valid_of}
use Rattle.ptpm_codec.proofs.viewing.View.of.Goals as goal

pub u16_at-requires : goal.u16_at-requires
u16_at-requires c =
    let size = message_size c.args.datagram.now c.requires.well_formed in omega (arith, size.0, size.1)

pub slice_bounds-result-end : goal.slice_bounds-result-end
slice_bounds-result-end c =
    let size = message_size c.args.datagram.now c.requires.well_formed in
    sym (length-take-le c.u16_at.result c.args.datagram.now (omega (arith, c.u16_at.ensures, size.1)))

pub invariant_of-result : goal.invariant_of-result
invariant_of-result c =
    subst (λ (n : ℕ). IsViewed (take n c.args.datagram.now) c.args.action c.args.tlv) (sym c.u16_at.ensures) c.requires.viewed

pub returns-clause-exact : goal.returns-clause-exact
returns-clause-exact c =
    reading-well_formed c.args.datagram.now (take c.u16_at.result c.args.datagram.now) c.requires.well_formed
    (ap (λ (n : ℕ). take n c.args.datagram.now) c.u16_at.ensures)

pub returns-clause-spelled : goal.returns-clause-spelled
returns-clause-spelled c =
    spelled-well_formed c.args.datagram.now (take c.u16_at.result c.args.datagram.now) c.requires.well_formed
    (ap (λ (n : ℕ). take n c.args.datagram.now) c.u16_at.ensures)

pub returns-clause-valid : goal.returns-clause-valid
returns-clause-valid c =
    valid_of _ (message_octets c.args.datagram.now)
    (octets-take (message_length c.args.datagram.now) c.args.datagram.now (λ i. omega (arith, c.type_inv.datagram i)))
    (returns-clause-spelled c)
