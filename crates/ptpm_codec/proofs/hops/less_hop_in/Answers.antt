use Rattle.std.proofs.Common.{◌≡◌, ◌-◌, ◌∙◌, ℕ, List, ap, arith, length, take}
use Rattle.std.specs.Prelude.{slice_set}
use Rattle.std.proofs.lemmas.List.{length-take-le}
use Rattle.ptpm_codec.specs.Layout.{message_length, message_octets, octet}
use Rattle.ptpm_codec.specs.Reading.{IsWellFormed}
use Rattle.ptpm_codec.proofs.OctetLaws.{octet-take}
use Rattle.ptpm_codec.proofs.ReadingLaws.{message_size}
use Rattle.ptpm_codec.proofs.hops.less_hop_in.Goals as goal

copied : (d place copy : List ℕ) → IsWellFormed d
    → length place ≡ length (message_octets d)
    → copy ≡ take (length place) d
    → copy ≡ message_octets d
copied d place copy well size is = grind (arith, length-take-le, message_size)

pub lower-requires : goal.lower-requires
lower-requires c = grind (arith, message_size, octet-take, length-take-le, copied)

pub returns : goal.returns
returns c =
    let d = c.args.datagram.now in
    let size = message_size d c.requires.well_formed in
    let same = copied d c.args.place.now c.copy_from_slice.new.self c.requires.well_formed c.requires.size c.copy_from_slice.ensures.after in
    c.lower.ensures ∙ ap (λ m. slice_set m 45 (octet 45 m - 1)) same
    ∙ ap (λ n. slice_set (message_octets d) 45 (n - 1)) (octet-take 45 (message_length d) d (omega (arith, size.0)))
