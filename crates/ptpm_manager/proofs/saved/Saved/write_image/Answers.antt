use Rattle.std.proofs.Common.{arith, ◌∙◌}
use Rattle.ptpm_manager.proofs.ImageLaws.{size_of_parts, written_image}
use Rattle.ptpm_manager.proofs.saved.Saved.write_image.Goals as goal

pub write_both-requires : goal.write_both-requires
write_both-requires c =
    let size = size_of_parts c.args.self.now c.as_slice.result.now c.data_field.result.now (c.as_slice.ensures.value ∙ c.front.ensures) c.data_field.ensures.octets in
    omega (arith, size, c.requires.room)

pub returns : goal.returns
returns c =
    c.write_both.ensures
    ∙ written_image c.args.self.now c.as_slice.result.now c.data_field.result.now (c.as_slice.ensures.value ∙ c.front.ensures) c.data_field.ensures.octets c.args.place.now
