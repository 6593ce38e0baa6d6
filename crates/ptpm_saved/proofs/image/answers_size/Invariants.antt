use Rattle.std.proofs.Common.{◌≡◌, length, take}
use Rattle.ptpm_saved.specs.Image.{answers_image}
use Rattle.ptpm_saved.proofs.image.answers_size.Given as goal

abbrev pub invariant-loop-place : goal.invariant-loop-place
invariant-loop-place l = l.size ≡ length (answers_image (take l.place l.entry.entry.reply.answers))
