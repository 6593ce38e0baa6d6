use Rattle.ptpm_world.proofs.Common.{◌≡◌, length, map, range_with_len, take}
use Rattle.ptpm_draw.specs.Picture.{is_delivered}
use Rattle.ptpm_draw.proofs.picture.Picture.is_delivered.Given as goal

-- the frames that the rows so far deliver are noted
abbrev pub invariant-loop-row : goal.invariant-loop-row
invariant-loop-row l =
    l.flags.items ≡ map (is_delivered (take l.row-index l.self.rows.items)) (range_with_len 1 (length l.self.messages.items))
