use Rattle.ptpm_world.proofs.Common.{◌≡◌, drop, network_value, running}
use Rattle.ptpm_world.specs.Described.{described}
use Rattle.ptpm_world.specs.Placed.{names_of}
use Rattle.ptpm_draw.specs.Picture.{IsWorldOf, drawn, drawn_in, picture_of, then_drawn}
use Rattle.ptpm_draw.proofs.picture.Picture.of.Given as goal

-- the whole is what was drawn, and after it what the events from here on come to
abbrev pub invariant-loop-line : goal.invariant-loop-line
invariant-loop-line l = record {
  world : IsWorldOf (network_value l.script.network) l.world;
  drawn : picture_of (network_value l.script.network) l.script.lines.items
      ≡ then_drawn (drawn_in l.picture)
      (drawn (described (network_value l.script.network)) (names_of (network_value l.script.network)) (running l.world)
      (drop l.line-index l.line-items));
}
