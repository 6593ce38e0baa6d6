use Rattle.ptpm_world.proofs.Common.{arith, described, names_of, network_value, running}
use Rattle.ptpm_draw.specs.Picture.{drawn_in, picture_of}
use Rattle.ptpm_draw.proofs.Pictures.{drawn-all, drawn-more, drawn-started}
use Rattle.ptpm_draw.proofs.picture.Picture.of.Goals as goal

pub loop-line-init : goal.loop-line-init
loop-line-init c =
    let w = c.in_ok-world.ensures in
    record {
      world = record { network = w.network; names = w.names };
      drawn = drawn-started (network_value c.args.script.now.network) c.in_ok-world.world c.args.script.now.lines.items
          c.as_slice-line-items.result.now
          (record { rows = c.new-2.result.items; messages = c.new-3.result.items; changes = c.new-4.result.items })
          c.as_slice-line-items.ensures.value
          w.network
          w.stands
          c.new-2.ensures.items
          c.new-3.ensures.items
          c.new-4.ensures.items;
    }

pub loop-line-preserved : goal.loop-line-preserved
loop-line-preserved c =
    let n = network_value c.args.script.now.network in
    record {
      world = c.in_ok-play.ensures.world;
      drawn = drawn-more (described n) (names_of n) (running c.loop-line.world) (running c.play.new.world) c.as_slice-line-items.result.now
          c.loop-line.line-index
          c.line-item.result
          (picture_of n c.args.script.now.lines.items)
          (drawn_in c.loop-line.picture)
          (drawn_in c.play.new.self)
          c.loop-line-test.true
          c.line-item.is
          c.loop-line.invariant.drawn
          c.in_ok-play.ensures.goes
          c.in_ok-play.ensures.drawn;
    }

pub returns-clause-drawn : goal.returns-clause-drawn
returns-clause-drawn c =
    let n = network_value c.args.script.now.network in
    drawn-all (described n) (names_of n) (running c.loop-line.world) c.as_slice-line-items.result.now c.loop-line.line-index
    (picture_of n c.args.script.now.lines.items) (drawn_in c.loop-line.picture) (omega arith) c.loop-line.invariant.drawn
