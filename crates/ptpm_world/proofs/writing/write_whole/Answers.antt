use Rattle.ptpm_world.proofs.Common.{ap}
use Rattle.ptpm_world.proofs.Taking.{left-kept, left-more}
use Rattle.ptpm_world.proofs.writing.write_whole.Goals as goal
use Rattle.ptpm_world.proofs.writing.write_whole.Goals.{in-Ok, in-Err+else-ne}

pub loop-preserved : goal.loop-preserved
loop-preserved g c =
    let W = g.W.Write.contents in
    elim c.match-write.branch [
      | in-Ok w ↦ left-more (W c.args.out.now) (W c.loop.out) (W c.write.new.self) c.args.octets.now c.loop.rest.now c.match-write.rest.now w.in-Ok.count c.loop.invariant w.in-Ok.ensures.bytes (ap (λ r. r.now) w.rest-is)
      | in-Err+else-ne w ↦ left-kept (W c.args.out.now) (W c.loop.out) (W c.write.new.self) c.args.octets.now c.loop.rest.now c.match-write.rest.now c.loop.invariant w.in-Err.ensures.bytes (ap (λ r. r.now) w.rest-is)
    ]
