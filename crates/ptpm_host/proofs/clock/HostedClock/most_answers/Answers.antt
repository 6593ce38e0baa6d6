use Rattle.std.proofs.Common.{arith}
use Rattle.ptpm_host.proofs.MostSent.{most_at}
use Rattle.ptpm_host.proofs.clock.HostedClock.most_answers.Goals as goal
use Rattle.ptpm_host.proofs.clock.HostedClock.most_answers.Goals.{then-answers-most, else-answers-most}

pub loop-place-preserved : goal.loop-place-preserved
loop-place-preserved c =
    let more = most_at c.in_order-entries.result c.loop-place.place (c.entry.result.manager, c.entry.result.entry) c.entry.ensures.entry in
    elim c.if-answers-most.branch [
      | then-answers-most w ↦ omega (arith, more, w.most-is, w.if-answers-most.true, c.answer_count-answers.ensures, c.loop-place.invariant)
      | else-answers-most w ↦ omega (arith, more, w.most-is, w.if-answers-most.false, c.answer_count-answers.ensures, c.loop-place.invariant)
    ]
