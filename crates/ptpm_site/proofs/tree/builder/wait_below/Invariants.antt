-- Those that wait by now follow the clock.
use Rattle.ptpm_site.specs.Growing.{WaitBelow}
use Rattle.ptpm_site.proofs.tree.builder.wait_below.Given as goal

abbrev pub invariant-loop-index : goal.invariant-loop-index
invariant-loop-index l = WaitBelow l.forest l.place l.depth l.fn.waiting.items l.waiting.items
