-- Each place up to this one is passed, and those that were passed are marked where they are the least of a loop.
use Rattle.std.proofs.Common.{◌≡◌, ℕ, ◌<◌, length, vec_len}
use Rattle.ptpm_site.specs.Walks.{IsPassed}
use Rattle.ptpm_site.proofs.Strays.{AreMarked, IsClosed}
use Rattle.ptpm_site.proofs.tree.loops.least_of_loops.Given as goal

abbrev pub invariant-loop-start : goal.invariant-loop-start
invariant-loop-start l = record {
  marks : vec_len l.marks ≡ length l.followed;
  count : vec_len l.walks.indices ≡ length l.followed;
  closed : IsClosed l.followed l.walks.passed.items;
  marked : AreMarked l.followed l.walks.passed.items l.marks.items;
  passed : (p : ℕ) → p < l.start → IsPassed l.walks.indices.items p;
}
