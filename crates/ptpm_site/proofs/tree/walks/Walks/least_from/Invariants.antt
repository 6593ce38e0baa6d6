-- The least so far.
use Rattle.std.proofs.Common.{ℕ, ◌<◌, ◌≤◌, get_or, vec_len}
use Rattle.ptpm_site.proofs.tree.walks.Walks.least_from.Given as goal

abbrev pub invariant-loop-index : goal.invariant-loop-index
invariant-loop-index l = record {
  from : l.first ≤ l.least;
  within : l.least < vec_len l.self.passed;
  least : (k : ℕ) → l.first ≤ k → k < l.index → get_or l.self.passed.items l.least 0 ≤ get_or l.self.passed.items k 0;
}
