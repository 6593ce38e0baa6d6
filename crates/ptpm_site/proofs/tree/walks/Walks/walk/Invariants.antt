-- The walk is on its way; each step passes one of the places that were not passed.
use Rattle.std.proofs.Common.{◌≡◌, ◌<◌, cond, length, vec_len, sum_by}
use Rattle.std.specs.Option.{is_some}
use Rattle.ptpm_site.proofs.Passing.{Walking}
use Rattle.ptpm_site.proofs.tree.walks.Walks.walk.Given as goal

abbrev pub invariant-step : goal.invariant-step
invariant-step l = record {
  walking : Walking l.followed l.fn.self.passed.items l.self.passed.items l.start l.here;
  count : vec_len l.self.indices ≡ length l.followed;
  here : l.here < length l.followed;
}

abbrev pub decreases-step : goal.decreases-step
decreases-step l = sum_by (λ i. cond (is_some i) 0 1) l.self.indices.items
