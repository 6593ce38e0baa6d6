-- Each call of the closure gives the key of its change.
use Rattle.std.proofs.Common.{rules}
use Rattle.std.proofs.lemmas.Fn.{always_returns_same}
use Rattle.ptpm_plan.specs.Order.{order_key}
use Rattle.ptpm_plan.proofs.order.in_order.Goals as goal

pub returns-clause-sorted : goal.returns-clause-sorted
returns-clause-sorted c =
    c.in_ok-sort_by_cached_key.ensures.sorted (order_key c.args.surveyed.now c.args.changes.items) (always_returns_same _ _ _ (λ a r f h. search rules))

pub returns-clause-stable : goal.returns-clause-stable
returns-clause-stable c =
    c.in_ok-sort_by_cached_key.ensures.stable (order_key c.args.surveyed.now c.args.changes.items) (always_returns_same _ _ _ (λ a r f h. search rules))
