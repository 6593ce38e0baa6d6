-- Each call of the closure gives the key of its finding.
use Rattle.std.proofs.Common.{rules}
use Rattle.std.proofs.lemmas.Fn.{always_returns_same}
use Rattle.ptpm_expected.specs.Order.{finding_key}
use Rattle.ptpm_expected.proofs.order.put_in_order.Goals as goal

pub returns-clause-sorted : goal.returns-clause-sorted
returns-clause-sorted c = c.in_ok-sort_by_key.ensures.sorted finding_key (always_returns_same _ _ _ (λ a r f h. search rules))

pub returns-clause-stable : goal.returns-clause-stable
returns-clause-stable c = c.in_ok-sort_by_key.ensures.stable finding_key (always_returns_same _ _ _ (λ a r f h. search rules))
