use Rattle.ptpm_journal.proofs.InOrder.{begun_in_order, in_order, one_each, stays_told}
use Rattle.ptpm_journal.proofs.laws.notes_in_order.Goals as goal

pub returns-clause-order : goal.returns-clause-order
returns-clause-order c = in_order

pub returns-clause-one : goal.returns-clause-one
returns-clause-one c = one_each

pub returns-clause-begun : goal.returns-clause-begun
returns-clause-begun c = begun_in_order

pub returns-clause-told : goal.returns-clause-told
returns-clause-told c = stays_told
