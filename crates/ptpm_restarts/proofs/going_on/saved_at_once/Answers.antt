use Rattle.ptpm_restarts.proofs.AtOnce.{refused-as, saved-at-once}
use Rattle.ptpm_restarts.proofs.going_on.saved_at_once.Goals as goal

pub returns-clause-refused : goal.returns-clause-refused
returns-clause-refused c = λ N k e calm. refused-as N k calm.waiting e

pub returns-clause-happened : goal.returns-clause-happened
returns-clause-happened c = λ N k e h calm ok. saved-at-once N k calm e h ok
