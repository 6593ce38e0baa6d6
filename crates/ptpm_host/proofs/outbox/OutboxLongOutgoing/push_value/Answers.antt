use Rattle.std.proofs.Common.{refl}
use Rattle.ptpm_host.proofs.Places.{grown_at_write}
use Rattle.ptpm_host.proofs.outbox.OutboxLongOutgoing.push_value.Goals as goal

pub returns-clause-grown : goal.returns-clause-grown
returns-clause-grown c = grown_at_write c.args.self.now _ _ c.put_answer.new.self refl refl refl c.put_answer.ensures.behind
