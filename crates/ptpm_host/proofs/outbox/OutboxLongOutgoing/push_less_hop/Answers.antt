use Rattle.std.proofs.Common.{◌<◌, arith, length, refl}
use Rattle.std.proofs.lemmas.Grind.{common_steps}
use Rattle.ptpm_host.proofs.Places.{grown_at_write, whole_at_write}
use Rattle.ptpm_host.proofs.outbox.OutboxLongOutgoing.push_less_hop.Goals as goal

pub invariant_of-self-clause-whole : goal.invariant_of-self-clause-whole
invariant_of-self-clause-whole c =
    let inside : c.args.self.now.count < length c.args.self.now.room.now = grind (arith, common_steps) in
    whole_at_write _ _ _ inside c.args.self.now.whole c.put_less_hop.ensures.whole

pub returns-clause-grown : goal.returns-clause-grown
returns-clause-grown c = grown_at_write c.args.self.now _ _ c.put_less_hop.new.self refl refl refl c.put_less_hop.ensures.behind
