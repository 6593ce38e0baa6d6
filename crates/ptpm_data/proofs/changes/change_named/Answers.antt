use Rattle.std.proofs.Common.{arith}
use Rattle.std.proofs.lemmas.List.{get_or_default}
use Rattle.std.proofs.lemmas.List.Edits.{map_over_more}
use Rattle.ptpm_data.specs.PortChange.{port_after}
use Rattle.ptpm_data.proofs.ReplyLemmas.{named_changed-every, named_changed-one, map_over_all}
use Rattle.ptpm_data.proofs.changes.change_named.Goals as goal

pub loop-set-preserved : goal.loop-set-preserved
loop-set-preserved c =
    rw c.change.ensures
    (map_over_more (port_after c.args.change) c.args.ports.now c.loop-set.set-items c.loop-set.set-index _ (omega arith) c.loop-set.invariant
    (get_or_default c.loop-set.set-items c.loop-set.set-index _ _ (omega arith)))

pub returns-after-loop-set : goal.returns-after-loop-set
returns-after-loop-set c =
    rw (named_changed-every _ _ _ c.if-port-eq-EVERY_PORT.true)
    (map_over_all (port_after c.args.change) c.args.ports.now c.loop-set.set-items c.loop-set.set-index (omega arith) c.loop-set.invariant)

pub returns-else-port-eq-EVERY_PORT : goal.returns-else-port-eq-EVERY_PORT
returns-else-port-eq-EVERY_PORT c = grind (arith, named_changed-one)
