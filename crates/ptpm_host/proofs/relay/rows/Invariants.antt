use Rattle.std.proofs.Common.{◌≡◌, take, map}
use Rattle.ptpm_host.specs.Relay.{relayed_id}
use Rattle.ptpm_host.proofs.relay.rows.Given as goal

abbrev pub invariant-loop-id : goal.invariant-loop-id
invariant-loop-id l = l.rows.items ≡ map relayed_id (take l.id-index l.ids)
