use Rattle.std.proofs.Common.{◌≡◌, drop}
use Rattle.ptpm_host.specs.Relay.{ids_refusal}
use Rattle.ptpm_host.proofs.relay.judge_each.Given as goal

abbrev pub invariant-loop-id : goal.invariant-loop-id
invariant-loop-id l = ids_refusal l.ids l.ids ≡ ids_refusal l.ids (drop l.id-index l.ids)
