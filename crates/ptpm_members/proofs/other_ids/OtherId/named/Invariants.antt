use Rattle.std.proofs.Common.{◌≡◌, drop}
use Rattle.ptpm_members.specs.OtherIds.{other_ids, other_named, other_named_in}
use Rattle.ptpm_members.proofs.other_ids.OtherId.named.Given as goal

abbrev pub invariant-loop-id : goal.invariant-loop-id
invariant-loop-id l = other_named_in l.name (drop l.id-index other_ids) ≡ other_named l.name
