use Rattle.std.proofs.Common.{◌≡◌, ◌++◌, length, map}
use Rattle.serde_json.specs.Data.{string}
use Rattle.serde_json.specs.View.{view}
use Rattle.ptpm_message_json.specs.Values.{clocks_in}
use Rattle.ptpm_message_json.proofs.values.clocks_value.Given as goal

abbrev pub invariant-loop-rest : goal.invariant-loop-rest
invariant-loop-rest l = map view l.clocks.items ++ map string (clocks_in l.rest) ≡ map string (clocks_in l.octets)

abbrev pub decreases-loop-rest : goal.decreases-loop-rest
decreases-loop-rest l = length l.rest
