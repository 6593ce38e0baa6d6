use Rattle.std.proofs.Common.{arith}
use Rattle.std.proofs.lemmas.List.{length-map}
use Rattle.ptpm_agent.proofs.Turns.{forwarded-on, forwarded-not}
use Rattle.ptpm_device.proofs.passing.pass_on.Goals as goal

pub returns-then-is_passed_on-clause-copies : goal.returns-then-is_passed_on-clause-copies
returns-then-is_passed_on-clause-copies g c = grind (arith, forwarded-on)

pub returns-else-is_passed_on-clause-copies : goal.returns-else-is_passed_on-clause-copies
returns-else-is_passed_on-clause-copies g c = grind (arith, forwarded-not)

pub copy_to_others-requires-clause-room : goal.copy_to_others-requires-clause-room
copy_to_others-requires-clause-room g c = grind (arith, forwarded-on, length-map)
