use Rattle.ptpm_world.proofs.Common.{arith}
use Rattle.std.proofs.Output.{has_written_of_eq}
use Rattle.std.proofs.lemmas.Option.{none-some}
use Rattle.ptpm_world.proofs.Ending.{named_text, unnamed_text}
use Rattle.ptpm_world.proofs.trace.ErrorTextDisplay.fmt.Goals as goal

pub returns-in-Some-clause-writes : goal.returns-in-Some-clause-writes
returns-in-Some-clause-writes g c = grind (arith, has_written_of_eq, named_text)

pub returns-in-None-clause-writes : goal.returns-in-None-clause-writes
returns-in-None-clause-writes g c = grind (arith, has_written_of_eq, unnamed_text, none-some)
