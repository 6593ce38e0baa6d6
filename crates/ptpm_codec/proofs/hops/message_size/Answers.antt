use Rattle.std.proofs.Common.{arith}
use Rattle.std.proofs.lemmas.List.{length-take-le}
use Rattle.ptpm_codec.proofs.ReadingLaws.{message_size}
use Rattle.ptpm_codec.proofs.hops.message_size.Goals as goal

pub u16_at-requires : goal.u16_at-requires
u16_at-requires c = grind (arith, message_size)

pub returns-clause-size : goal.returns-clause-size
returns-clause-size c = grind (arith, message_size, length-take-le)

pub returns-clause-long : goal.returns-clause-long
returns-clause-long c = grind (arith, message_size)

pub returns-clause-small : goal.returns-clause-small
returns-clause-small c = grind (arith, message_size)

pub returns-clause-inside : goal.returns-clause-inside
returns-clause-inside c = grind (arith, message_size)
