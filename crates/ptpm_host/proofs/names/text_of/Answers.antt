use Rattle.std.proofs.Common.{arith}
use Rattle.std.proofs.lemmas.Str.{IsUtf8-from_is_utf8, is_utf8-from_IsUtf8}
use Rattle.ptpm_host.proofs.names.text_of.Goals as goal

pub returns-in-Ok : goal.returns-in-Ok
returns-in-Ok c = grind (arith, is_utf8-from_IsUtf8)

pub returns-in-Err : goal.returns-in-Err
returns-in-Err c = grind (arith, IsUtf8-from_is_utf8)
