use Rattle.std.proofs.Common.{take}
use Rattle.std.specs.Prelude.{flat_map}
use Rattle.ptpm_codec.specs.Identity.{octet_text}
use Rattle.ptpm_members.proofs.value_text.push_hexadecimal.Given as goal

abbrev pub invariant-loop-octet : goal.invariant-loop-octet
invariant-loop-octet g l = g.T.TextSink.pushed l.fn.sink (flat_map octet_text (take l.octet-index l.octets)) l.sink
