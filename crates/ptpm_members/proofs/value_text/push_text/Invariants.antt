use Rattle.std.proofs.Common.{take}
use Rattle.std.specs.Prelude.{flat_map}
use Rattle.ptpm_members.specs.ValueText.{shown_octet}
use Rattle.ptpm_members.proofs.value_text.push_text.Given as goal

abbrev pub invariant-loop-octet : goal.invariant-loop-octet
invariant-loop-octet g l = g.T.TextSink.pushed l.fn.sink (flat_map shown_octet (take l.octet-index l.text)) l.sink
