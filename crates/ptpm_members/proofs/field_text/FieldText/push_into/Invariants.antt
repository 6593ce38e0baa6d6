use Rattle.std.proofs.Common.{take}
use Rattle.std.specs.Prelude.{flat_map}
use Rattle.ptpm_members.specs.FieldText.{member_line}
use Rattle.ptpm_members.proofs.field_text.FieldText.push_into.Given as goal

abbrev pub invariant-loop-member : goal.invariant-loop-member
invariant-loop-member g l =
    g.T.TextSink.pushed l.fn.sink (flat_map (member_line l.self.lead.now l.self.octets.now) (take l.member-index l.members)) l.sink
