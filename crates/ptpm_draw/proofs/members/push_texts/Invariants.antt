use Rattle.std.proofs.Common.{◌≡◌, ◌++◌, flat_map, map, string_bytes, take}
use Rattle.ptpm_draw.specs.MemberText.{text_of}
use Rattle.ptpm_members.specs.declared.forms.Field.{Field}
use Rattle.ptpm_draw.proofs.members.push_texts.Given as goal

abbrev pub invariant-loop-field : goal.invariant-loop-field
invariant-loop-field l =
    map string_bytes l.texts.items
    ≡ map string_bytes l.fn.texts.items
    ++ flat_map (λ (f : Field). text_of l.change.members l.port l.octets.items f f.0) (take l.field-index l.field-items)
