use Rattle.std.proofs.Common.{[]}
use Rattle.ptpm_members.proofs.LineLemmas.{text_length}
use Rattle.ptpm_c.proofs.HandedOut.{no_room, whole}
use Rattle.ptpm_c.proofs.fields.ptpm_field_text.Goals as goal

pub returns-clause-lines : goal.returns-clause-lines
returns-clause-lines c =
    let out = c.hand_out_lines.ensures in
    rw c.unwrap_or.ensures (whole _ _ _ _ out)

pub returns-clause-no_room : goal.returns-clause-no_room
returns-clause-no_room c =
    let out = c.hand_out_lines.ensures in
    rw c.unwrap_or.ensures (no_room _ _ _ _ out (text_length [] c.args.id c.args.octets.now))
