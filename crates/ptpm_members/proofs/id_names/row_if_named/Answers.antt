use Rattle.std.proofs.Common.{ap, sym, ◌∙◌, option_map}
use Rattle.ptpm_data.specs.ManagementId.{row_value}
use Rattle.ptpm_members.proofs.IdNames.{is_named, is_not_named, is_no_row}
use Rattle.ptpm_members.proofs.id_names.row_if_named.Goals as goal
use Rattle.ptpm_members.proofs.id_names.row_if_named.Goals.{in_default-via-in-Some+else-eq_ignore_ascii_case, in_default-via-in_default}

pub returns-in-Some : goal.returns-in-Some
returns-in-Some c =
    let tested = rw c.as_bytes.ensures.value at c.eq_ignore_ascii_case.ensures.test in
    is_named c.args.id (row_value c.in-Some.row) c.args.name.now c.eq_ignore_ascii_case.result
    (sym (ap (option_map row_value) c.in-Some.is) ∙ c.by_id.ensures) tested c.if-eq_ignore_ascii_case.true

pub returns-in_default : goal.returns-in_default
returns-in_default c =
    elim c.in_default.branch [
      | in_default-via-in-Some+else-eq_ignore_ascii_case w ↦
          let tested = rw w.as_bytes.ensures.value at w.eq_ignore_ascii_case.ensures.test in
          is_not_named c.args.id (row_value w.in-Some.row) c.args.name.now w.eq_ignore_ascii_case.result
          (sym (ap (option_map row_value) w.in-Some.is) ∙ c.by_id.ensures) tested w.if-eq_ignore_ascii_case.false
      | in_default-via-in_default w ↦
          is_no_row c.args.id c.args.name.now (sym (ap (option_map row_value) w.in_default.is) ∙ c.by_id.ensures)
    ]
