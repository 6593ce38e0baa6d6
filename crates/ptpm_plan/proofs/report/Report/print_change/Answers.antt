use Rattle.std.proofs.Common.{rules, ◌∙◌, append_assoc}
use Rattle.ptpm_plan.proofs.Printing.{row_written}
use Rattle.ptpm_plan.proofs.report.Report.print_change.Goals as goal

pub returns : goal.returns
returns g c =
    row_written c.args.number c.args.change.now c.as_str-3.result.now c.first_line-name.result.now c.as_str-4.result.now
    c.first_line-values.result.now _ _ _ (c.as_str-3.ensures.value ∙ c.in_ok-head.ensures)
    (c.as_str-4.ensures.value ∙ c.in_ok-member.ensures) c.first_line-name.ensures c.first_line-values.ensures
    (search (rules, append_assoc)) c.in_ok-writeln.ensures.bytes
