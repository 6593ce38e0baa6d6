use Rattle.std.proofs.Common.{◌∙◌}
use Rattle.ptpm_table.proofs.LendingLaws.{error_named}
use Rattle.ptpm_table.proofs.lending.error_of_number.Goals as goal

pub returns : goal.returns
returns c = c.unwrap_or.ensures ∙ error_named c.args.number c.from_number.result c.from_number.ensures.named c.from_number.ensures.found
