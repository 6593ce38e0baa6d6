use Rattle.std.proofs.Common.{◌≡◌, drop}
use Rattle.std.specs.List.{filter_map}
use Rattle.toml.specs.View.{table_view}
use Rattle.ptpm_plan.specs.FileText.{wish_in, wishes_in}
use Rattle.ptpm_plan.proofs.Gathering.{before_all}
use Rattle.ptpm_plan.proofs.wishes_table.read_named.Given as goal

-- what is gathered, and what is ahead, is all
abbrev pub invariant-loop-id : goal.invariant-loop-id
invariant-loop-id l =
    before_all l.wishes.items (filter_map (wish_in (table_view l.table)) (drop l.id-index l.id-items)) ≡ wishes_in (table_view l.table)
