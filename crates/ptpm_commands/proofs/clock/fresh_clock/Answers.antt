use Rattle.std.proofs.Common.{ap, [], ◌∙◌}
use Rattle.ptpm_data.specs.Members.{DataSetsValue}
use Rattle.ptpm_table.specs.Managers.{clock_with}
use Rattle.ptpm_commands.proofs.clock.fresh_clock.Goals as goal

pub returns-clause-table : goal.returns-clause-table
returns-clause-table c =
    let identity = ap (λ (d : DataSetsValue). d.default.identity) c.first_sets.ensures in
    record {
      owner_is = c.without_managers.ensures.table.owner_is ∙ (λ i. clock_with (identity i) []);
      nothing_kept = c.without_managers.ensures.table.nothing_kept;
    }
