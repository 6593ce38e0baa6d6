use Rattle.std.proofs.Common.{ap, ◌∙◌, rules}
use Rattle.ptpm_table.specs.Managers.{Clock, clock_with}
use Rattle.ptpm_commands.specs.FreshClock.{managers}
use Rattle.ptpm_commands.proofs.clock.admit_manager.Goals as goal

pub admit-requires : goal.admit-requires
admit-requires c = (search rules, (ap (λ (k : Clock). k.managers) c.requires.table.owner_is, (search rules, (search rules, search rules))))

pub returns-clause-table : goal.returns-clause-table
returns-clause-table c =
    let identity = ap (λ (k : Clock). k.identity) c.requires.table.owner_is in
    record {
      owner_is = c.admit.ensures.table.owner_is ∙ (λ i. clock_with (identity i) managers);
      nothing_kept = c.admit.ensures.table.nothing_kept;
    }
