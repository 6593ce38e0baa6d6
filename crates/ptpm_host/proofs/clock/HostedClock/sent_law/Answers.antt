use Rattle.std.proofs.Common.{subst}
use Rattle.std.specs.FinMap.{entries}
use Rattle.ptpm_data.specs.Members.{DataSetsValue}
use Rattle.ptpm_data.specs.RequestLaws.{IsSized}
use Rattle.ptpm_table.specs.Entries.{HaveAnswers}
use Rattle.ptpm_table.specs.Tables.{entries_of_block}
use Rattle.ptpm_host.proofs.clock.HostedClock.sent_law.Goals as goal

pub returns-clause-sized : goal.returns-clause-sized
returns-clause-sized c = subst (λ (d : DataSetsValue). IsSized d) c.sets.ensures c.data_sets_law.ensures.sized

pub returns-clause-few : goal.returns-clause-few
returns-clause-few c = subst (λ table. HaveAnswers table.answers (entries (entries_of_block table))) c.table.ensures c.few_answers.ensures
