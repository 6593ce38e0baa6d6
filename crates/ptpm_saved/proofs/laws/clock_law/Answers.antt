use Rattle.std.proofs.Common.{subst}
use Rattle.std.specs.FinMap.{entries}
use Rattle.ptpm_data.specs.declared.ports.TheConstants.{PORTS}
use Rattle.ptpm_data.specs.Image.{DataSetsFit}
use Rattle.ptpm_data.specs.Members.{IsConsistent}
use Rattle.ptpm_saved.specs.Image.{AreEntries, answers_kept}
use Rattle.ptpm_saved.proofs.RestoringLemmas.{entries_with}
use Rattle.ptpm_saved.proofs.laws.clock_law.Goals as goal

pub returns-clause-saved : goal.returns-clause-saved
returns-clause-saved g c = λ few.
    let table = entries (g.T.ReplyTable.entries c.args.agent.now.table) in
    let kept = answers_kept c.args.agent.now.sets in
    record {
      consistent = subst IsConsistent c.sets-sets.ensures c.data_sets_law.ensures.consistent;
      fits = subst DataSetsFit c.sets-sets.ensures c.fits_law.ensures;
      entries = entries_with PORTS kept table (subst (λ t. AreEntries PORTS (entries (g.T.ReplyTable.entries t))) c.table.ensures c.entries_law.ensures.entries) few;
    }
