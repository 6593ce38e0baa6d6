use Rattle.std.proofs.Common.{◌∙◌, refl}
use Rattle.ptpm_data.specs.Changes.{with_precedence}
use Rattle.ptpm_data.proofs.ForeseenMembers.{of_clock_told}
use Rattle.ptpm_data.proofs.data_sets.DataSets.changes_of_precedence.Goals as goal

pub returns : goal.returns
returns c =
    c.of_clock.ensures
    ∙ of_clock_told c.args.self.now (with_precedence c.args.self.now c.args.change) c.precedence_members.result refl c.precedence_members.ensures
