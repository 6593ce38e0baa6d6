use Rattle.std.proofs.Common.{◌∙◌, refl}
use Rattle.ptpm_data.proofs.Differing.{numbers_of}
use Rattle.ptpm_data.proofs.ForeseenMembers.{domain_told, of_clock_told}
use Rattle.ptpm_data.proofs.data_sets.DataSets.changes_of_domain.Goals as goal

pub returns : goal.returns
returns c =
    let d = c.args.self.now in
    c.of_clock.ensures
    ∙ of_clock_told d (record d { default = record d.default { domain = c.args.domain } }) c.if_differ.result refl
    (domain_told d c.args.domain c.differ-differ.result c.if_differ.result
    (numbers_of _ _ _ _ _ c.domain.ensures refl c.differ-differ.ensures) c.if_differ.ensures)
