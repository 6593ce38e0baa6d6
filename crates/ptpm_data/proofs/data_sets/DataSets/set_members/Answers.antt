use Rattle.std.proofs.Common.{◌≡◌, ◌∙◌, subst, sym, true}
use Rattle.ptpm_data.specs.declared.management_id.Layout.{Layout}
use Rattle.ptpm_data.specs.ManagementId.{set_of}
use Rattle.ptpm_data.specs.Refusals.{is_set_value}
use Rattle.ptpm_data.proofs.SettingLemmas.{set_in_range}
use Rattle.ptpm_data.proofs.data_sets.DataSets.set_members.Goals as goal

pub change_ports-requires-clause-range : goal.change_ports-requires-clause-range
unfolding set_of
change_ports-requires-clause-range c =
    let P : Layout → Type 0 = λ layout. is_set_value (set_of layout) c.args.octets.now ≡ true in
    sym (set_in_range c.in-Setting.setting c.args.octets.now) ∙ subst P c.in-Setting.is c.requires.value
