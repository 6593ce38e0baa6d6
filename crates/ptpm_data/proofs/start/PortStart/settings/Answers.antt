use Rattle.std.proofs.Common.{◌∙◌, ap, refl, rules}
use Rattle.std.specs.Prelude.{FitsSigned}
use Rattle.std.specs.Int.{w8}
use Rattle.std.proofs.lemmas.Int.{to_z-of_z}
use Rattle.ptpm_data.specs.DataField.{i8_octet}
use Rattle.ptpm_data.specs.PortSetting.{said_by}
use Rattle.ptpm_data.proofs.SettingLemmas.{octet_first, octet_last, start_said}
use Rattle.ptpm_data.proofs.start.PortStart.settings.Goals as goal

pub returns : goal.returns
returns c =
    let announce : FitsSigned w8 c.args.self.now.log_announce = search rules in
    let sync : FitsSigned w8 c.args.self.now.log_sync = search rules in
    let pdelay : FitsSigned w8 c.args.self.now.log_min_pdelay = search rules in
    c.of.ensures
    ∙ ap said_by (octet_first (c.i8_octet.ensures ∙ ap i8_octet (to_z-of_z w8 c.args.self.now.log_announce announce)) (octet_first {a = c.args.self.now.receipt_timeout} refl
    (octet_first (c.i8_octet-2.ensures ∙ ap i8_octet (to_z-of_z w8 c.args.self.now.log_sync sync)) (octet_first {a = c.args.self.now.delay_mechanism} refl
    (octet_last (c.i8_octet-3.ensures ∙ ap i8_octet (to_z-of_z w8 c.args.self.now.log_min_pdelay pdelay)))))))
    ∙ start_said c.args.self.now announce sync pdelay
