use Rattle.std.proofs.Common.{◌∙◌, ap}
use Rattle.ptpm_data.specs.PortSetting.{said_by}
use Rattle.ptpm_data.proofs.SettingLemmas.{default_back, octet_first, octet_last}
use Rattle.ptpm_data.proofs.port_settings.PortSettings.default.Goals as goal

pub returns : goal.returns
returns c =
    c.of.ensures
    ∙ ap said_by (octet_first c.default_octet.ensures (octet_first c.default_octet-2.ensures (octet_first c.default_octet-3.ensures
    (octet_first c.default_octet-4.ensures (octet_last c.default_octet-5.ensures)))))
    ∙ default_back
