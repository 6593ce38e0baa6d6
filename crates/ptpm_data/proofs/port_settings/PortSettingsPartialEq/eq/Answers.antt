use Rattle.ptpm_data.proofs.SettingLemmas.{octets_read}
use Rattle.ptpm_data.proofs.port_settings.PortSettingsPartialEq.eq.Goals as goal

pub returns : goal.returns
returns c =
    let own = octets_read c.t1-1.inside c.args.self.now c.t1-1.invariant c.t1-1.view_is in
    let others = octets_read c.t2-1.inside c.args.other.now c.t2-1.invariant c.t2-1.view_is in
    rw (own, others) at c.eq.ensures
