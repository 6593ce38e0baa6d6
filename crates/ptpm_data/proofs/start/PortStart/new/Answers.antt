use Rattle.std.proofs.Common.{◌∙◌, ap, rules}
use Rattle.std.specs.Prelude.{FitsSigned}
use Rattle.std.specs.Int.{w8, w64}
use Rattle.std.proofs.lemmas.Int.{to_z-of_z}
use Rattle.ptpm_data.specs.declared.data_sets.PortDataSet.{PortDataSet}
use Rattle.ptpm_data.specs.declared.start.PortStart.{PortStart}
use Rattle.ptpm_data.specs.PortSetting.{octet_of, said_by, said_of, settings_octets}
use Rattle.ptpm_data.specs.PortState.{state_number}
use Rattle.ptpm_data.specs.Start.{port_start_with}
use Rattle.ptpm_data.proofs.start.PortStart.new.Goals as goal

pub returns : goal.returns
unfolding octet_of said_of
returns c =
    let start : PortDataSet → PortStart =
    λ set. port_start_with (state_number set.state) set.log_min_delay_req set.peer_delay (said_by (settings_octets set.settings)) in
    let set : PortDataSet = c.default-set.result in
    let delay_req : FitsSigned w8 c.default-set.result.log_min_delay_req = search rules in
    let delay : FitsSigned w64 c.default-set.result.peer_delay = search rules in
    let same_req = to_z-of_z w8 c.default-set.result.log_min_delay_req delay_req in
    let same_delay = to_z-of_z w64 c.default-set.result.peer_delay delay in
    c.with.ensures
    ∙ (λ i. port_start_with (c.number.ensures i) (same_req i) (same_delay i) (said_by (c.octets.ensures i)))
    ∙ ap start c.default-set.ensures
