-- What one change does to the data set of a port.
use Rattle.std.specs.Prelude.{Bool, true}
use Rattle.ptpm_data.specs.declared.data_sets.PortDataSet.{PortDataSet}
use Rattle.ptpm_data.specs.declared.port_state.PortState.{PortState}
use Rattle.ptpm_data.specs.declared.port_state.PortState.TheVariants as states
use Rattle.ptpm_data.specs.declared.port_change.PortChange.{PortChange}
use Rattle.ptpm_data.specs.declared.port_change.PortChange.TheVariants as changes
use Rattle.ptpm_data.specs.PortSetting.{said_of, with_setting}
use Rattle.ptpm_data.specs.Ranges.{is_in_range}

-- ENABLE_PORT moves only a port in DISABLED (this project's profile)
abbrev pub enabled : PortState → PortState
enabled states.Disabled = states.Listening
enabled s = s

abbrev pub port_after : PortChange → PortDataSet → PortDataSet
port_after (changes.Setting s octet) p = record p { settings = with_setting s (said_of s octet) p.settings }
port_after changes.Enable p = record p { state = enabled p.state }
port_after changes.Disable p = record p { state = states.Disabled }

-- whether the new value is in its member's range
abbrev pub is_change_in_range : PortChange → Bool
is_change_in_range (changes.Setting s octet) = is_in_range s (said_of s octet)
is_change_in_range changes.Enable = true
is_change_in_range changes.Disable = true
