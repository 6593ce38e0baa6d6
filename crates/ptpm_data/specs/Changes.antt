-- The data sets after a request (IEEE 1588-2019, clause 15).
use Rattle.std.specs.Prelude.{◌≡◌, ℕ, ◌≤◌, Bool, true, false, ◌||◌, ◌==◌, if◌then◌else◌, List, length, map, Option, Some, None, ◌⊎◌}
use Rattle.std.specs.List.{enumerate_from}
use Rattle.ptpm_codec.specs.declared.message.Action.{Action}
use Rattle.ptpm_codec.specs.declared.message.Action.TheVariants as actions
use Rattle.ptpm_codec.specs.declared.error.ErrorId.{ErrorId}
use Rattle.ptpm_codec.specs.PtpText.{ptp_text}
use Rattle.ptpm_data.specs.declared.rights.Rights.{Rights}
use Rattle.ptpm_data.specs.declared.management_id.Layout.{Layout}
use Rattle.ptpm_data.specs.declared.management_id.Layout.TheVariants as layouts
use Rattle.ptpm_data.specs.declared.data_sets.ParentDataSet.{ParentDataSet}
use Rattle.ptpm_data.specs.declared.data_sets.TimePropertiesDataSet.{TimePropertiesDataSet}
use Rattle.ptpm_data.specs.declared.data_sets.PortDataSet.{PortDataSet}
use Rattle.ptpm_data.specs.declared.port_change.PortChange.{PortChange}
use Rattle.ptpm_data.specs.declared.port_change.PortChange.TheVariants as changes
use Rattle.ptpm_data.specs.declared.precedence_change.PrecedenceChange.{PrecedenceChange}
use Rattle.ptpm_data.specs.declared.precedence_change.PrecedenceChange.TheVariants.{Priority1, Priority2, ClockAccuracy}
use Rattle.ptpm_data.specs.ManagementId.{RowValue, row_of}
use Rattle.ptpm_data.specs.Request.{RequestValue}
use Rattle.ptpm_data.specs.Members.{DataSetsValue, is_own_grandmaster}
use Rattle.ptpm_data.specs.PortChange.{port_after}
use Rattle.ptpm_data.specs.PrecedenceChange.{precedence_after}
use Rattle.ptpm_data.specs.SetField.{octet, first_i16, has_bit}
use Rattle.ptpm_data.specs.Refusals.{row_refusal}

-- ---- ports

-- whether a target port means port n; 0xFFFF means every port (15.3.1)
abbrev pub is_named : ℕ → ℕ → Bool
is_named port n = (port == 0xffff) || (port == n)

-- a target port that a request may have: every port, or one of N
abbrev pub IsTargetOf : ℕ → ℕ → Type 0
IsTargetOf port number_of_ports = (port ≡ 0xffff) ⊎ ((1 ≤ port) × (port ≤ number_of_ports))

abbrev pub IsTargetPort : ℕ → DataSetsValue → Type 0
IsTargetPort port d = IsTargetOf port (length d.ports)

abbrev pub changed_if : Bool → (PortDataSet → PortDataSet) → PortDataSet → PortDataSet
changed_if b change p = if b then change p else p

-- the change at each named port; port 1 comes first
unfoldable pub named_changed : ℕ → (PortDataSet → PortDataSet) → List PortDataSet → List PortDataSet
named_changed port change ports = map (λ e. changed_if (is_named port e.0) change e.1) (enumerate_from 1 ports)

abbrev pub with_ports : ℕ → DataSetsValue → PortChange → DataSetsValue
with_ports port d change = record d { ports = named_changed port (port_after change) d.ports }

-- ---- the clock

-- the precedence of the grandmaster changes with the clock's own if the clock is its own grandmaster (9.3.5, table 30)
abbrev pub grandmaster_changed : Bool → PrecedenceChange → ParentDataSet → ParentDataSet
grandmaster_changed false change p = p
grandmaster_changed true change p = record p { precedence = precedence_after change p.precedence }

abbrev pub with_precedence : DataSetsValue → PrecedenceChange → DataSetsValue
with_precedence d change = record d {
  default = record d.default { precedence = precedence_after change d.default.precedence };
  parent = grandmaster_changed (is_own_grandmaster d) change d.parent;
}

abbrev pub with_utc_properties : TimePropertiesDataSet → List ℕ → TimePropertiesDataSet
with_utc_properties t octets = record t {
  utc_offset = first_i16 octets;
  leap61 = has_bit 0 (octet 2 octets);
  leap59 = has_bit 1 (octet 2 octets);
  utc_valid = has_bit 2 (octet 2 octets);
}

-- ---- what an accepted request changes

-- SET (15.5.3): the members of the id, for an id of the ports at each named port, are what the dataField says.
-- NULL_PTP_MANAGEMENT has none.
unfoldable pub set_members : Layout → ℕ → List ℕ → DataSetsValue → DataSetsValue
set_members layouts.UserDescription port octets d = record d { description = ptp_text octets }
set_members layouts.Priority1 port octets d = with_precedence d (Priority1 (octet 0 octets))
set_members layouts.Priority2 port octets d = with_precedence d (Priority2 (octet 0 octets))
set_members layouts.ClockAccuracy port octets d = with_precedence d (ClockAccuracy (octet 0 octets))
set_members layouts.Domain port octets d = record d { default = record d.default { domain = octet 0 octets } }
set_members layouts.UtcProperties port octets d = record d { time = with_utc_properties d.time octets }
set_members (layouts.Setting s) port octets d = with_ports port d (changes.Setting s (octet 0 octets))
set_members _ port octets d = d

-- COMMAND: ENABLE_PORT and DISABLE_PORT (15.5.3.7.6 and 7); NULL_PTP_MANAGEMENT changes nothing
unfoldable pub commanded : Layout → ℕ → DataSetsValue → DataSetsValue
commanded layouts.EnablePort port d = with_ports port d changes.Enable
commanded layouts.DisablePort port d = with_ports port d changes.Disable
commanded _ port d = d

abbrev pub applied : Layout → RequestValue → Action → DataSetsValue → DataSetsValue
applied layout q actions.Set d = set_members layout q.port q.octets d
applied layout q actions.Command d = commanded layout q.port d
applied layout q _ d = d

abbrev pub unless_refused : Option ErrorId → DataSetsValue → DataSetsValue → DataSetsValue
unless_refused None changed d = changed
unless_refused (Some error) changed d = d

abbrev pub changed_at : Option RowValue → RequestValue → Rights → DataSetsValue → DataSetsValue
changed_at None q rights d = d
changed_at (Some e) q rights d = unless_refused (row_refusal e q rights) (applied e.layout q q.action d) d

-- the data sets after a request of a manager with these rights; a refused one changes nothing
unfoldable pub changed_by : RequestValue → Rights → DataSetsValue → DataSetsValue
changed_by q rights d = changed_at (row_of q.id) q rights d
