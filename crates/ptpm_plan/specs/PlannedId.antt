-- The ids that a plan may set (IEEE 1588-2019, 15.5.2.3; which of them is this project's profile). What else is known of one is
-- said by the table of ids.
use Rattle.std.specs.Prelude.{ℕ, Option, Some, None, option_and_then}
use Rattle.ptpm_data.specs.ManagementId.{row_of}
use Rattle.ptpm_data.specs.declared.management_id.Layout.{Layout}
use Rattle.ptpm_data.specs.declared.management_id.Layout.TheVariants.{Setting}
use Rattle.ptpm_data.specs.declared.port_setting.PortSetting.{PortSetting}
use Rattle.ptpm_plan.specs.declared.change.Concern.{Concern}
use Rattle.ptpm_plan.specs.declared.change.Concern.TheVariants as concerns
use Rattle.ptpm_plan.specs.declared.change.Entry.{Entry}
use Rattle.ptpm_plan.specs.declared.change.PlannedId.{PlannedId}
use Rattle.ptpm_plan.specs.declared.change.PlannedId.TheVariants as ids

-- managementId, and what a change of it is to the order
abbrev pub entry_of : PlannedId → Entry
entry_of ids.UserDescription = record { number = 0x0002; concern = concerns.Free }
entry_of ids.UtcProperties = record { number = 0x2011; concern = concerns.Free }
entry_of ids.Priority1 = record { number = 0x2005; concern = concerns.Rank }
entry_of ids.Priority2 = record { number = 0x2006; concern = concerns.Rank }
entry_of ids.ClockAccuracy = record { number = 0x2010; concern = concerns.Rank }
entry_of ids.Domain = record { number = 0x2007; concern = concerns.Domain }
entry_of ids.AnnounceReceiptTimeout = record { number = 0x200a; concern = concerns.Patience }
entry_of ids.LogAnnounceInterval = record { number = 0x2009; concern = concerns.Interval }
entry_of ids.LogSyncInterval = record { number = 0x200b; concern = concerns.Interval }
entry_of ids.DelayMechanism = record { number = 0x6000; concern = concerns.Free }
entry_of ids.LogMinPdelayReqInterval = record { number = 0x6001; concern = concerns.Free }

abbrev pub number_of : PlannedId → ℕ
number_of id = (entry_of id).number

abbrev pub concern_of : PlannedId → Concern
concern_of id = (entry_of id).concern

-- the setting of a port that an id's dataField has
abbrev pub setting_in : Layout → Option PortSetting
setting_in (Setting setting) = Some setting
setting_in _ = None

-- the setting of a port that an id is, by the table of ids
abbrev pub setting_of : PlannedId → Option PortSetting
setting_of id = option_and_then (λ row. setting_in row.layout) (row_of (number_of id))
