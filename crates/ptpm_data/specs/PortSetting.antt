-- The settings of a port: its members that a SET changes. Each has an octet of PORT_DATA_SET, the first octet 20 (IEEE 1588-2019,
-- 15.5.3.7.1), and a management id (15.5.2.3, table 59). Their own names, their ranges and what a port starts with are this
-- project's profile.
use Rattle.std.specs.Prelude.{◌≡◌, refl, ℕ, ◌==◌, ℤ, pos, if◌then◌else◌, List, [], ◌∷◌, map, slice_index, codes}
use Prim.Native.String.{String}
use Rattle.std.specs.Coded.{Coded, code_by, coded×, coded_ℤ}
use Rattle.std.specs.Int.{w8, cast_signed, cast_unsigned}
use Rattle.ptpm_data.specs.declared.port_setting.PortSetting.{PortSetting}
use Rattle.ptpm_data.specs.declared.port_setting.PortSetting.TheVariants.{LogAnnounceInterval, AnnounceReceiptTimeout, LogSyncInterval, DelayMechanism, LogMinPdelayReqInterval}
use Rattle.ptpm_data.specs.declared.port_setting.SettingRow.{SettingRow}
use Rattle.ptpm_data.specs.SetForm.{SetField, from◌to◌, minus◌to◌, MechanismNumber, set_field}

-- ---- what each is known by

-- Its managementId and the id's name, and its own names, in the standard and in a network file. What a SET and a start may give
-- it, and the value that a port starts with.
pub record Setting : Type 0 where
  pub id : ℕ
  pub id_name : List ℕ
  pub standard_name : List ℕ
  pub name : List ℕ
  pub range : SetField
  pub default : ℤ

abbrev pub setting : ℕ → String → String → String → SetField → ℤ → Setting
setting id id_name standard_name name range default = record {
  id = id;
  id_name = codes id_name;
  standard_name = codes standard_name;
  name = codes name;
  range = range;
  default = default;
}

abbrev pub row : PortSetting → Setting
row LogAnnounceInterval = setting 0x2009 "LOG_ANNOUNCE_INTERVAL" "logAnnounceInterval" "log_announce" (minus 4 to 4) (pos 1)
row AnnounceReceiptTimeout = setting 0x200a "ANNOUNCE_RECEIPT_TIMEOUT" "announceReceiptTimeout" "receipt_timeout" (from 2 to 10) (pos 3)
row LogSyncInterval = setting 0x200b "LOG_SYNC_INTERVAL" "logSyncInterval" "log_sync" (minus 8 to 1) (pos 0)
row DelayMechanism = setting 0x6000 "DELAY_MECHANISM" "delayMechanism" "delay_mechanism" MechanismNumber (pos 1)
row LogMinPdelayReqInterval = setting 0x6001 "LOG_MIN_PDELAY_REQ_INTERVAL" "logMinPdelayReqInterval" "log_min_pdelay" (minus 8 to 5) (pos 0)

-- a row of the program, as a value
abbrev pub setting_row : SettingRow → Setting
setting_row r = record {
  id = r.id;
  id_name = r.id_name.now;
  standard_name = r.standard_name.now;
  name = r.name.now;
  range = set_field r.range;
  default = r.default;
}

-- in the order of their octets
abbrev pub port_settings : List PortSetting
port_settings =
    LogAnnounceInterval ∷ AnnounceReceiptTimeout ∷ LogSyncInterval ∷ DelayMechanism ∷ LogMinPdelayReqInterval ∷ []

-- the place of each among them
abbrev pub place : PortSetting → ℕ
place LogAnnounceInterval = 0
place AnnounceReceiptTimeout = 1
place LogSyncInterval = 2
place DelayMechanism = 3
place LogMinPdelayReqInterval = 4

-- ---- octets and values

-- what an octet says: an Integer8, in two's complement (5.2), or the octet itself
abbrev pub said_in : SetField → ℕ → ℤ
said_in (minus low to high) octet = cast_signed w8 octet
said_in _ octet = pos octet

unfoldable pub said_of : PortSetting → ℕ → ℤ
said_of s octet = said_in (row s).range octet

-- the octet that says a value
unfoldable pub octet_of : ℤ → ℕ
octet_of z = cast_unsigned w8 z

-- what five octets say of each
abbrev pub said_by : List ℕ → PortSetting → ℤ
said_by octets s = said_of s (slice_index octets (place s))

-- the octets of all
abbrev pub settings_octets : (PortSetting → ℤ) → List ℕ
settings_octets values = map (λ s. octet_of (values s)) port_settings

-- ---- a change: one has another value, the others stay

abbrev pub with_setting : PortSetting → ℤ → (PortSetting → ℤ) → PortSetting → ℤ
with_setting s value values t = if place s == place t then value else values t

-- ---- those of a port that starts with this profile's defaults

abbrev pub default_settings : PortSetting → ℤ
default_settings s = (row s).default

-- ---- the values of all are five numbers, so that a proof can distinguish them

abbrev pub Five : Type 0
Five = ℤ × (ℤ × (ℤ × (ℤ × ℤ)))

abbrev pub five_of : (PortSetting → ℤ) → Five
five_of values = (
  values LogAnnounceInterval,
  (values AnnounceReceiptTimeout, (values LogSyncInterval, (values DelayMechanism, values LogMinPdelayReqInterval))),
)

abbrev pub of_five : Five → PortSetting → ℤ
of_five five LogAnnounceInterval = five.0
of_five five AnnounceReceiptTimeout = five.1.0
of_five five LogSyncInterval = five.1.1.0
of_five five DelayMechanism = five.1.1.1.0
of_five five LogMinPdelayReqInterval = five.1.1.1.1

at_each : (values : PortSetting → ℤ) (s : PortSetting) → of_five (five_of values) s ≡ values s
at_each values LogAnnounceInterval = refl
at_each values _ = refl

pub five_back : (values : PortSetting → ℤ) → of_five (five_of values) ≡ values
five_back values = λ i s. at_each values s i

abbrev pub settings_code : Coded (PortSetting → ℤ)
settings_code = code_by Five (coded× coded_ℤ (coded× coded_ℤ (coded× coded_ℤ (coded× coded_ℤ coded_ℤ)))) five_of of_five five_back
