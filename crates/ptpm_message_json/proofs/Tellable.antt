-- A dataField of the right length has the octets of each ClockQuality.
use Rattle.std.proofs.Common.{arith, refl, ◌≡◌, ◌≤◌, ◌+◌, ◌==◌, ℕ, Bool, true, false, List, [], ◌∷◌, length, Option, Some, None}
use Rattle.std.specs.Prelude.{if◌then◌else◌, nat_le}
use Rattle.std.specs.List.{All, AllByRecursion, list_all}
use Rattle.std.proofs.lemmas.Bool.{and_parts, eqb-true, leb-true}
use Rattle.std.proofs.lemmas.List.Elements.{All-from_recursion, All-same}
use Rattle.ptpm_data.specs.declared.management_id.Layout.{Layout}
use Rattle.ptpm_data.specs.declared.management_id.Layout.TheVariants as layouts
use Rattle.ptpm_data.specs.ManagementId.{RowValue, row_of}
use Rattle.ptpm_data.specs.declared.port_setting.PortSetting.TheVariants as settings
use Rattle.ptpm_members.specs.declared.forms.Field.{Field}
use Rattle.ptpm_members.specs.declared.other_ids.OtherId.{OtherId}
use Rattle.ptpm_members.specs.declared.other_ids.OtherId.TheVariants as ids
use Rattle.ptpm_members.specs.FieldText.{IsPlaced, members_by, members_in}
use Rattle.ptpm_members.specs.OtherIds.{fields_of_other, is_whole_other, other_fields, other_of}
use Rattle.ptpm_members.specs.Tables.{field_size, fields_of, is_whole}
use Rattle.ptpm_message_json.specs.DataField.{HasQuality, IsTellable}
use Rattle.ptpm_message_json.specs.Names.{quality_name}

abbrev HasItsQuality : List ℕ → Field → Type 0
HasItsQuality octets f = HasQuality (quality_name f.0) f.1 octets

-- whether a ClockQuality at a place ends within this many octets
abbrev quality_fits : Option (List ℕ) → ℕ → ℕ → Bool
quality_fits None at size = true
quality_fits (Some name) at size = nat_le (at + 4) size

quality_there : (name : Option (List ℕ)) (at size : ℕ) (octets : List ℕ) → length octets ≡ size → quality_fits name at size ≡ true
    → HasQuality name at octets
quality_there None at size octets long fits = tt
quality_there (Some name) at size octets long fits =
    let end : at + 4 ≤ size = leb-true (at + 4) size fits in
    omega arith

abbrev field_fits : ℕ → Field → Bool
field_fits size f = quality_fits (quality_name f.0) f.1 size

all_there : (size : ℕ) (octets : List ℕ) (fs : List Field) → length octets ≡ size → list_all (field_fits size) fs ≡ true
    → AllByRecursion (HasItsQuality octets) fs
all_there size octets [] long fit = tt
all_there size octets (f ∷ fs) long fit =
    let p = and_parts (field_fits size f) _ fit in
    (quality_there (quality_name f.0) f.1 size octets long p.0, all_there size octets fs long p.1)

by_size : (layout : Layout) (octets : List ℕ) → (length octets == field_size layout) ≡ true
    → list_all (field_fits (field_size layout)) (fields_of layout) ≡ true
    → AllByRecursion (HasItsQuality octets) (fields_of layout)
by_size layout octets whole fit = all_there (field_size layout) octets (fields_of layout) (eqb-true _ _ whole) fit

without : (layout : Layout) (octets : List ℕ) → list_all (field_fits (length octets)) (fields_of layout) ≡ true
    → AllByRecursion (HasItsQuality octets) (fields_of layout)
without layout octets fit = all_there (length octets) octets (fields_of layout) refl fit

-- two layouts have a ClockQuality
by_layout : (layout : Layout) (octets : List ℕ) → is_whole layout octets ≡ true → AllByRecursion (HasItsQuality octets) (fields_of layout)
unfolding is_whole
by_layout layouts.DefaultDataSet octets whole = by_size layouts.DefaultDataSet octets whole refl
by_layout layouts.ParentDataSet octets whole = by_size layouts.ParentDataSet octets whole refl
by_layout layouts.UserDescription octets whole = without layouts.UserDescription octets refl
by_layout layouts.CurrentDataSet octets whole = without layouts.CurrentDataSet octets refl
by_layout layouts.TimePropertiesDataSet octets whole = without layouts.TimePropertiesDataSet octets refl
by_layout layouts.PortDataSet octets whole = without layouts.PortDataSet octets refl
by_layout layouts.Priority1 octets whole = without layouts.Priority1 octets refl
by_layout layouts.Priority2 octets whole = without layouts.Priority2 octets refl
by_layout layouts.Domain octets whole = without layouts.Domain octets refl
by_layout layouts.SlaveOnly octets whole = without layouts.SlaveOnly octets refl
by_layout (layouts.Setting settings.LogAnnounceInterval) octets whole = without (layouts.Setting settings.LogAnnounceInterval) octets refl
by_layout (layouts.Setting s) octets whole = without (layouts.Setting s) octets refl
by_layout layouts.VersionNumber octets whole = without layouts.VersionNumber octets refl
by_layout layouts.ClockAccuracy octets whole = without layouts.ClockAccuracy octets refl
by_layout layouts.UtcProperties octets whole = without layouts.UtcProperties octets refl
by_layout layouts.NullPtpManagement octets whole = tt
by_layout layouts.EnablePort octets whole = tt
by_layout layouts.DisablePort octets whole = tt

-- ---- an id's dataField

if_whole : (whole : Bool) (octets : List ℕ) (fs : List Field) → (whole ≡ true → AllByRecursion (HasItsQuality octets) fs)
    → AllByRecursion (HasItsQuality octets) (if whole then fs else [])
if_whole true octets fs there = there refl
if_whole false octets fs there = tt

-- one id that is only read has a ClockQuality
by_other : (id : OtherId) (octets : List ℕ) → is_whole_other id octets ≡ true → AllByRecursion (HasItsQuality octets) (other_fields id)
unfolding is_whole_other
by_other ids.GrandmasterSettings octets whole = all_there 8 octets (other_fields ids.GrandmasterSettings) (eqb-true _ _ whole) refl
by_other ids.ClockDescription octets whole = all_there (length octets) octets (other_fields ids.ClockDescription) refl refl
by_other ids.Time octets whole = all_there (length octets) octets (other_fields ids.Time) refl refl
by_other ids.TraceabilityProperties octets whole = all_there (length octets) octets (other_fields ids.TraceabilityProperties) refl refl
by_other ids.TimescaleProperties octets whole = all_there (length octets) octets (other_fields ids.TimescaleProperties) refl refl
by_other ids.PathTraceList octets whole = all_there (length octets) octets (other_fields ids.PathTraceList) refl refl
by_other ids.TimeStatus octets whole = all_there (length octets) octets (other_fields ids.TimeStatus) refl refl
by_other ids.PortDataSet octets whole = all_there (length octets) octets (other_fields ids.PortDataSet) refl refl
by_other ids.PortProperties octets whole = all_there (length octets) octets (other_fields ids.PortProperties) refl refl
by_other ids.PortStatistics octets whole = all_there (length octets) octets (other_fields ids.PortStatistics) refl refl

if_known : (other : Option OtherId) (octets : List ℕ) → AllByRecursion (HasItsQuality octets) (fields_of_other other octets)
if_known None octets = tt
if_known (Some id) octets = if_whole (is_whole_other id octets) octets (other_fields id) (by_other id octets)

by_row : (row : Option RowValue) (other : Option OtherId) (octets : List ℕ)
    → AllByRecursion (HasItsQuality octets) (members_by row other octets)
by_row None other octets = if_known other octets
by_row (Some row) other octets = if_whole (is_whole row.layout octets) octets (fields_of row.layout) (by_layout row.layout octets)

with_quality : (id : ℕ) (octets : List ℕ) → All (HasItsQuality octets) (members_in id octets)
unfolding members_in
with_quality id octets = All-from_recursion (HasItsQuality octets) _ (by_row (row_of id) (other_of id) octets)

pub all_tellable : (id : ℕ) (octets : List ℕ) (fs : List Field) → fs ≡ members_in id octets → All (IsPlaced octets) fs
    → All (IsTellable octets) fs
all_tellable id octets fs is placed = λ k d h. record {
  placed = placed k d h;
  quality = All-same (HasItsQuality octets) _ _ is (with_quality id octets) k d h;
}
