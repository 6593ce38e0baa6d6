-- The octets of a dataField of the right length have its members at their places.
use Rattle.std.proofs.Common.{arith, ◌≡◌, refl, ℕ, ◌+◌, ◌≤◌, ◌==◌, Bool, true, false, List, [], ◌∷◌, length, drop, length-drop}
use Rattle.std.specs.Prelude.{nat_le, ◌&&◌}
use Rattle.std.specs.List.{All, AllByRecursion, list_all}
use Rattle.std.proofs.lemmas.Bool.{and_parts, eqb-true, leb-true}
use Rattle.std.proofs.lemmas.List.Elements.{All-from_recursion}
use Rattle.ptpm_data.specs.declared.management_id.Layout.{Layout}
use Rattle.ptpm_data.specs.declared.management_id.Layout.TheVariants as layouts
use Rattle.ptpm_data.specs.declared.port_setting.PortSetting.TheVariants as settings
use Rattle.ptpm_members.specs.declared.forms.Field.{Field}
use Rattle.ptpm_members.specs.declared.forms.Form.{Form}
use Rattle.ptpm_members.specs.declared.forms.Form.TheVariants as forms
use Rattle.ptpm_members.specs.declared.other_ids.OtherId.{OtherId}
use Rattle.ptpm_members.specs.declared.other_ids.OtherId.TheVariants as ids
use Rattle.ptpm_members.specs.Description.{is_clock_description}
use Rattle.ptpm_members.specs.FieldText.{IsPlaced}
use Rattle.ptpm_members.specs.OtherIds.{is_whole_other, other_fields, other_size}
use Rattle.ptpm_members.specs.Tables.{field_size, fields_of, form_size, is_whole}
use Rattle.ptpm_members.specs.Values.{HasNumber, HasValue}

-- whether a form's octets from a place on end within this many
abbrev number_fits : ℕ → ℕ → ℕ → Bool
number_fits size at n = nat_le 1 n && (nat_le n 8 && nat_le (at + n) size)

abbrev form_fits : ℕ → ℕ → Form → Bool
form_fits size at (forms.Unsigned n) = number_fits size at n
form_fits size at (forms.Hexadecimal n) = number_fits size at n
form_fits size at (forms.Signed n) = number_fits size at n
form_fits size at (forms.LittleEndian n) = number_fits size at n
form_fits size at forms.Text = false
form_fits size at form = nat_le (at + form_size form) size

number_there : (size at n : ℕ) (octets : List ℕ) → length octets ≡ size → number_fits size at n ≡ true → HasNumber n (drop at octets)
number_there size at n octets long fits =
    let p = and_parts (nat_le 1 n) _ fits in
    let q = and_parts (nat_le n 8) _ p.1 in
    let low : 1 ≤ n = leb-true 1 n p.0 in
    let high : n ≤ 8 = leb-true n 8 q.0 in
    let end : at + n ≤ size = leb-true (at + n) size q.1 in
    record { low = low; high = high; room = omega (arith, length-drop at octets) }

octets_there : (size at n : ℕ) (octets : List ℕ) → length octets ≡ size → nat_le (at + n) size ≡ true → n ≤ length (drop at octets)
octets_there size at n octets long fits =
    let end : at + n ≤ size = leb-true (at + n) size fits in
    omega (arith, length-drop at octets)

value_there : (size at : ℕ) (form : Form) (octets : List ℕ) → length octets ≡ size → form_fits size at form ≡ true → HasValue form (drop at octets)
value_there size at (forms.Unsigned n) octets long fits = number_there size at n octets long fits
value_there size at (forms.Hexadecimal n) octets long fits = number_there size at n octets long fits
value_there size at (forms.Signed n) octets long fits = number_there size at n octets long fits
value_there size at (forms.LittleEndian n) octets long fits = number_there size at n octets long fits
value_there size at (forms.Octets n) octets long fits = octets_there size at n octets long fits
value_there size at forms.Text octets long fits = cc
value_there size at (forms.Flag mask) octets long fits = octets_there size at 1 octets long fits
value_there size at forms.EitherFlag octets long fits = octets_there size at 1 octets long fits
value_there size at forms.LowNibble octets long fits = octets_there size at 1 octets long fits
value_there size at forms.TimeInterval octets long fits = octets_there size at 8 octets long fits
value_there size at forms.ClockIdentity octets long fits = octets_there size at 8 octets long fits
value_there size at forms.PortIdentity octets long fits = octets_there size at 10 octets long fits
value_there size at (forms.Named enumeration) octets long fits = octets_there size at 1 octets long fits
value_there size at forms.ClockIdentities octets long fits = octets_there size at 0 octets long fits
value_there size at (forms.Described part) octets long fits = octets_there size at 0 octets long fits

abbrev field_fits : ℕ → Field → Bool
field_fits size f = nat_le f.1 size && form_fits size f.1 f.2

all_there : (size : ℕ) (octets : List ℕ) (fs : List Field) → length octets ≡ size → list_all (field_fits size) fs ≡ true
    → AllByRecursion (IsPlaced octets) fs
all_there size octets [] long fit = tt
all_there size octets (f ∷ fs) long fit =
    let p = and_parts (field_fits size f) _ fit in
    let q = and_parts (nat_le f.1 size) _ p.0 in
    let begin : f.1 ≤ size = leb-true f.1 size q.0 in
    (record { within = omega arith; value = value_there size f.1 f.2 octets long q.1 }, all_there size octets fs long p.1)

by_size : (layout : Layout) (octets : List ℕ) → (length octets == field_size layout) ≡ true
    → list_all (field_fits (field_size layout)) (fields_of layout) ≡ true
    → AllByRecursion (IsPlaced octets) (fields_of layout)
by_size layout octets whole fit = all_there (field_size layout) octets (fields_of layout) (eqb-true _ _ whole) fit

by_layout : (layout : Layout) (octets : List ℕ) → is_whole layout octets ≡ true → AllByRecursion (IsPlaced octets) (fields_of layout)
unfolding is_whole
by_layout layouts.UserDescription octets whole = (record { within = omega arith; value = whole }, tt)
by_layout layouts.DefaultDataSet octets whole = by_size layouts.DefaultDataSet octets whole refl
by_layout layouts.CurrentDataSet octets whole = by_size layouts.CurrentDataSet octets whole refl
by_layout layouts.ParentDataSet octets whole = by_size layouts.ParentDataSet octets whole refl
by_layout layouts.TimePropertiesDataSet octets whole = by_size layouts.TimePropertiesDataSet octets whole refl
by_layout layouts.PortDataSet octets whole = by_size layouts.PortDataSet octets whole refl
by_layout layouts.Priority1 octets whole = by_size layouts.Priority1 octets whole refl
by_layout layouts.Priority2 octets whole = by_size layouts.Priority2 octets whole refl
by_layout layouts.Domain octets whole = by_size layouts.Domain octets whole refl
by_layout layouts.SlaveOnly octets whole = by_size layouts.SlaveOnly octets whole refl
by_layout (layouts.Setting settings.LogAnnounceInterval) octets whole = by_size (layouts.Setting settings.LogAnnounceInterval) octets whole refl
by_layout (layouts.Setting s) octets whole = by_size (layouts.Setting s) octets whole refl
by_layout layouts.VersionNumber octets whole = by_size layouts.VersionNumber octets whole refl
by_layout layouts.ClockAccuracy octets whole = by_size layouts.ClockAccuracy octets whole refl
by_layout layouts.UtcProperties octets whole = by_size layouts.UtcProperties octets whole refl
by_layout layouts.NullPtpManagement octets whole = tt
by_layout layouts.EnablePort octets whole = tt
by_layout layouts.DisablePort octets whole = tt

pub placed_in : (layout : Layout) (octets : List ℕ) → is_whole layout octets ≡ true → All (IsPlaced octets) (fields_of layout)
placed_in layout octets whole = All-from_recursion (IsPlaced octets) (fields_of layout) (by_layout layout octets whole)

-- ---- an id that is only read

by_other_size : (id : OtherId) (octets : List ℕ) → (length octets == other_size id) ≡ true
    → list_all (field_fits (other_size id)) (other_fields id) ≡ true
    → AllByRecursion (IsPlaced octets) (other_fields id)
by_other_size id octets whole fit = all_there (other_size id) octets (other_fields id) (eqb-true _ _ whole) fit

by_other : (id : OtherId) (octets : List ℕ) → is_whole_other id octets ≡ true → AllByRecursion (IsPlaced octets) (other_fields id)
unfolding is_whole_other is_clock_description
by_other ids.ClockDescription octets whole =
    let p = and_parts (nat_le 2 (length octets)) _ whole in
    let two : 2 ≤ length octets = leb-true 2 (length octets) p.0 in (
      record { within = omega arith; value = record { low = omega arith; high = omega arith; room = two } },
      (record { within = omega arith; value = omega arith }, (record { within = omega arith; value = omega arith }, (record { within = omega arith; value = omega arith }, (record { within = omega arith; value = omega arith }, (record { within = omega arith; value = omega arith }, (record { within = omega arith; value = omega arith }, (record { within = omega arith; value = omega arith }, (record { within = omega arith; value = omega arith }, (record { within = omega arith; value = omega arith }, tt))))))))),
    )
by_other ids.Time octets whole = by_other_size ids.Time octets whole refl
by_other ids.TraceabilityProperties octets whole = by_other_size ids.TraceabilityProperties octets whole refl
by_other ids.TimescaleProperties octets whole = by_other_size ids.TimescaleProperties octets whole refl
by_other ids.PathTraceList octets whole = (record { within = omega arith; value = omega arith }, tt)
by_other ids.TimeStatus octets whole = by_other_size ids.TimeStatus octets whole refl
by_other ids.GrandmasterSettings octets whole = by_other_size ids.GrandmasterSettings octets whole refl
by_other ids.PortDataSet octets whole = by_other_size ids.PortDataSet octets whole refl
by_other ids.PortProperties octets whole =
    let p = and_parts (nat_le 12 (length octets)) _ whole in
    let long : 12 ≤ length octets = leb-true 12 (length octets) p.0 in (
      record { within = omega arith; value = omega (arith, length-drop 0 octets) },
      (
        record { within = omega arith; value = omega (arith, length-drop 10 octets) },
        (
          record { within = omega arith; value = omega (arith, length-drop 11 octets) },
          (record { within = long; value = p.1 }, tt),
        ),
      ),
    )
by_other ids.PortStatistics octets whole = by_other_size ids.PortStatistics octets whole refl

pub placed_in_other : (id : OtherId) (octets : List ℕ) → is_whole_other id octets ≡ true → All (IsPlaced octets) (other_fields id)
placed_in_other id octets whole = All-from_recursion (IsPlaced octets) (other_fields id) (by_other id octets whole)
