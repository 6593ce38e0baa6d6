-- How many octets a dataField has.
use Rattle.std.proofs.Common.{◌≡◌, refl, ℕ, ◌%◌, ◌≤◌, Bool, true, false, not, ◌==◌, cond, if◌then◌else◌, List, [], ◌∷◌, length, length-append, Option, Some, None, arith}
use Rattle.std.proofs.lemmas.Bool.{and_parts}
use Rattle.std.specs.List.{find, list_all}
use Rattle.ptpm_codec.specs.declared.identity.ClockIdentity.{ClockIdentity}
use Rattle.ptpm_codec.proofs.OctetLaws.{ptp_text_size}
use Rattle.ptpm_data.specs.declared.data_sets.DefaultDataSet.{DefaultDataSet}
use Rattle.ptpm_data.specs.declared.data_sets.CurrentDataSet.{CurrentDataSet}
use Rattle.ptpm_data.specs.declared.data_sets.TimePropertiesDataSet.{TimePropertiesDataSet}
use Rattle.ptpm_data.specs.declared.data_sets.PortDataSet.{PortDataSet}
use Rattle.ptpm_data.specs.declared.management_id.Layout.{Layout}
use Rattle.ptpm_data.specs.declared.management_id.Layout.TheVariants as layouts
use Rattle.ptpm_data.specs.ManagementId.{RowValue, id_table, row_of, is_port_scope, is_port_row, is_of_port}
use Rattle.ptpm_data.specs.Members.{DataSetsValue, port_of}
use Rattle.ptpm_data.specs.DataField.{i16_octets, i32_octets, i64_octets, precedence_octets, default_data_field, current_data_field, parent_data_field, time_properties_data_field, utc_properties_data_field, port_settings_octets, port_data_field, clock_field_of, port_field_of, field_of_port, data_field_of, field_of_row, data_field_at}
use Rattle.ptpm_data.specs.RequestLaws.{IsSized, IsFieldWithin, field_limit}

-- ---- each data set

default_size : (d : DefaultDataSet) (n : ℕ)
    → length d.identity.0 ≡ 8
    → length (default_data_field d n) ≡ 20
unfolding default_data_field precedence_octets
default_size d n h = simp length-append (omega arith)

current_size : (c : CurrentDataSet) → length (current_data_field c) ≡ 18
unfolding current_data_field i64_octets
current_size c = simp length-append (omega arith)

time_size : (t : TimePropertiesDataSet) → length (time_properties_data_field t) ≡ 4
unfolding time_properties_data_field i16_octets
time_size t = simp length-append (omega arith)

utc_size : (t : TimePropertiesDataSet) → length (utc_properties_data_field t) ≡ 4
unfolding utc_properties_data_field i16_octets
utc_size t = simp length-append (omega arith)

port_size : (identity : ClockIdentity) (port : ℕ) (p : PortDataSet)
    → length identity.0 ≡ 8
    → length (port_data_field identity port p) ≡ 26
unfolding port_data_field port_settings_octets i64_octets
port_size identity port p h = simp length-append (omega arith)

-- ---- each id

within : (limit n : ℕ) {octets : List ℕ}
    → length octets ≡ n
    → n % 2 ≡ 0
    → n ≤ limit
    → IsFieldWithin limit octets
within limit n {octets} e even small = record { even = rw e even; small = rw e small }

of_port : (layout : Layout) (identity : ClockIdentity) (port : ℕ) (p : PortDataSet)
    → length identity.0 ≡ 8
    → IsFieldWithin 26 (port_field_of layout identity port p)
unfolding port_field_of
of_port layouts.PortDataSet identity port p h = within 26 26 (port_size identity port p h) refl (omega arith)
of_port (layouts.Setting s) identity port p h = within 26 2 refl refl (omega arith)
of_port layouts.VersionNumber identity port p h = within 26 2 refl refl (omega arith)
of_port _ identity port p h = within 26 0 refl refl (omega arith)

at_port : (layout : Layout) (identity : ClockIdentity) (port : ℕ) (set : Option PortDataSet)
    → length identity.0 ≡ 8
    → IsFieldWithin 26 (field_of_port (port_field_of layout identity port) set)
at_port layout identity port None h = within 26 0 refl refl (omega arith)
at_port layout identity port (Some p) h = of_port layout identity port p h

unfoldable pub is_port_layout : Layout → Bool
is_port_layout layouts.UserDescription = false
is_port_layout layouts.DefaultDataSet = false
is_port_layout layouts.CurrentDataSet = false
is_port_layout layouts.ParentDataSet = false
is_port_layout layouts.TimePropertiesDataSet = false
is_port_layout layouts.Priority1 = false
is_port_layout layouts.Priority2 = false
is_port_layout layouts.Domain = false
is_port_layout layouts.SlaveOnly = false
is_port_layout layouts.ClockAccuracy = false
is_port_layout layouts.UtcProperties = false
is_port_layout _ = true

-- what a port may say the clock may say
of_either : (b : Bool) {octets : List ℕ} → IsFieldWithin 26 octets
    → IsFieldWithin (field_limit b) octets
of_either true h = h
of_either false {octets} h =
    let small : length octets ≤ 26 = h.small in
    record { even = h.even; small = omega arith }

of_layout : (layout : Layout) (port : Option ℕ) (d : DataSetsValue) → IsSized d
    → IsFieldWithin (field_limit (is_port_layout layout)) (data_field_of layout port d)
unfolding clock_field_of i32_octets is_port_layout parent_data_field precedence_octets
of_layout layout None d s = grind (arith, within, ptp_text_size, default_size, current_size, time_size, utc_size, length-append)
of_layout layout (Some n) d s = of_either (is_port_layout layout) (at_port layout d.default.identity n (port_of n d) s.identity)

-- ---- the table's scopes are those of its layouts

module _ {X : Type 0} (test good : X → Bool) where
  found_first : (b : Bool) (y x : X) (rest : Option X)
      → cond b (Some y) rest ≡ Some x
      → good y ≡ true
      → (rest ≡ Some x → good x ≡ true)
      → good x ≡ true
  found_first true y x rest e first others =
      let same : y ≡ x = cc in
      rw (← same) first
  found_first false y x rest e first others = others e

  pub found : (xs : List X) (x : X)
      → list_all good xs ≡ true
      → find test xs ≡ Some x
      → good x ≡ true
  found [] x all e = cc
  found (y ∷ ys) x all e =
      let parts = and_parts (good y) (list_all good ys) all in
      found_first (test y) y x (find test ys) e parts.0 (found ys x parts.1)

abbrev scope_agrees : RowValue → Bool
scope_agrees e = if is_port_scope e.scope then is_port_layout e.layout else not (is_port_layout e.layout)

table_agrees : list_all scope_agrees id_table ≡ true
unfolding is_port_layout
table_agrees = refl

agree : (s l : Bool) → (if s then l else not l) ≡ true → l ≡ s
agree true l e = e
agree false true e = cc
agree false false e = refl

pub layout_of : (id : ℕ) (e : RowValue)
    → row_of id ≡ Some e
    → is_port_layout e.layout ≡ is_port_scope e.scope
unfolding row_of
layout_of id e is = agree (is_port_scope e.scope) (is_port_layout e.layout) (found (λ x. x.id == id) scope_agrees id_table e table_agrees is)

of_entry : (id : ℕ) (port : Option ℕ) (d : DataSetsValue) (entry : Option RowValue) → row_of id ≡ entry
    → IsSized d → IsFieldWithin (field_limit (is_port_row entry)) (field_of_row entry port d)
of_entry id port d None is s = within 130 0 refl refl (omega arith)
of_entry id port d (Some e) is s =
    let field = of_layout e.layout port d s in
    rw (← layout_of id e is) field

pub of_id : (id : ℕ) (port : Option ℕ) (d : DataSetsValue) → IsSized d
    → IsFieldWithin (field_limit (is_of_port id)) (data_field_at id port d)
of_id id port d s = of_entry id port d (row_of id) refl s
