-- What a GET of each id is answered: its members, and how many octets they take.
use Rattle.std.proofs.Common.{arith, ◌≡◌, ◌∙◌, refl, sym, subst, ℕ, zero, suc, ◌-◌, ◌^◌, ◌<◌, ◌==◌, Bool, true, false, if◌then◌else◌, List, [], ◌∷◌, length, length-append, Option, Some, None, eq-eqb, slice_get}
use Rattle.std.specs.Prelude.{⊤}
use Rattle.std.specs.List.{All}
use Rattle.std.proofs.lemmas.Bool.Decides.{nat_tests}
use Rattle.std.proofs.lemmas.List.Elements.{All-from_recursion, All-nil, All-tail}
use Rattle.ptpm_codec.specs.declared.identity.ClockIdentity.{ClockIdentity}
use Rattle.ptpm_codec.specs.PtpText.{is_ptp_text, ptp_text_octets}
use Rattle.ptpm_codec.proofs.OctetLaws.{ptp_text_size}
use Rattle.ptpm_data.specs.declared.data_sets.CurrentDataSet.{CurrentDataSet}
use Rattle.ptpm_data.specs.declared.data_sets.DefaultDataSet.{DefaultDataSet}
use Rattle.ptpm_data.specs.declared.data_sets.ParentDataSet.{ParentDataSet}
use Rattle.ptpm_data.specs.declared.data_sets.TimePropertiesDataSet.{TimePropertiesDataSet}
use Rattle.ptpm_data.specs.declared.data_sets.PortDataSet.{PortDataSet}
use Rattle.ptpm_data.specs.declared.management_id.Layout.{Layout}
use Rattle.ptpm_data.specs.declared.management_id.Layout.TheVariants as layouts
use Rattle.ptpm_data.specs.declared.port_setting.PortSetting.TheVariants as settings
use Rattle.ptpm_data.specs.DataField.{clock_field_of, current_data_field, data_field_of, data_field_of_id, default_data_field, field_of_row, i16_octets, i32_octets, i64_octets, parent_data_field, port_data_field, port_field_of, port_settings_octets, port_shown, precedence_octets, time_properties_data_field, utc_properties_data_field}
use Rattle.ptpm_data.specs.Image.{DataSetsFit, PortFits}
use Rattle.ptpm_data.specs.ManagementId.{RowValue, is_of_port, is_port_row, row_of}
use Rattle.ptpm_data.specs.Members.{DataSetsValue, HasPort, port_of}
use Rattle.ptpm_data.specs.RequestLaws.{IsSized}
use Rattle.ptpm_data.proofs.FieldSizes.{is_port_layout, layout_of}
use Rattle.ptpm_members.specs.Tables.{IsSaid, fields_of, fields_of_id, fields_of_row, is_whole, is_whole_of_id, is_whole_of_row}
use Rattle.ptpm_members.proofs.Placing.{AreSaid, AreSaidWith, clock_said, field_with, port_said}

-- ---- one of the clock's ports

-- an element that is there; what holds of all holds of it
held_at : {X : Type 0} (P : X → Type 0) (xs : List X) (i : ℕ) → i < length xs → All P xs → (x : X) × (slice_get xs i ≡ Some x) × P x
held_at P [] i below all = absurd (omega arith)
held_at P (x ∷ xs) zero below all = (x, refl, all 0 x (omega arith))
held_at P (x ∷ xs) (suc i) below all = held_at P xs i (omega arith) (All-tail P x xs all)

some_port : (n : ℕ) (d : DataSetsValue) → HasPort n d → (p : PortDataSet) × (port_of n d ≡ Some p)
some_port n d has =
    let low = has.0 in
    let high = has.1 in
    let no : n == 0 ≡ false = grind (arith, nat_tests) in
    let there = held_at (λ p. ⊤) d.ports (n - 1) (omega arith) (λ k x below. tt) in
    (there.0, rw no there.1)

port_there : (n : ℕ) (d : DataSetsValue) → HasPort n d → All PortFits d.ports → (p : PortDataSet) × (port_of n d ≡ Some p) × PortFits p
port_there n d has fits =
    let low = has.0 in
    let high = has.1 in
    let no : n == 0 ≡ false = grind (arith, nat_tests) in
    let there = held_at PortFits d.ports (n - 1) (omega arith) fits in
    (there.0, rw no there.1, there.2)

-- ---- the members

-- whose dataField it is
abbrev shown : Bool → ℕ → Option ℕ
shown b port = if b then Some port else None

same_claims : (layout : Layout) (n : ℕ) (d : DataSetsValue) → AreSaidWith (port_of n d) layout n d
    → AreSaid (Some n) d (data_field_of layout (Some n) d) (fields_of layout)
same_claims layouts.PortDataSet n d said = said
same_claims (layouts.Setting settings.LogAnnounceInterval) n d said = said
same_claims _ n d said = said

module _ (port : ℕ) (d : DataSetsValue) (sized : IsSized d) (fits : DataSetsFit d) where
  at_port : HasPort port d → (layout : Layout) → is_port_layout layout ≡ true
      → AreSaid (Some port) d (data_field_of layout (Some port) d) (fields_of layout)
  at_port has layout at =
      let there = port_there port d has fits.ports in
      let few = sized.few_ports in
      let small : port < 2 ^ 16 = let h = has.1 in omega arith in
      let P : Option PortDataSet → Type 0 = λ o. AreSaidWith o layout port d in
      same_claims layout port d (subst P (sym there.1) (port_said d sized.identity port small there.0 there.2 layout at))

  of_layout : (b : Bool) → (b ≡ true → HasPort port d) → (layout : Layout) → is_port_layout layout ≡ b
      → AreSaid (shown b port) d (data_field_of layout (shown b port) d) (fields_of layout)
  of_layout true has layout at = at_port (has refl) layout at
  of_layout false has layout at = clock_said d sized fits layout at

  of_row : (o : Option RowValue) (b : Bool) → (b ≡ true → HasPort port d) → (id : ℕ) → row_of id ≡ o → is_port_row o ≡ b
      → All (IsSaid (shown b port) d (field_of_row o (shown b port) d)) (fields_of_row o)
  of_row None b has id is at = All-nil _
  of_row (Some e) b has id is at =
      All-from_recursion (IsSaid (shown b port) d (data_field_of e.layout (shown b port) d)) (fields_of e.layout)
      (of_layout b has e.layout (layout_of id e is ∙ at))

pub members_of : (id port : ℕ) (d : DataSetsValue) → IsSized d → DataSetsFit d
    → (is_of_port id ≡ true → HasPort port d)
    → All (IsSaid (port_shown id port) d (data_field_of_id id port d)) (fields_of_id id)
members_of id port d sized fits has = of_row port d sized fits (row_of id) (is_of_port id) has id refl refl

-- ---- their octets

default_size : (d : DefaultDataSet) (n : ℕ) → length d.identity.0 ≡ 8 → length (default_data_field d n) ≡ 20
unfolding default_data_field precedence_octets
default_size d n identity = simp length-append (omega arith)

current_size : (c : CurrentDataSet) → length (current_data_field c) ≡ 18
unfolding current_data_field i64_octets
current_size c = refl

parent_size : (p : ParentDataSet) → length p.parent_port.clock.0 ≡ 8 → length p.grandmaster.0 ≡ 8
    → length (parent_data_field p) ≡ 32
unfolding parent_data_field i32_octets precedence_octets
parent_size p port grandmaster = simp length-append (omega arith)

time_size : (t : TimePropertiesDataSet) → length (time_properties_data_field t) ≡ 4
unfolding time_properties_data_field i16_octets
time_size t = refl

utc_size : (t : TimePropertiesDataSet) → length (utc_properties_data_field t) ≡ 4
unfolding utc_properties_data_field i16_octets
utc_size t = refl

port_size : (identity : ClockIdentity) (n : ℕ) (p : PortDataSet) → length identity.0 ≡ 8
    → length (port_data_field identity n p) ≡ 26
unfolding port_data_field port_settings_octets i64_octets
port_size identity n p h = simp length-append (omega arith)

text_whole : (text : List ℕ) → is_ptp_text (ptp_text_octets text) ≡ true
unfolding ptp_text_octets
text_whole text = eq-eqb _ _ (let size = ptp_text_size text in omega arith)

module _ (d : DataSetsValue) (sized : IsSized d) where
  clock_whole : (layout : Layout) → is_port_layout layout ≡ false → is_whole layout (clock_field_of layout d) ≡ true
  unfolding is_whole clock_field_of is_port_layout
  clock_whole layouts.UserDescription at = text_whole d.description
  clock_whole layouts.DefaultDataSet at = eq-eqb _ _ (default_size d.default (length d.ports) sized.identity)
  clock_whole layouts.CurrentDataSet at = eq-eqb _ _ (current_size d.current)
  clock_whole layouts.ParentDataSet at = eq-eqb _ _ (parent_size d.parent sized.parent sized.grandmaster)
  clock_whole layouts.TimePropertiesDataSet at = eq-eqb _ _ (time_size d.time)
  clock_whole layouts.UtcProperties at = eq-eqb _ _ (utc_size d.time)
  clock_whole layouts.Priority1 at = refl
  clock_whole layouts.Priority2 at = refl
  clock_whole layouts.Domain at = refl
  clock_whole layouts.SlaveOnly at = refl
  clock_whole layouts.ClockAccuracy at = refl
  clock_whole _ at = cc

  port_whole : (n : ℕ) (p : PortDataSet) (layout : Layout) → is_port_layout layout ≡ true
      → is_whole layout (field_with layout (Some p) n d) ≡ true
  unfolding is_whole port_field_of is_port_layout
  port_whole n p layouts.PortDataSet at = eq-eqb _ _ (port_size d.default.identity n p sized.identity)
  port_whole n p (layouts.Setting settings.LogAnnounceInterval) at = refl
  port_whole n p (layouts.Setting s) at = refl
  port_whole n p layouts.VersionNumber at = refl
  port_whole n p layouts.NullPtpManagement at = refl
  port_whole n p layouts.EnablePort at = refl
  port_whole n p layouts.DisablePort at = refl
  port_whole n p _ at = cc

  whole : (port : ℕ) (b : Bool) → (b ≡ true → HasPort port d) → (layout : Layout) → is_port_layout layout ≡ b
      → is_whole layout (data_field_of layout (shown b port) d) ≡ true
  whole port true has layout at =
      let there = some_port port d (has refl) in
      let P : Option PortDataSet → Type 0 = λ o. is_whole layout (field_with layout o port d) ≡ true in
      subst P (sym there.1) (port_whole port there.0 layout at)
  whole port false has layout at = clock_whole layout at

  row_whole : (o : Option RowValue) (port : ℕ) (b : Bool) → (b ≡ true → HasPort port d) → (id : ℕ) → row_of id ≡ o → is_port_row o ≡ b
      → is_whole_of_row o (field_of_row o (shown b port) d) ≡ true
  row_whole None port b has id is at = refl
  row_whole (Some e) port b has id is at = whole port b has e.layout (layout_of id e is ∙ at)

pub whole_of : (id port : ℕ) (d : DataSetsValue) → IsSized d
    → (is_of_port id ≡ true → HasPort port d)
    → is_whole_of_id id (data_field_of_id id port d) ≡ true
whole_of id port d sized has = row_whole d sized (row_of id) port (is_of_port id) has id refl refl
