-- The octets of each data set, at the places of its members, are these members.
use Rattle.std.proofs.Common.{arith, ◌≡◌, ◌∙◌, ap, refl, ℕ, ◌+◌, ◌^◌, ◌<◌, Bool, true, false, [], ◌∷◌, ℤ, pos, negsuc, sym, ◌%◌, List, ◌++◌, length, replicate, take, Option, Some, None}
use Rattle.std.specs.Prelude.{FitsSigned, ◌&&◌, ◌==◌, bit_and, if◌then◌else◌, option_and_then}
use Rattle.std.specs.Int.{cast_unsigned, w8, w16, w32, w64, cast_signed}
use Rattle.std.proofs.lemmas.Bool.{and_parts, eqb-true}
use Rattle.std.proofs.lemmas.Int.{ints}
use Rattle.byteorder.specs.Endian.{big_bytes, big_number, twos_complement}
use Rattle.byteorder.specs.Numbers.{big_number-reads_back}
use Rattle.ptpm_data.specs.DataField.{bit, clock_field_of, current_data_field, default_data_field, field_of_port, i16_octets, i32_octets, i64_octets, i8_octet, parent_data_field, port_data_field, port_field_of, port_settings_octets, precedence_octets, time_properties_data_field, utc_properties_data_field}
use Rattle.std.specs.List.{AllByRecursion}
use Rattle.std.proofs.lemmas.List.{take_at}
use Rattle.ptpm_codec.specs.PtpText.{ptp_text_octets}
use Rattle.ptpm_codec.proofs.CanonicalLaws.{by_eight}
use Rattle.ptpm_data.specs.declared.data_sets.PortDataSet.{PortDataSet}
use Rattle.ptpm_data.specs.declared.management_id.Layout.{Layout}
use Rattle.ptpm_data.specs.declared.port_setting.PortSetting.{PortSetting}
use Rattle.ptpm_data.specs.Image.{DataSetsFit, PortFits}
use Rattle.ptpm_data.specs.MemberMap.{MemberValue, Number, Octets, PortOf, port_member}
use Rattle.ptpm_data.specs.Members.{DataSetsValue}
use Rattle.ptpm_data.specs.PortSetting.{octet_of, said_of}
use Rattle.ptpm_data.specs.RequestLaws.{IsSized}
use Rattle.ptpm_data.proofs.FieldSizes.{is_port_layout}
use Rattle.ptpm_members.specs.declared.forms.Field.{Field}
use Rattle.ptpm_members.specs.declared.forms.Form.{Form}
use Rattle.ptpm_members.specs.declared.names.Member.{Member}
use Rattle.ptpm_members.specs.declared.tables.TheConstants.{CURRENT_DATA_SET, DEFAULT_DATA_SET, PARENT_DATA_SET, TIME_PROPERTIES_DATA_SET, USER_DESCRIPTION, UTC_PROPERTIES}
use Rattle.ptpm_members.specs.Tables.{IsSaid, field_value, fields_of, form_value, member_value}
use Rattle.ptpm_data.specs.declared.management_id.Layout.TheVariants as layouts
use Rattle.ptpm_data.specs.declared.port_setting.PortSetting.TheVariants as settings
use Rattle.ptpm_members.specs.declared.forms.Form.TheVariants as forms
use Rattle.ptpm_members.specs.declared.names.Member.TheVariants as members
use Rattle.ptpm_members.specs.declared.number_names.Enumeration.TheVariants as enumerations

-- ---- octets read back as the numbers and flags that they were made of

-- ---- numbers

below_16 : (z : ℤ) → FitsSigned w16 z → cast_unsigned w16 z < 2 ^ 16
below_16 (pos n) fits = omega arith
below_16 (negsuc n) fits = omega arith

below_32 : (z : ℤ) → FitsSigned w32 z → cast_unsigned w32 z < 2 ^ 32
below_32 (pos n) fits = omega arith
below_32 (negsuc n) fits = omega arith

below_64 : (z : ℤ) → FitsSigned w64 z → cast_unsigned w64 z < 2 ^ 64
below_64 (pos n) fits = omega arith
below_64 (negsuc n) fits = omega arith

signed_8 : (z : ℤ) → FitsSigned w8 z → twos_complement 1 (cast_unsigned w8 z) ≡ z
signed_8 (pos n) fits = grind (arith, ints)
signed_8 (negsuc n) fits = grind (arith, ints)

signed_16 : (z : ℤ) → FitsSigned w16 z → twos_complement 2 (cast_unsigned w16 z) ≡ z
signed_16 (pos n) fits = grind (arith, ints)
signed_16 (negsuc n) fits = grind (arith, ints)

signed_32 : (z : ℤ) → FitsSigned w32 z → twos_complement 4 (cast_unsigned w32 z) ≡ z
signed_32 (pos n) fits = grind (arith, ints)
signed_32 (negsuc n) fits = grind (arith, ints)

signed_64 : (z : ℤ) → FitsSigned w64 z → twos_complement 8 (cast_unsigned w64 z) ≡ z
signed_64 (pos n) fits = grind (arith, ints)
signed_64 (negsuc n) fits = grind (arith, ints)

pub u16_back : (n : ℕ) → n < 2 ^ 16 → big_number 2 (big_bytes 2 n) ≡ n
u16_back n small = big_number-reads_back 2 n [] small

-- What follows a number changes nothing of it, and so is left out here.
pub u8_back : (n : ℕ) → big_number 1 (n ∷ []) ≡ n
u8_back n = omega arith

pub i8_back : (z : ℤ) → FitsSigned w8 z → twos_complement 1 (big_number 1 (cast_unsigned w8 z ∷ [])) ≡ z
i8_back z fits = ap (twos_complement 1) (u8_back (cast_unsigned w8 z)) ∙ signed_8 z fits

pub i16_back : (z : ℤ) → FitsSigned w16 z
    → twos_complement 2 (big_number 2 (big_bytes 2 (cast_unsigned w16 z))) ≡ z
i16_back z fits = ap (twos_complement 2) (big_number-reads_back 2 _ [] (below_16 z fits)) ∙ signed_16 z fits

pub i32_back : (z : ℤ) → FitsSigned w32 z
    → twos_complement 4 (big_number 4 (big_bytes 4 (cast_unsigned w32 z))) ≡ z
i32_back z fits = ap (twos_complement 4) (big_number-reads_back 4 _ [] (below_32 z fits)) ∙ signed_32 z fits

pub i64_back : (z : ℤ) → FitsSigned w64 z
    → twos_complement 8 (big_number 8 (big_bytes 8 (cast_unsigned w64 z))) ≡ z
i64_back z fits = ap (twos_complement 8) (big_number-reads_back 8 _ [] (below_64 z fits)) ∙ signed_64 z fits

-- ---- flags

abbrev pub flag_value : ℕ → ℕ → ℕ
flag_value mask octet = if bit_and octet mask == 0 then 0 else 1

pub no_flag : (b : Bool) → 0 ≡ flag_value 2 (bit 0 b)
no_flag true = refl
no_flag false = refl

pub one_flag : (b : Bool) → (if b then 1 else 0) ≡ flag_value 1 (bit 0 b)
one_flag true = refl
one_flag false = refl

-- a claim on flags is shown by a test of each of their values
abbrev for_both : (Bool → Bool) → Bool
for_both test = test true && test false

either : (test : Bool → Bool) → for_both test ≡ true → (b : Bool) → test b ≡ true
either test both true = (and_parts (test true) (test false) both).0
either test both false = (and_parts (test true) (test false) both).1

abbrev is_flag : ℕ → ℕ → Bool → Bool
is_flag mask octet b = (if b then 1 else 0) == flag_value mask octet

abbrev three : Bool → Bool → Bool → ℕ
three a b c = bit 0 a + bit 1 b + bit 2 c

abbrev are_three : Bool → Bool → Bool → Bool
are_three a b c = is_flag 1 (three a b c) a && (is_flag 2 (three a b c) b && is_flag 4 (three a b c) c)

abbrev six : Bool → Bool → Bool → Bool → Bool → Bool → ℕ
six a b c d e f = bit 0 a + bit 1 b + bit 2 c + bit 3 d + bit 4 e + bit 5 f

abbrev are_six : Bool → Bool → Bool → Bool → Bool → Bool → Bool
are_six a b c d e f =
    is_flag 1 (six a b c d e f) a && (is_flag 2 (six a b c d e f) b && (is_flag 4 (six a b c d e f) c
    && (is_flag 8 (six a b c d e f) d && (is_flag 16 (six a b c d e f) e && is_flag 32 (six a b c d e f) f))))

all_three : for_both (λ a. for_both (λ b. for_both (are_three a b))) ≡ true
all_three = refl

all_six : for_both (λ a. for_both (λ b. for_both (λ c. for_both (λ d. for_both (λ e. for_both (are_six a b c d e)))))) ≡ true
all_six = refl

pub record HasThree (a b c : Bool) (octet : ℕ) : Type 0 where
  pub first : (if a then 1 else 0) ≡ flag_value 1 octet
  pub second : (if b then 1 else 0) ≡ flag_value 2 octet
  pub third : (if c then 1 else 0) ≡ flag_value 4 octet

pub three_flags : (a b c : Bool) → HasThree a b c (bit 0 a + bit 1 b + bit 2 c)
three_flags a b c =
    let all = either (are_three a b) (either (λ y. for_both (are_three a y)) (either (λ x. for_both (λ y. for_both (are_three x y))) all_three a) b) c in
    let p = and_parts (is_flag 1 (three a b c) a) _ all in
    let q = and_parts (is_flag 2 (three a b c) b) _ p.1 in
    record { first = eqb-true _ _ p.0; second = eqb-true _ _ q.0; third = eqb-true _ _ q.1 }

pub record HasSix (a b c d e f : Bool) (octet : ℕ) : Type 0 where
  pub first : (if a then 1 else 0) ≡ flag_value 1 octet
  pub second : (if b then 1 else 0) ≡ flag_value 2 octet
  pub third : (if c then 1 else 0) ≡ flag_value 4 octet
  pub fourth : (if d then 1 else 0) ≡ flag_value 8 octet
  pub fifth : (if e then 1 else 0) ≡ flag_value 16 octet
  pub sixth : (if f then 1 else 0) ≡ flag_value 32 octet

each_of_six : (a b c d e f : Bool) → are_six a b c d e f ≡ true
each_of_six a b c d e f =
    let x = either (λ a. for_both (λ b. for_both (λ c. for_both (λ d. for_both (λ e. for_both (are_six a b c d e)))))) all_six a in
    let y = either (λ b. for_both (λ c. for_both (λ d. for_both (λ e. for_both (are_six a b c d e))))) x b in
    let z = either (λ c. for_both (λ d. for_both (λ e. for_both (are_six a b c d e)))) y c in
    let u = either (λ d. for_both (λ e. for_both (are_six a b c d e))) z d in
    let v = either (λ e. for_both (are_six a b c d e)) u e in
    either (are_six a b c d e) v f

pub six_flags : (a b c d e f : Bool) → HasSix a b c d e f (bit 0 a + bit 1 b + bit 2 c + bit 3 d + bit 4 e + bit 5 f)
six_flags a b c d e f =
    let p = and_parts (is_flag 1 (six a b c d e f) a) _ (each_of_six a b c d e f) in
    let q = and_parts (is_flag 2 (six a b c d e f) b) _ p.1 in
    let r = and_parts (is_flag 4 (six a b c d e f) c) _ q.1 in
    let s = and_parts (is_flag 8 (six a b c d e f) d) _ r.1 in
    let t = and_parts (is_flag 16 (six a b c d e f) e) _ s.1 in
    record {
      first = eqb-true _ _ p.0;
      second = eqb-true _ _ q.0;
      third = eqb-true _ _ r.0;
      fourth = eqb-true _ _ s.0;
      fifth = eqb-true _ _ t.0;
      sixth = eqb-true _ _ t.1;
    }

abbrev pub AreSaid : Option ℕ → DataSetsValue → List ℕ → List Field → Type 0
AreSaid port d octets fs = AllByRecursion (IsSaid port d octets) fs

-- ---- two values are the same if their numbers are

abbrev natural : ℕ → Option MemberValue
natural n = Some (Number (pos n))

abbrev integer : ℤ → Option MemberValue
integer n = Some (Number n)

natural_is : (a b : ℕ) → b ≡ a → natural a ≡ natural b
natural_is a b e = ap natural (sym e)

integer_is : (a b : ℤ) → b ≡ a → integer a ≡ integer b
integer_is a b e = ap integer (sym e)

octet_is : (n : ℕ) → natural n ≡ natural (big_number 1 (n ∷ []))
octet_is n = natural_is n _ (u8_back n)

signed_octet_is : (z : ℤ) → FitsSigned w8 z → integer z ≡ integer (twos_complement 1 (big_number 1 (i8_octet z ∷ [])))
unfolding i8_octet
signed_octet_is z fits = integer_is z _ (i8_back z fits)

signed_said : (z : ℤ) → cast_signed w8 (cast_unsigned w8 z) ≡ z → twos_complement 1 (cast_unsigned w8 z) ≡ z
signed_said (pos n) fits = grind (arith, ints)
signed_said (negsuc n) fits = grind (arith, ints)

-- ---- the clock

abbrev with_identity : List ℕ → DataSetsValue → DataSetsValue
with_identity xs d = record d { default = record d.default { identity = record { 0 = xs } } }

abbrev with_identities : List ℕ → List ℕ → DataSetsValue → DataSetsValue
with_identities xs ys d = record d {
  parent = record d.parent {
    parent_port = record { clock = record { 0 = xs }; port = d.parent.parent_port.port };
    grandmaster = record { 0 = ys };
  };
}

module _ (d : DataSetsValue) (sized : IsSized d) (fits : DataSetsFit d) where
  default_said : AreSaid None d (default_data_field d.default (length d.ports)) DEFAULT_DATA_SET
  unfolding default_data_field precedence_octets
  default_said =
      let few : length d.ports < 2 ^ 16 = let h = sized.few_ports in omega arith in
      let p = d.default.precedence in
      let two_step = natural_is _ _ (sym (one_flag d.default.two_step)) in
      let slave_only = natural_is _ _ (sym (no_flag d.default.two_step)) in
      let ports = natural_is _ _ (u16_back (length d.ports) few) in
      let variance = natural_is _ _ (u16_back p.variance fits.default.variance) in
      by_eight (λ xs. let e = with_identity xs d in AreSaid None e (default_data_field e.default (length e.ports)) DEFAULT_DATA_SET)
      (λ a b c x e f g h. (
        two_step,
        (
          slave_only,
          (
            ports,
            (
              octet_is p.priority1,
              (
                octet_is p.class,
                (
                  octet_is p.accuracy,
                  (
                    variance,
                    (octet_is p.priority2, (refl, (octet_is d.default.domain, tt))),
                  ),
                ),
              ),
            ),
          ),
        ),
      ))
      d.default.identity.0 fits.default.identity

  current_said : AreSaid None d (current_data_field d.current) CURRENT_DATA_SET
  unfolding current_data_field i64_octets
  current_said =
      let c = d.current in
      let steps = natural_is _ _ (u16_back c.steps_removed fits.current.steps_removed) in
      let offset = integer_is _ _ (i64_back c.offset_from_master fits.current.offset_from_master) in
      let delay = integer_is _ _ (i64_back c.mean_path_delay fits.current.mean_path_delay) in
      (steps, (offset, (delay, tt)))

  parent_said : AreSaid None d (parent_data_field d.parent) PARENT_DATA_SET
  unfolding parent_data_field i32_octets precedence_octets
  parent_said =
      let p = d.parent in
      let port = u16_back p.parent_port.port fits.parent.parent_port.port in
      let stats = natural_is _ _ (sym (one_flag p.parent_stats)) in
      let observed = natural_is _ _ (u16_back p.observed_variance fits.parent.observed_variance) in
      let rate = integer_is _ _ (i32_back p.observed_rate fits.parent.observed_rate) in
      let variance = natural_is _ _ (u16_back p.precedence.variance fits.parent.variance) in
      by_eight (λ xs. let e = with_identities xs d.parent.grandmaster.0 d in AreSaid None e (parent_data_field e.parent) PARENT_DATA_SET)
      (λ a b c x e f g h. by_eight (λ ys. let z = with_identities (a ∷ b ∷ c ∷ x ∷ e ∷ f ∷ g ∷ h ∷ []) ys d in AreSaid None z (parent_data_field z.parent) PARENT_DATA_SET)
      (λ i j k l m n o q. (
        ap (λ (number : ℕ). Some (PortOf (a ∷ b ∷ c ∷ x ∷ e ∷ f ∷ g ∷ h ∷ []) number)) (sym port),
        (
          stats,
          (
            observed,
            (
              rate,
              (
                octet_is p.precedence.priority1,
                (
                  octet_is p.precedence.class,
                  (octet_is p.precedence.accuracy, (variance, (octet_is p.precedence.priority2, (refl, tt)))),
                ),
              ),
            ),
          ),
        ),
      ))
      d.parent.grandmaster.0 fits.parent.grandmaster)
      d.parent.parent_port.clock.0 fits.parent.parent_port.clock

  time_said : AreSaid None d (time_properties_data_field d.time) TIME_PROPERTIES_DATA_SET
  unfolding time_properties_data_field i16_octets
  time_said =
      let t = d.time in
      let offset = integer_is _ _ (i16_back t.utc_offset fits.time) in
      let flags = six_flags t.leap61 t.leap59 t.utc_valid t.ptp_timescale t.time_traceable t.frequency_traceable in (
        offset,
        (
          ap natural flags.first,
          (
            ap natural flags.second,
            (
              ap natural flags.third,
              (
                ap natural flags.fourth,
                (ap natural flags.fifth, (ap natural flags.sixth, (refl, tt))),
              ),
            ),
          ),
        ),
      )

  utc_said : AreSaid None d (utc_properties_data_field d.time) UTC_PROPERTIES
  unfolding utc_properties_data_field i16_octets
  utc_said =
      let t = d.time in
      let offset = integer_is _ _ (i16_back t.utc_offset fits.time) in
      let flags = three_flags t.leap61 t.leap59 t.utc_valid in
      (offset, (ap natural flags.first, (ap natural flags.second, (ap natural flags.third, tt))))

  text_said : AreSaid None d (ptp_text_octets d.description) USER_DESCRIPTION
  unfolding ptp_text_octets
  text_said =
      let back : take (length d.description) (d.description ++ replicate ((1 + length d.description) % 2) 0) ≡ d.description =
      take_at d.description _ (length d.description) refl in
      (ap (λ (xs : List ℕ). Some (Octets xs)) (sym back), tt)

  pub clock_said : (layout : Layout) → is_port_layout layout ≡ false → AreSaid None d (clock_field_of layout d) (fields_of layout)
  unfolding clock_field_of is_port_layout
  clock_said layouts.UserDescription at = text_said
  clock_said layouts.DefaultDataSet at = default_said
  clock_said layouts.CurrentDataSet at = current_said
  clock_said layouts.ParentDataSet at = parent_said
  clock_said layouts.TimePropertiesDataSet at = time_said
  clock_said layouts.UtcProperties at = utc_said
  clock_said layouts.Priority1 at = (octet_is d.default.precedence.priority1, tt)
  clock_said layouts.Priority2 at = (octet_is d.default.precedence.priority2, tt)
  clock_said layouts.Domain at = (octet_is d.default.domain, tt)
  clock_said layouts.SlaveOnly at = (refl, tt)
  clock_said layouts.ClockAccuracy at = (octet_is d.default.precedence.accuracy, tt)
  clock_said _ at = cc

-- ---- a port

abbrev pub value_with : Option PortDataSet → ℕ → DataSetsValue → Member → Option MemberValue
value_with o n d (members.DataSet member) = option_and_then (port_member member) o
value_with o n d member = member_value member (Some n) d

abbrev pub field_with : Layout → Option PortDataSet → ℕ → DataSetsValue → List ℕ
field_with layout o n d = field_of_port (port_field_of layout d.default.identity n) o

-- how a port's setting is written
abbrev setting_form : PortSetting → Form
setting_form settings.AnnounceReceiptTimeout = forms.Unsigned 1
setting_form settings.DelayMechanism = forms.Named enumerations.DelayMechanism
setting_form _ = forms.Signed 1

-- the same of a port with this data set
abbrev pub AreSaidWith : Option PortDataSet → Layout → ℕ → DataSetsValue → Type 0
AreSaidWith o layout n d = AllByRecursion (λ f. value_with o n d f.0 ≡ Some (field_value f (field_with layout o n d))) (fields_of layout)

module _ (d : DataSetsValue) (identity : length d.default.identity.0 ≡ 8) (n : ℕ) (small : n < 2 ^ 16) (p : PortDataSet) (fits : PortFits p) where
  setting_said : (s : PortSetting) → integer (p.settings s) ≡ Some (form_value (setting_form s) (octet_of (p.settings s) ∷ []))
  unfolding octet_of said_of
  setting_said settings.AnnounceReceiptTimeout =
      integer_is _ _ (ap (λ (n : ℕ). pos n) (u8_back (octet_of (p.settings settings.AnnounceReceiptTimeout))) ∙ fits.settings settings.AnnounceReceiptTimeout)
  setting_said settings.DelayMechanism = integer_is _ _ (fits.settings settings.DelayMechanism)
  setting_said s =
      integer_is _ _ (ap (twos_complement 1) (u8_back (octet_of (p.settings s))) ∙ signed_said (p.settings s) (fits.settings s))

  port_data_set_said : AreSaidWith (Some p) layouts.PortDataSet n d
  unfolding port_field_of port_data_field port_settings_octets i64_octets
  port_data_set_said =
      let port = u16_back n small in
      let delay = integer_is _ _ (i64_back p.peer_delay fits.peer_delay) in
      by_eight (λ xs. AreSaidWith (Some p) layouts.PortDataSet n (with_identity xs d))
      (λ a b c x e f g h. (
        ap (λ (number : ℕ). Some (PortOf (a ∷ b ∷ c ∷ x ∷ e ∷ f ∷ g ∷ h ∷ []) number)) (sym port),
        (
          refl,
          (
            signed_octet_is p.log_min_delay_req fits.log_min_delay_req,
            (
              delay,
              (
                setting_said settings.LogAnnounceInterval,
                (
                  setting_said settings.AnnounceReceiptTimeout,
                  (
                    setting_said settings.LogSyncInterval,
                    (setting_said settings.DelayMechanism, (setting_said settings.LogMinPdelayReqInterval, (refl, tt))),
                  ),
                ),
              ),
            ),
          ),
        ),
      ))
      d.default.identity.0 identity

  pub port_said : (layout : Layout) → is_port_layout layout ≡ true → AreSaidWith (Some p) layout n d
  unfolding port_field_of is_port_layout
  port_said layouts.PortDataSet at = port_data_set_said
  port_said (layouts.Setting settings.LogAnnounceInterval) at = (setting_said settings.LogAnnounceInterval, tt)
  port_said (layouts.Setting s) at = (setting_said s, tt)
  port_said layouts.VersionNumber at = (refl, tt)
  port_said layouts.NullPtpManagement at = tt
  port_said layouts.EnablePort at = tt
  port_said layouts.DisablePort at = tt
  port_said _ at = cc
