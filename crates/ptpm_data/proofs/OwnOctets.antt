-- An accepted SET is answered by its own octets.
use Rattle.std.proofs.Common.{◌≡◌, arith, refl, ℕ, zero, suc, ◌+◌, ◌%◌, ◌<◌, ◌≤◌, ◌==◌, Bool, true, List, [], ◌∷◌, ◌++◌, length, take, replicate, Option, Some, None, inl, inr, subst, false, not, ◌||◌, ◌∙◌, ap, ◌-◌, if◌then◌else◌, map, slice_get}
use Rattle.std.specs.List.{list_all, range_with_len, All, enumerate_from, filter}
use Rattle.std.proofs.lemmas.Bool.{and_parts, cases_lt, eqb-true, not-false}
use Rattle.std.proofs.lemmas.Int.{of_z-to_z}
use Rattle.std.proofs.lemmas.List.{length-take-le}
use Rattle.ptpm_codec.specs.declared.identity.ClockIdentity.{ClockIdentity}
use Rattle.ptpm_codec.specs.PtpText.{is_ptp_text, ptp_text, ptp_text_octets}
use Rattle.ptpm_data.specs.declared.data_sets.PortDataSet.{PortDataSet}
use Rattle.ptpm_data.specs.declared.data_sets.TimePropertiesDataSet.{TimePropertiesDataSet}
use Rattle.ptpm_data.specs.Changes.{with_utc_properties, changed_by, set_members, changed_if, is_named, named_changed, with_ports}
use Rattle.ptpm_data.specs.DataField.{bit, field_of_port, i16_octets, port_field_of, utc_properties_data_field, clock_field_of, data_field_at, data_field_of, octet_data_field}
use Rattle.ptpm_data.specs.SetField.{first_i16, has_bit, octet}
use Rattle.ptpm_data.specs.SetLaws.{AreOctets, IsAcceptedSet, get_of, standard_field, standard_field_at}
use Rattle.ptpm_codec.proofs.RefusalLaws.{first_of-none}
use Rattle.ptpm_data.specs.declared.rights.Rights.{Rights}
use Rattle.ptpm_data.specs.ManagementId.{RowValue, has_action, id_table, row_of, is_of_port, set_of}
use Rattle.ptpm_data.specs.Members.{DataSetsValue, port_of}
use Rattle.ptpm_data.specs.Request.{RequestValue}
use Rattle.ptpm_data.specs.Refusals.{row_refusal, refusal_at, refusal_of, is_length, is_set_length, is_set_value, is_value}
use Rattle.ptpm_data.specs.Rights.{no_rights}
use Rattle.ptpm_data.specs.Replies.{answer, read_reply_to, reply_of, reply_to, named_ports, outcome}
use Rattle.ptpm_data.proofs.FieldSizes.{found, is_port_layout, layout_of}
use Rattle.std.specs.Prelude.{⊤}
use Rattle.std.specs.Option.{option_map}
use Rattle.std.proofs.lemmas.Bool.Decides.{nat_tests}
use Rattle.std.proofs.lemmas.List.Elements.{All-cons, All-map}
use Rattle.ptpm_codec.specs.declared.message.Action.{Action}
use Rattle.ptpm_data.specs.declared.management_id.Layout.{Layout}
use Rattle.ptpm_data.specs.declared.port_change.PortChange.{PortChange}
use Rattle.ptpm_data.specs.PortSettings.{octet_back}
use Rattle.ptpm_data.specs.Reply.{Answer, Value}
use Rattle.ptpm_data.specs.PortChange.{port_after}
use Rattle.ptpm_data.proofs.Keeping.{suits_from, changed_by-ports}
use Rattle.ptpm_data.proofs.ReplyLemmas.{answers_of}
use Rattle.ptpm_data.proofs.SettingLemmas.{itself}
use Rattle.ptpm_data.specs.declared.management_id.Layout.TheVariants as layouts
use Rattle.ptpm_codec.specs.declared.message.Action.TheVariants as actions
use Rattle.ptpm_data.specs.declared.port_change.PortChange.TheVariants as changes

-- ---- the dataField of a text and of UTC_PROPERTIES, read back of the octets that set it

-- ---- a text

pub text_back : (octets : List ℕ) → is_ptp_text octets ≡ true
    → ptp_text_octets (ptp_text octets)
    ≡ take (1 + octet 0 octets) octets ++ replicate ((1 + octet 0 octets) % 2) 0
unfolding ptp_text_octets
text_back [] h = cc
text_back (t ∷ xs) h = grind (arith, eqb-true, length-take-le)

-- ---- UTC_PROPERTIES

-- the flags that it has are the lowest three bits
abbrev are_three_bits : ℕ → Bool
are_three_bits c = (bit 0 (has_bit 0 c) + bit 1 (has_bit 1 c) + bit 2 (has_bit 2 c)) == c % 8

all_octets : list_all are_three_bits (range_with_len 0 256) ≡ true
all_octets = refl

in_range : (test : ℕ → Bool) (a n c : ℕ)
    → list_all test (range_with_len a n) ≡ true
    → a ≤ c
    → c < a + n
    → test c ≡ true
in_range test a zero c all low high = absurd (omega arith)
in_range test a (suc n) c all low high =
    let parts = and_parts (test a) (list_all test (range_with_len (a + 1) n)) all in
    elim (cases_lt a c) [
      | inl above ↦ in_range test (a + 1) n c parts.1 (omega arith) (omega arith)
      | inr here ↦
          let e : c ≡ a = omega arith in
          rw e parts.0
    ]

flags_back : (c : ℕ)
    → c < 256
    → bit 0 (has_bit 0 c) + bit 1 (has_bit 1 c) + bit 2 (has_bit 2 c) ≡ c % 8
flags_back c small = eqb-true _ _ (in_range are_three_bits 0 256 c all_octets (omega arith) (omega arith))

offset_back : (a b : ℕ) (xs : List ℕ)
    → a < 256
    → b < 256
    → i16_octets (first_i16 (a ∷ b ∷ xs)) ≡ a ∷ b ∷ []
unfolding i16_octets first_i16
offset_back a b xs small_a small_b = grind (arith, of_z-to_z)

pub utc_back : (octets : List ℕ) (t : TimePropertiesDataSet) → length octets ≡ 4 → AreOctets octets
    → utc_properties_data_field (with_utc_properties t octets)
    ≡ take 2 octets ++ octet 2 octets % 8 ∷ 0 ∷ []
unfolding utc_properties_data_field
utc_back (a ∷ b ∷ c ∷ xs) t size range = rw (offset_back a b (c ∷ xs) (range 0) (range 1), flags_back c (range 2)) refl
utc_back [] t size range = absurd (omega arith)
utc_back (a ∷ []) t size range = absurd (omega arith)
utc_back (a ∷ b ∷ []) t size range = absurd (omega arith)

-- ---- NULL_PTP_MANAGEMENT

pub nothing_held : (identity : ClockIdentity) (n : ℕ) (o : Option PortDataSet)
    → field_of_port (port_field_of layouts.NullPtpManagement identity n) o ≡ []
unfolding port_field_of
nothing_held identity n None = refl
nothing_held identity n (Some p) = refl

-- ---- what an accepted SET changes and is answered, and what a GET after it is answered

-- ---- an id that permits SET permits GET

abbrev gets_what_it_sets : RowValue → Bool
gets_what_it_sets e = not (has_action actions.Set e.actions) || has_action actions.Get e.actions

table_gets : list_all gets_what_it_sets id_table ≡ true
table_gets = refl

pub then_get : (s g : Bool) → (not s || g) ≡ true → s ≡ true → g ≡ true
then_get true g e h = e
then_get false g e h = cc

pub permitted : (e : RowValue) (q : RequestValue) (rights : Rights)
    → q.action ≡ actions.Set
    → row_refusal e q rights ≡ None
    → has_action actions.Set e.actions ≡ true
unfolding row_refusal
permitted e q rights set none = grind (arith, first_of-none, not-false)

get_accepted : (q : RequestValue) (rights : Rights)
    → IsAcceptedSet q rights
    → refusal_of (get_of q) no_rights ≡ None
unfolding row_of row_refusal
get_accepted q rights a = grind (arith, found, table_gets, then_get, permitted)

-- ---- the same answers as a GET's

pub set_read_back : (q : RequestValue) (rights : Rights) (d : DataSetsValue)
    → IsAcceptedSet q rights
    → reply_to q rights d ≡ read_reply_to (get_of q) (changed_by q rights d)
unfolding answer read_reply_to reply_of reply_to
set_read_back q rights d a = grind (arith, get_accepted)

-- ---- the data sets after it

pub accepted_by : (q : RequestValue) (rights : Rights) (e : RowValue)
    → IsAcceptedSet q rights
    → row_of q.id ≡ Some e
    → row_refusal e q rights ≡ None
accepted_by q rights e a is =
    let P : Option RowValue → Type 0 = λ o. refusal_at o q rights ≡ None in
    subst P is a.accepted

pub set_changes : (q : RequestValue) (rights : Rights) (d : DataSetsValue) (e : RowValue)
    → IsAcceptedSet q rights
    → row_of q.id ≡ Some e
    → changed_by q rights d ≡ set_members e.layout q.port q.octets d
unfolding changed_by
set_changes q rights d e a is = rw (is, accepted_by q rights e a is, a.set) refl

-- ---- the port that is shown

named_at : (port : ℕ) (change : PortDataSet → PortDataSet) (k i : ℕ) (ports : List PortDataSet)
    → slice_get (map (λ e. changed_if (is_named port e.0) change e.1) (enumerate_from k ports)) i
    ≡ option_map (changed_if (is_named port (k + i)) change) (slice_get ports i)
named_at port change k i [] = refl
named_at port change k zero (p ∷ ps) =
    let same : k + 0 ≡ k = omega arith in
    rw same refl
named_at port change k (suc i) (p ∷ ps) =
    let same : k + suc i ≡ k + 1 + i = omega arith in
    rw same (named_at port change (k + 1) i ps)

pub some_at : {X : Type 0} (xs : List X) (i : ℕ) → i < length xs → (x : X) × (slice_get xs i ≡ Some x)
some_at [] i below = absurd (omega arith)
some_at (x ∷ xs) zero below = (x, refl)
some_at (x ∷ xs) (suc i) below = some_at xs i (omega arith)

-- one of N ports that the SET is for
pub record IsShown (port n count : ℕ) : Type 0 where
  pub positive : 1 ≤ n
  pub within : n ≤ count
  pub named : is_named port n ≡ true

-- who answers it: such a port if its id is of a port, else the clock
abbrev IsAnswerer : Bool → ℕ → ℕ → Option ℕ → Type 0
IsAnswerer true port count (Some n) = IsShown port n count
IsAnswerer false port count None = ⊤
IsAnswerer _ port count _ = ⊥

shown_port : (port n : ℕ) (change : PortChange) (d : DataSetsValue)
    → IsShown port n (length d.ports)
    → (p : PortDataSet) × (port_of n (with_ports port d change) ≡ Some (port_after change p))
unfolding named_changed
shown_port port n change d s =
    let low = s.positive in
    let high = s.within in
    let found = some_at d.ports (n - 1) (omega arith) in
    let no : n == 0 ≡ false = grind (arith, nat_tests) in
    let place : 1 + (n - 1) ≡ n = omega arith in grind (arith, found, named_at)

-- ---- which ids a SET may name

abbrev has_one_number : Layout → Bool
has_one_number layouts.Priority1 = true
has_one_number layouts.Priority2 = true
has_one_number layouts.Domain = true
has_one_number layouts.ClockAccuracy = true
has_one_number (layouts.Setting s) = true
has_one_number _ = false

abbrev is_settable : Layout → Bool
is_settable layouts.NullPtpManagement = true
is_settable layouts.UserDescription = true
is_settable layouts.UtcProperties = true
is_settable layout = has_one_number layout

settable : (id : ℕ) (e : RowValue)
    → row_of id ≡ Some e
    → has_action actions.Set e.actions ≡ true
    → is_settable e.layout ≡ true
unfolding row_of
settable id e is may = grind (arith, then_get, found)

-- ---- the dataField of each id of one number

module _ (port n : ℕ) (octets : List ℕ) (d : DataSetsValue) (range : AreOctets octets) (s : IsShown port n (length d.ports)) where
  shown_field : (layout : Layout)
      → has_one_number layout ≡ true
      → is_port_layout layout ≡ true
      → is_set_value (set_of layout) octets ≡ true
      → data_field_of layout (Some n) (set_members layout port octets d)
      ≡ octet_data_field (octet 0 octets)
  unfolding is_port_layout port_field_of set_members
  shown_field (layouts.Setting t) one at good =
      rw ((shown_port port n (changes.Setting t (octet 0 octets)) d s).1, itself t)
      (ap octet_data_field (octet_back t (octet 0 octets) (range 0)))
  shown_field _ one at good = cc

number_field : (layout : Layout)
    → has_one_number layout ≡ true
    → (octets : List ℕ)
    → octet_data_field (octet 0 octets) ≡ standard_field layout octets
number_field layouts.NullPtpManagement one octets = cc
number_field layouts.UserDescription one octets = cc
number_field layouts.UtcProperties one octets = cc
number_field _ one octets = refl

module _ (port : ℕ) (octets : List ℕ) (d : DataSetsValue) (range : AreOctets octets) where
  one_number : (layout : Layout)
      → has_one_number layout ≡ true
      → is_set_value (set_of layout) octets ≡ true
      → (b : Bool) (own : Option ℕ) → is_port_layout layout ≡ b
      → IsAnswerer b port (length d.ports) own
      → data_field_of layout own (set_members layout port octets d) ≡ standard_field layout octets
  unfolding clock_field_of is_port_layout set_members
  one_number layout one good true (Some n) at s = shown_field port n octets d range s layout one at good ∙ number_field layout one octets
  one_number layout one good false None at s = grind (arith, number_field)
  one_number layout one good true None at s = absurd s
  one_number layout one good false (Some n) at s = absurd s

  own_field : (layout : Layout) (own : Option ℕ) → is_settable layout ≡ true
      → is_set_length (set_of layout) octets ≡ true → is_set_value (set_of layout) octets ≡ true
      → IsAnswerer (is_port_layout layout) port (length d.ports) own
      → data_field_of layout own (set_members layout port octets d) ≡ standard_field layout octets
  unfolding clock_field_of set_members is_set_length is_port_layout set_of
  own_field layouts.NullPtpManagement (Some n) may size good s = nothing_held d.default.identity n (port_of n d)
  own_field layouts.NullPtpManagement None may size good s = absurd s
  own_field layouts.UserDescription None may size good s = text_back octets size
  own_field layouts.UserDescription (Some n) may size good s = absurd s
  own_field layouts.UtcProperties None may size good s = utc_back octets d.time (eqb-true _ _ size) range
  own_field layouts.UtcProperties (Some n) may size good s = absurd s
  own_field layout own may size good s = one_number layout may good (is_port_layout layout) own refl s

-- ---- every answer

kept : (b : Bool) (P : ℕ → Type 0) (a : ℕ) (rest : List ℕ)
    → (b ≡ true → P a)
    → All P rest
    → All P (if b then a ∷ rest else rest)
kept true P a rest h all = All-cons P a rest (h refl) all
kept false P a rest h all = all

filtered : (P : ℕ → Type 0) (p : ℕ → Bool) (a n : ℕ)
    → ((k : ℕ) → a ≤ k → k < a + n → p k ≡ true → P k)
    → All P (filter p (range_with_len a n))
filtered P p a zero h = λ k x below. absurd (omega arith)
filtered P p a (suc n) h =
    kept (p a) P a (filter p (range_with_len (a + 1) n)) (λ yes. h a (omega arith) (omega arith) yes)
    (filtered P p (a + 1) n (λ k low high yes. h k (omega arith) (omega arith) yes))

said : (action : Action) (field octets : List ℕ) → action ≡ actions.Set → field ≡ octets
    → outcome None action field ≡ Value octets
said actions.Set field octets set is = ap (λ (xs : List ℕ). Value xs) is
said actions.Get field octets set is = cc
said actions.Command field octets set is = cc
said actions.Response field octets set is = cc
said actions.Acknowledge field octets set is = cc

each : (b : Bool) (q : RequestValue) (e : DataSetsValue) (octets : List ℕ) → q.action ≡ actions.Set
    → ((own : Option ℕ)
    → IsAnswerer b q.port (length e.ports) own
    → data_field_at q.id own e ≡ octets)
    → All (λ a. a.outcome ≡ Value octets) (answers_of b q None e)
unfolding answer named_ports
each true q e octets set field =
    let P : Answer → Type 0 = λ a. a.outcome ≡ Value octets in
    let Q : Option ℕ → Type 0 = λ own. outcome None q.action (data_field_at q.id own e) ≡ Value octets in
    All-map P (answer q None e) (map Some (named_ports q.port (length e.ports)))
    (All-map Q (λ n. Some n) (named_ports q.port (length e.ports))
    (filtered (λ n. Q (Some n)) (is_named q.port) 1 (length e.ports)
    (λ k low high yes. grind (arith, said))))
each false q e octets set field = grind (arith, All-cons, said)

module _ (q : RequestValue) (rights : Rights) (d : DataSetsValue) (a : IsAcceptedSet q rights) (range : AreOctets q.octets) where
  field_after : (e : RowValue) (own : Option ℕ) → row_of q.id ≡ Some e
      → IsAnswerer (is_port_layout e.layout) q.port (length d.ports) own
      → data_field_at q.id own (changed_by q rights d) ≡ standard_field e.layout q.octets
  field_after e own is answerer =
      let none = accepted_by q rights e a is in
      let suits = suits_from e q rights none in
      let P : Action → Type 0 = λ action. is_value action (set_of e.layout) q.octets ≡ true in
      let L : Action → Type 0 = λ action. is_length action (set_of e.layout) q.octets ≡ true in
      rw (set_changes q rights d e a is, is)
      (own_field q.port q.octets d range e.layout own (settable q.id e is (permitted e q rights a.set none)) (subst L a.set suits.size) (subst P a.set suits.value) answerer)

  answered : (o : Option RowValue) (own : Option ℕ) → row_of q.id ≡ o
      → IsAnswerer (is_of_port q.id) q.port (length (changed_by q rights d).ports) own
      → data_field_at q.id own (changed_by q rights d) ≡ standard_field_at o q.octets
  answered None own is answerer =
      let P : Option RowValue → Type 0 = λ o. refusal_at o q rights ≡ None in
      let wrong = subst P is a.accepted in
      cc
  answered (Some e) own is answerer = grind (arith, field_after, layout_of, changed_by-ports)

  pub own_octets : All (λ x. x.outcome ≡ Value (standard_field_at (row_of q.id) q.octets))
      (reply_to q rights d).answers
  unfolding reply_to reply_of
  own_octets =
      rw a.accepted (each (is_of_port q.id) q (changed_by q rights d) (standard_field_at (row_of q.id) q.octets) a.set (λ own. answered (row_of q.id) own refl))
