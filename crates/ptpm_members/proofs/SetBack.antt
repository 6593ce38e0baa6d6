-- A text is read back from what is shown of it.
use Rattle.std.proofs.Common.{arith, ◌≡◌, ◌∙◌, ap, refl, ℕ, ◌+◌, ◌<◌, Bool, true, false, List, [], ◌∷◌, length, get_or, Option, Some, None, suc, ◌==◌, ◌++◌, zero, ◌-◌, ◌*◌, ◌/◌, ◌%◌, ◌^◌, ◌≤◌, replicate, take, pos, negsuc, Ok, inl, inr}
use Rattle.std.specs.Prelude.{if◌then◌else◌, ◌&&◌, flat_map, nat_le, not, bit_and, bit_or, decimal}
use Rattle.std.specs.Fmt.{digits, signed_decimal}
use Rattle.std.specs.List.{list_all, range_with_len}
use Rattle.std.specs.Str.{bytes_eq, all_ascii_digits}
use Rattle.std.proofs.lemmas.List.Folds.{list_all_at}
use Rattle.std.proofs.lemmas.List.FromFn.{get_or-range_with_len, length-range_with_len}
use Rattle.std.proofs.lemmas.Slice.Eq.{bytes_eq-Decides}
use Rattle.hex.proofs.OnLiterals.{hex_on_literals}
use Rattle.ptpm_data.specs.DataField.{i8_octet, i16_octets}
use Rattle.ptpm_members.specs.declared.forms.Form.{Form}
use Rattle.ptpm_members.specs.NumberNames.{enumeration_text, number_of}
use Rattle.ptpm_members.specs.Typed.{flag_of, mechanism_octet, number_up_to, octet_of, signed_number, typed, described, escaped, meant, meant_after}
use Rattle.ptpm_members.specs.ValueText.{flag_name, hexadecimal, value_text, escape, is_plain, shown_octet, shown_text}
use Rattle.std.proofs.lemmas.Bool.{and_parts, eqb-true, cases_lt, le-leb, le-ltb, lt-ltb, ne_eqb}
use Rattle.std.specs.Str.Parse.{digits_value}
use Rattle.std.proofs.lemmas.Fmt.{decimal_nonempty, digits_decimal, digits_value-decimal}
use Rattle.std.proofs.lemmas.Int.{ints}
use Rattle.std.proofs.lemmas.Str.Parse.{not_in_digits}
use Rattle.ptpm_data.specs.Ranges.{is_description}
use Rattle.byteorder.specs.Endian.{big_bytes, big_number, twos_complement}
use Rattle.ptpm_codec.specs.Layout.{octet}
use Rattle.ptpm_codec.specs.PtpText.{is_ptp_text, ptp_text}
use Rattle.ptpm_data.specs.declared.management_id.Layout.{Layout}
use Rattle.ptpm_data.specs.ManagementId.{set_of}
use Rattle.ptpm_data.specs.Refusals.{is_set_length, is_set_value}
use Rattle.ptpm_data.specs.SetLaws.{AreOctets, standard_field}
use Rattle.ptpm_members.specs.Names.{member_name}
use Rattle.ptpm_members.specs.Parsed.{each_named, laid, overlay, with_all, with_named, with_value, with_words}
use Rattle.ptpm_members.specs.RoundTrip.{IsInRange, words_of}
use Rattle.ptpm_members.specs.Tables.{field_size, fields_of}
use Rattle.ptpm_members.proofs.ParsingLemmas.{own}
use Rattle.ptpm_members.specs.declared.forms.Form.TheVariants as forms
use Rattle.ptpm_members.specs.declared.number_names.Enumeration.TheVariants as enumerations
use Rattle.ptpm_data.proofs.OwnOctets.{text_back as field_of_text}
use Rattle.ptpm_data.specs.declared.management_id.Layout.TheVariants as layouts
use Rattle.ptpm_data.specs.declared.port_setting.PortSetting.TheVariants as settings

-- ---- a value of one octet is read back from its text: each of the 256 is tried

abbrev is_one : ℕ → Option (List ℕ) → Bool
is_one a None = false
is_one a (Some octets) = bytes_eq octets (a ∷ [])

one_is : (a : ℕ) (o : Option (List ℕ)) → is_one a o ≡ true → o ≡ Some (a ∷ [])
one_is a None h = cc
one_is a (Some octets) h = ap (λ (xs : List ℕ). Some xs) ((bytes_eq-Decides octets (a ∷ [])).0 h)

tried_by : (test : ℕ → Bool) (n c : ℕ) (b : Bool) → test c ≡ b → list_all test (range_with_len 0 n) ≡ true → c < n → b ≡ true
tried_by test n c true is all small = refl
tried_by test n c false is all small =
    let inside : c < length (range_with_len 0 n) = rw (length-range_with_len 0 n) small in
    let from : 0 + c ≡ c = omega arith in
    let here : get_or (range_with_len 0 n) c 0 ≡ c = get_or-range_with_len 0 n c 0 small ∙ from in
    let fails : test (get_or (range_with_len 0 n) c 0) ≡ false = rw here is in
    let none : list_all test (range_with_len 0 n) ≡ false = list_all_at test (range_with_len 0 n) c 0 inside fails in
    cc

-- what holds of each number below another, as it is tried
pub tried : (test : ℕ → Bool) (n c : ℕ) → list_all test (range_with_len 0 n) ≡ true → c < n → test c ≡ true
tried test n c all small = tried_by test n c (test c) refl all small

-- whether it is read back
abbrev comes_back : Form → ℕ → Bool
comes_back form a = is_one a (typed form (value_text form (a ∷ [])))

all_unsigned : list_all (comes_back (forms.Unsigned 1)) (range_with_len 0 256) ≡ true
unfolding typed octet_of number_up_to digits
all_unsigned = refl

all_hexadecimal : list_all (comes_back (forms.Hexadecimal 1)) (range_with_len 0 256) ≡ true
unfolding typed octet_of hex_on_literals hexadecimal
all_hexadecimal = refl

all_signed : list_all (comes_back (forms.Signed 1)) (range_with_len 0 256) ≡ true
unfolding typed signed_number number_up_to digits i8_octet
all_signed = refl

all_mechanisms : list_all (comes_back (forms.Named enumerations.DelayMechanism)) (range_with_len 0 256) ≡ true
unfolding typed mechanism_octet number_of octet_of number_up_to digits hex_on_literals enumeration_text
all_mechanisms = refl

back : (form : Form) (a : ℕ) → list_all (comes_back form) (range_with_len 0 256) ≡ true → a < 256
    → typed form (value_text form (a ∷ [])) ≡ Some (a ∷ [])
back form a all small = one_is a _ (tried (comes_back form) 256 a all small)

pub unsigned_back : (a : ℕ) → a < 256 → typed (forms.Unsigned 1) (value_text (forms.Unsigned 1) (a ∷ [])) ≡ Some (a ∷ [])
unsigned_back a small = back (forms.Unsigned 1) a all_unsigned small

pub hexadecimal_back : (a : ℕ) → a < 256
    → typed (forms.Hexadecimal 1) (value_text (forms.Hexadecimal 1) (a ∷ [])) ≡ Some (a ∷ [])
hexadecimal_back a small = back (forms.Hexadecimal 1) a all_hexadecimal small

pub signed_octet_back : (a : ℕ) → a < 256
    → typed (forms.Signed 1) (value_text (forms.Signed 1) (a ∷ [])) ≡ Some (a ∷ [])
signed_octet_back a small = back (forms.Signed 1) a all_signed small

pub mechanism_back : (a : ℕ) → a < 256
    → typed (forms.Named enumerations.DelayMechanism) (value_text (forms.Named enumerations.DelayMechanism) (a ∷ [])) ≡ Some (a ∷ [])
mechanism_back a small = back (forms.Named enumerations.DelayMechanism) a all_mechanisms small

pub flag_back : (mask : ℕ) (b : Bool) → typed (forms.Flag mask) (flag_name b) ≡ Some ((if b then mask else 0) ∷ [])
unfolding typed flag_of
flag_back mask true = refl
flag_back mask false = refl

-- ---- a plain octet stands for itself, and an escape for its octet, whatever follows

plain_meant : (c : ℕ) (rest : List ℕ) → (c == 0x5c) ≡ false → meant (c ∷ rest) ≡ c ∷ meant rest
unfolding meant_after escaped
plain_meant c rest other = rw other refl

abbrev is_number : ℕ → Option ℕ → Bool
is_number a None = false
is_number a (Some n) = n == a

number_is : (a : ℕ) (o : Option ℕ) → is_number a o ≡ true → o ≡ Some a
number_is a None h = cc
number_is a (Some n) h = ap (λ (x : ℕ). Some x) (eqb-true n a h)

all_escapes : list_all (λ a. is_number a (escaped (escape a))) (range_with_len 0 256) ≡ true
unfolding escaped hex_on_literals
all_escapes = refl

escape_read : (a : ℕ) (rest : List ℕ) → a < 256 → escaped (escape a ++ rest) ≡ Some a
unfolding escaped
escape_read a rest small = number_is a _ (tried (λ c. is_number c (escaped (escape c))) 256 a all_escapes small)

escape_meant : (a : ℕ) (rest : List ℕ) → a < 256 → meant (escape a ++ rest) ≡ a ∷ meant rest
unfolding meant_after
escape_meant a rest small = rw (escape_read a rest small) refl

-- ---- the text

flipped : (b : Bool) → not b ≡ true → b ≡ false
flipped true h = cc
flipped false h = refl

shown_by : (b : Bool) (c : ℕ) (rest : List ℕ) → is_plain c ≡ b → c < 256
    → meant ((if b then c ∷ [] else escape c) ++ rest) ≡ c ∷ meant rest
shown_by true c rest is small =
    let p = and_parts (nat_le 0x20 c && nat_le c 0x7e) (not (c == 0x5c)) is in
    plain_meant c rest (flipped _ p.1)
shown_by false c rest is small = escape_meant c rest small

octet_meant : (c : ℕ) (rest : List ℕ) → c < 256 → meant (shown_octet c ++ rest) ≡ c ∷ meant rest
octet_meant c rest small = shown_by (is_plain c) c rest refl small

text_meant : (text : List ℕ) → ((i : ℕ) → get_or text i 0 < 256) → meant (shown_text text) ≡ text
unfolding shown_text meant_after
text_meant [] small = refl
text_meant (c ∷ cs) small =
    octet_meant c (flat_map shown_octet cs) (small 0)
    ∙ ap (λ (xs : List ℕ). c ∷ xs) (text_meant cs (λ i. small (suc i)))

text_back : (text : List ℕ) → ((i : ℕ) → get_or text i 0 < 256) → is_description text ≡ true
    → described (shown_text text) ≡ Some text
unfolding described
text_back text small is = rw (text_meant text small, is) refl

-- What a SET may have comes back from its text.
-- ---- numbers of two octets

decimal_back : (most n : ℕ) → n ≤ most → most < 2 ^ 64 → number_up_to most (decimal n) ≡ Some n
unfolding number_up_to
decimal_back most n below small =
    let fits : n < 2 ^ 64 = omega arith in
    let digits : all_ascii_digits (decimal n) ≡ true = digits_decimal own n fits in
    let value : digits_value 10 (decimal n) ≡ n = digits_value-decimal own n fits in
    let some : nat_le 1 (length (decimal n)) ≡ true = le-leb _ _ (decimal_nonempty n fits) in
    let within : nat_le n most ≡ true = le-leb n most below in
    rw (digits, some, value, within) refl

no_minus : (n : ℕ) → n < 2 ^ 64 → (octet 0 (decimal n) == 0x2d) ≡ false
no_minus n small =
    ne_eqb _ _ (not_in_digits own (decimal n) 0x2d (digits_decimal own n small) (λ within. absurd (omega arith)) 0 (decimal_nonempty n small))

natural_back : (most n : ℕ) → n ≤ most → most < 2 ^ 32 → signed_number most (signed_decimal (pos n)) ≡ Some (pos n)
unfolding signed_number
natural_back most n below small = rw (no_minus n (omega arith), decimal_back most n below (omega arith)) refl

negative_back : (most n : ℕ) → n ≤ most → most < 2 ^ 32 → signed_number most (signed_decimal (negsuc n)) ≡ Some (negsuc n)
unfolding signed_number
negative_back most n below small = rw (decimal_back (most + 1) (suc n) (omega arith) (omega arith)) refl

low_is : (n : ℕ) → n < 2 ^ 15 → twos_complement 2 n ≡ pos n
low_is n small = rw (lt-ltb n (2 ^ 15) small) refl

high_is : (n : ℕ) → 2 ^ 15 ≤ n → n < 2 ^ 16 → twos_complement 2 n ≡ negsuc (65535 - n)
high_is n big small = rw (le-ltb n (2 ^ 15) big) (omega (arith, ints))

pair_is : (a b : ℕ) → a < 256 → b < 256 → big_bytes 2 (big_number 2 (a ∷ b ∷ [])) ≡ a ∷ b ∷ []
pair_is a b small_a small_b =
    let high : (a * 256 + (b * 1 + 0)) / 256 % 256 ≡ a = omega arith in
    let low : (a * 256 + (b * 1 + 0)) % 256 ≡ b = omega arith in
    λ i. high i ∷ low i ∷ []

word_back : (n : ℕ) → n < 2 ^ 16 → typed (forms.Signed 2) (signed_decimal (twos_complement 2 n)) ≡ Some (big_bytes 2 n)
unfolding typed i16_octets
word_back n small = elim (cases_lt n (2 ^ 15)) [
  | inl low ↦ rw (low_is n low, natural_back 32767 n (omega arith) (omega arith)) refl
  | inr high ↦
      let same : 65536 - suc (65535 - n) ≡ n = omega arith in
      rw (high_is n high small, negative_back 32767 (65535 - n) (omega arith) (omega arith), same) refl
]

pub signed_pair_back : (a b : ℕ) → a < 256 → b < 256
    → typed (forms.Signed 2) (value_text (forms.Signed 2) (a ∷ b ∷ [])) ≡ Some (a ∷ b ∷ [])
signed_pair_back a b small_a small_b =
    word_back (big_number 2 (a ∷ b ∷ [])) (omega arith) ∙ ap (λ (xs : List ℕ). Some xs) (pair_is a b small_a small_b)

-- ---- one octet and a reserved one

by_two : (P : List ℕ → Type 0) → ((a b : ℕ) → P (a ∷ b ∷ [])) → (xs : List ℕ) → length xs ≡ 2 → P xs
by_two P each [] n = absurd (omega arith)
by_two P each (a ∷ []) n = absurd (omega arith)
by_two P each (a ∷ b ∷ []) n = each a b
by_two P each (a ∷ b ∷ c ∷ rest) n = absurd (omega arith)

by_four : (P : List ℕ → Type 0) → ((a b c d : ℕ) → P (a ∷ b ∷ c ∷ d ∷ [])) → (xs : List ℕ) → length xs ≡ 4 → P xs
by_four P each [] n = absurd (omega arith)
by_four P each (a ∷ []) n = absurd (omega arith)
by_four P each (a ∷ b ∷ []) n = absurd (omega arith)
by_four P each (a ∷ b ∷ c ∷ []) n = absurd (omega arith)
by_four P each (a ∷ b ∷ c ∷ d ∷ []) n = each a b c d
by_four P each (a ∷ b ∷ c ∷ d ∷ e ∷ rest) n = absurd (omega arith)

abbrev pub ComesBack : Layout → List ℕ → Type 0
ComesBack layout octets = with_words (fields_of layout) (words_of layout octets) (replicate (field_size layout) 0) ≡ Ok (standard_field layout octets)

-- what is typed for a sole member of one octet
sole : (layout : Layout) (octets : List ℕ) → (length octets == 2) ≡ true → AreOctets octets
    → ((a b : ℕ) → a < 256 → ComesBack layout (a ∷ b ∷ []))
    → ComesBack layout octets
sole layout octets size small each =
    by_two (λ xs. AreOctets xs → ComesBack layout xs) (λ a b range. each a b (range 0)) octets (eqb-true _ _ size) small

-- UTC_PROPERTIES: its flags are those of the lowest three bits
abbrev flag_bit : ℕ → ℕ → ℕ
flag_bit mask c = if not (bit_and c mask == 0) then mask else 0

all_flags : list_all (λ c. bit_or (bit_or (flag_bit 1 c) (flag_bit 2 c)) (flag_bit 4 c) == c % 8) (range_with_len 0 256) ≡ true
all_flags = refl

flags_back : (c : ℕ) → c < 256 → bit_or (bit_or (flag_bit 1 c) (flag_bit 2 c)) (flag_bit 4 c) ≡ c % 8
flags_back c small =
    eqb-true _ _ (tried (λ c. bit_or (bit_or (flag_bit 1 c) (flag_bit 2 c)) (flag_bit 4 c) == c % 8) 256 c all_flags small)

utc_back : (a b c d : ℕ) → a < 256 → b < 256 → c < 256 → ComesBack layouts.UtcProperties (a ∷ b ∷ c ∷ d ∷ [])
unfolding member_name with_words with_all each_named with_named with_value laid overlay
utc_back a b c d small_a small_b small_c =
    rw (signed_pair_back a b small_a small_b, flag_back 1 (not (bit_and c 1 == 0)), flag_back 2 (not (bit_and c 2 == 0)), flag_back 4 (not (bit_and c 4 == 0)))
    (ap (λ (x : ℕ). Ok (a ∷ b ∷ x ∷ 0 ∷ [])) (flags_back c small_c))

taken : (n i : ℕ) (xs : List ℕ) → ((k : ℕ) → get_or xs k 0 < 256) → get_or (take n xs) i 0 < 256
taken zero i xs small = omega arith
taken (suc n) i [] small = omega arith
taken (suc n) zero (x ∷ xs) small = small 0
taken (suc n) (suc i) (x ∷ xs) small = taken n i xs (λ k. small (suc k))

text_octets : (octets : List ℕ) → AreOctets octets → (i : ℕ) → get_or (ptp_text octets) i 0 < 256
text_octets [] small i = omega arith
text_octets (t ∷ xs) small i = taken t i xs (λ k. small (suc k))

description_back : (octets : List ℕ) → AreOctets octets → is_ptp_text octets ≡ true → is_description (ptp_text octets) ≡ true
    → ComesBack layouts.UserDescription octets
unfolding member_name with_words with_all each_named with_named with_value laid
description_back octets small whole good =
    rw (text_back (ptp_text octets) (text_octets octets small) good) (ap (λ (xs : List ℕ). Ok xs) (field_of_text octets whole))

pub set_back : (layout : Layout) (octets : List ℕ) → IsInRange layout octets → ComesBack layout octets
unfolding set_of is_set_length is_set_value is_description member_name with_words with_all each_named with_named with_value laid overlay
set_back layouts.NullPtpManagement octets ok = refl
set_back layouts.Priority1 octets ok = sole layouts.Priority1 octets ok.size ok.are_octets (λ a b small. rw (unsigned_back a small) refl)
set_back layouts.Priority2 octets ok = sole layouts.Priority2 octets ok.size ok.are_octets (λ a b small. rw (unsigned_back a small) refl)
set_back layouts.Domain octets ok = sole layouts.Domain octets ok.size ok.are_octets (λ a b small. rw (unsigned_back a small) refl)
set_back (layouts.Setting settings.AnnounceReceiptTimeout) octets ok = sole (layouts.Setting settings.AnnounceReceiptTimeout) octets ok.size ok.are_octets (λ a b small. rw (unsigned_back a small) refl)
set_back layouts.ClockAccuracy octets ok = sole layouts.ClockAccuracy octets ok.size ok.are_octets (λ a b small. rw (hexadecimal_back a small) refl)
set_back (layouts.Setting settings.LogAnnounceInterval) octets ok = sole (layouts.Setting settings.LogAnnounceInterval) octets ok.size ok.are_octets (λ a b small. rw (signed_octet_back a small) refl)
set_back (layouts.Setting settings.LogSyncInterval) octets ok = sole (layouts.Setting settings.LogSyncInterval) octets ok.size ok.are_octets (λ a b small. rw (signed_octet_back a small) refl)
set_back (layouts.Setting settings.LogMinPdelayReqInterval) octets ok = sole (layouts.Setting settings.LogMinPdelayReqInterval) octets ok.size ok.are_octets (λ a b small. rw (signed_octet_back a small) refl)
set_back (layouts.Setting settings.DelayMechanism) octets ok = sole (layouts.Setting settings.DelayMechanism) octets ok.size ok.are_octets (λ a b small. rw (mechanism_back a small) refl)
set_back layouts.UserDescription octets ok = description_back octets ok.are_octets ok.size ok.value
set_back layouts.UtcProperties octets ok =
    by_four (λ xs. AreOctets xs → ComesBack layouts.UtcProperties xs) (λ a b c d range. utc_back a b c d (range 0) (range 1) (range 2)) octets (eqb-true _ _ ok.size) ok.are_octets
set_back _ octets ok = let wrong = ok.size in cc
