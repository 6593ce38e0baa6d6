-- What is meant by a typed text, numbers too, and how it is laid into a dataField.
use Rattle.std.proofs.Common.{arith, ◌≡◌, ap, refl, sym, ℕ, ◌^◌, ◌<◌, ◌≤◌, ◌≢◌, ◌==◌, Bool, true, false, List, [], ◌∷◌, length, get_or, Option, Some, None, Result, Ok, Err, ◌∙◌, ◌++◌, drop, length-append, suc, ◌+◌, ◌*◌, set, drop-cons, map}
use Rattle.std.specs.Prelude.{◌&&◌, IfSome, MatchOption, nat_le, option_map, if◌then◌else◌, bit_or}
use Rattle.std.specs.Borrow.{Bor}
use Rattle.std.specs.Bool.{then_some}
use Rattle.std.specs.Str.{all_ascii_digits}
use Rattle.std.specs.Str.Parse.{ParsesUnsigned, digits_value}
use Rattle.std.proofs.lemmas.Bool.{and_parts, eq-eqb, eqb-true, le-leb, leb-true, lt-leb}
use Rattle.std.proofs.lemmas.Str.Parse.{IsNumeralModel, numerals_by_value, parse_plain, tells_all_ascii_digits}
use Rattle.ptpm_codec.specs.Layout.{octet}
use Rattle.ptpm_members.specs.Typed.{number_up_to, without_minus, described, escaped, if_description, meant, meant_after}
use Rattle.std.proofs.lemmas.List.{append-nil, drop-drop, drop_all, get_or-drop, set_past}
use Rattle.ptpm_data.specs.ManagementId.{set_of}
use Rattle.ptpm_data.specs.Ranges.{is_description}
use Rattle.std.proofs.lemmas.Str.{is_utf8-from_IsUtf8, IsUtf8-from_is_utf8}
use Rattle.std.proofs.Math.ListN.{get_or-map}
use Rattle.ptpm_data.specs.declared.management_id.Layout.{Layout}
use Rattle.ptpm_members.specs.declared.forms.Field.{Field}
use Rattle.ptpm_members.specs.declared.parsing.ParseFault.{ParseFault}
use Rattle.ptpm_members.specs.Parsed.{each_named, overlay, then_with, with_all, with_named, word}
use Rattle.ptpm_members.specs.Tables.{fields_of}
use Rattle.ptpm_data.specs.declared.management_id.Layout.TheVariants as layouts
use Rattle.ptpm_data.specs.declared.port_setting.PortSetting.TheVariants as settings

-- ---- what `from_str_radix` reads, as the numbers that a person types

pub own : IsNumeralModel (λ ds. all_ascii_digits ds ≡ true) (digits_value 10)
own = numerals_by_value _ tells_all_ascii_digits

pub with_plus : (most : ℕ) (text : List ℕ) → (octet 0 text == 43) ≡ true → number_up_to most text ≡ None
unfolding number_up_to
with_plus most [] plus = cc
with_plus most (c ∷ cs) plus =
    let e : c ≡ 43 = eqb-true _ _ plus in
    rw e refl

not_plus : (text : List ℕ) → (octet 0 text == 43) ≡ false → get_or text 0 0 ≢ 43
not_plus text none is =
    let same : (octet 0 text == 43) ≡ true = eq-eqb _ _ is in
    cc

if_none : (b : Bool) (n : ℕ) → (b ≡ true → ⊥) → (let x : Option ℕ = if b then Some n else None in x) ≡ None
if_none true n never = absurd (never refl)
if_none false n never = refl

if_some : (b : Bool) (n : ℕ) → then_some b n ≡ (let x : Option ℕ = if b then Some n else None in x)
if_some true n = refl
if_some false n = refl

pub number_read : {E : Type 0} (most : ℕ) (text : List ℕ) (r : Result ℕ E) (n : ℕ) → r ≡ Ok n → (octet 0 text == 43) ≡ false
    → ParsesUnsigned 64 10 text r
    → then_some (nat_le n most) n ≡ number_up_to most text
unfolding number_up_to
number_read {E = E} most text r n is none read =
    let known = parse_plain own {E = E} 64 text (Ok n) (rw is at read) (not_plus text none) in
    let digits : all_ascii_digits text ≡ true = known.0.0 in
    let some : nat_le 1 (length text) ≡ true = le-leb 1 (length text) known.0.1 in
    let same : n ≡ digits_value 10 text = known.1 in
    rw (same, digits, some) (if_some (nat_le (digits_value 10 text) most) (digits_value 10 text))

pub number_unread : {E : Type 0} (most : ℕ) (text : List ℕ) (r : Result ℕ E) (e : E) → r ≡ Err e → most < 2 ^ 64
    → (octet 0 text == 43) ≡ false → ParsesUnsigned 64 10 text r
    → number_up_to most text ≡ None
unfolding number_up_to
number_unread {E = E} most text r e is small none unread =
    let known = parse_plain own {E = E} 64 text (Err e) (rw is at unread) (not_plus text none) in
    if_none (all_ascii_digits text && nat_le 1 (length text) && nat_le (digits_value 10 text) most) (digits_value 10 text) (λ is.
    let p = and_parts (all_ascii_digits text && nat_le 1 (length text)) (nat_le (digits_value 10 text) most) is in
    let q = and_parts (all_ascii_digits text) (nat_le 1 (length text)) p.0 in
    let some : 1 ≤ length text = leb-true _ _ q.1 in
    let low : digits_value 10 text ≤ most = leb-true _ _ p.1 in
    known (q.0, omega arith, omega arith))

small_if : (b : Bool) (most n : ℕ) → nat_le n most ≡ b → IfSome (then_some b n) (λ x. x ≤ most)
small_if true most n is = leb-true n most is
small_if false most n is = tt

pub small_if_some : (most n : ℕ) → IfSome (then_some (nat_le n most) n) (λ x. x ≤ most)
small_if_some most n = small_if (nat_le n most) most n refl

-- ---- a minus

pub minus_first : (text digits : List ℕ) → text ≡ 45 ∷ digits → without_minus text ≡ Some digits
minus_first text digits is = rw is refl

unless_minus : (b : Bool) (c : ℕ) (cs : List ℕ) → (c == 45) ≡ b → ((rest : List ℕ) → c ∷ cs ≢ 45 ∷ rest) → without_minus (c ∷ cs) ≡ None
unless_minus true c cs is never =
    let same : c ≡ 45 = eqb-true _ _ is in
    absurd (never cs (ap (λ (x : ℕ). x ∷ cs) same))
unless_minus false c cs is never = rw is refl

pub no_minus_first : (text : List ℕ) → ((rest : List ℕ) → text ≢ 45 ∷ rest) → without_minus text ≡ None
no_minus_first [] never = refl
no_minus_first (c ∷ cs) never = unless_minus (c == 45) c cs refl never

pub stripped : (text : List ℕ) (r : Option (Bor (List ℕ)))
    → MatchOption r ((rest : List ℕ) → text ≢ 45 ∷ rest) (λ x. text ≡ 45 ∷ x.now)
    → option_map (λ x. x.now) r ≡ without_minus text
stripped text None h = sym (no_minus_first text h)
stripped text (Some x) h = sym (minus_first text x.now h)

-- ---- what is meant by a typed text, and how it is laid into a dataField

-- ---- what is meant by a typed text, from its front on

pub meant_plain : (text : List ℕ) → 0 < length text → escaped text ≡ None → meant text ≡ get_or text 0 0 ∷ meant (drop 1 text)
unfolding meant_after
meant_plain [] some plain = absurd (omega arith)
meant_plain (c ∷ cs) some plain = rw plain refl

pub meant_escape : (text : List ℕ) (o : ℕ) → 4 ≤ length text → escaped text ≡ Some o → meant text ≡ o ∷ meant (drop 4 text)
unfolding meant_after
meant_escape [] o long is = absurd (omega arith)
meant_escape (a ∷ []) o long is = absurd (omega arith)
meant_escape (a ∷ b ∷ []) o long is = absurd (omega arith)
meant_escape (a ∷ b ∷ c ∷ []) o long is = absurd (omega arith)
meant_escape (a ∷ b ∷ c ∷ d ∷ rest) o long is = rw is refl

-- a text that is too long is no userDescription
pub too_long : (text done rest : List ℕ) (o : ℕ) → done ++ o ∷ rest ≡ meant text → 128 ≤ length done → described text ≡ None
unfolding described is_description set_of
too_long text done rest o is full =
    let long : 128 < length (meant text) = rw (← is) (omega (arith, length-append {A = ℕ})) in
    rw (lt-leb (length (meant text)) 128 long) refl

described_by : {A : Type 0} (f : A → List ℕ) (b : Bool) (v : A) → is_description (f v) ≡ b → option_map f (then_some b v) ≡ if_description (f v)
described_by f true v is = rw is refl
described_by f false v is = rw is refl

-- a text is what is meant once nothing is left
pub described_all : {A : Type 0} (f : A → List ℕ) (v : A) (text : List ℕ) → f v ≡ meant text
    → option_map f (then_some (is_description (f v)) v) ≡ described text
unfolding described
described_all f v text is = rw (← is) (described_by f (is_description (f v)) v refl)

pub meant_end : (text done rest : List ℕ) → rest ≡ [] → done ++ meant rest ≡ meant text → done ≡ meant text
unfolding meant_after
meant_end text done rest none is = sym (append-nil done) ∙ ap (λ (xs : List ℕ). done ++ meant xs) (sym none) ∙ is

pub ruleset is_utf8_laws = (is_utf8-from_IsUtf8, IsUtf8-from_is_utf8)

pub ruleset other_id_named_laws = (IsUtf8-from_is_utf8)

-- ---- steps of what is laid into a dataField

pub few_fields : (layout : Layout) → length (fields_of layout) < 256
few_fields layouts.NullPtpManagement = omega arith
few_fields (layouts.Setting settings.LogAnnounceInterval) = omega arith
few_fields (layouts.Setting s) = omega arith
few_fields _ = omega arith

-- ---- octets laid over others, one by one

overlay_step : (place i : ℕ) (octets field : List ℕ) → i < length octets
    → overlay (place + 1) (drop (i + 1) octets) (set field place (bit_or (get_or field place 0) (get_or octets i 0)))
    ≡ overlay place (drop i octets) field
unfolding overlay
overlay_step place i octets field inside =
    let next : i + 1 ≡ suc i = omega arith in
    rw (drop-cons octets i 0 inside)
    (ap (λ (n : ℕ). overlay (place + 1) (drop n octets) (set field place (bit_or (get_or field place 0) (get_or octets i 0)))) next)

pub overlay_within : (place i : ℕ) (octets field next : List ℕ) → i < length octets
    → next ≡ set field place (bit_or (get_or field place 0) (get_or octets i 0))
    → overlay (place + 1) (drop (i + 1) octets) next ≡ overlay place (drop i octets) field
overlay_within place i octets field next inside is = rw is (overlay_step place i octets field inside)

pub overlay_past : (place i : ℕ) (octets field next : List ℕ) → i < length octets → length field ≤ place → next ≡ field
    → overlay (place + 1) (drop (i + 1) octets) next ≡ overlay place (drop i octets) field
overlay_past place i octets field next inside past is =
    overlay_within place i octets field next inside (is ∙ sym (set_past field place (bit_or (get_or field place 0) (get_or octets i 0)) past))

-- ---- the members, one by one

each_step : (fs : List Field) (words : List (List ℕ)) (field : List ℕ) (i : ℕ) (f : Field) → i < length fs
    → each_named (drop i fs) (drop (2 * i) words) field
    ≡ then_with (with_named (get_or fs i f) (word (2 * i) words) (word (2 * i + 1) words) field) (each_named (drop (i + 1) fs) (drop (2 * (i + 1)) words))
unfolding each_named
each_step fs words field i f inside =
    let here : 2 * i + 0 ≡ 2 * i = omega arith in
    let behind : 2 * i + 2 ≡ 2 * (i + 1) = omega arith in
    let next : suc i ≡ i + 1 = omega arith in
    rw (drop-cons fs i f inside, get_or-drop (2 * i) words 0 [], get_or-drop (2 * i) words 1 [], drop-drop 2 (2 * i) words, here, behind)
    (ap (λ (n : ℕ). then_with (with_named (get_or fs i f) (word (2 * i) words) (word (2 * i + 1) words) field) (each_named (drop n fs) (drop (2 * (i + 1)) words))) next)

-- words as they are lent
abbrev pub texts : List (Bor (List ℕ)) → List (List ℕ)
texts words = map (λ w. w.now) words

named_is : (f : Field) (words : List (Bor (List ℕ))) (i : ℕ) (field : List ℕ) (none : Bor (List ℕ)) → none.now ≡ []
    → with_named f (get_or words i none).now (get_or words (i + 1) none).now field ≡ with_named f (word i (texts words)) (word (i + 1) (texts words)) field
named_is f words i field none empty =
    let name = get_or-map (λ (w : Bor (List ℕ)). w.now) words i none in
    let text = get_or-map (λ (w : Bor (List ℕ)). w.now) words (i + 1) none in
    rw (← name, ← text, empty) refl

-- after a member that is put
pub each_put : (fs : List Field) (words : List (Bor (List ℕ))) (field next : List ℕ) (i : ℕ) (f : Field) (none : Bor (List ℕ))
    → i < length fs
    → Ok next ≡ with_named (get_or fs i f) (get_or words (2 * i) none).now (get_or words (2 * i + 1) none).now field → none.now ≡ []
    → each_named (drop (i + 1) fs) (drop (2 * (i + 1)) (texts words)) next ≡ each_named (drop i fs) (drop (2 * i) (texts words)) field
each_put fs words field next i f none inside is empty =
    sym (each_step fs (texts words) field i f inside
    ∙ ap (λ (r : Result (List ℕ) ParseFault). then_with r (each_named (drop (i + 1) fs) (drop (2 * (i + 1)) (texts words))))
    (sym (is ∙ named_is (get_or fs i f) words (2 * i) field none empty)))

-- at a fault
pub each_fault : (fs : List Field) (words : List (Bor (List ℕ))) (field : List ℕ) (fault : ParseFault) (i : ℕ) (f : Field) (none : Bor (List ℕ))
    → i < length fs
    → Err fault ≡ with_named (get_or fs i f) (get_or words (2 * i) none).now (get_or words (2 * i + 1) none).now field → none.now ≡ []
    → each_named (drop i fs) (drop (2 * i) (texts words)) field ≡ Err fault
each_fault fs words field fault i f none inside is empty =
    each_step fs (texts words) field i f inside
    ∙ ap (λ (r : Result (List ℕ) ParseFault). then_with r (each_named (drop (i + 1) fs) (drop (2 * (i + 1)) (texts words))))
    (sym (is ∙ named_is (get_or fs i f) words (2 * i) field none empty))

pub each_of_all : (fs : List Field) (words : List (List ℕ)) (field : List ℕ) → length words ≡ 2 * length fs
    → with_all fs words field ≡ each_named fs words field
unfolding with_all
each_of_all fs words field count = rw (eq-eqb _ _ count) refl

pub each_done : (fs : List Field) (words : List (List ℕ)) (field : List ℕ) (i : ℕ) → length fs ≤ i → each_named (drop i fs) words field ≡ Ok field
unfolding each_named
each_done fs words field i past = rw (drop_all i fs past) refl
