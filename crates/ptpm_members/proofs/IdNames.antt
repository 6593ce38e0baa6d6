-- Names: looked up by way of numbers, and in either case.
use Rattle.std.proofs.Common.{◌≡◌, ap, ℕ, ◌+◌, ◌<◌, ◌≤◌, true, false, List, drop, length, get_or, drop-cons, add-one, Some, None, refl, ◌==◌, Bool, [], ◌∷◌, Option, IsTrue, ◌↔◌, if◌then◌else◌, bytes_eq, map, option_map, find, sym, ◌∙◌, arith}
use Rattle.std.proofs.Math.ListN.{drop_of_length-le}
use Rattle.std.specs.Str.{str_eq_ignore_ascii_case}
use Rattle.ptpm_members.specs.declared.other_ids.OtherId.{OtherId}
use Rattle.ptpm_members.specs.declared.number_names.Enumeration.{Enumeration}
use Rattle.ptpm_members.specs.NumberNames.{is_name, name_of, named_in}
use Rattle.ptpm_members.specs.OtherIds.{other_name, other_named_in}
use Rattle.std.proofs.lemmas.Bool.{false_from_ne_true}
use Rattle.std.proofs.lemmas.Bool.Decides.{nat_tests}
use Rattle.std.proofs.lemmas.Slice.Eq.{bytes_eq-Decides}
use Rattle.std.proofs.lemmas.Str.Ascii.{lowercase-uppercase}
use Rattle.std.specs.Char.{to_ascii_uppercase, to_ascii_lowercase}
use Rattle.ptpm_data.specs.declared.management_id.ManagementIdRow.{ManagementIdRow}
use Rattle.ptpm_data.specs.ManagementId.{RowValue, id_table, row_of, row_named, row_value, if_named}
use Rattle.ptpm_members.specs.IdNames.{capitals, id_name}

-- ---- looking a name up by way of the numbers

pub goes_on : (e : Enumeration) (text numbers : List ℕ) (i : ℕ) → i < length numbers
    → is_name text (name_of e (get_or numbers i 0)) ≡ false
    → named_in e text (drop (i + 1) numbers) ≡ named_in e text (drop i numbers)
goes_on e text numbers i inside other = rw (drop-cons numbers i 0 inside, add-one i, other) refl

pub is_found : (e : Enumeration) (text numbers : List ℕ) (i : ℕ) → i < length numbers
    → is_name text (name_of e (get_or numbers i 0)) ≡ true
    → named_in e text (drop i numbers) ≡ Some (get_or numbers i 0)
is_found e text numbers i inside this = rw (drop-cons numbers i 0 inside, this) refl

pub is_nowhere : (e : Enumeration) (text numbers : List ℕ) (i : ℕ) → length numbers ≤ i → named_in e text (drop i numbers) ≡ None
is_nowhere e text numbers i past = ap (named_in e text) (drop_of_length-le numbers past)

-- ---- an id that is only read

pub goes_on_others : (name : List ℕ) (ids : List OtherId) (i : ℕ) (d : OtherId) → i < length ids
    → str_eq_ignore_ascii_case name (other_name (get_or ids i d)) ≡ false
    → other_named_in name (drop (i + 1) ids) ≡ other_named_in name (drop i ids)
goes_on_others name ids i d inside other = rw (drop-cons ids i d inside, add-one i, other) refl

pub is_found_among : (name : List ℕ) (ids : List OtherId) (i : ℕ) (d : OtherId) → i < length ids
    → str_eq_ignore_ascii_case name (other_name (get_or ids i d)) ≡ true
    → other_named_in name (drop i ids) ≡ Some (get_or ids i d)
is_found_among name ids i d inside this = rw (drop-cons ids i d inside, this) refl

pub is_none_of : (name : List ℕ) (ids : List OtherId) (i : ℕ) → length ids ≤ i → other_named_in name (drop i ids) ≡ None
is_none_of name ids i past = ap (other_named_in name) (drop_of_length-le ids past)

-- ---- a name in either case is that of a row of the table if it is the row's name in capitals

-- ---- what holds of every row holds of a row that is found

first_same : {B : Type 0} (a b : B) (xs ys : List B) → a ∷ xs ≡ b ∷ ys → a ≡ b
first_same a b xs ys h = cc

others_same : {B : Type 0} (a b : B) (xs ys : List B) → a ∷ xs ≡ b ∷ ys → xs ≡ ys
others_same a b xs ys h = cc

pub of_found : {A B : Type 0} (f g : A → B) (test : A → Bool) (xs : List A) (x : A)
    → map f xs ≡ map g xs
    → find test xs ≡ Some x
    → f x ≡ g x
of_found f g test [] x same found = absurd (cc)
of_found f g test (y ∷ ys) x same found =
    elim (test y) as (λ b. (if b then Some y else find test ys) ≡ Some x → f x ≡ g x) [
      | true ↦ λ here. let this : y ≡ x = cc in
          sym (ap f this) ∙ first_same (f y) (g y) (map f ys) (map g ys) same ∙ ap g this
      | false ↦ λ later. of_found f g test ys x (others_same (f y) (g y) (map f ys) (map g ys) same) later
    ] found

pub passes : {A : Type 0} (test : A → Bool) (xs : List A) (x : A) → find test xs ≡ Some x → test x ≡ true
passes test [] x found = absurd (cc)
passes test (y ∷ ys) x found =
    elim (test y) as (λ b. test y ≡ b → (if b then Some y else find test ys) ≡ Some x → test x ≡ true) [
      | true ↦ λ is here. let this : y ≡ x = cc in sym (ap test this) ∙ is
      | false ↦ λ is later. passes test ys x later
    ] refl found

-- ---- either case

raised_letter : (c : ℕ) → to_ascii_uppercase (to_ascii_lowercase c) ≡ to_ascii_uppercase c
raised_letter c = grind (arith, nat_tests)

raised : (cs : List ℕ) → map to_ascii_uppercase (map to_ascii_lowercase cs) ≡ map to_ascii_uppercase cs
raised [] = refl
raised (c ∷ cs) = rw (raised_letter c, raised cs) refl

lowered : (cs : List ℕ) → map to_ascii_lowercase (map to_ascii_uppercase cs) ≡ map to_ascii_lowercase cs
lowered [] = refl
lowered (c ∷ cs) = rw (lowercase-uppercase c, lowered cs) refl

-- the table has its names in capitals
in_capitals : (id : ℕ) (e : RowValue) → row_of id ≡ Some e → capitals e.name ≡ e.name
unfolding row_of
in_capitals id e is =
    of_found (λ (r : RowValue). capitals r.name) (λ (r : RowValue). r.name) (λ (r : RowValue). r.id == id) id_table e refl is

raised_same : (id : ℕ) (e : RowValue) (name : List ℕ) → row_of id ≡ Some e
    → map to_ascii_lowercase e.name ≡ map to_ascii_lowercase name
    → e.name ≡ capitals name
raised_same id e name is same =
    sym (in_capitals id e is) ∙ sym (raised e.name) ∙ ap (map to_ascii_uppercase) same ∙ raised name

lowered_same : (e : RowValue) (name : List ℕ)
    → e.name ≡ capitals name
    → map to_ascii_lowercase e.name ≡ map to_ascii_lowercase name
lowered_same e name same = ap (map to_ascii_lowercase) same ∙ lowered name

-- ---- the row of an id, if it has the name

same_tested : (id : ℕ) (e : RowValue) (name : List ℕ) (b : Bool) → row_of id ≡ Some e
    → IsTrue b ↔ (map to_ascii_lowercase e.name ≡ map to_ascii_lowercase name)
    → b ≡ true
    → bytes_eq e.name (capitals name) ≡ true
same_tested id e name b is tested here =
    (bytes_eq-Decides e.name (capitals name)).1 (raised_same id e name is (tested.0 here))

other_tested : (id : ℕ) (e : RowValue) (name : List ℕ) (b : Bool)
    → IsTrue b ↔ (map to_ascii_lowercase e.name ≡ map to_ascii_lowercase name)
    → b ≡ false
    → bytes_eq e.name (capitals name) ≡ false
other_tested id e name b tested other =
    false_from_ne_true _ (λ same.
    let is_true : b ≡ true = tested.1 (lowered_same e name ((bytes_eq-Decides e.name (capitals name)).0 same)) in
    absurd (cc))

pub is_named : (id : ℕ) (e : RowValue) (name : List ℕ) (b : Bool) → Some e ≡ row_of id
    → IsTrue b ↔ (map to_ascii_lowercase e.name ≡ map to_ascii_lowercase name)
    → b ≡ true
    → Some e ≡ if_named (capitals name) (row_of id)
is_named id e name b is tested here =
    let same : bytes_eq e.name (capitals name) ≡ true = same_tested id e name b (sym is) tested here in
    rw (← is, same) refl

pub is_not_named : (id : ℕ) (e : RowValue) (name : List ℕ) (b : Bool) → Some e ≡ row_of id
    → IsTrue b ↔ (map to_ascii_lowercase e.name ≡ map to_ascii_lowercase name)
    → b ≡ false
    → None ≡ if_named (capitals name) (row_of id)
is_not_named id e name b is tested other =
    let differs : bytes_eq e.name (capitals name) ≡ false = other_tested id e name b tested other in
    rw (← is, differs) refl

pub is_no_row : (id : ℕ) (name : List ℕ) → None ≡ row_of id → None ≡ if_named (capitals name) (row_of id)
is_no_row id name is = rw (← is) refl

-- ---- there and back: each row is found by its id and by its name

found_by_id : (name : List ℕ) (e : RowValue) → row_named name ≡ Some e → row_of e.id ≡ Some e
unfolding row_of row_named
found_by_id name e is =
    of_found (λ (r : RowValue). row_of r.id) (λ (r : RowValue). Some r) (λ (r : RowValue). bytes_eq r.name name) id_table e refl is

found_by_name : (id : ℕ) (e : RowValue) → row_of id ≡ Some e → row_named e.name ≡ Some e
unfolding row_of row_named
found_by_name id e is =
    of_found (λ (r : RowValue). row_named r.name) (λ (r : RowValue). Some r) (λ (r : RowValue). r.id == id) id_table e refl is

has_id : (id : ℕ) (e : RowValue) → row_of id ≡ Some e → e.id ≡ id
unfolding row_of
has_id id e is =
    let same : (e.id == id) ≡ true = passes (λ (r : RowValue). r.id == id) id_table e is in
    grind (arith, nat_tests)

has_name : (name : List ℕ) (e : RowValue) → row_named name ≡ Some e → e.name ≡ name
unfolding row_named
has_name name e is = (bytes_eq-Decides e.name name).0 (passes (λ (r : RowValue). bytes_eq r.name name) id_table e is)

pub name_of_named : (name : List ℕ) (e : RowValue) → Some e ≡ row_named name → id_name e.id ≡ Some name
name_of_named name e is = rw (found_by_id name e (sym is), has_name name e (sym is)) refl

pub id_of_row : (id : ℕ) (name : List ℕ) (r : Option RowValue) → row_of id ≡ r
    → option_map (λ (e : RowValue). e.name) r ≡ Some name
    → option_map (λ (e : RowValue). e.id) (row_named name) ≡ Some id
id_of_row id name None is named = absurd (cc)
id_of_row id name (Some e) is named =
    let same : e.name ≡ name = cc in
    rw (← same, found_by_name id e is, has_id id e is) refl

named_of_name : (id : ℕ) (name : List ℕ) → id_name id ≡ Some name
    → option_map (λ (e : RowValue). e.id) (row_named name) ≡ Some id
named_of_name id name named = id_of_row id name (row_of id) refl named

-- ---- the same of a row of the program

pub is_only_id : (name : List ℕ) (found : Option ManagementIdRow) (row : ManagementIdRow) (id : ℕ)
    → found ≡ Some row
    → option_map row_value found ≡ row_named name
    → id_name id ≡ Some name
    → Some row.id ≡ Some id
is_only_id name found row id is valued named =
    let here : row_named name ≡ Some (row_value row) = sym valued ∙ ap (option_map row_value) is in
    rw here at (named_of_name id name named)

pub has_no_id : (name : List ℕ) (found : Option ManagementIdRow) (id : ℕ)
    → found ≡ None
    → option_map row_value found ≡ row_named name
    → id_name id ≡ Some name
    → None ≡ Some id
has_no_id name found id is valued named =
    let nowhere : row_named name ≡ None = sym valued ∙ ap (option_map row_value) is in
    rw nowhere at (named_of_name id name named)
