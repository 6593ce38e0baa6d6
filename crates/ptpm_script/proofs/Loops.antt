-- What is brought of some values, one after the other: how far a loop has come, and what holds of each if nothing is brought.
use Rattle.std.proofs.Common.{◌≡◌, ℕ, ◌+◌, List, [], ◌++◌, drop, map, take, zero, suc, Bool, true, false, ◌||◌, ◌∷◌, Some, refl, ap, sym, subst, ◌∙◌, is_some}
use Rattle.std.specs.List.{flat_map, AllByRecursion, list_any}
use Rattle.ptpm_script.specs.Marks.{each, each_after, Part, Spot, at_key, mark_if, value_mark, value_mark_if}
use Rattle.std.specs.Prelude.{slice_get}
use Rattle.std.proofs.lemmas.Bool.{both_ways, or_parts}
use Rattle.std.proofs.lemmas.List.Folds.{list_any-append}
use Rattle.std.proofs.lemmas.Option.{same_Some}
use Rattle.toml.specs.Data.{Members, get_member}
use Rattle.ptpm_script.specs.declared.net_error.NetError.{NetError}
use Rattle.ptpm_script.specs.NetworkValue.{AreDistinct}

-- ---- how far a loop has come that adds something for each of some values: what was added, and what those ahead will add, is all

-- by its number
abbrev pub ByNumber : {A B C : Type 0} → (A → B) → (ℕ → B → List C) → List C → List C → ℕ → List A → Type 0
ByNumber v of was now index xs = now ++ each of (index + 1) (map v (drop index xs)) ≡ was ++ each of 1 (map v xs)

-- by those before it
abbrev pub ByOthers : {A B C : Type 0} → (A → B) → (List B → B → List C) → List C → List C → ℕ → List A → Type 0
ByOthers v of was now index xs =
    now ++ each_after of (map v (take index xs)) (map v (drop index xs)) ≡ was ++ each_after of [] (map v xs)

-- by itself
abbrev pub ByItself : {A B C : Type 0} → (A → B) → (B → List C) → List C → List C → ℕ → List A → Type 0
ByItself v of was now index xs = now ++ flat_map of (map v (drop index xs)) ≡ was ++ flat_map of (map v xs)

-- ---- what holds of each element of a list if nothing is brought of any, and lists of which no two elements are alike

-- ---- each element

pub all-weaker : {A : Type 0} (P Q : A → Type 0) → ((x : A) → P x → Q x) → (xs : List A) → AllByRecursion P xs → AllByRecursion Q xs
all-weaker P Q f [] a = tt
all-weaker P Q f (x ∷ xs) a = (f x a.0, all-weaker P Q f xs a.1)

-- what follows from two facts of each element
pub all-both : {A : Type 0} (P Q R : A → Type 0) → ((x : A) → P x → Q x → R x) → (xs : List A)
    → AllByRecursion P xs
    → AllByRecursion Q xs
    → AllByRecursion R xs
all-both P Q R f [] a b = tt
all-both P Q R f (x ∷ xs) a b = (f x a.0 b.0, all-both P Q R f xs a.1 b.1)

pub all-map : {A B : Type 0} (make : A → B) (P : A → Type 0) (Q : B → Type 0) → ((x : A) → P x → Q (make x)) → (xs : List A)
    → AllByRecursion P xs
    → AllByRecursion Q (map make xs)
all-map make P Q f [] a = tt
all-map make P Q f (x ∷ xs) a = (f x a.0, all-map make P Q f xs a.1)

pub all-at : {A : Type 0} (P : A → Type 0) (xs : List A) (i : ℕ) (x : A) → AllByRecursion P xs → slice_get xs i ≡ Some x → P x
all-at P [] i x a e = absurd (cc)
all-at P (y ∷ ys) zero x a e = subst P (same_Some y x e) a.0
all-at P (y ∷ ys) (suc i) x a e = all-at P ys i x a.1 e

-- of what an element was made
pub map-at : {A B : Type 0} (make : A → B) (xs : List A) (i : ℕ) (y : B) → slice_get (map make xs) i ≡ Some y
    → (x : A) × (slice_get xs i ≡ Some x) × (make x ≡ y)
map-at make [] i y e = cc
map-at make (x ∷ xs) zero y e = (x, refl, same_Some (make x) y e)
map-at make (x ∷ xs) (suc i) y e = map-at make xs i y e

-- ---- nothing is brought

pub append-none : {A : Type 0} (xs ys : List A) → xs ++ ys ≡ [] → (xs ≡ []) × (ys ≡ [])
append-none [] ys h = (refl, h)
append-none (x ∷ xs) ys h = cc

pub flat-none : {A B : Type 0} (of : A → List B) (xs : List A) → flat_map of xs ≡ [] → AllByRecursion (λ x. of x ≡ []) xs
flat-none of [] h = tt
flat-none of (x ∷ xs) h = let both = append-none (of x) (flat_map of xs) h in (both.0, flat-none of xs both.1)

-- each by some number
pub each-none : {A B : Type 0} (of : ℕ → A → List B) (n : ℕ) (xs : List A) → each of n xs ≡ []
    → AllByRecursion (λ x. (k : ℕ) × (of k x ≡ [])) xs
each-none of n [] h = tt
each-none of n (x ∷ xs) h = let both = append-none (of n x) (each of (n + 1) xs) h in ((n, both.0), each-none of (n + 1) xs both.1)

-- each by some elements before it
pub after-none : {A B : Type 0} (of : List A → A → List B) (before xs : List A) → each_after of before xs ≡ []
    → AllByRecursion (λ x. (done : List A) × (of done x ≡ [])) xs
after-none of before [] h = tt
after-none of before (x ∷ xs) h =
    let both = append-none (of before x) (each_after of (before ++ x ∷ []) xs) h in
    ((before, both.0), after-none of (before ++ x ∷ []) xs both.1)

pub mark-none : (test : Bool) (class : NetError) (spot : Spot) (part : Part) → mark_if test class spot part ≡ [] → test ≡ false
mark-none true class spot part h = cc
mark-none false class spot part h = refl

pub value-none : (test : Bool) (class : NetError) (spot : Spot) (key : List ℕ) (ms : Members)
    → is_some (get_member key ms) ≡ true
    → value_mark_if test class spot key ms ≡ []
    → test ≡ false
unfolding value_mark
value-none true class spot key ms there h = sym there ∙ mark-none (is_some (get_member key ms)) class spot (at_key key) h
value-none false class spot key ms there h = refl

-- ---- no two are alike

-- none is like one before it
abbrev pub Apart : {A : Type 0} → (A → A → Bool) → List A → Type 0
Apart like [] = Unit {0}
Apart like (x ∷ xs) = AllByRecursion (λ y. like y x ≡ false) xs × Apart like xs

none_of_more : {A : Type 0} (test : A → Bool) (before : List A) (x : A) → list_any test (before ++ x ∷ []) ≡ false
    → (list_any test before ≡ false) × (test x ≡ false)
none_of_more test before x h =
    let both = or_parts (list_any test before) (test x || false) (sym (list_any-append test before (x ∷ [])) ∙ h) in
    (both.0, (or_parts (test x) false both.1).0)

apart_after : {A B : Type 0} (of : List A → A → List B) (like : A → A → Bool) (P : A → Type 0)
    → ((before : List A) (x : A) → P x → of before x ≡ [] → list_any (like x) before ≡ false)
    → (before xs : List A)
    → AllByRecursion P xs
    → each_after of before xs ≡ []
    → AllByRecursion (λ y. list_any (like y) before ≡ false) xs × Apart like xs
apart_after of like P here before [] a h = (tt, tt)
apart_after {A} of like P here before (x ∷ xs) a h =
    let both = append-none (of before x) (each_after of (before ++ x ∷ []) xs) h in
    let more = apart_after of like P here (before ++ x ∷ []) xs a.1 both.1 in
    let parts = λ (y : A) (none : list_any (like y) (before ++ x ∷ []) ≡ false). none_of_more (like y) before x none in
    ((here before x a.0 both.0, all-weaker _ _ (λ y none. (parts y none).0) xs more.0), (all-weaker _ _ (λ y none. (parts y none).1) xs more.0, more.1))

-- two elements that are alike either way are at one place
pub apart-places : {A : Type 0} (like : A → A → Bool) (xs : List A) → Apart like xs → (i j : ℕ) (x y : A)
    → slice_get xs i ≡ Some x
    → slice_get xs j ≡ Some y
    → like x y ≡ true
    → like y x ≡ true
    → i ≡ j
apart-places like [] a i j x y ei ej l r = absurd (cc)
apart-places like (z ∷ zs) a zero zero x y ei ej l r = refl
apart-places like (z ∷ zs) a zero (suc j) x y ei ej l r =
    absurd (both_ways (like y z) (all-at (λ v. like v z ≡ false) zs j y a.0 ej) (ap (like y) (same_Some z x ei) ∙ r))
apart-places like (z ∷ zs) a (suc i) zero x y ei ej l r =
    absurd (both_ways (like x z) (all-at (λ v. like v z ≡ false) zs i x a.0 ei) (ap (like x) (same_Some z y ej) ∙ l))
apart-places like (z ∷ zs) a (suc i) (suc j) x y ei ej l r = ap suc (apart-places like zs a.1 i j x y ei ej l r)

-- the same, of what brings something of each that is like one before it
pub each-after-apart : {A B : Type 0} (of : List A → A → List B) (like : A → A → Bool) (P : A → Type 0)
    → ((before : List A) (x : A) → P x → of before x ≡ [] → list_any (like x) before ≡ false)
    → (xs : List A)
    → AllByRecursion P xs
    → each_after of [] xs ≡ []
    → (i j : ℕ) (x y : A)
    → slice_get xs i ≡ Some x
    → slice_get xs j ≡ Some y
    → like x y ≡ true
    → like y x ≡ true
    → i ≡ j
each-after-apart of like P here xs a h = apart-places like xs (apart_after of like P here [] xs a h).1

-- what is made of such elements differs in a part by which they are alike
pub distinct-made : {A B C M : Type 0} (of : List A → A → List M) (like : A → A → Bool) (P : A → Type 0) (make : A → B) (part : B → C)
    → ((before : List A) (x : A) → P x → of before x ≡ [] → list_any (like x) before ≡ false)
    → ((x y : A) → P x → P y → part (make x) ≡ part (make y) → like x y ≡ true)
    → (xs : List A)
    → AllByRecursion P xs
    → each_after of [] xs ≡ []
    → AreDistinct part (map make xs)
distinct-made of like P make part here alike xs a h i j u v ei ej e =
    let x = map-at make xs i u ei in
    let y = map-at make xs j v ej in
    let at_x = all-at P xs i x.0 a x.1 in
    let at_y = all-at P xs j y.0 a y.1 in
    let same : part (make x.0) ≡ part (make y.0) = ap part x.2 ∙ e ∙ sym (ap part y.2) in
    each-after-apart of like P here xs a h i j x.0 y.0 x.1 y.1 (alike x.0 y.0 at_x at_y same) (alike y.0 x.0 at_y at_x (sym same))
