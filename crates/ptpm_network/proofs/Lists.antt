-- What holds of each element of a list, and functions of places that change at one.
use Rattle.std.proofs.Common.{◌≡◌, Bool, true, false, ⊎_elim, suc, zero, ℕ, ◌*◌, ◌<◌, ◌≤◌, ◌==◌, not, List, [], ◌∷◌, ◌++◌, Some, refl, sym, subst, length, length-append, arith, slice_get, map, filter}
use Rattle.std.specs.Prelude.{◌&&◌, flat_map}
use Rattle.std.proofs.lemmas.Bool.{and_parts, cases_Bool, cond-true, cond-false, eqb-false, eqb-true, true≢false, ne_eqb}
use Rattle.std.proofs.lemmas.List.Filters.{length-filter_both}
use Rattle.std.specs.List.{AllByRecursion, list_any}
use Rattle.ptpm_network.specs.Events.{frame_at}
use Rattle.ptpm_network.specs.Machine.{with_place}

-- ---- the two cases of a test, and what a chain of tests says

pub by_test : {A : Type 0} (test : Bool) → (test ≡ true → A) → (test ≡ false → A) → A
by_test test holds fails = ⊎_elim holds fails (cases_Bool test)

-- what a chain of tests says of each, for a search
pub and_first : (a b : Bool) → (a && b) ≡ true → a ≡ true
and_first a b y = (and_parts a b y).0

pub and_rest : (a b : Bool) → (a && b) ≡ true → b ≡ true
and_rest a b y = (and_parts a b y).1

pub all_weaker : {X : Type 0} (P Q : X → Type 0)
    → ((x : X) → P x → Q x) → (xs : List X) → AllByRecursion P xs
    → AllByRecursion Q xs
all_weaker P Q f [] a = tt
all_weaker P Q f (x ∷ xs) a = (f x a.0, all_weaker P Q f xs a.1)

pub all_of : {X : Type 0} (P : X → Type 0) → ((x : X) → P x) → (xs : List X) → AllByRecursion P xs
all_of P f [] = tt
all_of P f (x ∷ xs) = (f x, all_of P f xs)

pub all_append : {X : Type 0} (P : X → Type 0)
    → (xs ys : List X) → AllByRecursion P xs → AllByRecursion P ys
    → AllByRecursion P (xs ++ ys)
all_append P [] ys a b = b
all_append P (x ∷ xs) ys a b = (a.0, all_append P xs ys a.1 b)

-- what is made of elements for which P holds
pub all_made : {X Y : Type 0} (P : X → Type 0) (Q : Y → Type 0) (make : X → Y)
    → ((x : X) → P x → Q (make x)) → (xs : List X) → AllByRecursion P xs
    → AllByRecursion Q (map make xs)
all_made P Q make f [] a = tt
all_made P Q make f (x ∷ xs) a = (f x a.0, all_made P Q make f xs a.1)

pub all_flat : {X Y : Type 0} (P : X → Type 0) (Q : Y → Type 0) (make : X → List Y)
    → ((x : X) → P x → AllByRecursion Q (make x)) → (xs : List X) → AllByRecursion P xs
    → AllByRecursion Q (flat_map make xs)
all_flat P Q make f [] a = tt
all_flat P Q make f (x ∷ xs) a = all_append Q (make x) (flat_map make xs) (f x a.0) (all_flat P Q make f xs a.1)

pub all_get : {X : Type 0} (P : X → Type 0)
    → (xs : List X) (i : ℕ) (x : X) → AllByRecursion P xs → slice_get xs i ≡ Some x
    → P x
all_get P [] i x a e = absurd (cc)
all_get P (y ∷ ys) zero x a e = let q : y ≡ x = cc in subst P q a.0
all_get P (y ∷ ys) (suc i) x a e = all_get P ys i x a.1 e

-- a frame by its number, from 1 on
pub frame_at-all : {X : Type 0} (P : X → Type 0)
    → (xs : List X) (n : ℕ) (x : X) → AllByRecursion P xs → frame_at xs n ≡ Some x
    → P x
frame_at-all P xs n x a e = grind (arith, cond-true, all_get, cond-false)

pub get_append : {X : Type 0} (xs ys : List X) (i : ℕ) (x : X)
    → slice_get xs i ≡ Some x
    → slice_get (xs ++ ys) i ≡ Some x
get_append [] ys i x e = absurd (cc)
get_append (y ∷ xs) ys zero x e = e
get_append (y ∷ xs) ys (suc i) x e = get_append xs ys i x e

-- the element that was appended, or one that was there
pub get_appended : {X : Type 0} (P : X → Type 0) (xs : List X) (y : X) (i : ℕ) (x : X)
    → P y → ((z : X) → slice_get xs i ≡ Some z → P z) → slice_get (xs ++ y ∷ []) i ≡ Some x
    → P x
get_appended P [] y zero x new old e = let q : y ≡ x = cc in subst P q new
get_appended P [] y (suc i) x new old e = absurd (cc)
get_appended P (z ∷ xs) y zero x new old e = old x e
get_appended P (z ∷ xs) y (suc i) x new old e = get_appended P xs y i x new old e

pub get_last : {X : Type 0} (xs : List X) (x : X) → slice_get (xs ++ x ∷ []) (length xs) ≡ Some x
get_last [] x = refl
get_last (y ∷ xs) x = get_last xs x

pub with_place-same : {A : Type 0} (f : ℕ → A) (i : ℕ) (v : A) (j : ℕ)
    → j == i ≡ true
    → with_place f i v j ≡ v
with_place-same f i v j y = cond-true _ _ _ y

pub with_place-other : {A : Type 0} (f : ℕ → A) (i : ℕ) (v : A) (j : ℕ)
    → j == i ≡ false
    → with_place f i v j ≡ f j
with_place-other f i v j n = cond-false _ _ _ n

-- what holds if one place has another value
pub at_place : {B : Type 0} (P : ℕ → B → Type 0) (g : ℕ → B) (i : ℕ) (b : B) (j : ℕ)
    → P i b → P j (g j)
    → P j (with_place g i b j)
at_place P g i b j new old = grind (arith, eqb-true)

pub at_places : {A B : Type 0} (P : ℕ → A → B → Type 0) (f : ℕ → A) (g : ℕ → B) (i : ℕ) (a : A)
    (b : B) (j : ℕ)
    → P i a b → P j (f j) (g j)
    → P j (with_place f i a j) (with_place g i b j)
at_places P f g i a b j new old = grind (arith, eqb-true)

pub flipped : (a b : ℕ) → a == b ≡ false → b == a ≡ false
flipped a b n = ne_eqb b a (λ (e : b ≡ a). eqb-false a b n (sym e))

-- ---- how many there are

pub filter-few : {X : Type 0} (test : X → Bool) (xs : List X) → length (filter test xs) ≤ length xs
filter-few test xs = omega (arith, length-filter_both test (λ x. not (test x)) (λ x. refl) xs)

-- one less at least, if one is left out
pub filter-fewer : {X : Type 0} (test : X → Bool) (xs : List X)
    → list_any test xs ≡ true
    → length (filter (λ x. not (test x)) xs) < length xs
filter-fewer test [] some = absurd (true≢false (sym some))
filter-fewer test (x ∷ xs) some = by_test (test x)
    (λ y. rw y (omega (arith, filter-few (λ z. not (test z)) xs)))
    (λ n. rw n (omega (arith, filter-fewer test xs (rw n at some))))

-- of each at most N
pub flat-few : {X Y : Type 0} (make : X → List Y) (most : ℕ)
    → ((x : X) → length (make x) ≤ most) → (xs : List X)
    → length (flat_map make xs) ≤ most * length xs
flat-few make most few [] = omega arith
flat-few make most few (x ∷ xs) = omega (arith, length-append (make x) (flat_map make xs), few x, flat-few make most few xs)
