-- The items of an array as a list, the first of them, and searches of a list.
use Rattle.std.proofs.Common.{◌≡◌, ℕ, List, [], ◌∷◌, map, take, refl, ap, sym, ◌∙◌, Bool, true, false, ◌||◌, cond, Option, Some, is_some, option_map}
use Rattle.std.proofs.lemmas.List.{take-map}
use Rattle.toml.specs.Data.{Data}
use Rattle.toml.specs.View.{items_of, view}
use Rattle.toml.specs.declared.value.Value.{Value}
use Rattle.ptpm_script.specs.Heads.{list_of}
use Rattle.std.specs.List.{find, list_any}

-- ---- the items of an array as a list, and the first of them

pub list_items : (ds : List Data) → list_of (items_of ds) ≡ ds
list_items [] = refl
list_items (d ∷ ds) = ap (λ xs. d ∷ xs) (list_items ds)

-- the first items
pub first-views : (most : ℕ) (items first : List Value) (ds : List Data)
    → map view items ≡ ds
    → first ≡ take most items
    → map view first ≡ take most ds
first-views most items first ds seen cut = ap (map view) cut ∙ sym (take-map view most items) ∙ ap (take most) seen

-- ---- searches of a list, by what is shown of its elements

first_or : {A B : Type 0} (v : A → B) (b : Bool) (x : A) (rest : Option B) (shown : Option A)
    → rest ≡ option_map v shown
    → cond b (Some (v x)) rest ≡ option_map v (cond b (Some x) shown)
first_or v true x rest shown h = refl
first_or v false x rest shown h = h

-- the first that passes
pub found_shown : {A B : Type 0} (v : A → B) (test : B → Bool) (xs : List A)
    → find test (map v xs) ≡ option_map v (find (λ x. test (v x)) xs)
found_shown v test [] = refl
found_shown v test (x ∷ xs) = first_or v (test (v x)) x (find test (map v xs)) (find (λ x. test (v x)) xs) (found_shown v test xs)

some_or : {A : Type 0} (b : Bool) (x : A) (any : Bool) (found : Option A) → any ≡ is_some found → (b || any) ≡ is_some (cond b (Some x) found)
some_or true x any found h = refl
some_or false x any found h = h

-- one passes if there is a first
pub any_found : {A B : Type 0} (v : A → B) (test : B → Bool) (xs : List A) → list_any test (map v xs) ≡ is_some (find (λ x. test (v x)) xs)
any_found v test [] = refl
any_found v test (x ∷ xs) = some_or (test (v x)) x (list_any test (map v xs)) (find (λ x. test (v x)) xs) (any_found v test xs)
