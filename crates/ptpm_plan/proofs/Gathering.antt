-- One more of those that are gathered from the tables of a file, and the rows of one wish, of one table and of one port more.
use Rattle.std.proofs.Common.{◌≡◌, ℕ, zero, suc, arith, ◌+◌, ◌<◌, ◌≤◌, Bool, true, false, cond, List, [], ◌∷◌, ◌++◌, length, get_or, drop, map, Option, Some, None, option_map, refl, sym, ap, subst, ◌∙◌, append_assoc, append-nil, take, flat_map, fold}
use Rattle.std.specs.Prelude.{◌≢◌, IsErrAnd, Result, Ok, Err}
use Rattle.std.specs.List.{filter_map, find, range_with_len}
use Rattle.std.proofs.lemmas.List.{drop_more, drop_all, take_more}
use Rattle.toml.specs.Data.{Data}
use Rattle.toml.specs.View.{items_of}
use Rattle.ptpm_plan.specs.FileText.{ClockValue, Gathers, Reads, all_of, clock_value, first_of, has_alias, list_of}
use Rattle.ptpm_plan.specs.declared.file_fault.FileFault.{FileFault}
use Rattle.ptpm_plan.specs.declared.file_fault.FileFault.TheVariants as faults
use Rattle.ptpm_plan.specs.declared.wish.ClockWishes.{ClockWishes}
use Rattle.std.proofs.lemmas.List.Sums.{fold_push, fold-append}
use Rattle.ptpm_plan.specs.Asking.{row_for, rows_of_wishes}
use Rattle.ptpm_plan.specs.Rows.{with_row}
use Rattle.ptpm_plan.specs.declared.answer.Answer.{Answer}
use Rattle.ptpm_plan.specs.declared.asking.Of.{Of}
use Rattle.ptpm_plan.specs.declared.rows.Row.{Row}
use Rattle.ptpm_plan.specs.declared.wish.Wish.{Wish}

-- ---- one value more of those that are gathered from the tables of a file

pub list_items : (ds : List Data) → list_of (items_of ds) ≡ ds
list_items [] = refl
list_items (d ∷ ds) = ap (λ xs. d ∷ xs) (list_items ds)

found_or : (b : Bool) (c : ClockWishes) (o : Option ClockWishes) (v : Option ClockValue)
    → v ≡ option_map clock_value o → cond b (Some (clock_value c)) v ≡ option_map clock_value (cond b (Some c) o)
found_or true c o v e = refl
found_or false c o v e = e

-- the clock of an alias
pub found_value : (text : List ℕ) (clocks : List ClockWishes)
    → find (λ (c : ClockValue). has_alias text c.alias) (map clock_value clocks)
    ≡ option_map clock_value (find (λ (c : ClockWishes). has_alias text c.alias) clocks)
found_value text [] = refl
found_value text (c ∷ cs) = found_or (has_alias text c.alias) c _ _ (found_value text cs)

-- these, and then all of those
abbrev pub before_all : {A : Type 0} → List A → List (Option A) → Option (List A)
before_all made os = option_map (λ xs. made ++ xs) (all_of os)

pub none_before : {A : Type 0} (o : Option (List A)) → option_map (λ xs. [] ++ xs) o ≡ o
none_before None = refl
none_before (Some xs) = refl

mapped : {A : Type 0} (made : List A) (x : A) (o : Option (List A))
    → option_map (λ xs. made ++ xs) (option_map (λ xs. x ∷ xs) o) ≡ option_map (λ xs. (made ++ x ∷ []) ++ xs) o
mapped made x None = refl
mapped made x (Some xs) = ap Some (sym (append_assoc made (x ∷ []) xs))

gather : {A : Type 0} (made : List A) (o : Option A) (os : List (Option A)) (x : A)
    → o ≡ Some x → before_all made (o ∷ os) ≡ before_all (made ++ x ∷ []) os
gather made o os x e = ap (λ o. option_map (λ xs. made ++ xs) (first_of o (all_of os))) e ∙ mapped made x (all_of os)

map_push : {A B : Type 0} (f : A → B) (xs : List A) (x : A) → map f (xs ++ x ∷ []) ≡ map f xs ++ f x ∷ []
map_push f [] x = refl
map_push f (y ∷ ys) x = ap (λ zs. f y ∷ zs) (map_push f ys x)

-- of those values of which there is something
found_more : {A B : Type 0} (g : A → Option (Option B)) (made more : List B) (x : A) (xs : List A) (o : Option (Option B))
    → g x ≡ o → Gathers o made more
    → before_all made (filter_map g (x ∷ xs)) ≡ before_all more (filter_map g xs)
found_more g made more x xs None e is = rw (e, is)
found_more g made more x xs (Some None) e is = absurd is
found_more g made more x xs (Some (Some y)) e is =
    rw e (gather made (Some y) (filter_map g xs) y refl ∙ ap (λ ys. before_all ys (filter_map g xs)) (sym is))

pub gather_found : {A B : Type 0} (g : A → Option (Option B)) (made more : List B) (xs : List A) (i : ℕ) (d : A)
    → i < length xs → Gathers (g (get_or xs i d)) made more
    → before_all made (filter_map g (drop i xs)) ≡ before_all more (filter_map g (drop (i + 1) xs))
gather_found g made more xs i d below step =
    ap (λ ys. before_all made (filter_map g ys)) (drop_more xs i d below)
    ∙ found_more g made more (get_or xs i d) (drop (i + 1) xs) (g (get_or xs i d)) refl step

-- one of them is nothing
none_more : {A B : Type 0} (g : A → Option (Option B)) (made : List B) (x : A) (xs : List A)
    → g x ≡ Some None → before_all made (filter_map g (x ∷ xs)) ≡ None
none_more g made x xs e = rw e

pub none_found : {A B : Type 0} (g : A → Option (Option B)) (made : List B) (xs : List A) (i : ℕ) (d : A)
    → i < length xs → g (get_or xs i d) ≡ Some None → before_all made (filter_map g (drop i xs)) ≡ None
none_found g made xs i d below e =
    ap (λ ys. before_all made (filter_map g ys)) (drop_more xs i d below) ∙ none_more g made (get_or xs i d) (drop (i + 1) xs) e

-- a fault that `?` hands on
pub handed_on : {A B : Type 0} (r : Result A FileFault) (e : FileFault) (value : A → B) (found : Option B)
    → IsErrAnd r (λ x. x ≡ e) → (e ≢ faults.OutOfMemory → found ≡ None) → Reads r value found
handed_on (Ok a) e value found h none = absurd h
handed_on (Err x) e value found h none = subst (λ f. f ≢ faults.OutOfMemory → found ≡ None) (sym h) none

pub all_found : {A B : Type 0} (g : A → Option (Option B)) (made : List B) (xs : List A) (i : ℕ) → length xs ≤ i
    → before_all made (filter_map g (drop i xs)) ≡ Some made
all_found g made xs i past = ap (λ ys. before_all made (filter_map g ys)) (drop_all i xs past) ∙ ap Some (append-nil made)

-- ---- the rows of one wish more, of one table more, and of one port more

pub wishes_more : (answers : List Answer) (of : Of) (port : ℕ) (rows : List Row) (ws : List Wish) (i : ℕ) (w : Wish)
    → i < length ws → w ≡ get_or ws i w
    → fold with_row rows (rows_of_wishes answers of port (take (i + 1) ws))
    ≡ with_row (fold with_row rows (rows_of_wishes answers of port (take i ws))) (row_for answers of port w)
wishes_more answers of port rows ws i w below is =
    let more : take (i + 1) ws ≡ take i ws ++ w ∷ [] = take_more ws i w below ∙ ap (λ x. take i ws ++ x ∷ []) (sym is) in
    ap (λ xs. fold with_row rows (map (row_for answers of port) xs)) more
    ∙ ap (fold with_row rows) (map_push (row_for answers of port) (take i ws) w)
    ∙ fold_push with_row rows (map (row_for answers of port) (take i ws)) (row_for answers of port w)

flat_map_push : {A B : Type 0} (f : A → List B) (xs : List A) (x : A) → flat_map f (xs ++ x ∷ []) ≡ flat_map f xs ++ f x
flat_map_push f [] x = append-nil (f x)
flat_map_push f (y ∷ ys) x = ap (λ zs. f y ++ zs) (flat_map_push f ys x) ∙ sym (append_assoc (f y) (flat_map f ys) (f x))

pub flat_more : {A : Type 0} (f : A → List Row) (rows : List Row) (xs : List A) (i : ℕ) (x : A)
    → i < length xs → x ≡ get_or xs i x
    → fold with_row rows (flat_map f (take (i + 1) xs)) ≡ fold with_row (fold with_row rows (flat_map f (take i xs))) (f x)
flat_more f rows xs i x below is =
    let more : take (i + 1) xs ≡ take i xs ++ x ∷ [] = take_more xs i x below ∙ ap (λ y. take i xs ++ y ∷ []) (sym is) in
    ap (λ ys. fold with_row rows (flat_map f ys)) more
    ∙ ap (fold with_row rows) (flat_map_push f (take i xs) x)
    ∙ fold-append with_row rows (flat_map f (take i xs)) (f x)

range_more : (a n : ℕ) → range_with_len a (suc n) ≡ range_with_len a n ++ (a + n) ∷ []
range_more a zero = let here : a ≡ a + 0 = omega arith in ap (λ k. k ∷ []) here
range_more a (suc n) =
    let there : (a + 1) + n ≡ a + suc n = omega arith in
    ap (λ (xs : List ℕ). a ∷ xs) (range_more (a + 1) n ∙ ap (λ k. range_with_len (a + 1) n ++ k ∷ []) there)

-- the rows of one port more
pub ports_more : (f : ℕ → List Row) (rows : List Row) (place : ℕ)
    → fold with_row rows (flat_map f (range_with_len 1 (place + 1)))
    ≡ fold with_row (fold with_row rows (flat_map f (range_with_len 1 place))) (f (place + 1))
ports_more f rows place =
    let on : place + 1 ≡ suc place = omega arith in
    let next : 1 + place ≡ place + 1 = omega arith in
    let more : range_with_len 1 (place + 1) ≡ range_with_len 1 place ++ (place + 1) ∷ []
    = ap (range_with_len 1) on ∙ (range_more 1 place ∙ ap (λ k. range_with_len 1 place ++ k ∷ []) next) in
    ap (λ ys. fold with_row rows (flat_map f ys)) more
    ∙ ap (fold with_row rows) (flat_map_push f (range_with_len 1 place) (place + 1))
    ∙ fold-append with_row rows (flat_map f (range_with_len 1 place)) (f (place + 1))
