-- Findings that follow from nothing, as lists of them grow.
use Rattle.std.proofs.Common.{◌≡◌, ℕ, ◌+◌, ◌<◌, ◌≤◌, List, [], ◌∷◌, ◌++◌, length, length-append, Option, Some, None, ⊎_elim, refl, sym, subst, ◌∙◌, arith}
use Rattle.std.proofs.lemmas.Bool.{cases_lt}
use Rattle.std.proofs.lemmas.List.{get_or_append_left, get_or_push}
use Rattle.std.proofs.lemmas.List.Elements.{All-weaker}
use Rattle.std.specs.List.{All}
use Rattle.std.specs.Option.{IfSome}
use Rattle.ptpm_causes.specs.Roots.{IsRoot}

pub IsRoot-more : {A : Type 0} (xs : List (Option A)) (x : Option A) (p : ℕ) → IsRoot xs p → IsRoot (xs ++ x ∷ []) p
IsRoot-more xs x p h = (omega (arith, length-append xs (x ∷ []), h.0), λ d. get_or_append_left xs (x ∷ []) d p h.0 ∙ h.1 d)

pub IsRoot-last : {A : Type 0} (xs : List (Option A)) (x : Option A) (p : ℕ) → length xs ≡ p → x ≡ None → IsRoot (xs ++ x ∷ []) p
IsRoot-last xs x p last none = (omega (arith, length-append xs (x ∷ []), last), λ d. get_or_push xs x d p last ∙ none)

-- where one list has a root, the other has one
pub roots-more : {A B : Type 0} (xs : List (Option A)) (ys : List (Option B)) (y : Option B) (n : ℕ)
    → length ys ≡ n
    → ((p : ℕ) → p < n → IsRoot xs p → IsRoot ys p)
    → (IsRoot xs n → y ≡ None)
    → (p : ℕ) → p < n + 1 → IsRoot xs p → IsRoot (ys ++ y ∷ []) p
roots-more xs ys y n len before here p lt h = ⊎_elim
    (λ (below : p < n). IsRoot-more ys y p (before p below h))
    (λ (above : n ≤ p). let is : n ≡ p = omega arith in IsRoot-last ys y p (len ∙ is) (here (subst (IsRoot xs) (sym is) h)))
    (cases_lt p n)

module _ {A : Type 0} (xs : List (Option A)) (places : List (Option ℕ)) (none : (p : ℕ) → p < length xs → IsRoot xs p → IsRoot places p) where
  printed_at : (o : Option ℕ) → IfSome o (IsRoot xs) → IfSome o (IsRoot places)
  printed_at None h = h
  printed_at (Some p) h = none p h.0 h

  -- a root by the reasons is one by the places
  pub printed : All (λ o. IfSome o (IsRoot xs)) places → All (λ o. IfSome o (IsRoot places)) places
  printed h = All-weaker (λ o. IfSome o (IsRoot xs)) (λ o. IfSome o (IsRoot places)) printed_at places h

-- one finding at least follows from nothing
pub some_root : {A : Type 0} (places : List (Option ℕ)) (causes : List (Option A))
    → 0 < length places
    → All (λ o. IfSome o (IsRoot places)) places
    → ((p : ℕ) → IsRoot places p → IsRoot causes p)
    → (p : ℕ) × IsRoot causes p
some_root [] causes lt h roots = absurd (omega (arith, lt))
some_root (None ∷ rest) causes lt h roots = (0, roots 0 (lt, λ d. refl))
some_root (Some p ∷ rest) causes lt h roots = (p, roots p (h 0 None lt))

module _ (places : List (Option ℕ)) (n : ℕ) (len : length places ≡ n) where
  within_at : (o : Option ℕ) → IfSome o (IsRoot places) → IfSome o (λ p. p < n)
  within_at None h = h
  within_at (Some p) h = omega (arith, h.0, len)

  -- each place is that of a finding
  pub all_within : All (λ o. IfSome o (IsRoot places)) places → All (λ o. IfSome o (λ p. p < n)) places
  all_within h = All-weaker (λ o. IfSome o (IsRoot places)) (λ o. IfSome o (λ p. p < n)) within_at places h
