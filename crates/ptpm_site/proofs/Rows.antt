-- Rows of a tree, as more rows come, and its marks.
use Rattle.std.proofs.Common.{◌≡◌, ℕ, ◌+◌, ◌<◌, ◌≢◌, ◌==◌, Bool, true, false, cond, zero, suc, List, [], ◌∷◌, ◌++◌, length, get_or, set, append-nil, add-zero, zero-add, eq-eqb, subst, refl, ap, sym, ◌∙◌, ⊎_elim, ◌-◌, ◌≤◌, length-append, take, append_assoc, Some, None, inl, inr, arith}
use Rattle.std.proofs.lemmas.Bool.{cases_eq, ne_eqb, cases_lt}
use Rattle.std.proofs.lemmas.List.{get_or-set_same, get_or-set_other, get_or-append_right, get_or_append_left, get_or_push, take-append-le}
use Rattle.std.proofs.lemmas.List.Elements.{filter_map-append, All-append, All-nil, All-push}
use Rattle.std.proofs.lemmas.List.Sums.{sum_by-append}
use Rattle.std.specs.List.{count_by, All}
use Rattle.ptpm_codec.specs.declared.identity.PortIdentity.{PortIdentity}
use Rattle.ptpm_site.specs.declared.tree.TreeRow.{TreeRow}
use Rattle.ptpm_site.specs.Tree.{IsGrown, place_of, places_of, rows_at, AreBelow, IsAbove, StandsBelow, depth_of}
use Rattle.ptpm_site.specs.declared.reading.domain.Domain.{Domain}
use Rattle.std.proofs.Math.Seq.{take-append_seam}
use Rattle.std.specs.List.Sorted.{IsNonDecreasingBy}
use Rattle.ptpm_site.specs.declared.tree.forest.Forest.{Forest}
use Rattle.ptpm_site.specs.Growing.{AreWaiting, IsFollowedIn, MayStand, StaysAbove, WaitBelow}
use Rattle.ptpm_site.specs.declared.tree.TreeRow.TheVariants as row

-- ---- rows that are added to a tree, and marks

-- no mark past the last is as good as one that says no
pub get_or-more_false : (xs : List Bool) (p : ℕ) → get_or (xs ++ false ∷ []) p false ≡ get_or xs p false
get_or-more_false [] zero = refl
get_or-more_false [] (suc p) = refl
get_or-more_false (x ∷ xs) zero = refl
get_or-more_false (x ∷ xs) (suc p) = get_or-more_false xs p

-- one more row of a clock
pub rows_at-clock : (rows : List TreeRow) (p depth q : ℕ) → rows_at q (rows ++ row.Clock p depth ∷ []) ≡ rows_at q rows + cond (p == q) 1 0
rows_at-clock rows p depth q =
    ap (count_by (λ r. r == q)) (filter_map-append place_of rows (row.Clock p depth ∷ []))
    ∙ sum_by-append (λ r. cond (r == q) 1 0) (places_of rows) (p ∷ [])
    ∙ ap (λ n. rows_at q rows + n) (zero-add (cond (p == q) 1 0))

-- one that names a port
pub rows_at-not_seen : (rows : List TreeRow) (domain : Domain) (parent : PortIdentity) (q : ℕ) → rows_at q (rows ++ row.NotSeen domain parent ∷ []) ≡ rows_at q rows
rows_at-not_seen rows domain parent q =
    ap (count_by (λ p. p == q)) (filter_map-append place_of rows (row.NotSeen domain parent ∷ []) ∙ append-nil (places_of rows))

-- a clock that has no row gets one, and its mark
pub IsGrown-clock : (marks : List Bool) (rows : List TreeRow) (p depth : ℕ)
    → IsGrown marks rows
    → p < length marks
    → get_or marks p false ≡ false
    → IsGrown (set marks p true) (rows ++ row.Clock p depth ∷ [])
IsGrown-clock marks rows p depth h within none q =
    ⊎_elim (λ e. let At : ℕ → Type 0 = λ r. rows_at r (rows ++ row.Clock p depth ∷ []) ≡ cond (get_or (set marks p true) r false) 1 0 in
    subst At e (rows_at-clock rows p depth p ∙ ap (λ n. n + cond (p == p) 1 0) (h p ∙ ap (λ b. cond b 1 0) none) ∙ ap (λ b. 0 + cond b 1 0) (eq-eqb p p refl)
    ∙ sym (ap (λ b. cond b 1 0) (get_or-set_same marks p true false within))))
    (λ ne. let other : q ≢ p = λ e. ne (sym e) in
    rows_at-clock rows p depth q ∙ ap (λ b. rows_at q rows + cond b 1 0) (ne_eqb p q ne) ∙ add-zero (rows_at q rows) ∙ h q
    ∙ sym (ap (λ b. cond b 1 0) (get_or-set_other marks p q true false other)))
    (cases_eq p q)

-- the same, with the marks covered first
pub IsGrown-more : (old_marks covered marks : List Bool) (old_rows rows : List TreeRow) (p depth : ℕ)
    → IsGrown old_marks old_rows
    → ((q : ℕ) → get_or covered q false ≡ get_or old_marks q false)
    → p < length covered
    → get_or old_marks p false ≡ false
    → rows ≡ old_rows ++ row.Clock p depth ∷ []
    → marks ≡ set covered p true
    → IsGrown marks rows
IsGrown-more old_marks covered marks old_rows rows p depth h same within none more marked q =
    let grown : IsGrown covered old_rows = λ r. h r ∙ ap (λ b. cond b 1 0) (sym (same r)) in
    ap (rows_at q) more ∙ IsGrown-clock covered old_rows p depth grown within (same p ∙ none) q ∙ ap (λ ms. cond (get_or ms q false) 1 0) (sym marked)

-- ---- rows below others, as more rows come

-- ---- one more row

pub IsAbove-push : (rows : List TreeRow) (r : TreeRow) (depth : ℕ) (above : TreeRow) → depth ≤ depth_of r → IsAbove rows depth above → IsAbove (rows ++ r ∷ []) depth above
IsAbove-push rows r depth above le h = record {
  earlier = h.earlier;
  later = h.later ++ r ∷ [];
  split = ap (λ rs. rs ++ r ∷ []) h.split ∙ append_assoc h.earlier (above ∷ h.later) (r ∷ []);
  step = h.step;
  nearest = All-push (λ s. depth ≤ depth_of s) h.later r h.nearest le;
}

pub IsAbove-last : (rows : List TreeRow) (r : TreeRow) → IsAbove (rows ++ r ∷ []) (depth_of r + 1) r
IsAbove-last rows r = record {
  earlier = rows;
  later = [];
  split = refl;
  step = refl;
  nearest = All-nil (λ s. depth_of r + 1 ≤ depth_of s);
}

StandsBelow-push : (follows : ℕ → TreeRow → Type 0) (rows : List TreeRow) (r : TreeRow) (place depth : ℕ) → depth ≤ depth_of r
    → StandsBelow follows rows (row.Clock place depth)
    → StandsBelow follows (rows ++ r ∷ []) (row.Clock place depth)
StandsBelow-push follows rows r place depth le h =
    ⊎_elim (λ root. inl root) (λ (above, is, followed). inr (above, IsAbove-push rows r depth above le is, followed)) h

pub AreBelow-push : (follows : ℕ → TreeRow → Type 0) (rows : List TreeRow) (r : TreeRow) → AreBelow follows rows → StandsBelow follows rows r → AreBelow follows (rows ++ r ∷ [])
AreBelow-push follows rows r h one k d lt = ⊎_elim
    (λ (below : k < length rows).
    let before : take k (rows ++ r ∷ []) ≡ take k rows = take-append-le k rows (r ∷ []) (omega arith) in
    subst (λ rs. StandsBelow follows rs (get_or (rows ++ r ∷ []) k d)) (sym before)
    (subst (λ s. StandsBelow follows (take k rows) s) (sym (get_or_append_left rows (r ∷ []) d k below)) (h k d below)))
    (λ (above : length rows ≤ k).
    let last : length rows ≡ k = omega (arith, length-append rows (r ∷ [])) in
    let before : take k (rows ++ r ∷ []) ≡ rows = ap (λ n. take n (rows ++ r ∷ [])) (sym last) ∙ take-append_seam rows (r ∷ []) in
    subst (λ rs. StandsBelow follows rs (get_or (rows ++ r ∷ []) k d)) (sym before)
    (subst (λ s. StandsBelow follows rows s) (sym (get_or_push rows r d k last)) one))
    (cases_lt k (length rows))

pub AreBelow-none : (follows : ℕ → TreeRow → Type 0) → AreBelow follows []
AreBelow-none follows k d lt = absurd (omega arith)

-- ---- what waits

-- numbers that do not fall, and then one that none of them is above
rising : (xs ys : List (ℕ × ℕ)) (top : ℕ)
    → IsNonDecreasingBy (λ w. w.1) xs
    → All (λ w. w.1 ≤ top) xs
    → All (λ w. w.1 ≡ top + 1) ys
    → IsNonDecreasingBy (λ w. w.1) (xs ++ ys)
rising xs ys top ordered low same i j d le lt =
    let left : (k : ℕ) → k < length xs → get_or (xs ++ ys) k d ≡ get_or xs k d = λ k below. get_or_append_left xs ys d k below in
    let right : (k : ℕ) → length xs ≤ k → k < length (xs ++ ys) → (get_or (xs ++ ys) k d).1 ≡ top + 1 = λ k above within.
    ap (λ (w : ℕ × ℕ). w.1) (get_or-append_right xs ys (length xs) k d refl above) ∙ same (k - length xs) d (omega (arith, length-append xs ys)) in
    ⊎_elim
    (λ (below : j < length xs).
    let first : i < length xs = omega arith in
    omega (arith, ap (λ (w : ℕ × ℕ). w.1) (left i first), ap (λ (w : ℕ × ℕ). w.1) (left j below), ordered i j d le below))
    (λ (above : length xs ≤ j). ⊎_elim
    (λ (first : i < length xs). omega (arith, ap (λ (w : ℕ × ℕ). w.1) (left i first), low i d first, right j above lt))
    (λ (both : length xs ≤ i). let within : i < length (xs ++ ys) = omega arith in omega (arith, right i both within, right j above lt))
    (cases_lt i (length xs)))
    (cases_lt j (length xs))

-- a clock gets its row, and those that follow it wait
module _ (forest : Forest) (rows : List TreeRow) (place depth : ℕ) where
  follower_stands : (w : ℕ × ℕ) → (get_or forest.followed.items w.0 None ≡ Some place) × (w.1 ≡ depth + 1)
      → MayStand forest (rows ++ row.Clock place depth ∷ []) (row.Clock w.0 w.1)
  follower_stands w (follows, deep) =
      let here : TreeRow = row.Clock place depth in
      inr (here, subst (λ n. IsAbove (rows ++ here ∷ []) n here) (sym deep) (IsAbove-last rows here), follows)

  waiting_more : (from : ℕ) (old more : List (ℕ × ℕ))
      → from ≤ depth
      → All (λ w. w.1 ≤ depth) old
      → AreWaiting forest rows from old
      → All (λ w. (get_or forest.followed.items w.0 None ≡ Some place) × (w.1 ≡ depth + 1)) more
      → AreWaiting forest (rows ++ row.Clock place depth ∷ []) from (old ++ more)
  waiting_more from old more le shallow h follow = record {
    stand = All-append (λ w. MayStand forest (rows ++ row.Clock place depth ∷ []) (row.Clock w.0 w.1)) old more
        (λ k d lt. StandsBelow-push (IsFollowedIn forest) rows (row.Clock place depth) (get_or old k d).0 (get_or old k d).1 (shallow k d lt) (h.stand k d lt))
        (λ k d lt. follower_stands (get_or more k d) (follow k d lt));
    deep = All-append (λ w. from ≤ w.1) old more h.deep (λ k d lt. let deeper = (follow k d lt).1 in omega (arith, deeper));
    ordered = rising old more depth h.ordered shallow (λ k d lt. (follow k d lt).1);
  }

  pub AreWaiting-put : (from : ℕ) (old new : List (ℕ × ℕ))
      → from ≤ depth
      → All (λ w. w.1 ≤ depth) old
      → WaitBelow forest place depth old new
      → AreWaiting forest rows from old
      → AreWaiting forest (rows ++ row.Clock place depth ∷ []) from new
  AreWaiting-put from old new le shallow below h =
      subst (AreWaiting forest (rows ++ row.Clock place depth ∷ []) from) (sym below.is) (waiting_more from old below.more le shallow h below.follow)

pub AreWaiting-none : (forest : Forest) (rows : List TreeRow) (from : ℕ) → AreWaiting forest rows from []
AreWaiting-none forest rows from = record {
  stand = All-nil (λ w. MayStand forest rows (row.Clock w.0 w.1));
  deep = All-nil (λ w. from ≤ w.1);
  ordered = λ i j d le lt. absurd (omega arith);
}

-- the last of those that wait comes next
module _ (forest : Forest) (rows : List TreeRow) (from : ℕ) (rest : List (ℕ × ℕ)) (w : ℕ × ℕ) (h : AreWaiting forest rows from (rest ++ w ∷ [])) where
  within : (k : ℕ) → k < length rest → k < length (rest ++ w ∷ [])
  within k lt = omega (arith, length-append rest (w ∷ []))

  all_within : length rest < length (rest ++ w ∷ [])
  all_within = omega (arith, length-append rest (w ∷ []))

  before : (d : ℕ × ℕ) (k : ℕ) → k < length rest → get_or (rest ++ w ∷ []) k d ≡ get_or rest k d
  before d k lt = get_or_append_left rest (w ∷ []) d k lt

  last : (d : ℕ × ℕ) → get_or (rest ++ w ∷ []) (length rest) d ≡ w
  last d = get_or_push rest w d (length rest) refl

  pub AreWaiting-rest : AreWaiting forest rows from rest
  AreWaiting-rest = record {
    stand = λ k d lt. subst (λ (v : ℕ × ℕ). MayStand forest rows (row.Clock v.0 v.1)) (before d k lt) (h.stand k d (within k lt));
    deep = λ k d lt. subst (λ (v : ℕ × ℕ). from ≤ v.1) (before d k lt) (h.deep k d (within k lt));
    ordered = λ i j d le lt.
        let first : i < length rest = omega arith in
        omega (arith, ap (λ (v : ℕ × ℕ). v.1) (before d i first), ap (λ (v : ℕ × ℕ). v.1) (before d j lt), h.ordered i j d le (within j lt));
  }

  pub rest_shallow : All (λ v. v.1 ≤ w.1) rest
  rest_shallow k d lt =
      omega (arith, ap (λ (v : ℕ × ℕ). v.1) (before d k lt), ap (λ (v : ℕ × ℕ). v.1) (last d), h.ordered k (length rest) d (omega arith) all_within)

  pub last_stands : MayStand forest rows (row.Clock w.0 w.1)
  last_stands = subst (λ (v : ℕ × ℕ). MayStand forest rows (row.Clock v.0 v.1)) (last w) (h.stand (length rest) w all_within)

  pub last_deep : from ≤ w.1
  last_deep = subst (λ (v : ℕ × ℕ). from ≤ v.1) (last w) (h.deep (length rest) w all_within)

pub StaysAbove-push : (rows : List TreeRow) (r : TreeRow) → StaysAbove (depth_of r) rows (rows ++ r ∷ [])
StaysAbove-push rows r n above le h = IsAbove-push rows r n above le h
