-- Values that change once each, if the elements of a list are done one after the other.
use Rattle.std.proofs.Common.{◌≡◌, ℕ, ◌<◌, ◌≤◌, ◌⊎◌, false, inl, inr, ⊎_elim, refl, sym, ◌∙◌, ap, subst, arith, zero, suc, ◌+◌, Bool, true, cond, List, [], ◌∷◌, length, take, get_or}
use Rattle.std.proofs.lemmas.Bool.{cases_lt, true≢false, cases_Bool}
use Rattle.std.proofs.lemmas.Cmp.{upto}
use Rattle.std.proofs.lemmas.Map.Lookups.{CmpEqualImpliesEq}
use Rattle.std.specs.Cmp.{IsTotalOrder}
use Rattle.std.specs.Ordering.{is_gt, ordering_reverse}
use Rattle.std.specs.declared.cmp.Ordering.{Ordering}
use Rattle.std.specs.declared.cmp.Ordering.TheVariants.{Less, Equal, Greater}
use Rattle.std.proofs.lemmas.List.Sorted.{Contains-permutation, sum_by-IsPermutation}
use Rattle.std.proofs.lemmas.List.Sums.{sum_by-cons}
use Rattle.std.specs.List.{count_by, fold}
use Rattle.std.specs.List.Sorted.{IsPermutation}

-- ---- values that change once each: when the least one of them is another one. `rank n c` is that of c after the first n changes, `before c`
-- and `after c` what it is before and after its own, and `turn c` the number of that.

module _ {C K : Type 0} (R : K → K → Ordering) (Is : C → Type 0) where
  -- b has the least value
  pub record IsLeast (value : C → K) (b : C) : Type 0 where
    pub is : Is b
    pub least : (c : C) → Is c → is_gt (R (value b) (value c)) ≡ false

  -- each value changes once at most
  pub record AreCourses (rank : ℕ → C → K) (before after : C → K) (turn : C → ℕ) (count : ℕ) : Type 0 where
    pub early : (n : ℕ) (c : C) → Is c → n < turn c → rank n c ≡ before c
    pub late : (n : ℕ) (c : C) → Is c → turn c ≤ n → rank n c ≡ after c
    pub within : (c : C) → Is c → turn c ≤ count

  -- what gets least of all comes first; the present least one, if it gets greater, comes last
  pub record AreTurns (before after : C → K) (turn : C → ℕ) (b f : C) : Type 0 where
    pub first : R (after f) (before f) ≡ Less → (c : C) → Is c → (before c ≡ after c) ⊎ (turn f ≤ turn c)
    pub last : R (before b) (after b) ≡ Less → (c : C) → Is c → (before c ≡ after c) ⊎ (turn c ≤ turn b)

  -- there is a change before which b has the least value, and from which on f has
  pub record IsOnce (rank : ℕ → C → K) (b f : C) : Type 0 where
    pub when : ℕ
    pub until : (n : ℕ) → n < when → IsLeast (rank n) b
    pub since : (n : ℕ) → when ≤ n → IsLeast (rank n) f

module _ {K : Type 0} {R : K → K → Ordering} (o : IsTotalOrder R) (exact : CmpEqualImpliesEq R) where
  -- less, and then at most
  lt_le_by : (x y z : K) (s : Ordering) → R y z ≡ s → is_gt s ≡ false → R x y ≡ Less → R x z ≡ Less
  lt_le_by x y z Less q g h = o.trans x y z h q
  lt_le_by x y z Equal q g h = subst (λ w. R x w ≡ Less) (exact y z q) h
  lt_le_by x y z Greater q g h = absurd (true≢false g)

  lt_le : (x y z : K) → R x y ≡ Less → is_gt (R y z) ≡ false → R x z ≡ Less
  lt_le x y z h g = lt_le_by x y z (R y z) refl g h

  at_most : (x y : K) → R x y ≡ Less → is_gt (R x y) ≡ false
  at_most x y h = ap is_gt h

  module _ {C : Type 0} {Is : C → Type 0} (rank : ℕ → C → K) (before after : C → K) (turn : C → ℕ) (count : ℕ) (course : AreCourses R Is rank before after turn count) (b f : C) (now : IsLeast R Is before b) (then : IsLeast R Is after f) (turns : AreTurns R Is before after turn b f) where
    -- what does not change is what it was, and what it will be
    before_still : (n : ℕ) (c : C) → Is c → (before c ≡ after c) ⊎ (n < turn c) → rank n c ≡ before c
    before_still n c is = ⊎_elim
        (λ (same : before c ≡ after c). ⊎_elim (course.early n c is) (λ (late : turn c ≤ n). course.late n c is late ∙ sym same) (cases_lt n (turn c)))
        (λ (early : n < turn c). course.early n c is early)

    after_already : (n : ℕ) (c : C) → Is c → (before c ≡ after c) ⊎ (turn c ≤ n) → rank n c ≡ after c
    after_already n c is = ⊎_elim
        (λ (same : before c ≡ after c). ⊎_elim (λ (early : n < turn c). course.early n c is early ∙ same) (course.late n c is) (cases_lt n (turn c)))
        (λ (late : turn c ≤ n). course.late n c is late)

    -- a value that is at most what c was and will be is at most what it is
    at_most_rank : (x : K) (n : ℕ) (c : C) → Is c → is_gt (R x (before c)) ≡ false → is_gt (R x (after c)) ≡ false → is_gt (R x (rank n c)) ≡ false
    at_most_rank x n c is p q = ⊎_elim
        (λ (early : n < turn c). subst (λ w. is_gt (R x w) ≡ false) (sym (course.early n c is early)) p)
        (λ (late : turn c ≤ n). subst (λ w. is_gt (R x w) ≡ false) (sym (course.late n c is late)) q)
        (cases_lt n (turn c))

    -- b, as long as its value is what it is now
    least_at : (x : K) (n : ℕ) (a : C) → Is a → rank n a ≡ x → ((c : C) → Is c → is_gt (R x (before c)) ≡ false) → ((c : C) → Is c → is_gt (R x (after c)) ≡ false) → IsLeast R Is (rank n) a
    least_at x n a is e p q = record {
      is = is;
      least = λ c is_c. subst (λ w. is_gt (R w (rank n c)) ≡ false) (sym e) (at_most_rank x n c is_c (p c is_c) (q c is_c));
    }

    -- where all have their values of before, or of after
    all_before : (n : ℕ) → ((c : C) → Is c → rank n c ≡ before c) → IsLeast R Is (rank n) b
    all_before n all = record {
      is = now.is;
      least = λ c is. subst (λ w. is_gt (R w (rank n c)) ≡ false) (sym (all b now.is)) (subst (λ w. is_gt (R (before b) w) ≡ false) (sym (all c is)) (now.least c is));
    }

    all_after : (n : ℕ) → ((c : C) → Is c → rank n c ≡ after c) → IsLeast R Is (rank n) f
    all_after n all = record {
      is = then.is;
      least = λ c is. subst (λ w. is_gt (R w (rank n c)) ≡ false) (sym (all f then.is)) (subst (λ w. is_gt (R (after f) w) ≡ false) (sym (all c is)) (then.least c is));
    }

    earlier : (n m k : ℕ) → n < m → m ≤ k → n < k
    earlier n m k p q = omega arith

    later : (n m k : ℕ) → n ≤ m → m ≤ k → n ≤ k
    later n m k p q = omega arith

    -- one gets less than the least value now
    taken_over : R (after f) (before b) ≡ Less → IsOnce R Is rank b f
    taken_over less = record {
      when = turn f;
      until = λ n early. all_before n (λ c is. before_still n c is (⊎_elim (λ (same : before c ≡ after c). inl same) (λ (from : turn f ≤ turn c). inr (earlier n (turn f) (turn c) early from)) (turns.first better c is)));
      since = λ n late. least_at (after f) n f then.is (course.late n f then.is late) (λ c is. upto o (after f) (before b) (before c) (at_most (after f) (before b) less) (now.least c is)) then.least;
    }
      where
        better : R (after f) (before f) ≡ Less
        better = lt_le (after f) (before b) (before f) less (now.least f then.is)

    -- none does
    module _ (least : is_gt (R (before b) (after f)) ≡ false) where
      stays : (n : ℕ) → rank n b ≡ before b → IsLeast R Is (rank n) b
      stays n e = least_at (before b) n b now.is e now.least (λ c is. upto o (before b) (after f) (after c) least (then.least c is))

      given_up : R (before b) (after b) ≡ Less → IsOnce R Is rank b f
      given_up worse = record {
        when = turn b;
        until = λ n early. stays n (course.early n b now.is early);
        since = λ n late. all_after n (λ c is. after_already n c is (⊎_elim (λ (same : before c ≡ after c). inl same) (λ (to : turn c ≤ turn b). inr (later (turn c) (turn b) n to late)) (turns.last worse c is)));
      }

      kept : before b ≡ after b → IsOnce R Is rank b f
      kept same = record {
        when = count;
        until = λ n early. stays n (before_still n b now.is (inl same));
        since = λ n late. all_after n (λ c is. course.late n c is (later (turn c) count n (course.within c is) late));
      }

      by_own : (r : Ordering) → R (before b) (after b) ≡ r → IsOnce R Is rank b f
      by_own Less e = given_up e
      by_own Equal e = kept (exact (before b) (after b) e)
      by_own Greater e = absurd (true≢false (sym (ap is_gt e) ∙ upto o (before b) (after f) (after b) least (then.least b now.is)))

    by_first : (r : Ordering) → R (after f) (before b) ≡ r → IsOnce R Is rank b f
    by_first Less e = taken_over e
    by_first Equal e = by_own (ap is_gt (o.antisymm (before b) (after f) ∙ ap ordering_reverse e)) (R (before b) (after b)) refl
    by_first Greater e = by_own (ap is_gt (o.antisymm (before b) (after f) ∙ ap ordering_reverse e)) (R (before b) (after b)) refl

    pub once : IsOnce R Is rank b f
    once = by_first (R (after f) (before b)) refl

-- ---- what becomes of something if the elements of a list are done one after the other, and at most one of them is one that changes it

module _ {A : Type 0} (p : A → Bool) where
  -- the number of the first element that passes; beyond the list if none does
  abbrev pub turn_in : List A → ℕ
  turn_in [] = 1
  turn_in (x ∷ xs) = cond (p x) 1 (turn_in xs + 1)

  -- an element that passes
  pub record IsHit (xs : List A) (k : ℕ) (a : A) : Type 0 where
    pub within : k < length xs
    pub is : get_or xs k a ≡ a
    pub passes : p a ≡ true

  count_yes : (x : A) (xs : List A) → p x ≡ true → count_by p (x ∷ xs) ≡ 1 + count_by p xs
  count_yes x xs e = sum_by-cons (λ y. cond (p y) 1 0) x xs ∙ ap (λ b. cond b 1 0 + count_by p xs) e

  count_no : (x : A) (xs : List A) → p x ≡ false → count_by p (x ∷ xs) ≡ 0 + count_by p xs
  count_no x xs e = sum_by-cons (λ y. cond (p y) 1 0) x xs ∙ ap (λ b. cond b 1 0 + count_by p xs) e

  turn_yes : (x : A) (xs : List A) → p x ≡ true → turn_in (x ∷ xs) ≡ 1
  turn_yes x xs e = ap (λ b. cond b 1 (turn_in xs + 1)) e

  turn_no : (x : A) (xs : List A) → p x ≡ false → turn_in (x ∷ xs) ≡ turn_in xs + 1
  turn_no x xs e = ap (λ b. cond b 1 (turn_in xs + 1)) e

  hit_later : (x : A) (xs : List A) (k : ℕ) (a : A) → IsHit xs k a → IsHit (x ∷ xs) (suc k) a
  hit_later x xs k a h = record { within = omega (arith, h.within); is = h.is; passes = h.passes }

  pub turn_within : (xs : List A) → turn_in xs ≤ length xs + 1
  turn_within [] = omega arith
  turn_within (x ∷ xs) = ⊎_elim
      (λ (e : p x ≡ true). let t = turn_yes x xs e in omega arith)
      (λ (e : p x ≡ false). let t = turn_no x xs e in let ih = turn_within xs in omega arith)
      (cases_Bool (p x))

  -- the element of that number
  pub hit_at_turn : (xs : List A) → turn_in xs ≤ length xs → (k : ℕ) × ((a : A) × ((k + 1 ≡ turn_in xs) × IsHit xs k a))
  hit_at_turn [] h = absurd (omega arith)
  hit_at_turn (x ∷ xs) h = ⊎_elim
      (λ (e : p x ≡ true). (0, (x, (sym (turn_yes x xs e), record { within = omega arith; is = refl; passes = e }))))
      (λ (e : p x ≡ false).
      let t = turn_no x xs e in
      let shorter : turn_in xs ≤ length xs = omega arith in
      let ih = hit_at_turn xs shorter in
      (suc ih.0, (ih.1.0, (omega (arith, ih.1.1.0, t), hit_later x xs ih.0 ih.1.0 ih.1.1.1))))
      (cases_Bool (p x))

  -- none passes, or one does
  pub none_or_one : (xs : List A) → (count_by p xs ≡ 0) ⊎ ((k : ℕ) × ((a : A) × IsHit xs k a))
  none_or_one [] = inl refl
  none_or_one (x ∷ xs) = ⊎_elim
      (λ (e : p x ≡ true). inr (0, (x, record { within = omega arith; is = refl; passes = e })))
      (λ (e : p x ≡ false). ⊎_elim
      (λ (none : count_by p xs ≡ 0). let c = count_no x xs e in inl (omega arith))
      (λ (one : (k : ℕ) × ((a : A) × IsHit xs k a)). inr (suc one.0, (one.1.0, hit_later x xs one.0 one.1.0 one.1.1)))
      (none_or_one xs))
      (cases_Bool (p x))

  not_counted : (xs : List A) (k : ℕ) (a : A) → IsHit xs k a → count_by p xs ≡ 0 → ⊥
  not_counted [] k a h e = omega (arith, h.within)
  not_counted (x ∷ xs) zero a h e =
      let passes : p x ≡ true = subst (λ y. p y ≡ true) (sym h.is) h.passes in
      let c = count_yes x xs passes in omega arith
  not_counted (x ∷ xs) (suc k) a h e = ⊎_elim
      (λ (yes : p x ≡ true). let c = count_yes x xs yes in absurd (omega arith))
      (λ (no_ : p x ≡ false).
      let c = count_no x xs no_ in
      not_counted xs k a (record { within = omega (arith, h.within); is = h.is; passes = h.passes }) (omega arith))
      (cases_Bool (p x))

  module _ {B : Type 0} (step : B → A → B) (Of : B → Type 0) (keeps : (b : B) (a : A) → Of b → Of (step b a)) (idle : (b : B) (a : A) → Of b → p a ≡ false → step b a ≡ b) where
    pub none : (xs : List A) (b : B) → Of b → count_by p xs ≡ 0 → fold step b xs ≡ b
    none [] b of e = refl
    none (x ∷ xs) b of e = ⊎_elim
        (λ (yes : p x ≡ true). let c = count_yes x xs yes in absurd (omega arith))
        (λ (no_ : p x ≡ false).
        let c = count_no x xs no_ in
        ap (λ r. fold step r xs) (idle b x of no_) ∙ none xs b of (omega arith))
        (cases_Bool (p x))

    none_first : (xs : List A) (n : ℕ) (b : B) → Of b → count_by p xs ≡ 0 → fold step b (take n xs) ≡ b
    none_first [] zero b of e = refl
    none_first [] (suc n) b of e = refl
    none_first (x ∷ xs) zero b of e = refl
    none_first (x ∷ xs) (suc n) b of e = ⊎_elim
        (λ (yes : p x ≡ true). let c = count_yes x xs yes in absurd (omega arith))
        (λ (no_ : p x ≡ false).
        let c = count_no x xs no_ in
        ap (λ r. fold step r (take n xs)) (idle b x of no_) ∙ none_first xs n b of (omega arith))
        (cases_Bool (p x))

    pub early : (xs : List A) (n : ℕ) (b : B) → Of b → n < turn_in xs → fold step b (take n xs) ≡ b
    early [] zero b of h = refl
    early [] (suc n) b of h = refl
    early (x ∷ xs) zero b of h = refl
    early (x ∷ xs) (suc n) b of h = ⊎_elim
        (λ (yes : p x ≡ true). let t = turn_yes x xs yes in absurd (omega arith))
        (λ (no_ : p x ≡ false).
        let t = turn_no x xs no_ in
        ap (λ r. fold step r (take n xs)) (idle b x of no_) ∙ early xs n b of (omega arith))
        (cases_Bool (p x))

    turn_positive : (xs : List A) → 0 < turn_in xs
    turn_positive [] = omega arith
    turn_positive (x ∷ xs) = ⊎_elim
        (λ (yes : p x ≡ true). let t = turn_yes x xs yes in omega arith)
        (λ (no_ : p x ≡ false). let t = turn_no x xs no_ in omega arith)
        (cases_Bool (p x))

    pub late : (xs : List A) (n : ℕ) (b : B) → Of b → count_by p xs ≤ 1 → turn_in xs ≤ n → fold step b (take n xs) ≡ fold step b xs
    late [] zero b of c h = refl
    late [] (suc n) b of c h = refl
    late (x ∷ xs) zero b of c h = let t = turn_positive (x ∷ xs) in absurd (omega arith)
    late (x ∷ xs) (suc n) b of c h = ⊎_elim
        (λ (yes : p x ≡ true).
        let e = count_yes x xs yes in
        let rest : count_by p xs ≡ 0 = omega arith in
        none_first xs n (step b x) (keeps b x of) rest ∙ sym (none xs (step b x) (keeps b x of) rest))
        (λ (no_ : p x ≡ false).
        let e = count_no x xs no_ in
        let t = turn_no x xs no_ in
        late xs n (step b x) (keeps b x of) (omega arith) (omega arith))
        (cases_Bool (p x))

    -- the one that passes is all that is done
    only : (xs : List A) (k : ℕ) (a : A) (b : B) → Of b → count_by p xs ≤ 1 → IsHit xs k a → fold step b xs ≡ step b a
    only [] k a b of c h = absurd (omega (arith, h.within))
    only (x ∷ xs) zero a b of c h =
        let passes : p x ≡ true = subst (λ y. p y ≡ true) (sym h.is) h.passes in
        let e = count_yes x xs passes in
        none xs (step b x) (keeps b x of) (omega arith) ∙ ap (step b) h.is
    only (x ∷ xs) (suc k) a b of c h =
        let further : IsHit xs k a = record { within = omega (arith, h.within); is = h.is; passes = h.passes } in
        ⊎_elim
        (λ (yes : p x ≡ true). let e = count_yes x xs yes in absurd (not_counted xs k a further (omega arith)))
        (λ (no_ : p x ≡ false).
        let e = count_no x xs no_ in
        ap (λ r. fold step r xs) (idle b x of no_) ∙ only xs k a b of (omega arith) further)
        (cases_Bool (p x))

    -- the order does not matter
    pub in_any_order : (xs ys : List A) (b : B) → Of b → IsPermutation xs ys → count_by p xs ≤ 1 → fold step b xs ≡ fold step b ys
    in_any_order xs ys b of moved c =
        let same : count_by p ys ≡ count_by p xs = sum_by-IsPermutation (λ y. cond (p y) 1 0) xs ys moved in
        ⊎_elim
        (λ (zero_ : count_by p xs ≡ 0). none xs b of zero_ ∙ sym (none ys b of (same ∙ zero_)))
        (λ (one : (k : ℕ) × ((a : A) × IsHit xs k a)).
        let there = Contains-permutation xs ys one.1.0 moved (one.0, one.1.1.within, one.1.1.is) in
        only xs one.0 one.1.0 b of c one.1.1
        ∙ sym (only ys there.0 one.1.0 b of (omega arith) (record { within = there.1; is = there.2; passes = one.1.1.passes })))
        (none_or_one xs)
