-- Ranks of clocks: their order, the least one, and what becomes of one along changes.
use Rattle.std.proofs.Common.{ℕ, List, ap, ◌≡◌, ◌==◌, ◌⊎◌, true, false, cond, [], ◌∷◌, map, Option, None, Some, inl, inr, ⊎_elim, refl, sym, ◌∙◌, subst, ◌&&◌, Bool}
use Rattle.std.proofs.lemmas.Map.Lookups.{CmpEqualImpliesEq, exact_bytes, exact_pairs, exact_unsigned}
use Rattle.std.proofs.lemmas.Cmp.{nat_cmp_total, nat_list_cmp_total, on_total, then_total, tied_itself, upto}
use Rattle.std.specs.Cmp.{IsTotalOrder}
use Rattle.std.specs.Ordering.{nat_cmp, ordering_then, is_gt, is_lt, ord_min, ordering_reverse}
use Rattle.std.specs.declared.cmp.Ordering.{Ordering}
use Rattle.ptpm_plan.specs.BestClock.{rank_cmp, better_of, after_change, changes_rank, is_of_rank, rank_with, ranks_after}
use Rattle.ptpm_plan.specs.declared.best_clock.Rank.{Rank}
use Rattle.std.proofs.lemmas.Bool.{cases_Bool, eqb-false, eqb-true}
use Rattle.std.proofs.lemmas.Option.{none-some}
use Rattle.std.specs.List.{fold}
use Rattle.std.specs.declared.cmp.Ordering.TheVariants.{Less, Equal, Greater}
use Rattle.ptpm_plan.specs.declared.best_clock.RankedClock.{RankedClock}
use Rattle.std.proofs.lemmas.List.{map-id}
use Rattle.std.proofs.lemmas.Simd.{map-map}
use Rattle.ptpm_codec.specs.Identity.{same_clock}
use Rattle.ptpm_codec.specs.Layout.{octet}
use Rattle.ptpm_codec.specs.declared.identity.ClockIdentity.{ClockIdentity}
use Rattle.ptpm_plan.specs.declared.change.Change.{Change}
use Rattle.ptpm_plan.specs.declared.change.PlannedId.{PlannedId}
use Rattle.ptpm_plan.specs.declared.change.PlannedId.TheVariants as ids

-- ---- ranks are in a total order, and two that compare alike are one

pub ranks_total : IsTotalOrder rank_cmp
ranks_total = then_total (on_total (λ r. r.priority1) nat_cmp_total)
    (then_total (on_total (λ r. r.class) nat_cmp_total)
    (then_total (on_total (λ r. r.accuracy) nat_cmp_total)
    (then_total (on_total (λ r. r.variance) nat_cmp_total)
    (then_total (on_total (λ r. r.priority2) nat_cmp_total)
    (on_total (λ r. r.identity.0) nat_list_cmp_total)))))

members_of : Rank → ℕ × (ℕ × (ℕ × (ℕ × (ℕ × List ℕ))))
members_of r = (r.priority1, (r.class, (r.accuracy, (r.variance, (r.priority2, r.identity.0)))))

rank_from : ℕ × (ℕ × (ℕ × (ℕ × (ℕ × List ℕ)))) → Rank
rank_from m = record {
  priority1 = m.0;
  class = m.1.0;
  accuracy = m.1.1.0;
  variance = m.1.1.1.0;
  priority2 = m.1.1.1.1.0;
  identity = record { 0 = m.1.1.1.1.1 };
}

exact_then : {A : Type 0} (R : A → A → Ordering) → CmpEqualImpliesEq R → CmpEqualImpliesEq (λ (x y : ℕ × A). ordering_then (nat_cmp x.0 y.0) (R x.1 y.1))
exact_then R exact = exact_pairs nat_cmp R exact_unsigned exact

pub exact_ranks : CmpEqualImpliesEq rank_cmp
unfolding members_of rank_from
exact_ranks a b h = ap rank_from (exact_then _ (exact_then _ (exact_then _ (exact_then _ (exact_then _ exact_bytes)))) (members_of a) (members_of b) h)

-- ---- the best clock of a domain has the least rank in it

abbrev pub IsIn : {A : Type 0} → A → List A → Type 0
IsIn a [] = ⊥
IsIn a (x ∷ xs) = (a ≡ x) ⊎ IsIn a xs

pub mapped_in : {A B : Type 0} (f : A → B) (xs : List A) (a : A) → IsIn a xs → IsIn (f a) (map f xs)
mapped_in f [] a h = h
mapped_in f (x ∷ xs) a h = ⊎_elim (λ (e : a ≡ x). inl (ap f e)) (λ (there : IsIn a xs). inr (mapped_in f xs a there)) h

pub from_map : {A B : Type 0} (f : A → B) (xs : List A) (b : B) → IsIn b (map f xs) → (a : A) × (IsIn a xs × (f a ≡ b))
from_map f [] b h = absurd h
from_map f (x ∷ xs) b h = ⊎_elim
    (λ (e : b ≡ f x). (x, (inl refl, sym e)))
    (λ (there : IsIn b (map f xs)). let found = from_map f xs b there in (found.0, (inr found.1.0, found.1.1)))
    h

abbrev pub AtMost : Rank → Rank → Type 0
AtMost a b = is_gt (rank_cmp a b) ≡ false

-- the lesser of the least rank so far and another one
record IsLesser (so_far : Option Rank) (rank : Rank) (least : Rank) : Type 0 where
  below : (a : Rank) → so_far ≡ Some a → AtMost least a
  below_it : AtMost least rank
  origin : (so_far ≡ Some least) ⊎ (rank ≡ least)

some_is : (a b : Rank) → Some a ≡ Some b → a ≡ b
some_is a b e = cc

lesser_by : (best r : Rank) (o : Ordering) → rank_cmp r best ≡ o → (w : Rank) → w ≡ cond (is_lt o) r best → IsLesser (Some best) r w
lesser_by best r Less e w is = record {
  below = λ a same. subst (λ x. AtMost x a) (sym is) (subst (AtMost r) (some_is best a same) (ap is_gt e));
  below_it = subst (λ x. AtMost x r) (sym is) (ap is_gt (tied_itself ranks_total r));
  origin = inr (sym is);
}
lesser_by best r Equal e w is = record {
  below = λ a same. subst (λ x. AtMost x a) (sym is) (subst (AtMost best) (some_is best a same) (ap is_gt (tied_itself ranks_total best)));
  below_it = subst (λ x. AtMost x r) (sym is) (ap is_gt (ranks_total.antisymm best r ∙ ap ordering_reverse e));
  origin = inl (ap Some (sym is));
}
lesser_by best r Greater e w is = record {
  below = λ a same. subst (λ x. AtMost x a) (sym is) (subst (AtMost best) (some_is best a same) (ap is_gt (tied_itself ranks_total best)));
  below_it = subst (λ x. AtMost x r) (sym is) (ap is_gt (ranks_total.antisymm best r ∙ ap ordering_reverse e));
  origin = inl (ap Some (sym is));
}

lesser : (so_far : Option Rank) (r : Rank) → (w : Rank) × ((better_of so_far r ≡ Some w) × IsLesser so_far r w)
lesser None r = (
  r,
  (
    refl,
    record {
      below = λ a same. absurd (none-some a same);
      below_it = ap is_gt (tied_itself ranks_total r);
      origin = inr refl;
    },
  ),
)
lesser (Some best) r = (ord_min rank_cmp best r, (refl, lesser_by best r (rank_cmp r best) refl (ord_min rank_cmp best r) refl))

module _ (domain : ℕ) where
  abbrev pub fold_best : Option Rank → RankedClock → Option Rank
  fold_best best r = cond (r.domain == domain) (better_of best r.rank) best

  -- what the fold finds
  pub record IsBestOf (so_far : Option Rank) (rs : List RankedClock) (result : Option Rank) : Type 0 where
    pub below : (v a : Rank) → result ≡ Some v → so_far ≡ Some a → AtMost v a
    pub least : (v : Rank) (r : RankedClock) → result ≡ Some v → IsIn r rs → r.domain ≡ domain → AtMost v r.rank
    pub origin : (v : Rank) → result ≡ Some v → (so_far ≡ Some v) ⊎ ((r : RankedClock) × (IsIn r rs × ((r.domain ≡ domain) × (r.rank ≡ v))))
    pub nobody : (r : RankedClock) → result ≡ None → IsIn r rs → r.domain ≡ domain → ⊥
    pub nothing : (a : Rank) → result ≡ None → so_far ≡ Some a → ⊥

  passed : (so_far : Option Rank) (x : RankedClock) (xs : List RankedClock) (result : Option Rank) → (x.domain ≡ domain → ⊥) → IsBestOf so_far xs result → IsBestOf so_far (x ∷ xs) result
  passed so_far x xs result other h = record {
    below = h.below;
    least = λ v r e is d. ⊎_elim (λ (same : r ≡ x). absurd (other (subst (λ (y : RankedClock). y.domain ≡ domain) same d))) (λ (there : IsIn r xs). h.least v r e there d) is;
    origin = λ v e. ⊎_elim (λ (before : so_far ≡ Some v). inl before) (λ (one : (r : RankedClock) × (IsIn r xs × ((r.domain ≡ domain) × (r.rank ≡ v)))). inr (one.0, (inr one.1.0, one.1.1))) (h.origin v e);
    nobody = λ r e is d. ⊎_elim (λ (same : r ≡ x). other (subst (λ (y : RankedClock). y.domain ≡ domain) same d)) (λ (there : IsIn r xs). h.nobody r e there d) is;
    nothing = h.nothing;
  }

  taken : (so_far : Option Rank) (x : RankedClock) (xs : List RankedClock) (result : Option Rank) (w : Rank) → x.domain ≡ domain → IsLesser so_far x.rank w → IsBestOf (Some w) xs result → IsBestOf so_far (x ∷ xs) result
  taken so_far x xs result w own l h = record {
    below = λ v a e is. upto ranks_total v w a (h.below v w e refl) (l.below a is);
    least = λ v r e is d. ⊎_elim (λ (same : r ≡ x). subst (λ (y : RankedClock). AtMost v y.rank) (sym same) (upto ranks_total v w x.rank (h.below v w e refl) l.below_it)) (λ (there : IsIn r xs). h.least v r e there d) is;
    origin = λ v e. ⊎_elim
        (λ (before : Some w ≡ Some v).
        let same = some_is w v before in
        ⊎_elim (λ (held : so_far ≡ Some w). inl (held ∙ before)) (λ (here : x.rank ≡ w). inr (x, (inl refl, (own, here ∙ same)))) l.origin)
        (λ (one : (r : RankedClock) × (IsIn r xs × ((r.domain ≡ domain) × (r.rank ≡ v)))). inr (one.0, (inr one.1.0, one.1.1)))
        (h.origin v e);
    nobody = λ r e is d. h.nothing w e refl;
    nothing = λ a e is. h.nothing w e refl;
  }

  pub best_of_all : (so_far : Option Rank) (rs : List RankedClock) → IsBestOf so_far rs (fold fold_best so_far rs)
  best_of_all so_far [] = record {
    below = λ v a e is. subst (AtMost v) (some_is v a (sym e ∙ is)) (ap is_gt (tied_itself ranks_total v));
    least = λ v r e is d. absurd is;
    origin = λ v e. inl e;
    nobody = λ r e is d. is;
    nothing = λ a e is. none-some a (sym e ∙ is);
  }
  best_of_all so_far (x ∷ xs) = ⊎_elim
      (λ (own : (x.domain == domain) ≡ true).
      let l = lesser so_far x.rank in
      let after : fold_best so_far x ≡ Some l.0 = ap (λ b. cond b (better_of so_far x.rank) so_far) own ∙ l.1.0 in
      subst (λ s. IsBestOf so_far (x ∷ xs) (fold fold_best s xs)) (sym after)
      (taken so_far x xs (fold fold_best (Some l.0) xs) l.0 (eqb-true x.domain domain own) l.1.1 (best_of_all (Some l.0) xs)))
      (λ (other : (x.domain == domain) ≡ false).
      let after : fold_best so_far x ≡ so_far = ap (λ b. cond b (better_of so_far x.rank) so_far) other in
      subst (λ s. IsBestOf so_far (x ∷ xs) (fold fold_best s xs)) (sym after)
      (passed so_far x xs (fold fold_best so_far xs) (apart other) (best_of_all so_far xs)))
      (cases_Bool (x.domain == domain))
    where
      apart : (x.domain == domain) ≡ false → x.domain ≡ domain → ⊥
      apart e same = eqb-false x.domain domain e same

-- ---- what becomes of a clock's rank if changes are done one after the other

-- it is a clock of this domain, with this identity
pub record IsOf (domain : ℕ) (clock : ClockIdentity) (r : RankedClock) : Type 0 where
  pub in_domain : r.domain ≡ domain
  pub named : r.rank.identity ≡ clock

abbrev pub step : RankedClock → Change → RankedClock
step r c = after_change c r

abbrev pub changed : List Change → RankedClock → RankedClock
changed changes r = fold step r changes

-- the changes of its rank
abbrev pub changes_rank_of : ℕ → ClockIdentity → Change → Bool
changes_rank_of domain clock c = is_of_rank c.id && ((domain == c.domain) && same_clock clock c.clock)

identity_with : (id : PlannedId) (value : ℕ) (r : Rank) → (rank_with id value r).identity ≡ r.identity
identity_with ids.Priority1 value r = refl
identity_with _ value r = refl

stays_of : (domain : ℕ) (clock : ClockIdentity) (r : RankedClock) (c : Change) (b : Bool) → IsOf domain clock r
    → IsOf domain clock (cond b (record r { rank = rank_with c.id (octet 0 c.after.items) r.rank }) r)
stays_of domain clock r c true of = record { in_domain = of.in_domain; named = identity_with c.id (octet 0 c.after.items) r.rank ∙ of.named }
stays_of domain clock r c false of = of

pub keeps : (domain : ℕ) (clock : ClockIdentity) (r : RankedClock) (c : Change) → IsOf domain clock r → IsOf domain clock (step r c)
keeps domain clock r c of = stays_of domain clock r c (changes_rank r c) of

pub same_changes : (domain : ℕ) (clock : ClockIdentity) (r : RankedClock) (c : Change) → IsOf domain clock r → changes_rank r c ≡ changes_rank_of domain clock c
same_changes domain clock r c of =
    ap (λ d. is_of_rank c.id && ((d == c.domain) && same_clock r.rank.identity c.clock)) of.in_domain
    ∙ ap (λ i. is_of_rank c.id && ((domain == c.domain) && same_clock i c.clock)) of.named

pub idle : (domain : ℕ) (clock : ClockIdentity) (r : RankedClock) (c : Change) → IsOf domain clock r → changes_rank_of domain clock c ≡ false → step r c ≡ r
idle domain clock r c of no_ =
    ap (λ b. cond b (record r { rank = rank_with c.id (octet 0 c.after.items) r.rank }) r) (same_changes domain clock r c of ∙ no_)

pub keeps_all : (domain : ℕ) (clock : ClockIdentity) (changes : List Change) (r : RankedClock) → IsOf domain clock r → IsOf domain clock (changed changes r)
keeps_all domain clock [] r of = of
keeps_all domain clock (c ∷ changes) r of = keeps_all domain clock changes (step r c) (keeps domain clock r c of)

-- all ranks are each rank
pub each_rank : (changes : List Change) (ranks : List RankedClock) → ranks_after changes ranks ≡ map (changed changes) ranks
each_rank [] ranks = sym (map-id ranks)
each_rank (c ∷ changes) ranks = each_rank changes (map (after_change c) ranks) ∙ map-map (changed changes) (after_change c) ranks
