-- A sort keeps who follows whom, and each clock follows one of the clocks.
use Rattle.std.proofs.Common.{◌≡◌, ℕ, ◌+◌, ◌<◌, ◌≤◌, ◌==◌, true, false, cond, List, get_or, ⊎_elim, sym, ap, ◌∙◌, arith, length, Option, None, subst}
use Rattle.std.proofs.lemmas.Bool.{cases_lt, false≢true, lt-ltb}
use Rattle.std.proofs.lemmas.List.Sorted.{IsNonDecreasingBy-from_all_adjacent, All-permutation}
use Rattle.std.specs.declared.cmp.Ordering.{Ordering}
use Rattle.std.specs.declared.cmp.Ordering.TheVariants.{Less, Equal, Greater}
use Rattle.std.specs.List.Sorted.{IsNonDecreasingBy, IsSorted}
use Rattle.std.specs.Ordering.{is_lt, nat_cmp, ordering_then}
use Rattle.ptpm_codec.specs.Identity.{identity_cmp}
use Rattle.ptpm_site.specs.declared.tree.forest.Follower.{Follower}
use Rattle.ptpm_site.specs.declared.tree.forest.Lost.{Lost}
use Rattle.ptpm_site.specs.Forest.{AreByDomain, IsFollower}
use Rattle.std.proofs.lemmas.List.{get_or_past}
use Rattle.std.proofs.lemmas.Option.{none-some}
use Rattle.std.specs.List.{All}
use Rattle.std.specs.Option.{IfSome}
use Rattle.ptpm_site.specs.Loops.{AreWithin}
use Rattle.ptpm_site.proofs.tree.forest.Forest.of.Goals as goal

-- what is sorted comes by its first number
first_not_less : (a b : ℕ) (rest : Ordering) → is_lt (ordering_then (nat_cmp a b) rest) ≡ false → b ≤ a
first_not_less a b rest h = ⊎_elim
    (λ (less : a < b).
    let says : is_lt (ordering_then (nat_cmp a b) rest) ≡ true = ap (λ t. is_lt (ordering_then (cond t Less (cond (a == b) Equal Greater)) rest)) (lt-ltb a b less) in
    absurd (false≢true (sym h ∙ says)))
    (λ (not_less : b ≤ a). not_less)
    (cases_lt a b)

by_first : {X : Type 0} (number : X → ℕ) (rest : X → X → Ordering) (xs : List X)
    → IsSorted (λ a b. ordering_then (nat_cmp (number a) (number b)) (rest a b)) xs
    → IsNonDecreasingBy number xs
by_first number rest xs h = IsNonDecreasingBy-from_all_adjacent number xs
    (λ k d lt. first_not_less (number (get_or xs (k + 1) d)) (number (get_or xs k d)) (rest (get_or xs (k + 1) d) (get_or xs k d)) (h k d (omega arith) lt))

abbrev follower_cmp : Follower → Follower → Ordering
follower_cmp a b = ordering_then (nat_cmp a.above b.above) (ordering_then (nat_cmp a.port b.port) (nat_cmp a.place b.place))

abbrev lost_cmp : Lost → Lost → Ordering
lost_cmp a b = ordering_then (nat_cmp a.domain.0 b.domain.0) (ordering_then (identity_cmp a.parent b.parent) (nat_cmp a.place b.place))

by_above : (xs : List Follower) → IsSorted follower_cmp xs → IsNonDecreasingBy (λ (f : Follower). f.above) xs
by_above xs h = by_first (λ (f : Follower). f.above) (λ a b. ordering_then (nat_cmp a.port b.port) (nat_cmp a.place b.place)) xs h

by_domain : (xs : List Lost) → IsSorted lost_cmp xs → AreByDomain xs
by_domain xs h = by_first (λ (l : Lost). l.domain.0) (λ a b. ordering_then (identity_cmp a.parent b.parent) (nat_cmp a.place b.place)) xs h

AreWithin-all : (followed : List (Option ℕ)) (n : ℕ) → length followed ≡ n → All (λ place. IfSome place (λ p. p < n)) followed → AreWithin followed
AreWithin-all followed n count h p q e = ⊎_elim
    (λ (inside : p < length followed).
    let one : q < n = subst (λ (o : Option ℕ). IfSome o (λ r. r < n)) e (h p None inside) in omega (arith, count, one))
    (λ (past : length followed ≤ p). absurd (none-some q (sym (get_or_past followed p None past) ∙ e)))
    (cases_lt p (length followed))

pub invariant_of-result : goal.invariant_of-result
invariant_of-result c =
    let followed = c.in_ok-followed.followed.items in
    record {
      followers_are = record {
        follow = All-permutation (IsFollower followed) c.loop-place.following.followers.items c.sort.new.self.items c.in_ok-sort.ensures.permutation c.loop-place.invariant;
        ordered = by_above c.sort.new.self.items c.in_ok-sort.ensures.sorted;
      };
      by_domain = by_domain c.sort-2.new.self.items c.in_ok-sort-2.ensures.sorted;
      within = AreWithin-all followed _ c.in_ok-followed.ensures.count c.in_ok-followed.ensures.within;
    }

pub loop-place-preserved : goal.loop-place-preserved
loop-place-preserved c =
    let read = c.as_slice-in-loop-place.ensures.value in
    subst (λ (fs : List (Option ℕ)). All (IsFollower fs) c.add.new.self.followers.items) read
    (c.in_ok-add.ensures.followers (subst (λ (fs : List (Option ℕ)). All (IsFollower fs) c.loop-place.following.followers.items) (sym read) c.loop-place.invariant))
