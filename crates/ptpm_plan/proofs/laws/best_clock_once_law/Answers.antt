-- The best clock of a domain changes once at most along the order, if each clock has one change of its rank at most.
use Rattle.std.proofs.Common.{◌≡◌, ℕ, zero, suc, ◌+◌, ◌<◌, ◌≤◌, ◌==◌, ◌&&◌, ◌⊎◌, Bool, true, false, cond, List, [], ◌∷◌, length, map, take, get_or, Option, None, Some, inl, inr, ⊎_elim, refl, sym, ◌∙◌, ap, subst, arith}
use Rattle.std.proofs.lemmas.Bool.{and_parts, cases_Bool, cases_lt, eqb-true, true≢false}
use Rattle.std.proofs.lemmas.Cmp.{tied_itself}
use Rattle.std.proofs.lemmas.List.{get_or_default, length-append, take_all}
use Rattle.std.proofs.lemmas.List.Elements.{recursion_from_All}
use Rattle.std.proofs.lemmas.List.Sorted.{ranks_by, sorted_far, sum_by-IsPermutation}
use Rattle.std.proofs.lemmas.Option.{none-some}
use Rattle.std.proofs.lemmas.Slice.Eq.{bytes_eq-Decides}
use Rattle.std.specs.Cmp.{IsTotalOrder}
use Rattle.std.specs.List.{All, AllByRecursion, count_by, find}
use Rattle.std.specs.List.Sorted.{IsPermutation, IsSortedByKey}
use Rattle.std.specs.Option.{option_map, option_map_or, option_to_list}
use Rattle.std.specs.Ordering.{is_gt, is_lt, ordering_reverse}
use Rattle.std.specs.declared.cmp.Ordering.{Ordering}
use Rattle.std.specs.declared.cmp.Ordering.TheVariants.{Less, Equal, Greater}
use Rattle.ptpm_codec.specs.Identity.{same_clock}
use Rattle.ptpm_codec.specs.declared.identity.ClockIdentity.{ClockIdentity}
use Rattle.ptpm_plan.specs.BestClock.{altered, alterations, AreApart, best_after, best_in, changes_rank, HaveOneEach, is_better, is_of_rank, is_ranked, rank_cmp, ranks_after, ranks_of}
use Rattle.ptpm_plan.specs.Order.{is_best, order_key, rank_in, rank_turn, turn_by}
use Rattle.ptpm_plan.specs.PlannedId.{concern_of}
use Rattle.ptpm_plan.specs.declared.best_clock.Alteration.{Alteration}
use Rattle.ptpm_plan.specs.declared.best_clock.Rank.{Rank}
use Rattle.ptpm_plan.specs.declared.best_clock.RankedClock.{RankedClock}
use Rattle.ptpm_plan.specs.declared.change.Change.{Change}
use Rattle.ptpm_plan.specs.declared.change.PlannedId.{PlannedId}
use Rattle.ptpm_plan.specs.declared.order.OrderKey.{OrderKey}
use Rattle.ptpm_plan.specs.declared.surveyed.Surveyed.{Surveyed}
use Rattle.ptpm_plan.proofs.Ranks.{changed, changes_rank_of, each_rank, idle, IsOf, keeps, keeps_all, step, best_of_all, from_map, IsIn, mapped_in, exact_ranks, ranks_total}
use Rattle.ptpm_plan.proofs.Once.{AreCourses, IsLeast, IsOnce, once, early, hit_at_turn, in_any_order, IsHit, late, turn_in, turn_within}
use Rattle.ptpm_plan.specs.declared.change.PlannedId.TheVariants as ids
use Rattle.ptpm_plan.specs.declared.order.Turn.TheVariants as turns
use Rattle.ptpm_plan.specs.contracts.order.OrderKeyOrd.TheImpl as key_order
use Rattle.ptpm_plan.specs.contracts.order.OrderKeyOrd.TheImpl.Laws as key_laws
use Rattle.ptpm_plan.proofs.laws.best_clock_once_law.Goals as goal

-- ---- look-ups

same_identity : (a b : ClockIdentity) → same_clock a b ≡ true → a ≡ b
same_identity a b e = ap (λ (octets : List ℕ). let c : ClockIdentity = record { 0 = octets } in c) ((bytes_eq-Decides a.0 b.0).0 e)

is_same : (a b : ClockIdentity) → a ≡ b → same_clock a b ≡ true
is_same a b e = (bytes_eq-Decides a.0 b.0).1 (ap (λ (c : ClockIdentity). c.0) e)

itself : (r : RankedClock) → IsOf r.domain r.rank.identity r
itself r = record { in_domain = refl; named = refl }

found_in : (P : RankedClock → Type 0) (rs : List RankedClock) (r : RankedClock) → AllByRecursion P rs → IsIn r rs → P r
found_in P [] r all h = absurd h
found_in P (x ∷ xs) r all h = ⊎_elim (λ (e : r ≡ x). subst P (sym e) all.0) (λ (there : IsIn r xs). found_in P xs r all.1 there) h

of_all : (P : RankedClock → Type 0) (rs : List RankedClock) (r : RankedClock) → All P rs → IsIn r rs → P r
of_all P rs r all h = found_in P rs r (recursion_from_All P rs all) h

find_mapped : (q : RankedClock → Bool) (f : RankedClock → RankedClock) → ((r : RankedClock) → q (f r) ≡ q r) → (rs : List RankedClock) → find q (map f rs) ≡ option_map f (find q rs)
find_mapped q f same [] = refl
find_mapped q f same (x ∷ xs) = ⊎_elim
    (λ (e : q x ≡ true). ap (λ b. cond b (Some (f x)) (find q (map f xs))) (same x ∙ e) ∙ sym (ap (λ b. option_map f (cond b (Some x) (find q xs))) e))
    (λ (e : q x ≡ false). ap (λ b. cond b (Some (f x)) (find q (map f xs))) (same x ∙ e) ∙ find_mapped q f same xs ∙ sym (ap (λ b. option_map f (cond b (Some x) (find q xs))) e))
    (cases_Bool (q x))

same_ranked : (domain : ℕ) (clock : ClockIdentity) (changes : List Change) (r : RankedClock) → is_ranked domain clock (changed changes r) ≡ is_ranked domain clock r
same_ranked domain clock changes r =
    let of = keeps_all r.domain r.rank.identity changes r (itself r) in
    ap (λ d. (d == domain) && same_clock (changed changes r).rank.identity clock) of.in_domain
    ∙ ap (λ i. (r.domain == domain) && same_clock i clock) of.named

some_same : {A : Type 0} (a b : A) → Some a ≡ Some b → a ≡ b
some_same a b e = cc

-- ---- the parts of a change of a rank

record Changes (r : RankedClock) (c : Change) : Type 0 where
  pub of_rank : is_of_rank c.id ≡ true
  pub in_domain : r.domain ≡ c.domain
  pub named : r.rank.identity ≡ c.clock

parts_of : (r : RankedClock) (c : Change) → changes_rank_of r.domain r.rank.identity c ≡ true → Changes r c
parts_of r c e =
    let outer = and_parts (is_of_rank c.id) ((r.domain == c.domain) && same_clock r.rank.identity c.clock) e in
    let inner = and_parts (r.domain == c.domain) (same_clock r.rank.identity c.clock) outer.1 in
    record {
      of_rank = outer.0;
      in_domain = eqb-true r.domain c.domain inner.0;
      named = same_identity r.rank.identity c.clock inner.1;
    }

turn_of_rank : (s : Surveyed) (ranks planned : List RankedClock) (c : Change) (id : PlannedId) → is_of_rank id ≡ true
    → turn_by s ranks planned (concern_of id) c ≡ rank_turn (is_best c.domain c.clock ranks) (rank_in c.domain c.clock ranks) (rank_in c.domain c.clock planned)
turn_of_rank s ranks planned c ids.Priority1 e = refl
turn_of_rank s ranks planned c _ e = cc

turn_if_better : (best : Bool) (before after : Rank) → is_lt (rank_cmp after before) ≡ true → rank_turn best (Some before) (Some after) ≡ turns.Better after
unfolding is_better
turn_if_better best before after e = ap (λ b. cond b (turns.Better after) (turns.Worse best (record { 0 = after }))) e

turn_if_worse : (best : Bool) (before after : Rank) → is_lt (rank_cmp after before) ≡ false → rank_turn best (Some before) (Some after) ≡ turns.Worse best (record { 0 = after })
unfolding is_better
turn_if_worse best before after e = ap (λ b. cond b (turns.Better after) (turns.Worse best (record { 0 = after }))) e

-- ---- what an order of keys has to say of the turns of ranks

record OrdersRanks (cmp : OrderKey → OrderKey → Ordering) : Type 0 where
  pub total : IsTotalOrder cmp
  pub better_first : (x y : OrderKey) (a w : Rank) (best : Bool) → x.turn ≡ turns.Better a → y.turn ≡ turns.Worse best (record { 0 = w }) → cmp x y ≡ Less
  pub best_to_be_first : (x y : OrderKey) (a b : Rank) → x.turn ≡ turns.Better a → y.turn ≡ turns.Better b → rank_cmp a b ≡ Less → cmp x y ≡ Less
  pub present_best_last : (x y : OrderKey) (a b : Rank) → x.turn ≡ turns.Worse false (record { 0 = a }) → y.turn ≡ turns.Worse true (record { 0 = b }) → cmp x y ≡ Less

module _ (cmp : OrderKey → OrderKey → Ordering) (orders : OrdersRanks cmp) (s : Surveyed) (given asked : List Change) (domain : ℕ) (moved : IsPermutation given asked) (sorted : IsSortedByKey (order_key s given) cmp asked) (ranks : List RankedClock) (are : ranks ≡ ranks_of s) (apart : AreApart ranks) (one : HaveOneEach domain ranks given) where
  abbrev Is : RankedClock → Type 0
  Is r = IsIn r ranks × (r.domain ≡ domain)

  abbrev rank : ℕ → RankedClock → Rank
  rank n r = (changed (take n asked) r).rank

  abbrev before : RankedClock → Rank
  before r = r.rank

  abbrev after : RankedClock → Rank
  after r = (changed asked r).rank

  abbrev changes_of : RankedClock → Change → Bool
  changes_of r = changes_rank_of r.domain r.rank.identity

  abbrev turn : RankedClock → ℕ
  turn r = turn_in (changes_of r) asked

  abbrev Own : RankedClock → RankedClock → Type 0
  Own r = IsOf r.domain r.rank.identity

  given_once : (r : RankedClock) → Is r → count_by (changes_of r) given ≤ 1
  given_once r is = of_all (λ (r' : RankedClock). r'.domain ≡ domain → count_by (changes_rank r') given ≤ 1) ranks r one is.0 is.1

  asked_once : (r : RankedClock) → Is r → count_by (changes_of r) asked ≤ 1
  asked_once r is =
      let same : count_by (changes_of r) asked ≡ count_by (changes_of r) given = sum_by-IsPermutation (λ c. cond (changes_of r c) 1 0) given asked moved in
      let once_ = given_once r is in omega arith

  course : AreCourses rank_cmp Is rank before after turn (length asked + 1)
  course = record {
    early = λ n r is h. ap (λ (x : RankedClock). x.rank) (early (changes_of r) step (Own r) (keeps r.domain r.rank.identity) (idle r.domain r.rank.identity) asked n r (itself r) h);
    late = λ n r is h. ap (λ (x : RankedClock). x.rank) (late (changes_of r) step (Own r) (keeps r.domain r.rank.identity) (idle r.domain r.rank.identity) asked n r (itself r) (asked_once r is) h);
    within = λ r is. turn_within (changes_of r) asked;
  }

  -- ---- one clock is found for a domain and an identity

  found : (r : RankedClock) → Is r → find (is_ranked r.domain r.rank.identity) ranks ≡ Some r
  found r is = of_all (λ (r' : RankedClock). find (is_ranked r'.domain r'.rank.identity) ranks ≡ Some r') ranks r apart is.0

  one_clock : (r t : RankedClock) → Is r → Is t → r.rank.identity ≡ t.rank.identity → r ≡ t
  one_clock r t is_r is_t e =
      some_same r t (sym (found r is_r)
      ∙ ap (λ d. find (is_ranked d r.rank.identity) ranks) (is_r.1 ∙ sym is_t.1)
      ∙ ap (λ i. find (is_ranked t.domain i) ranks) e
      ∙ found t is_t)

  identity_after : (n : ℕ) (r : RankedClock) → (rank n r).identity ≡ r.rank.identity
  identity_after n r = (keeps_all r.domain r.rank.identity (take n asked) r (itself r)).named

  identity_at_end : (r : RankedClock) → (after r).identity ≡ r.rank.identity
  identity_at_end r = (keeps_all r.domain r.rank.identity asked r (itself r)).named

  -- ---- the turn of a change

  abbrev planned : List RankedClock
  planned = ranks_after given ranks

  abbrev key : Change → OrderKey
  key = order_key s given

  rank_now : (r : RankedClock) (c : Change) → Is r → Changes r c → rank_in c.domain c.clock ranks ≡ Some r.rank
  rank_now r c is h =
      ap (λ d. rank_in d c.clock ranks) (sym h.in_domain)
      ∙ ap (λ i. rank_in r.domain i ranks) (sym h.named)
      ∙ ap (option_map (λ (x : RankedClock). x.rank)) (found r is)

  rank_planned : (r : RankedClock) (c : Change) → Is r → Changes r c → rank_in c.domain c.clock planned ≡ Some (after r)
  rank_planned r c is h =
      ap (λ d. rank_in d c.clock planned) (sym h.in_domain)
      ∙ ap (λ i. rank_in r.domain i planned) (sym h.named)
      ∙ ap (λ rs. rank_in r.domain r.rank.identity rs) (each_rank given ranks)
      ∙ ap (option_map (λ (x : RankedClock). x.rank)) (find_mapped (is_ranked r.domain r.rank.identity) (changed given) (same_ranked r.domain r.rank.identity given) ranks)
      ∙ ap (λ o. option_map (λ (x : RankedClock). x.rank) (option_map (changed given) o)) (found r is)
      ∙ ap (λ (x : RankedClock). Some x.rank) (in_any_order (changes_of r) step (Own r) (keeps r.domain r.rank.identity) (idle r.domain r.rank.identity) given asked r (itself r) moved (given_once r is))

  key_turn : (c : Change) → (key c).turn ≡ turn_by s ranks planned (concern_of c.id) c
  key_turn c = ap (λ rs. turn_by s rs (ranks_after given rs) (concern_of c.id) c) (sym are)

  turn_is : (r : RankedClock) (c : Change) → Is r → Changes r c → (key c).turn ≡ rank_turn (is_best c.domain c.clock ranks) (Some r.rank) (Some (after r))
  turn_is r c is h =
      key_turn c
      ∙ turn_of_rank s ranks planned c c.id h.of_rank
      ∙ ap (λ o. rank_turn (is_best c.domain c.clock ranks) o (rank_in c.domain c.clock planned)) (rank_now r c is h)
      ∙ ap (λ o. rank_turn (is_best c.domain c.clock ranks) (Some r.rank) o) (rank_planned r c is h)

  gets_better : (r : RankedClock) (c : Change) → Is r → Changes r c → is_lt (rank_cmp (after r) r.rank) ≡ true → (key c).turn ≡ turns.Better (after r)
  gets_better r c is h e = turn_is r c is h ∙ turn_if_better (is_best c.domain c.clock ranks) r.rank (after r) e

  gets_worse : (r : RankedClock) (c : Change) → Is r → Changes r c → is_lt (rank_cmp (after r) r.rank) ≡ false → (key c).turn ≡ turns.Worse (is_best c.domain c.clock ranks) (record { 0 = after r })
  gets_worse r c is h e = turn_is r c is h ∙ turn_if_worse (is_best c.domain c.clock ranks) r.rank (after r) e

  -- ---- two changes of which the one comes first

  -- the change of a clock, if it has one
  changed_at : (r : RankedClock) → Is r → (before r ≡ after r) ⊎ ((k : ℕ) × ((c : Change) × ((k + 1 ≡ turn r) × IsHit (changes_of r) asked k c)))
  changed_at r is = ⊎_elim
      (λ (beyond : length asked < turn r).
      inl (sym (ap (λ cs. (changed cs r).rank) (sym (take_all (length asked) asked (omega arith))) ∙ course.early (length asked) r is beyond)))
      (λ (there : turn r ≤ length asked). inr (hit_at_turn (changes_of r) asked there))
      (cases_lt (length asked) (turn r))

  not_before : (j k : ℕ) (c d : Change) → j < k → k < length asked → get_or asked j c ≡ c → get_or asked k d ≡ d → is_lt (cmp (key d) (key c)) ≡ false
  not_before j k c d less within at_j at_k =
      let far = sorted_far (λ x y. is_lt (cmp (key x) (key y))) (ranks_by orders.total key) asked sorted j k c (omega arith) within in
      let second : get_or asked k c ≡ d = get_or_default asked k c d within ∙ at_k in
      sym (ap (λ y. is_lt (cmp (key y) (key c))) second)
      ∙ sym (ap (λ x. is_lt (cmp (key (get_or asked k c)) (key x))) at_j)
      ∙ far

  -- ---- the two rules

  contradiction : (x y : OrderKey) → cmp x y ≡ Less → is_lt (cmp x y) ≡ false → ⊥
  contradiction x y less e = true≢false (sym (ap is_lt less) ∙ e)

  not_less_itself : (x : Rank) → rank_cmp x x ≡ Less → ⊥
  not_less_itself x e = true≢false (sym (ap is_lt e) ∙ ap is_lt (tied_itself ranks_total x))

  module _ (b f : RankedClock) (now : IsLeast rank_cmp Is before b) (end : IsLeast rank_cmp Is after f) where
    -- no other clock that gets better is to be better than f
    behind_by : (c : RankedClock) → Is c → (turn c < turn f) → (x y : Change) → (key x).turn ≡ turns.Better (after f) → (key y).turn ≡ turns.Better (after c)
        → is_lt (cmp (key x) (key y)) ≡ false → (o : Ordering) → rank_cmp (after f) (after c) ≡ o → ⊥
    behind_by c is sooner x y at_x at_y order Less e = contradiction (key x) (key y) (orders.best_to_be_first (key x) (key y) (after f) (after c) at_x at_y e) order
    behind_by c is sooner x y at_x at_y order Equal e =
        let same_rank : after f ≡ after c = exact_ranks (after f) (after c) e in
        let same : f ≡ c = one_clock f c end.is is (sym (identity_at_end f) ∙ ap (λ (r : Rank). r.identity) same_rank ∙ identity_at_end c) in
        let at : turn c ≡ turn f = ap turn (sym same) in
        omega arith
    behind_by c is sooner x y at_x at_y order Greater e = true≢false (sym (ap is_gt e) ∙ end.least c is)

    not_sooner : rank_cmp (after f) (before f) ≡ Less → (c : RankedClock) → Is c → (k : ℕ) (x : Change) → (k + 1 ≡ turn c) → IsHit (changes_of c) asked k x
        → (j : ℕ) (y : Change) → (j + 1 ≡ turn f) → IsHit (changes_of f) asked j y → turn c < turn f → ⊥
    not_sooner better c is k x at_k hit j y at_j own sooner =
        let order = not_before k j x y (omega arith) own.within hit.is own.is in
        let mine = gets_better f y end.is (parts_of f y own.passes) (ap is_lt better) in
        ⊎_elim
        (λ (e : is_lt (rank_cmp (after c) c.rank) ≡ true).
        behind_by c is sooner y x mine (gets_better c x is (parts_of c x hit.passes) e) order (rank_cmp (after f) (after c)) refl)
        (λ (e : is_lt (rank_cmp (after c) c.rank) ≡ false).
        contradiction (key y) (key x) (orders.better_first (key y) (key x) (after f) (after c) (is_best x.domain x.clock ranks) mine (gets_worse c x is (parts_of c x hit.passes) e)) order)
        (cases_Bool (is_lt (rank_cmp (after c) c.rank)))

    first : rank_cmp (after f) (before f) ≡ Less → (c : RankedClock) → Is c → (before c ≡ after c) ⊎ (turn f ≤ turn c)
    first better c is = ⊎_elim
        (λ (still : before c ≡ after c). inl still)
        (λ (hit : (k : ℕ) × ((x : Change) × ((k + 1 ≡ turn c) × IsHit (changes_of c) asked k x))).
        ⊎_elim
        (λ (still : before f ≡ after f). absurd (not_less_itself (after f) (ap (rank_cmp (after f)) (sym still) ∙ better)))
        (λ (own : (k : ℕ) × ((x : Change) × ((k + 1 ≡ turn f) × IsHit (changes_of f) asked k x))).
        ⊎_elim
        (λ (sooner : turn c < turn f). absurd (not_sooner better c is hit.0 hit.1.0 hit.1.1.0 hit.1.1.1 own.0 own.1.0 own.1.1.0 own.1.1.1 sooner))
        (λ (later_ : turn f ≤ turn c). inr later_)
        (cases_lt (turn c) (turn f)))
        (changed_at f end.is))
        (changed_at c is)

    module _ (held : best_in domain ranks ≡ Some b.rank) where
      is_best_if : (c : RankedClock) (x : Change) → Is c → Changes c x → is_best x.domain x.clock ranks ≡ same_clock b.rank.identity c.rank.identity
      is_best_if c x is h =
          ap (λ d. is_best d x.clock ranks) (sym h.in_domain ∙ is.1)
          ∙ ap (λ i. is_best domain i ranks) (sym h.named)
          ∙ ap (λ o. option_map_or (λ (best : Rank). same_clock best.identity c.rank.identity) o false) held

      behind_best : (c : RankedClock) → Is c → (turn b < turn c) → (x y : Change) → Changes c x → (key x).turn ≡ turns.Worse (is_best x.domain x.clock ranks) (record { 0 = after c })
          → (key y).turn ≡ turns.Worse true (record { 0 = after b }) → is_lt (cmp (key x) (key y)) ≡ false → ⊥
      behind_best c is later_ x y h at_x at_y order = ⊎_elim
          (λ (e : same_clock b.rank.identity c.rank.identity ≡ true).
          let same : b ≡ c = one_clock b c now.is is (same_identity b.rank.identity c.rank.identity e) in
          let at : turn c ≡ turn b = ap turn (sym same) in
          omega arith)
          (λ (e : same_clock b.rank.identity c.rank.identity ≡ false).
          contradiction (key x) (key y)
          (orders.present_best_last (key x) (key y) (after c) (after b)
          (at_x ∙ ap (λ best. turns.Worse best (record { 0 = after c })) (is_best_if c x is h ∙ e)) at_y)
          order)
          (cases_Bool (same_clock b.rank.identity c.rank.identity))

      not_later : rank_cmp (before b) (after b) ≡ Less → (c : RankedClock) → Is c → (k : ℕ) (x : Change) → (k + 1 ≡ turn c) → IsHit (changes_of c) asked k x
          → (j : ℕ) (y : Change) → (j + 1 ≡ turn b) → IsHit (changes_of b) asked j y → turn b < turn c → ⊥
      not_later worse c is k x at_k hit j y at_j own later_ =
          let order = not_before j k y x (omega arith) hit.within own.is hit.is in
          let not_better : is_lt (rank_cmp (after b) b.rank) ≡ false = ap is_lt (ranks_total.antisymm (after b) b.rank ∙ ap ordering_reverse worse) in
          let parts = parts_of b y own.passes in
          let mine = gets_worse b y now.is parts not_better
          ∙ ap (λ best. turns.Worse best (record { 0 = after b })) (is_best_if b y now.is parts ∙ is_same b.rank.identity b.rank.identity refl) in
          ⊎_elim
          (λ (e : is_lt (rank_cmp (after c) c.rank) ≡ true).
          contradiction (key x) (key y) (orders.better_first (key x) (key y) (after c) (after b) true (gets_better c x is (parts_of c x hit.passes) e) mine) order)
          (λ (e : is_lt (rank_cmp (after c) c.rank) ≡ false).
          behind_best c is later_ x y (parts_of c x hit.passes) (gets_worse c x is (parts_of c x hit.passes) e) mine order)
          (cases_Bool (is_lt (rank_cmp (after c) c.rank)))

      last : rank_cmp (before b) (after b) ≡ Less → (c : RankedClock) → Is c → (before c ≡ after c) ⊎ (turn c ≤ turn b)
      last worse c is = ⊎_elim
          (λ (still : before c ≡ after c). inl still)
          (λ (hit : (k : ℕ) × ((x : Change) × ((k + 1 ≡ turn c) × IsHit (changes_of c) asked k x))).
          ⊎_elim
          (λ (still : before b ≡ after b). absurd (not_less_itself (before b) (ap (rank_cmp (before b)) still ∙ worse)))
          (λ (own : (k : ℕ) × ((x : Change) × ((k + 1 ≡ turn b) × IsHit (changes_of b) asked k x))).
          ⊎_elim
          (λ (later_ : turn b < turn c). absurd (not_later worse c is hit.0 hit.1.0 hit.1.1.0 hit.1.1.1 own.0 own.1.0 own.1.1.0 own.1.1.1 later_))
          (λ (sooner : turn c ≤ turn b). inr sooner)
          (cases_lt (turn b) (turn c)))
          (changed_at b now.is))
          (changed_at c is)

      changes_once : IsOnce rank_cmp Is rank b f
      changes_once = once ranks_total exact_ranks rank before after turn (length asked + 1) course b f now end (record { first = first; last = last })

  -- ---- the best clock after each change

  abbrev best : ℕ → Option Rank
  best n = best_after domain asked ranks n

  -- the ranks after the first changes, as a list
  abbrev at : ℕ → List RankedClock
  at n = map (changed (take n asked)) ranks

  found_best : (n : ℕ) → best n ≡ best_in domain (at n)
  found_best n = ap (best_in domain) (each_rank (take n asked) ranks)

  in_domain_after : (n : ℕ) (r : RankedClock) → (changed (take n asked) r).domain ≡ r.domain
  in_domain_after n r = (keeps_all r.domain r.rank.identity (take n asked) r (itself r)).in_domain

  nobody : (n : ℕ) → best n ≡ None → (r : RankedClock) → Is r → ⊥
  nobody n e r is =
      (best_of_all domain None (at n)).nobody (changed (take n asked) r) (sym (found_best n) ∙ e) (mapped_in (changed (take n asked)) ranks r is.0) (in_domain_after n r ∙ is.1)

  least_of : (n : ℕ) (v : Rank) → best n ≡ Some v → (r : RankedClock) × (IsLeast rank_cmp Is (rank n) r × (rank n r ≡ v))
  least_of n v e =
      let says = best_of_all domain None (at n) in
      let is : best_in domain (at n) ≡ Some v = sym (found_best n) ∙ e in
      ⊎_elim
      (λ (before_ : None ≡ Some v). absurd (none-some v before_))
      (λ (one_ : (r : RankedClock) × (IsIn r (at n) × ((r.domain ≡ domain) × (r.rank ≡ v)))).
      let of = from_map (changed (take n asked)) ranks one_.0 one_.1.0 in
      let value : rank n of.0 ≡ v = ap (λ (x : RankedClock). x.rank) of.1.1 ∙ one_.1.1.1 in (
        of.0,
        (
          record {
            is = (of.1.0, sym (in_domain_after n of.0) ∙ ap (λ (x : RankedClock). x.domain) of.1.1 ∙ one_.1.1.0);
            least = λ c is_c. subst (λ w. is_gt (rank_cmp w (rank n c)) ≡ false) (sym value)
                (says.least v (changed (take n asked) c) is (mapped_in (changed (take n asked)) ranks c is_c.0) (in_domain_after n c ∙ is_c.1));
          },
          value,
        ),
      ))
      (says.origin v is)

  level : (x y : Rank) (o : Ordering) → rank_cmp x y ≡ o → is_gt (rank_cmp x y) ≡ false → is_gt (rank_cmp y x) ≡ false → x ≡ y
  level x y Less e p q = absurd (true≢false (sym (ap is_gt (ranks_total.antisymm y x ∙ ap ordering_reverse e)) ∙ q))
  level x y Equal e p q = exact_ranks x y e
  level x y Greater e p q = absurd (true≢false (sym (ap is_gt e) ∙ p))

  best_is_by : (n : ℕ) (r : RankedClock) → IsLeast rank_cmp Is (rank n) r → (o : Option Rank) → best n ≡ o → best n ≡ Some (rank n r)
  best_is_by n r l None e = absurd (nobody n e r l.is)
  best_is_by n r l (Some v) e =
      let other = least_of n v e in
      e ∙ ap Some (sym other.1.1 ∙ level (rank n other.0) (rank n r) (rank_cmp (rank n other.0) (rank n r)) refl (other.1.0.least r l.is) (l.least other.0 other.1.0.is))

  best_is : (n : ℕ) (r : RankedClock) → IsLeast rank_cmp Is (rank n) r → best n ≡ Some (rank n r)
  best_is n r l = best_is_by n r l (best n) refl

  -- ---- the alterations

  abbrev altered_at : ℕ → List Alteration
  altered_at n = option_to_list (altered (n + 1) (best n) (best (n + 1)))

  not_altered : (n : ℕ) (u v : Rank) → best n ≡ Some u → best (n + 1) ≡ Some v → v.identity ≡ u.identity → length (altered_at n) ≡ 0
  not_altered n u v was is same =
      ap (λ o. length (option_to_list (altered (n + 1) o (best (n + 1))))) was
      ∙ ap (λ o. length (option_to_list (altered (n + 1) (Some u) o))) is
      ∙ ap (λ k. length (option_to_list (cond k None (let a : Alteration = record { after = n + 1; clock = v.identity } in Some a)))) (is_same v.identity u.identity same)

  one_at_most : (o : Option Alteration) → length (option_to_list o) ≤ 1
  one_at_most None = omega arith
  one_at_most (Some a) = omega arith

  longer : (n : ℕ) → length (alterations domain asked ranks (suc n)) ≡ length (alterations domain asked ranks n) + length (altered_at n)
  longer n = length-append (alterations domain asked ranks n) (altered_at n)

  module _ (b f : RankedClock) (when : IsOnce rank_cmp Is rank b f) where
    same_b : (n : ℕ) → n + 1 < when.when → length (altered_at n) ≡ 0
    same_b n h = not_altered n (rank n b) (rank (n + 1) b) (best_is n b (when.until n (omega arith))) (best_is (n + 1) b (when.until (n + 1) h)) (identity_after (n + 1) b ∙ sym (identity_after n b))

    same_f : (n : ℕ) → when.when ≤ n → length (altered_at n) ≡ 0
    same_f n h = not_altered n (rank n f) (rank (n + 1) f) (best_is n f (when.since n h)) (best_is (n + 1) f (when.since (n + 1) (omega arith))) (identity_after (n + 1) f ∙ sym (identity_after n f))

    none_until : (n : ℕ) → n < when.when → length (alterations domain asked ranks n) ≡ 0
    none_until zero h = refl
    none_until (suc n) h =
        let more = longer n in
        let none_ = none_until n (omega arith) in
        let same = same_b n (omega arith) in
        omega arith

    once_in_all : (n : ℕ) → length (alterations domain asked ranks n) ≤ 1
    once_in_all zero = omega arith
    once_in_all (suc n) =
        let more = longer n in
        ⊎_elim
        (λ (h : n < when.when). let none_ = none_until n h in let one_ = one_at_most (altered (n + 1) (best n) (best (n + 1))) in omega arith)
        (λ (h : when.when ≤ n). let same = same_f n h in let before_ = once_in_all n in omega arith)
        (cases_lt n when.when)

  -- nobody has a rank
  module _ (none_is : (r : RankedClock) → Is r → ⊥) where
    no_best : (n : ℕ) (o : Option Rank) → best n ≡ o → best n ≡ None
    no_best n None e = e
    no_best n (Some v) e = let l = least_of n v e in absurd (none_is l.0 l.1.0.is)

    never : (n : ℕ) → length (alterations domain asked ranks n) ≡ 0
    never zero = refl
    never (suc n) =
        let more = longer n in
        let before_ = never n in
        let same : length (altered_at n) ≡ 0 = ap (λ o. length (option_to_list (altered (n + 1) o (best (n + 1))))) (no_best n (best n) refl) in
        omega arith

  -- the last state is that after all changes
  final : (f : RankedClock) → IsLeast rank_cmp Is (rank (length asked + 1)) f → IsLeast rank_cmp Is after f
  final f l =
      let at_end : (r : RankedClock) → Is r → rank (length asked + 1) r ≡ after r = λ r is. course.late (length asked + 1) r is (course.within r is) in
      record {
        is = l.is;
        least = λ c is. subst (λ w. is_gt (rank_cmp w (after c)) ≡ false) (at_end f l.is) (subst (λ w. is_gt (rank_cmp (rank (length asked + 1) f) w) ≡ false) (at_end c is) (l.least c is));
      }

  by_final : (b : RankedClock) → IsLeast rank_cmp Is before b → best_in domain ranks ≡ Some b.rank → (o : Option Rank) → best (length asked + 1) ≡ o → length (alterations domain asked ranks (length asked)) ≤ 1
  by_final b l held None e = absurd (nobody (length asked + 1) e b l.is)
  by_final b l held (Some v) e =
      let f = least_of (length asked + 1) v e in
      once_in_all b f.0 (changes_once b f.0 l (final f.0 f.1.0) held) (length asked)

  by_present : (o : Option Rank) → best 0 ≡ o → length (alterations domain asked ranks (length asked)) ≤ 1
  by_present None e = let none_ = never (nobody 0 e) (length asked) in omega arith
  by_present (Some v) e =
      let b = least_of 0 v e in
      by_final b.0 b.1.0 (e ∙ ap Some (sym b.1.1)) (best (length asked + 1)) refl

  one_best : length (alterations domain asked ranks (length asked)) ≤ 1
  one_best = by_present (best 0) refl

-- The order that is derived has what the law takes of it.
pub returns : goal.returns
returns c = λ s given asked domain moved sorted apart one.
    one_best _ (record {
      total = key_laws.total-law;
      better_first = λ x y a w best p q.
          ap (λ t. (key_order.ghosts).cmp (record x { turn = t }) y) p
          ∙ ap (λ t. (key_order.ghosts).cmp (record x { turn = turns.Better a }) (record y { turn = t })) q;
      best_to_be_first = λ x y a b p q less.
          ap (λ t. (key_order.ghosts).cmp (record x { turn = t }) y) p
          ∙ ap (λ t. (key_order.ghosts).cmp (record x { turn = turns.Better a }) (record y { turn = t })) q
          ∙ rw less refl;
      present_best_last = λ x y a b p q.
          ap (λ t. (key_order.ghosts).cmp (record x { turn = t }) y) p
          ∙ ap (λ t. (key_order.ghosts).cmp (record x { turn = turns.Worse false (record { 0 = a }) }) (record y { turn = t })) q;
    }) s given asked domain moved sorted (ranks_of s) refl apart one
