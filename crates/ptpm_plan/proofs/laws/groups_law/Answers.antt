-- What is of an earlier group has a lesser key.
use Rattle.std.proofs.Common.{◌≡◌, ◌<◌, ◌≤◌, List, get_or, ⊎_elim, refl, sym, ◌∙◌, ap, arith}
use Rattle.std.proofs.lemmas.Bool.{cases_lt, true≢false}
use Rattle.std.proofs.lemmas.List.Sorted.{ranks_by, sorted_far}
use Rattle.std.specs.List.Sorted.{IsNonDecreasingBy, IsSortedByKey}
use Rattle.std.specs.Ordering.{is_lt}
use Rattle.std.specs.declared.cmp.Ordering.{Ordering}
use Rattle.std.specs.declared.cmp.Ordering.TheVariants.{Less}
use Rattle.ptpm_plan.specs.Order.{group, order_key}
use Rattle.ptpm_plan.specs.declared.order.OrderKey.{OrderKey}
use Rattle.ptpm_plan.specs.declared.order.Turn.{Turn}
use Rattle.ptpm_plan.specs.contracts.order.OrderKeyOrd.TheImpl as key_order
use Rattle.ptpm_plan.specs.contracts.order.OrderKeyOrd.TheImpl.Laws as key_laws
use Rattle.ptpm_plan.specs.declared.order.Turn.TheVariants as turns
use Rattle.ptpm_plan.proofs.laws.groups_law.Goals as goal

abbrev key_cmp : OrderKey → OrderKey → Ordering
key_cmp = (key_order.ghosts).cmp

at_most_six : (t : Turn) → group t ≤ 6
at_most_six turns.MorePatience = omega arith
at_most_six turns.Sender = omega arith
at_most_six turns.Free = omega arith
at_most_six turns.LessPatience = omega arith
at_most_six turns.Unranked = omega arith
at_most_six (turns.Better after) = omega arith
at_most_six (turns.Worse best after) = omega arith
at_most_six (turns.Move hops) = omega arith

less_by_turns : (x y : OrderKey) (t u : Turn) → group t < group u → key_cmp (record x { turn = t }) (record y { turn = u }) ≡ Less
less_by_turns x y turns.MorePatience turns.MorePatience h = absurd (omega arith)
less_by_turns x y turns.MorePatience _ h = refl
less_by_turns x y turns.Sender turns.MorePatience h = absurd (omega arith)
less_by_turns x y turns.Sender turns.Sender h = absurd (omega arith)
less_by_turns x y turns.Sender _ h = refl
less_by_turns x y turns.Free turns.MorePatience h = absurd (omega arith)
less_by_turns x y turns.Free turns.Sender h = absurd (omega arith)
less_by_turns x y turns.Free turns.Free h = absurd (omega arith)
less_by_turns x y turns.Free _ h = refl
less_by_turns x y turns.LessPatience turns.MorePatience h = absurd (omega arith)
less_by_turns x y turns.LessPatience turns.Sender h = absurd (omega arith)
less_by_turns x y turns.LessPatience turns.Free h = absurd (omega arith)
less_by_turns x y turns.LessPatience turns.LessPatience h = absurd (omega arith)
less_by_turns x y turns.LessPatience _ h = refl
less_by_turns x y turns.Unranked (turns.Move hops) h = refl
less_by_turns x y turns.Unranked _ h = absurd (omega arith)
less_by_turns x y (turns.Better after) (turns.Move hops) h = refl
less_by_turns x y (turns.Better after) _ h = absurd (omega arith)
less_by_turns x y (turns.Worse best after) (turns.Move hops) h = refl
less_by_turns x y (turns.Worse best after) _ h = absurd (omega arith)
less_by_turns x y (turns.Move hops) u h = let most = at_most_six u in absurd (omega arith)

in_groups : {X : Type 0} (key : X → OrderKey) (xs : List X) → IsSortedByKey key key_cmp xs → IsNonDecreasingBy (λ (x : X). group (key x).turn) xs
in_groups key xs sorted i j d upward within = ⊎_elim
    (λ (less : group (key (get_or xs j d)).turn < group (key (get_or xs i d)).turn).
    let far = sorted_far (λ x y. is_lt (key_cmp (key x) (key y))) (ranks_by key_laws.total-law key) xs sorted i j d upward within in
    absurd (true≢false (sym (ap is_lt (less_by_turns (key (get_or xs j d)) (key (get_or xs i d)) (key (get_or xs j d)).turn (key (get_or xs i d)).turn less)) ∙ far)))
    (λ upward_. upward_)
    (cases_lt (group (key (get_or xs j d)).turn) (group (key (get_or xs i d)).turn))

-- The keys are sorted, and so are the groups.
pub returns : goal.returns
returns c = λ s given asked sorted. in_groups (order_key s given) asked sorted
