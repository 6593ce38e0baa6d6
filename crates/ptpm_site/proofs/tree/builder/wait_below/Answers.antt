-- No more wait at first; then one more does, one below the clock.
use Rattle.std.proofs.Common.{◌≡◌, ℕ, ◌+◌, ◌-◌, ◌<◌, ◌^◌, [], ◌∷◌, ◌++◌, Option, Some, None, get_or, append-nil, append_assoc, sym, ap, ◌∙◌, arith}
use Rattle.std.proofs.lemmas.List.Elements.{All-nil, All-push}
use Rattle.std.specs.Option.{SomeIff}
use Rattle.ptpm_site.specs.declared.tree.forest.Follower.{Follower}
use Rattle.ptpm_site.proofs.tree.builder.wait_below.Goals as goal

pub loop-index-init : goal.loop-index-init
loop-index-init c = record {
  more = [];
  is = sym (append-nil c.args.waiting.now.items);
  follow = All-nil (λ (w : ℕ × ℕ). (get_or c.args.forest.now.followed.items w.0 None ≡ Some c.args.place) × (w.1 ≡ c.args.depth + 1));
}

-- the next depth, if it is one
deeper_is : (o : Option ℕ) (n : ℕ) (P : Type 0) (deeper : ℕ) → SomeIff o P n → o ≡ Some deeper → deeper ≡ n
deeper_is None n P deeper h is = cc
deeper_is (Some m) n P deeper h is = let same = h.1 in cc

pub loop-index-preserved : goal.loop-index-preserved
loop-index-preserved c =
    let l = c.loop-index in
    let none : Follower = record { above = 0; port = 0; place = 0 } in
    let w : ℕ × ℕ = ((get_or c.followers_of-followers.result.now (l.index - 1) none).place, c.in_ok-deeper.deeper) in
    let deep = deeper_is c.checked_add.result (c.args.depth + 1) (c.args.depth + 1 < 2 ^ 32) c.in_ok-deeper.deeper c.checked_add.ensures c.in_ok-deeper.ensures.ok_part in
    record {
      more = l.invariant.more ++ w ∷ [];
      is = c.in_ok-push.ensures.items ∙ ap (λ ws. ws ++ w ∷ []) l.invariant.is ∙ append_assoc c.args.waiting.now.items l.invariant.more (w ∷ []);
      follow = All-push (λ (v : ℕ × ℕ). (get_or c.args.forest.now.followed.items v.0 None ≡ Some c.args.place) × (v.1 ≡ c.args.depth + 1)) l.invariant.more w l.invariant.follow
          (c.followers_of-followers.ensures (l.index - 1) none (omega arith), deep);
    }
