-- What comes next stands below what it follows, and none of the rest waits for a row that is deeper.
use Rattle.std.proofs.Common.{ℕ, ◌≤◌, [], ◌∷◌, ◌++◌, subst, sym, arith}
use Rattle.ptpm_site.specs.Growing.{AreWaiting}
use Rattle.ptpm_site.proofs.Rows.{AreWaiting-none, AreWaiting-rest, last_deep, last_stands, rest_shallow}
use Rattle.ptpm_site.proofs.tree.builder.TreeBuilder.add_subtree.Goals as goal

pub grow-init : goal.grow-init
grow-init c =
    let forest = c.args.forest.now in
    let old = c.args.self.now.rows.items in
    record {
      marked = c.in_ok-put.ensures.marked;
      stays = c.in_ok-put.ensures.stays;
      below = c.in_ok-put.ensures.below;
      above = c.in_ok-put.ensures.above;
      waiting = c.in_ok-put.ensures.waiting c.args.depth (omega arith)
          (subst (AreWaiting forest old c.args.depth) (sym c.clear.ensures.items) (AreWaiting-none forest old c.args.depth));
    }

pub put-requires-in-grow-clause-stands : goal.put-requires-in-grow-clause-stands
put-requires-in-grow-clause-stands c =
    let rows = c.grow.self.rows.items in
    let rest = c.pop.new.self.items in
    let w : ℕ × ℕ = (c.in-Some.below, c.in-Some.deeper) in
    let waiting : AreWaiting c.args.forest.now rows c.args.depth (rest ++ w ∷ []) =
    subst (AreWaiting c.args.forest.now rows c.args.depth) c.in-Some.ensures.items c.grow.invariant.waiting in
    last_stands c.args.forest.now rows c.args.depth rest w waiting

pub put-requires-in-grow-clause-shallow : goal.put-requires-in-grow-clause-shallow
put-requires-in-grow-clause-shallow c =
    let rows = c.grow.self.rows.items in
    let rest = c.pop.new.self.items in
    let w : ℕ × ℕ = (c.in-Some.below, c.in-Some.deeper) in
    let waiting : AreWaiting c.args.forest.now rows c.args.depth (rest ++ w ∷ []) =
    subst (AreWaiting c.args.forest.now rows c.args.depth) c.in-Some.ensures.items c.grow.invariant.waiting in
    rest_shallow c.args.forest.now rows c.args.depth rest w waiting

pub grow-preserved : goal.grow-preserved
grow-preserved c =
    let rows = c.grow.self.rows.items in
    let rest = c.pop.new.self.items in
    let w : ℕ × ℕ = (c.in-Some.below, c.in-Some.deeper) in
    let waiting : AreWaiting c.args.forest.now rows c.args.depth (rest ++ w ∷ []) =
    subst (AreWaiting c.args.forest.now rows c.args.depth) c.in-Some.ensures.items c.grow.invariant.waiting in
    let deep : c.args.depth ≤ c.in-Some.deeper = last_deep c.args.forest.now rows c.args.depth rest w waiting in
    record {
      marked = c.in_ok-put-2.ensures.stays c.args.place c.grow.invariant.marked;
      stays = λ p h. c.in_ok-put-2.ensures.stays p (c.grow.invariant.stays p h);
      below = c.in_ok-put-2.ensures.below;
      above = λ n above le h. c.in_ok-put-2.ensures.above n above (omega arith) (c.grow.invariant.above n above le h);
      waiting = c.in_ok-put-2.ensures.waiting c.args.depth deep (AreWaiting-rest c.args.forest.now rows c.args.depth rest w waiting);
    }
