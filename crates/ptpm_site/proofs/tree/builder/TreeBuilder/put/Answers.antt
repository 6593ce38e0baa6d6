-- The clock has its row after those of before, and those that follow it wait.
use Rattle.std.proofs.Common.{subst, sym}
use Rattle.std.proofs.lemmas.Result.{on_ok_weaker}
use Rattle.ptpm_site.specs.declared.tree.TreeRow.{TreeRow}
use Rattle.ptpm_site.specs.declared.tree.TreeRow.TheVariants as row
use Rattle.ptpm_site.specs.Growing.{AreTrue, AreWaiting, IsFollowedIn, StaysAbove}
use Rattle.ptpm_site.proofs.Rows.{AreBelow-push, AreWaiting-put, StaysAbove-push}
use Rattle.ptpm_site.proofs.tree.builder.TreeBuilder.put.Goals as goal

pub returns-clause-below : goal.returns-clause-below
returns-clause-below c =
    let here : TreeRow = row.Clock c.args.place c.args.depth in
    on_ok_weaker c.wait_below.result
    (λ _. subst (AreTrue c.args.forest.now) (sym c.in_ok-add_clock.ensures.row)
    (AreBelow-push (IsFollowedIn c.args.forest.now) c.args.self.now.rows.items here c.requires.below c.requires.stands))
    c.wait_below.ensures

pub returns-clause-above : goal.returns-clause-above
returns-clause-above c =
    let here : TreeRow = row.Clock c.args.place c.args.depth in
    let old = c.args.self.now.rows.items in
    on_ok_weaker c.wait_below.result
    (λ _. subst (StaysAbove c.args.depth old) (sym c.in_ok-add_clock.ensures.row) (StaysAbove-push old here))
    c.wait_below.ensures

pub returns-clause-waiting : goal.returns-clause-waiting
returns-clause-waiting c =
    let forest = c.args.forest.now in
    let old = c.args.self.now in
    on_ok_weaker c.wait_below.result
    (λ below from le h. subst (λ rows. AreWaiting forest rows from c.wait_below.new.waiting.items) (sym c.in_ok-add_clock.ensures.row)
    (AreWaiting-put forest old.rows.items c.args.place c.args.depth from old.waiting.items c.wait_below.new.waiting.items le c.requires.shallow below h))
    c.wait_below.ensures
