-- A walk begins, goes on, and ends at a place that was passed, or that follows none.
use Rattle.std.proofs.Common.{◌≤◌, Option, ℕ, length, length-set, sym, ap, arith}
use Rattle.ptpm_site.proofs.Passing.{Walked-out, Walked-round, Walking-begin, Walking-more}
use Rattle.ptpm_site.proofs.tree.walks.Walks.walk.Goals as goal

pub step-init : goal.step-init
step-init c = record {
  walking = Walking-begin c.args.followed.now c.args.self.now.passed.items c.args.start;
  count = c.requires.count;
  here = c.requires.start;
}

pub returns-else-index-first-clause-walked : goal.returns-else-index-first-clause-walked
returns-else-index-first-clause-walked c =
    let old = c.args.self.now.passed in
    let own : length old.items ≤ c.in-Some.index = omega (arith, old.ok.0, c.len-first.ensures) in
    Walked-round c.args.followed.now old.items c.step.self.passed.items c.args.start c.step.here c.step.invariant.walking c.step.self.indices.items c.step.self.numbered
    c.in-Some.index (sym c.in-Some.ensures) own

pub step-preserved : goal.step-preserved
step-preserved c = record {
  walking = rw c.in_ok-pass.ensures.passed
      (Walking-more c.args.followed.now c.args.self.now.passed.items c.step.self.passed.items c.args.start c.step.here c.step.invariant.walking c.in-Some-next.place
      (sym c.in-Some-next.ensures));
  count = omega (arith, c.pass.new.self.indices.ok.0, c.step.self.indices.ok.0, ap length c.in_ok-pass.ensures.indices, length-set {A = Option ℕ}, c.step.invariant.count);
  here = c.requires.within c.step.here c.in-Some-next.place (sym c.in-Some-next.ensures);
}

pub returns-in-None-clause-walked : goal.returns-in-None-clause-walked
returns-in-None-clause-walked c = rw c.in_ok-pass.ensures.passed
    (Walked-out c.args.followed.now c.args.self.now.passed.items c.step.self.passed.items c.args.start c.step.here c.step.invariant.walking (sym c.in-None.ensures))
