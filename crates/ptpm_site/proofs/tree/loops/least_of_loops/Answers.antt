-- Each walk passes its first place, and marks the least place of a loop that it finds.
use Rattle.std.proofs.Common.{◌≡◌, ◌<◌, true, Some, None, Vec, Bool, length, set, vec_len, sym, ap, subst, arith}
use Rattle.ptpm_site.specs.Walks.{Walked}
use Rattle.ptpm_site.proofs.Strays.{AreMarked, AreMarked-all, AreMarked-round, AreMarked-straight, IsClosed-more, IsPassed-next}
use Rattle.ptpm_site.proofs.tree.loops.least_of_loops.Goals as goal
use Rattle.ptpm_site.proofs.tree.loops.least_of_loops.Goals.{in-Some, in_default}

pub loop-start-preserved : goal.loop-start-preserved
loop-start-preserved c =
    let f = c.args.followed.now in
    let l = c.loop-start in
    let old = l.walks.passed.items in
    let new = c.walk.new.self in
    let P = new.passed.items in
    let walked = c.in_ok-index.ensures.walked in
    let count = c.in_ok-index.ensures.count in
    let closed = IsClosed-more f old P c.in_ok-index.field-0 l.invariant.closed walked in
    let passed = IsPassed-next f l.walks.indices.items new.indices.items old P c.in_ok-index.field-0 l.start l.walks.numbered new.numbered walked l.invariant.passed
    c.in_ok-index.ensures.reached in
    elim c.match-branch-4.branch [
      | in-Some w ↦
          let back = w.in-Some.index in
          let round : Walked f old P (Some back) = subst (Walked f old P) w.in-Some.is walked in
          let among = w.least_from-least.ensures.among in
          let within : among.0 < length P = omega (arith, new.passed.ok.0, among.2) in
          let places : length new.indices.items ≡ length f = omega (arith, new.indices.ok.0, count) in
          let marks : length l.marks.items ≡ length f = omega (arith, l.marks.ok.0, l.invariant.marks) in
          let marked = AreMarked-round f new.indices.items old P l.marks.items back among.0 new.numbered l.invariant.closed round l.invariant.marked places marks among.1 within
          (λ k le lt. omega (arith, new.passed.ok.0, w.least_from-least.ensures.least k le, among.3)) in
          let at_least : AreMarked f P (set l.marks.items w.least_from-least.result true) = subst (λ p. AreMarked f P (set l.marks.items p true)) among.3 marked in
          record {
            marks = omega (arith, ap vec_len w.marks-is, l.invariant.marks);
            count = count;
            closed = closed;
            marked = subst (AreMarked f P) (sym (ap (λ (v : Vec Bool _). v.items) w.marks-is)) at_least;
            passed = passed;
          }
      | in_default w ↦
          let straight : Walked f old P None = subst (Walked f old P) w.in_default.is walked in
          record {
            marks = omega (arith, ap vec_len w.marks-is, l.invariant.marks);
            count = count;
            closed = closed;
            marked = subst (AreMarked f P) (sym (ap (λ (v : Vec Bool _). v.items) w.marks-is))
                (AreMarked-straight f new.indices.items old P l.marks.items new.numbered l.invariant.closed straight l.invariant.marked);
            passed = passed;
          }
    ]

pub returns : goal.returns
returns c = λ p lt.
    let l = c.loop-start in
    AreMarked-all c.args.followed.now l.walks.indices.items l.walks.passed.items l.marks.items p l.walks.numbered l.invariant.marked (l.invariant.passed p (omega arith))
