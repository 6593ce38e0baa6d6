use Rattle.std.proofs.Common.{arith, inl, inr, flat_map, subst, sym}
use Rattle.std.specs.Io.KnownBytes.{Appends}
use Rattle.ptpm_commands.specs.Lines.{left_in}
use Rattle.ptpm_commands.specs.Show.{AreShown, row_lines}
use Rattle.ptpm_commands.specs.Taken.{ShowsNext, line_message}
use Rattle.ptpm_commands.proofs.TakenLemmas.{so-first, so-next, so-shown, all-taken, first-fault, handed-on}
use Rattle.ptpm_commands.proofs.show.show_lines_as.Goals as goal
use Rattle.ptpm_commands.proofs.show.show_lines_as.Goals.{else-loop-number-test, then-loop-number-test+in_ok-show_next+then-not-branch}

pub loop-number-init : goal.loop-number-init
loop-number-init g c = so-first _ _ _

pub loop-number-preserved : goal.loop-number-preserved
loop-number-preserved g c =
    let R = g.R.Read.remaining in
    let W = g.O.Write.contents in
    let next = subst (λ more. ShowsNext c.args.form c.loop-number.number more (left_in R c.loop-number.lines) (left_in R c.show_next.new.lines) (W c.loop-number.out) (W c.show_next.new.out))
    c.if-not-branch.false c.in_ok-show_next.ensures.next in
    so-next _ _ _ _ _ _ _ _ c.loop-number.invariant next

pub returns-clause-shown : goal.returns-clause-shown
returns-clause-shown g c =
    let R = g.R.Read.remaining in
    let W = g.O.Write.contents in
    let before = so-shown _ _ _ _ _ _ c.loop-number.invariant in
    elim c.loop-number-test.branch [
      | else-loop-number-test w ↦ rw w.out-is before
      | then-loop-number-test+in_ok-show_next+then-not-branch w ↦
          let next = subst (λ more. ShowsNext c.args.form c.loop-number.number more (left_in R c.loop-number.lines) (left_in R w.show_next.new.lines) (W c.loop-number.out) (W w.show_next.new.out))
          w.if-not-branch.true w.in_ok-show_next.ensures.next in
          rw w.out-is (subst (λ o. AreShown c.args.form (W c.args.out.now) o) (sym next.1) before)
    ]

pub returns-clause-lines : goal.returns-clause-lines
returns-clause-lines g c =
    let R = g.R.Read.remaining in
    let W = g.O.Write.contents in
    let so = c.loop-number.invariant in
    let text = flat_map (row_lines c.args.form) in
    let first = left_in R c.in_ok-lines.lines in
    elim c.loop-number-test.branch [
      | else-loop-number-test w ↦
          rw w.out-is
          (all-taken line_message text so.rows c.loop-number.number (R c.args.reader) first (left_in R c.loop-number.lines) (left_in R c.loop-number.lines)
          (W c.args.out.now) (W c.loop-number.out) c.in_ok-lines.ensures.octets so.reaches (inr (omega (arith, w.loop-number-test.false))) so.printed)
      | then-loop-number-test+in_ok-show_next+then-not-branch w ↦
          let next = subst (λ more. ShowsNext c.args.form c.loop-number.number more (left_in R c.loop-number.lines) (left_in R w.show_next.new.lines) (W c.loop-number.out) (W w.show_next.new.out))
          w.if-not-branch.true w.in_ok-show_next.ensures.next in
          let printed = subst (λ o. Appends (W c.args.out.now) o (text so.rows)) (sym next.1) so.printed in
          rw w.out-is
          (all-taken line_message text so.rows c.loop-number.number (R c.args.reader) first (left_in R c.loop-number.lines) (left_in R w.show_next.new.lines)
          (W c.args.out.now) (W w.show_next.new.out) c.in_ok-lines.ensures.octets so.reaches (inl next.0) printed)
    ]

pub returns-in_err-show_next-clause-lines : goal.returns-in_err-show_next-clause-lines
returns-in_err-show_next-clause-lines g c =
    let R = g.R.Read.remaining in
    let W = g.O.Write.contents in
    let so = c.loop-number.invariant in
    let text = flat_map (row_lines c.args.form) in
    let failed = c.in_err-show_next.ensures in
    handed-on line_message text (R c.args.reader) (W c.args.out.now) (W c.show_next.new.out) c.from_residual-in_err-show_next.result _ c.from_residual-in_err-show_next.ensures.1
    (first-fault line_message text so.rows c.loop-number.number (R c.args.reader) (left_in R c.in_ok-lines.lines) (left_in R c.loop-number.lines)
    (left_in R c.show_next.new.lines) (W c.args.out.now) (W c.loop-number.out) (W c.show_next.new.out) _ c.in_ok-lines.ensures.octets so.reaches failed.fault failed.line
    so.printed failed.unprinted)
