use Rattle.std.proofs.Common.{◌∙◌, arith, flat_map, inl, inr, subst, sym}
use Rattle.std.specs.Io.KnownBytes.{Appends}
use Rattle.ptpm_commands.specs.Lines.{left_in}
use Rattle.ptpm_commands.specs.Show.{AreShown, row_lines}
use Rattle.ptpm_commands.specs.Taken.{ShowsNext, line_message}
use Rattle.ptpm_commands.proofs.TakenLemmas.{passed-first, passed-next, passed-over, passed-shown, all-good, is-fault}
use Rattle.ptpm_commands.proofs.show.show_good_lines_as.Goals as goal
use Rattle.ptpm_commands.proofs.show.show_good_lines_as.Goals.{else-loop-number-test, in-Err+in_ok-flush-in-Err, in-Ok-true, then-loop-number-test+in-Ok-false}

pub loop-number-init : goal.loop-number-init
loop-number-init g c = passed-first _ _ _

pub loop-number-preserved : goal.loop-number-preserved
loop-number-preserved g c =
    let R = g.R.Read.remaining in
    let W = g.O.Write.contents in
    let so = c.loop-number.invariant in
    elim c.match-show_next.branch [
      | in-Ok-true w ↦
          let next = subst (λ more. ShowsNext c.args.form c.loop-number.number more (left_in R c.loop-number.lines) (left_in R c.show_next.new.lines) (W c.loop-number.out) (W c.show_next.new.out))
          w.in-Ok-true.field-0-test w.in-Ok-true.ensures.next in
          rw w.out-is (passed-next _ _ _ _ _ _ _ _ so next)
      | in-Err+in_ok-flush-in-Err w ↦
          let of_line = sym w.is_of_line.ensures ∙ w.if-is_of_line.true in
          rw w.out-is
          (passed-over _ _ _ _ _ _ _ (W c.show_next.new.out) _ _ so
          (is-fault line_message c.loop-number.number (left_in R c.loop-number.lines) (left_in R c.show_next.new.lines) _ w.in-Err.ensures.fault of_line)
          (w.in-Err.ensures.unprinted of_line) w.in_ok-flush-in-Err.ensures.bytes)
    ]

pub returns-clause-shown : goal.returns-clause-shown
returns-clause-shown g c =
    let R = g.R.Read.remaining in
    let W = g.O.Write.contents in
    let before = passed-shown _ _ _ _ _ _ c.loop-number.invariant in
    elim c.loop-number-test.branch [
      | else-loop-number-test w ↦ rw w.out-is before
      | then-loop-number-test+in-Ok-false w ↦
          let next = subst (λ more. ShowsNext c.args.form c.loop-number.number more (left_in R c.loop-number.lines) (left_in R w.show_next.new.lines) (W c.loop-number.out) (W w.show_next.new.out))
          w.in-Ok-false.field-0-test w.in-Ok-false.ensures.next in
          rw w.out-is (subst (λ o. AreShown c.args.form (W c.args.out.now) o) (sym next.1) before)
    ]

pub returns-clause-lines : goal.returns-clause-lines
returns-clause-lines g c =
    let R = g.R.Read.remaining in
    let W = g.O.Write.contents in
    let so = c.loop-number.invariant in
    let text = flat_map (row_lines c.args.form) in
    let first = left_in R c.in_ok-lines.lines in
    elim c.loop-number-test.branch [
      | else-loop-number-test w ↦
          rw w.out-is
          (all-good line_message text so.rows c.loop-number.number (R c.args.reader) first (left_in R c.loop-number.lines) (left_in R c.loop-number.lines)
          (W c.args.out.now) (W c.loop-number.out) c.in_ok-lines.ensures.octets so.passes (inr (omega (arith, w.loop-number-test.false))) so.printed)
      | then-loop-number-test+in-Ok-false w ↦
          let next = subst (λ more. ShowsNext c.args.form c.loop-number.number more (left_in R c.loop-number.lines) (left_in R w.show_next.new.lines) (W c.loop-number.out) (W w.show_next.new.out))
          w.in-Ok-false.field-0-test w.in-Ok-false.ensures.next in
          let printed = subst (λ o. Appends (W c.args.out.now) o (text so.rows)) (sym next.1) so.printed in
          rw w.out-is
          (all-good line_message text so.rows c.loop-number.number (R c.args.reader) first (left_in R c.loop-number.lines) (left_in R w.show_next.new.lines)
          (W c.args.out.now) (W w.show_next.new.out) c.in_ok-lines.ensures.octets so.passes (inl next.0) printed)
    ]
