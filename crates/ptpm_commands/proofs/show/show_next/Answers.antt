use Rattle.std.proofs.Common.{refl, subst}
use Rattle.ptpm_text.specs.Lines.{ReadsNext}
use Rattle.ptpm_commands.specs.Lines.{latest_line, left_in, row_value}
use Rattle.ptpm_commands.proofs.TakenLemmas.{shows-next, next-last}
use Rattle.ptpm_commands.proofs.show.show_next.Goals as goal

pub returns-then-not-branch-clause-next : goal.returns-then-not-branch-clause-next
returns-then-not-branch-clause-next g c =
    let R = g.R.Read.remaining in
    let read = subst (λ more. ReadsNext (left_in R c.args.lines.now) more (latest_line c.read.new.self) (left_in R c.read.new.self)) c.if-not-branch.true c.in_ok-read.ensures.next in
    (next-last (left_in R c.args.lines.now) (left_in R c.read.new.self) (latest_line c.read.new.self) read, refl)

pub returns-clause-next : goal.returns-clause-next
returns-clause-next g c =
    let R = g.R.Read.remaining in
    let W = g.O.Write.contents in
    let line = latest_line c.read.new.self in
    let read = subst (λ more. ReadsNext (left_in R c.args.lines.now) more line (left_in R c.read.new.self)) c.if-not-branch.false c.in_ok-read.ensures.next in
    shows-next c.args.form c.args.number (left_in R c.args.lines.now) (left_in R c.read.new.self) (W c.args.out.now) (W c.show_row.new.out)
    (W c.flush_before_wait.new.out) line (row_value c.in_ok-row.row) read c.in_ok-row.ensures.row c.in_ok-show_row.ensures.shown
    c.in_ok-flush_before_wait.ensures.kept
