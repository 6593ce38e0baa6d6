use Rattle.std.proofs.Common.{subst}
use Rattle.ptpm_text.specs.Lines.{ReadsNext}
use Rattle.ptpm_commands.specs.Lines.{latest_line, left_in}
use Rattle.ptpm_plan.proofs.Reading.{next_line, no_more_lines, no_more_numbers, nothing_read, of_reader}
use Rattle.ptpm_plan.proofs.planning.read_answers.Goals as goal

pub loop-number-init : goal.loop-number-init
loop-number-init g c = nothing_read (left_in g.R.Read.remaining c.in_ok-lines.lines) c.new-answers.result.list.items c.new-answers.ensures

pub loop-number-preserved : goal.loop-number-preserved
loop-number-preserved g c =
    let R = g.R.Read.remaining in
    let left = left_in R c.loop-number.lines in
    let next = left_in R c.read.new.self in
    let line = latest_line c.read.new.self in
    next_line c.loop-number.number (left_in R c.in_ok-lines.lines) left next line c.loop-number.answers.list.items
    c.take_line.new.answers.list.items
    (subst (λ more. ReadsNext left more line next) c.if-not-branch.false c.in_ok-read.ensures.next) c.in_ok-take_line.ensures
    c.loop-number.invariant

pub returns-then-not-branch : goal.returns-then-not-branch
returns-then-not-branch g c =
    let R = g.R.Read.remaining in
    let left = left_in R c.loop-number.lines in
    let next = left_in R c.read.new.self in
    let line = latest_line c.read.new.self in
    of_reader (R c.args.reader) (left_in R c.in_ok-lines.lines) c.loop-number.answers.list.items c.in_ok-lines.ensures.octets
    (no_more_lines c.loop-number.number (left_in R c.in_ok-lines.lines) left next line c.loop-number.answers.list.items
    (subst (λ more. ReadsNext left more line next) c.if-not-branch.true c.in_ok-read.ensures.next) c.loop-number.invariant)

pub returns : goal.returns
returns g c =
    let R = g.R.Read.remaining in
    of_reader (R c.args.reader) (left_in R c.in_ok-lines.lines) c.loop-number.answers.list.items c.in_ok-lines.ensures.octets
    (no_more_numbers c.loop-number.number (left_in R c.in_ok-lines.lines) (left_in R c.loop-number.lines)
    c.loop-number.answers.list.items c.loop-number-test.false c.loop-number.invariant)
