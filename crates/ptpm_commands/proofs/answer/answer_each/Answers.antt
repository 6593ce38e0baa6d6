use Rattle.std.proofs.Common.{Ok, None, Some, ◌∙◌, ap, inl, inr, option_map, refl, ◌+◌, subst, sym}
use Rattle.ptpm_agent.specs.Laws.{initial_clock_state}
use Rattle.ptpm_table.specs.Managers.{clock_with}
use Rattle.ptpm_commands.specs.Answer.{answered_each, clock_shown, state_shown}
use Rattle.ptpm_commands.specs.FreshClock.{fresh_sets, managers, shown}
use Rattle.ptpm_text.specs.Lines.{ReadsNext}
use Rattle.ptpm_commands.specs.Lines.{datagram_in, latest_line, left_in}
use Rattle.ptpm_commands.specs.Taken.{line_datagram}
use Rattle.ptpm_commands.proofs.TakenLemmas.{all-taken, datagram-fault, first-fault, handed-on, known-itself, next-has, next-last}
use Rattle.ptpm_commands.proofs.Telling.{answers-kept, answers-pass, answers-turn}
use Rattle.ptpm_commands.proofs.answer.answer_each.Goals.{else-loop-number-test, then-loop-number-test+in_ok-read+then-not-branch}
use Rattle.ptpm_commands.proofs.answer.answer_each.Goals as goal
use Rattle.ptpm_commands.proofs.answer.answer_each.Goals.{in-Some+in_ok-answer_datagram, in_default}

pub loop-number-preserved : goal.loop-number-preserved
loop-number-preserved g c =
    let R = g.R.Read.remaining in
    let W = g.O.Write.contents in
    let fresh = clock_with shown managers in
    let first = initial_clock_state fresh_sets in
    let was = c.loop-number.invariant in
    let kept = c.in_ok-flush_before_wait.ensures.kept in
    let n = c.loop-number.number in
    let known = left_in R c.args.lines.now in
    let left = left_in R c.loop-number.lines in
    let others = left_in R c.read.new.self in
    let line = latest_line c.read.new.self in
    let read = subst (λ more. ReadsNext left more line others) c.if-not-branch.false c.in_ok-read.ensures.next in
    elim c.match-branch-3.branch [
      | in-Some+in_ok-answer_datagram w ↦
          let turned = w.in_ok-answer_datagram.ensures in
          let has = c.in_ok-datagram.ensures.datagram ∙ ap (λ d. Ok (option_map (λ v. v.items) d)) w.in-Some.is ∙ ap (λ o. Ok (Some o)) (sym w.as_slice.ensures.value) in
          let at = next-has datagram_in n left others line (Ok (Some w.as_slice.result.now)) read has in
          record {
            clock = ap clock_shown w.clock-is ∙ turned.clock ∙ was.clock;
            port = rw w.clock-is turned.port;
            few = rw w.clock-is turned.most;
            told = answers-kept fresh first (state_shown c.match-branch-3.clock) (n + 1) known others (W c.args.out.now) (W c.match-branch-3.out) (W c.flush_before_wait.new.out)
                (rw (w.clock-is, w.out-is)
                (answers-turn fresh (clock_shown c.loop-number.clock) first (state_shown c.loop-number.clock) (state_shown w.answer_datagram.new.clock) n known left others
                (W c.args.out.now) (W c.loop-number.out) (W w.answer_datagram.new.out) w.as_slice.result.now was.clock was.told at turned.answered turned.state))
                kept;
          }
      | in_default w ↦
          let has = c.in_ok-datagram.ensures.datagram ∙ ap (λ d. Ok (option_map (λ v. v.items) d)) w.in_default.is in
          let at = next-has datagram_in n left others line (Ok None) read has in
          record {
            clock = ap clock_shown w.clock-is ∙ was.clock;
            port = rw w.clock-is was.port;
            few = rw w.clock-is was.few;
            told = answers-kept fresh first (state_shown c.match-branch-3.clock) (n + 1) known others (W c.args.out.now) (W c.match-branch-3.out) (W c.flush_before_wait.new.out)
                (rw (w.clock-is, w.out-is)
                (answers-pass fresh first (state_shown c.loop-number.clock) n known left others (W c.args.out.now) (W c.loop-number.out) was.told at)) kept;
          }
    ]

pub returns-in_err-datagram-clause-lines : goal.returns-in_err-datagram-clause-lines
returns-in_err-datagram-clause-lines g c =
    let R = g.R.Read.remaining in
    let W = g.O.Write.contents in
    let told = c.loop-number.invariant.told in
    let text = answered_each (clock_with shown managers) (initial_clock_state fresh_sets) in
    let n = c.loop-number.number in
    let known = left_in R c.args.lines.now in
    let left = left_in R c.loop-number.lines in
    let others = left_in R c.read.new.self in
    let line = latest_line c.read.new.self in
    let read = subst (λ more. ReadsNext left more line others) c.if-not-branch.false c.in_ok-read.ensures.next in
    handed-on line_datagram text known (W c.args.out.now) (W c.loop-number.out) c.from_residual-in_err-datagram.result _ c.from_residual-in_err-datagram.ensures.1
    (first-fault line_datagram text told.datagrams n known known left others (W c.args.out.now) (W c.loop-number.out) (W c.loop-number.out) _ (known-itself known) told.reaches
    (datagram-fault n left others line _ read c.in_err-datagram.ensures.fault) c.in_err-datagram.ensures.line told.printed (λ of_line. refl))

pub returns-clause-lines : goal.returns-clause-lines
returns-clause-lines g c =
    let R = g.R.Read.remaining in
    let W = g.O.Write.contents in
    let told = c.loop-number.invariant.told in
    let text = answered_each (clock_with shown managers) (initial_clock_state fresh_sets) in
    let known = left_in R c.args.lines.now in
    let left = left_in R c.loop-number.lines in
    elim c.loop-number-test.branch [
      | else-loop-number-test w ↦
          all-taken line_datagram text told.datagrams c.loop-number.number known known left left (W c.args.out.now) (W c.loop-number.out) (known-itself known) told.reaches
          (inr w.loop-number-test.false) told.printed
      | then-loop-number-test+in_ok-read+then-not-branch w ↦
          let others = left_in R w.read.new.self in
          let line = latest_line w.read.new.self in
          let read = subst (λ more. ReadsNext left more line others) w.if-not-branch.true w.in_ok-read.ensures.next in
          all-taken line_datagram text told.datagrams c.loop-number.number known known left others (W c.args.out.now) (W c.loop-number.out) (known-itself known) told.reaches
          (inl (next-last left others line read)) told.printed
    ]
