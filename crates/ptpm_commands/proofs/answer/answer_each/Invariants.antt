use Rattle.std.proofs.Common.{◌≡◌}
use Rattle.ptpm_agent.specs.Laws.{initial_clock_state}
use Rattle.ptpm_data.specs.declared.ports.TheConstants.{INLINE_PORTS}
use Rattle.ptpm_data.specs.Members.{HasPort}
use Rattle.ptpm_table.specs.Managers.{clock_with}
use Rattle.ptpm_commands.specs.Answer.{clock_shown, state_shown}
use Rattle.ptpm_commands.specs.FreshClock.{fresh_sets, managers, shown}
use Rattle.ptpm_commands.specs.Lines.{left_in}
use Rattle.ptpm_commands.proofs.Telling.{Answers}
use Rattle.ptpm_commands.proofs.answer.answer_each.Given as goal

-- the clock is the one that started, and what it sent for the datagrams of the lines so far is printed
abbrev pub invariant-loop-number : goal.invariant-loop-number
invariant-loop-number g l =
    record {
      clock : clock_shown l.clock ≡ clock_with shown managers;
      port : HasPort 1 l.clock.sets;
      few : l.clock.table.answers ≡ INLINE_PORTS;
      told : Answers (clock_with shown managers) (initial_clock_state fresh_sets) l.number (left_in g.R.Read.remaining l.initial.lines)
          (left_in g.R.Read.remaining l.lines) (g.O.Write.contents l.initial.out) (g.O.Write.contents l.out) (state_shown l.clock);
    }
