use Rattle.std.proofs.Common.{sym, ◌∙◌}
use Rattle.ptpm_world.specs.Placed.{names_in, placed}
use Rattle.ptpm_world.proofs.Ending.{answered}
use Rattle.ptpm_draw.proofs.picture.play_event.Goals as goal

pub returns-clause-answer : goal.returns-clause-answer
returns-clause-answer c = λ N is.
    (answered N c.args.world.now c.step-answer.new.self (placed (names_in c.args.world.now) c.args.line.now.event) c.step-answer.result
    (sym c.is_out_of_memory.ensures ∙ c.if-is_out_of_memory.false) (c.step-answer.ensures.step N is) c.step-answer.ensures.unchanged).0

pub returns-clause-goes : goal.returns-clause-goes
returns-clause-goes c = λ N is.
    (answered N c.args.world.now c.step-answer.new.self (placed (names_in c.args.world.now) c.args.line.now.event) c.step-answer.result
    (sym c.is_out_of_memory.ensures ∙ c.if-is_out_of_memory.false) (c.step-answer.ensures.step N is) c.step-answer.ensures.unchanged).1

pub returns-clause-network : goal.returns-clause-network
returns-clause-network c = λ N is. (c.step-answer.ensures.step N is).network

pub returns-then-is_out_of_memory-clause-network : goal.returns-then-is_out_of_memory-clause-network
returns-then-is_out_of_memory-clause-network c = λ N is. (c.step-answer.ensures.step N is).network
