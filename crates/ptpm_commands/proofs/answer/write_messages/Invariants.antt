use Rattle.std.proofs.Common.{take, flat_map}
use Rattle.std.specs.Io.KnownBytes.{Appends}
use Rattle.ptpm_commands.specs.Answer.{sent_line}
use Rattle.ptpm_commands.proofs.answer.write_messages.Given as goal

-- the messages so far are printed
abbrev pub invariant-loop-port : goal.invariant-loop-port
invariant-loop-port g l =
    Appends (g.O.Write.contents l.initial.out) (g.O.Write.contents l.out) (flat_map (λ e. sent_line (e.0, e.1.items)) (take l.port-index l.entries))
