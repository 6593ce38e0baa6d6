use Rattle.std.proofs.Common.{◌∙◌, arith, subst, sym}
use Rattle.std.proofs.KnownBytes.{Appends-nil}
use Rattle.std.specs.Io.KnownBytes.{Appends}
use Rattle.ptpm_commands.proofs.Telling.{all-sent}
use Rattle.ptpm_commands.proofs.answer.write_messages.Goals as goal

pub loop-port-init : goal.loop-port-init
loop-port-init g c = Appends-nil (g.O.Write.contents c.args.out.now)

pub returns : goal.returns
returns g c =
    subst (Appends (g.O.Write.contents c.args.out.now) (g.O.Write.contents c.loop-port.out))
    (all-sent c.entries-entries.result.now c.args.outbox.now c.loop-port.port-index c.entries-entries.ensures.messages
    (sym c.is_empty.ensures ∙ c.if-is_empty.false) (omega (arith, c.loop-port-test.false)))
    c.loop-port.invariant
