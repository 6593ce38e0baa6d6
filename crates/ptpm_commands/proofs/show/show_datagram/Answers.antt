use Rattle.std.proofs.Common.{sym, ap}
use Rattle.ptpm_commands.specs.Show.{read_as}
use Rattle.ptpm_commands.proofs.show.show_datagram.Goals as goal

pub returns-clause-shown : goal.returns-clause-shown
returns-clause-shown g c =
    (c.in_ok-message.message, (ap read_as (sym c.in_ok-message.ensures.exact), c.in_ok-show_message.ensures.shown))
