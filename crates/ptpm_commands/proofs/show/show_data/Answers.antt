use Rattle.std.proofs.KnownBytes.{Appends-nil}
use Rattle.ptpm_commands.specs.Show.{data_lines}
use Rattle.ptpm_commands.proofs.show.show_data.Goals as goal

pub returns-in-Json : goal.returns-in-Json
unfolding data_lines
returns-in-Json g c = rw c.in-Json.is (Appends-nil (g.O.Write.contents c.args.out.now))
