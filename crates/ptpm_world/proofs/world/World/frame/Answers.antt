use Rattle.ptpm_world.proofs.Common.{◌∙◌, frame_value, running}
use Rattle.ptpm_world.proofs.Telling.{frame-after}
use Rattle.ptpm_world.proofs.WorldLemmas.{known-frame}
use Rattle.ptpm_world.proofs.world.World.frame.Goals as goal

pub returns-clause-known : goal.returns-clause-known
returns-clause-known c = known-frame frame_value c.get.result (running c.args.self.now).frames c.args.number c.get.ensures

pub returns-clause-frame_after : goal.returns-clause-frame_after
returns-clause-frame_after c = λ N past at. c.get.ensures ∙ frame-after N past (running c.args.self.now) c.args.number at
