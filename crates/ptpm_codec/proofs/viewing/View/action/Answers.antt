use Rattle.ptpm_codec.proofs.ReadingLaws.{action_seen}
use Rattle.ptpm_codec.proofs.viewing.View.action.Goals as goal

pub returns : goal.returns
returns c = action_seen c.args.self.now c.self.inside.message.now c.self.inside.action c.self.inside.tlv c.self.view_is c.self.invariant
