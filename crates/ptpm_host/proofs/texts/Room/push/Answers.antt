use Rattle.ptpm_host.proofs.HandingOut.{piece_keeps}
use Rattle.ptpm_host.proofs.texts.Room.push.Goals as goal

pub returns-clause-kept : goal.returns-clause-kept
returns-clause-kept c =
    rw c.in-Some.is
    (piece_keeps c.args.self.now.octets.now c.args.text.now c.in-Some.size c.put-self.result c.put-self.new.octets c.put-self.ensures)
