use Rattle.ptpm_host.proofs.UnderWay.{message_front}
use Rattle.ptpm_host.proofs.under_way.first_message.Goals as goal

pub returns : goal.returns
returns c = message_front c.args.datagram.now c.message_size.result c.requires c.message_size.ensures.size
