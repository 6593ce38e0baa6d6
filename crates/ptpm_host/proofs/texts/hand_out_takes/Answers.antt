use Rattle.std.proofs.Common.{[], rules}
use Rattle.ptpm_host.proofs.HandingOut.{first_is}
use Rattle.ptpm_host.proofs.texts.hand_out_takes.Goals as goal

pub returns : goal.returns
returns c = search (rules, c.push_into.ensures.0 [] c.args.octets.now (first_is c.args.octets.now))
