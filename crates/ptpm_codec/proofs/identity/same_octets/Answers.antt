use Rattle.std.proofs.Common.{rules}
use Rattle.ptpm_codec.proofs.MessageLaws.{octets_by_number}
use Rattle.ptpm_codec.proofs.identity.same_octets.Goals as goal

pub returns : goal.returns
returns c =
    octets_by_number c.args.a c.args.b _ _ (search rules) (search rules) (search rules) (search rules) c.from_be_bytes.ensures
    c.from_be_bytes-2.ensures
