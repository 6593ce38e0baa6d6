use Rattle.ptpm_codec.proofs.ReadingLaws.{not_both}
use Rattle.ptpm_codec.proofs.decoding.decode.Goals as goal

pub returns-in_err-view-clause-decoded : goal.returns-in_err-view-clause-decoded
returns-in_err-view-clause-decoded c = λ v s. absurd (not_both c.args.datagram.now v c.in_err-view.field-0.0 c.in_err-view.ensures.refused s)
