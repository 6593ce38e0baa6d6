use Rattle.std.proofs.Common.{◌≡◌, ◌∙◌, ◌+◌, ◌++◌, ap, length}
use Rattle.byteorder.specs.Endian.{big_bytes}
use Rattle.ptpm_codec.specs.Envelope.{envelope_of, written}
use Rattle.ptpm_codec.proofs.CanonicalLaws.{answer_written}
use Rattle.ptpm_codec.proofs.envelope.Envelope.answer_in.Goals as goal

pub returns : goal.returns
returns c = λ v action id fits is.
    let octets = c.args.octets.now in
    let n = length octets in
    let first : c.copy_from_slice.new.self ++ c.copy_from_slice-2.new.self ≡ envelope_of v action id ++ octets =
    (λ i. c.copy_from_slice.ensures.after i ++ c.copy_from_slice-2.ensures.after i) ∙ ap (λ e. e ++ octets) (c.self.view_is ∙ is) in
    c.write_u16-3.ensures.octets
    ∙ ap (written 50 (big_bytes 2 (2 + n))) (c.write_u16-2.ensures.octets
    ∙ ap (written 28 (big_bytes 2 c.args.port)) (c.write_u16.ensures.octets ∙ ap (written 2 (big_bytes 2 (54 + n))) first))
    ∙ answer_written v action id c.args.port octets fits
