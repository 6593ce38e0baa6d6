use Rattle.std.proofs.Common.{◌≡◌, [], ◌∙◌, ◌++◌, ap, take}
use Rattle.byteorder.specs.Endian.{big_bytes}
use Rattle.ptpm_codec.specs.Canonical.{error_status_octets}
use Rattle.ptpm_codec.specs.Envelope.{envelope_of, written}
use Rattle.ptpm_codec.proofs.CanonicalLaws.{error_head, fault_written}
use Rattle.ptpm_codec.proofs.envelope.Envelope.refuse_in.Goals as goal

pub returns : goal.returns
returns c = λ v action answered fits is.
    let header : c.copy_from_slice.new.self ≡ take 48 (envelope_of v action answered) =
    c.copy_from_slice.ensures.after ∙ ap (take 48) (c.self.view_is ∙ is) in
    let tlv : c.write_error_head.new.head ≡ error_status_octets c.args.error c.args.id [] =
    c.write_error_head.ensures.octets ∙ error_head c.args.error c.args.id in
    c.write_u16-2.ensures.octets
    ∙ ap (written 28 (big_bytes 2 c.args.port)) (c.write_u16.ensures.octets ∙ ap (written 2 (big_bytes 2 60)) (λ i. header i ++ tlv i))
    ∙ fault_written v action answered c.args.id c.args.error c.args.port fits
