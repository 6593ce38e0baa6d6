use Rattle.std.proofs.Common.{[], ◌∷◌, ◌∙◌, ◌%◌, ◌/◌, ◌*◌, ◌+◌, ap, subst}
use Rattle.byteorder.specs.Endian.{big_bytes}
use Rattle.ptpm_codec.specs.Envelope.{written}
use Rattle.ptpm_codec.specs.declared.message.Message.{Message}
use Rattle.ptpm_codec.specs.Message.{PortIdentityFits, action_code}
use Rattle.ptpm_codec.proofs.CanonicalLaws.{by_place, header_written}
use Rattle.ptpm_codec.proofs.encoding.write_header.Goals as goal

pub returns-clause-source : goal.returns-clause-source
returns-clause-source c = subst (λ (m : Message). PortIdentityFits m.source) c.draft.view_is c.write_identity.ensures.fits

pub returns-clause-target : goal.returns-clause-target
returns-clause-target c = subst (λ (m : Message). PortIdentityFits m.target) c.draft.view_is c.write_identity-2.ensures.fits

pub returns-clause-octets : goal.returns-clause-octets
returns-clause-octets c =
    let d = c.draft.inside in
    let action = c.code-action.ensures ∙ ap action_code c.action.ensures in
    let e0 = c.write_at.ensures ∙ ap (written 0 ((d.sdo / 256 * 16 + 0xd) ∷ 0x12 ∷ [])) c.requires.blank in
    let e1 = c.write_u16.ensures.octets ∙ ap (written 2 (big_bytes 2 c.args.size)) e0 in
    let e2 = c.write_at-2.ensures ∙ ap (written 4 (d.domain ∷ d.sdo % 256 ∷ [])) e1 in
    let e3 = c.write_identity.ensures.octets ∙ ap (λ m. written 28 (big_bytes 2 d.source.port) (written 20 d.source.clock.0 m)) e2 in
    let e4 = c.write_u16-2.ensures.octets ∙ ap (written 30 (big_bytes 2 d.number)) e3 in
    let e5 = c.write_u16-3.ensures.octets ∙ ap (written 32 (big_bytes 2 0x047f)) e4 in
    let e6 = c.write_identity-2.ensures.octets ∙ ap (λ m. written 42 (big_bytes 2 d.target.port) (written 34 d.target.clock.0 m)) e5 in
    c.write_at-3.ensures ∙ (λ i. written 44 (d.starting_hops ∷ d.hops ∷ action i ∷ 0 ∷ []) (e6 i))
    ∙ ap (λ (m : Message). by_place m c.args.size) c.draft.view_is
    ∙ header_written c.args.draft.now c.args.size (returns-clause-source c) (returns-clause-target c)
