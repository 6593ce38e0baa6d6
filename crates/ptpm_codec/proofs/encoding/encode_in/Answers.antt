use Rattle.std.proofs.Common.{◌∙◌, ◌++◌, ap, subst}
use Rattle.ptpm_codec.specs.Canonical.{header_octets, tlv_octets}
use Rattle.ptpm_codec.specs.declared.message.Message.{Message}
use Rattle.ptpm_codec.specs.Message.{BodyFits}
use Rattle.ptpm_codec.proofs.CanonicalLaws.{canonical_round_trip}
use Rattle.ptpm_codec.proofs.encoding.encode_in.Goals as goal

pub returns-clause-octets : goal.returns-clause-octets
returns-clause-octets c =
    let header = c.write_header.ensures.octets ∙ ap (header_octets c.args.draft.now) (c.requires.size) in
    let tlv = c.write_tlv.ensures.octets ∙ ap (λ (m : Message). tlv_octets m.body) c.draft.view_is in
    λ i. header i ++ tlv i

pub returns-clause-fits : goal.returns-clause-fits
returns-clause-fits c = record {
  source = c.write_header.ensures.source;
  number = c.write_header.ensures.number;
  target = c.write_header.ensures.target;
  body = subst BodyFits (ap (λ (m : Message). m.body) c.draft.view_is) c.write_tlv.ensures.fits;
}

pub returns-clause-spells : goal.returns-clause-spells
returns-clause-spells c = λ rest.
    rw (returns-clause-octets c) (canonical_round_trip c.args.draft.now rest c.requires.valid (returns-clause-fits c))
