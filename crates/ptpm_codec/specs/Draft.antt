-- A draft is the message of the same fields.
use Rattle.ptpm_codec.specs.declared.message.Message.{Message}
use Rattle.ptpm_codec.specs.declared.message.Body.{Body}
use Rattle.ptpm_codec.specs.declared.message.Body.TheVariants as bodies
use Rattle.ptpm_codec.specs.declared.draft.DraftBody.{DraftBody}
use Rattle.ptpm_codec.specs.declared.draft.DraftBody.TheVariants as drafts
use Rattle.ptpm_codec.specs.declared.draft.Draft.TheInside.{Inside}

abbrev pub body_of : DraftBody → Body
body_of (drafts.Request action id octets) = bodies.Request action id octets.now
body_of (drafts.Answer action id octets) = bodies.Answer action id octets.now
body_of (drafts.Fault action error id text) = bodies.Fault action error id text.now

abbrev pub drafted : Inside → Message
drafted d = record {
  sdo = d.sdo;
  domain = d.domain;
  source = d.source;
  number = d.number;
  target = d.target;
  starting_hops = d.starting_hops;
  hops = d.hops;
  body = body_of d.body;
}
