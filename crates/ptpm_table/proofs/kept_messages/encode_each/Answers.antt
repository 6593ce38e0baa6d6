use Rattle.std.proofs.Common.{arith, ◌∙◌, ap, refl}
use Rattle.ptpm_codec.specs.Message.{reply_action}
use Rattle.ptpm_table.specs.KeptMessages.{envelope_of}
use Rattle.ptpm_table.specs.KeptOctets.{OctetsValue}
use Rattle.ptpm_table.proofs.KeptMessageLaws.{filled_after, has_room, made, made_small, most_of_all}
use Rattle.ptpm_table.proofs.kept_messages.encode_each.Goals as goal

pub encode-requires-clause-small : goal.encode-requires-clause-small
encode-requires-clause-small c =
    omega (
      arith,
      made_small c.args.of_port (envelope_of c.args.exchange.now) c.args.exchange.now.action (reply_action c.args.exchange.now.action) c.args.answers.now
          c.loop-answer.answer-index c.answer-item.result c.draft-draft.result c.answer-item.is c.loop-answer-test.true c.requires.suits
          c.draft-draft.ensures.message,
      most_of_all c.args.of_port,
    )

pub encode-requires-clause-room : goal.encode-requires-clause-room
encode-requires-clause-room c =
    omega (
      arith,
      has_room c.args.of_port _ _ _ _ _ c.requires.count c.requires.least c.requires.few c.loop-answer-test.true c.loop-answer.invariant.filled.room
          (made_small c.args.of_port (envelope_of c.args.exchange.now) c.args.exchange.now.action (reply_action c.args.exchange.now.action) c.args.answers.now
          c.loop-answer.answer-index c.answer-item.result c.draft-draft.result c.answer-item.is c.loop-answer-test.true c.requires.suits
          c.draft-draft.ensures.message),
      c.loop-answer.invariant.most,
      ap (λ (k : OctetsValue). k.most) c.clear.ensures,
    )

pub loop-answer-preserved : goal.loop-answer-preserved
loop-answer-preserved c =
    let one = made c.args.of_port (envelope_of c.args.exchange.now) c.args.exchange.now.action (reply_action c.args.exchange.now.action) c.args.answers.now
    c.loop-answer.answer-index c.answer-item.result c.draft-draft.result c.answer-item.is c.loop-answer-test.true c.requires.suits
    c.draft-draft.ensures.message refl refl c.requires.asks c.draft-draft.ensures.valid c.encode.ensures.fits in
    record {
      filled = filled_after c.args.of_port (envelope_of c.args.exchange.now) c.args.answers.now c.loop-answer.kept.sizes c.loop-answer.kept.octets
          c.encode.new.self.sizes c.encode.new.self.octets c.loop-answer.answer-index c.answer-item.result c.draft-draft.result
          c.loop-answer.invariant.filled c.answer-item.is c.loop-answer-test.true one (ap (λ (k : OctetsValue). k.sizes) c.encode.ensures.kept) (ap (λ (k : OctetsValue). k.octets) c.encode.ensures.kept);
      most = ap (λ (k : OctetsValue). k.most) c.encode.ensures.kept ∙ c.loop-answer.invariant.most;
    }
