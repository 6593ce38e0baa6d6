use Rattle.ptpm_world.proofs.Common.{◌∙◌, arith, running}
use Rattle.ptpm_draw.specs.Picture.{message_of}
use Rattle.ptpm_draw.proofs.Pictures.{kept-all, kept-more}
use Rattle.ptpm_draw.proofs.picture.Picture.keep_messages.Goals as goal

pub loop-count-preserved : goal.loop-count-preserved
loop-count-preserved c = record {
  messages = kept-more (message_of c.args.row.now.at) (running c.args.world.now).frames c.loop-count.count _ _ _ c.loop-count.invariant.messages c.in_ok-keep_message.ensures.messages;
  rows = c.in_ok-keep_message.ensures.rows ∙ c.loop-count.invariant.rows;
  changes = c.in_ok-keep_message.ensures.changes ∙ c.loop-count.invariant.changes;
}

pub returns-clause-messages : goal.returns-clause-messages
returns-clause-messages c =
    kept-all (message_of c.args.row.now.at) (running c.args.world.now).frames c.loop-count.count _ _ c.loop-count.invariant.messages (omega arith)
