use Rattle.ptpm_message_json.proofs.Naming.{is_named}
use Rattle.ptpm_message_json.proofs.message.named_error.Goals as goal

pub returns : goal.returns
returns c = is_named c.args.number c.from_number.result c.from_number.ensures.named c.from_number.ensures.found
