use Rattle.std.proofs.Common.{arith}
use Rattle.std.proofs.lemmas.Str.Pattern.{strip_prefix_char}
use Rattle.ptpm_members.proofs.ParsingLemmas.{stripped}
use Rattle.ptpm_members.proofs.typing.without_minus.Goals as goal

pub returns : goal.returns
returns c = stripped c.args.text.now _ (strip_prefix_char 45 c.args.text.now _ c.strip_prefix.ensures.cases (omega arith))
