use Rattle.std.proofs.Common.{arith, rules}
use Rattle.ptpm_table.specs.SendingLaws.{one_fits}
use Rattle.ptpm_table.proofs.rendering.SenderAnswers.take_value.Goals as goal

pub returns : goal.returns
returns g c = record {
  grown_is = search rules;
  same_reference = search rules;
  envelope = search rules;
  id = search rules;
  ingress = search rules;
  of_port = search rules;
  count = search rules;
  fits = λ v action fits low.
      one_fits v action c.args.self.now.id c.args.self.now.ingress _ fits (omega (arith, c.unwrap_or-source.ensures, c.unwrap_or-source.type_inv)) low;
  messages = search rules;
}
