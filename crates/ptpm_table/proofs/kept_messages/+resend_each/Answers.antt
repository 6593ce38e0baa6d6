use Rattle.std.proofs.Common.{arith, rules}
use Rattle.std.proofs.lemmas.Grind.{common_steps}
use Rattle.ptpm_table.proofs.kept_messages.+resend_each.Goals as goal

pub resend_each-requires : goal.resend_each-requires
resend_each-requires g c = λ c' κs below.
    let as_many = g.met.O.Outgoing.as_many c'.args.out.now c'.push_renewed.new.self c'.push_renewed.ensures.grown in
    (search rules, (search rules, grind (arith, common_steps)))
