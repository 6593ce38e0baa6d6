use Rattle.std.proofs.Common.{sym, ◌∙◌, arith}
use Rattle.ptpm_members.proofs.ParsingLemmas.{number_read, number_unread, small_if_some, with_plus}
use Rattle.ptpm_members.proofs.typing.number_up_to.Goals as goal

pub returns-then-has_plus-clause-value : goal.returns-then-has_plus-clause-value
returns-then-has_plus-clause-value c =
    sym (with_plus c.args.most c.args.text.now (sym c.has_plus.ensures ∙ c.if-has_plus.true))

pub returns-in-Ok-clause-value : goal.returns-in-Ok-clause-value
returns-in-Ok-clause-value c =
    c.then_some.ensures
    ∙ number_read c.args.most c.args.text.now c.from_str_radix.result c.in-Ok.number c.in-Ok.is (sym c.has_plus.ensures ∙ c.if-has_plus.false) c.from_str_radix.ensures.value

pub returns-in-Err-clause-value : goal.returns-in-Err-clause-value
returns-in-Err-clause-value c =
    sym (number_unread c.args.most c.args.text.now c.from_str_radix.result _ c.in-Err.is (omega arith) (sym c.has_plus.ensures ∙ c.if-has_plus.false) c.from_str_radix.ensures.value)

pub returns-in-Ok-clause-small : goal.returns-in-Ok-clause-small
returns-in-Ok-clause-small c = rw c.then_some.ensures (small_if_some c.args.most c.in-Ok.number)
