use Rattle.ptpm_members.proofs.value_text.push_digits.Goals as goal

pub returns : goal.returns
returns g c =
    g.met.T.TextSink.pushed_twice _ _ _ _ _ c.push_digit.ensures c.push_digit-2.ensures
