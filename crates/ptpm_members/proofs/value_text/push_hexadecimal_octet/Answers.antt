use Rattle.ptpm_members.proofs.value_text.push_hexadecimal_octet.Goals as goal

pub returns : goal.returns
returns g c =
    g.met.T.TextSink.pushed_twice _ _ _ _ _ c.push_str.ensures c.push_digits.ensures
