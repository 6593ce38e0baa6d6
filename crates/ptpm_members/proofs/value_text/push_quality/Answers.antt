use Rattle.std.proofs.Common.{◌/◌, ◌%◌, decimal, rules}
use Rattle.ptpm_codec.specs.Identity.{octet_text}
use Rattle.ptpm_members.specs.ValueText.{quality_text}
use Rattle.ptpm_members.proofs.value_text.push_quality.Goals as goal

pub returns : goal.returns
unfolding quality_text
returns g c =
    let class : g.T.TextSink.pushed c.push_str.new.self (decimal c.args.quality.class) c.push_unsigned.new.sink = search rules in
    let high : g.T.TextSink.pushed c.push_str-3.new.self (octet_text (c.args.quality.variance / 256)) c.push_digits-2.new.sink = search rules in
    let low : g.T.TextSink.pushed c.push_digits-2.new.sink (octet_text (c.args.quality.variance % 256)) c.push_digits-3.new.sink = search rules in
    g.met.T.TextSink.pushed_twice _ _ _ _ _
    (g.met.T.TextSink.pushed_twice _ _ _ _ _ (g.met.T.TextSink.pushed_twice _ _ _ _ _ (g.met.T.TextSink.pushed_twice _ _ _ _ _ (g.met.T.TextSink.pushed_twice _ _ _ _ _ c.push_str.ensures class) c.push_str-2.ensures) c.push_digits.ensures) c.push_str-3.ensures)
    (g.met.T.TextSink.pushed_twice _ _ _ _ _ high low)
