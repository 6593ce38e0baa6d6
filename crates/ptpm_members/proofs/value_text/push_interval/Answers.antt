use Rattle.std.proofs.Common.{◌/◌, ◌%◌, decimal, rules}
use Rattle.std.specs.Fmt.{sign_text}
use Rattle.std.specs.Int.{is_negative}
use Rattle.std.specs.Prelude.{unsigned_abs}
use Rattle.ptpm_members.specs.ValueText.{fraction_digits, interval_text}
use Rattle.ptpm_members.proofs.value_text.push_interval.Goals as goal

pub returns : goal.returns
unfolding interval_text
returns g c =
    let z = c.args.interval in
    let sign : g.T.TextSink.pushed c.args.sink.now (sign_text (is_negative z)) c.push_sign.new.sink = search rules in
    let whole : g.T.TextSink.pushed c.push_sign.new.sink (decimal (unsigned_abs z / 65536)) c.push_unsigned.new.sink = search rules in
    let fraction : g.T.TextSink.pushed c.push_str.new.self (fraction_digits 16 (unsigned_abs z % 65536)) c.push_fraction.new.sink = search rules in
    g.met.T.TextSink.pushed_twice _ _ _ _ _
    (g.met.T.TextSink.pushed_twice _ _ _ _ _
    (g.met.T.TextSink.pushed_twice _ _ _ _ _ sign whole) c.push_str.ensures) fraction
