use Rattle.std.proofs.Common.{decimal, rules}
use Rattle.ptpm_codec.specs.Identity.{port_identity_text}
use Rattle.ptpm_members.proofs.value_text.push_port_identity.Goals as goal

pub returns : goal.returns
unfolding port_identity_text
returns g c =
    let port : g.T.TextSink.pushed c.push_str.new.self (decimal c.args.identity.now.port) c.push_unsigned.new.sink = search rules in
    g.met.T.TextSink.pushed_twice _ _ _ _ _
    (g.met.T.TextSink.pushed_twice _ _ _ _ _ c.push_clock_identity.ensures c.push_str.ensures) port
