use Rattle.std.proofs.Common.{drop, rules}
use Rattle.ptpm_members.specs.FieldText.{member_line}
use Rattle.ptpm_members.specs.Names.{member_name}
use Rattle.ptpm_members.specs.ValueText.{value_text}
use Rattle.ptpm_members.proofs.field_text.push_member.Goals as goal

pub returns : goal.returns
unfolding member_line
returns g c =
    let f = c.args.field in
    let name : g.T.TextSink.pushed c.push_str.new.self (member_name f.0) c.push_str-2.new.self = search rules in
    let value : g.T.TextSink.pushed c.push_str-3.new.self (value_text f.2 (drop f.1 c.args.octets.now)) c.push_value.new.sink = search rules in
    g.met.T.TextSink.pushed_twice _ _ _ _ _
    (g.met.T.TextSink.pushed_twice _ _ _ _ _
    (g.met.T.TextSink.pushed_twice _ _ _ _ _
    (g.met.T.TextSink.pushed_twice _ _ _ _ _ c.push_str.ensures name) c.push_str-3.ensures) value) c.push_str-4.ensures
