use Rattle.ptpm_members.specs.Takes.{next_name}
use Rattle.ptpm_members.proofs.takes.push_next_name.Goals as goal

pub returns : goal.returns
unfolding next_name
returns g c =
    g.met.T.TextSink.pushed_twice _ _ _ _ _ c.push_str.ensures c.push_named.ensures
