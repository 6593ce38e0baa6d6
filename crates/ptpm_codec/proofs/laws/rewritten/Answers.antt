use Rattle.ptpm_codec.proofs.RewritingLaws.{set_starting_hops, set_hops, set_source_port, set_all}
use Rattle.ptpm_codec.proofs.laws.rewritten.Goals as goal

pub returns-clause-port : goal.returns-clause-port
returns-clause-port c = set_source_port

pub returns-clause-starting_hops : goal.returns-clause-starting_hops
returns-clause-starting_hops c = set_starting_hops

pub returns-clause-hops : goal.returns-clause-hops
returns-clause-hops c = set_hops

pub returns-clause-all : goal.returns-clause-all
returns-clause-all c = set_all
