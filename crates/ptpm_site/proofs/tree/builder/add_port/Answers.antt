-- A row that names a port is no clock's.
use Rattle.std.proofs.Common.{ap, ◌∙◌}
use Rattle.ptpm_site.specs.Tree.{rows_at}
use Rattle.ptpm_site.proofs.Rows.{rows_at-not_seen}
use Rattle.ptpm_site.proofs.tree.builder.add_port.Goals as goal

pub returns-clause-same : goal.returns-clause-same
returns-clause-same c = λ p. ap (rows_at p) c.in_ok-push.ensures.items ∙ rows_at-not_seen c.args.rows.now.items c.args.domain c.args.parent p
