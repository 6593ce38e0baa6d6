use Rattle.ptpm_network.proofs.Lowering.{next-alike, none-passed, passed-alike, replies-alike, verdict-alike}
use Rattle.ptpm_network.proofs.lowered_laws.lowered_hops_answer_the_same.Goals as goal

pub returns-clause-same : goal.returns-clause-same
returns-clause-same c = λ clock s ingress most datagram lowered h.
    (verdict-alike clock s ingress most datagram lowered h, next-alike clock s ingress most datagram lowered h, replies-alike clock s ingress most datagram lowered h)

pub returns-clause-passed : goal.returns-clause-passed
returns-clause-passed c = passed-alike

pub returns-clause-stopped : goal.returns-clause-stopped
returns-clause-stopped c = none-passed
