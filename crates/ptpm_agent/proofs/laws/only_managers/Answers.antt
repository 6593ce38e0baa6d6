use Rattle.std.specs.FinMap.{get-empty}
use Rattle.ptpm_codec.specs.Identity.{identity_cmp}
use Rattle.ptpm_agent.specs.Laws.{AreOfManagers}
use Rattle.ptpm_agent.specs.Turn.{State}
use Rattle.ptpm_agent.proofs.Turns.{turn-next, AreOfManagers-judged}
use Rattle.ptpm_agent.proofs.laws.only_managers.Goals as goal

pub returns-clause-first : goal.returns-clause-first
returns-clause-first c = λ clock d m unknown. get-empty identity_cmp m

pub returns-clause-next : goal.returns-clause-next
returns-clause-next c = λ clock s ingress datagram before.
    turn-next (λ (n : State). AreOfManagers clock n.entries) clock s ingress datagram before (λ v r. AreOfManagers-judged clock s v before)
