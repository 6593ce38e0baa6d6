use Rattle.ptpm_agent.proofs.AtMostOnce as law
use Rattle.ptpm_agent.proofs.laws.one_delivery.Goals as goal

pub returns-clause-begins : goal.returns-clause-begins
returns-clause-begins c = law.stands-initial_history

pub returns-clause-stands : goal.returns-clause-stands
returns-clause-stands c = λ clock first s h x k at e time. (law.turns_as first clock s h x k at e time).stands

pub returns-clause-replies : goal.returns-clause-replies
returns-clause-replies c = λ clock first s h x k at e time. (law.turns_as first clock s h x k at e time).replies

pub returns-clause-stays : goal.returns-clause-stays
returns-clause-stays c = λ clock first s h x k at e time. (law.turns_as first clock s h x k at e time).stays

pub returns-clause-others : goal.returns-clause-others
returns-clause-others c = law.turn-no_copy
