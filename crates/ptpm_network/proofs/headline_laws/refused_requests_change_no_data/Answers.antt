use Rattle.ptpm_network.proofs.Standing.{refused-copy, refused-leaves}
use Rattle.ptpm_network.proofs.headline_laws.refused_requests_change_no_data.Goals as goal
use Rattle.ptpm_network.proofs.Arriving.{history-here}
use Rattle.ptpm_network.proofs.Common.{◌∙◌, after_arrival, history, ap}

pub returns-clause-refused : goal.returns-clause-refused
returns-clause-refused c = refused-copy

pub returns-clause-delivered : goal.returns-clause-delivered
returns-clause-delivered c = refused-leaves

pub returns-clause-no_copy : goal.returns-clause-no_copy
returns-clause-no_copy c = λ N w c x none. history-here N w c x ∙ ap (after_arrival (N.clock c) (history N w c)) none
