use Rattle.ptpm_data.proofs.Consistency.{changed_by-consistent}
use Rattle.ptpm_data.proofs.Keeping.{changed_by-identity, changed_by-ports, changed_by-sized, changed_by-get, refused_answer}
use Rattle.ptpm_data.proofs.laws.change_law.Goals as goal

pub returns : goal.returns
returns c = record {
  identity = changed_by-identity;
  ports = changed_by-ports;
  sized = changed_by-sized;
  consistent = changed_by-consistent;
  get = changed_by-get;
  refused = refused_answer;
}
