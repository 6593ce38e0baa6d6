use Rattle.std.proofs.Common.{◌≡◌, drop, map}
use Rattle.toml.specs.View.{view}
use Rattle.ptpm_script.specs.Rights.{rights_from}
use Rattle.ptpm_script.proofs.rights.rights_of.Given as goal

abbrev pub invariant-loop-word : goal.invariant-loop-word
invariant-loop-word l = rights_from 0 (map view l.words) ≡ rights_from l.rights.0 (map view (drop l.word-index l.words))
