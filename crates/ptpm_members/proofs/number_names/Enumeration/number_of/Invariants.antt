use Rattle.std.proofs.Common.{◌≡◌, drop}
use Rattle.ptpm_members.specs.NumberNames.{named_in, named_numbers, number_of}
use Rattle.ptpm_members.proofs.number_names.Enumeration.number_of.Given as goal

abbrev pub invariant-loop-number : goal.invariant-loop-number
invariant-loop-number l = named_in l.self l.name (drop l.number-index (named_numbers l.self)) ≡ number_of l.self l.name
