-- What one change does to a clock's precedence.
use Rattle.std.specs.Prelude.{Bool, true}
use Rattle.ptpm_data.specs.declared.data_sets.ClockPrecedence.{ClockPrecedence}
use Rattle.ptpm_data.specs.declared.precedence_change.PrecedenceChange.{PrecedenceChange}
use Rattle.ptpm_data.specs.declared.precedence_change.PrecedenceChange.TheVariants as changes
use Rattle.ptpm_data.specs.Ranges.{is_clock_accuracy}

abbrev pub precedence_after : PrecedenceChange → ClockPrecedence → ClockPrecedence
precedence_after (changes.Priority1 n) p = record p { priority1 = n }
precedence_after (changes.Priority2 n) p = record p { priority2 = n }
precedence_after (changes.ClockAccuracy n) p = record p { accuracy = n }

-- whether the new value is in its member's range
abbrev pub is_precedence_in_range : PrecedenceChange → Bool
is_precedence_in_range (changes.Priority1 n) = true
is_precedence_in_range (changes.Priority2 n) = true
is_precedence_in_range (changes.ClockAccuracy n) = is_clock_accuracy n
