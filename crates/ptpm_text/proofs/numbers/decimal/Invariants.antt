use Rattle.std.proofs.Common.{◌≡◌, ◌<◌, ◌^◌, drop}
use Rattle.std.specs.Str.{all_ascii_digits}
use Rattle.std.specs.Str.Parse.{digits_value, digits_value_after}
use Rattle.ptpm_text.proofs.numbers.decimal.Given as goal

-- the octets so far are digits, and write this number
abbrev pub invariant-loop-octet : goal.invariant-loop-octet
invariant-loop-octet l =
    (all_ascii_digits l.text ≡ all_ascii_digits (drop l.octet-index l.text))
    × ((digits_value 10 l.text ≡ digits_value_after 10 l.number (drop l.octet-index l.text))
    × (l.number < 10 ^ l.octet-index))
