-- What a call of C answers for the words of a SET.
use Rattle.std.specs.Prelude.{◌≡◌, ℕ, Result, Ok, Err}
use Rattle.ptpm_host.specs.declared.refusal.ParseRefusal.{ParseRefusal}
use Rattle.ptpm_host.specs.Numbers.{parse_number}
use Rattle.ptpm_host.specs.Parsing.{fault_place}

-- the number of an answer, how many octets the dataField has, and the place of the member that is at fault; 0 without any
abbrev pub IsReported : Result ℕ ParseRefusal → ℕ → ℕ → ℕ → Type 0
IsReported (Ok size) number count member = (number ≡ 0) × (count ≡ size) × (member ≡ 0)
IsReported (Err refusal) number count member = (number ≡ parse_number refusal) × (count ≡ 0) × (member ≡ fault_place refusal)
