-- The names of the managementErrorIds of a management error status (IEEE 1588-2019, 15.5.4.3, table 109). A number that the table
-- reserves, or leaves to an implementation, has none.
use Rattle.std.specs.Prelude.{ℕ, List, [], ◌∷◌, codes, Option}
use Rattle.ptpm_host.specs.AnswerNames.{name_in}

abbrev pub error_names : List (ℕ × List ℕ)
error_names =
    (0x0001, codes "RESPONSE_TOO_BIG") ∷ (0x0002, codes "NO_SUCH_ID") ∷ (0x0003, codes "WRONG_LENGTH")
    ∷ (0x0004, codes "WRONG_VALUE") ∷ (0x0005, codes "NOT_SETABLE") ∷ (0x0006, codes "NOT_SUPPORTED")
    ∷ (0xfffe, codes "GENERAL_ERROR") ∷ []

abbrev pub error_name : ℕ → Option (List ℕ)
error_name number = name_in error_names number
