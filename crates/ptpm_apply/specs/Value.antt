-- Whether a member has a value.
use Rattle.std.specs.Prelude.{ℕ, Bool, List, [], bytes_eq}
use Rattle.ptpm_members.specs.FieldText.{field_text}

-- two dataFields of an id have members of the same values: reserved octets and bits do not count
unfoldable pub is_same : ℕ → List ℕ → List ℕ → Bool
is_same id one other = bytes_eq (field_text [] id one) (field_text [] id other)
