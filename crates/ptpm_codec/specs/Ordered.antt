-- Tests in an order: the answer is that of the first which holds.
use Rattle.std.specs.Prelude.{Bool, List, [], ◌∷◌, Option, Some, None, if◌then◌else◌}

abbrev pub first_of : {A : Type 0} → List (Bool × A) → Option A
first_of [] = None
first_of (t ∷ ts) = if t.0 then Some t.1 else first_of ts
