-- What a clock or a session has while it runs, and what non-volatile storage has of it: its last save, and nothing older.
use Rattle.std.specs.Prelude.{Bool, true, false, if◌then◌else◌}

pub record Stored (A : Type 0) : Type 0 where
  pub live : A
  pub stored : A
  -- whether a change since the last save is not saved
  pub is_unsaved : Bool

-- as it starts, all of it is saved
abbrev pub saved_as : {A : Type 0} → A → Stored A
saved_as a = record { live = a; stored = a; is_unsaved = false }

-- a change, which has to be saved
abbrev pub changed : {A : Type 0} → Stored A → A → Stored A
changed x a = record x { live = a; is_unsaved = true }

-- A note, for which nothing has to be saved. It is lost only if a change before it is unsaved and is lost.
abbrev pub noted : {A : Type 0} → Stored A → A → Stored A
noted x a = record x { live = a; stored = if x.is_unsaved then x.stored else a }

abbrev pub saved : {A : Type 0} → Stored A → Stored A
saved x = saved_as x.live

-- a crash loses what is not saved, and a restart goes on from what is
abbrev pub restored : {A : Type 0} → Stored A → Stored A
restored x = saved_as x.stored
