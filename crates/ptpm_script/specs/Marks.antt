-- Which refusal a fault is of, and its place in the file, with what is there. Tables, items and ports' tables are counted from 1.
use Rattle.std.specs.Prelude.{ℕ, ◌+◌, Bool, if◌then◌else◌, List, [], ◌∷◌, ◌++◌, map, Option, Some, None, is_some, Result, OnOk, ◌≡◌}
use Rattle.toml.specs.Data.{Members, get_member}
use Rattle.ptpm_script.specs.declared.fault.Fault.{Fault}
use Rattle.ptpm_script.specs.declared.fault.Found.{Found}
use Rattle.ptpm_script.specs.declared.fault.Found.TheVariants as founds
use Rattle.ptpm_script.specs.declared.place.Array.{Array}
use Rattle.ptpm_script.specs.declared.place.Place.{Place}
use Rattle.ptpm_script.specs.declared.place.Place.TheVariants as places
use Rattle.ptpm_script.specs.declared.net_error.NetError.{NetError}

pub data Spot : Type 0 where
  -- the file as a whole, or a key outside of its arrays
  in_file : Spot
  -- a line of a text that is no document
  in_line : Spot
  -- the table of this number in an array
  in_table : Array → ℕ → Spot
  -- the port's table of this number, of the clock of that number
  in_port : ℕ → ℕ → Spot

pub data Part : Type 0 where
  -- all of it
  whole : Part
  -- a key that is missing
  absent : List ℕ → Part
  -- the value at a key
  at_key : List ℕ → Part
  -- an item of the array at a key
  at_item : List ℕ → ℕ → Part
  -- how many of something there are
  many : List ℕ → Part

pub record Mark : Type 0 where
  pub class : NetError
  pub spot : Spot
  pub part : Part

-- ---- as faults report them

abbrev pub spot_of : Place → Spot
spot_of places.File = in_file
spot_of (places.Line number) = in_line
spot_of (places.Table array number name) = in_table array number
spot_of (places.Port clock name number) = in_port clock number

abbrev pub part_of : Found → Part
part_of founds.Untold = whole
part_of (founds.Missing key) = absent key.now
part_of (founds.Value key value) = at_key key.now
part_of (founds.Item key number value) = at_item key.now number
part_of (founds.Whole value) = whole
part_of (founds.Count count of) = many of.now

abbrev pub mark_of : Fault → Mark
mark_of f = record { class = f.class; spot = spot_of f.place; part = part_of f.found }

abbrev pub marks_in : List Fault → List Mark
marks_in faults = map mark_of faults

-- with success these marks are added
abbrev pub Adds : {T E : Type 0} → Result T E → List Mark → List Mark → List Mark → Type 0
Adds result before after marks = OnOk result (after ≡ before ++ marks)

-- ---- marks of what is there

abbrev pub marked : NetError → Spot → Part → Mark
marked class spot part = record { class = class; spot = spot; part = part }

-- this mark, if a test holds
abbrev pub mark_if : Bool → NetError → Spot → Part → List Mark
mark_if test class spot part = if test then marked class spot part ∷ [] else []

-- of the value at a key, if there is one
unfoldable pub value_mark : NetError → Spot → List ℕ → Members → List Mark
value_mark class spot key ms = mark_if (is_some (get_member key ms)) class spot (at_key key)

-- the same, if a test holds
abbrev pub value_mark_if : Bool → NetError → Spot → List ℕ → Members → List Mark
value_mark_if test class spot key ms = if test then value_mark class spot key ms else []

-- ---- one after another

-- what each brings, by its number from here on
abbrev pub each : {A B : Type 0} → (ℕ → A → List B) → ℕ → List A → List B
each of n [] = []
each of n (x ∷ xs) = of n x ++ each of (n + 1) xs

-- what each brings, by those before it
abbrev pub each_after : {A B : Type 0} → (List A → A → List B) → List A → List A → List B
each_after of before [] = []
each_after of before (x ∷ xs) = of before x ++ each_after of (before ++ x ∷ []) xs

-- what is there, as a list
abbrev pub if_any : {A : Type 0} → Option A → List A
if_any None = []
if_any (Some a) = a ∷ []
