-- The place of a fault in a network file.
use Rattle.std.specs.Prelude.{ℕ, List, codes}
use Rattle.ptpm_script.specs.declared.place.Array.{Array}
use Rattle.ptpm_script.specs.declared.place.Array.TheVariants.{Clock, Session, Link}

-- the key of an array of tables
abbrev pub array_key : Array → List ℕ
array_key Clock = codes "clock"
array_key Session = codes "session"
array_key Link = codes "link"
