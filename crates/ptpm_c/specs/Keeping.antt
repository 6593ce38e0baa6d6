-- What a pointer that a host keeps owns: what a box of what is kept there owns, or nothing if nothing is kept.
use mir.Syntax.{Ty}
use base.Fml.{Fml, ftrue}
use base.Stored.{Coded}
use denote.RawPtr.{Ptr}
use Rattle.std.specs.Box.Ownership.{box_owns}
use Rattle.std.specs.Coded.{coded_option}
use Rattle.std.specs.Global.{Global}
use Rattle.std.specs.Prelude.{Option, Some, None}
use Rattle.std.specs.contracts.impls.GlobalAllocator.TheImpl.{ghosts}
use Rattle.ptpm_c.specs.contracts.kept.Kept.{the_row}

-- the heap has one handle
abbrev pub the_heap : Global
the_heap = record { memory = record { seal = tt } }

-- the right to give a block back to it
abbrev pub may_free : Ty → Ptr → Fml
may_free = ghosts.dealloc_token the_heap

abbrev pub keeping_owns : Ptr → Option the_row.Denot → Fml
keeping_owns at None = ftrue
keeping_owns at (Some kept) = box_owns may_free the_row at kept

abbrev pub kept_coded : Coded (Option the_row.Denot)
kept_coded = coded_option the_row.coded
