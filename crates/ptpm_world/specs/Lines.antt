-- The lines of a script as a reader's octets give them, if these are known.
use Rattle.std.specs.Prelude.{ℕ, List, Option}
use Rattle.ptpm_text.specs.Lines.{reader_left, reader_line}
use Rattle.ptpm_world.specs.declared.lines.Lines.{Lines}

-- how many lines were read
abbrev pub line_count : {R : Type 0} → Lines R → ℕ
line_count l = l.count

-- the line that was read last, without its end
abbrev pub latest_line : {R : Type 0} → Lines R → List ℕ
latest_line l = reader_line l.reader

-- what a script has left, if its octets are known
abbrev pub left_in : {R : Type 0} → (R → Option (List ℕ)) → Lines R → Option (List ℕ)
left_in remaining l = reader_left remaining l.reader
