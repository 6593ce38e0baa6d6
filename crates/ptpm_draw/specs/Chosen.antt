-- Which lines of a script are drawn, and what is drawn of them (this project's profile).
use Rattle.std.specs.Prelude.{ℕ, ◌&&◌, Bool, nat_le, filter}
use Rattle.ptpm_draw.specs.Picture.{Drawn}
use Rattle.ptpm_draw.specs.declared.changes.Change.{Change}
use Rattle.ptpm_draw.specs.declared.chosen.Chosen.{Chosen}
use Rattle.ptpm_draw.specs.declared.picture.EventRow.{EventRow}

-- the line of this number is drawn
abbrev pub is_chosen : Chosen → ℕ → Bool
is_chosen chosen line = nat_le chosen.from line && nat_le line chosen.to

-- of what is drawn of all lines, the rows and the changes of these; the arrow of a row may be of any message
abbrev pub chosen_of : Chosen → Drawn → Drawn
chosen_of chosen d = record {
  rows = filter (λ (row : EventRow). is_chosen chosen row.line) d.rows;
  messages = d.messages;
  changes = filter (λ (change : Change). is_chosen chosen change.line) d.changes;
}
