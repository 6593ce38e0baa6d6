use Rattle.std.specs.Prelude.{◌≡◌, length, drop}
use Rattle.ptpm_journal.specs.Replay.{AreAllowedFrom, marks_after}
use Rattle.ptpm_journal.proofs.marking.mark_all.Given as goal

-- the notes that are left make of these marks what all make of the first ones, and may be made if all may be
abbrev pub invariant-loop-note : goal.invariant-loop-note
invariant-loop-note l = record {
  size : length l.steps ≡ length l.marks;
  made : marks_after (drop l.note-index l.notes) l.marks ≡ marks_after l.notes l.fn.marks;
  whole : AreAllowedFrom l.steps l.marks (drop l.note-index l.notes) → AreAllowedFrom l.steps l.fn.marks l.notes;
  rest : AreAllowedFrom l.steps l.fn.marks l.notes → AreAllowedFrom l.steps l.marks (drop l.note-index l.notes);
}
