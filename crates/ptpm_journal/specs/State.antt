-- What a journal is, by its records.
use Rattle.ptpm_journal.specs.declared.journal.Journal.{Journal}
use Rattle.ptpm_journal.specs.Journal.{State}

abbrev pub state_of : Journal → State
state_of j = record { head = j.head; steps = j.steps.items; marks = j.marks.items; is_ended = j.is_ended }
