-- A record in plain numbers (this project's profile).
use Rattle.std.specs.Prelude.{ℕ, ◌+◌, ◌==◌, replicate, Option, Some, None, if◌then◌else◌}
use Rattle.byteorder.specs.Endian.{big_bytes, big_number}
use Rattle.ptpm_journal.specs.declared.plain.PlainRecord.{PlainRecord}
use Rattle.ptpm_journal.specs.declared.reading.Next.{Next}
use Rattle.ptpm_journal.specs.declared.record.Head.{Head}
use Rattle.ptpm_journal.specs.declared.record.Step.{Step}
use Rattle.ptpm_journal.specs.declared.record.Policy.{Policy}
use Rattle.ptpm_journal.specs.declared.record.Outcome.{Outcome}
use Rattle.ptpm_journal.specs.declared.record.Ending.{Ending}
use Rattle.ptpm_journal.specs.declared.record.Note.{Note}
use Rattle.ptpm_journal.specs.declared.record.Note.TheVariants as notes
use Rattle.ptpm_journal.specs.declared.record.Record.{Record}
use Rattle.ptpm_journal.specs.declared.record.Record.TheVariants as records
use Rattle.ptpm_journal.specs.Octets.{ending_code, ending_of, kind_of, outcome_code, outcome_of}

abbrev pub blank : PlainRecord
blank = record {
  time = 0;
  first = 0;
  second = 0;
  first_size = 0;
  second_size = 0;
  count = 0;
  port = 0;
  id = 0;
  step = 0;
  number = 0;
  error = 0;
  clock = replicate 8 0;
  kind = 0;
  flags = 0;
  together = 0;
  domain = 0;
  group = 0;
  what = 0;
  zero = replicate 2 0;
}

abbrev pub plain_note : PlainRecord → ℕ → Note → PlainRecord
plain_note plain time (notes.Begun step number) = record plain { time = time; step = step; number = number }
plain_note plain time (notes.NotBegun step) = record plain { time = time; step = step }
plain_note plain time (notes.LetGo step) = record plain { time = time; step = step }
plain_note plain time (notes.Told step outcome error) =
    record plain { time = time; step = step; what = outcome_code outcome; error = error }

-- of a kind alone
abbrev pub kind_alone : Record → PlainRecord
kind_alone r = record blank { kind = kind_of r }

abbrev pub plain_entry : Record → PlainRecord
plain_entry (records.Head h) = record (kind_alone (records.Head h)) {
  clock = big_bytes 8 h.manager;
  port = h.port;
  count = h.count;
  flags = h.policy.flags;
  together = h.policy.together;
}
plain_entry (records.Step s port id) = record (kind_alone (records.Step s port id)) {
  clock = big_bytes 8 s.clock;
  domain = s.domain;
  group = s.group;
  port = port;
  id = id;
}
plain_entry (records.Note time note) = plain_note (kind_alone (records.Note time note)) time note
plain_entry (records.Policy time p) =
    record (kind_alone (records.Policy time p)) { time = time; flags = p.flags; together = p.together }
plain_entry (records.End time ending step) =
    record (kind_alone (records.End time ending step)) { time = time; what = ending_code ending; step = step }
plain_entry (records.Text what) = record (kind_alone (records.Text what)) { what = what }

-- what was read: its groups are counted from the octets that were given
abbrev pub plain_of : Next → PlainRecord
plain_of n = record (plain_entry n.found.entry) {
  first = n.lead + 2 + n.found.first;
  first_size = n.found.first_size;
  second = n.lead + 2 + n.found.second;
  second_size = n.found.second_size;
}

-- ---- the record

abbrev pub policy_of : PlainRecord → Policy
policy_of p = record { flags = p.flags; together = p.together }

abbrev pub head_of : PlainRecord → Head
head_of p = record { policy = policy_of p; manager = big_number 8 p.clock; port = p.port; count = p.count }

abbrev pub plain_step : PlainRecord → Step
plain_step p = record { clock = big_number 8 p.clock; domain = p.domain; group = p.group }

abbrev pub told_of : PlainRecord → Option Outcome → Option Record
told_of p None = None
told_of p (Some outcome) = Some (records.Note p.time (notes.Told p.step outcome p.error))

abbrev pub end_of : PlainRecord → Option Ending → Option Record
end_of p None = None
end_of p (Some ending) = Some (records.End p.time ending p.step)

abbrev pub entry_of : PlainRecord → Option Record
entry_of p =
    if p.kind == 1 then Some (records.Head (head_of p))
    else if p.kind == 2 then Some (records.Step (plain_step p) p.port p.id)
    else if p.kind == 3 then Some (records.Note p.time (notes.Begun p.step p.number))
    else if p.kind == 4 then Some (records.Note p.time (notes.NotBegun p.step))
    else if p.kind == 5 then Some (records.Note p.time (notes.LetGo p.step))
    else if p.kind == 6 then told_of p (outcome_of p.what)
    else if p.kind == 7 then Some (records.Policy p.time (policy_of p))
    else if p.kind == 8 then end_of p (ending_of p.what)
    else if p.kind == 9 then Some (records.Text p.what)
    else None
