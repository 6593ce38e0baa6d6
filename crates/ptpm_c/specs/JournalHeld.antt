-- The journal that a handle holds, and what becomes of a record that is added to it.
use Rattle.std.specs.Prelude.{◌≡◌, ◌++◌, ℕ, List, length, drop, Option, Some, None}
use Rattle.ptpm_journal.specs.declared.journal.Journal.{Journal}
use Rattle.ptpm_journal.specs.declared.plain.PlainRecord.{PlainRecord}
use Rattle.ptpm_journal.specs.declared.record.Record.{Record}
use Rattle.ptpm_journal.specs.Frames.{counted, crc_after, framed}
use Rattle.ptpm_journal.specs.Journal.{MayTake, taken}
use Rattle.ptpm_journal.specs.Octets.{body_of}
use Rattle.ptpm_journal.specs.Plain.{entry_of}
use Rattle.ptpm_journal.specs.State.{state_of}
use Rattle.ptpm_journal.specs.Turns.{lead_of}
use Rattle.ptpm_c.specs.declared.keeping.Keeping.{Keeping}
use Rattle.ptpm_c.specs.declared.kept.Hosted.{Hosted}
use Rattle.ptpm_c.specs.declared.kept.Hosted.TheVariants as hosts
use Rattle.ptpm_c.specs.Held.{held}

abbrev pub journal_of : Hosted → Option Journal
journal_of (hosts.Journal journal) = Some journal.value
journal_of _ = None

abbrev pub journal_held : Keeping → Option Journal
journal_held keeping = journal_of (held keeping)

-- the octets of a record that is added
abbrev pub added_octets : Journal → Record → List ℕ → List ℕ → List ℕ
added_octets j entry first second = lead_of j.head ++ framed j.crc (body_of entry first second)

-- these numbers are a record that a run may make. The journal j takes it and is k then; its octets are at the head
pub record IsAdded (j : Journal) (plain : PlainRecord) (first second before behind : List ℕ) (size : ℕ) (k : Journal) : Type 0 where
  pub entry : Record
  pub is : entry_of plain ≡ Some entry
  pub may : MayTake (state_of j) entry
  pub becomes : state_of k ≡ taken (state_of j) entry
  pub counts : k.crc ≡ crc_after j.crc (counted (body_of entry first second))
  pub size_is : size ≡ length (added_octets j entry first second)
  pub octets : behind ≡ added_octets j entry first second ++ drop size before
