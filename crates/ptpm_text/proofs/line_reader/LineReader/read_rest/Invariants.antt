use Rattle.std.proofs.Common.{◌≡◌, ◌<◌, ◌≤◌, ◌-◌, false, length, None}
use Rattle.std.specs.Io.KnownBytes.{IsAtEnd}
use Rattle.std.specs.Prelude.{IfNone, OnSome}
use Rattle.ptpm_text.specs.Lines.{reader_left}
use Rattle.ptpm_text.proofs.NextLine.{IsRead, NoFeed}
use Rattle.ptpm_text.proofs.line_reader.LineReader.read_rest.Given as goal

-- the line so far and the next octet are what was read, and no line feed was among them
abbrev pub invariant-loop-next : goal.invariant-loop-next
invariant-loop-next g l = record {
  read : IsRead (reader_left g.R.Read.remaining l.initial.self) (reader_left g.R.Read.remaining l.self)
      l.first l.self.line.items l.next;
  free : NoFeed l.self.line.items;
  short : length l.self.line.items ≤ 4096;
  some : l.next ≡ None → 0 < length l.self.line.items;
  at_end : IfNone l.next
      (OnSome (reader_left g.R.Read.remaining l.initial.self) (IsAtEnd (reader_left g.R.Read.remaining l.self)));
  whole : l.self.is_cut ≡ false;
}

abbrev pub decreases-loop-next : goal.decreases-loop-next
decreases-loop-next g l = 4096 - length l.self.line.items
