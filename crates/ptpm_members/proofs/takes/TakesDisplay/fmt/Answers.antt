use Rattle.std.proofs.Common.{[], rules}
use Rattle.std.specs.Fmt.{HasWritten}
use Rattle.std.proofs.Output.{writes_in_calls_nil}
use Rattle.ptpm_members.proofs.takes.TakesDisplay.fmt.Goals as goal

pub returns-clause-writes : goal.returns-clause-writes
returns-clause-writes g c = λ plain ok.
    let nothing : HasWritten g.W.Write.write_str_gives c.args.f.now [] c.args.f.now =
    record { wrote = writes_in_calls_nil g.W.Write.write_str_gives _; plain = plain } in
    search (rules, c.push_into.ensures.written ok c.args.f.now [] nothing)
