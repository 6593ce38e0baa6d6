use Rattle.std.proofs.Common.{◌≡◌, ◌++◌, drop}
use Rattle.toml.specs.View.{table_view}
use Rattle.ptpm_data.specs.Start.{is_in_clock_range, judged_of_clock}
use Rattle.ptpm_script.specs.Starts.{clock_start}
use Rattle.ptpm_script.specs.Marks.{spot_of}
use Rattle.ptpm_script.specs.StartFaults.{out_marks, some_clock}
use Rattle.ptpm_script.proofs.faults.Faults.add_clock_members.Given as goal

-- what was reported, and what those ahead will report, is all
abbrev pub invariant-loop-member : goal.invariant-loop-member
invariant-loop-member l =
    let is_in = is_in_clock_range (clock_start some_clock 0 (table_view l.at.table.now)) in
    l.self ++ out_marks is_in (spot_of l.at.place) (table_view l.at.table.now) (drop l.member-index judged_of_clock)
    ≡ l.initial.self ++ out_marks is_in (spot_of l.at.place) (table_view l.at.table.now) judged_of_clock
