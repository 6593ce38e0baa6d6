use Rattle.std.proofs.Common.{◌≡◌, ◌++◌, drop}
use Rattle.toml.specs.View.{table_view}
use Rattle.ptpm_data.specs.Start.{is_in_port_range, judged_of_port}
use Rattle.ptpm_script.specs.Starts.{port_start}
use Rattle.ptpm_script.specs.Marks.{spot_of}
use Rattle.ptpm_script.specs.StartFaults.{out_marks}
use Rattle.ptpm_script.proofs.faults.Faults.add_port_members.Given as goal

-- what was reported, and what those ahead will report, is all
abbrev pub invariant-loop-member : goal.invariant-loop-member
invariant-loop-member l =
    let is_in = is_in_port_range (port_start (table_view l.at.table.now)) in
    l.self ++ out_marks is_in (spot_of l.at.place) (table_view l.at.table.now) (drop l.member-index judged_of_port)
    ≡ l.initial.self ++ out_marks is_in (spot_of l.at.place) (table_view l.at.table.now) judged_of_port
