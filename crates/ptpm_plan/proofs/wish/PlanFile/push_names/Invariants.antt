use Rattle.std.proofs.Common.{◌≡◌, ◌++◌, flat_map, string_bytes, take}
use Rattle.ptpm_plan.specs.Asks.{id_line}
use Rattle.ptpm_plan.proofs.wish.PlanFile.push_names.Given as goal

-- the lines of the ids so far are added
abbrev pub invariant-loop-number : goal.invariant-loop-number
invariant-loop-number l =
    string_bytes l.text ≡ string_bytes l.initial.text ++ flat_map (id_line l.self l.domain) (take l.number-index l.ids)
