use Rattle.std.proofs.Common.{◌≡◌, ◌++◌, flat_map, string_bytes, take}
use Rattle.ptpm_plan.specs.Digest.{next_text}
use Rattle.ptpm_plan.proofs.digest.push_others.Given as goal

-- the changes so far are added
abbrev pub invariant-loop-change : goal.invariant-loop-change
invariant-loop-change l =
    string_bytes l.text ≡ string_bytes l.initial.text ++ flat_map next_text (take l.change-index l.changes)
