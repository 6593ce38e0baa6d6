use Rattle.std.proofs.Common.{◌≡◌, ◌*◌, drop, map}
use Rattle.ptpm_members.specs.Parsed.{each_named}
use Rattle.ptpm_members.proofs.parsing.put_all.Given as goal

abbrev pub invariant-loop-i : goal.invariant-loop-i
invariant-loop-i l =
    each_named (drop l.i l.fields) (drop (2 * l.i) (map (λ w. w.now) l.words)) l.field.items
    ≡ each_named l.fields (map (λ w. w.now) l.words) l.initial.field.items
