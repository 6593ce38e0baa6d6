use Rattle.std.proofs.Common.{◌≡◌, drop, map}
use Rattle.std.specs.Prelude.{bytes_eq}
use Rattle.std.specs.List.{position_from}
use Rattle.ptpm_script.specs.Heads.{session_value}
use Rattle.ptpm_script.specs.Spellings.{passes}
use Rattle.ptpm_script.proofs.reading.session_place.Given as goal

-- none before this one is
abbrev pub invariant-loop-place : goal.invariant-loop-place
invariant-loop-place l =
    position_from (λ head. passes (λ other. bytes_eq other l.name) head.name) 0 (map session_value l.sessions)
    ≡ position_from (λ head. passes (λ other. bytes_eq other l.name) head.name) l.place (map session_value (drop l.place l.sessions))
