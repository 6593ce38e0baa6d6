use Rattle.std.proofs.Common.{arith, ◌≡◌, ◌+◌, ◌-◌, sym, List, ℕ, length, take, drop}
use Rattle.std.proofs.lemmas.Grind.{common_steps}
use Rattle.ptpm_host.proofs.WordLemmas.{first_at, first_is, first_utf8, position_of_first}
use Rattle.ptpm_host.proofs.words.first_word.Goals as goal

tail : (octets : List ℕ) (end : ℕ) → take (length octets - (end + 1)) (drop (end + 1) octets) ≡ drop (end + 1) octets
tail octets end = grind (arith, common_steps)

pub returns-in_err-end-clause-only : goal.returns-in_err-end-clause-only
returns-in_err-end-clause-only c =
    λ word more begins.
    let some = position_of_first c.args.octets.now word more begins in
    let none = c.in_err-end.ensures in
    absurd cc

pub returns-in-Ok-clause-found : goal.returns-in-Ok-clause-found
returns-in-Ok-clause-found c =
    rw (tail c.args.octets.now c.in_ok-end.end, c.in-Ok.ensures.cases.0)
    (first_at c.args.octets.now c.in_ok-end.end (sym c.in_ok-end.ensures) c.in-Ok.ensures.cases.1)

pub returns-in-Ok-clause-only : goal.returns-in-Ok-clause-only
returns-in-Ok-clause-only c =
    λ word more begins.
    rw (tail c.args.octets.now c.in_ok-end.end, c.in-Ok.ensures.cases.0)
    (first_is c.args.octets.now word more c.in_ok-end.end (sym c.in_ok-end.ensures) begins)

pub returns-in-Err-clause-only : goal.returns-in-Err-clause-only
returns-in-Err-clause-only c =
    λ word more begins.
    absurd (c.in-Err.ensures.cases.0 (first_utf8 c.args.octets.now word more c.in_ok-end.end (sym c.in_ok-end.ensures) begins))
