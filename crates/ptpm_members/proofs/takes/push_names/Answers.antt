use Rattle.std.proofs.Common.{◌≡◌, ◌<◌, ◌≤◌, ◌+◌, ◌-◌, ◌++◌, ℕ, List, [], ◌∷◌, arith, drop, get_or, length, refl, rules, subst, take}
use Rattle.std.proofs.lemmas.List.{take_all}
use Rattle.std.specs.Prelude.{flat_map}
use Rattle.ptpm_members.specs.declared.number_names.Enumeration.{Enumeration}
use Rattle.ptpm_members.specs.NumberNames.{enumeration_text}
use Rattle.ptpm_members.specs.Takes.{names_in, names_text, next_name}
use Rattle.ptpm_members.proofs.takes.push_names.Goals as goal

first_and_others : (e : Enumeration) (numbers : List ℕ) (i k : ℕ) → 0 < length numbers → length numbers ≤ i + 1 → length numbers ≤ k + 1
    → enumeration_text e (get_or numbers 0 0) ++ flat_map (next_name e) (take i (take k (drop 1 numbers))) ≡ names_in e numbers
first_and_others e [] i k some ends whole = absurd (omega arith)
first_and_others e (first ∷ others) i k some ends whole =
    rw (take_all k others (omega arith), take_all i others (omega arith)) refl

pub returns-after-loop-number : goal.returns-after-loop-number
unfolding names_text
returns-after-loop-number g c =
    let e = c.args.enumeration in
    let numbers = c.named_numbers.result.now in
    let i = c.loop-number.number-index in
    let first : g.T.TextSink.pushed c.args.sink.now (enumeration_text e (get_or numbers 0 0)) c.push_named.new.sink = search rules in
    subst (λ (t : List ℕ). g.T.TextSink.pushed c.args.sink.now t c.loop-number.sink)
    (rw (← c.named_numbers.ensures) (first_and_others e numbers i (length numbers - 1) (omega arith) (omega arith) (omega arith)))
    (g.met.T.TextSink.pushed_twice _ _ _ _ _ first c.loop-number.invariant)
