-- The first fault of a script, line by line.
use Rattle.ptpm_world.proofs.Common.{◌≡◌, ℕ, ◌<◌, List, true, false, None, Some, Ok, Err, sym, ap, subst, ◌∙◌, arith, IfErr, IfOk, IsErrAnd, Option, Result, cond-true, lt-ltb, HasNextFault, ReadsWhole, is_of_writing, is_outside, next_fault, size_fault}
use Rattle.ptpm_world.specs.declared.script_error.ScriptError.{ScriptError}
use Rattle.ptpm_world.specs.declared.script_error.ScriptError.TheVariants as faults
use Rattle.ptpm_text.specs.Lines.{LeavesLong, ReadsNext}

-- what fails outside the script is none of its faults
pub outside : {P : Type 0} (e : ScriptError) → is_outside e ≡ true → is_outside e ≡ false → P
outside e h i = absurd (cc)

pub outside-writing : (e : ScriptError) → is_of_writing e ≡ true → is_outside e ≡ true
outside-writing e h = grind arith

-- an error that `?` hands on
pub err-on : {A : Type 0} (r : Result A ScriptError) (e : ScriptError) (Q : ScriptError → Type 0)
    → IsErrAnd r (λ x. x ≡ e)
    → Q e
    → IfErr r Q
err-on (Ok a) e Q h q = absurd h
err-on (Err x) e Q h q = subst Q (sym h) q

-- what a call answers, passed on
pub on-ok : {A : Type 0} (r : Result A ScriptError) (P Q : A → Type 0)
    → IfOk r P
    → ((a : A) → P a → Q a)
    → IfOk r Q
on-ok (Ok a) P Q h k = k a h
on-ok (Err e) P Q h k = tt

pub on-err : {A : Type 0} (r : Result A ScriptError) (P Q : ScriptError → Type 0)
    → IfErr r P
    → ((e : ScriptError) → P e → Q e)
    → IfErr r Q
on-err (Ok a) P Q h k = tt
on-err (Err e) P Q h k = k e h

-- ---- sizes

size_many : (n : ℕ) (octets : List ℕ) → 2000000 < n → size_fault n octets ≡ Some faults.TooManyLines
size_many n octets many = grind (arith, cond-true, lt-ltb)

-- ---- the next line of a reader

-- ---- past the last line that may be

pub whole_none : (n : ℕ) (a b : Option (List ℕ)) (line : List ℕ)
    → ReadsNext a false line b
    → ReadsWhole n a false line b
whole_none n None b line h = tt
whole_none n (Some xs) None line h = absurd h
whole_none n (Some xs) (Some ys) line h = (ap (next_fault n) h.1.0, h.1)

pub next_many : (n : ℕ) (a b : Option (List ℕ)) (line : List ℕ)
    → ReadsNext a true line b
    → 2000000 < n
    → HasNextFault n a faults.TooManyLines
next_many n None b line h many = tt
next_many n (Some xs) None line h many = absurd h
next_many n (Some xs) (Some ys) line h many = ap (next_fault n) h.1.1 ∙ size_many n h.1.0 many

pub long_many : (n : ℕ) (a b : Option (List ℕ))
    → LeavesLong a b
    → 2000000 < n
    → HasNextFault n a faults.TooManyLines
long_many n None b h many = tt
long_many n (Some xs) None h many = absurd h
long_many n (Some xs) (Some ys) h many = ap (next_fault n) h.1.0 ∙ size_many n h.0.1 many
