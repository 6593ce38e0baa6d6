-- One list of events after another, and what is taken of a list: all before the first that is refused.
use Rattle.ptpm_network.proofs.Common.{arith, by_test, ◌≡◌, List, [], ◌∷◌, ◌++◌, None, refl, sym, ◌∙◌, ap, subst, cond-true, cond-false, is_none, AllByRecursion, Event, IsInRange, refusal, AreInTime, run, step, taken, Network, NetworkState}

-- ---- one list after another

pub run-append : (N : Network) (w : NetworkState) (es fs : List Event)
    → run N w (es ++ fs) ≡ run N (run N w es) fs
run-append N w [] fs = refl
run-append N w (e ∷ es) fs = run-append N (step N w e) es fs

pub in_time-append : (N : Network) (w : NetworkState) (es fs : List Event)
    → AreInTime N w es → AreInTime N (run N w es) fs
    → AreInTime N w (es ++ fs)
in_time-append N w [] fs front rest = rest
in_time-append N w (e ∷ es) fs front rest = (front.0, in_time-append N (step N w e) es fs front.1 rest)

pub in_time-parts : (N : Network) (w : NetworkState) (es fs : List Event)
    → AreInTime N w (es ++ fs)
    → AreInTime N w es × AreInTime N (run N w es) fs
in_time-parts N w [] fs time = (tt, time)
in_time-parts N w (e ∷ es) fs time = let p = in_time-parts N (step N w e) es fs time.1 in ((time.0, p.0), p.1)

-- ---- what is taken

-- the whole list, if no event of it is refused in its turn
pub taken-whole : (N : Network) (w : NetworkState) (es : List Event)
    → ((front rest : List Event) (e : Event) → es ≡ front ++ e ∷ rest → refusal N (run N w front) e ≡ None)
    → taken N w es ≡ es
taken-whole N w [] none = refl
taken-whole N w (e ∷ es) none =
    cond-true _ _ _ (ap is_none (none [] es e refl))
    ∙ ap (λ (ts : List Event). e ∷ ts) (taken-whole N (step N w e) es (λ front rest x is. none (e ∷ front) rest x (ap (λ (ts : List Event). e ∷ ts) is)))

-- what holds of the events of a list holds of those that are taken
pub taken-in_range : (N : Network) (w : NetworkState) (es : List Event)
    → AllByRecursion IsInRange es
    → AllByRecursion IsInRange (taken N w es)
taken-in_range N w [] i = tt
taken-in_range N w (e ∷ es) i = by_test (is_none (refusal N w e))
    (λ y. subst (AllByRecursion IsInRange) (sym (cond-true _ _ _ y)) (i.0, taken-in_range N (step N w e) es i.1))
    (λ n. grind (arith, cond-false))

pub taken-in_time : (N : Network) (w : NetworkState) (es : List Event)
    → AreInTime N w es
    → AreInTime N w (taken N w es)
taken-in_time N w [] time = tt
taken-in_time N w (e ∷ es) time = by_test (is_none (refusal N w e))
    (λ y. subst (AreInTime N w) (sym (cond-true _ _ _ y)) (time.0, taken-in_time N (step N w e) es time.1))
    (λ n. subst (AreInTime N w) (sym (cond-false _ _ _ n)) tt)

-- what is taken of a list whose front is taken whole
pub taken-append : (N : Network) (w : NetworkState) (es fs : List Event)
    → taken N w es ≡ es
    → taken N w (es ++ fs) ≡ es ++ taken N (run N w es) fs
taken-append N w [] fs whole = refl
taken-append N w (e ∷ es) fs whole = by_test (is_none (refusal N w e))
    (λ y. let rest : taken N (step N w e) es ≡ es = cc (rw y at whole) in
    cond-true _ _ _ y ∙ ap (λ (ts : List Event). e ∷ ts) (taken-append N (step N w e) es fs rest))
    (λ n. absurd (cc (rw n at whole)))

pub ruleset events_appended_laws = (run-append, in_time-parts, in_time-append)

pub ruleset events_taken_laws = (taken-whole, taken-in_range, taken-in_time, taken-append)
