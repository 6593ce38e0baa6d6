use Rattle.std.proofs.Common.{◌<◌, ◌≤◌, ap, arith, length, List, map, sym, ℕ}
use Rattle.std.specs.Borrow.{Bor}
use Rattle.std.proofs.lemmas.List.{length-map}
use Rattle.ptpm_host.specs.Words.{AreWords, most_words}
use Rattle.ptpm_host.proofs.FaultLemmas.{fault_of_member}
use Rattle.ptpm_host.proofs.parsing.parse_field.Goals as goal

-- words that there is room for are no more than that
few_words : {A : Type 0} (octets : List ℕ) (words : List (Bor (List ℕ)))
    → AreWords (map (λ (w : Bor (List ℕ)). w.now) words) octets
    → length words ≤ most_words
    → ((ws : List (List ℕ)) → AreWords ws octets → most_words < length ws)
    → A
few_words octets words are few none =
    absurd (omega (arith, none _ are, few, length-map words (λ (w : Bor (List ℕ)). w.now)))

pub refusal-requires : goal.refusal-requires
refusal-requires c = fault_of_member c.args.id _ c.in-Err.fault (sym c.in-Err.ensures)

pub returns-in-Ok-clause-parsed : goal.returns-in-Ok-clause-parsed
returns-in-Ok-clause-parsed c =
    λ words are few.
    rw (← c.in-Some.ensures.only words are few, ← c.as_slice.ensures.value, ← c.in-Ok.ensures) c.put.ensures.fitted

pub returns-in-Ok-clause-no_words : goal.returns-in-Ok-clause-no_words
returns-in-Ok-clause-no_words c =
    few_words c.args.text.now c.in-Some.words.items c.in-Some.ensures.words
    (omega (arith, c.as_slice.ensures.fits, ap length c.as_slice.ensures.value))

pub returns-in-Err-clause-parsed : goal.returns-in-Err-clause-parsed
returns-in-Err-clause-parsed c =
    λ words are few.
    rw (← c.in-Some.ensures.only words are few, ← c.as_slice.ensures.value, ← c.in-Err.ensures) c.refusal.ensures

pub returns-in-Err-clause-no_words : goal.returns-in-Err-clause-no_words
returns-in-Err-clause-no_words c =
    few_words c.args.text.now c.in-Some.words.items c.in-Some.ensures.words
    (omega (arith, c.as_slice.ensures.fits, ap length c.as_slice.ensures.value))
