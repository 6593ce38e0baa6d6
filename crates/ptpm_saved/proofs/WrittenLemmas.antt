-- Octets written into a place, one part after the other.
use Rattle.std.proofs.Common.{◌≡◌, ℕ, ◌+◌, ◌≤◌, sym, ◌∙◌, ap, List, [], ◌++◌, length, take, drop, append_assoc, append-nil, arith, length-append, length-take-le, drop-drop}
use Rattle.std.proofs.lemmas.List.{take_at, take-append-drop}
use Rattle.std.proofs.Math.Seq.{drop-append-add}
use Rattle.ptpm_saved.specs.Image.{over}

-- what comes after a part
rest_is : (front rest : List ℕ) (mid n : ℕ) → length front ≡ mid → drop (mid + n) (front ++ rest) ≡ drop n rest
rest_is front rest mid n size = ap (λ m. drop (m + n) (front ++ rest)) (sym size) ∙ drop-append-add front rest n

-- the part that is written after another
pub over_on : (at mid : ℕ) (xs ys place : List ℕ)
    → mid ≡ at + length xs
    → mid ≤ length place
    → over mid ys (over at xs place) ≡ over at (xs ++ ys) place
unfolding over
over_on at mid xs ys place behind room =
    let front : List ℕ = take at place ++ xs in
    let size : length front ≡ mid = omega (arith, length-append (take at place) xs, length-take-le at place (omega (arith, behind, room)), behind) in
    let whole : front ++ drop (at + length xs) place ≡ front ++ drop mid place = ap (λ n. front ++ drop n place) (sym behind) in
    let first : take mid (front ++ drop (at + length xs) place) ≡ front = take_at front (drop (at + length xs) place) mid size in
    let last : drop (mid + length ys) (front ++ drop (at + length xs) place) ≡ drop (at + length (xs ++ ys)) place =
    ap (drop (mid + length ys)) whole ∙ rest_is front (drop mid place) mid (length ys) size ∙ drop-drop (length ys) mid place
    ∙ ap (λ n. drop n place) (sum_is at mid (length xs) (length ys) (length (xs ++ ys)) behind (length-append xs ys)) in
    ap (λ l. (l ++ ys) ++ drop (mid + length ys) (front ++ drop (at + length xs) place)) first
    ∙ ap (λ l. (front ++ ys) ++ l) last
    ∙ ap (λ l. l ++ drop (at + length (xs ++ ys)) place) (append_assoc (take at place) xs ys)
  where
    sum_is : (at mid n m k : ℕ) → mid ≡ at + n → k ≡ n + m → mid + m ≡ at + k
    sum_is at mid n m k a b = omega (arith, a, b)

-- the part that is written before another, at the beginning
pub over_before : (at : ℕ) (xs ys place : List ℕ)
    → at ≡ length xs
    → at ≤ length place
    → over 0 xs (over at ys place) ≡ over 0 (xs ++ ys) place
unfolding over
over_before at xs ys place size room =
    let long : length (take at place) ≡ at = length-take-le at place room in
    let tail : List ℕ = drop (at + length ys) place in
    let none : 0 + length xs ≡ at + 0 = omega (arith, size) in
    let behind : drop (0 + length xs) ((take at place ++ ys) ++ tail) ≡ ys ++ tail =
    ap (λ n. drop n ((take at place ++ ys) ++ tail)) none ∙ ap (drop (at + 0)) (append_assoc (take at place) ys tail)
    ∙ rest_is (take at place) (ys ++ tail) at 0 long in
    let end : at + length ys ≡ 0 + length (xs ++ ys) = omega (arith, size, length-append xs ys) in
    ap (λ l. xs ++ l) behind
    ∙ sym (append_assoc xs ys tail)
    ∙ ap (λ n. (xs ++ ys) ++ drop n place) end

-- three parts one after the other, and one before them at the beginning
pub all_written : (first a b d p p₁ p₂ p₃ p₄ : List ℕ) (at end next : ℕ)
    → p₁ ≡ over at a p
    → end ≡ at + length a
    → p₂ ≡ over end b p₁
    → next ≡ end + length b
    → p₃ ≡ over next d p₂
    → p₄ ≡ over 0 first p₃
    → at ≡ length first
    → next ≤ length p
    → p₄ ≡ over 0 (first ++ ((a ++ b) ++ d)) p
all_written first a b d p p₁ p₂ p₃ p₄ at end next one ends two nexts three four size room =
    four
    ∙ ap (over 0 first) (three ∙ ap (over next d) (two ∙ ap (over end b) one ∙ over_on at end a b p ends (omega (arith, nexts, room)))
    ∙ over_on at next (a ++ b) d p (omega (arith, ends, nexts, length-append a b)) room)
    ∙ over_before at first ((a ++ b) ++ d) p size (omega (arith, ends, nexts, room))

-- four parts, one after the other
pub four_written : (a b d e p p₁ p₂ p₃ p₄ : List ℕ) (at first second third : ℕ)
    → p₁ ≡ over at a p
    → first ≡ at + length a
    → p₂ ≡ over first b p₁
    → second ≡ first + length b
    → p₃ ≡ over second d p₂
    → third ≡ second + length d
    → p₄ ≡ over third e p₃
    → third ≤ length p
    → p₄ ≡ over at (((a ++ b) ++ d) ++ e) p
four_written a b d e p p₁ p₂ p₃ p₄ at first second third one firsts two seconds three thirds four room =
    four
    ∙ ap (over third e) (three ∙ ap (over second d) (two ∙ ap (over first b) one ∙ over_on at first a b p firsts (omega (arith, seconds, thirds, room)))
    ∙ over_on at second (a ++ b) d p (omega (arith, firsts, seconds, length-append a b)) (omega (arith, thirds, room)))
    ∙ over_on at third ((a ++ b) ++ d) e p (omega (arith, firsts, seconds, thirds, length-append a b, length-append (a ++ b) d)) room

pub drop_twice : (n m : ℕ) (xs : List ℕ) → drop n (drop m xs) ≡ drop (m + n) xs
drop_twice n m xs = drop-drop n m xs

-- no part
pub over_none : (at : ℕ) (place : List ℕ) → over at [] place ≡ place
unfolding over
over_none at place =
    ap (λ l. l ++ drop (at + 0) place) (append-nil (take at place)) ∙ ap (λ n. take at place ++ drop n place) (plus at)
    ∙ take-append-drop at place
  where
    plus : (n : ℕ) → n + 0 ≡ n
    plus n = omega arith
