-- A text cut at its first space.
use Rattle.std.proofs.Common.{◌≡◌, ◌≢◌, ℕ, suc, zero, ◌<◌, ◌≤◌, ◌+◌, ◌==◌, false, not, Bool, List, [], ◌∷◌, ◌++◌, Some, None, length, get_or, take, drop, refl, sym, ap, subst, ◌∙◌, arith, rules}
use Rattle.std.specs.List.{position}
use Rattle.std.specs.Str.{IsCharBoundary, IsUtf8}
use Rattle.std.proofs.Math.ListN.{drop_of_length-le}
use Rattle.std.proofs.lemmas.Bool.{cases_Bool, cond-true, eq-eqb, eqb-true, not-false, true≢false}
use Rattle.std.proofs.lemmas.Bool.Decides.{nat_tests}
use Rattle.std.proofs.lemmas.List.{drop_more, get_or-take, length-take, take-append-drop}
use Rattle.std.proofs.lemmas.List.Quantifiers.{position-Some}
use Rattle.std.proofs.lemmas.List.Sums.{fails_before_first, prefix_len-le-length}
use Rattle.std.proofs.lemmas.Str.{IsCharBoundary-after_ascii, IsCharBoundary-before_ascii, IsCharBoundary-start}
use Rattle.ptpm_text.specs.Words.{space, pieces, words}
use Rattle.ptpm_text.proofs.words.split_word.Goals as goal

abbrev HasNoSpace : List ℕ → Type 0
HasNoSpace text = (i : ℕ) → i < length text → get_or text i 0 ≢ space

tail_has_none : (octet : ℕ) (text : List ℕ) → HasNoSpace (octet ∷ text) → HasNoSpace text
tail_has_none octet text h i below = h (suc i) (omega arith)

is_other : (octet : ℕ) → octet ≢ space → (octet == space) ≡ false
is_other octet h = grind (arith, eqb-true)

pieces_without_space : (text : List ℕ) → HasNoSpace text → pieces text ≡ text ∷ []
pieces_without_space [] h = refl
pieces_without_space (octet ∷ text) h =
    rw (is_other octet (h 0 (omega arith)), pieces_without_space text (tail_has_none octet text h)) refl

pieces_at_space : (text rest : List ℕ)
    → HasNoSpace text
    → pieces (text ++ space ∷ rest) ≡ text ∷ pieces rest
pieces_at_space [] rest h = refl
pieces_at_space (octet ∷ text) rest h =
    rw (is_other octet (h 0 (omega arith)), pieces_at_space text rest (tail_has_none octet text h)) refl

words_of_none : words [] ≡ []
unfolding words
words_of_none = refl

words_after_word : (text rest : List ℕ)
    → HasNoSpace text
    → 0 < length text
    → words (text ++ space ∷ rest) ≡ text ∷ words rest
unfolding words
words_after_word [] rest h some = absurd (omega arith)
words_after_word (octet ∷ text) rest h some = rw (pieces_at_space (octet ∷ text) rest h) refl

words_after_space : (rest : List ℕ) → words (space ∷ rest) ≡ words rest
unfolding words
words_after_space rest = refl

-- ---- spaces before a word

words_past_spaces : (text : List ℕ) (start : ℕ)
    → start ≤ length text
    → ((i : ℕ) → i < start → get_or text i 0 ≡ space)
    → words text ≡ words (drop start text)
words_past_spaces text zero inside spaces = refl
words_past_spaces [] (suc start) inside spaces = refl
words_past_spaces (x ∷ xs) (suc start) inside spaces =
    ap (λ octet. words (octet ∷ xs)) (spaces 0 (omega arith)) ∙ words_after_space xs
    ∙ words_past_spaces xs start (omega (arith, inside)) (λ i below. spaces (suc i) (omega (arith, below)))

words_of_spaces : (text : List ℕ)
    → ((i : ℕ) → i < length text → get_or text i 0 ≡ space)
    → words text ≡ []
words_of_spaces text spaces =
    words_past_spaces text (length text) (omega arith) spaces ∙ ap words (drop_of_length-le text {i = length text} (omega arith)) ∙ words_of_none

-- a character begins after them
after_spaces : (text : List ℕ) (start : ℕ)
    → IsUtf8 text
    → start ≤ length text
    → ((i : ℕ) → i < start → get_or text i 0 ≡ space)
    → IsCharBoundary text start
after_spaces text zero utf8 inside spaces = IsCharBoundary-start text utf8
after_spaces text (suc n) utf8 inside spaces =
    subst (IsCharBoundary text) (omega arith) (IsCharBoundary-after_ascii text n utf8 (omega (arith, inside)) (omega (arith, spaces n (omega arith))))

-- ---- a word before a space

words_cut : (text : List ℕ) (size : ℕ)
    → 0 < size
    → size < length text
    → ((i : ℕ) → i < size → get_or text i 0 ≢ space)
    → get_or text size 0 ≡ space
    → words text ≡ take size text ∷ words (drop size text)
words_cut text size some inside none is =
    let line = take size text in
    let more = drop (size + 1) text in
    let size_is : length line ≡ size = omega (arith, length-take size text, inside) in
    let free : HasNoSpace line = grind (arith, get_or-take) in
    let rest : drop size text ≡ space ∷ more = grind (arith, drop_more) in
    let whole : text ≡ line ++ space ∷ more = sym (take-append-drop size text) ∙ ap (λ l. line ++ l) rest in grind (arith, words_after_word, words_after_space)

-- ---- what `position` says

position_none : (p : ℕ → Bool) (xs : List ℕ) (i : ℕ)
    → None ≡ position p xs
    → i < length xs
    → p (get_or xs i 0) ≡ false
position_none p xs i none inside = grind (arith, fails_before_first, prefix_len-le-length, cond-true, nat_tests, cases_Bool)

is_space : (octet : ℕ) → not (octet == space) ≡ false → octet ≡ space
is_space octet h = eqb-true octet space (not-false _ h)

is_no_space : (octet : ℕ) → (octet == space) ≡ false → octet ≢ space
is_no_space octet h e = true≢false (sym (eq-eqb octet space e) ∙ h)

-- the first octet that is no space begins the first word
start_found : (text : List ℕ) (start : ℕ)
    → Some start ≡ position (λ octet. not (octet == space)) text
    → (start < length text)
    × ((i : ℕ) → i < start → get_or text i 0 ≡ space)
    × (get_or text start 0 ≢ space)
start_found text start is =
    let p = position-Some (λ octet. not (octet == space)) text start 0 (sym is) in grind (arith, is_space, true≢false, eq-eqb)

-- a character begins there
start_boundary : (text : List ℕ) (start : ℕ)
    → IsUtf8 text
    → Some start ≡ position (λ octet. not (octet == space)) text
    → IsCharBoundary text start
start_boundary text start utf8 is = grind (arith, start_found, after_spaces)

-- the rest of the text from there
rest_found : (text rest : List ℕ) (start : ℕ)
    → Some start ≡ position (λ octet. not (octet == space)) text
    → rest ≡ drop start text
    → (words text ≡ words rest) × (get_or rest 0 0 ≢ space) × (0 < length rest)
rest_found text rest start is cut =
    let found = start_found text start is in
    let more : rest ≡ get_or text start 0 ∷ drop (start + 1) text = cut ∙ drop_more text start 0 found.0 in
    let first : get_or rest 0 0 ≡ get_or text start 0 = ap (λ l. get_or l 0 0) more in grind (arith, words_past_spaces)

start_missing : (text : List ℕ)
    → None ≡ position (λ octet. not (octet == space)) text
    → words text ≡ []
start_missing text none = words_of_spaces text (λ i inside. grind (arith, is_space, position_none))

-- the first space ends it
end_found : (text : List ℕ) (size : ℕ)
    → Some size ≡ position (λ octet. octet == space) text
    → get_or text 0 0 ≢ space
    → (words text ≡ take size text ∷ words (drop size text)) × IsCharBoundary text size
end_found text size is other = grind (arith, position-Some, eqb-true, words_cut, is_no_space, IsCharBoundary-before_ascii)

end_missing : (text : List ℕ)
    → None ≡ position (λ octet. octet == space) text
    → 0 < length text
    → words text ≡ text ∷ words []
unfolding words
end_missing text none some = grind (arith, is_no_space, position_none, pieces_without_space)

pub returns-in_err-start : goal.returns-in_err-start
returns-in_err-start c = search (rules, start_missing c.args.text.now c.in_err-start.ensures)

pub range_from-text-requires : goal.range_from-text-requires
range_from-text-requires c = λ _. start_boundary c.args.text.now c.in_ok-start.start c.utf8.text c.in_ok-start.ensures

pub split_at-requires : goal.split_at-requires
split_at-requires c =
    let rest = c.range_from-text.result.now in
    let found = rest_found c.args.text.now rest c.in_ok-start.start c.in_ok-start.ensures c.range_from-text.ensures.value in
    (end_found rest c.in-Some.size c.in-Some.ensures found.1).1

pub returns-in-Some : goal.returns-in-Some
returns-in-Some c = grind (arith, rest_found, end_found)

pub returns-in-None : goal.returns-in-None
returns-in-None c =
    let rest = c.range_from-text.result.now in
    let found = rest_found c.args.text.now rest c.in_ok-start.start c.in_ok-start.ensures c.range_from-text.ensures.value in
    found.0 ∙ end_missing rest c.in-None.ensures found.2
