-- The next line of what a reader has left.
use Rattle.std.proofs.Common.{◌≡◌, ℕ, ◌<◌, ◌≤◌, ◌++◌, List, [], ◌∷◌, length, Bool, true, false, None, Some, refl, sym, ap, ◌∙◌, take, append_assoc, rules, arith, Option, cond, ◌==◌, ◌+◌, suc, zero, length-append, append-nil, get_or, option_map}
use Rattle.std.proofs.lemmas.Option.{same_Some}
use Rattle.std.specs.Io.KnownBytes.{Consumes, IsAtEnd, Keeps, prepend_known}
use Rattle.std.specs.List.{onto_first, slice_split}
use Rattle.std.specs.Prelude.{IfNone, IfSome, OnSome, slice_get, zip}
use Rattle.std.specs.Str.Lines.{lines, lines_of_parts, strip_carriage_return}
use Rattle.ptpm_text.specs.Lines.{BothKnown, given, whole_lines, LeavesLong, ReadsNext, begins_long, is_long, left_of}
use Rattle.std.specs.Io.{StartsWith}
use Rattle.std.specs.Io.BufRead.{DropsConsumable, drop_through}
use Rattle.std.proofs.BufReadLemmas.{Consumes_shown}
use Rattle.std.proofs.lemmas.Str.{is_utf8-from_IsUtf8, IsUtf8-from_is_utf8}
use Rattle.std.proofs.KnownBytes.{Consumes-kept, Consumes-nil}
use Rattle.std.proofs.lemmas.Bool.{cond-false, cond-true, eqb-true, lt-ltb}
use Rattle.std.proofs.lemmas.List.{length-take, take_all, take-append-le, take_more}
use Rattle.memchr.specs.Find.{IsFirstByte, is_byte}
use Rattle.std.proofs.lemmas.Bool.Decides.{nat_tests}

-- ---- lines of octets that come one by one

pub some_there : {X : Type 0} (x : X) → ◌≡◌ {A = Option X} (Some x) None → ⊥
some_there x h = cc

-- no octet is a line feed
abbrev pub NoFeed : List ℕ → Type 0
NoFeed [] = Unit {0}
NoFeed (x ∷ xs) = ((x == 10) ≡ false) × NoFeed xs

pub no_feed-more : (xs : List ℕ) (x : ℕ) → NoFeed xs → (x == 10) ≡ false → NoFeed (xs ++ x ∷ [])
no_feed-more [] x h e = (e, tt)
no_feed-more (y ∷ ys) x h e = (h.0, no_feed-more ys x h.1 e)

-- ---- parts between line feeds

abbrev pub parts : List ℕ → List (List ℕ)
parts bs = slice_split (λ b. b == 10) bs

cut_some : (b : Bool) (x : ℕ) (ps : List (List ℕ))
    → ((y : List ℕ) × ((ys : List (List ℕ)) × (ps ≡ y ∷ ys)))
    → (y : List ℕ) × ((ys : List (List ℕ)) × (cond b ([] ∷ ps) (onto_first x ps) ≡ y ∷ ys))
cut_some true x ps h = ([], (ps, refl))
cut_some false x ps h = (x ∷ h.0, (h.1.0, ap (onto_first x) h.1.1))

pub some_part : (bs : List ℕ) → (y : List ℕ) × ((ys : List (List ℕ)) × (parts bs ≡ y ∷ ys))
some_part [] = ([], ([], refl))
some_part (x ∷ xs) = cut_some (x == 10) x (parts xs) (some_part xs)

pub part_ends : (l bs : List ℕ) → NoFeed l → parts (l ++ 10 ∷ bs) ≡ l ∷ parts bs
part_ends [] bs h = refl
part_ends (x ∷ xs) bs h = rw h.0 (ap (onto_first x) (part_ends xs bs h.1))

pub one_part : (l : List ℕ) → NoFeed l → parts l ≡ l ∷ []
one_part [] h = refl
one_part (x ∷ xs) h = rw h.0 (ap (onto_first x) (one_part xs h.1))

-- ---- lines

pub line_ends : (l bs : List ℕ)
    → NoFeed l
    → lines (l ++ 10 ∷ bs) ≡ strip_carriage_return l ∷ lines bs
line_ends l bs h =
    let some = some_part bs in
    let e : parts bs ≡ some.0 ∷ some.1.0 = some.1.1 in grind (arith, part_ends)

pub not_empty : (l : List ℕ) → 0 < length l → lines_of_parts (l ∷ []) ≡ l ∷ []
not_empty [] h = absurd (omega (arith, h))
not_empty (x ∷ xs) h = search rules

pub last_line : (l : List ℕ) → NoFeed l → 0 < length l → lines l ≡ l ∷ []
last_line l h some = ap lines_of_parts (one_part l h) ∙ not_empty l some

-- ---- a line that is read octet by octet

-- the first octet, and what was left after it, is the line so far, the next octet, and what is left now
abbrev pub IsRead : Option (List ℕ) → Option (List ℕ) → ℕ → List ℕ → Option ℕ → Type 0
IsRead before now first line next = BothKnown before now (λ xs ys. first ∷ xs ≡ line ++ (given next ++ ys))

pub read-first : (a : Option (List ℕ)) (first : ℕ) (line : List ℕ)
    → line ≡ []
    → IsRead a a first line (Some first)
read-first None first line e = tt
read-first (Some xs) first line e = ap (λ l. l ++ (first ∷ xs)) (sym e)

pub read-more : (a b c : Option (List ℕ)) (first octet : ℕ) (line : List ℕ) (next : Option ℕ)
    → IsRead a b first line (Some octet)
    → Consumes b c (given next) → IsRead a c first (line ++ octet ∷ []) next
read-more None b c first octet line next h k = tt
read-more (Some xs) None c first octet line next h k = absurd h
read-more (Some xs) (Some ys) None first octet line next h k = absurd k
read-more (Some xs) (Some ys) (Some zs) first octet line next h k = grind (arith, append_assoc)

-- the reader's end, as the first octet's reader knew it
pub end-on : (a b c : Option (List ℕ)) (first octet : ℕ) (line : List ℕ) (next : Option ℕ)
    → IsRead a b first line (Some octet)
    → IfNone next (OnSome b (IsAtEnd c)) → IfNone next (OnSome a (IsAtEnd c))
end-on a b c first octet line (Some x) h e = tt
end-on None b c first octet line None h e = tt
end-on (Some xs) None c first octet line None h e = absurd h
end-on (Some xs) (Some ys) c first octet line None h e = e

-- ---- an octet of what a reader shows

shown_some : (shown : List ℕ) (octet : ℕ)
    → slice_get shown 0 ≡ Some octet
    → (1 ≤ length shown) × (take 1 shown ≡ octet ∷ [])
shown_some [] octet h = absurd (cc)
shown_some (x ∷ xs) octet h = (omega arith, ap (λ o. o ∷ []) (same_Some x octet h))

shown_none : (shown : List ℕ) → slice_get shown 0 ≡ None → length shown ≡ 0
shown_none [] h = refl
shown_none (x ∷ xs) h = absurd (cc)

pub octet-some : (a b c : Option (List ℕ)) (limit : Option ℕ) (shown : List ℕ) (octet : ℕ)
    → slice_get shown 0 ≡ Some octet
    → IfSome a (λ xs. StartsWith xs shown) → IfSome a (λ xs. length shown ≡ 0 → xs ≡ []) → Keeps a b
    → IfSome a (λ _. IfSome limit (λ n. length shown ≤ n))
    → DropsConsumable b c limit 1
    → Consumes a c (octet ∷ [])
octet-some a b c limit shown octet h front end kept fits drops = grind (arith, shown_some, Consumes_shown)

pub octet-none : (a b : Option (List ℕ)) (shown : List ℕ)
    → slice_get shown 0 ≡ None
    → IfSome a (λ xs. length shown ≡ 0 → xs ≡ [])
    → Keeps a b
    → OnSome a (IsAtEnd b)
octet-none None b shown h end kept = tt
octet-none (Some xs) None shown h end kept = absurd kept
octet-none (Some xs) (Some ys) shown h end kept = kept ∙ end (shown_none shown h)

pub ruleset text_laws = (is_utf8-from_IsUtf8, IsUtf8-from_is_utf8)

pub ruleset next_octet_laws = (Consumes-kept, Consumes-nil, octet-none, octet-some)

-- ---- whole lines

whole_ends : (l bs : List ℕ)
    → NoFeed l
    → whole_lines (l ++ 10 ∷ bs) ≡ (strip_carriage_return l, l) ∷ whole_lines bs
whole_ends l bs h = λ i. zip (line_ends l bs h i) (part_ends l bs h i)

whole_last : (l : List ℕ) → NoFeed l → 0 < length l → whole_lines l ≡ (l, l) ∷ []
whole_last l h some = λ i. zip (last_line l h some i) (one_part l h i)

is_short : (l : List ℕ) → length l ≤ 4096 → is_long l ≡ false
is_short l h = grind (arith, nat_tests)

next_is : (xs ys line octets : List ℕ)
    → whole_lines xs ≡ (line, octets) ∷ whole_lines ys
    → length octets ≤ 4096
    → ReadsNext (Some xs) true line (Some ys)
next_is xs ys line octets is short = (ap begins_long is ∙ is_short octets short, (octets, is))

-- ---- a line that is read octet by octet

pub next-feed : (a b : Option (List ℕ)) (first octet : ℕ) (line stripped : List ℕ)
    → IsRead a b first line (Some octet)
    → octet ≡ 10
    → NoFeed line
    → stripped ≡ strip_carriage_return line
    → length line ≤ 4096
    → ReadsNext (option_map (λ octets. first ∷ octets) a) true stripped b
next-feed None b first octet line stripped h e free s short = tt
next-feed (Some xs) None first octet line stripped h e free s short = absurd h
next-feed (Some xs) (Some ys) first octet line stripped h e free s short =
    next_is (first ∷ xs) ys stripped line
    (ap whole_lines (h ∙ ap (λ o. line ++ (o ∷ ys)) e) ∙ whole_ends line ys free ∙ ap (λ l. (l, line) ∷ whole_lines ys) (sym s)) short

pub next-end : (a b : Option (List ℕ)) (first : ℕ) (line : List ℕ)
    → IsRead a b first line None
    → OnSome a (IsAtEnd b)
    → NoFeed line
    → 0 < length line
    → length line ≤ 4096
    → ReadsNext (option_map (λ octets. first ∷ octets) a) true line b
next-end None b first line h e free some short = tt
next-end (Some xs) None first line h e free some short = absurd h
next-end (Some xs) (Some ys) first line h e free some short =
    next_is (first ∷ xs) ys line line
    (ap whole_lines (h ∙ ap (λ l. line ++ l) e ∙ append-nil line) ∙ whole_last line free some ∙ ap (λ l. (line, line) ∷ whole_lines l) (sym e)) short

pub next-none : (a b : Option (List ℕ)) (line : List ℕ)
    → Consumes a b []
    → OnSome a (IsAtEnd b)
    → ReadsNext a false line b
next-none None b line h e = tt
next-none (Some xs) None line h e = absurd h
next-none (Some xs) (Some ys) line h e = (ap (λ o. begins_long (whole_lines o)) (h ∙ e), (ap whole_lines (h ∙ e), ap whole_lines e))

-- ---- with its first octet

pub next-line : (a b c : Option (List ℕ)) (first : ℕ) (line : List ℕ)
    → Consumes a b (first ∷ [])
    → ReadsNext (option_map (λ octets. first ∷ octets) b) true line c
    → ReadsNext a true line c
next-line None b c first line h k = tt
next-line (Some xs) None c first line h k = absurd h
next-line (Some xs) (Some ys) None first line h k = absurd k
next-line (Some xs) (Some ys) (Some zs) first line h k = (ap (λ o. begins_long (whole_lines o)) h ∙ k.0, (k.1.0, ap whole_lines h ∙ k.1.1))

pub long-line : (a b c : Option (List ℕ)) (first : ℕ)
    → Consumes a b (first ∷ [])
    → LeavesLong (option_map (λ octets. first ∷ octets) b) c
    → LeavesLong a c
long-line None b c first h k = tt
long-line (Some xs) None c first h k = absurd h
long-line (Some xs) (Some ys) None first h k = absurd k
long-line (Some xs) (Some ys) (Some zs) first h k = (k.0, (ap whole_lines h ∙ k.1.0, k.1.1))

-- ---- a line that is too long

-- octets without a line feed are in the first line, and those behind the next line feed in the others
abbrev IsBehind : List ℕ → List ℕ → Type 0
IsBehind l ys = (o : List ℕ × List ℕ) × ((whole_lines (l ++ ys) ≡ o ∷ whole_lines (drop_through 10 ys)) × (length l ≤ length o.1))

behind_more : (l : List ℕ) (y : ℕ) (ys : List ℕ) → (y == 10) ≡ false → IsBehind (l ++ y ∷ []) ys → IsBehind l (y ∷ ys)
behind_more l y ys e h =
    let rest : drop_through 10 (y ∷ ys) ≡ drop_through 10 ys = cond-false _ _ _ e in
    (h.0, (ap whole_lines (sym (append_assoc l (y ∷ []) ys)) ∙ h.1.0 ∙ ap (λ o. h.0 ∷ whole_lines o) (sym rest), omega (arith, h.1.1, length-append l (y ∷ []))))

behind_feed : (l : List ℕ) (y : ℕ) (ys : List ℕ) → (y == 10) ≡ true → NoFeed l → IsBehind l (y ∷ ys)
behind_feed l y ys e free =
    let feed : y ≡ 10 = eqb-true y 10 e in
    let rest : drop_through 10 (y ∷ ys) ≡ ys = cond-true _ _ _ e in
    ((strip_carriage_return l, l), (ap (λ o. whole_lines (l ++ (o ∷ ys))) feed ∙ whole_ends l ys free ∙ ap (λ o. (strip_carriage_return l, l) ∷ whole_lines o) (sym rest), omega arith))

behind : (ys l : List ℕ) → NoFeed l → 0 < length l → IsBehind l ys
behind [] l free some = ((l, l), (ap whole_lines (append-nil l) ∙ whole_last l free some, omega arith))
behind (y ∷ ys) l free some =
    elim (y == 10) as (λ b. (y == 10) ≡ b → IsBehind l (y ∷ ys)) [
      | true ↦ λ e. behind_feed l y ys e free
      | false ↦ λ e. behind_more l y ys e (behind ys (l ++ y ∷ []) (no_feed-more l y free e) (omega (arith, length-append l (y ∷ []))))
    ] refl

is_longer : (m n : List ℕ) → 4096 < length m → length m ≤ length n → is_long n ≡ true
is_longer m n h k = lt-ltb _ _ (omega (arith, h, k))

pub leaves-long : (a b : Option (List ℕ)) (first octet : ℕ) (line : List ℕ)
    → IsRead a b first line (Some octet)
    → (octet == 10) ≡ false
    → NoFeed line
    → 4096 ≤ length line
    → LeavesLong (option_map (λ octets. first ∷ octets) a) (option_map (drop_through 10) b)
leaves-long None b first octet line h e free long = tt
leaves-long (Some xs) None first octet line h e free long = absurd h
leaves-long (Some xs) (Some ys) first octet line h e free long =
    let l = line ++ octet ∷ [] in
    let over : 4096 < length l = omega (arith, length-append line (octet ∷ [])) in
    let w = behind ys l (no_feed-more line octet free e) (omega arith) in
    (w.0, (ap whole_lines (h ∙ sym (append_assoc line (octet ∷ []) ys)) ∙ w.1.0, is_longer l w.0.1 over w.1.1))

-- ---- a reader that is not within a line that is too long

pub left-whole : (cut : Bool) (known : Option (List ℕ)) → cut ≡ false → left_of cut known ≡ known
left-whole true known h = absurd (cc)
left-whole false known h = refl

-- ---- a line that a reader has at hand

-- what is at hand is the first of what is left
pub shown_first : (none : Bool) (shown : List ℕ) (known : Option (List ℕ))
    → IfSome (cond none None (prepend_known shown known)) (λ xs. StartsWith xs shown)
shown_first true shown known = tt
shown_first false shown None = tt
shown_first false shown (Some ys) = grind (arith, take-append-le, take_all)

is_no_feed : (octet : ℕ) → ¬ ((octet == 10) ≡ true) → (octet == 10) ≡ false
is_no_feed octet h =
    elim (octet == 10) as (λ b. (octet == 10) ≡ b → (octet == 10) ≡ false) [
      | true ↦ λ e. absurd (h e)
      | false ↦ λ e. e
    ] refl

no_feed_before : (shown : List ℕ) (size : ℕ)
    → size ≤ length shown
    → ((k : ℕ) → k < size → ¬ ((get_or shown k 0 == 10) ≡ true))
    → NoFeed (take size shown)
no_feed_before shown zero h none = tt
no_feed_before [] (suc size) h none = tt
no_feed_before (x ∷ xs) (suc size) h none =
    (is_no_feed x (none 0 (omega arith)), no_feed_before xs size (omega (arith, h)) (λ k below. none (suc k) (omega (arith, below))))

feed_taken : (shown : List ℕ) (size : ℕ)
    → size < length shown
    → (get_or shown size 0 == 10) ≡ true
    → take (size + 1) shown ≡ take size shown ++ 10 ∷ []
feed_taken shown size h e = take_more shown size 0 h ∙ ap (λ octet. take size shown ++ octet ∷ []) (eqb-true (get_or shown size 0) 10 e)

at_hand : (xs : List ℕ) (b : Option (List ℕ)) (shown : List ℕ) (size : ℕ) (stripped : List ℕ)
    → Consumes (Some xs) b (take (size + 1) shown)
    → NoFeed (take size shown)
    → take (size + 1) shown ≡ take size shown ++ 10 ∷ []
    → stripped ≡ strip_carriage_return (take size shown)
    → length (take size shown) ≤ 4096
    → ReadsNext (Some xs) true stripped b
at_hand xs None shown size stripped taken free feed s short = absurd taken
at_hand xs (Some ys) shown size stripped taken free feed s short =
    let line = take size shown in
    let is : whole_lines xs ≡ (stripped, line) ∷ whole_lines ys = grind (arith, append_assoc, whole_ends) in next_is xs ys stripped line is short

-- the first line feed at hand ends the next line
pub next-at-hand : (a b : Option (List ℕ)) (shown : List ℕ) (size : ℕ) (stripped : List ℕ)
    → IfSome a (λ xs. StartsWith xs shown)
    → IsFirstByte (is_byte 10) shown (Some size)
    → DropsConsumable a b (Some (length shown)) (size + 1)
    → stripped ≡ strip_carriage_return (take size shown)
    → size ≤ 4096
    → ReadsNext a true stripped b
next-at-hand None b shown size stripped front first drops s short = tt
next-at-hand (Some xs) b shown size stripped front first drops s short =
    let inside : size < length shown = first.0.high in
    let taken = (Consumes_shown (Some xs) (Some xs) b (Some (length shown)) shown (size + 1) (omega (arith, inside)) front (λ none. absurd (omega (arith, inside, none))) refl (omega arith) drops).0 in grind (arith, at_hand, no_feed_before, feed_taken, length-take)

pub ruleset read_by_octets_laws = (next-none, next-line, long-line)

pub ruleset take_line_laws = (left-whole, next-at-hand, shown_first)
