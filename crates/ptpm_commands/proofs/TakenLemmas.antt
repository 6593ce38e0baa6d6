-- Lines that are taken or shown one by one come to what they come to together.
use Rattle.std.proofs.Common.{◌≡◌, ◌⊎◌, inl, inr, ℕ, ◌+◌, ◌-◌, ◌^◌, ◌≤◌, ◌++◌, List, [], ◌∷◌, length, true, false, None, Some, Option, Result, Ok, Err, IfSome, IsErrAnd, is_some, refl, sym, ap, subst, ◌∙◌, append_assoc, append-nil, arith, IfErr, flat_map}
use Rattle.std.proofs.lemmas.Bool.{cond-false, false≢true}
use Rattle.std.specs.Io.KnownBytes.{Appends, Keeps}
use Rattle.std.specs.Option.{option_to_list}
use Rattle.ptpm_text.specs.Lines.{BothKnown, ReadsNext, begins_long, whole_lines}
use Rattle.ptpm_commands.specs.declared.faults.Fault.{Fault}
use Rattle.ptpm_commands.specs.Faults.{IsAtLine, is_of_line, is_outside}
use Rattle.ptpm_commands.specs.Lines.{datagram_in, row_in}
use Rattle.ptpm_commands.specs.Taken.{HasNumbers, HasTaken, IsLast, IsNext, Taken, good, good_first, line_datagram, taken, taken_first, unless_long, ShowsNext, ShowsRow, line_message, message_of_row, with_columns}
use Rattle.std.proofs.KnownBytes.{Appends-kept, Appends-nil, Appends-trans}
use Rattle.std.proofs.lemmas.Grind.{flat_map-append}
use Rattle.ptpm_codec.specs.declared.message.Message.{Message}
use Rattle.ptpm_codec.specs.Reading.{reading}
use Rattle.ptpm_commands.specs.declared.show.Values.{Values}
use Rattle.ptpm_commands.specs.Show.{AreShown, IsShown, message_lines, read_as, row_lines}
use Rattle.ptpm_commands.specs.declared.faults.Fault.TheVariants as faults

-- ---- lines that are taken one by one come to what they come to together

pub known-itself : (a : Option (List ℕ)) → IfSome a (λ xs. a ≡ Some xs)
known-itself None = tt
known-itself (Some xs) = refl

-- ---- the line that was read

pub next-has : {A : Type 0} (f : ℕ → List ℕ → Result (Option A) Fault) (n : ℕ) (a b : Option (List ℕ)) (line : List ℕ) (r : Result (Option A) Fault)
    → ReadsNext a true line b
    → f n line ≡ r
    → IsNext (λ k l. unless_long k l.1 (f k l.0)) n a b r
next-has f n None b line r h e = tt
next-has f n (Some xs) None line r h e = absurd h
next-has f n (Some xs) (Some ys) line r h e =
    ((line, h.1.0), (h.1.1, cond-false _ _ _ (ap begins_long (sym h.1.1) ∙ h.0) ∙ e))

pub next-last : (a b : Option (List ℕ)) (line : List ℕ) → ReadsNext a false line b → IsLast a b
next-last None b line h = tt
next-last (Some xs) None line h = absurd h
next-last (Some xs) (Some ys) line h = h.1

-- ---- from the first line on

abbrev pub values_of : {A : Type 0} → Taken A → List A
values_of t = t.values

abbrev pub fault_of : {A : Type 0} → Taken A → Option Fault
fault_of t = t.fault

-- these values, and then this fault or the end
abbrev pub all_of : {A : Type 0} → List A → Option Fault → Taken A
all_of values fault = record { values = values; fault = fault }

abbrev pub behind : {A : Type 0} → List A → Taken A → Taken A
behind values others = record { values = values ++ others.values; fault = others.fault }

behind_first : {A : Type 0} (values : List A) (v : Option A) (others : Taken A)
    → behind values (taken_first (Ok v) others) ≡ behind (values ++ option_to_list v) others
behind_first values None others = ap (λ vs. behind vs others) (sym (append-nil values))
behind_first values (Some v) others = ap (λ vs. all_of vs others.fault) (sym (append_assoc values (v ∷ []) others.values))

-- so far these values were taken, and the next line has this number
pub record ReachesIn {A : Type 0} (has : ℕ → List ℕ × List ℕ → Result (Option A) Fault) (values : List A) (number : ℕ) (xs ys : List ℕ) : Type 0 where
  pub is : taken has 1 (whole_lines xs) ≡ behind values (taken has number (whole_lines ys))
  pub count : number + length (whole_lines ys) ≡ 1 + length (whole_lines xs)

abbrev pub Reaches : {A : Type 0}
    → (ℕ → List ℕ × List ℕ → Result (Option A) Fault)
    → List A
    → ℕ
    → Option (List ℕ)
    → Option (List ℕ)
    → Type 0
Reaches has values number first left = BothKnown first left (λ xs ys. ReachesIn has values number xs ys)

pub reaches-first : {A : Type 0} (has : ℕ → List ℕ × List ℕ → Result (Option A) Fault) (first : Option (List ℕ)) → Reaches has [] 1 first first
reaches-first has None = tt
reaches-first has (Some xs) = record { is = refl; count = refl }

pub reaches-next : {A : Type 0} (has : ℕ → List ℕ × List ℕ → Result (Option A) Fault) (values : List A) (n : ℕ) (first left next : Option (List ℕ)) (v : Option A)
    → Reaches has values n first left
    → IsNext has n left next (Ok v)
    → Reaches has (values ++ option_to_list v) (n + 1) first next
reaches-next has values n None left next v h k = tt
reaches-next has values n (Some xs) None next v h k = absurd h
reaches-next has values n (Some xs) (Some ys) None v h k = absurd k
reaches-next has values n (Some xs) (Some ys) (Some zs) v h k = record {
  is = h.is ∙ ap (λ ls. behind values (taken has n ls)) k.1.0
      ∙ ap (λ r. behind values (taken_first r (taken has (n + 1) (whole_lines zs)))) k.1.1
      ∙ behind_first values v (taken has (n + 1) (whole_lines zs));
  count = let l = ap length k.1.0 in omega (arith, h.count, l);
}

-- all lines were taken
pub reaches-last : {A : Type 0} (has : ℕ → List ℕ × List ℕ → Result (Option A) Fault) (values : List A) (n : ℕ) (xs : List ℕ) (left next : Option (List ℕ))
    → Reaches has values n (Some xs) left
    → IsLast left next
    → taken has 1 (whole_lines xs) ≡ all_of values None
reaches-last has values n xs None next h k = absurd h
reaches-last has values n xs (Some ys) None h k = absurd k
reaches-last has values n xs (Some ys) (Some zs) h k =
    h.is ∙ ap (λ ls. behind values (taken has n ls)) k.0 ∙ ap (λ vs. all_of vs None) (append-nil values)

no_more : {A : Type 0} (has : ℕ → List ℕ × List ℕ → Result (Option A) Fault) (values : List A) (n : ℕ) (lines : List (List ℕ × List ℕ))
    → length lines ≡ 0
    → behind values (taken has n lines) ≡ all_of values None
no_more has values n [] h = ap (λ vs. all_of vs None) (append-nil values)
no_more has values n (line ∷ lines) h = absurd (omega (arith, h))

-- no number is left, and so no line
pub reaches-out : {A : Type 0} (has : ℕ → List ℕ × List ℕ → Result (Option A) Fault) (values : List A) (n : ℕ) (xs : List ℕ) (left : Option (List ℕ))
    → Reaches has values n (Some xs) left
    → HasNumbers xs
    → 2 ^ 64 - 1 ≤ n
    → taken has 1 (whole_lines xs) ≡ all_of values None
reaches-out has values n xs None h few over = absurd h
reaches-out has values n xs (Some ys) h few over = h.is ∙ no_more has values n (whole_lines ys) (omega (arith, h.count, few, over))

-- the next line has a fault
pub reaches-fault : {A : Type 0} (has : ℕ → List ℕ × List ℕ → Result (Option A) Fault) (values : List A) (n : ℕ) (xs : List ℕ) (left next : Option (List ℕ)) (e : Fault)
    → Reaches has values n (Some xs) left
    → IsNext has n left next (Err e)
    → taken has 1 (whole_lines xs) ≡ all_of values (Some e)
reaches-fault has values n xs None next e h k = absurd h
reaches-fault has values n xs (Some ys) None e h k = absurd k
reaches-fault has values n xs (Some ys) (Some zs) e h k =
    h.is ∙ ap (λ ls. behind values (taken has n ls)) k.1.0
    ∙ ap (λ r. behind values (taken_first r (taken has (n + 1) (whole_lines zs)))) k.1.1
    ∙ ap (λ vs. all_of vs (Some e)) (append-nil values)

-- ---- what was written

-- a reader whose octets are known had these left at first
from_first : {A : Type 0} (has : ℕ → List ℕ × List ℕ → Result (Option A) Fault) (values : List A) (n : ℕ) (xs : List ℕ) (first left : Option (List ℕ))
    → first ≡ Some xs
    → Reaches has values n first left
    → Reaches has values n (Some xs) left
from_first has values n xs first left e h = subst (λ o. Reaches has values n o left) e h

pub all-taken : {A : Type 0} (has : ℕ → List ℕ × List ℕ → Result (Option A) Fault) (text : List A → List ℕ) (values : List A) (n : ℕ) (known first left next before after : Option (List ℕ))
    → IfSome known (λ xs. first ≡ Some xs)
    → Reaches has values n first left
    → IsLast left next ⊎ (2 ^ 64 - 1 ≤ n)
    → Appends before after (text values)
    → IfSome known (λ xs. HasNumbers xs
    → ((taken has 1 (whole_lines xs)).fault ≡ None) × Appends before after (text (taken has 1 (whole_lines xs)).values))
all-taken has text values n None first left next before after e h end wrote = tt
all-taken has text values n (Some xs) first left next before after e h (inl last) wrote = λ few.
    let is = reaches-last has values n xs left next (from_first has values n xs first left e h) last in
    (ap fault_of is, subst (λ vs. Appends before after (text vs)) (sym (ap values_of is)) wrote)
all-taken has text values n (Some xs) first left next before after e h (inr over) wrote = λ few.
    let is = reaches-out has values n xs left (from_first has values n xs first left e h) few over in
    (ap fault_of is, subst (λ vs. Appends before after (text vs)) (sym (ap values_of is)) wrote)

is_of_the_line : (n : ℕ) (e : Fault) → IsAtLine n e → is_outside e ≡ false → is_of_line e ≡ true
is_of_the_line n e (inl at) h = ap is_some at
is_of_the_line n e (inr out) h = absurd (false≢true (sym h ∙ out))

fault_here : {A : Type 0} (has : ℕ → List ℕ × List ℕ → Result (Option A) Fault) (values : List A) (n : ℕ) (xs : List ℕ) (left next : Option (List ℕ)) (e : Fault)
    → Reaches has values n (Some xs) left
    → (is_outside e ≡ true) ⊎ IsNext has n left next (Err e)
    → is_outside e ≡ false
    → taken has 1 (whole_lines xs) ≡ all_of values (Some e)
fault_here has values n xs left next e h (inl out) inside = absurd (false≢true (sym inside ∙ out))
fault_here has values n xs left next e h (inr is) inside = reaches-fault has values n xs left next e h is

pub first-fault : {A : Type 0} (has : ℕ → List ℕ × List ℕ → Result (Option A) Fault) (text : List A → List ℕ) (values : List A) (n : ℕ) (known first left next before mid after : Option (List ℕ)) (e : Fault)
    → IfSome known (λ xs. first ≡ Some xs)
    → Reaches has values n first left
    → (is_outside e ≡ true) ⊎ IsNext has n left next (Err e)
    → IsAtLine n e
    → Appends before mid (text values)
    → (is_of_line e ≡ true → after ≡ mid)
    → IfSome known (λ xs. HasNumbers xs → is_outside e ≡ false
    → ((taken has 1 (whole_lines xs)).fault ≡ Some e) × Appends before after (text (taken has 1 (whole_lines xs)).values))
first-fault has text values n None first left next before mid after e known h fault at wrote same = tt
first-fault has text values n (Some xs) first left next before mid after e known h fault at wrote same = λ few inside.
    let is = fault_here has values n xs left next e (from_first has values n xs first left known h) fault inside in
    let end : Appends before after (text values) = subst (λ o. Appends before o (text values)) (sym (same (is_of_the_line n e at inside))) wrote in
    (ap fault_of is, subst (λ vs. Appends before after (text vs)) (sym (ap values_of is)) end)

-- ---- where lines with a fault are passed over

good_more : {A : Type 0} (values : List A) (v : Option A) (others : List A)
    → values ++ good_first (Ok v) others ≡ (values ++ option_to_list v) ++ others
good_more values None others = ap (λ vs. vs ++ others) (sym (append-nil values))
good_more values (Some v) others = sym (append_assoc values (v ∷ []) others)

pub record PassesIn {A : Type 0} (has : ℕ → List ℕ × List ℕ → Result (Option A) Fault) (values : List A) (number : ℕ) (xs ys : List ℕ) : Type 0 where
  pub is : good has 1 (whole_lines xs) ≡ values ++ good has number (whole_lines ys)
  pub count : number + length (whole_lines ys) ≡ 1 + length (whole_lines xs)

abbrev pub Passes : {A : Type 0}
    → (ℕ → List ℕ × List ℕ → Result (Option A) Fault)
    → List A
    → ℕ
    → Option (List ℕ)
    → Option (List ℕ)
    → Type 0
Passes has values number first left = BothKnown first left (λ xs ys. PassesIn has values number xs ys)

pub passes-first : {A : Type 0} (has : ℕ → List ℕ × List ℕ → Result (Option A) Fault) (first : Option (List ℕ)) → Passes has [] 1 first first
passes-first has None = tt
passes-first has (Some xs) = record { is = refl; count = refl }

pub passes-next : {A : Type 0} (has : ℕ → List ℕ × List ℕ → Result (Option A) Fault) (values : List A) (n : ℕ) (first left next : Option (List ℕ)) (v : Option A)
    → Passes has values n first left
    → IsNext has n left next (Ok v)
    → Passes has (values ++ option_to_list v) (n + 1) first next
passes-next has values n None left next v h k = tt
passes-next has values n (Some xs) None next v h k = absurd h
passes-next has values n (Some xs) (Some ys) None v h k = absurd k
passes-next has values n (Some xs) (Some ys) (Some zs) v h k = record {
  is = h.is ∙ ap (λ ls. values ++ good has n ls) k.1.0
      ∙ ap (λ r. values ++ good_first r (good has (n + 1) (whole_lines zs))) k.1.1
      ∙ good_more values v (good has (n + 1) (whole_lines zs));
  count = let l = ap length k.1.0 in omega (arith, h.count, l);
}

pub passes-over : {A : Type 0} (has : ℕ → List ℕ × List ℕ → Result (Option A) Fault) (values : List A) (n : ℕ) (first left next : Option (List ℕ)) (e : Fault)
    → Passes has values n first left
    → IsNext has n left next (Err e)
    → Passes has values (n + 1) first next
passes-over has values n None left next e h k = tt
passes-over has values n (Some xs) None next e h k = absurd h
passes-over has values n (Some xs) (Some ys) None e h k = absurd k
passes-over has values n (Some xs) (Some ys) (Some zs) e h k = record {
  is = h.is ∙ ap (λ ls. values ++ good has n ls) k.1.0
      ∙ ap (λ r. values ++ good_first r (good has (n + 1) (whole_lines zs))) k.1.1;
  count = let l = ap length k.1.0 in omega (arith, h.count, l);
}

not_both : (e : Fault) → is_outside e ≡ true → is_of_line e ≡ true → ⊥
not_both faults.ReadFault out h = false≢true h
not_both faults.OutOfMemory out h = false≢true h
not_both faults.WriteFault out h = false≢true h
not_both _ out h = false≢true out

pub is-fault : {A : Type 0} (has : ℕ → List ℕ × List ℕ → Result (Option A) Fault) (n : ℕ) (left next : Option (List ℕ)) (e : Fault)
    → (is_outside e ≡ true) ⊎ IsNext has n left next (Err e)
    → is_of_line e ≡ true
    → IsNext has n left next (Err e)
is-fault has n left next e (inl out) h = absurd (not_both e out h)
is-fault has n left next e (inr is) h = is

none_good : {A : Type 0} (has : ℕ → List ℕ × List ℕ → Result (Option A) Fault) (values : List A) (n : ℕ) (lines : List (List ℕ × List ℕ))
    → length lines ≡ 0
    → values ++ good has n lines ≡ values
none_good has values n [] h = append-nil values
none_good has values n (line ∷ lines) h = absurd (omega (arith, h))

passed_all : {A : Type 0} (has : ℕ → List ℕ × List ℕ → Result (Option A) Fault) (values : List A) (n : ℕ) (xs : List ℕ) (left next : Option (List ℕ))
    → Passes has values n (Some xs) left
    → HasNumbers xs
    → IsLast left next ⊎ (2 ^ 64 - 1 ≤ n)
    → good has 1 (whole_lines xs) ≡ values
passed_all has values n xs None next h few end = absurd h
passed_all has values n xs (Some ys) None h few (inl last) = absurd last
passed_all has values n xs (Some ys) (Some zs) h few (inl last) = h.is ∙ none_good has values n (whole_lines ys) (ap length last.0)
passed_all has values n xs (Some ys) next h few (inr over) = h.is ∙ none_good has values n (whole_lines ys) (omega (arith, h.count, few, over))

pub all-good : {A : Type 0} (has : ℕ → List ℕ × List ℕ → Result (Option A) Fault) (text : List A → List ℕ) (values : List A) (n : ℕ) (known first left next before after : Option (List ℕ))
    → IfSome known (λ xs. first ≡ Some xs)
    → Passes has values n first left
    → IsLast left next ⊎ (2 ^ 64 - 1 ≤ n)
    → Appends before after (text values)
    → IfSome known (λ xs. HasNumbers xs → Appends before after (text (good has 1 (whole_lines xs))))
all-good has text values n None first left next before after e h end wrote = tt
all-good has text values n (Some xs) first left next before after e h end wrote = λ few.
    let is = passed_all has values n xs left next (subst (λ o. Passes has values n o left) e h) few end in
    subst (λ vs. Appends before after (text vs)) (sym is) wrote

-- ---- an error that `?` hands on

pub handed-on : {A B : Type 0} (has : ℕ → List ℕ × List ℕ → Result (Option A) Fault) (text : List A → List ℕ) (known before after : Option (List ℕ)) (r : Result B Fault) (e : Fault)
    → IsErrAnd r (λ x. x ≡ e)
    → IfSome known (λ xs. HasNumbers xs → is_outside e ≡ false
    → ((taken has 1 (whole_lines xs)).fault ≡ Some e) × Appends before after (text (taken has 1 (whole_lines xs)).values))
    → IfSome known (λ xs. HasNumbers xs → HasTaken text (taken has 1 (whole_lines xs)) before after r)
handed-on {B = B} has text known before after (Ok b) e h q = absurd h
handed-on {B = B} has text known before after (Err x) e h q =
    subst (λ y. IfSome known (λ xs. HasNumbers xs → HasTaken {B = B} text (taken has 1 (whole_lines xs)) before after (Err y))) (sym h) q

-- ---- datagrams of lines

pub datagram-fault : (n : ℕ) (left next : Option (List ℕ)) (line : List ℕ) (e : Fault)
    → ReadsNext left true line next
    → (is_outside e ≡ true) ⊎ (datagram_in n line ≡ Err e)
    → (is_outside e ≡ true) ⊎ IsNext line_datagram n left next (Err e)
datagram-fault n left next line e read (inl out) = inl out
datagram-fault n left next line e read (inr is) = inr (next-has datagram_in n left next line (Err e) read is)

-- ---- the messages of lines that are shown one by one

-- ---- of one line

-- a row that was printed is that of the line that was read; what is flushed stays
pub shows-next : (form : Values) (n : ℕ) (left next before mid after : Option (List ℕ)) (line : List ℕ) (row : List (List ℕ) × Option (List ℕ))
    → ReadsNext left true line next
    → row_in n line ≡ Ok row
    → ShowsRow form n row before mid
    → Keeps mid after
    → ShowsNext form n true left next before after
shows-next form n left next before mid after line row read is shown kept = (
  shown.0,
  (
    next-has (λ k l. message_of_row k (row_in k l)) n left next line (Ok shown.0) read (ap (message_of_row n) is ∙ shown.1.0),
    Appends-kept before mid after _ shown.1.1 kept,
  ),
)

-- ---- of the lines so far

pub record ShownSo (form : Values) (number : ℕ) (first left before after : Option (List ℕ)) : Type 0 where
  pub rows : List (List (List ℕ) × Message)
  pub reaches : Reaches line_message rows number first left
  pub printed : Appends before after (flat_map (row_lines form) rows)

pub so-first : (form : Values) (first before : Option (List ℕ)) → ShownSo form 1 first first before before
so-first form first before = record { rows = []; reaches = reaches-first line_message first; printed = Appends-nil before }

pub so-next : (form : Values) (n : ℕ) (first left next before mid after : Option (List ℕ))
    → ShownSo form n first left before mid
    → ShowsNext form n true left next mid after
    → ShownSo form (n + 1) first next before after
so-next form n first left next before mid after h s = record {
  rows = h.rows ++ option_to_list s.0;
  reaches = reaches-next line_message h.rows n first left next s.0 h.reaches s.1.0;
  printed = subst (Appends before after) (sym (flat_map-append (row_lines form) h.rows (option_to_list s.0))) (Appends-trans before mid after _ _ h.printed s.1.1);
}

pub so-shown : (form : Values) (n : ℕ) (first left before after : Option (List ℕ)) → ShownSo form n first left before after → AreShown form before after
so-shown form n first left before after h = record { rows = h.rows; printed = h.printed }

pub record PassedSo (form : Values) (number : ℕ) (first left before after : Option (List ℕ)) : Type 0 where
  pub rows : List (List (List ℕ) × Message)
  pub passes : Passes line_message rows number first left
  pub printed : Appends before after (flat_map (row_lines form) rows)

pub passed-first : (form : Values) (first before : Option (List ℕ)) → PassedSo form 1 first first before before
passed-first form first before = record { rows = []; passes = passes-first line_message first; printed = Appends-nil before }

pub passed-next : (form : Values) (n : ℕ) (first left next before mid after : Option (List ℕ))
    → PassedSo form n first left before mid
    → ShowsNext form n true left next mid after
    → PassedSo form (n + 1) first next before after
passed-next form n first left next before mid after h s = record {
  rows = h.rows ++ option_to_list s.0;
  passes = passes-next line_message h.rows n first left next s.0 h.passes s.1.0;
  printed = subst (Appends before after) (sym (flat_map-append (row_lines form) h.rows (option_to_list s.0))) (Appends-trans before mid after _ _ h.printed s.1.1);
}

-- the line has a fault, nothing of it was printed, and what is flushed stays
pub passed-over : (form : Values) (n : ℕ) (first left next before mid same after : Option (List ℕ)) (e : Fault)
    → PassedSo form n first left before mid
    → IsNext line_message n left next (Err e)
    → same ≡ mid
    → Keeps same after
    → PassedSo form (n + 1) first next before after
passed-over form n first left next before mid same after e h k is kept = record {
  rows = h.rows;
  passes = passes-over line_message h.rows n first left next e h.passes k;
  printed = Appends-kept before same after _ (subst (λ o. Appends before o (flat_map (row_lines form) h.rows)) (sym is) h.printed) kept;
}

pub passed-shown : (form : Values) (n : ℕ) (first left before after : Option (List ℕ)) → PassedSo form n first left before after → AreShown form before after
passed-shown form n first left before after h = record { rows = h.rows; printed = h.printed }

-- ---- of one row

pub shows-row : (form : Values) (n : ℕ) (columns kept : List (List ℕ)) (datagram octets : List ℕ) (before after : Option (List ℕ))
    → columns ≡ kept
    → datagram ≡ octets
    → IsShown form columns (read_as (reading datagram)) before after
    → ShowsRow form n (kept, Some octets) before after
shows-row form n columns kept datagram octets before after same is shown =
    subst (λ cs. ShowsRow form n (cs, Some octets) before after) same
    (subst (λ o. ShowsRow form n (columns, Some o) before after) is (
      Some (columns, shown.0),
      (ap (with_columns n columns) shown.1.0, subst (Appends before after) (sym (append-nil (message_lines form columns shown.0))) shown.1.1),
    ))

-- an error that `?` hands on
pub err-on : {A : Type 0} (r : Result A Fault) (e : Fault) (Q : Fault → Type 0) → IsErrAnd r (λ x. x ≡ e) → Q e → IfErr r Q
err-on (Ok a) e Q h q = absurd h
err-on (Err x) e Q h q = subst Q (sym h) q
