-- A script as far as it is played: what is left of its lines comes to what all of them do, after what was written.
use Rattle.ptpm_world.proofs.Common.{arith, ◌≡◌, ℕ, ◌+◌, ◌++◌, List, [], ◌∷◌, Bool, true, false, None, Some, Ok, Err, refl, sym, ap, subst, ◌∙◌, append_assoc, append-nil, cond-false, cond-true, IfSome, IsErrAnd, Option, Result, if◌then◌else◌, option_or, Appends, Keeps, Appends-nil, Appends-trans, TakesFirst, Network, RunningNetwork, AllByRecursion, IsInRange, placed_all, BothKnown, HasNextFault, ReadsWhole, whole_lines, Names, placed, after, event_line, is_of_writing, HasPlayed, Played, behind, ends, event_of, from_file, is_divider, is_outside, is_skipped, line_fault, next_fault, played, played_by, read_as, reading, text_fault, unless_fault}
use Rattle.ptpm_script.specs.declared.event.Event.{Event}
use Rattle.ptpm_world.specs.declared.script_error.ScriptError.{ScriptError}
use Rattle.ptpm_world.specs.declared.whole_script.EventLine.{EventLine}
use Rattle.ptpm_world.proofs.FaultLemmas.{outside, outside-writing}
use Rattle.ptpm_world.proofs.Taking.{kept-appended, takes-after, takes-front}

-- ---- what a reader says, call after call

pub both-on : {P Q R : List ℕ → List ℕ → Type 0} (a b c : Option (List ℕ))
    → ((xs ys zs : List ℕ) → P xs ys → Q ys zs → R xs zs)
    → BothKnown a b P → BothKnown b c Q → BothKnown a c R
both-on None b c on p q = tt
both-on (Some xs) None c on p q = absurd p
both-on (Some xs) (Some ys) None on p q = absurd q
both-on (Some xs) (Some ys) (Some zs) on p q = on xs ys zs p q

pub both-some : {P : List ℕ → List ℕ → Type 0} {Q R : List ℕ → Type 0} (a b : Option (List ℕ))
    → ((xs ys : List ℕ) → P xs ys → Q ys → R xs)
    → BothKnown a b P → IfSome b Q → IfSome a R
both-some None b on p q = tt
both-some (Some xs) None on p q = absurd p
both-some (Some xs) (Some ys) on p q = on xs ys p q

pub both-is : {P Q : List ℕ → List ℕ → Type 0} (a b : Option (List ℕ))
    → ((xs ys : List ℕ) → P xs ys → Q xs ys)
    → BothKnown a b P → BothKnown a b Q
both-is None b on p = tt
both-is (Some xs) None on p = absurd p
both-is (Some xs) (Some ys) on p = on xs ys p

pub some-is : {Q R : List ℕ → Type 0} (a : Option (List ℕ))
    → ((xs : List ℕ) → Q xs → R xs) → IfSome a Q → IfSome a R
some-is None on q = tt
some-is (Some xs) on q = on xs q

pub both-end : {P Q : List ℕ → List ℕ → Type 0} {R : List ℕ → Type 0} (a b c : Option (List ℕ))
    → ((xs ys zs : List ℕ) → P xs ys → Q ys zs → R xs)
    → BothKnown a b P → BothKnown b c Q → IfSome a R
both-end None b c on p q = tt
both-end (Some xs) None c on p q = absurd p
both-end (Some xs) (Some ys) None on p q = absurd q
both-end (Some xs) (Some ys) (Some zs) on p q = on xs ys zs p q

pub left-some : {P : List ℕ → List ℕ → Type 0} {R : List ℕ → Type 0} (a b : Option (List ℕ))
    → ((xs ys : List ℕ) → P xs ys → R xs)
    → BothKnown a b P → IfSome a R
left-some None b on p = tt
left-some (Some xs) None on p = absurd p
left-some (Some xs) (Some ys) on p = on xs ys p

pub both-same : (P : List ℕ → List ℕ → Type 0) (a : Option (List ℕ))
    → ((xs : List ℕ) → P xs xs) → BothKnown a a P
both-same P None on = tt
both-same P (Some xs) on = on xs

-- an error that `?` hands on
pub err-is : {A : Type 0} (r : Result A ScriptError) (e : ScriptError)
    (Q : Result A ScriptError → Type 0)
    → IsErrAnd r (λ x. x ≡ e)
    → Q (Err e)
    → Q r
err-is (Ok a) e Q h q = absurd h
err-is (Err x) e Q h q = subst (λ y. Q (Err y)) (sym h) q

-- ---- the next line

-- the next line of those that are left, and the fault that it has by itself
pub record NextIs (n : ℕ) (fault : Option ScriptError) (line : List ℕ) (had has : Option (List ℕ)) : Type 0 where
  pub is : BothKnown had has (λ xs ys.
      (octets : List ℕ) × ((whole_lines xs ≡ (line, octets) ∷ whole_lines ys) × (line_fault n (line, octets) ≡ fault)))

-- there is none
pub record NoneIs (had has : Option (List ℕ)) : Type 0 where
  pub is : BothKnown had has (λ xs ys. (whole_lines xs ≡ []) × (whole_lines ys ≡ []))

pub next-is : (n k : ℕ) (fault : Option ScriptError) (had has : Option (List ℕ)) (answer : Bool) (line : List ℕ)
    → answer ≡ true
    → ReadsWhole n had answer line has
    → k ≡ n
    → text_fault k line ≡ fault → NextIs n fault line had has
next-is n k fault had has answer line e r counted text = grind (arith, both-is)

pub none-is : (n : ℕ) (had has : Option (List ℕ)) (answer : Bool) (line : List ℕ)
    → answer ≡ false
    → ReadsWhole n had answer line has
    → NoneIs had has
none-is n had has answer line e r = record { is = grind (arith, both-is) }

-- ---- what lines come to that are read one by one, each after its own fault

abbrev pub Guards : {A : Type 0} → (ℕ → List (List ℕ × List ℕ) → Played A) → (ℕ → List ℕ → List (List ℕ × List ℕ) → Played A) → Type 0
Guards {A} comes others = (n : ℕ) (line : List ℕ × List ℕ) (rest : List (List ℕ × List ℕ))
    → comes n (line ∷ rest) ≡ unless_fault (line_fault n line) (others n line.0 rest)

pub guarded : {A : Type 0} (comes : ℕ → List (List ℕ × List ℕ) → Played A) (others : ℕ → List ℕ → List (List ℕ × List ℕ) → Played A)
    (f : Option ScriptError) (n : ℕ) (line : List ℕ) (xs ys : List ℕ)
    → Guards comes others
    → (octets : List ℕ) × ((whole_lines xs ≡ (line, octets) ∷ whole_lines ys) × (line_fault n (line, octets) ≡ f))
    → comes n (whole_lines xs) ≡ unless_fault f (others n line (whole_lines ys))
guarded comes others f n line xs ys guards h =
    ap (comes n) h.1.0 ∙ guards n (line, h.0) (whole_lines ys) ∙ ap (λ x. unless_fault x (others n line (whole_lines ys))) h.1.1

size_ends : {A : Type 0} (comes : ℕ → List (List ℕ × List ℕ) → Played A) (others : ℕ → List ℕ → List (List ℕ × List ℕ) → Played A)
    (n : ℕ) (ls : List (List ℕ × List ℕ)) (e : ScriptError)
    → Guards comes others
    → next_fault n ls ≡ Some e
    → comes n ls ≡ ends (Err e)
size_ends comes others n [] e guards h = grind arith
size_ends comes others n (line ∷ rest) e guards h =
    guards n line rest ∙ ap (λ f. unless_fault (option_or f (text_fault n line.0)) (others n line.0 rest)) h

-- the size of the next line is a fault
pub at-size : {A : Type 0} (comes : ℕ → List (List ℕ × List ℕ) → Played A) (others : ℕ → List ℕ → List (List ℕ × List ℕ) → Played A)
    (n : ℕ) (had : Option (List ℕ)) (e : ScriptError)
    → Guards comes others
    → HasNextFault n had e
    → IfSome had (λ xs. comes n (whole_lines xs) ≡ ends (Err e))
at-size comes others n had e guards h = some-is had (λ xs fault. size_ends comes others n (whole_lines xs) e guards fault) h

-- its text is
pub at-line : {A : Type 0} (comes : ℕ → List (List ℕ × List ℕ) → Played A) (others : ℕ → List ℕ → List (List ℕ × List ℕ) → Played A)
    (n : ℕ) (line : List ℕ) (had has : Option (List ℕ)) (e : ScriptError)
    → Guards comes others
    → NextIs n (Some e) line had has
    → IfSome had (λ xs. comes n (whole_lines xs) ≡ ends (Err e))
at-line comes others n line had has e guards h = grind (arith, left-some, guarded)

-- ---- lines of events

abbrev pub others_played : Network → Names → RunningNetwork → ℕ → ℕ → List ℕ → List (List ℕ × List ℕ) → Played RunningNetwork
others_played N names r place n line rest =
    played_by (event_of place line) N names r place (λ next. played N names next (n + 1) (place + 1) rest)

abbrev pub playing : Network → Names → RunningNetwork → ℕ → ℕ → List (List ℕ × List ℕ) → Played RunningNetwork
playing N names r place n ls = played N names r n place ls

pub play-guards : (N : Network) (names : Names) (r : RunningNetwork) (place : ℕ)
    → Guards (playing N names r place) (others_played N names r place)
play-guards N names r place = λ n line rest. refl

pub event-skip : (place : ℕ) (line : List ℕ) → is_skipped line ≡ true → event_of place line ≡ Ok None
event-skip place line s = cond-true _ _ _ s

pub event-read : (place : ℕ) (line : List ℕ) (x : Result (Option Event) ScriptError)
    → is_skipped line ≡ false
    → read_as place (reading line) ≡ x
    → event_of place line ≡ x
event-read place line x s r = cond-false _ _ _ s ∙ r

-- events that a program can hand in
abbrev pub AreInRange : Names → List EventLine → Type 0
AreInRange names events = AllByRecursion IsInRange (placed_all names events)

in_range-append : (names : Names) (es fs : List EventLine)
    → AreInRange names es
    → AreInRange names fs
    → AreInRange names (es ++ fs)
in_range-append names [] fs front rest = rest
in_range-append names (e ∷ es) fs front rest = (front.0, in_range-append names es fs front.1 rest)

-- all lines from the k-th on come to what is left of them from the n-th on, after these events, whose lines were written
pub record Plays (N : Network) (names : Names) (start now : RunningNetwork)
    (first written : Option (List ℕ)) (k n place : ℕ) (xs ys : List ℕ) : Type 0 where
  pub events : List EventLine
  pub text : List ℕ
  pub comes : played N names start k 1 (whole_lines xs) ≡ behind events text (played N names now n place (whole_lines ys))
  pub range : AreInRange names events
  pub is : Appends first written text

pub record PlaysOn (N : Network) (names : Names) (start now : RunningNetwork)
    (first written : Option (List ℕ)) (k n place : ℕ) (a b : Option (List ℕ)) : Type 0 where
  pub each : BothKnown a b (Plays N names start now first written k n place)

pub plays-first : (N : Network) (names : Names) (start : RunningNetwork) (first : Option (List ℕ))
    (k : ℕ) (a : Option (List ℕ))
    → PlaysOn N names start start first first k k 1 a a
plays-first N names start first k a = record {
  each = both-same (Plays N names start start first first k k 1) a
      (λ xs. record { events = []; text = []; comes = refl; range = tt; is = Appends-nil first });
}

pub plays-kept : {N : Network} {names : Names} {start now : RunningNetwork}
    {first written : Option (List ℕ)} (more : Option (List ℕ)) {a b : Option (List ℕ)} {k n place : ℕ}
    → PlaysOn N names start now first written k n place a b
    → Keeps written more
    → PlaysOn N names start now first more k n place a b
plays-kept {first = first} {written = written} more {a} {b} h kept = grind (arith, both-is, kept-appended)

-- a line more, of these events, for which this was written
pub plays-more : {N : Network} {names : Names} {start now next : RunningNetwork}
    {first written more : Option (List ℕ)} {a b c : Option (List ℕ)} {k n m place : ℕ} {line : List ℕ}
    (added : List EventLine) (one : List ℕ)
    (x : Result (Option Event) ScriptError)
    → PlaysOn N names start now first written k n place a b
    → NextIs n None line b c
    → event_of place line ≡ x
    → ((others : RunningNetwork → Played RunningNetwork)
    → played_by x N names now place others ≡ behind added one (others next))
    → AreInRange names added
    → Appends written more one → m ≡ n + 1
    → PlaysOn N names start next first more k m (place + 1) a c
plays-more {N} {names} {start} {now} {next} {first} {written} {more} {a} {b} {c} {k} {n} {m} {place} {line} added one x h is read goes range wrote e = record { each = both-on a b c more_of h.each is.is }
  where
    rest : List ℕ → RunningNetwork → Played RunningNetwork
    rest zs r = played N names r (n + 1) (place + 1) (whole_lines zs)

    step : (ys zs : List ℕ)
        → (octets : List ℕ) × ((whole_lines ys ≡ (line, octets) ∷ whole_lines zs) × (line_fault n (line, octets) ≡ None))
        → played N names now n place (whole_lines ys) ≡ behind added one (rest zs next)
    step ys zs at =
        guarded (playing N names now place) (others_played N names now place) None n line ys zs (play-guards N names now place) at
        ∙ ap (λ y. played_by y N names now place (rest zs)) read ∙ goes (rest zs)

    more_of : (xs ys zs : List ℕ)
        → Plays N names start now first written k n place xs ys
        → (octets : List ℕ) × ((whole_lines ys ≡ (line, octets) ∷ whole_lines zs) × (line_fault n (line, octets) ≡ None))
        → Plays N names start next first more k m (place + 1) xs zs
    more_of xs ys zs p at = record {
      events = p.events ++ added;
      text = p.text ++ one;
      comes = p.comes ∙ ap (behind p.events p.text) (step ys zs at)
          ∙ (λ i. record { events = (sym (append_assoc p.events added (rest zs next).events)) i; text = (sym (append_assoc p.text one (rest zs next).text)) i; end = (rest zs next).end })
          ∙ ap (λ j. behind (p.events ++ added) (p.text ++ one) (played N names next j (place + 1) (whole_lines zs))) (sym e);
      range = in_range-append names p.events added p.range range;
      is = Appends-trans first written more p.text one p.is wrote;
    }

-- no line more
pub plays-end : {N : Network} {names : Names} {start now : RunningNetwork}
    {first written : Option (List ℕ)} {a b c : Option (List ℕ)} {k n place : ℕ}
    → PlaysOn N names start now first written k n place a b
    → NoneIs b c
    → IfSome a
    (λ xs.
    ((played N names start k 1 (whole_lines xs)).end ≡ Ok now)
    × (Appends first written (played N names start k 1 (whole_lines xs)).text
    × AreInRange names (played N names start k 1 (whole_lines xs)).events))
plays-end {N} {names} {start} {now} {first} {written} {a} {b} {c} {k} {n} {place} h none = grind (arith, both-end, append-nil)

-- an error, which the lines that are left come to
pub plays-err : {A : Type 0} (r : Result A ScriptError) (e : ScriptError) (last : RunningNetwork)
    {N : Network} {names : Names} {start now : RunningNetwork}
    {first written : Option (List ℕ)} {a b : Option (List ℕ)} {k n place : ℕ}
    → IsErrAnd r (λ x. x ≡ e)
    → PlaysOn N names start now first written k n place a b
    → (is_outside e ≡ false → IfSome b (λ ys. played N names now n place (whole_lines ys) ≡ ends (Err e)))
    → IfSome a (λ xs. HasPlayed names (played N names start k 1 (whole_lines xs)) last first written r)
plays-err {A} r e last {N} {names} {start} {now} {first} {written} {a} {b} {k} {n} {place} given h fault =
    err-is r e (λ r. IfSome a (λ xs. HasPlayed names (played N names start k 1 (whole_lines xs)) last first written r)) given
    (stopped a b h.each fault)
  where
    stopped : (a b : Option (List ℕ))
        → BothKnown a b (Plays N names start now first written k n place)
        → (is_outside e ≡ false → IfSome b (λ ys. played N names now n place (whole_lines ys) ≡ ends (Err e)))
        → IfSome a (λ xs. HasPlayed {A = A} names (played N names start k 1 (whole_lines xs)) last first written (Err e))
    stopped None b p f = tt
    stopped (Some xs) None p f = absurd p
    stopped (Some xs) (Some ys) p f = (
      record {
        text = p.text;
        rest = (played N names now n place (whole_lines ys)).text;
        is = sym (ap (λ x. x.text) p.comes);
        taken = p.is;
      },
      λ inside. (
        ap (λ x. x.end) p.comes ∙ ap (λ x. x.end) (f inside),
        subst (Appends first written) (sym (ap (λ x. x.text) p.comes ∙ ap (λ x. p.text ++ x.text) (f inside) ∙ append-nil p.text)) p.is,
      ),
    )

-- the next line is an event's, and of the line that this prints a beginning was taken
pub plays-cut : {A : Type 0} (r : Result A ScriptError) (e : ScriptError) (last : RunningNetwork)
    {N : Network} {names : Names} {start now : RunningNetwork}
    {first written : Option (List ℕ)} (more : Option (List ℕ)) {a b c : Option (List ℕ)} {k n place : ℕ} {line : List ℕ}
    (event : Event)
    → IsErrAnd r (λ x. x ≡ e)
    → PlaysOn N names start now first written k n place a b
    → NextIs n None line b c
    → event_of place line ≡ Ok (Some event)
    → is_of_writing e ≡ true
    → TakesFirst (event_line N names now place event) written more
    → IfSome a (λ xs. HasPlayed names (played N names start k 1 (whole_lines xs)) last first more r)
plays-cut {A} r e last {N} {names} {start} {now} {first} {written} more {a} {b} {c} {k} {n} {place} {line} event given h is read writing cut =
    err-is r e (λ r. IfSome a (λ xs. HasPlayed names (played N names start k 1 (whole_lines xs)) last first more r)) given
    (both-end a b c stopped h.each is.is)
  where
    one : List ℕ
    one = event_line N names now place event

    next : RunningNetwork
    next = after N now (placed names event)

    step : (ys zs : List ℕ)
        → (octets : List ℕ) × ((whole_lines ys ≡ (line, octets) ∷ whole_lines zs) × (line_fault n (line, octets) ≡ None))
        → played N names now n place (whole_lines ys)
        ≡ behind (record { number = place; event = event } ∷ []) one (played N names next (n + 1) (place + 1) (whole_lines zs))
    step ys zs at =
        guarded (playing N names now place) (others_played N names now place) None n line ys zs (play-guards N names now place) at
        ∙ ap (λ y. played_by y N names now place (λ r. played N names r (n + 1) (place + 1) (whole_lines zs))) read

    stopped : (xs ys zs : List ℕ)
        → Plays N names start now first written k n place xs ys
        → (octets : List ℕ) × ((whole_lines ys ≡ (line, octets) ∷ whole_lines zs) × (line_fault n (line, octets) ≡ None))
        → HasPlayed {A = A} names (played N names start k 1 (whole_lines xs)) last first more (Err e)
    stopped xs ys zs p at =
        let rest = (played N names next (n + 1) (place + 1) (whole_lines zs)).text in
        let whole : (played N names start k 1 (whole_lines xs)).text ≡ p.text ++ (one ++ rest) =
        ap (λ x. x.text) p.comes ∙ ap (λ x. p.text ++ x.text) (step ys zs at) in (
          subst (λ l. TakesFirst l first more) (sym whole)
              (takes-after first p.text p.is (takes-front rest cut)),
          λ inside. outside e (outside-writing e writing) inside,
        )

-- it is no event
pub at-event : (N : Network) (names : Names) (now : RunningNetwork) {n : ℕ} (place : ℕ) {line : List ℕ}
    {b c : Option (List ℕ)} (e : ScriptError)
    → NextIs n None line b c
    → event_of place line ≡ Err e
    → IfSome b (λ ys. played N names now n place (whole_lines ys) ≡ ends (Err e))
at-event N names now {n} place {line} {b} {c} e is bad = grind (arith, left-some, guarded, play-guards)

-- ---- lines of a network file

abbrev pub others_of_file : (ℕ → List (List ℕ × List ℕ) → Played (List ℕ)) → ℕ → List ℕ → List (List ℕ × List ℕ) → Played (List ℕ)
others_of_file others n line rest = if is_divider line then others (n + 1) rest else from_file others (n + 1) rest

pub file-guards : (others : ℕ → List (List ℕ × List ℕ) → Played (List ℕ))
    → Guards (from_file others) (others_of_file others)
file-guards others = λ n line rest. refl

-- all lines come to what those come to that are left
abbrev pub FileGoes : Option (List ℕ) → ℕ → Option (List ℕ) → ℕ → Type 0
FileGoes first n now m = BothKnown first now (λ xs ys.
    (others : ℕ → List (List ℕ × List ℕ) → Played (List ℕ)) → from_file others n (whole_lines xs) ≡ from_file others m (whole_lines ys))

-- and to what others after them do
abbrev pub FileEnds : Option (List ℕ) → ℕ → Option (List ℕ) → ℕ → Type 0
FileEnds first n now m = BothKnown first now (λ xs ys.
    (others : ℕ → List (List ℕ × List ℕ) → Played (List ℕ)) → from_file others n (whole_lines xs) ≡ others m (whole_lines ys))

abbrev pub FileFault : Option (List ℕ) → ℕ → ScriptError → Type 0
FileFault first n e = IfSome first (λ xs.
    (others : ℕ → List (List ℕ × List ℕ) → Played (List ℕ)) → from_file others n (whole_lines xs) ≡ ends (Err e))

pub file-first : (n : ℕ) (a : Option (List ℕ)) → FileGoes a n a n
file-first n a = grind (arith, both-same)

-- after the next line
file_line : (n m : ℕ) (line : List ℕ) (a b c : Option (List ℕ))
    → FileGoes a n b m
    → NextIs m None line b c
    → BothKnown a c (λ xs zs.
    (others : ℕ → List (List ℕ × List ℕ) → Played (List ℕ)) → from_file others n (whole_lines xs) ≡ others_of_file others m line (whole_lines zs))
file_line n m line a b c h is = grind (arith, both-on, guarded, file-guards)

pub file-more : (n m k : ℕ) (line : List ℕ) (a b c : Option (List ℕ)) → FileGoes a n b m
    → NextIs m None line b c → is_divider line ≡ false → k ≡ m + 1 → FileGoes a n c k
file-more n m k line a b c h is d e = grind (arith, both-is, cond-false, file_line)

pub file-divider : (n m k : ℕ) (line : List ℕ) (a b c : Option (List ℕ)) → FileGoes a n b m
    → NextIs m None line b c → is_divider line ≡ true → k ≡ m + 1 → FileEnds a n c k
file-divider n m k line a b c h is d e = grind (arith, both-is, cond-true, file_line)

pub file-end : (n m k : ℕ) (a b c : Option (List ℕ))
    → FileGoes a n b m
    → NoneIs b c
    → k ≡ m → FileEnds a n c k
file-end n m k a b c h none e = grind (arith, both-on)

pub file-size : (n m : ℕ) (e : ScriptError) (a b : Option (List ℕ))
    → FileGoes a n b m
    → HasNextFault m b e
    → FileFault a n e
file-size n m e a b h r = grind (arith, both-some, size_ends, file-guards)

pub file-text : (n m : ℕ) (line : List ℕ) (e : ScriptError) (a b c : Option (List ℕ))
    → FileGoes a n b m
    → NextIs m (Some e) line b c
    → FileFault a n e
file-text n m line e a b c h is = grind (arith, both-end, guarded, file-guards)
