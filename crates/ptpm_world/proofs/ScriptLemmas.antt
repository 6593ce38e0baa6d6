-- A whole script: its network file is read, its events are played, and the rest of its trace is written.
use Rattle.ptpm_world.proofs.Common.{◌≡◌, ℕ, ◌+◌, ◌<◌, ◌≤◌, ◌++◌, ◌⊎◌, inl, inr, true, false, List, [], ◌∷◌, length, None, Some, Ok, Err, Result, refl, sym, ap, subst, ◌∙◌, append_assoc, length-append, append-nil, arith, Option, IfSome, cases_lt, cond-false, cond-true, lt-ltb, Appends-nil, Appends-trans, Appends, IsErrAnd, Keeps, TakesFirst, OnOk, AreInTime, Network, initial_state, StandsAfter, placed_all, RunningNetwork, network_of, NetworkValue, described, BothKnown, Names, names_of, HasPrinted, HasStopped, Played, Prints, StandsFor, closed, closing, ends, from_file, in_network, is_divider, is_of_writing, is_outside, last_lines, network_text, played, scripted, scripted_from, started, trace_of, whole_lines, data_lines, line_feed, report_lines, option_map, option_or, result_err, event_of, is_skipped, line_fault, played_by, reading, unless_fault}
use Rattle.ptpm_script.specs.declared.net_error.NetError.{NetError}
use Rattle.ptpm_world.specs.declared.script_error.ScriptError.{ScriptError}
use Rattle.ptpm_world.specs.MachineTrace.{IsMachineTrace, ShowsNetwork}
use Rattle.ptpm_world.proofs.FaultLemmas.{outside, outside-writing}
use Rattle.ptpm_world.proofs.Playing.{AreInRange, FileEnds, NextIs, NoneIs, both-is, both-on, both-some, err-is, left-some, some-is, event-read}
use Rattle.ptpm_world.proofs.Taking.{kept-appended, takes-after, takes-front, takes-none}
use Rattle.ptpm_world.proofs.Telling.{machine-trace}
use Rattle.ptpm_script.specs.declared.event.Event.{Event}
use Rattle.ptpm_script.specs.declared.event.EventError.{EventError}
use Rattle.ptpm_world.specs.Findings.{events_fault}
use Rattle.ptpm_world.specs.declared.script_error.ScriptError.TheVariants.{BadLine, BadNetwork}
use Rattle.ptpm_script.specs.declared.net_error.NetError.TheVariants as refusals

-- ---- the network file

too_long : (text : List ℕ) → 262144 < length text → network_of text ≡ Err refusals.TooLong
unfolding network_of
too_long text h = cond-true _ _ _ (lt-ltb 262144 (length text) h)

-- more than a network file may have is kept, or all so far
abbrev pub KeptOf : List ℕ → List (List ℕ × List ℕ) → List (List ℕ × List ℕ) → Type 0
KeptOf kept all left =
    ((262144 < length kept) × (262144 < length (network_text all))) ⊎ (kept ++ network_text left ≡ network_text all)

abbrev pub Kept : Option (List ℕ) → Option (List ℕ) → List ℕ → Type 0
Kept first now kept = BothKnown first now (λ before after. KeptOf kept (whole_lines before) (whole_lines after))

pub kept-first : (a : Option (List ℕ)) (kept : List ℕ) → kept ≡ [] → Kept a a kept
kept-first None kept e = tt
kept-first (Some xs) kept e = inr (ap (λ k. k ++ network_text (whole_lines xs)) e)

-- a line before the divider
file_more : (line : List ℕ × List ℕ) (ls : List (List ℕ × List ℕ))
    → is_divider line.0 ≡ false
    → network_text (line ∷ ls) ≡ line.0 ++ (line_feed ++ network_text ls)
file_more line ls e = cond-false _ _ _ e ∙ append_assoc line.0 line_feed (network_text ls)

pub kept-on : (a b c : Option (List ℕ)) (n : ℕ) (kept line next : List ℕ)
    → Kept a b kept
    → NextIs n None line b c
    → is_divider line ≡ false
    → (262144 < length kept → next ≡ kept)
    → (length kept ≤ 262144 → next ≡ (kept ++ line) ++ line_feed)
    → Kept a c next
kept-on a b c n kept line next h is d long short = grind (arith, both-on, cases_lt, length-append, append_assoc, file_more)

stands_for : (kept none whole : List ℕ)
    → none ≡ []
    → ((262144 < length kept) × (262144 < length whole)) ⊎ (kept ++ none ≡ whole)
    → StandsFor kept whole
stands_for kept none whole e (inl both) = inr both
stands_for kept none whole e (inr same) = inl (sym (ap (λ m. kept ++ m) e ∙ append-nil kept) ∙ same)

-- what is kept of a network file that was read, and what is left
abbrev pub FileRead : Option (List ℕ) → ℕ → Option (List ℕ) → ℕ → List ℕ → Type 0
FileRead first n now m kept = BothKnown first now (λ xs ys.
    StandsFor kept (network_text (whole_lines xs))
    × ((others : ℕ → List (List ℕ × List ℕ) → Played (List ℕ)) → from_file others n (whole_lines xs) ≡ others m (whole_lines ys)))

both-facts : (P Q : List ℕ → List ℕ → Type 0) (a b : Option (List ℕ))
    → BothKnown a b P
    → BothKnown a b Q
    → BothKnown a b (λ xs ys. P xs ys × Q xs ys)
both-facts P Q None b p q = tt
both-facts P Q (Some xs) None p q = absurd p
both-facts P Q (Some xs) (Some ys) p q = (p, q)

pub read-divider : (a b c : Option (List ℕ)) (n m k : ℕ) (kept line : List ℕ)
    → Kept a b kept
    → NextIs m None line b c
    → is_divider line ≡ true
    → FileEnds a n c k
    → FileRead a n c k kept
read-divider a b c n m k kept line h is d goes = grind (arith, both-facts, both-on, stands_for, cond-true)

pub read-whole : (a b c : Option (List ℕ)) (n k : ℕ) (kept : List ℕ)
    → Kept a b kept
    → NoneIs b c
    → FileEnds a n c k
    → FileRead a n c k kept
read-whole a b c n k kept h none goes = grind (arith, both-facts, both-on, stands_for)

-- all is kept of a text that is a network
pub whole-kept : (kept whole : List ℕ) (n : NetworkValue)
    → StandsFor kept whole
    → network_of kept ≡ Ok n
    → kept ≡ whole
whole-kept kept whole n (inl same) of = same
whole-kept kept whole n (inr both) of = absurd (let long = too_long kept both.0 in cc)

-- ---- the network

pub file-network : (a b : Option (List ℕ)) (n k : ℕ) (kept : List ℕ) (network : Result NetworkValue NetError)
    → FileRead a n b k kept
    → network_of kept ≡ network
    → BothKnown a b
    (λ xs ys.
    (scripted_from n xs ≡ in_network network k (whole_lines ys))
    × (network_of (network_text (whole_lines xs)) ≡ network))
file-network a b n k kept network h e = grind (arith, both-is, too_long)

pub file-bad : (a b : Option (List ℕ)) (n k : ℕ) (kept : List ℕ) (e : ScriptError)
    → FileRead a n b k kept
    → ((lines : List (List ℕ × List ℕ)) → in_network (network_of kept) k lines ≡ ends (Err e))
    → IfSome a (λ xs. scripted_from n xs ≡ ends (Err e))
file-bad a b n k kept e h bad =
    left-some a b (λ xs ys is. is.0 ∙ bad (whole_lines ys)) (file-network a b n k kept (network_of kept) h refl)

-- ---- the whole

none_some : (xs : List ℕ) → ◌≡◌ {A = Option (List ℕ)} None (Some xs) → ⊥
none_some xs h = cc

some_same : (xs ys : List ℕ) → ◌≡◌ {A = Option (List ℕ)} (Some xs) (Some ys) → xs ≡ ys
some_same xs ys h = cc

-- it ended before any line was written
pub stopped-first : {A : Type 0} (r : Result A ScriptError) (e : ScriptError)
    (all before : Option (List ℕ))
    → IsErrAnd r (λ x. x ≡ e)
    → (is_outside e ≡ false → IfSome all (λ input. scripted input ≡ ends (Err e)))
    → IfSome all (λ input. HasPrinted input before before r)
stopped-first r e None before given fault = tt
stopped-first r e (Some input) before given fault =
    err-is r e (HasPrinted input before before) given (
      takes-none before (trace_of input),
      λ inside. (ap (λ p. p.end) (fault inside), subst (Appends before before) (sym (ap (λ p. p.text) (fault inside))) (Appends-nil before)),
    )

-- a fault of the network file
pub stopped-file : {A : Type 0} (r : Result A ScriptError) (e : ScriptError)
    (all first before : Option (List ℕ)) (n : ℕ)
    → IsErrAnd r (λ x. x ≡ e)
    → n ≡ 0
    → IfSome all (λ octets. first ≡ Some octets)
    → (is_outside e ≡ false → IfSome first (λ xs. scripted_from (n + 1) xs ≡ ends (Err e)))
    → IfSome all (λ input. HasPrinted input before before r)
stopped-file r e all first before n given z same fault = grind (arith, stopped-first, some-is, none_some, some_same)

-- a script comes to what the lines after its network file do, in the network of that file
abbrev pub ScriptGoes : Option (List ℕ) → Option (List ℕ) → NetworkValue → Names → RunningNetwork → ℕ → Type 0
ScriptGoes all second n names start k = BothKnown all second (λ input ys.
    (scripted input ≡ closed names (played (described n) names start k 1 (whole_lines ys)))
    × (network_of (network_text (whole_lines input)) ≡ Ok n))

pub script-goes : (all first second : Option (List ℕ)) (n : NetworkValue) (names : Names)
    (start : RunningNetwork) (m k : ℕ)
    → m ≡ 0
    → IfSome all (λ octets. first ≡ Some octets)
    → BothKnown first second
    (λ xs ys.
    (scripted_from (m + 1) xs ≡ in_network (Ok n) k (whole_lines ys))
    × (network_of (network_text (whole_lines xs)) ≡ Ok n))
    → names ≡ names_of n → start ≡ started n → ScriptGoes all second n names start k
script-goes all first second n names start m k z same h nm st = grind (arith, both-is, none_some, some_same)

pub script-stopped : {A : Type 0} (r : Result A ScriptError) (e : ScriptError)
    (all second before after : Option (List ℕ)) (n : NetworkValue) (names : Names)
    (start : RunningNetwork) (k : ℕ)
    → IsErrAnd r (λ x. x ≡ e)
    → ScriptGoes all second n names start k
    → IfSome second
    (λ ys.
    HasStopped (played (described n) names start k 1 (whole_lines ys)) (played (described n) names start k 1 (whole_lines ys)).text before after e)
    → IfSome all (λ input. HasPrinted input before after r)
script-stopped r e all second before after n names start k given goes h =
    err-is r e (λ r. IfSome all (λ input. HasPrinted input before after r)) given
    (both-some all second
    (λ input ys is stopped.
    let p = played (described n) names start k 1 (whole_lines ys) in
    subst (λ s. HasStopped s (s.text ++ last_lines s.end) before after e) (sym is.0) (
      takes-front (last_lines (closing names p.end)) stopped.0,
      λ inside. (ap (closing names) (stopped.1 inside).0, (stopped.1 inside).1),
    ))
    goes h)

-- the lines of all events lead to this last network, and what they print was written
abbrev pub ArePlayed : NetworkValue → Names → RunningNetwork → RunningNetwork → ℕ → Option (List ℕ)
    → Option (List ℕ)
    → List ℕ
    → Type 0
ArePlayed n names start last k o0 o1 ys =
    ((played (described n) names start k 1 (whole_lines ys)).end ≡ Ok last)
    × (Appends o0 o1 (played (described n) names start k 1 (whole_lines ys)).text
    × AreInRange names (played (described n) names start k 1 (whole_lines ys)).events)

-- all events were played, and of what follows their lines a beginning was taken
pub script-cut : {A : Type 0} (r : Result A ScriptError) (e : ScriptError)
    (all second o0 o1 o2 : Option (List ℕ)) (n : NetworkValue) (names : Names)
    (start last : RunningNetwork) (k : ℕ)
    → IsErrAnd r (λ x. x ≡ e)
    → is_of_writing e ≡ true
    → ScriptGoes all second n names start k
    → IfSome second (ArePlayed n names start last k o0 o1)
    → TakesFirst (report_lines names last ++ data_lines names last) o1 o2
    → IfSome all (λ input. HasPrinted input o0 o2 r)
script-cut r e all second o0 o1 o2 n names start last k given writing goes h cut =
    let rest = report_lines names last ++ data_lines names last in
    err-is r e (λ r. IfSome all (λ input. HasPrinted input o0 o2 r)) given
    (both-some all second
    (λ input ys is done.
    let p = played (described n) names start k 1 (whole_lines ys) in
    subst (λ s. HasStopped s (s.text ++ last_lines s.end) o0 o2 e) (sym is.0) (
      subst (λ end. TakesFirst (p.text ++ last_lines (closing names end)) o0 o2) (sym done.0) (takes-after o0 p.text done.1.0 cut),
      λ inside. outside e (outside-writing e writing) inside,
    ))
    goes h)

pub script-prints : (all second o0 o1 o2 o3 o4 : Option (List ℕ)) (n : NetworkValue) (names : Names)
    (start last : RunningNetwork) (k : ℕ)
    → ScriptGoes all second n names start k
    → IfSome second (ArePlayed n names start last k o0 o1)
    → Appends o1 o2 (report_lines names last) → Appends o2 o3 (data_lines names last) → Keeps o3 o4
    → IfSome all (λ input. (text : List ℕ) × (Prints input text × Appends o0 o4 text))
script-prints all second o0 o1 o2 o3 o4 n names start last k goes h reports sets kept =
    let rest = report_lines names last ++ data_lines names last in
    let after = kept-appended o1 o3 o4 rest (Appends-trans o1 o2 o3 _ _ reports sets) kept in
    both-some all second
    (λ input ys is p.
    let events = (played (described n) names start k 1 (whole_lines ys)).text in (
      events ++ rest,
      (
        (rest, (ap (λ x. x.end) is.0 ∙ ap (closing names) p.0, ap (λ x. x.text ++ rest) (sym is.0))),
        Appends-trans o0 o1 o4 events rest p.1.0 after,
      ),
    ))
    goes h

-- ---- the network that it shows

-- a call that ends early promises nothing of it
pub none-shown : {A : Type 0} (r : Result A ScriptError) (e : ScriptError) (all : Option (List ℕ))
    → IsErrAnd r (λ x. x ≡ e)
    → IfSome all (λ input. OnOk r (ShowsNetwork input))
none-shown r e None given = tt
none-shown (Ok done) e (Some input) given = absurd given
none-shown (Err x) e (Some input) given = tt

shows : (input : List ℕ) (ls : List (List ℕ × List ℕ)) (n : NetworkValue) (names : Names)
    (start last : RunningNetwork) (k : ℕ)
    → names ≡ names_of n
    → network_of (network_text (whole_lines input)) ≡ Ok n
    → scripted input ≡ closed names (played (described n) names start k 1 ls)
    → StandsAfter (described n) [] start
    → (played (described n) names start k 1 ls).end ≡ Ok last
    → AreInRange names (played (described n) names start k 1 ls).events
    → ShowsNetwork input
shows input ls n names start last k called file is at end range =
    let N : Network = described n in
    record {
      network = n;
      file = file;
      last = last;
      shown = grind (arith);
      machine = subst (λ (m : Names). AreInTime N (initial_state N) (placed_all m (scripted input).events) → IsMachineTrace N m (scripted input).events (scripted input).text last) called
          (subst (λ (q : Played (List ℕ)). AreInTime N (initial_state N) (placed_all names q.events) → IsMachineTrace N names q.events q.text last) (sym is)
          (λ time. machine-trace N names k 1 ls start last end range at time));
    }

pub script-shows : (all second o0 o1 : Option (List ℕ)) (n : NetworkValue) (names : Names)
    (start last : RunningNetwork) (k : ℕ)
    → names ≡ names_of n
    → StandsAfter (described n) [] start
    → ScriptGoes all second n names start k
    → IfSome second (ArePlayed n names start last k o0 o1)
    → IfSome all ShowsNetwork
script-shows all second o0 o1 n names start last k called at goes h =
    both-some all second (λ input ys is p. shows input (whole_lines ys) n names start last k called is.1 is.0 at p.0 p.1.1) goes h

-- ---- a script whose events do not happen: its first fault is the one that ends it if they do

-- ---- the first of two

or_assoc : {A : Type 0} (a b c : Option A) → option_or (option_or a b) c ≡ option_or a (option_or b c)
or_assoc None b c = refl
or_assoc (Some x) b c = refl

-- ---- faults of lines as they are played

unless_fault_first : {A : Type 0} (f : Option ScriptError) (p : Played A)
    → result_err (unless_fault f p).end ≡ option_or f (result_err p.end)
unless_fault_first None p = refl
unless_fault_first (Some fault) p = refl

played_by_first : (x : Result (Option Event) ScriptError) (N : Network) (names : Names) (r : RunningNetwork) (place : ℕ)
    (others : RunningNetwork → Played RunningNetwork) (rest : Option ScriptError)
    → ((next : RunningNetwork) → result_err (others next).end ≡ rest)
    → result_err (played_by x N names r place others).end ≡ option_or (result_err x) rest
played_by_first (Ok None) N names r place others rest h = h _
played_by_first (Ok (Some event)) N names r place others rest h = h _
played_by_first (Err fault) N names r place others rest h = refl

-- what the events do makes no fault
played_first : (N : Network) (names : Names) (r : RunningNetwork) (n place : ℕ) (ls : List (List ℕ × List ℕ))
    → result_err (played N names r n place ls).end ≡ events_fault n place ls
played_first N names r n place [] = refl
played_first N names r n place (line ∷ rest) =
    unless_fault_first (line_fault n line) _
    ∙ ap (option_or (line_fault n line))
    (played_by_first (event_of place line.0) N names r place (λ next. played N names next (n + 1) (place + 1) rest) (events_fault (n + 1) (place + 1) rest)
    (λ next. played_first N names next (n + 1) (place + 1) rest))

closing_first : (names : Names) (x : Result RunningNetwork ScriptError) → result_err (closing names x) ≡ result_err x
closing_first names (Ok r) = refl
closing_first names (Err fault) = refl

-- the network file's fault, or that of the lines after it
network_first : (network : Result NetworkValue NetError) (n : ℕ) (ls : List (List ℕ × List ℕ))
    → option_or (option_map BadNetwork (result_err network)) (events_fault n 1 ls) ≡ result_err (in_network network n ls).end
network_first (Ok network) n ls = grind (arith, closing_first, played_first)
network_first (Err error) n ls = refl

-- ---- lines of events

-- those that are left have the fault that all of them have, after what was found
pub record ChecksOn (first found : Option ScriptError) (k n place : ℕ) (a b : Option (List ℕ)) : Type 0 where
  pub each : BothKnown a b (λ xs ys.
      option_or found (events_fault n place (whole_lines ys)) ≡ option_or first (events_fault k 1 (whole_lines xs)))

pub checks-more : {first was found : Option ScriptError} {k n m place : ℕ} {f : Option ScriptError} {line : List ℕ}
    {a b c : Option (List ℕ)}
    → ChecksOn first was k n place a b
    → NextIs n f line b c
    → found ≡ option_or was (option_or f (result_err (event_of place line)))
    → m ≡ n + 1
    → ChecksOn first found k m (place + 1) a c
checks-more {first} {was} {found} {k} {n} {m} {place} {f} {line} {a} {b} {c} h is e next = grind (arith, both-on, or_assoc)

-- ---- the next line

-- it is no event
pub bad-event : (place : ℕ) (line : List ℕ) (e : EventError)
    → is_skipped line ≡ false
    → Some e ≡ result_err (reading line)
    → result_err (event_of place line) ≡ Some (BadLine place e)
bad-event place line e take h = grind (arith, event-read)

-- ---- the whole

pub script-first : (a b : Option (List ℕ)) (n m : ℕ) (kept : List ℕ) (first found : Option ScriptError)
    → FileRead a n b m kept
    → first ≡ option_map BadNetwork (result_err (network_of kept))
    → IfSome b (λ ys. found ≡ option_or first (events_fault m 1 (whole_lines ys)))
    → IfSome a (λ xs. found ≡ result_err (scripted_from n xs).end)
script-first a b n m kept first found h e end =
    both-some a b
    (λ xs ys is p. grind (arith, network_first))
    (file-network a b n m kept (network_of kept) h refl) end
