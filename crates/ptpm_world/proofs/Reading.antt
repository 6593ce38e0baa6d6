-- A script that is read whole: its network file, and the events after it.
use Rattle.ptpm_world.proofs.Common.{◌≡◌, ℕ, ◌+◌, ◌++◌, List, [], false, None, Some, Ok, Err, Result, refl, sym, ap, subst, ◌∙◌, append_assoc, append-nil, IfSome, IsErrAnd, Option, result_err, string_bytes, Network, RunningNetwork, NetworkValue, network_of, network_value, described, BothKnown, whole_lines, Names, names_of, Played, behind, closing, ends, event_of, is_outside, network_text, played, played_by, scripted, scripted_from, started}
use Rattle.ptpm_script.specs.declared.event.Event.{Event}
use Rattle.ptpm_world.specs.declared.script_error.ScriptError.{ScriptError}
use Rattle.ptpm_world.specs.declared.whole_script.EventLine.{EventLine}
use Rattle.ptpm_world.specs.declared.whole_script.Script.{Script}
use Rattle.ptpm_world.specs.WholeScript.{AreEvents, EndsWith, IsRead, IsScript}
use Rattle.ptpm_world.proofs.Playing.{NextIs, NoneIs, both-end, both-on, both-same, both-some, err-is, guarded, others_played, play-guards, playing}
use Rattle.ptpm_world.proofs.ScriptLemmas.{FileRead, file-network, whole-kept}

-- ---- lines of events

-- from each network on, all lines from the k-th on come to these events, and to what is left of them from the n-th on
pub record Reads (events : List EventLine) (k n place : ℕ) (xs ys : List ℕ) : Type 0 where
  pub goes : (N : Network) (names : Names) (start : RunningNetwork)
      → (now : RunningNetwork)
      × ((text : List ℕ)
      × (played N names start k 1 (whole_lines xs) ≡ behind events text (played N names now n place (whole_lines ys))))

pub record ReadsOn (events : List EventLine) (k n place : ℕ) (a b : Option (List ℕ)) : Type 0 where
  pub each : BothKnown a b (Reads events k n place)

pub reads-first : (events : List EventLine) (k : ℕ) (a : Option (List ℕ))
    → events ≡ []
    → ReadsOn events k k 1 a a
reads-first events k a e = record {
  each = both-same (Reads events k k 1) a
      (λ xs. record {
        goes = λ N names start. (start, ([], sym (ap (λ es. behind es [] (played N names start k 1 (whole_lines xs))) e)));
      });
}

-- what a line adds, wherever the network is
abbrev pub Adds : Result (Option Event) ScriptError → ℕ → List EventLine → Type 0
Adds x place added = (N : Network) (names : Names) (now : RunningNetwork)
    → (next : RunningNetwork)
    × ((one : List ℕ)
    × ((others : RunningNetwork → Played RunningNetwork)
    → played_by x N names now place others ≡ behind added one (others next)))

behind-both : (events added : List EventLine) (text one : List ℕ) (p : Played RunningNetwork)
    → behind events text (behind added one p) ≡ behind (events ++ added) (text ++ one) p
behind-both events added text one p = λ i. record {
  events = (sym (append_assoc events added p.events)) i;
  text = (sym (append_assoc text one p.text)) i;
  end = p.end;
}

-- a line more
pub reads-more : {events more : List EventLine} {k n m place : ℕ} {line : List ℕ} {a b c : Option (List ℕ)}
    (added : List EventLine) (x : Result (Option Event) ScriptError)
    → ReadsOn events k n place a b
    → NextIs n None line b c
    → event_of place line ≡ x
    → Adds x place added
    → more ≡ events ++ added
    → m ≡ n + 1
    → ReadsOn more k m (place + 1) a c
reads-more {events} {more} {k} {n} {m} {place} {line} {a} {b} {c} added x h is read adds grown next = record {
  each = both-on a b c
      (λ xs ys zs p at. record {
        goes = λ N names start.
            let it = p.goes N names start in
            let by = adds N names it.0 in
            let rest : RunningNetwork → Played RunningNetwork = λ r. played N names r (n + 1) (place + 1) (whole_lines zs) in (
              by.0,
              (
                it.1.0 ++ by.1.0,
                it.1.1
                    ∙ ap (behind events it.1.0)
                    (guarded (playing N names it.0 place) (others_played N names it.0 place) None n line ys zs (play-guards N names it.0 place) at
                    ∙ ap (λ y. played_by y N names it.0 place rest) read
                    ∙ by.1.1 rest)
                    ∙ behind-both events added it.1.0 by.1.0 (rest by.0)
                    ∙ ap (λ es. behind es (it.1.0 ++ by.1.0) (rest by.0)) (sym grown)
                    ∙ ap (λ j. behind more (it.1.0 ++ by.1.0) (played N names by.0 j (place + 1) (whole_lines zs))) (sym next),
              ),
            );
      })
      h.each is.is;
}

pub adds-none : (place : ℕ) → Adds (Ok None) place []
adds-none place = λ N names now. (now, ([], λ others. refl))

-- no line more
pub reads-end : {events : List EventLine} {k n place : ℕ} {a b c : Option (List ℕ)}
    → ReadsOn events k n place a b
    → NoneIs b c
    → IfSome a (λ xs. AreEvents k xs events)
reads-end {events} {k} {n} {place} {a} {b} {c} h none =
    both-end a b c
    (λ xs ys zs p is. λ N names start.
    let it = p.goes N names start in (
      ap (λ q. q.events) it.1.1 ∙ ap (λ ls. events ++ (played N names it.0 n place ls).events) is.0 ∙ append-nil events,
      ap (λ q. result_err q.end) it.1.1 ∙ ap (λ ls. result_err (played N names it.0 n place ls).end) is.0,
    ))
    h.each none.is

-- a fault, which the lines that are left come to
pub reads-fault : {events : List EventLine} {k n place : ℕ} (a b : Option (List ℕ)) (e : ScriptError)
    → ReadsOn events k n place a b
    → ((N : Network) (names : Names) (now : RunningNetwork)
    → IfSome b (λ ys. played N names now n place (whole_lines ys) ≡ ends (Err e)))
    → IfSome a (λ xs. EndsWith k xs e)
reads-fault None b e h fault = tt
reads-fault (Some xs) None e h fault = absurd h.each
reads-fault (Some xs) (Some ys) e h fault = λ N names start.
    let it = h.each.goes N names start in
    ap (λ q. q.end) it.1.1 ∙ ap (λ q. q.end) (fault N names it.0)

-- ---- the whole

-- as lines from the first on
pub from-first : (all first : Option (List ℕ)) (m : ℕ) (e : ScriptError)
    → m ≡ 0
    → IfSome all (λ octets. first ≡ Some octets)
    → IfSome first (λ xs. (scripted_from (m + 1) xs).end ≡ Err e)
    → IfSome all (λ input. (scripted input).end ≡ Err e)
from-first None first m e z same h = tt
from-first (Some input) first m e z same h =
    subst (λ (f : Option (List ℕ)). IfSome f (λ xs. (scripted_from 1 xs).end ≡ Err e)) same
    (subst (λ (j : ℕ). IfSome first (λ xs. (scripted_from (j + 1) xs).end ≡ Err e)) z h)

read_in : (input : List ℕ) (second : Option (List ℕ)) (k : ℕ) (kept : List ℕ) (s : Script)
    → FileRead (Some input) 1 second k kept
    → network_of kept ≡ Ok (network_value s.network)
    → string_bytes s.text ≡ kept
    → IfSome second (λ ys. AreEvents k ys s.lines.items)
    → IsScript input s
read_in input None k kept s file of text events = absurd file
read_in input (Some ys) k kept s file of text events =
    let n : NetworkValue = network_value s.network in
    let is = file-network (Some input) (Some ys) 1 k kept (Ok n) file of in
    let it = events (described n) (names_of n) (started n) in
    record {
      text = text ∙ whole-kept kept (network_text (whole_lines input)) n file.0 of;
      network = is.1;
      events = sym (ap (λ p. p.events) is.0 ∙ it.0);
      faultless = ap (λ p. result_err p.end) is.0 ∙ closed_faultless (names_of n) (played (described n) (names_of n) (started n) k 1 (whole_lines ys)).end it.1;
    }
  where
    closed_faultless : (names : Names) (end : Result RunningNetwork ScriptError)
        → result_err end ≡ None
        → result_err (closing names end) ≡ None
    closed_faultless names (Ok r) h = refl
    closed_faultless names (Err e) h = h

pub script-read : (all first second : Option (List ℕ)) (m k : ℕ) (kept : List ℕ) (s : Script)
    → m ≡ 0
    → IfSome all (λ octets. first ≡ Some octets)
    → FileRead first (m + 1) second k kept
    → network_of kept ≡ Ok (network_value s.network)
    → string_bytes s.text ≡ kept
    → IfSome second (λ ys. AreEvents k ys s.lines.items)
    → IfSome all (λ input. IsScript input s)
script-read None first second m k kept s z same file of text events = tt
script-read (Some input) first second m k kept s z same file of text events =
    read_in input second k kept s
    (subst (λ (f : Option (List ℕ)). FileRead f 1 second k kept) same (subst (λ (j : ℕ). FileRead first (j + 1) second k kept) z file))
    of text events

-- the fault of an event's line is the script's
pub event-fault : (a b : Option (List ℕ)) (n k : ℕ) (kept : List ℕ) (value : NetworkValue) (e : ScriptError)
    → FileRead a n b k kept
    → network_of kept ≡ Ok value
    → IfSome b (λ ys. EndsWith k ys e)
    → IfSome a (λ xs. (scripted_from n xs).end ≡ Err e)
event-fault a b n k kept value e file of fault =
    both-some a b
    (λ xs ys is f. ap (λ p. p.end) is.0 ∙ ap (closing (names_of value)) (f (described value) (names_of value) (started value)))
    (file-network a b n k kept (Ok value) file of) fault

swapped : (all : Option (List ℕ)) (e : ScriptError)
    → (is_outside e ≡ false → IfSome all (λ input. (scripted input).end ≡ Err e))
    → IfSome all (λ input. is_outside e ≡ false → (scripted input).end ≡ Err e)
swapped None e fault = tt
swapped (Some input) e fault = fault

-- it is handed on
pub fault-read : (r : Result Script ScriptError) (e : ScriptError) (all : Option (List ℕ))
    → IsErrAnd r (λ x. x ≡ e)
    → (is_outside e ≡ false → IfSome all (λ input. (scripted input).end ≡ Err e))
    → IfSome all (λ input. IsRead input r)
fault-read r e all given fault = err-is r e (λ x. IfSome all (λ input. IsRead input x)) given (swapped all e fault)
