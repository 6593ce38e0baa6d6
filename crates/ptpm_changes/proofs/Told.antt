-- What is noted as the answer to a step was reported of that step's request.
use Rattle.ptpm_network.proofs.Common.{arith, ◌≡◌, ◌⊎◌, inl, inr, ℕ, ◌+◌, ◌-◌, ◌<◌, ◌≤◌, true, false, List, [], ◌∷◌, ◌++◌, Option, Some, None, is_some, refl, sym, ◌∙◌, ap, subst, true≢false, AllByRecursion, Report, RequestValue, SessionValue, is_waiting, received_of, Network}
use Rattle.std.specs.Prelude.{◌%◌}
use Rattle.ptpm_manager.specs.declared.receiving.Received.{Received}
use Rattle.ptpm_manager.specs.declared.receiving.Received.TheVariants as received
use Rattle.ptpm_manager.specs.declared.report.Outcome.{Outcome}
use Rattle.ptpm_manager.specs.declared.setup.Setup.{Setup}
use Rattle.ptpm_manager.specs.Receiving.{left_by}
use Rattle.ptpm_manager.specs.Session.{fresh}
use Rattle.ptpm_manager.proofs.ReplyLaws.{only_reply}
use Rattle.ptpm_asker.specs.Desk.{AreAllowed, Begins, Continues, Crashes, Desk, Heard, Hears, IsAllowed, IsBegun, IsFree, IsFreeOf, IsHeard, IsKnownNew, IsLetGo, IsTold, LetsGo, Move, Note, Notes, Resumes, Retunes, Returns, Saves, SaysBegun, Sends, Starts, TakesBack, heard_after, latest_number, moved, moved_by, next_number, reopened}
use Rattle.ptpm_asker.specs.Question.{asks_question, is_question}
use Rattle.ptpm_apply.specs.Watching.{Watch, answered_after, watched, watched_by}
use Rattle.ptpm_restarts.specs.DeskIncidents.{AreStepsOf, Comes, DeskStep, Elsewhere, IsIgnored, IsStepOf, IsUnsent, Mirrors, Moves, desk_incidents, desk_moves, incidents_at, moves_at}
use Rattle.ptpm_restarts.specs.Asked.{TellsAt}
use Rattle.ptpm_restarts.specs.Incidents.{Incident, after_incidents}
use Rattle.ptpm_restarts.specs.Restarting.{RestartingNetwork}
use Rattle.ptpm_restarts.proofs.Asking.{sometime-first, sometime-later}
use Rattle.ptpm_restarts.proofs.DeskMoves.{Tells, allowed-parts, comes-told, moved-append, one-done}
use Rattle.ptpm_restarts.proofs.DeskSessions.{waits-too}
use Rattle.ptpm_changes.specs.Lane.{AreNotedSo, IsNotedSo}

-- ---- what is known at a desk

-- if the latest note says that a step is begun under the number of what is under way, that is the step
abbrev pub HasStep : (ℕ → RequestValue) → List Note → SessionValue → Type 0
HasStep steps notes s = (q : RequestValue) → s.unanswered ≡ Some q → is_question q ≡ false
    → (tag : ℕ) → SaysBegun notes tag (latest_number s) → q ≡ steps tag

-- what was heard is the answer to this request, which is that step
pub record IsHeardOf (steps : ℕ → RequestValue) (T : RequestValue → ℕ → Outcome → Type 0) (notes : List Note) (next : ℕ) (answered : Option RequestValue) (x : Heard) : Type 0 where
  pub request : RequestValue
  pub answered_is : answered ≡ Some request
  pub told : T request x.number x.outcome
  pub step : is_question request ≡ false → (tag : ℕ) → SaysBegun notes tag x.number → request ≡ steps tag
  pub next_is : next ≡ (x.number + 1) % 65536
  pub within : x.number < 65536

abbrev pub IsNoteOf : (ℕ → RequestValue) → (RequestValue → ℕ → Outcome → Type 0) → Note → Type 0
IsNoteOf steps T (IsBegun tag number) = Unit {0}
IsNoteOf steps T (IsTold tag number outcome) = T (steps tag) number outcome
IsNoteOf steps T (IsLetGo number) = Unit {0}

abbrev pub HeardOf : (ℕ → RequestValue) → (RequestValue → ℕ → Outcome → Type 0) → List Note → ℕ → Option RequestValue → Option Heard → Type 0
HeardOf steps T notes next answered heard = (x : Heard) → heard ≡ Some x → IsHeardOf steps T notes next answered x

pub record Knows (steps : ℕ → RequestValue) (T : RequestValue → ℕ → Outcome → Type 0) (d : Desk) (w : Watch) : Type 0 where
  pub live : HasStep steps d.notes d.live
  pub file : (f : SessionValue) → d.file ≡ Some f → HasStep steps d.notes f
  pub heard : HeardOf steps T d.notes (next_number d.live) w.answered d.run.heard
  pub waits : is_waiting d.live ≡ true → d.run.heard ≡ None
  pub noted : AllByRecursion (IsNoteOf steps T) d.notes

-- what is heard now
abbrev pub HearsSo : (RequestValue → ℕ → Outcome → Type 0) → Desk → Move → Type 0
HearsSo T d (Hears datagram) = (report : Report) (q : RequestValue) → received_of d.live datagram ≡ received.Answered report → d.live.unanswered ≡ Some q
    → T q (latest_number d.live) report.outcome
HearsSo T d _ = Unit {0}

-- ---- small facts

none-some : {A P : Type 0} (a : A) → None ≡ Some a → P
none-some a e = absurd (cc)

some-waits : (s : SessionValue) (q : RequestValue) → s.unanswered ≡ Some q → is_waiting s ≡ true
some-waits s q e = ap (λ (o : Option RequestValue). is_some o) e

free-some : (o : Option RequestValue) (q : RequestValue) → o ≡ Some q → IsFreeOf o → is_question q ≡ true
free-some o q e free = subst IsFreeOf e free

one-begun : (notes : List Note) (tag other n : ℕ) → SaysBegun notes tag n → SaysBegun notes other n → tag ≡ other
one-begun [] tag other n a b = absurd a
one-begun (IsBegun t k ∷ further) tag other n a b = sym a.0 ∙ b.0
one-begun (IsTold t k outcome ∷ further) tag other n a b = absurd a
one-begun (IsLetGo k ∷ further) tag other n a b = absurd a

number-within : (first k : ℕ) → (first + (k - 1)) % 65536 < 65536
number-within first k = omega arith

next-after : (first k : ℕ) → 1 ≤ k → (first + (k + 1 - 1)) % 65536 ≡ ((first + (k - 1)) % 65536 + 1) % 65536
next-after first k counted = omega arith

next-anew : (first n : ℕ) → first ≡ (n + 1) % 65536 → (first + (0 + 1 - 1)) % 65536 ≡ (n + 1) % 65536
next-anew first n e = omega arith

not-next : (n : ℕ) → n < 65536 → (n + 1) % 65536 ≡ n → ⊥
not-next n within e = omega arith

-- ---- what is under way

begins-step : (steps : ℕ → RequestValue) (notes : List Note) (d : Desk) (tag : ℕ) (request q : RequestValue)
    → (is_question request ≡ true) ⊎ IsKnownNew d tag → (is_question request ≡ true) ⊎ (request ≡ steps tag) → request ≡ q → is_question q ≡ false
    → (other : ℕ) → SaysBegun d.notes other (next_number d.live) → q ≡ steps other
begins-step steps notes d tag request q (inl asks) asked same plain other says =
    absurd (true≢false (sym asks ∙ ap is_question same ∙ plain))
begins-step steps notes d tag request q (inr known) (inl asks) same plain other says =
    absurd (true≢false (sym asks ∙ ap is_question same ∙ plain))
begins-step steps notes d tag request q (inr known) (inr is) same plain other says =
    sym same ∙ is ∙ ap steps (one-begun d.notes tag other (next_number d.live) known.0 says)

same-some : {A : Type 0} (a b : A) → Some a ≡ Some b → a ≡ b
same-some a b e = cc

-- after a note
noted-step : (steps : ℕ → RequestValue) (note : Note) (notes : List Note) (s : SessionValue)
    → ((tag number : ℕ) → note ≡ IsBegun tag number → (q : RequestValue) → s.unanswered ≡ Some q → is_question q ≡ true)
    → HasStep steps (note ∷ notes) s
noted-step steps (IsBegun t n) notes s free q e plain tag says = absurd (true≢false (sym (free t n refl q e) ∙ plain))
noted-step steps (IsTold t n outcome) notes s free q e plain tag says = absurd says
noted-step steps (IsLetGo n) notes s free q e plain tag says = absurd says

hears-step : (steps : ℕ → RequestValue) (y : Received) (s : SessionValue) (notes : List Note) → HasStep steps notes s → HasStep steps notes (left_by s y)
hears-step steps (received.Answered report) s notes h q e plain tag says = none-some q e
hears-step steps (received.Ignored reason) s notes h q e plain tag says = h q e plain tag says

opened-step : (steps : ℕ → RequestValue) (file : Option SessionValue) (s : SessionValue) (notes : List Note)
    → ((f : SessionValue) → file ≡ Some f → HasStep steps notes f)
    → HasStep steps notes (reopened file s)
opened-step steps None s notes h q e plain tag says = none-some q e
opened-step steps (Some f) s notes h q e plain tag says = h f refl q e plain tag says

none-step : (steps : ℕ → RequestValue) (notes : List Note) (s : SessionValue) → s.unanswered ≡ None → HasStep steps notes s
none-step steps notes s none q e plain tag says = none-some q (sym none ∙ e)

saved-step : (steps : ℕ → RequestValue) (s f : SessionValue) (notes : List Note) → HasStep steps notes s → Some s ≡ Some f → HasStep steps notes f
saved-step steps s f notes h e = subst (HasStep steps notes) (same-some s f e) h

file-free : (file : Option SessionValue) (f : SessionValue) (q : RequestValue) → file ≡ Some f → IsFree file → f.unanswered ≡ Some q → is_question q ≡ true
file-free file f q e free is = free-some f.unanswered q is (subst IsFree e free)

rests-free : (s : SessionValue) (q : RequestValue) → is_waiting s ≡ false → s.unanswered ≡ Some q → is_question q ≡ true
rests-free s q rests e = absurd (true≢false (sym (some-waits s q e) ∙ rests))

module _ (steps : ℕ → RequestValue) (T : RequestValue → ℕ → Outcome → Type 0) (d : Desk) (w : Watch) (h : Knows steps T d w) where
  note-rests : (note : Note) → IsNotedSo steps d w (Notes note) → (tag number : ℕ) → note ≡ IsBegun tag number → is_waiting d.live ≡ false
  note-rests (IsBegun t n) so tag number e = so.0
  note-rests (IsTold t n outcome) so tag number e = absurd (cc)
  note-rests (IsLetGo n) so tag number e = absurd (cc)

  note-free : (note : Note) → IsNotedSo steps d w (Notes note) → (tag number : ℕ) → note ≡ IsBegun tag number → IsFree d.file
  note-free (IsBegun t n) so tag number e = so.1
  note-free (IsTold t n outcome) so tag number e = absurd (cc)
  note-free (IsLetGo n) so tag number e = absurd (cc)

  live-knows : (m : Move) → IsAllowed d m → IsNotedSo steps d w m → HasStep steps (moved d m).notes (moved d m).live
  live-knows (Begins tag request) may so =
      λ q e plain other says. begins-step steps d.notes d tag request q may.2 so (same-some request q e) plain other says
  live-knows Saves may so = h.live
  live-knows Sends may so = h.live
  live-knows (Hears datagram) may so = hears-step steps (received_of d.live datagram) d.live d.notes h.live
  live-knows (Notes note) may so = noted-step steps note d.notes d.live (λ tag number e q is. rests-free d.live q (note-rests note so tag number e) is)
  live-knows (Resumes attempts) may so = h.live
  live-knows (Retunes domain) may so = h.live
  live-knows LetsGo may so = none-step steps d.notes (moved d LetsGo).live refl
  live-knows Returns may so = h.live
  live-knows (Starts setup domain) may so = none-step steps d.notes (fresh setup domain) refl
  live-knows (Continues setup) may so = none-step steps d.notes (fresh setup d.live.domain) refl
  live-knows (TakesBack setup) may so = none-step steps d.notes (fresh setup d.live.domain) refl
  live-knows Crashes may so = opened-step steps d.file d.live d.notes h.file

  file-knows : (m : Move) → IsNotedSo steps d w m → (f : SessionValue) → (moved d m).file ≡ Some f → HasStep steps (moved d m).notes f
  file-knows Saves so f e = saved-step steps d.live f d.notes h.live e
  file-knows (Notes note) so f e = noted-step steps note d.notes f (λ tag number is q under. file-free d.file f q e (note-free note so tag number is) under)
  file-knows (Begins tag request) so f e = h.file f e
  file-knows Sends so f e = h.file f e
  file-knows (Hears datagram) so f e = h.file f e
  file-knows (Resumes attempts) so f e = h.file f e
  file-knows (Retunes domain) so f e = h.file f e
  file-knows LetsGo so f e = h.file f e
  file-knows Returns so f e = h.file f e
  file-knows (Starts setup domain) so f e = h.file f e
  file-knows (Continues setup) so f e = h.file f e
  file-knows (TakesBack setup) so f e = h.file f e
  file-knows Crashes so f e = h.file f e

  -- ---- what was heard

  answered-heard : (q : RequestValue) (report : Report) → d.live.unanswered ≡ Some q → 1 ≤ d.live.issued → T q (latest_number d.live) report.outcome
      → (x : Heard) → record { number = latest_number d.live; outcome = report.outcome } ≡ x
      → IsHeardOf steps T d.notes (next_number d.live) d.live.unanswered x
  answered-heard q report under counted told x is = subst (IsHeardOf steps T d.notes (next_number d.live) d.live.unanswered) is (record {
    request = q;
    answered_is = under;
    told = told;
    step = λ plain tag says. h.live q under plain tag says;
    next_is = next-after d.live.setup.first d.live.issued counted;
    within = number-within d.live.setup.first d.live.issued;
  })

  hears-heard : (y : Received) (datagram : List ℕ) → received_of d.live datagram ≡ y → (is_waiting d.live ≡ true → 1 ≤ d.live.issued) → HearsSo T d (Hears datagram)
      → HeardOf steps T d.notes (next_number (left_by d.live y)) (answered_after d.live.unanswered w.answered y) (heard_after d.live d.run.heard y)
  hears-heard (received.Ignored reason) datagram is counted so x e = h.heard x e
  hears-heard (received.Answered report) datagram is counted so x e =
      let by = only_reply d.live datagram report is in
      let under : d.live.unanswered ≡ Some by.request = by.unanswered in
      answered-heard by.request report under (counted (some-waits d.live by.request under)) (so report by.request is under) x (same-some (record { number = latest_number d.live; outcome = report.outcome }) x e)

  note-heard : (note : Note) → IsNotedSo steps d w (Notes note)
      → HeardOf steps T (note ∷ d.notes) (next_number d.live) w.answered d.run.heard
  note-heard (IsBegun t n) so x e =
      let before = h.heard x e in
      record {
        request = before.request;
        answered_is = before.answered_is;
        told = before.told;
        step = λ plain tag says. absurd (not-next x.number before.within (sym before.next_is ∙ sym so.2 ∙ says.1));
        next_is = before.next_is;
        within = before.within;
      }
  note-heard (IsTold t n outcome) so x e =
      let before = h.heard x e in
      record { request = before.request; answered_is = before.answered_is; told = before.told; step = λ plain tag says. absurd says; next_is = before.next_is; within = before.within }
  note-heard (IsLetGo n) so x e =
      let before = h.heard x e in
      record { request = before.request; answered_is = before.answered_is; told = before.told; step = λ plain tag says. absurd says; next_is = before.next_is; within = before.within }

  continues-heard : (setup : Setup) → setup.first ≡ next_number d.live
      → HeardOf steps T d.notes (next_number (fresh setup d.live.domain)) w.answered d.run.heard
  continues-heard setup first x e =
      let before = h.heard x e in
      record {
        request = before.request;
        answered_is = before.answered_is;
        told = before.told;
        step = before.step;
        next_is = next-anew setup.first x.number (first ∙ before.next_is);
        within = before.within;
      }

  heard-knows : (m : Move) → IsAllowed d m → IsNotedSo steps d w m → (is_waiting d.live ≡ true → 1 ≤ d.live.issued) → HearsSo T d m
      → HeardOf steps T (moved d m).notes (next_number (moved d m).live) (watched d w m).answered (moved d m).run.heard
  heard-knows (Begins tag request) may so counted hears = λ x e. none-some x e
  heard-knows Saves may so counted hears = h.heard
  heard-knows Sends may so counted hears = h.heard
  heard-knows (Hears datagram) may so counted hears = hears-heard (received_of d.live datagram) datagram refl counted hears
  heard-knows (Notes note) may so counted hears = note-heard note so
  heard-knows (Resumes attempts) may so counted hears = h.heard
  heard-knows (Retunes domain) may so counted hears = h.heard
  heard-knows LetsGo may so counted hears = h.heard
  heard-knows Returns may so counted hears = h.heard
  heard-knows (Starts setup domain) may so counted hears = λ x e. none-some x e
  heard-knows (Continues setup) may so counted hears = continues-heard setup may.1
  heard-knows (TakesBack setup) may so counted hears = λ x e. none-some x (sym (h.waits may.1) ∙ e)
  heard-knows Crashes may so counted hears = λ x e. none-some x e

  hears-waits : (y : Received) → is_waiting (left_by d.live y) ≡ true → heard_after d.live d.run.heard y ≡ None
  hears-waits (received.Answered report) y = absurd (true≢false (sym y))
  hears-waits (received.Ignored reason) y = h.waits y

  waits-knows : (m : Move) → is_waiting (moved d m).live ≡ true → (moved d m).run.heard ≡ None
  waits-knows (Begins tag request) y = refl
  waits-knows Saves y = h.waits y
  waits-knows Sends y = h.waits y
  waits-knows (Hears datagram) y = hears-waits (received_of d.live datagram) y
  waits-knows (Notes note) y = h.waits y
  waits-knows (Resumes attempts) y = h.waits y
  waits-knows (Retunes domain) y = h.waits y
  waits-knows LetsGo y = absurd (true≢false (sym y))
  waits-knows Returns y = h.waits y
  waits-knows (Starts setup domain) y = refl
  waits-knows (Continues setup) y = absurd (true≢false (sym y))
  waits-knows (TakesBack setup) y = absurd (true≢false (sym y))
  waits-knows Crashes y = refl

  -- ---- what is noted

  note-noted : (note : Note) → IsHeard note d.run.heard → IsNotedSo steps d w (Notes note) → IsNoteOf steps T note
  note-noted (IsBegun t n) may so = tt
  note-noted (IsTold t n outcome) may so =
      let before = h.heard (record { number = n; outcome = outcome }) may in
      let plain : is_question before.request ≡ false = ap asks_question (sym before.answered_is) ∙ so.1 in
      subst (λ (q : RequestValue). T q n outcome) (before.step plain t so.0) before.told
  note-noted (IsLetGo n) may so = tt

  noted-knows : (m : Move) → IsAllowed d m → IsNotedSo steps d w m → AllByRecursion (IsNoteOf steps T) (moved d m).notes
  noted-knows (Notes note) may so = (note-noted note may so, h.noted)
  noted-knows (Begins tag request) may so = h.noted
  noted-knows Saves may so = h.noted
  noted-knows Sends may so = h.noted
  noted-knows (Hears datagram) may so = h.noted
  noted-knows (Resumes attempts) may so = h.noted
  noted-knows (Retunes domain) may so = h.noted
  noted-knows LetsGo may so = h.noted
  noted-knows Returns may so = h.noted
  noted-knows (Starts setup domain) may so = h.noted
  noted-knows (Continues setup) may so = h.noted
  noted-knows (TakesBack setup) may so = h.noted
  noted-knows Crashes may so = h.noted

  pub knows-after : (m : Move) → IsAllowed d m → IsNotedSo steps d w m → (is_waiting d.live ≡ true → 1 ≤ d.live.issued) → HearsSo T d m
      → Knows steps T (moved d m) (watched d w m)
  knows-after m may so counted hears = record {
    live = live-knows m may so;
    file = file-knows m so;
    heard = heard-knows m may so counted hears;
    waits = waits-knows m;
    noted = noted-knows m may so;
  }

-- ---- one step of the desk, and all

pub noted-parts : (steps : ℕ → RequestValue) (d : Desk) (w : Watch) (ms ns : List Move) → AreNotedSo steps d w (ms ++ ns)
    → AreNotedSo steps d w ms × AreNotedSo steps (moved_by d ms) (watched_by d w ms) ns
noted-parts steps d w [] ns a = (tt, a)
noted-parts steps d w (m ∷ ms) ns a =
    let parts = noted-parts steps (moved d m) (watched d w m) ms ns a.1 in ((a.0, parts.0), parts.1)

module _ (N : Network) (s : ℕ) (place : s < N.sessions) (steps : ℕ → RequestValue) (T : RequestValue → ℕ → Outcome → Type 0) where
  -- what is reported meanwhile counts
  abbrev pub Counts : RestartingNetwork → List Incident → Type 0
  Counts k is = (q : RequestValue) (number : ℕ) (outcome : Outcome) → Tells N s k is q number outcome → T q number outcome

  counted : (d : Desk) (k : RestartingNetwork) → Mirrors N s d k → is_waiting d.live ≡ true → 1 ≤ d.live.issued
  counted d k h y = (h.live.like.counted (waits-too (N.session s).setup d.live (k.session s).live.session _ h.live y)).0

  ignored : (d : Desk) (datagram : List ℕ) (y : Received) → received_of d.live datagram ≡ y → IsIgnored y
      → (report : Report) → received_of d.live datagram ≡ received.Answered report → ⊥
  ignored d datagram (received.Answered other) is so report e = so
  ignored d datagram (received.Ignored reason) is so report e = absurd (cc)

  hears-so : (d : Desk) (k : RestartingNetwork) (m : Move) → IsStepOf N s d k (Moves m) → HearsSo T d m
  hears-so d k (Hears datagram) step = λ report q e under. absurd (ignored d datagram (received_of d.live datagram) refl step report e)
  hears-so d k (Begins tag request) step = tt
  hears-so d k Saves step = tt
  hears-so d k Sends step = tt
  hears-so d k (Notes note) step = tt
  hears-so d k (Resumes attempts) step = tt
  hears-so d k (Retunes domain) step = tt
  hears-so d k LetsGo step = tt
  hears-so d k Returns step = tt
  hears-so d k (Starts setup domain) step = tt
  hears-so d k (Continues setup) step = tt
  hears-so d k (TakesBack setup) step = tt
  hears-so d k Crashes step = tt

  knows-step : (x : DeskStep) (d : Desk) (k : RestartingNetwork) (w : Watch) → Mirrors N s d k → Knows steps T d w
      → AreAllowed d (moves_at x) → IsStepOf N s d k x → AreNotedSo steps d w (moves_at x) → Counts k (incidents_at s d k x)
      → Knows steps T (moved_by d (moves_at x)) (watched_by d w (moves_at x))
  knows-step (Moves m) d k w h knows may step so counts =
      knows-after steps T d w knows m may.0 so.0 (counted d k h) (hears-so d k m step)
  knows-step (Comes n datagram) d k w h knows may step so counts =
      knows-after steps T d w knows (Hears datagram) may.0 so.0 (counted d k h)
      (λ report q e under. counts q (latest_number d.live) report.outcome (comes-told N s place d k h n datagram report q e step under))
  knows-step IsUnsent d k w h knows may step so counts = knows-after steps T d w knows Sends may.0 so.0 (counted d k h) tt
  knows-step (Elsewhere i) d k w h knows may step so counts = knows

  first-counts : (k : RestartingNetwork) (is js : List Incident) → Counts k (is ++ js) → Counts k is
  first-counts k is js counts q number outcome t =
      counts q number outcome (record { report = t.report; told = sometime-first N (TellsAt N s q t.report) k is js t.told; says = t.says; of_number = t.of_number })

  later-counts : (k : RestartingNetwork) (is js : List Incident) → Counts k (is ++ js) → Counts (after_incidents N k is) js
  later-counts k is js counts q number outcome t =
      counts q number outcome (record { report = t.report; told = sometime-later N (TellsAt N s q t.report) k is js t.told; says = t.says; of_number = t.of_number })

  pub knows-along : (xs : List DeskStep) (d : Desk) (k : RestartingNetwork) (w : Watch) → Mirrors N s d k → Knows steps T d w
      → AreAllowed d (desk_moves xs) → AreStepsOf N s d k xs → AreNotedSo steps d w (desk_moves xs) → Counts k (desk_incidents N s d k xs)
      → AllByRecursion (IsNoteOf steps T) (moved_by d (desk_moves xs)).notes
  knows-along [] d k w h knows may steps_of so counts = knows.noted
  knows-along (x ∷ xs) d k w h knows may steps_of so counts =
      let now = allowed-parts d (moves_at x) (desk_moves xs) may in
      let noted = noted-parts steps d w (moves_at x) (desk_moves xs) so in
      let next : Desk = moved_by d (moves_at x) in
      let after : RestartingNetwork = after_incidents N k (incidents_at s d k x) in
      let further : List Incident = desk_incidents N s next after xs in
      let step = one-done N s place d k h x now.0 steps_of.0 in
      subst (λ (e : Desk). AllByRecursion (IsNoteOf steps T) e.notes) (sym (moved-append d (moves_at x) (desk_moves xs)))
      (knows-along xs next after (watched_by d w (moves_at x)) step.mirrors
      (knows-step x d k w h knows now.0 steps_of.0 noted.0 (first-counts k (incidents_at s d k x) further counts))
      now.1 steps_of.1 noted.1 (later-counts k (incidents_at s d k x) further counts))
