-- Each input goes on, at each stage.
use Rattle.std.proofs.Common.{◌≡◌, ◌∙◌, ℕ, ◌+◌, ◌-◌, ◌%◌, Bool, true, false, not, min, ◌&&◌, List, [], ◌∷◌, ◌++◌, Option, Some, None, inl, inr, refl, sym, ap, subst, is_some, if◌then◌else◌}
use Rattle.std.proofs.lemmas.Bool.{and_parts}
use Rattle.ptpm_codec.specs.SequenceNumber.{number_of}
use Rattle.ptpm_data.specs.Request.{RequestValue}
use Rattle.ptpm_manager.specs.declared.ask.Ask.{Ask}
use Rattle.ptpm_manager.specs.declared.receiving.Received.{Received}
use Rattle.ptpm_manager.specs.declared.receiving.Received.TheVariants as received
use Rattle.ptpm_manager.specs.declared.report.Outcome.{Outcome}
use Rattle.ptpm_manager.specs.Receiving.{left_by, received_of}
use Rattle.ptpm_manager.specs.Session.{SessionValue, answered, begun, given_up, is_waiting, retuned}
use Rattle.ptpm_asker.specs.declared.earlier.Earlier.{Earlier}
use Rattle.ptpm_asker.specs.declared.earlier.Earlier.TheVariants as earlier
use Rattle.ptpm_asker.specs.declared.output.Output.TheVariants as outputs
use Rattle.ptpm_asker.specs.declared.stage.Stage.{Stage}
use Rattle.ptpm_asker.specs.declared.stage.Stage.TheVariants as stages
use Rattle.ptpm_asker.specs.Asker.{AskerValue, setup_with}
use Rattle.ptpm_asker.specs.Desk.{Begins, Continues, HasIt, HasNoneOut, HasRequest, Hears, IsBegun, IsFree, IsFreeOf, IsLetGo, IsTold, LeavesTold, LetsGo, MayLeave, Move, Note, Notes, Retunes, Returns, Run, Saves, Starts, TakesBack, heard_after, known_after, latest_number, moved, unsent_run}
use Rattle.ptpm_asker.specs.Question.{asked_request, asks_question, question}
use Rattle.ptpm_asker.specs.Turns.{after_moves, announces, asked_of, asks, asks_in_session, begins_wanted, goes_on, goes_on_asking, goes_on_begun, goes_on_saved, fails, has_more_numbers, has_no_way, has_read, heard_as, hears_at, idle, is_answered, is_left_question, is_new_session, is_over, is_unsettled, is_used_up, latest, lets_go, most_readings, next, read_as, reads_wanted, renewed, resumes, rests, saves, sends, settled, settles, settling_domain, stays, taken_back, takes_back, tested, tests_wanted, turn, unsents, unsents_at, waits, wakes_at, with_question}
use Rattle.ptpm_asker.specs.Allowed.{done_at}
use Rattle.ptpm_asker.proofs.Standing.{Goes, GoesOn, IsAsking, IsAtRest, IsKnown, IsNoting, IsOfLatest, IsQuestionLeft, IsSaving, IsTelling, IsUnderWay, IsWell, RestsWith, Stands, StandsAt, TestsQuestion, desk, goes_after, goes_if, goes_on_after}
use Rattle.ptpm_asker.proofs.Parts.{announces_so, back_leaves, fails_so, free_leaves, idles, is_one, resumes_so, saves_so, sends_so, told_leaves}

-- ---- ask

not_both : (e : Earlier) → is_left_question e ≡ false → is_unsettled e ≡ false → e ≡ earlier.NoRequest
not_both earlier.NoRequest l u = refl
not_both earlier.Question l u = cc
not_both earlier.Reads l u = cc
not_both (earlier.MovesTo domain) l u = cc
not_both earlier.Changes l u = cc

left_one : (e : Earlier) → is_left_question e ≡ true → e ≡ earlier.Question
left_one earlier.NoRequest l = cc
left_one earlier.Question l = refl
left_one earlier.Reads l = cc
left_one (earlier.MovesTo domain) l = cc
left_one earlier.Changes l = cc

not_so : (b : Bool) → not b ≡ true → b ≡ false
not_so true h = cc
not_so false h = refl

nothing_waits : (s : SessionValue) → s.unanswered ≡ None → is_waiting s ≡ false
nothing_waits s h = ap is_some h

both_ways : (b : Bool) → b ≡ true → b ≡ false → ⊥
both_ways true p q = cc
both_ways false p q = cc

in_session : (n k : Bool) → n ≡ false → k ≡ true → (not n && k) ≡ false → ⊥
in_session true k hn hk h = cc
in_session false true hn hk h = cc
in_session false false hn hk h = cc

-- the session of an asker that rests goes on, or does so as a new one
goes_on_begun_so : (a : AskerValue) (file : Option SessionValue) (notes : List Note) (run : Run) (now : ℕ) (wanted : Ask)
    → IsWell a file run
    → IsAtRest file a.session
    → a.earlier ≡ earlier.NoRequest
    → GoesOn (desk a.session file notes run) [] (goes_on_asking a now wanted)
goes_on_begun_so a file notes run now wanted w at none =
    let d = desk a.session file notes run in
    let q = with_question a wanted in
    let c = record q { is_testing = true } in
    let asked = asked_request (question a.drawn wanted) in
    let begin = Begins 0 asked in
    let is_question_ = is_one a.drawn wanted w.size in
    let r = unsent_run run.is_known in
    let e = desk q.session file notes r in
    goes_if (asks_in_session a) d [] (after_moves (begin ∷ []) (goes_on_begun q now)) (goes_on_begun a now)
    (λ (h : asks_in_session a ≡ true).
    let parts = and_parts (not a.is_new) a.is_kept h in
    let new = not_so a.is_new parts.0 in
    goes_on_after d begin [] (goes_on_begun q now) (nothing_waits a.session at.nothing, at.free, inl is_question_)
    (goes_if a.is_new e [] (announces q) (if a.is_kept then saves c else waits q now)
    (λ (n : a.is_new ≡ true). absurd (both_ways a.is_new n new))
    (λ _. goes_if a.is_kept e [] (saves c) (waits q now)
    (λ _. saves_so c file notes r []
    (record { size = w.size; first = w.first; unkept = w.unkept; known = w.known })
    (free_leaves file c.session notes r at.free) (λ t v. is_question_) (λ (t : true ≡ false) v. absurd (cc))
    (λ (v : true ≡ false) s. absurd (cc)) none)
    (λ (k : a.is_kept ≡ false). absurd (both_ways a.is_kept parts.1 k)))))
    (λ (h : asks_in_session a ≡ false).
    goes_if a.is_new d [] (announces a) (if a.is_kept then saves (record a { is_testing = true }) else waits a now)
    (λ (n : a.is_new ≡ true). announces_so a file notes run [] w at none (λ _. w.known n))
    (λ (n : a.is_new ≡ false). goes_if a.is_kept d [] (saves (record a { is_testing = true })) (waits a now)
    (λ (k : a.is_kept ≡ true). absurd (in_session a.is_new a.is_kept n k h))
    (λ (k : a.is_kept ≡ false). record {
      allowed = tt;
      live = refl;
      stands = record {
        well = record { size = w.size; first = w.first; unkept = w.unkept; known = w.known };
        at = record { due_is = refl; nothing = at.nothing; unkept = k };
      };
    })))

-- in this domain
retuned_so : (a : AskerValue) (file : Option SessionValue) (notes : List Note) (run : Run)
    (now tag : ℕ) (wanted : Ask) (domain : ℕ)
    → IsWell a file run
    → IsAtRest file a.session
    → a.earlier ≡ earlier.NoRequest
    → GoesOn (desk a.session file notes run) [] (after_moves (Retunes domain ∷ []) (goes_on_asking (asked_of a tag wanted domain) now wanted))
retuned_so a file notes run now tag wanted domain w at none =
    let b = asked_of a tag wanted domain in
    goes_on_after (desk a.session file notes run) (Retunes domain) [] (goes_on_asking b now wanted) tt
    (goes_on_begun_so b file notes run now wanted
    (record { size = w.size; first = w.first; unkept = w.unkept; known = w.known })
    (record { nothing = at.nothing; free = at.free }) none)

pub asks_so : (a : AskerValue) (file : Option SessionValue) (notes : List Note) (run : Run)
    (now tag : ℕ) (wanted : Ask) (domain : ℕ)
    → IsWell a file run
    → RestsWith a.earlier file a.session
    → is_unsettled a.earlier ≡ false
    → GoesOn (desk a.session file notes run) [] (asks a now tag wanted domain)
asks_so a file notes run now tag wanted domain w rests unsettled =
    let d = desk a.session file notes run in
    let t = record (asked_of a tag wanted domain) { is_testing = true } in
    let n = renewed a in
    let setup = setup_with a.settings (next a) in
    let go = after_moves (Retunes domain ∷ []) (goes_on_asking (asked_of n tag wanted domain) now wanted) in
    let stay = after_moves (Retunes domain ∷ []) (goes_on_asking (asked_of a tag wanted domain) now wanted) in
    let renewed_go = after_moves (Continues setup ∷ Retunes domain ∷ []) (goes_on_asking (asked_of n tag wanted domain) now wanted) in
    goes_if (is_left_question a.earlier) d [] (after_moves (Retunes domain ∷ []) (resumes t now)) (if is_used_up a then renewed_go else stay)
    (λ (l : is_left_question a.earlier ≡ true).
    let at : IsQuestionLeft file a.session = subst (λ (e : Earlier). RestsWith e file a.session) (left_one a.earlier l) rests in
    let u : IsUnderWay file t.session = record { waiting = at.under_way.waiting; has = at.under_way.has } in
    goes_on_after d (Retunes domain) [] (resumes t now) tt
    (resumes_so t file notes run [] now (record { size = w.size; first = w.first; unkept = w.unkept; known = w.known }) u (λ x y. at.asks)
    (λ (x : true ≡ false) y. absurd (cc))))
    (λ (l : is_left_question a.earlier ≡ false).
    let none = not_both a.earlier l unsettled in
    let at : IsAtRest file a.session = subst (λ (e : Earlier). RestsWith e file a.session) none rests in
    goes_if (is_used_up a) d [] renewed_go stay
    (λ _. goes_on_after d (Continues setup) [] go
    (nothing_waits a.session at.nothing, ap (λ n. number_of n (a.session.issued + 1)) w.first)
    (retuned_so n file notes run now tag wanted domain
    (record { size = w.size; first = refl; unkept = w.unkept; known = w.known })
    (record { nothing = refl; free = at.free }) none))
    (λ _. retuned_so a file notes run now tag wanted domain w at none))

-- ---- settle and let_go

pub settles_so : (a : AskerValue) (file : Option SessionValue) (notes : List Note) (run : Run) (now tag domain : ℕ)
    → IsWell a file run
    → IsUnderWay file a.session
    → is_unsettled a.earlier ≡ true
    → GoesOn (desk a.session file notes run) [] (settles a now tag domain)
settles_so a file notes run now tag domain w under unsettled =
    let there = settling_domain a.earlier a.session.domain domain in
    let b = record a { session = retuned a.session there; wanted = None; tag = tag; is_testing = false } in
    goes_on_after (desk a.session file notes run) (Retunes there) [] (resumes b now) tt
    (resumes_so b file notes run [] now (record { size = w.size; first = w.first; unkept = w.unkept; known = w.known })
    (record { waiting = under.waiting; has = under.has }) (λ (t : false ≡ true) v. absurd (cc))
    (λ t u. absurd (both_ways (is_unsettled a.earlier) unsettled u)))

let_go_leaves : (file : Option SessionValue) (s : SessionValue) (notes : List Note) (run : Run)
    → HasIt file s
    → LeavesTold file (given_up s) (IsLetGo (latest_number s) ∷ notes) run
let_go_leaves None s notes run h = tt
let_go_leaves (Some f) s notes run h = told_leaves f (given_up s) (IsLetGo (latest_number s) ∷ notes) run (sym h.1)

pub lets_go_so : (a : AskerValue) (file : Option SessionValue) (notes : List Note) (run : Run)
    → IsWell a file run
    → IsUnderWay file a.session
    → GoesOn (desk a.session file notes run) [] (lets_go a)
lets_go_so a file notes run w under =
    let b = record a { session = given_up a.session; wanted = None; earlier = earlier.NoRequest } in
    let d = desk a.session file notes run in
    let note = IsLetGo (latest a) in
    let same = ap (λ n. number_of n a.session.issued) w.first in
    let leaves : LeavesTold file b.session (note ∷ notes) run =
    subst (λ (n : ℕ). LeavesTold file (given_up a.session) (IsLetGo n ∷ notes) run) (sym same) (let_go_leaves file a.session notes run under.has) in
    goes_on_after d (Notes note) [] (after_moves (LetsGo ∷ []) (saves b)) tt
    (goes_on_after (moved d (Notes note)) LetsGo [] (saves b) same
    (saves_so b file (note ∷ notes) run [] (record { size = w.size; first = w.first; unkept = w.unkept; known = w.known }) leaves (λ t (v : false ≡ true). absurd (cc))
    (λ t (v : false ≡ true). absurd (cc)) (λ v (x : false ≡ true). absurd (cc)) refl))

-- ---- hear

of_latest : (file : Option SessionValue) (q : Option RequestValue) (n : ℕ) → HasRequest file q n → IsOfLatest file n
of_latest None q n h = tt
of_latest (Some f) q n h = h.1

free_of : (q : Option RequestValue) → asks_question q ≡ true → IsFreeOf q
free_of None h = tt
free_of (Some q) h = h

free_by : (file : Option SessionValue) (q : Option RequestValue) (n : ℕ) → HasRequest file q n → asks_question q ≡ true → IsFree file
free_by None q n h e = tt
free_by (Some f) q n h e = free_of f.unanswered (subst (λ (r : Option RequestValue). asks_question r ≡ true) (sym h.0) e)

-- an answer is taken
pub answered_so : (a : AskerValue) (file : Option SessionValue) (notes : List Note) (run : Run) (outcome : Outcome)
    → IsWell a file run
    → IsUnderWay file a.session
    → TestsQuestion a
    → GoesOn
    (desk (answered a.session) file notes (record run { heard = Some (record { number = latest_number a.session; outcome = outcome }); is_known = true })) []
    (is_answered (settled (record a { session = answered a.session })) outcome)
answered_so a file notes run outcome w under tests =
    let r = record run { heard = Some (record { number = latest_number a.session; outcome = outcome }); is_known = true } in
    let b = settled (record a { session = answered a.session }) in
    let d = desk b.session file notes r in
    let c = record b { is_new = true } in
    let same = ap (λ n. number_of n a.session.issued) w.first in
    goes_if a.is_testing d [] (if a.is_kept then announces c else saves c) (turn (record b { stage = stages.Telling }) (outputs.Told a.tag (latest a) outcome) [])
    (λ (t : a.is_testing ≡ true). goes_if a.is_kept d [] (announces c) (saves c)
    (λ _. announces_so c file notes r [] (record { size = w.size; first = w.first; unkept = w.unkept; known = λ _. refl })
    (record { nothing = refl; free = free_by file a.session.unanswered (latest_number a.session) under.has (tests t under.waiting) }) refl
    (λ _. refl))
    (λ (u : a.is_kept ≡ false). saves_so c file notes r []
    (record { size = w.size; first = w.first; unkept = w.unkept; known = λ _. refl })
    (subst (λ (f : Option SessionValue). LeavesTold f c.session notes r) (sym (w.unkept u)) tt)
    (λ t (v : false ≡ true). absurd (cc)) (λ t (v : false ≡ true). absurd (cc)) (λ v s. refl) refl))
    (λ _. record {
      allowed = tt;
      live = refl;
      stands = record {
        well = record { size = w.size; first = w.first; unkept = w.unkept; known = λ _. refl };
        at = record {
          outcome = outcome;
          due_is = refl;
          is_heard = ap (λ (n : ℕ). Some (record { number = n; outcome = outcome })) (sym same);
          known = refl;
          nothing = refl;
          of_latest = of_latest file a.session.unanswered (latest_number a.session) under.has;
          none_left = refl;
        };
      };
    })

-- a datagram comes in while a request is under way
read_so : (r : Received) (a : AskerValue) (file : Option SessionValue) (notes : List Note) (run : Run)
    → a.stage ≡ stages.Asking
    → IsWell a file run
    → IsAsking a file run []
    → GoesOn (desk a.session file notes run) [] (read_as a r)
read_so (received.Answered report) a file notes run is w here =
    let b = record a { reader = answered a.reader; readings = min (a.readings + 1) most_readings } in
    let at : IsAsking b file run [] = record { due_is = refl; under_way = here.under_way; tests = here.tests; out = λ t u. record { left = (here.out t u).left; out = (here.out t u).out } } in
    record {
      allowed = tt;
      live = refl;
      stands = record {
        well = record { size = w.size; first = w.first; unkept = w.unkept; known = w.known };
        at = subst (λ (s : Stage). StandsAt s b file notes run []) (sym is) at;
      };
    }
read_so (received.Ignored reason) a file notes run is w here =
    idles a file notes run [] (record { well = w; at = subst (λ (s : Stage). StandsAt s a file notes run []) (sym is) here })

taken_as : (r read : Received) (a : AskerValue) (file : Option SessionValue) (notes : List Note) (run : Run)
    → a.stage ≡ stages.Asking
    → IsWell a file run
    → IsAsking a file run []
    → GoesOn (desk (left_by a.session r) file notes (record run { heard = heard_after a.session run.heard r; is_known = known_after run.is_known r })) [] (heard_as a r read)
taken_as (received.Answered report) read a file notes run is w here = answered_so a file notes run report.outcome w here.under_way here.tests
taken_as (received.Ignored reason) read a file notes run is w here = read_so read a file notes run is w here

asking_due : (a : AskerValue) (file : Option SessionValue) (run : Run) (due : List Move) → IsAsking a file run due → IsAsking a file run []
asking_due a file run due h = record { due_is = refl; under_way = h.under_way; tests = h.tests; out = h.out }

pub hears_so : (st : Stage) (a : AskerValue) (file : Option SessionValue) (notes : List Note) (run : Run) (due : List Move) (datagram : List ℕ)
    → Stands a file notes run due
    → StandsAt st a file notes run due
    → a.stage ≡ st
    → GoesOn (desk a.session file notes run) due (hears_at st a datagram)
hears_so stages.Resting a file notes run due datagram all here is = idles a file notes run due all
hears_so stages.Waiting a file notes run due datagram all here is = idles a file notes run due all
hears_so stages.Noting a file notes run due datagram all here is = idles a file notes run due all
hears_so stages.Saving a file notes run due datagram all here is = idles a file notes run due all
hears_so stages.Asking a file notes run due datagram all here is =
    let r = received_of a.session datagram in
    let read = received_of a.reader datagram in
    let P : List Move → Type 0 = λ m. GoesOn (desk a.session file notes run) m (hears_at stages.Asking a datagram) in
    subst P (sym here.due_is)
    (goes_on_after (desk a.session file notes run) (Hears datagram) [] (heard_as a r read) tt
    (taken_as r read a file notes run is all.well (asking_due a file run due here)))
hears_so stages.Telling a file notes run due datagram all here is = idles a file notes run due all
hears_so stages.Over a file notes run due datagram all here is = idles a file notes run due all

-- ---- wake

test_so : (a : AskerValue) (wanted : Option Ask) (file : Option SessionValue) (notes : List Note) (run : Run)
    (first numbers_left now : ℕ)
    → Stands a file notes run []
    → a.is_kept ≡ false
    → GoesOn (desk a.session file notes run) [] (tests_wanted a first numbers_left wanted now)
test_so a None file notes run first numbers_left now all u = idles a file notes run [] all
test_so a (Some wanted) file notes run first numbers_left now all u =
    let b = tested a first numbers_left wanted in
    let d = desk a.session file notes run in
    let begins = Starts (setup_with a.settings first) a.session.domain in
    let ask = Begins 0 (asked_request (question a.drawn wanted)) in
    let r = unsent_run false in
    let no_file = all.well.unkept u in
    let is_question_ = is_one a.drawn wanted all.well.size in
    let has : HasIt file b.session = subst (λ (f : Option SessionValue). HasIt f b.session) (sym no_file) is_question_ in
    goes_on_after d begins [] (after_moves (ask ∷ []) (sends b now)) no_file
    (goes_on_after (moved d begins) ask [] (sends b now) (refl, subst IsFree (sym no_file) tt, inl is_question_)
    (sends_so b file notes r [] now
    (record { size = all.well.size; first = refl; unkept = all.well.unkept; known = λ (n : false ≡ true). absurd (cc) })
    (record { waiting = refl; has = has })
    (λ t v. is_question_) (λ (t : true ≡ false) u. absurd (cc))))

has_more : (a : AskerValue) → has_more_numbers a ≡ true → a.is_kept ≡ false
has_more a h =
    let outer = and_parts (is_new_session a) _ h in
    let inner = and_parts a.is_testing _ outer.0 in
    not_so a.is_kept inner.1

reads_so : (wanted : Option Ask) (a : AskerValue) (file : Option SessionValue) (notes : List Note) (run : Run) (now : ℕ)
    → a.stage ≡ stages.Asking
    → IsWell a file run
    → IsAsking a file run []
    → GoesOn (desk a.session file notes run) [] (reads_wanted a wanted now)
reads_so None a file notes run now is w here =
    idles a file notes run [] (record { well = w; at = subst (λ (s : Stage). StandsAt s a file notes run []) (sym is) here })
reads_so (Some wanted) a file notes run now is w here =
    let b = has_read a wanted now in
    let at : IsAsking b file run [] = record { due_is = refl; under_way = here.under_way; tests = here.tests; out = λ t u. record { left = (here.out t u).left; out = (here.out t u).out } } in
    record {
      allowed = tt;
      live = refl;
      stands = record {
        well = record { size = w.size; first = w.first; unkept = w.unkept; known = w.known };
        at = subst (λ (s : Stage). StandsAt s b file notes run []) (sym is) at;
      };
    }

pub wakes_so : (st : Stage) (a : AskerValue) (file : Option SessionValue) (notes : List Note) (run : Run) (due : List Move) (now : ℕ)
    → Stands a file notes run due
    → StandsAt st a file notes run due
    → a.stage ≡ st
    → GoesOn (desk a.session file notes run) due (wakes_at st a now)
wakes_so stages.Resting a file notes run due now all here is = idles a file notes run due all
wakes_so stages.Waiting a file notes run due now all here is =
    let P : List Move → Type 0 = λ m. GoesOn (desk a.session file notes run) m (wakes_at stages.Waiting a now) in
    let all_of : Stands a file notes run [] = subst (λ (m : List Move). Stands a file notes run m) here.due_is all in
    subst P (sym here.due_is) (test_so a a.wanted file notes run a.first a.numbers_left now all_of here.unkept)
wakes_so stages.Noting a file notes run due now all here is = idles a file notes run due all
wakes_so stages.Saving a file notes run due now all here is = idles a file notes run due all
wakes_so stages.Asking a file notes run due now all here is =
    let P : List Move → Type 0 = λ m. GoesOn (desk a.session file notes run) m (wakes_at stages.Asking a now) in
    let all_of : Stands a file notes run [] = subst (λ (m : List Move). Stands a file notes run m) here.due_is all in
    let asking = asking_due a file run due here in
    let d = desk a.session file notes run in
    let number = (a.first + 16384) % 65536 in
    let further = tests_wanted a number (a.numbers_left - 1) a.wanted now in
    let over = if has_more_numbers a then further else fails a in
    subst P (sym here.due_is)
    (goes_if a.is_read_due d [] (reads_wanted a a.wanted now) (if not (is_over a) then sends a now else over)
    (λ _. reads_so a.wanted a file notes run now is all.well asking)
    (λ _. goes_if (not (is_over a)) d [] (sends a now) over
    (λ _. sends_so a file notes run [] now all.well here.under_way here.tests here.out)
    (λ _. goes_if (has_more_numbers a) d [] further (fails a)
    (λ (h : has_more_numbers a ≡ true). test_so a a.wanted file notes run number (a.numbers_left - 1) now all_of (has_more a h))
    (λ _. fails_so a file notes run [] all.well))))
wakes_so stages.Telling a file notes run due now all here is = idles a file notes run due all
wakes_so stages.Over a file notes run due now all here is = idles a file notes run due all

-- ---- unsent

-- the desk after the driver says that there was no way
abbrev back : Run → Run
back run = record run { is_out = false }

none_back : (run : Run) → HasNoneOut run → HasNoneOut (back run)
none_back run h = record { none_left = h.none_left; none_out = refl }

may_back : (q : Option RequestValue) (f s : SessionValue) (notes : List Note) (run : Run)
    → MayLeave q f s notes run
    → MayLeave q f s notes (back run)
may_back None f s notes run h = tt
may_back (Some q) f s notes run (inl h) = inl h
may_back (Some q) f s notes run (inr (inl h)) = inr (inl h)
may_back (Some q) f s notes run (inr (inr (inl h))) = inr (inr (inl h))
may_back (Some q) f s notes run (inr (inr (inr h))) =
    inr (inr (inr (record { none = none_back run h.none; idle = h.idle; anew = h.anew; first = h.first })))

leaves_back : (file : Option SessionValue) (s : SessionValue) (notes : List Note) (run : Run)
    → LeavesTold file s notes run
    → LeavesTold file s notes (back run)
leaves_back None s notes run h = tt
leaves_back (Some f) s notes run h = may_back f.unanswered f s notes run h

well_back : (a : AskerValue) (file : Option SessionValue) (run : Run) → IsWell a file run → IsWell a file (back run)
well_back a file run w = record { size = w.size; first = w.first; unkept = w.unkept; known = w.known }

abbrev is_asking : Stage → Bool
is_asking stages.Resting = false
is_asking stages.Waiting = false
is_asking stages.Noting = false
is_asking stages.Saving = false
is_asking stages.Asking = true
is_asking stages.Telling = false
is_asking stages.Over = false

-- an asker that does not ask is as it was
idle_back : (st : Stage) (a : AskerValue) (file : Option SessionValue) (notes : List Note) (run : Run) (due : List Move)
    → is_asking st ≡ false
    → StandsAt st a file notes run due
    → StandsAt st a file notes (back run) due
idle_back stages.Resting a file notes run due i h = h
idle_back stages.Waiting a file notes run due i h = h
idle_back stages.Noting a file notes run due i h = record { due_is = h.due_is; rests = h.rests; none_left = h.none_left; known = h.known }
idle_back stages.Saving a file notes run due i h = record {
  due_is = h.due_is;
  leaves = leaves_back file a.session notes run h.leaves;
  tests = h.tests;
  unsent = λ t v. none_back run (h.unsent t v);
  known = h.known;
  none_left = h.none_left;
}
idle_back stages.Asking a file notes run due i h = cc
idle_back stages.Telling a file notes run due i h = record {
  outcome = h.outcome;
  due_is = h.due_is;
  is_heard = h.is_heard;
  known = h.known;
  nothing = h.nothing;
  of_latest = h.of_latest;
  none_left = h.none_left;
}
idle_back stages.Over a file notes run due i h = h

-- a request that did not leave stays under way
stays_so : (a : AskerValue) (what : Earlier) (file : Option SessionValue) (notes : List Note) (run : Run) (due : List Move)
    → IsWell a file run
    → RestsWith what file a.session
    → GoesOn (desk a.session file notes run) due (stays a what)
stays_so a what file notes run due w rests = record {
  allowed = tt;
  live = refl;
  stands = record {
    well = record { size = w.size; first = w.first; unkept = w.unkept; known = w.known };
    at = record { due_is = refl; rests = rests };
  };
}

unsettled_so : (e : Earlier) (file : Option SessionValue) (s : SessionValue)
    → IsUnderWay file s
    → is_unsettled e ≡ true
    → RestsWith e file s
unsettled_so earlier.NoRequest file s under h = cc
unsettled_so earlier.Question file s under h = cc
unsettled_so earlier.Reads file s under h = under
unsettled_so (earlier.MovesTo domain) file s under h = under
unsettled_so earlier.Changes file s under h = under

back_leaves_so : (file : Option SessionValue) (s t : SessionValue) (notes : List Note) (run : Run)
    → HasIt file s
    → HasNoneOut run
    → is_waiting t ≡ false
    → t.issued ≡ 0
    → t.setup.first ≡ latest_number s
    → LeavesTold file t notes run
back_leaves_so None s t notes run has none idle anew first = tt
back_leaves_so (Some f) s t notes run has none idle anew first =
    back_leaves f t notes run (record { none = none; idle = idle; anew = anew; first = first ∙ sym has.1 })

takes_back_so : (a : AskerValue) (file : Option SessionValue) (notes : List Note) (run : Run) (due : List Move)
    → IsWell a file run
    → IsUnderWay file a.session
    → HasNoneOut run
    → GoesOn (desk a.session file notes run) due (takes_back a)
takes_back_so a file notes run due w under none =
    let b = taken_back a in
    let same = ap (λ n. number_of n a.session.issued) w.first in
    goes_on_after (desk a.session file notes run) (TakesBack (setup_with a.settings (latest a))) due (saves b) (none, under.waiting, same)
    (saves_so b file notes run due
    (record { size = w.size; first = refl; unkept = w.unkept; known = w.known })
    (back_leaves_so file a.session b.session notes run under.has none refl refl same)
    (λ t (v : false ≡ true). absurd (cc)) (λ t (v : false ≡ true). absurd (cc)) (λ v (s : false ≡ true). absurd (cc)) refl)

no_way_so : (a : AskerValue) (file : Option SessionValue) (notes : List Note) (run : Run) (due : List Move)
    → a.stage ≡ stages.Asking
    → IsWell a file run
    → IsAsking a file run due
    → GoesOn (desk a.session file notes (back run)) due (has_no_way a)
no_way_so a file notes run due is w here =
    let b = record a { is_out = false } in
    let r = back run in
    let d = desk a.session file notes r in
    let v = well_back a file run w in
    let vb : IsWell b file r = record { size = w.size; first = w.first; unkept = w.unkept; known = w.known } in
    let rest = if a.is_testing then stays b earlier.Question else if is_unsettled a.earlier then stays b a.earlier else takes_back b in
    let further = if is_unsettled a.earlier then stays b a.earlier else takes_back b in
    let nothing = turn b outputs.Nothing [] in
    goes_if (not a.is_out) d due (idle a) (if a.has_left then nothing else rest)
    (λ (n : not a.is_out ≡ true).
    let at : IsAsking a file r due = record {
      due_is = here.due_is;
      under_way = here.under_way;
      tests = here.tests;
      out = λ t u. record { left = (here.out t u).left; out = sym (not_so a.is_out n) };
    } in
    idles a file notes r due (record { well = v; at = subst (λ (s : Stage). StandsAt s a file notes r due) (sym is) at }))
    (λ _. goes_if a.has_left d due nothing rest
    (λ _.
    let at : IsAsking b file r due = record {
      due_is = here.due_is;
      under_way = here.under_way;
      tests = here.tests;
      out = λ t u. record { left = (here.out t u).left; out = refl };
    } in
    record {
      allowed = tt;
      live = refl;
      stands = record { well = vb; at = subst (λ (s : Stage). StandsAt s b file notes r due) (sym is) at };
    })
    (λ (l : a.has_left ≡ false). goes_if a.is_testing d due (stays b earlier.Question) further
    (λ (t : a.is_testing ≡ true). stays_so b earlier.Question file notes r due vb
    (record { under_way = here.under_way; asks = here.tests t here.under_way.waiting }))
    (λ (t : a.is_testing ≡ false). goes_if (is_unsettled a.earlier) d due (stays b a.earlier) (takes_back b)
    (λ (u : is_unsettled a.earlier ≡ true). stays_so b a.earlier file notes r due vb (unsettled_so a.earlier file a.session here.under_way u))
    (λ (u : is_unsettled a.earlier ≡ false). takes_back_so b file notes r due vb here.under_way
    (record { none_left = (here.out t u).left ∙ l; none_out = refl })))))

idle_so : (st : Stage) (a : AskerValue) (file : Option SessionValue) (notes : List Note) (run : Run) (due : List Move)
    → Stands a file notes run due
    → StandsAt st a file notes run due
    → a.stage ≡ st
    → is_asking st ≡ false
    → GoesOn (desk a.session file notes (back run)) due (idle a)
idle_so st a file notes run due all here is i =
    let r = back run in
    let at = subst (λ (s : Stage). StandsAt s a file notes r due) (sym is) (idle_back st a file notes run due i here) in
    idles a file notes r due (record { well = well_back a file run all.well; at = at })

unsents_at_so : (st : Stage) (a : AskerValue) (file : Option SessionValue) (notes : List Note) (run : Run) (due : List Move)
    → Stands a file notes run due
    → StandsAt st a file notes run due
    → a.stage ≡ st
    → GoesOn (desk a.session file notes (back run)) due (unsents_at st a)
unsents_at_so stages.Asking a file notes run due all here is = no_way_so a file notes run due is all.well here
unsents_at_so stages.Resting a file notes run due all here is = idle_so stages.Resting a file notes run due all here is refl
unsents_at_so stages.Waiting a file notes run due all here is = idle_so stages.Waiting a file notes run due all here is refl
unsents_at_so stages.Noting a file notes run due all here is = idle_so stages.Noting a file notes run due all here is refl
unsents_at_so stages.Saving a file notes run due all here is = idle_so stages.Saving a file notes run due all here is refl
unsents_at_so stages.Telling a file notes run due all here is = idle_so stages.Telling a file notes run due all here is refl
unsents_at_so stages.Over a file notes run due all here is = idle_so stages.Over a file notes run due all here is refl

pub unsents_so : (a : AskerValue) (file : Option SessionValue) (notes : List Note) (run : Run) (due : List Move)
    → Stands a file notes run due
    → Goes (desk a.session file notes run) (Returns ∷ (unsents a).moves) due (unsents a)
unsents_so a file notes run due all =
    goes_after (desk a.session file notes run) Returns (unsents a).moves due (unsents a) tt
    (unsents_at_so a.stage a file notes run due all all.at refl)

-- ---- what was handed out is done

rests_so : (a : AskerValue) (file : Option SessionValue) (notes : List Note) (run : Run)
    → IsWell a file run
    → IsAtRest file a.session
    → a.earlier ≡ earlier.NoRequest
    → GoesOn (desk a.session file notes run) [] (rests a)
rests_so a file notes run w at none = record {
  allowed = tt;
  live = refl;
  stands = record {
    well = record { size = w.size; first = w.first; unkept = w.unkept; known = w.known };
    at = record { due_is = refl; rests = subst (λ (e : Earlier). RestsWith e file a.session) (sym none) at };
  };
}

is_none : (q : Option RequestValue) → is_some q ≡ false → q ≡ None
is_none None h = refl
is_none (Some q) h = cc

free_none : (q : Option RequestValue) → q ≡ None → IsFreeOf q
free_none None h = tt
free_none (Some q) h = cc

goes_on_so : (wanted : Option Ask) (a : AskerValue) (file : Option SessionValue) (notes : List Note) (run : Run)
    → IsWell a file run
    → IsAtRest file a.session
    → a.earlier ≡ earlier.NoRequest
    → IsKnown a.wanted run
    → GoesOn (desk a.session file notes run) [] (goes_on wanted a)
goes_on_so None a file notes run w at none known =
    let b = record a { is_taken_back = false } in
    goes_if a.is_taken_back (desk a.session file notes run) [] (stays b a.earlier) (rests a)
    (λ _. stays_so b a.earlier file notes run [] (record { size = w.size; first = w.first; unkept = w.unkept; known = w.known })
    (subst (λ (e : Earlier). RestsWith e file a.session) (sym none) at))
    (λ _. rests_so a file notes run w at none)
goes_on_so (Some wanted) a file notes run w at none known = announces_so a file notes run [] w at none known

saved_so : (a : AskerValue) (file : Option SessionValue) (notes : List Note) (run : Run) (due : List Move) (now : ℕ)
    → IsWell a file run
    → IsSaving a file notes run due
    → Goes (desk a.session file notes run) (Saves ∷ (goes_on_saved a now).moves) [] (goes_on_saved a now)
saved_so a file notes run due now w here =
    let b = record a { is_kept = true } in
    let s = a.session in
    let v : IsWell b (Some s) run = record { size = w.size; first = w.first; unkept = λ (e : true ≡ false). absurd (cc); known = w.known } in
    goes_after (desk s file notes run) Saves (goes_on_saved a now).moves [] (goes_on_saved a now) here.leaves
    (goes_if (is_waiting s) (desk s (Some s) notes run) [] (resumes b now) (goes_on a.wanted b)
    (λ (h : is_waiting s ≡ true). resumes_so b (Some s) notes run [] now v (record { waiting = h; has = (refl, refl) }) here.tests
    (λ t u. here.unsent t h))
    (λ (h : is_waiting s ≡ false).
    let nothing = is_none s.unanswered h in
    goes_on_so a.wanted b (Some s) notes run v
    (record { nothing = nothing; free = free_none s.unanswered nothing }) here.none_left (here.known h)))

begins_so : (wanted : Option Ask) (a : AskerValue) (file : Option SessionValue) (notes : List Note) (run : Run) (due : List Move)
    → IsWell a file run
    → IsNoting a file run due
    → IsKnown wanted run
    → Goes (desk a.session file notes run) (Notes (IsBegun a.tag (next a)) ∷ (begins_wanted a wanted).moves) [] (begins_wanted a wanted)
begins_so None a file notes run due w here known =
    let note = IsBegun a.tag (next a) in
    goes_after (desk a.session file notes run) (Notes note) [] [] (rests a) tt
    (rests_so a file (note ∷ notes) run w here.rests here.none_left)
begins_so (Some wanted) a file notes run due w here known =
    let note = IsBegun a.tag (next a) in
    let asked = asked_request wanted in
    let b = record a { session = begun a.session asked; wanted = None; is_testing = false } in
    let d = desk a.session file (note ∷ notes) run in
    let r = unsent_run run.is_known in
    let same = ap (λ n. number_of n (a.session.issued + 1)) w.first in
    goes_after (desk a.session file notes run) (Notes note) (Begins a.tag asked ∷ []) [] (begins_wanted a (Some wanted)) tt
    (goes_on_after d (Begins a.tag asked) [] (saves b) (nothing_waits a.session here.rests.nothing, here.rests.free, inr ((refl, same), known refl))
    (saves_so b file (note ∷ notes) r [] (record { size = w.size; first = w.first; unkept = w.unkept; known = w.known })
    (free_leaves file b.session (note ∷ notes) r here.rests.free) (λ (t : false ≡ true) v. absurd (cc))
    (λ t v. record { none_left = refl; none_out = refl }) (λ (v : true ≡ false) s. absurd (cc)) here.none_left))

told_file : (file : Option SessionValue) (s : SessionValue) (tag n m : ℕ) (outcome : Outcome) (notes : List Note) (run : Run)
    → IsOfLatest file n
    → m ≡ n
    → LeavesTold file s (IsTold tag m outcome ∷ notes) run
told_file None s tag n m outcome notes run h e = tt
told_file (Some f) s tag n m outcome notes run h e = told_leaves f s (IsTold tag m outcome ∷ notes) run (e ∙ sym h)

told_so : (a : AskerValue) (file : Option SessionValue) (notes : List Note) (run : Run) (due : List Move)
    → IsWell a file run
    → (here : IsTelling a file run due)
    → Goes (desk a.session file notes run) (Notes (IsTold a.tag (latest a) here.outcome) ∷ []) [] (saves a)
told_so a file notes run due w here =
    let note = IsTold a.tag (latest a) here.outcome in
    let same = ap (λ n. number_of n a.session.issued) w.first in
    goes_after (desk a.session file notes run) (Notes note) [] [] (saves a) here.is_heard
    (saves_so a file (note ∷ notes) run [] w
    (told_file file a.session a.tag (latest_number a.session) (latest a) here.outcome notes run here.of_latest same)
    (λ t v. absurd (both_ways (is_waiting a.session) v (nothing_waits a.session here.nothing)))
    (λ t v. absurd (both_ways (is_waiting a.session) v (nothing_waits a.session here.nothing)))
    (λ v s. here.known) here.none_left)

nothing_due : (a : AskerValue) (file : Option SessionValue) (notes : List Note) (run : Run) (due : List Move)
    → Stands a file notes run due
    → due ≡ []
    → Goes (desk a.session file notes run) (due ++ []) [] (idle a)
nothing_due a file notes run due all is =
    let P : List Move → Type 0 = λ m. Goes (desk a.session file notes run) (m ++ []) [] (idle a) in
    subst P (sym is) (idles a file notes run [] (subst (λ (m : List Move). Stands a file notes run m) is all))

pub done_so : (st : Stage) (a : AskerValue) (file : Option SessionValue) (notes : List Note) (run : Run) (due : List Move) (now : ℕ)
    → Stands a file notes run due
    → StandsAt st a file notes run due
    → Goes (desk a.session file notes run) (due ++ (done_at st a now).moves) [] (done_at st a now)
done_so stages.Resting a file notes run due now all here = nothing_due a file notes run due all here.due_is
done_so stages.Waiting a file notes run due now all here = nothing_due a file notes run due all here.due_is
done_so stages.Noting a file notes run due now all here =
    let t = done_at stages.Noting a now in
    let P : List Move → Type 0 = λ m. Goes (desk a.session file notes run) (m ++ t.moves) [] t in
    subst P (sym here.due_is) (begins_so a.wanted a file notes run due all.well here here.known)
done_so stages.Saving a file notes run due now all here =
    let t = done_at stages.Saving a now in
    let P : List Move → Type 0 = λ m. Goes (desk a.session file notes run) (m ++ t.moves) [] t in
    subst P (sym here.due_is) (saved_so a file notes run due now all.well here)
done_so stages.Asking a file notes run due now all here = nothing_due a file notes run due all here.due_is
done_so stages.Telling a file notes run due now all here =
    let t = done_at stages.Telling a now in
    let P : List Move → Type 0 = λ m. Goes (desk a.session file notes run) (m ++ t.moves) [] t in
    subst P (sym here.due_is) (told_so a file notes run due all.well here)
done_so stages.Over a file notes run due now all here = nothing_due a file notes run due all here
