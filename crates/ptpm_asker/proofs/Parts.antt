-- Turns that others are made of, and how they go on.
use Rattle.std.proofs.Common.{◌≡◌, ◌≤◌, ℕ, Bool, true, false, List, [], ◌∷◌, length, take, Option, Some, None, inl, inr, refl, sym, ap, subst, is_some, cond, ◌==◌, ◌&&◌, ◌||◌, arith}
use Rattle.std.proofs.lemmas.Bool.{cond_both}
use Rattle.std.proofs.lemmas.List.{length-take-le}
use Rattle.ptpm_data.specs.ManagementId.{is_of_port}
use Rattle.ptpm_data.specs.Request.{RequestValue}
use Rattle.ptpm_manager.specs.declared.ask.Ask.{Ask}
use Rattle.ptpm_manager.specs.Ask.{request_at_port, request_of}
use Rattle.ptpm_manager.specs.Session.{SessionValue, is_waiting, resumed, send_refusal, sent}
use Rattle.ptpm_asker.specs.declared.earlier.Earlier.TheVariants as earlier
use Rattle.ptpm_asker.specs.declared.output.Output.TheVariants as outputs
use Rattle.ptpm_asker.specs.Asker.{AskerValue}
use Rattle.ptpm_asker.specs.Desk.{HasNoneOut, IsFree, IsFreeOf, IsTakenBack, Run, LeavesTold, MayLeave, Move, Note, Resumes, SaysTold, Sends, latest_number}
use Rattle.ptpm_asker.specs.Question.{asked_request, is_question, question}
use Rattle.ptpm_asker.specs.Turns.{announces, fails, has_sent, idle, is_unsettled, next_wake, resumes, saves, sends, turn}
use Rattle.ptpm_asker.proofs.Standing.{GoesOn, IsAtRest, IsKnown, IsUnderWay, IsUnsent, IsWell, KnowsOut, Stands, TestsQuestion, desk, goes_if, goes_on_after}

pub idles : (a : AskerValue) (file : Option SessionValue) (notes : List Note) (run : Run) (due : List Move)
    → Stands a file notes run due
    → GoesOn (desk a.session file notes run) due (idle a)
idles a file notes run due h = record { allowed = tt; live = refl; stands = h }

pub fails_so : (a : AskerValue) (file : Option SessionValue) (notes : List Note) (run : Run) (due : List Move)
    → IsWell a file run
    → GoesOn (desk a.session file notes run) due (fails a)
fails_so a file notes run due w =
    record { allowed = tt; live = refl; stands = record { well = record { size = w.size; first = w.first; unkept = w.unkept; known = w.known }; at = refl } }

pub saves_so : (a : AskerValue) (file : Option SessionValue) (notes : List Note) (run : Run) (due : List Move)
    → IsWell a file run
    → LeavesTold file a.session notes run
    → TestsQuestion a
    → IsUnsent a run
    → (is_waiting a.session ≡ false → IsKnown a.wanted run)
    → a.earlier ≡ earlier.NoRequest
    → GoesOn (desk a.session file notes run) due (saves a)
saves_so a file notes run due w leaves tests unsent known none = record {
  allowed = tt;
  live = refl;
  stands = record {
    well = record { size = w.size; first = w.first; unkept = w.unkept; known = w.known };
    at = record { due_is = refl; leaves = leaves; tests = tests; unsent = unsent; known = known; none_left = none };
  };
}

pub announces_so : (a : AskerValue) (file : Option SessionValue) (notes : List Note) (run : Run) (due : List Move)
    → IsWell a file run
    → IsAtRest file a.session
    → a.earlier ≡ earlier.NoRequest
    → IsKnown a.wanted run
    → GoesOn (desk a.session file notes run) due (announces a)
announces_so a file notes run due w rests none known = record {
  allowed = tt;
  live = refl;
  stands = record {
    well = record { size = w.size; first = w.first; unkept = w.unkept; known = w.known };
    at = record { due_is = refl; rests = rests; none_left = none; known = known };
  };
}

both_or : (b c d e : Bool) → b ≡ d → c ≡ e → (b || c) ≡ (d || e)
both_or b c d e p q = subst (λ (x : Bool). (b || c) ≡ (x || e)) p (ap (λ x. b || x) q)

pub sends_so : (a : AskerValue) (file : Option SessionValue) (notes : List Note) (run : Run) (due : List Move) (now : ℕ)
    → IsWell a file run
    → IsUnderWay file a.session
    → TestsQuestion a
    → KnowsOut a run
    → GoesOn (desk a.session file notes run) due (sends a now)
sends_so a file notes run due now w under tests out =
    goes_if (is_some (send_refusal a.session)) (desk a.session file notes run) due (fails a)
    (turn (has_sent (record a { session = sent a.session }) now) (outputs.Send (next_wake a now)) (Sends ∷ []))
    (λ _. fails_so a file notes run due w)
    (λ _. record {
      allowed = ((under.waiting, under.has), tt);
      live = refl;
      stands = record {
        well = record { size = w.size; first = w.first; unkept = w.unkept; known = w.known };
        at = record {
          due_is = refl;
          under_way = record { waiting = under.waiting; has = under.has };
          tests = tests;
          out = λ t u. let o = out t u in record { left = both_or run.has_left run.is_out a.has_left a.is_out o.left o.out; out = refl };
        };
      };
    })

pub resumes_so : (a : AskerValue) (file : Option SessionValue) (notes : List Note) (run : Run) (due : List Move) (now : ℕ)
    → IsWell a file run
    → IsUnderWay file a.session
    → TestsQuestion a
    → (a.is_testing ≡ false → is_unsettled a.earlier ≡ false → HasNoneOut run)
    → GoesOn (desk a.session file notes run) due (resumes a now)
resumes_so a file notes run due now w under tests none =
    let b = record a { session = resumed a.session a.settings.attempts; has_left = false; is_out = false } in
    let u : IsUnderWay file b.session = record { waiting = under.waiting; has = under.has } in
    let v : IsWell b file run = record { size = w.size; first = w.first; unkept = w.unkept; known = w.known } in
    goes_if (is_waiting a.session) (desk a.session file notes run) due _ (fails a)
    (λ _. goes_on_after (desk a.session file notes run) (Resumes a.settings.attempts) due (sends b now) tt
    (sends_so b file notes run due now v u tests
    (λ t s. let n = none t s in record { left = n.none_left; out = n.none_out })))
    (λ _. fails_so a file notes run due w)

-- ---- what may be saved

free_may : (q : Option RequestValue) (f s : SessionValue) (notes : List Note) (run : Run) → IsFreeOf q → MayLeave q f s notes run
free_may None f s notes run h = tt
free_may (Some q) f s notes run h = inr (inl h)

pub free_leaves : (file : Option SessionValue) (s : SessionValue) (notes : List Note) (run : Run) → IsFree file → LeavesTold file s notes run
free_leaves None s notes run h = tt
free_leaves (Some f) s notes run h = free_may f.unanswered f s notes run h

told_may : (q : Option RequestValue) (f s : SessionValue) (notes : List Note) (run : Run)
    → SaysTold notes (latest_number f)
    → MayLeave q f s notes run
told_may None f s notes run h = tt
told_may (Some q) f s notes run h = inr (inr (inl h))

pub told_leaves : (f s : SessionValue) (notes : List Note) (run : Run)
    → SaysTold notes (latest_number f)
    → LeavesTold (Some f) s notes run
told_leaves f s notes run h = told_may f.unanswered f s notes run h

back_may : (q : Option RequestValue) (f s : SessionValue) (notes : List Note) (run : Run) → IsTakenBack f s run → MayLeave q f s notes run
back_may None f s notes run h = tt
back_may (Some q) f s notes run h = inr (inr (inr h))

pub back_leaves : (f s : SessionValue) (notes : List Note) (run : Run) → IsTakenBack f s run → LeavesTold (Some f) s notes run
back_leaves f s notes run h = back_may f.unanswered f s notes run h

-- ---- questions

taken : (drawn : List ℕ) (n : ℕ) → length drawn ≡ 26 → n ≤ 26 → length (take n drawn) ≡ n
taken drawn n h l = let le : n ≤ length drawn = omega arith in length-take-le n drawn le

one_of : (b : Bool) (drawn : List ℕ)
    → length drawn ≡ 26
    → ((cond b 0x2004 0x2000 == 0x2000) && (length (take (cond b 26 20) drawn) == 20))
    || ((cond b 0x2004 0x2000 == 0x2004) && (length (take (cond b 26 20) drawn) == 26))
    ≡ true
one_of true drawn h = subst (λ (n : ℕ). (n == 26) ≡ true) (sym (taken drawn 26 h (omega arith))) refl
one_of false drawn h = subst (λ (n : ℕ). ((n == 20) || false) ≡ true) (sym (taken drawn 20 h (omega arith))) refl

pub is_one : (drawn : List ℕ) (wanted : Ask) → length drawn ≡ 26 → is_question (asked_request (question drawn wanted)) ≡ true
is_one drawn wanted h =
    let q = question drawn wanted in
    let one = one_of (is_of_port wanted.id) drawn h in
    cond_both (is_some wanted.port) (request_at_port q) (request_of q) (λ (r : RequestValue). is_question r ≡ true) (λ _. one) (λ _. one)
