-- What a step and a run lead to: they go where the machine goes, serve the same sessions, and change a clock by its requests alone.
use Rattle.ptpm_world.proofs.Common.{arith, sym, subst, ◌∙◌, ◌≡◌, result_err, Happened, network_event, Result, Ok, Err, List, [], ◌∷◌, ◌++◌, Some, None, false, ap, cond-true, cond-false, append-nil, append_assoc, is_none, option_map, IsInRange, Refusal, refusal, StandsAfter, AreInTime, is_late_delivery, run, step, taken, Network, RunningNetwork, NetworkState, initial_state, StepError, Took, World, running, IsStep, ℕ, IsOkAnd, OnOk, Leads}
use Rattle.ptpm_network.specs.Events.{Event}
use Rattle.ptpm_network.proofs.Promise.{stands-event, stands-judged}
use Rattle.ptpm_network.proofs.Taking.{in_time-parts, run-append, taken-append}
use Rattle.ptpm_world.specs.Stepping.{IsMachineStep}
use Rattle.ptpm_world.proofs.Ending.{err_is, happened, refused_by, step-went}
use Rattle.ptpm_network.specs.ByManager.{Account, StaysInTime, account_from, account_while, account_with, in_time_while, is_late_for}
use Rattle.ptpm_network.specs.Served.{IsServedSoFar}
use Rattle.ptpm_network.proofs.Served.{served-event}
use Rattle.std.specs.Prelude.{IfOk}
use Rattle.ptpm_agent.specs.CarriedOut.{after_requests}
use Rattle.ptpm_network.specs.CarriedOut.{carried_by_event, carried_by_events, carried_while}
use Rattle.ptpm_network.proofs.CarriedOut.{event-carried, then-carried}

-- ---- from where a list of events led, a world goes on as the machine does

-- ---- a step

pub step-machine : (N : Network) (past : List Event) (old new : World) (e : Event)
    (result : Result Took StepError)
    → IsStep N old new e result
    → StandsAfter N past (running old)
    → IsInRange e
    → IsMachineStep N past new e result
step-machine N past old new e (Ok t) step at range =
    let h = happened (network_event N (running old) e) (running new) (step-went N old new e t step) in
    record {
      stands = λ prompt. subst (λ (r : RunningNetwork). StandsAfter N (past ++ e ∷ []) r) (sym h.2) (stands-event N past (running old) e h.0 at range h.1 prompt);
      taken = sym (stands-judged N past (running old) e at) ∙ ap (λ (x : Result Happened Refusal). result_err x) h.1;
      reason = tt;
    }
step-machine N past old new e (Err why) step at range = grind (arith, option_map, stands-judged, refused_by, err_is)

-- ---- what was carried out so far

-- after these events and those, if all are taken
pub record HasGoneOn (N : Network) (past es : List Event) (r : RunningNetwork) : Type 0 where
  pub stands : StandsAfter N (past ++ es) r
  pub whole : taken N (run N (initial_state N) past) es ≡ es

pub gone_on-none : (N : Network) (past : List Event) (r : RunningNetwork)
    → StandsAfter N past r
    → HasGoneOn N past [] r
gone_on-none N past r at = grind (arith, append-nil)

taken-fine : (N : Network) (w : NetworkState) (e : Event)
    → refusal N w e ≡ None
    → taken N w (e ∷ []) ≡ e ∷ []
taken-fine N w e none = cond-true _ _ _ (ap is_none none)

-- and one event more, said by names that stayed the same
pub gone_on-more : (N : Network) (past es : List Event) (now new : RunningNetwork) (e f : Event)
    → f ≡ e
    → (AreInTime N (run N (initial_state N) past) es → HasGoneOn N past es now)
    → ((events : List Event)
    → StandsAfter N events now
    → refusal N (run N (initial_state N) events) f ≡ None)
    → ((events : List Event)
    → StandsAfter N events now
    → is_late_delivery (run N (initial_state N) events) f ≡ false
    → StandsAfter N (events ++ f ∷ []) new)
    → AreInTime N (run N (initial_state N) past) (es ++ e ∷ [])
    → HasGoneOn N past (es ++ e ∷ []) new
gone_on-more N past es now new e f same before permitted goes time =
    let w : NetworkState = run N (initial_state N) past in
    let both = in_time-parts N w es (e ∷ []) time in
    let so_far = before both.0 in
    let there : run N (initial_state N) (past ++ es) ≡ run N w es = run-append N (initial_state N) past es in
    let none : refusal N (run N w es) e ≡ None = grind (arith) in
    let prompt : is_late_delivery (run N (initial_state N) (past ++ es)) f ≡ false = grind (arith) in grind (arith, append_assoc, taken-append, taken-fine)

-- if the next is refused, no more is taken
pub taken-stops : {B : Type 0} (f : Refusal → B) (y : B) (N : Network) (past es rest : List Event)
    (e : Event) (r : RunningNetwork)
    → HasGoneOn N past es r
    → option_map f (refusal N (run N (initial_state N) (past ++ es)) e) ≡ Some y
    → taken N (run N (initial_state N) past) (es ++ e ∷ rest) ≡ es
taken-stops f y N past es rest e r gone why = grind (arith, run-append, taken-append, cond-false, append-nil)

-- ---- a step, and a run, serve each session whose own messages come in time, whatever comes late of others

-- ---- a step

pub step-serves : (N : Network) (s : ℕ) (old new : World) (a : Account) (e : Event)
    (result : Result Took StepError)
    → IsStep N old new e result
    → IsServedSoFar N s (running old) a
    → IsInRange e
    → is_late_for N s (running old) e ≡ false
    → OnOk result (IsServedSoFar N s (running new) (account_with N s (running old) e a))
step-serves N s old new a e (Ok t) step at range prompt =
    let h = happened (network_event N (running old) e) (running new) (step-went N old new e t step) in
    subst (λ (z : RunningNetwork). IsServedSoFar N s z (account_with N s (running old) e a)) (sym h.2) (served-event N s (running old) a e h.0 at range h.1 prompt)
step-serves N s old new a e (Err why) step at range prompt = tt

-- ---- a list of events, and one more

-- none of these came late for the session, nor does this one after them; and what the account says of it
record IsTold (N : Network) (s : ℕ) (r now : RunningNetwork) (a : Account) (es : List Event) (e : Event) : Type 0 where
  pub so_far : StaysInTime N s r es
  pub prompt : is_late_for N s now e ≡ false
  pub account : account_from N s r a (es ++ e ∷ []) ≡ account_with N s now e (account_from N s r a es)

told-behind : (N : Network) (s : ℕ) (r now : RunningNetwork) (a : Account) (d e : Event)
    (es : List Event) (x : Result Happened Refusal)
    → IsOkAnd x (λ h. Leads N h.network es now)
    → in_time_while x (is_late_for N s r d) (λ next. StaysInTime N s next (es ++ e ∷ []))
    → ((next : RunningNetwork) → Leads N next es now → StaysInTime N s next (es ++ e ∷ []) → IsTold N s next now (account_with N s r d a) es e)
    → in_time_while x (is_late_for N s r d) (λ next. StaysInTime N s next es)
    × (is_late_for N s now e ≡ false)
    × (account_while x a (λ next. account_from N s next (account_with N s r d a) (es ++ e ∷ []))
    ≡ account_with N s now e (account_while x a (λ next. account_from N s next (account_with N s r d a) es)))
told-behind N s r now a d e es (Ok h) leads time rest =
    let told = rest h.network leads time.1 in
    ((time.0, told.so_far), told.prompt, told.account)
told-behind N s r now a d e es (Err why) leads time rest = absurd leads

told : (N : Network) (s : ℕ) (r now new : RunningNetwork) (a : Account) (es : List Event) (e : Event)
    → Leads N r es now
    → IsOkAnd (network_event N now e) (λ h. new ≡ h.network)
    → StaysInTime N s r (es ++ e ∷ [])
    → IsTold N s r now a es e
told N s r now new a [] e leads went time = grind arith
told N s r now new a (d ∷ es) e leads went time =
    let behind = told-behind N s r now a d e es (network_event N r d) leads time
    (λ next more timely. told N s next now new (account_with N s r d a) es e more went timely) in grind (arith)

-- the state to which the events so far lead, and one more, said by a name that stayed the same
pub served-more : (N : Network) (s : ℕ) (r now new : RunningNetwork) (a : Account)
    (es : List Event) (e f : Event)
    → f ≡ e
    → Leads N r es now
    → IsOkAnd (network_event N now f) (λ h. new ≡ h.network)
    → (StaysInTime N s r es → IsServedSoFar N s now (account_from N s r a es))
    → ((b : Account) → IsServedSoFar N s now b → is_late_for N s now f ≡ false → IsServedSoFar N s new (account_with N s now f b))
    → StaysInTime N s r (es ++ e ∷ [])
    → IsServedSoFar N s new (account_from N s r a (es ++ e ∷ []))
served-more N s r now new a es e f same leads went before serves time =
    let one = told N s r now new a es e leads (subst (λ (x : Event). IsOkAnd (network_event N now x) (λ h. new ≡ h.network)) same went) time in
    let so_far = account_from N s r a es in grind (arith)

-- ---- a step, and a run, change nothing of a clock but by the requests that it carries out

pub step-carries : (N : Network) (c : ℕ) (old new : World) (e : Event) (result : Result Took StepError)
    → IsStep N old new e result
    → OnOk result ((running new).clock c ≡ after_requests (N.clock c) ((running old).clock c) (carried_by_event N (running old) c e))
step-carries N c old new e (Ok t) step =
    let h = happened (network_event N (running old) e) (running new) (step-went N old new e t step) in
    ap (λ (r : RunningNetwork). r.clock c) h.2
    ∙ subst (λ (x : Result Happened Refusal). IfOk x (λ k. k.network.clock c ≡ after_requests (N.clock c) ((running old).clock c) (carried_by_event N (running old) c e))) h.1 (event-carried N (running old) c e)
step-carries N c old new e (Err why) step = tt

goes_on-carries : (N : Network) (r new : RunningNetwork) (c : ℕ) (e : Event) (es : List Event)
    (x : Result Happened Refusal)
    → IsOkAnd x (λ h. Leads N h.network es new)
    → IfOk x (λ h. h.network.clock c ≡ after_requests (N.clock c) (r.clock c) (carried_by_event N r c e))
    → ((next : RunningNetwork) → Leads N next es new → new.clock c ≡ after_requests (N.clock c) (next.clock c) (carried_by_events N next c es))
    → new.clock c
    ≡ after_requests (N.clock c) (r.clock c) (carried_while x (carried_by_event N r c e) (λ next. carried_by_events N next c es))
goes_on-carries N r new c e es (Ok h) leads now rest = then-carried N r new c e es h now (rest h.network leads)
goes_on-carries N r new c e es (Err why) leads now rest = absurd leads

-- where these events lead
pub leads-carried : (N : Network) (r new : RunningNetwork) (c : ℕ) (es : List Event)
    → Leads N r es new
    → new.clock c ≡ after_requests (N.clock c) (r.clock c) (carried_by_events N r c es)
leads-carried N r new c [] leads = ap (λ (s : RunningNetwork). s.clock c) leads
leads-carried N r new c (e ∷ es) leads =
    goes_on-carries N r new c e es (network_event N r e) leads (event-carried N r c e) (λ next more. leads-carried N next new c es more)

-- ---- a list of events, and one more

on_and : (x : Result Happened Refusal) (P Q : Happened → Type 0)
    → ((h : Happened) → P h → Q h)
    → IsOkAnd x P
    → IsOkAnd x Q
on_and (Ok h) P Q on p = on h p
on_and (Err why) P Q on p = absurd p

-- the state to which the events so far lead, and one more, said by a name that stayed the same
pub leads-more : (N : Network) (r now new : RunningNetwork) (es : List Event) (e f : Event)
    → Leads N r es now
    → f ≡ e
    → IsOkAnd (network_event N now f) (λ h. new ≡ h.network)
    → Leads N r (es ++ e ∷ []) new
leads-more N r now new [] e f at same went =
    subst (λ (s : RunningNetwork). IsOkAnd (network_event N s e) (λ h. new ≡ h.network)) at
    (subst (λ (x : Event). IsOkAnd (network_event N now x) (λ h. new ≡ h.network)) same went)
leads-more N r now new (x ∷ xs) e f at same went =
    on_and (network_event N r x) (λ h. Leads N h.network xs now) (λ h. Leads N h.network (xs ++ e ∷ []) new) (λ h there. leads-more N h.network now new xs e f there same went) at
