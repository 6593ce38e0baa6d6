-- What a report is worth: its request was carried out exactly once, and the report gives the answer of that moment.
use Rattle.ptpm_network.proofs.Common.{by_test, suc, zero, arith, ◌≡◌, ℕ, ◌<◌, ◌≤◌, ◌+◌, ◌-◌, ◌==◌, ◌&&◌, max, Bool, List, [], ◌∷◌, ◌++◌, Some, None, refl, sym, ◌∙◌, ap, subst, ⊎_elim, ◌⊎◌, inl, inr, length, length-append, append_assoc, and_parts, and_left, and_right, eqb-true, ltb-true, ne_eqb, cond-true, cond-false, lt-ltb, append-nil, is_some, not, slice_get, AllByRecursion, find, PortIdentity, same_identity, first_of, DataSetsValue, Answer, RequestValue, same_identity-true, Accepted, History, RequestCopy, accepted_from, after_copy, applied_once, initial_history, greatest, joins, kept_reply, Clock, Ask, Report, begin_refusal, Begin, BeginRefused, Event, IsInRange, NoSuchName, no_session, refusal, IsReached, WasAccepted, run, IsNetwork, Network, manager, NetworkState, SessionState, accepted_at_target, copies_at, initial_state, history, issued, outcomes_kept, reports_by, reports_of, unanswered, IsWorth, WasCarriedOut, entries_of, all_weaker}
use Rattle.std.proofs.Math.Nat.{ne_of_lt}
use Rattle.ptpm_data.proofs.OwnOctets.{some_at}
use Rattle.ptpm_manager.specs.declared.error.BeginError.TheVariants as begins
use Rattle.ptpm_network.proofs.Accepting.{report_of}
use Rattle.ptpm_network.proofs.Reaching.{reached}

-- ---- no request is carried out twice

-- above the greatest index of a manager nothing was accepted
none_above : (m : PortIdentity) (k : ℕ) (es : List Accepted)
    → greatest m es < k
    → entries_of m k es ≡ []
none_above m k [] above = refl
none_above m k (d ∷ es) above = by_test (same_identity m d.manager)
    (λ y. let most : greatest m (d ∷ es) ≡ max d.index (greatest m es) = cond-true _ _ _ y in
    cond-false _ _ _ (and_right _ _ (ne_eqb d.index k (λ q. omega arith))) ∙ none_above m k es (omega arith))
    (λ n. let other : greatest m (d ∷ es) ≡ greatest m es = cond-false _ _ _ n in
    cond-false _ _ _ (and_left _ _ n) ∙ none_above m k es (subst (λ g. g < k) other above))

abbrev pub AreOnce : List Accepted → Type 0
AreOnce es = (m : PortIdentity) (k : ℕ) → length (entries_of m k es) ≤ 1

once-joined : (es : List Accepted) (d : Accepted)
    → greatest d.manager es < d.index → AreOnce es
    → AreOnce (d ∷ es)
once-joined es d above once m k = by_test (same_identity m d.manager && d.index == k)
    (λ y. let parts = and_parts (same_identity m d.manager) (d.index == k) y in
    let at_m : greatest m es < d.index = subst (λ (n : PortIdentity). greatest n es < d.index) (sym (same_identity-true m d.manager parts.0)) above in
    let none : entries_of m k es ≡ [] = grind (arith, none_above, eqb-true) in
    let one : length (entries_of m k (d ∷ es)) ≡ 1 = grind (arith, cond-true) in
    omega (arith, one))
    (λ n. grind (arith, cond-false))

once-copy : (c : Clock) (h : History) (x : RequestCopy)
    → AreOnce h.accepted
    → AreOnce (after_copy c h x).accepted
once-copy c h x once = by_test (joins h x)
    (λ y. let above : greatest x.heard.source h.accepted < x.index = grind (arith, ltb-true, and_parts) in
    subst (λ (g : History). AreOnce g.accepted) (sym (cond-true _ _ _ y)) (once-joined h.accepted (accepted_from c h x) above once))
    (λ n. grind (arith, cond-false))

once-applied : (c : Clock) (h : History) (xs : List RequestCopy)
    → AreOnce h.accepted
    → AreOnce (applied_once c h xs).accepted
once-applied c h [] once = once
once-applied c h (x ∷ xs) once = once-applied c (after_copy c h x) xs (once-copy c h x once)

pub at_most_once : (N : Network) (w : NetworkState) (c : ℕ) → AreOnce (history N w c).accepted
at_most_once N w c = once-applied (N.clock c) (initial_history (N.start c)) (copies_at N w c) (λ m k. omega arith)

-- what is kept is the only entry
first-entry : (m : PortIdentity) (k : ℕ) (es : List Accepted) (e : Accepted)
    → kept_reply m k es ≡ Some e
    → (rest : List Accepted) × (entries_of m k es ≡ e ∷ rest)
first-entry m k [] e kept = absurd (cc)
first-entry m k (d ∷ es) e kept = by_test (same_identity m d.manager && d.index == k)
    (λ y. let same : Some d ≡ Some e = sym (cond-true _ _ _ y) ∙ kept in
    let is : d ≡ e = cc in
    (entries_of m k es, cond-true _ _ _ y ∙ ap (λ (a : Accepted). a ∷ entries_of m k es) is))
    (λ n. let rest = first-entry m k es e (sym (cond-false _ _ _ n) ∙ kept) in
    (rest.0, cond-false _ _ _ n ∙ rest.1))

alone : (e : Accepted) (rest es : List Accepted) → es ≡ e ∷ rest → length es ≤ 1 → es ≡ e ∷ []
alone e [] es is few = is
alone e (d ∷ rest) es is few = let size : length es ≡ suc (suc (length rest)) = ap length is in absurd (omega arith)

-- ---- the moment at which a request was carried out

carried_out-before : (c : Clock) (start : DataSetsValue) (xs : List RequestCopy) (x : RequestCopy)
    (e : Accepted)
    → WasCarriedOut c start xs e
    → WasCarriedOut c start (xs ++ x ∷ []) e
carried_out-before c start xs x e was = grind (arith, append_assoc)

abbrev AreCarriedOut : Clock → DataSetsValue → List RequestCopy → List Accepted → Type 0
AreCarriedOut c start xs es = AllByRecursion (WasCarriedOut c start xs) es

abbrev AllCarriedOut : Clock → DataSetsValue → List RequestCopy → Type 0
AllCarriedOut c start xs = AreCarriedOut c start xs (applied_once c (initial_history start) xs).accepted

applied_once-append : (c : Clock) (h : History) (xs : List RequestCopy) (x : RequestCopy)
    → applied_once c h (xs ++ x ∷ []) ≡ after_copy c (applied_once c h xs) x
applied_once-append c h [] x = refl
applied_once-append c h (y ∷ ys) x = applied_once-append c (after_copy c h y) ys x

carried_out-next : (c : Clock) (start : DataSetsValue) (xs : List RequestCopy) (x : RequestCopy)
    → AllCarriedOut c start xs
    → AllCarriedOut c start (xs ++ x ∷ [])
carried_out-next c start xs x all = grind (arith, applied_once-append, all_weaker, carried_out-before, cond-true, cond-false)

carried_out-from : (c : Clock) (start : DataSetsValue) (xs ys : List RequestCopy)
    → AllCarriedOut c start xs
    → AllCarriedOut c start (xs ++ ys)
carried_out-from c start xs [] all = subst (AllCarriedOut c start) (sym (append-nil xs)) all
carried_out-from c start xs (y ∷ ys) all = subst (AllCarriedOut c start) (append_assoc xs (y ∷ []) ys) (carried_out-from c start (xs ++ y ∷ []) ys (carried_out-next c start xs y all))

found : (P : Accepted → Type 0) (test : Accepted → Bool) (es : List Accepted) (e : Accepted)
    → AllByRecursion P es → find test es ≡ Some e
    → P e
found P test [] e all is = absurd (cc)
found P test (d ∷ es) e all is = by_test (test d)
    (λ y. grind (arith, cond-true))
    (λ n. found P test es e all.1 (sym (cond-false _ _ _ n) ∙ is))

carried_out : (N : Network) (w : NetworkState) (c : ℕ) (m : PortIdentity) (k : ℕ) (e : Accepted)
    → kept_reply m k (history N w c).accepted ≡ Some e
    → WasCarriedOut (N.clock c) (N.start c) (copies_at N w c) e
carried_out N w c m k e kept =
    found (WasCarriedOut (N.clock c) (N.start c) (copies_at N w c)) _ (history N w c).accepted e (carried_out-from (N.clock c) (N.start c) [] (copies_at N w c) tt) kept

-- ---- each report gives the one answer to its request

-- what the report of request k gives
record IsTold (m : PortIdentity) (begun : List RequestValue) (es : List Accepted) (k : ℕ) (report : Report) : Type 0 where
  pub entry : Accepted
  pub kept : kept_reply m k es ≡ Some entry
  pub begun_as : slice_get begun (k - 1) ≡ Some entry.request
  pub answer : Answer
  pub one : entry.reply.answers ≡ answer ∷ []
  pub is : report ≡ report_of k entry answer

get_appended-cases : {X : Type 0} (xs : List X) (y : X) (i : ℕ) (x : X)
    → slice_get (xs ++ y ∷ []) i ≡ Some x
    → (slice_get xs i ≡ Some x) ⊎ ((i ≡ length xs) × (y ≡ x))
get_appended-cases [] y zero x e = inr (refl, cc)
get_appended-cases [] y (suc i) x e = absurd (cc)
get_appended-cases (z ∷ xs) y zero x e = inl e
get_appended-cases (z ∷ xs) y (suc i) x e = ⊎_elim
    (λ (old : slice_get xs i ≡ Some x). inl old)
    (λ (new : (i ≡ length xs) × (y ≡ x)). inr (ap suc new.0, new.1))
    (get_appended-cases xs y i x e)

abbrev AreAccepted : PortIdentity → List RequestValue → List Accepted → Type 0
AreAccepted m begun es = (k : ℕ) → 0 < k → k ≤ greatest m es → WasAccepted m begun es k

reports_of-was : (m : PortIdentity) (begun : List RequestValue) (es : List Accepted) (k : ℕ)
    (was : WasAccepted m begun es k)
    → reports_of k (kept_reply m k es) ≡ report_of k was.entry was.one.answer ∷ []
reports_of-was m begun es k was = ap (reports_of k) was.is ∙ ap (reports_by k was.entry.reply) was.one.is

outcomes-length : (m : PortIdentity) (begun : List RequestValue) (es : List Accepted) (n : ℕ)
    → AreAccepted m begun es → n ≤ greatest m es
    → length (outcomes_kept m es n) ≡ n
outcomes-length m begun es zero all le = refl
outcomes-length m begun es (suc n) all le =
    let was = all (suc n) (omega arith) le in
    let more : length (outcomes_kept m es (suc n)) ≡ length (outcomes_kept m es n) + 1 = grind (arith, reports_of-was, length-append, report_of) in
    omega (arith, more, outcomes-length m begun es n all (omega arith))

told_at : (m : PortIdentity) (begun : List RequestValue) (es : List Accepted) (n i : ℕ) (r : Report)
    → AreAccepted m begun es → n ≤ greatest m es → slice_get (outcomes_kept m es n) i ≡ Some r
    → IsTold m begun es (suc i) r
told_at m begun es zero i r all le e = absurd (cc)
told_at m begun es (suc n) i r all le e =
    let was = all (suc n) (omega arith) le in
    let last : slice_get (outcomes_kept m es n ++ report_of (suc n) was.entry was.one.answer ∷ []) i ≡ Some r = grind (arith, reports_of-was) in
    ⊎_elim
    (λ (old : slice_get (outcomes_kept m es n) i ≡ Some r). told_at m begun es n i r all (omega arith) old)
    (λ (new : (i ≡ length (outcomes_kept m es n)) × (report_of (suc n) was.entry was.one.answer ≡ r)).
    subst (λ j. IsTold m begun es (suc j) r) (sym (new.0 ∙ outcomes-length m begun es n all (omega arith)))
    (record { entry = was.entry; kept = was.is; begun_as = was.begun_as; answer = was.one.answer; one = was.one.is; is = sym new.1 }))
    (get_appended-cases (outcomes_kept m es n) (report_of (suc n) was.entry was.one.answer) i r last)

told : (N : Network) (w : NetworkState) (s i : ℕ) (r : Report)
    → IsReached N w → s < N.sessions → slice_get (w.session s).reports i ≡ Some r
    → IsTold (manager N s) (w.session s).begun (accepted_at_target N w s) (suc i) r
told N w s i r reached place e = grind (arith, told_at, slice_get)

-- ---- the law

module _ (N : Network) (es : List Event) (s i : ℕ) (r : Report) (n : IsNetwork N) (range : AllByRecursion IsInRange es) (place : s < N.sessions) (e : slice_get ((run N (initial_state N) es).session s).reports i ≡ Some r) where
  pub report-index : r.index ≡ i + 1
  report-index =
      let index : r.index ≡ suc i = ap (λ (p : Report). p.index) (told N (run N (initial_state N) es) s i r (reached N es n range) place e).is in
      omega arith

  pub report-worth : IsWorth N (run N (initial_state N) es) s r
  report-worth =
      let w : NetworkState = run N (initial_state N) es in
      let is = told N w s i r (reached N es n range) place e in
      let index : suc i ≡ r.index = sym (ap (λ (p : Report). p.index) is.is) in
      let accepted = accepted_at_target N w s in
      let kept : kept_reply (manager N s) r.index accepted ≡ Some is.entry = grind arith in
      record {
        entry = is.entry;
        once = let first = first-entry (manager N s) r.index accepted is.entry kept in alone is.entry first.0 _ first.1 (at_most_once N w (N.session s).target (manager N s) r.index);
        begun_as = grind arith;
        carried_out = grind (arith, carried_out);
        answer = is.answer;
        one = is.one;
        outcome = ap (λ (p : Report). p.outcome) is.is;
      }

-- ---- a session waits for its report

pub session-named : (N : Network) (s : ℕ) → s < N.sessions → no_session N s ≡ None
session-named N s place = ap (λ b. first_of ((not b, NoSuchName) ∷ [])) (lt-ltb s N.sessions place)

-- the request that is not answered, if fewer were reported than begun
pub unanswered-some : (s : SessionState)
    → length s.reports < length s.begun
    → (q : RequestValue) × (unanswered s ≡ Some q)
unanswered-some s lt =
    let last = some_at s.begun (length s.begun - 1) (omega arith) in grind (arith, cond-false, ne_eqb, ne_of_lt)

pub begins-busy : (N : Network) (w : NetworkState) (s : ℕ) (a : Ask)
    → s < N.sessions → length (w.session s).reports < issued w s
    → refusal N w (Begin s a) ≡ Some (BeginRefused begins.Busy)
unfolding refusal begin_refusal
begins-busy N w s a place lt = grind (arith, is_some, unanswered-some, session-named)
