-- The promise of a network, and the states of a running network in which it holds.
use Rattle.ptpm_network.proofs.Common.{expected_ports, ◌==◌, ◌&&◌, and_from, and_parts, eq-eqb, eqb-true, refl, by_test, suc, zero, arith, ◌≡◌, ℕ, ◌<◌, ◌≤◌, List, [], ◌∷◌, ◌++◌, Some, None, true, false, sym, ◌∙◌, ap, subst, ⊎_elim, cases_eq, cond-true, cond-false, true≢false, if◌then◌else◌, AllByRecursion, PortIdentity, same_identity, same_identity-refl, same_identity-true, Event, IsInRange, Refusal, refusal, RunningNetwork, initial_network, Happened, Ok, Result, network_event, network_run, result_err, Headline, IsPromised, StandsAfter, AreInTime, happens, is_late_delivery, run, taken, IsNetwork, Network, manager, AreFirsts, Stands, NetworkState, accepted_at_target, initial_state, all_append}
use Rattle.ptpm_network.proofs.Accepting.{IsInOrder, in_order}
use Rattle.ptpm_network.proofs.Exchanging.{copy-delivered, latest-kept, older-none}
use Rattle.ptpm_network.proofs.Running.{follows, network_run-running}
use Rattle.ptpm_network.proofs.Reaching.{reached}
use Rattle.ptpm_network.proofs.Standing.{stands-initial_state, refused-leaves, strangers-leave}
use Rattle.ptpm_network.proofs.Taking.{in_time-append, run-append, taken-in_range}

-- ---- first sequenceIds

-- of the first n sessions, each at its target, and 0 of everyone else
pub first_of_sessions : Network → ℕ → ℕ → PortIdentity → ℕ
first_of_sessions N zero c m = 0
first_of_sessions N (suc n) c m =
    if same_identity m (manager N n) && c == (N.session n).target then (N.session n).setup.first else first_of_sessions N n c m

first_of-session : (N : Network) (n s : ℕ)
    → IsNetwork N → n ≤ N.sessions → s < n
    → first_of_sessions N n (N.session s).target (manager N s) ≡ (N.session s).setup.first
unfolding first_of_sessions
first_of-session N zero s is le below = absurd (omega arith)
first_of-session N (suc n) s is le below = by_test (same_identity (manager N s) (manager N n) && (N.session s).target == (N.session n).target)
    (λ y. let both = and_parts _ _ y in
    let own : s ≡ n = is.sessions_apart s n (omega arith) (omega arith) (same_identity-true (manager N s) (manager N n) both.0) (eqb-true _ _ both.1) in
    cond-true _ _ _ y ∙ ap (λ (i : ℕ). (N.session i).setup.first) (sym own))
    (λ o. ⊎_elim
    (λ (q : s ≡ n). absurd (true≢false (sym (and_from _ _ (subst (λ (i : ℕ). same_identity (manager N s) (manager N i) ≡ true) q (same_identity-refl (manager N s)))
    (eq-eqb _ _ (ap (λ (i : ℕ). (N.session i).target) q))) ∙ o)))
    (λ (ne : s ≡ n → ⊥). cond-false _ _ _ o ∙ first_of-session N n s is (omega arith) (omega arith))
    (cases_eq s n))

-- there are such as the sessions have
pub firsts : (N : Network) → IsNetwork N → AreFirsts N (first_of_sessions N N.sessions)
firsts N is s place = first_of-session N N.sessions s is (omega arith) place

-- ---- the promise

pub stands-headline : (N : Network) (events : List Event) (r : RunningNetwork)
    → StandsAfter N events r
    → Headline N (run N (initial_state N) events) r
stands-headline N events r at =
    let p = at.promised in
    let w : NetworkState = run N (initial_state N) events in
    let is = reached N events p.network p.in_range in
    let there = at.stands (first_of_sessions N N.sessions) (firsts N p.network) in
    let order : (s : ℕ) → s < N.sessions → IsInOrder (manager N s) (w.session s).begun (accepted_at_target N w s) (r.reports s) = λ s place.
    subst (IsInOrder (manager N s) (w.session s).begun (accepted_at_target N w s)) (sym (there.reports s place))
    (in_order (manager N s) (expected_ports N s) (accepted_at_target N w s) (w.session s) (is.sessions s place)) in
    record {
      sets = λ c place. (there.clocks c place).sets;
      frames = there.frames;
      delivered = grind (arith, copy-delivered);
      latest = grind (arith, latest-kept);
      older = grind (arith, older-none);
      reports = λ s place. (order s place).rest;
      reported = λ s place. (order s place).reported_accepted;
      accepted = λ s place. (order s place).accepted_begun;
      begun = λ s place. (order s place).begun_reported;
      strangers = grind (arith, strangers-leave);
      refused = λ c x error. refused-leaves N w c x error.copy error.reply error.answer error.error error.heard error.due error.among error.is_error;
    }

-- ---- in which states it holds

pub stands-first : (N : Network) → IsNetwork N → StandsAfter N [] (initial_network N)
stands-first N n = record {
  promised = record { network = n; in_range = tt; in_time = tt };
  stands = λ first firsts. stands-initial_state N first;
}

-- the premises hold of more events
promised-more : (N : Network) (past es : List Event)
    → IsPromised N past → AllByRecursion IsInRange es
    → AreInTime N (run N (initial_state N) past) es
    → IsPromised N (past ++ es)
promised-more N past es p range time = grind (arith, all_append, in_time-append)

pub stands-judged : (N : Network) (past : List Event) (r : RunningNetwork) (e : Event)
    → StandsAfter N past r
    → result_err (network_event N r e) ≡ refusal N (run N (initial_state N) past) e
stands-judged N past r e at =
    let p = at.promised in
    let first : ℕ → PortIdentity → ℕ = first_of_sessions N N.sessions in
    (follows N first r _ p.network (reached N past p.network p.in_range) (at.stands first (firsts N p.network)) e).reason

pub stands-event : (N : Network) (past : List Event) (r : RunningNetwork) (e : Event)
    (h : Happened)
    → StandsAfter N past r → IsInRange e → network_event N r e ≡ Ok h
    → is_late_delivery (run N (initial_state N) past) e ≡ false
    → StandsAfter N (past ++ e ∷ []) h.network
stands-event N past r e h at range is late =
    let p = at.promised in
    let w : NetworkState = run N (initial_state N) past in
    let none : refusal N w e ≡ None = sym (stands-judged N past r e at) ∙ ap (λ (x : Result Happened Refusal). result_err x) is in
    let next : run N (initial_state N) (past ++ e ∷ []) ≡ happens N w e = grind (arith, run-append) in
    record {
      promised = promised-more N past (e ∷ []) p (range, tt) ((λ accepted. late), tt);
      stands = λ first firsts. subst (Stands N first h.network) (sym next)
          ((follows N first r w p.network (reached N past p.network p.in_range) (at.stands first firsts) e).next h is firsts range late);
    }

pub stands-refused : (N : Network) (past : List Event) (r : RunningNetwork) (e : Event)
    (reason : Refusal)
    → StandsAfter N past r → IsInRange e → refusal N (run N (initial_state N) past) e ≡ Some reason
    → StandsAfter N (past ++ e ∷ []) r
stands-refused N past r e reason at range some =
    let p = at.promised in
    let w : NetworkState = run N (initial_state N) past in
    let stays : run N (initial_state N) (past ++ e ∷ []) ≡ w = grind (arith, run-append) in
    record {
      promised = promised-more N past (e ∷ []) p (range, tt) ((λ none. absurd (cc (sym some ∙ none))), tt);
      stands = grind (arith, firsts);
    }

pub stands-network_run : (N : Network) (past : List Event) (r : RunningNetwork) (es : List Event)
    → StandsAfter N past r → AllByRecursion IsInRange es
    → AreInTime N (run N (initial_state N) past) (taken N (run N (initial_state N) past) es)
    → StandsAfter N (past ++ taken N (run N (initial_state N) past) es) (network_run N r es)
stands-network_run N past r es at range time =
    let p = at.promised in
    let w : NetworkState = run N (initial_state N) past in
    record {
      promised = promised-more N past (taken N w es) p (taken-in_range N w es range) time;
      stands = λ first firsts. network_run-running N past es first r p.network p.in_range firsts (at.stands first firsts) range time;
    }
