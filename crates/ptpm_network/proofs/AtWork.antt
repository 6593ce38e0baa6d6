-- A session whose own messages come in time and that gives up now and then. What its own acts, what it hears and the turns of its
-- target make of it.
use Rattle.ptpm_network.proofs.Common.{expected_ports, arith, ◌≡◌, ℕ, ◌+◌, ◌-◌, ◌<◌, ◌≤◌, is_some, nat_le, not, Bool, List, [], ◌∷◌, ◌++◌, length, length-append, Option, Some, None, true, false, refl, sym, ◌∙◌, ap, subst, ⊎_elim, false≢true, slice_get, all_append, all_weaker, AllByRecursion, PortIdentity, reading, Answer, RequestValue, Accepted, greatest, kept_reply, State, Report, received_of, reports_by, reports_of, IsAsked, IsNetwork, Network, manager, Held, Origin, ReplyTo, SessionValue, answered, begun, is_waiting, get_last, first_of-none}
use Rattle.std.proofs.lemmas.Bool.{leb-false}
use Rattle.ptpm_manager.specs.declared.error.GiveUpRefusal.{GiveUpRefusal}
use Rattle.ptpm_manager.specs.declared.error.GiveUpRefusal.TheVariants as give_ups
use Rattle.ptpm_manager.specs.declared.receiving.Received.{Received}
use Rattle.ptpm_manager.specs.declared.receiving.Received.TheVariants as received
use Rattle.ptpm_manager.specs.Receiving.{left_by}
use Rattle.ptpm_manager.specs.Session.{IsInReach, give_up_refusal, given_up, reach_limit}
use Rattle.ptpm_network.specs.ByManager.{Account}
use Rattle.ptpm_network.specs.GivingUp.{AreRising, IsKeptReport, RiseFrom}
use Rattle.ptpm_network.proofs.Accepting.{IsToldOf, greatest-grows, kept-le}
use Rattle.ptpm_network.proofs.Arriving.{Gains, kept-gained}
use Rattle.ptpm_network.proofs.Frames.{IsTrue}
use Rattle.ptpm_network.proofs.Owned.{IsHeld, IsSaid, held-begun, reports_with, told_of}
use Rattle.ptpm_network.proofs.Receiving.{takes-by}
use Rattle.ptpm_network.proofs.Serving.{HeldAfter, IsGiven, with_accepted}

pub record IsAtWork (N : Network) (s : ℕ) (value : SessionValue) (reports : List Report) (clock : State) (frames : List Held) (a : Account) : Type 0 where
  pub setup : value.setup ≡ (N.session s).setup
  pub issued : value.issued ≡ length a.begun
  pub last_begun : (q : RequestValue) → value.unanswered ≡ Some q → slice_get a.begun (value.issued - 1) ≡ Some q
  pub reach : IsInReach value.issued value.reported value.unanswered
  pub told : value.reported ≤ greatest (manager N s) a.accepted
  pub rising : AreRising (manager N s) a.accepted
  pub kept : AllByRecursion (IsKeptReport (manager N s) a.accepted) reports
  pub order : RiseFrom 0 reports value.reported
  pub held : IsHeld N s clock frames a

-- ---- how many requests were begun since the latest that was reported

pub reach-within : (issued reported : ℕ) (o : Option RequestValue) → IsInReach issued reported o → issued ≤ reported + reach_limit
reach-within issued reported None reach = let within = reach.1 in omega arith
reach-within issued reported (Some q) reach = reach.1

pub reach-waiting : (issued reported : ℕ) (o : Option RequestValue) → is_some o ≡ true → IsInReach issued reported o → reported < issued
reach-waiting issued reported None waits reach = absurd (false≢true waits)
reach-waiting issued reported (Some q) waits reach = reach.0

reach-begun : (issued reported : ℕ) (o : Option RequestValue) (q : RequestValue)
    → is_some o ≡ false → IsInReach issued reported o
    → IsInReach (issued + 1) reported (Some q)
reach-begun issued reported None q idle reach =
    let before = reach.0 in let within = reach.1 in (omega arith, omega arith)
reach-begun issued reported (Some p) q idle reach = absurd (false≢true (sym idle))

reach-given_up : (issued reported : ℕ) (o : Option RequestValue)
    → nat_le (reported + reach_limit) issued ≡ false → IsInReach issued reported o
    → IsInReach issued reported None
reach-given_up issued reported None n reach = reach
reach-given_up issued reported (Some q) n reach = let before = reach.0 in (omega arith, leb-false (reported + reach_limit) issued n)

-- ---- reports

rise-more : (before : ℕ) (reports : List Report) (last : ℕ) (report : Report)
    → RiseFrom before reports last → last < report.index
    → RiseFrom before (reports ++ report ∷ []) report.index
rise-more before [] last report rise more = (omega (arith, rise, more), refl)
rise-more before (x ∷ reports) last report rise more = (rise.0, rise-more x.index reports last report rise.1 more)

pub told-kept : (m : PortIdentity) (k : ℕ) (es : List Accepted) (report : Report) → IsToldOf m k es report → IsKeptReport m es report
told-kept m k es report t = subst (λ (x : Report). IsKeptReport m es x) (sym t.is)
    (ap (λ (o : Option Accepted). reports_of k o) t.kept ∙ ap (λ (answers : List Answer). reports_by k t.entry.reply answers) t.one)

report-stays : (i : ℕ) (o p : Option Accepted) (report : Report)
    → ((e : Accepted) → o ≡ Some e → p ≡ Some e) → reports_of i o ≡ report ∷ []
    → reports_of i p ≡ report ∷ []
report-stays i None p report stays is = absurd (cc)
report-stays i (Some e) p report stays is = ap (λ x. reports_of i x) (stays e refl) ∙ is

-- ---- what the session does

module _ (N : Network) (s : ℕ) (value : SessionValue) (reports : List Report) (clock : State) (frames : List Held) (a : Account) (at : IsAtWork N s value reports clock frames a) where
  -- domain and attempts are no part of it
  pub work-set : (other : SessionValue)
      → other.setup ≡ value.setup → other.issued ≡ value.issued → other.reported ≡ value.reported → other.unanswered ≡ value.unanswered
      → IsAtWork N s other reports clock frames a
  work-set other setup issued reported unanswered = record {
    setup = setup ∙ at.setup;
    issued = issued ∙ at.issued;
    last_begun = λ q e. subst (λ i. slice_get a.begun (i - 1) ≡ Some q) (sym issued) (at.last_begun q (sym unanswered ∙ e));
    reach = subst (λ i. IsInReach i other.reported other.unanswered) (sym issued)
        (subst (λ i. IsInReach value.issued i other.unanswered) (sym reported)
        (subst (λ (o : Option RequestValue). IsInReach value.issued value.reported o) (sym unanswered) at.reach));
    told = subst (λ i. i ≤ greatest (manager N s) a.accepted) (sym reported) at.told;
    rising = at.rising;
    kept = at.kept;
    order = subst (λ i. RiseFrom 0 reports i) (sym reported) at.order;
    held = at.held;
  }

  pub work-begun : (q : RequestValue) → IsAsked (expected_ports N s) q → is_waiting value ≡ false
      → IsAtWork N s (begun value q) reports clock frames (record { begun = a.begun ++ q ∷ []; accepted = a.accepted })
  work-begun q asked idle =
      let place : length a.begun ≡ value.issued + 1 - 1 = omega (arith, at.issued) in
      record {
        setup = at.setup;
        issued = omega (arith, at.issued, length-append a.begun (q ∷ []));
        last_begun = λ p e. subst (λ i. slice_get (a.begun ++ q ∷ []) i ≡ Some p) place (get_last a.begun q ∙ e);
        reach = reach-begun value.issued value.reported value.unanswered q idle at.reach;
        told = at.told;
        rising = at.rising;
        kept = at.kept;
        order = at.order;
        held = held-begun N s clock frames a q asked at.held;
      }

  pub work-given_up : give_up_refusal value ≡ None → IsAtWork N s (given_up value) reports clock frames a
  unfolding give_up_refusal
  work-given_up fine =
      let far = nat_le (value.reported + reach_limit) value.issued in
      let tests : List (Bool × GiveUpRefusal) = (far, give_ups.OutOfReach) ∷ [] in
      let further = (first_of-none (not (is_waiting value)) give_ups.Idle tests fine).1 in
      let near = (first_of-none far give_ups.OutOfReach [] further).0 in
      record {
        setup = at.setup;
        issued = at.issued;
        last_begun = λ q e. absurd (cc);
        reach = reach-given_up value.issued value.reported value.unanswered near at.reach;
        told = at.told;
        rising = at.rising;
        kept = at.kept;
        order = at.order;
        held = at.held;
      }

  -- ---- what it hears

  work-answered : (report : Report) → is_waiting value ≡ true → report.index ≡ value.issued
      → IsToldOf (manager N s) (length a.begun) a.accepted report
      → IsAtWork N s (answered value) (reports ++ report ∷ []) clock frames a
  work-answered report waits index t =
      let m = manager N s in
      let known : length a.begun ≤ greatest m a.accepted = kept-le m (length a.begun) a.accepted t.entry t.kept in
      let before : value.reported < report.index =
      subst (λ i. value.reported < i) (sym index) (reach-waiting value.issued value.reported value.unanswered waits at.reach) in
      record {
        setup = at.setup;
        issued = at.issued;
        last_begun = λ q e. absurd (cc);
        reach = (omega arith, omega arith);
        told = omega (arith, at.issued, known);
        rising = at.rising;
        kept = all_append (IsKeptReport m a.accepted) reports (report ∷ []) at.kept (told-kept m (length a.begun) a.accepted report t, tt);
        order = subst (λ i. RiseFrom 0 (reports ++ report ∷ []) i) index (rise-more 0 reports value.reported report at.order before);
        held = at.held;
      }

  -- it hears the answer to its last request, or nothing
  pub work-hears : (octets : List ℕ) (o : Origin) (x : Received)
      → IsNetwork N → s < N.sessions → IsTrue N octets o → IsSaid N s a octets o
      → ((k : ℕ) → o ≡ ReplyTo s k → length a.begun ≤ k + 32768)
      → received_of value octets ≡ x
      → IsAtWork N s (left_by value x) (reports_with reports x) clock frames a
  work-hears octets o (received.Ignored reason) n place i says time e = at
  work-hears octets o (received.Answered report) n place i says time e =
      let takes = takes-by value octets report (reading octets) refl e in
      work-answered report takes.accepted.waiting (sym (ap (λ (x : Report). x.index) takes.is))
      (told_of N s value a octets o report n place takes (i takes.message takes.read).1 says time at.setup at.issued at.held.keeps)

  -- ---- its target takes a turn

  -- one more of its requests is accepted, or none
  pub work-gained : (later : State) (more : List Held) (new : List Accepted) → HeldAfter N s later more a new
      → IsAtWork N s value reports later more (with_accepted a new)
  work-gained later more new after =
      let m = manager N s in
      record {
        setup = at.setup;
        issued = at.issued;
        last_begun = at.last_begun;
        reach = at.reach;
        told = ⊎_elim
            (λ (same : new ≡ a.accepted). subst (λ es. value.reported ≤ greatest m es) (sym same) at.told)
            (λ (g : Gains m a.begun new a.accepted). subst (λ es. value.reported ≤ greatest m es) (sym g.is)
            (omega (arith, at.told, greatest-grows m g.entry a.accepted)))
            after.gains;
        rising = ⊎_elim
            (λ (same : new ≡ a.accepted). subst (λ es. AreRising m es) (sym same) at.rising)
            (λ (g : Gains m a.begun new a.accepted). subst (λ es. AreRising m es) (sym g.is) (g.above, at.rising))
            after.gains;
        kept = all_weaker (IsKeptReport m a.accepted) (IsKeptReport m new)
            (λ x is. report-stays x.index (kept_reply m x.index a.accepted) (kept_reply m x.index new) x
            (λ e. kept-gained m a.begun new a.accepted after.gains x.index e) is)
            reports at.kept;
        order = at.order;
        held = after.held;
      }

  -- the session's own copies are in the clock's window
  pub work-given : (k : ℕ) → length a.begun ≤ k + 32768 → IsGiven (manager N s) a k k
  work-given k time = record {
    window = λ within. record {
      not_far_ahead = omega (arith, within, at.issued, at.told, reach-within value.issued value.reported value.unanswered at.reach);
      not_far_behind = omega (arith, time, at.held.keeps.begun_before);
    };
    index = λ within above. refl;
  }
