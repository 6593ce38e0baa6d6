-- What is noted as the answer to a step was carried out, and what precedes a step before any message of it left.
use Rattle.ptpm_network.proofs.Common.{by_test, arith, ◌≡◌, ℕ, ◌<◌, ◌==◌, ◌&&◌, Bool, List, [], ◌∷◌, Some, refl, sym, ◌∙◌, ap, cond-true, cond-false, eqb-true, and_parts, Accepted, PortIdentity, greatest, kept_reply, same_identity, entries_of, Option, None, subst, AllByRecursion, Contains, Report, RequestValue, outcome_in, same_Some, Network, manager}
use Rattle.ptpm_network.specs.GivingUp.{AreRising, IsKeptReport}
use Rattle.ptpm_network.proofs.Accepting.{greatest-grows, greatest-same}
use Rattle.ptpm_data.specs.Reply.{Answer, ReplyValue}
use Rattle.ptpm_table.specs.Rendering.{answer_body}
use Rattle.ptpm_manager.specs.declared.report.Outcome.{Outcome}
use Rattle.ptpm_network.specs.State.{reports_by, reports_of}
use Rattle.ptpm_asker.specs.Desk.{Begins, Continues, Crashes, Desk, Hears, IsTold, LetsGo, Move, Notes, Resumes, Retunes, Returns, Saves, Sends, Starts, TakesBack, moved}
use Rattle.ptpm_apply.specs.Steps.{IsAsked, IsNoted}
use Rattle.ptpm_apply.specs.Watching.{Sent, Watch, nothing_seen, watched}
use Rattle.ptpm_apply.proofs.InTurn.{begun_before}
use Rattle.ptpm_restarts.specs.ActsAsIfNever.{ActsAsIfNever}
use Rattle.ptpm_restarts.specs.DeskIncidents.{desk_moves}
use Rattle.ptpm_restarts.specs.Incidents.{Incident}
use Rattle.ptpm_restarts.specs.Restarting.{RestartingNetwork, initial_restarting}
use Rattle.ptpm_restarts.proofs.ActRuns.{served-among-acts}
use Rattle.ptpm_restarts.proofs.DeskMoves.{Tells}
use Rattle.ptpm_restarts.proofs.Sent.{all_contains}
use Rattle.ptpm_changes.specs.Change.{IsCarriedOut}
use Rattle.ptpm_changes.specs.Lane.{AreNotedSo, IsLane, Lane, first_of, messages_of, notes_of}
use Rattle.ptpm_changes.proofs.Told.{IsNoteOf, Knows, knows-along}

-- ---- of what is accepted under indexes that rise each index has one entry at most, and none has the index 0

abbrev is_entry : PortIdentity → ℕ → Accepted → Bool
is_entry m k d = same_identity m d.manager && d.index == k

none-above : (m : PortIdentity) (k : ℕ) (es : List Accepted) → greatest m es < k → entries_of m k es ≡ []
none-above m k [] below = refl
none-above m k (d ∷ es) below = by_test (is_entry m k d)
    (λ y.
    let parts = and_parts (same_identity m d.manager) (d.index == k) y in
    let at : d.index ≡ k = eqb-true d.index k parts.1 in
    let top = greatest-same m d es parts.0 in
    absurd (grind arith))
    (λ n. cond-false (is_entry m k d) (d ∷ entries_of m k es) (entries_of m k es) n ∙ none-above m k es (let grows = greatest-grows m d es in omega arith))

pub one-entry : (m : PortIdentity) (k : ℕ) (es : List Accepted) (e : Accepted) → AreRising m es → kept_reply m k es ≡ Some e → entries_of m k es ≡ e ∷ []
one-entry m k [] e rising a = absurd (cc)
one-entry m k (d ∷ es) e rising a = by_test (is_entry m k d)
    (λ y.
    let parts = and_parts (same_identity m d.manager) (d.index == k) y in
    let at : d.index ≡ k = eqb-true d.index k parts.1 in
    let same : Some d ≡ Some e = sym (cond-true (is_entry m k d) (Some d) (kept_reply m k es) y) ∙ a in
    let is : d ≡ e = cc in
    let above = rising.0 parts.0 in
    cond-true (is_entry m k d) (d ∷ entries_of m k es) (entries_of m k es) y
    ∙ ap (λ (l : List Accepted). d ∷ l) (none-above m k es (omega arith))
    ∙ ap (λ (x : Accepted). x ∷ []) is)
    (λ n. cond-false (is_entry m k d) (d ∷ entries_of m k es) (entries_of m k es) n
    ∙ one-entry m k es e rising.1 (sym (cond-false (is_entry m k d) (Some d) (kept_reply m k es) n) ∙ a))

pub not-first : (m : PortIdentity) (k : ℕ) (es : List Accepted) (e : Accepted) → AreRising m es → kept_reply m k es ≡ Some e → 0 < k
not-first m k [] e rising a = absurd (cc)
not-first m k (d ∷ es) e rising a = by_test (is_entry m k d)
    (λ y.
    let parts = and_parts (same_identity m d.manager) (d.index == k) y in
    let at : d.index ≡ k = eqb-true d.index k parts.1 in
    let above = rising.0 parts.0 in
    omega arith)
    (λ n. not-first m k es e rising.1 (sym (cond-false (is_entry m k d) (Some d) (kept_reply m k es) n) ∙ a))

-- ---- what a report says

some-reported : (k : ℕ) (o : Option Accepted) (report : Report) → reports_of k o ≡ report ∷ [] → (e : Accepted) × (o ≡ Some e)
some-reported k None report is = absurd (cc)
some-reported k (Some e) report is = (e, refl)

record Answered (reply : ReplyValue) (answers : List Answer) (report : Report) : Type 0 where
  answer : Answer
  one : answers ≡ answer ∷ []
  says : outcome_in (answer_body reply.action reply.id answer.outcome) ≡ report.outcome

answered-by : (k : ℕ) (reply : ReplyValue) (answers : List Answer) (report : Report) → reports_by k reply answers ≡ report ∷ [] → Answered reply answers report
answered-by k reply [] report is = absurd (cc)
answered-by k reply (a ∷ []) report is =
    let same : record { index = k; outcome = outcome_in (answer_body reply.action reply.id a.outcome) } ≡ report = cc in
    record { answer = a; one = refl; says = ap (λ (r : Report). r.outcome) same }
answered-by k reply (a ∷ b ∷ further) report is = absurd (cc)

-- ---- at one clock

first-knows : (steps : ℕ → RequestValue) (T : RequestValue → ℕ → Outcome → Type 0) (l : Lane) → Knows steps T (first_of l) nothing_seen
first-knows steps T l = record {
  live = λ q e no tag says. absurd says;
  file = λ f is q e no tag says. absurd says;
  heard = λ x e. absurd (cc);
  waits = λ y. refl;
  noted = tt;
}

module _ (N : Network) (s : ℕ) (steps : ℕ → RequestValue) (is : List Incident) (l : Lane) (h : IsLane N s steps is l) where
  told-by-incidents : (tag number : ℕ) (outcome : Outcome) → Contains (notes_of l) (IsTold tag number outcome)
      → Tells N s (initial_restarting N) is (steps tag) number outcome
  told-by-incidents tag number outcome has =
      let T : RequestValue → ℕ → Outcome → Type 0 = Tells N s (initial_restarting N) is in
      all_contains (IsNoteOf steps T) (notes_of l) (IsTold tag number outcome)
      (knows-along N s h.exists steps T l.happened (first_of l) (initial_restarting N) nothing_seen h.mirrors (first-knows steps T l) h.allowed h.happens h.noted
      (λ q n o t. subst (λ (js : List Incident). Tells N s (initial_restarting N) js q n o) h.incidents t))
      has

  pub carried-out : (k : RestartingNetwork) (a : ActsAsIfNever N is k) (tag number : ℕ) (outcome : Outcome) → Contains (notes_of l) (IsTold tag number outcome)
      → IsCarriedOut N s (a.account s) (steps tag) number outcome
  carried-out k a tag number outcome has =
      let t = told-by-incidents tag number outcome has in
      let accepted : List Accepted = (a.account s).accepted in
      let asked = a.asked s (steps tag) t.report h.exists t.told in
      let kept : IsKeptReport (manager N s) accepted t.report = all_contains (IsKeptReport (manager N s) accepted) (k.told s) t.report (a.kept s h.exists) asked.0 in
      let found = some-reported t.report.index (kept_reply (manager N s) t.report.index accepted) t.report kept in
      let served = served-among-acts N is k s a h.exists in
      let begun = served.accepted t.report.index found.0 (not-first (manager N s) t.report.index accepted found.0 served.rising found.1) found.1 in
      let reported : reports_of t.report.index (Some found.0) ≡ t.report ∷ [] = ap (λ (o : Option Accepted). reports_of t.report.index o) (sym found.1) ∙ kept in
      let answer = answered-by t.report.index found.0.reply found.0.reply.answers t.report reported in
      record {
        index = t.report.index;
        of_number = t.of_number;
        entry = found.0;
        once = one-entry (manager N s) t.report.index accepted found.0 served.rising found.1;
        is = same_Some found.0.request (steps tag) (sym begun ∙ asked.1);
        answer = answer.answer;
        one = answer.one;
        says = answer.says ∙ t.says;
      }

  -- ---- what is sent

  asked-of : (ms : List Move) (d : Desk) (w : Watch) → AreNotedSo steps d w ms → AllByRecursion (IsAsked steps) ms
  asked-of [] d w so = tt
  asked-of (Begins tag q ∷ ms) d w so = (so.0, asked-of ms (moved d (Begins tag q)) (watched d w (Begins tag q)) so.1)
  asked-of (Saves ∷ ms) d w so = (tt, asked-of ms (moved d Saves) (watched d w Saves) so.1)
  asked-of (Sends ∷ ms) d w so = (tt, asked-of ms (moved d Sends) (watched d w Sends) so.1)
  asked-of (Hears datagram ∷ ms) d w so = (tt, asked-of ms (moved d (Hears datagram)) (watched d w (Hears datagram)) so.1)
  asked-of (Notes note ∷ ms) d w so = (tt, asked-of ms (moved d (Notes note)) (watched d w (Notes note)) so.1)
  asked-of (Resumes attempts ∷ ms) d w so = (tt, asked-of ms (moved d (Resumes attempts)) (watched d w (Resumes attempts)) so.1)
  asked-of (Retunes domain ∷ ms) d w so = (tt, asked-of ms (moved d (Retunes domain)) (watched d w (Retunes domain)) so.1)
  asked-of (LetsGo ∷ ms) d w so = (tt, asked-of ms (moved d LetsGo) (watched d w LetsGo) so.1)
  asked-of (Returns ∷ ms) d w so = (tt, asked-of ms (moved d Returns) (watched d w Returns) so.1)
  asked-of (Starts setup domain ∷ ms) d w so = (tt, asked-of ms (moved d (Starts setup domain)) (watched d w (Starts setup domain)) so.1)
  asked-of (Continues setup ∷ ms) d w so = (tt, asked-of ms (moved d (Continues setup)) (watched d w (Continues setup)) so.1)
  asked-of (TakesBack setup ∷ ms) d w so = (tt, asked-of ms (moved d (TakesBack setup)) (watched d w (TakesBack setup)) so.1)
  asked-of (Crashes ∷ ms) d w so = (tt, asked-of ms (moved d Crashes) (watched d w Crashes) so.1)

  pub messages-noted : (m : Sent) → Contains (messages_of l) m → IsNoted steps (notes_of l) m
  messages-noted m has =
      all_contains (IsNoted steps (notes_of l)) (messages_of l) m
      (begun_before steps l.file l.value (desk_moves l.happened) h.free h.allowed (asked-of (desk_moves l.happened) (first_of l) nothing_seen h.noted)) has
