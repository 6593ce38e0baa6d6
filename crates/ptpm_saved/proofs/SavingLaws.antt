-- Each event keeps what is said of a process that saves before it sends, and a clock is one.
use Rattle.std.proofs.Common.{◌≡◌, Bool, true, false, ◌||◌, ⊎_elim, List, [], ◌∷◌, ◌++◌, arith, refl, sym, ap, ◌∙◌, subst, append_assoc, append-nil, ℕ, Result, Ok, Err}
use Rattle.std.specs.List.{Contains}
use Rattle.std.proofs.lemmas.Bool.{false≢true}
use Rattle.std.proofs.lemmas.List.Elements.{Contains-append_cases}
use Rattle.ptpm_saved.specs.Saving.{Came, Comes, Counted, Device, Ends, Event, Fails, Happening, IsAsIfPowered, IsPartOf, IsSound, IsReportedThere, Keeps, Loses, Noted, Notes, Process, Saves, Sends, ReportsAsIfPowered, after_all, after_one, all_counted, all_messages, all_reports, counted, counted_by, counted_with, happen_all, happened, happens, heard, messages_of, noted_each, nothing_yet, sent_first, started, reported, reports_at, reports_of, took}
use Rattle.ptpm_codec.specs.declared.error.DecodeError.{DecodeError}
use Rattle.ptpm_codec.specs.declared.message.Message.{Message}
use Rattle.ptpm_codec.specs.Reading.{reading}
use Rattle.ptpm_data.specs.ObservationBack.{Observation, observed_each}
use Rattle.ptpm_data.specs.Members.{IsConsistent}
use Rattle.ptpm_data.proofs.Consistency.{changed_by-consistent, observed-consistent}
use Rattle.ptpm_data.proofs.ObservingBack.{observed_back}
use Rattle.ptpm_table.specs.Managers.{Clock}
use Rattle.ptpm_agent.specs.declared.verdict.Verdict.{Verdict}
use Rattle.ptpm_agent.specs.Turn.{State, judged, next_by, turn, turn_by}
use Rattle.ptpm_saved.specs.SavingClock.{CanBe, Datagram, clock_process, is_new}
use Rattle.ptpm_agent.specs.declared.verdict.Verdict.TheVariants as verdicts

-- ---- each event keeps what is said of a process that saves before it sends

-- ---- some of a list

all_of : {X : Type 0} (xs : List X) → IsPartOf xs xs
all_of [] = Ends
all_of (x ∷ xs) = Keeps x xs xs (all_of xs)

none_of : {X : Type 0} (ys : List X) → IsPartOf [] ys
none_of [] = Ends
none_of (y ∷ ys) = Loses y [] ys (none_of ys)

joined : {X : Type 0} (xs ys us vs : List X) → IsPartOf xs ys → IsPartOf us vs → IsPartOf (xs ++ us) (ys ++ vs)
joined _ _ us vs Ends q = q
joined _ _ us vs (Keeps x xs ys p) q = Keeps x (xs ++ us) (ys ++ vs) (joined xs ys us vs p q)
joined _ _ us vs (Loses y xs ys p) q = Loses y (xs ++ us) (ys ++ vs) (joined xs ys us vs p q)

-- what is in front of a part is a part
front : {X : Type 0} (whole xs ys all : List X) → whole ≡ xs ++ ys → IsPartOf whole all → IsPartOf xs all
front whole [] ys all is part = none_of all
front _ (x ∷ xs) ys _ is Ends = absurd (cc)
front _ (x ∷ xs) ys _ is (Keeps z zs all part) =
    let heads : z ≡ x = cc in
    let tails : zs ≡ xs ++ ys = cc in
    subst (λ h. IsPartOf (h ∷ xs) (z ∷ all)) heads (Keeps z xs all (front zs xs ys all tails part))
front _ (x ∷ xs) ys _ is (Loses z zs all part) = Loses z (x ∷ xs) all (front zs (x ∷ xs) ys all is part)

-- a part of a list is one of a longer list
of_longer : {X : Type 0} (xs ys zs : List X) → IsPartOf xs ys → IsPartOf xs (ys ++ zs)
of_longer xs ys zs part = subst (λ l. IsPartOf l (ys ++ zs)) (append-nil xs) (joined xs ys [] zs part (none_of zs))

-- no list without elements has one
nobody : {X : Type 0} (x : X) → Contains [] x → ⊥
nobody x has = grind arith

-- ---- the device

-- What counts for good led to the state to which notes have led what is saved. What counts since led to what is live, and is lost
-- if power fails. Of what happened, `cs`, it is some; and of what was reported, `ts`, is some all that one reports for it whose power
-- never fails.
pub record Stands {S A N M R : Type 0} (p : Process S A N M) (reports : S → A → List R) (can_be : S → Type 0) (s : S)
    (k : Counted A N) (cs : List (Happening A N)) (ts : List R) (d : Device S M) : Type 0 where
  pub notes : List N
  pub saved_can_be : can_be d.saved
  pub saved_is : after_all p s k.settled ≡ noted_each p notes d.saved
  pub live_is : d.live ≡ after_all p (after_all p s k.settled) k.since
  pub nothing_since : d.is_unsaved ≡ false → k.since ≡ []
  pub came : IsPartOf (all_counted k) cs
  pub sent : IsPartOf (d.sent ++ d.ready) (all_messages p s k.settled)
  pub waits : d.waiting ≡ all_messages p (after_all p s k.settled) k.since
  pub reported_here : IsPartOf (all_reports reports p s (all_counted k)) ts
  pub reported_there : (y : R) → Contains ts y → IsReportedThere reports p s cs y

module _ {S A N M R : Type 0} (p : Process S A N M) (reports : S → A → List R) where
  -- ---- one after the other

  noted-append : (ns : List N) (n : N) (s : S) → noted_each p (ns ++ n ∷ []) s ≡ p.noted (noted_each p ns s) n
  noted-append [] n s = refl
  noted-append (m ∷ ns) n s = noted-append ns n (p.noted s m)

  after-append : (s : S) (hs gs : List (Happening A N)) → after_all p s (hs ++ gs) ≡ after_all p (after_all p s hs) gs
  after-append s [] gs = refl
  after-append s (h ∷ hs) gs = after-append (after_one p s h) hs gs

  messages-append : (s : S) (hs gs : List (Happening A N))
      → all_messages p s (hs ++ gs) ≡ all_messages p s hs ++ all_messages p (after_all p s hs) gs
  messages-append s [] gs = refl
  messages-append s (h ∷ hs) gs =
      ap (λ l. messages_of p s h ++ l) (messages-append (after_one p s h) hs gs)
      ∙ sym (append_assoc (messages_of p s h) (all_messages p (after_one p s h) hs) (all_messages p (after_all p (after_one p s h) hs) gs))

  reports-append : (s : S) (hs gs : List (Happening A N))
      → all_reports reports p s (hs ++ gs) ≡ all_reports reports p s hs ++ all_reports reports p (after_all p s hs) gs
  reports-append s [] gs = refl
  reports-append s (h ∷ hs) gs =
      ap (λ l. reports_of reports s h ++ l) (reports-append (after_one p s h) hs gs)
      ∙ sym (append_assoc (reports_of reports s h) (all_reports reports p (after_one p s h) hs) (all_reports reports p (after_all p (after_one p s h) hs) gs))

  module _ (can_be : S → Type 0) (sound : IsSound p can_be) (s : S) (can : can_be s) where
    after_can_be : (t : S) (hs : List (Happening A N)) → can_be t → can_be (after_all p t hs)
    after_can_be t [] can = can
    after_can_be t (Came x ∷ hs) can = after_can_be (p.after t x) hs (sound.after_can_be t x can)
    after_can_be t (Noted n ∷ hs) can = after_can_be (p.noted t n) hs (sound.noted_can_be t n can)

    -- one more is reported for one more that counts
    reports_more : (hs : List (Happening A N)) (h : Happening A N) (t : S) (ts : List R)
        → t ≡ after_all p s hs
        → IsPartOf (all_reports reports p s hs) ts
        → IsPartOf (all_reports reports p s (hs ++ h ∷ [])) (ts ++ reports_of reports t h)
    reports_more hs h t ts is part =
        let last : all_reports reports p s (hs ++ h ∷ []) ≡ all_reports reports p s hs ++ reports_of reports t h =
        reports-append s hs (h ∷ []) ∙ ap (λ l. all_reports reports p s hs ++ l) (append-nil (reports_of reports (after_all p s hs) h) ∙ ap (λ u. reports_of reports u h) (sym is)) in
        subst (λ l. IsPartOf l (ts ++ reports_of reports t h)) (sym last) (joined (all_reports reports p s hs) ts (reports_of reports t h) (reports_of reports t h) part (all_of (reports_of reports t h)))

    -- what was reported is reported there, also if more happened
    reported_still : (cs es : List (Happening A N)) (y : R) → IsReportedThere reports p s cs y → IsReportedThere reports p s (cs ++ es) y
    reported_still cs es y h = record { before = h.before; input = h.input; part = of_longer (h.before ++ Came h.input ∷ []) cs es h.part; is = h.is }

    reported_then : (hs cs : List (Happening A N)) (ts : List R) (t : S) (x : A)
        → t ≡ after_all p s hs
        → IsPartOf hs cs
        → ((y : R) → Contains ts y → IsReportedThere reports p s cs y)
        → (y : R) → Contains (ts ++ reports t x) y → IsReportedThere reports p s (cs ++ Came x ∷ []) y
    reported_then hs cs ts t x is part before y has = ⊎_elim
        (λ (h : Contains ts y). reported_still cs (Came x ∷ []) y (before y h))
        (λ (h : Contains (reports t x) y). record {
          before = hs;
          input = x;
          part = joined hs cs (Came x ∷ []) (Came x ∷ []) part (all_of (Came x ∷ []));
          is = subst (λ u. Contains (reports u x) y) is h;
        })
        (Contains-append_cases ts (reports t x) y has)

    -- one more happening is settled, with the messages that are made of it
    settles : (hs : List (Happening A N)) (h : Happening A N) (sent ready made : List M)
        → IsPartOf (sent ++ ready) (all_messages p s hs)
        → made ≡ messages_of p (after_all p s hs) h
        → IsPartOf (sent ++ (ready ++ made)) (all_messages p s (hs ++ h ∷ []))
    settles hs h sent ready made part is =
        let last : IsPartOf made (messages_of p (after_all p s hs) h ++ []) =
        subst (λ l. IsPartOf made l) (is ∙ sym (append-nil (messages_of p (after_all p s hs) h))) (all_of made) in
        subst (λ l. IsPartOf l (all_messages p s (hs ++ h ∷ []))) (append_assoc sent ready made)
        (subst (λ l. IsPartOf ((sent ++ ready) ++ made) l) (sym (messages-append s hs (h ∷ [])))
        (joined (sent ++ ready) (all_messages p s hs) made (messages_of p (after_all p s hs) h ++ []) part last))

    -- one more counts for good
    module _ (k : Counted A N) (cs : List (Happening A N)) (ts : List R) (d : Device S M) (h : Stands p reports can_be s k cs ts d) where
      live_at : d.live ≡ after_all p s (all_counted k)
      live_at = h.live_is ∙ sym (after-append s k.settled k.since)

      -- if nothing is unsaved, all that counts is settled
      settled_all : d.is_unsaved ≡ false → all_counted k ≡ k.settled
      settled_all clean = ap (λ l. k.settled ++ l) (h.nothing_since clean) ∙ append-nil k.settled

      live_settled : d.is_unsaved ≡ false → d.live ≡ after_all p s k.settled
      live_settled clean = live_at ∙ ap (after_all p s) (settled_all clean)

      came_more : (x : Happening A N) → IsPartOf (all_counted k ++ x ∷ []) (cs ++ x ∷ [])
      came_more x = joined (all_counted k) cs (x ∷ []) (x ∷ []) h.came (all_of (x ∷ []))

      -- an input that changes nothing, if nothing is unsaved
      took_at_rest : (x : A) → d.is_unsaved ≡ false → p.changes d.live x ≡ false
          → Stands p reports can_be s (counted_with false k (Came x)) (cs ++ Came x ∷ []) (ts ++ reports d.live x) (took p false d x)
      took_at_rest x clean same =
          let all : all_counted k ≡ k.settled = settled_all clean in
          let led : after_all p s (all_counted k ++ Came x ∷ []) ≡ p.after d.live x =
          after-append s (all_counted k) (Came x ∷ []) ∙ ap (λ t. p.after t x) (sym live_at) in
          let end : (all_counted k ++ Came x ∷ []) ++ [] ≡ all_counted k ++ Came x ∷ [] = append-nil (all_counted k ++ Came x ∷ []) in
          record {
            notes = h.notes;
            saved_can_be = h.saved_can_be;
            saved_is = led ∙ sound.unchanged d.live x same ∙ live_settled clean ∙ h.saved_is;
            live_is = sym led;
            nothing_since = λ _. refl;
            came = subst (λ l. IsPartOf l (cs ++ Came x ∷ [])) (sym end) (came_more (Came x));
            sent = settles (all_counted k) (Came x) d.sent d.ready (p.messages d.live x)
                (subst (λ l. IsPartOf (d.sent ++ d.ready) (all_messages p s l)) (sym all) h.sent) (ap (λ t. p.messages t x) live_at);
            waits = h.waits ∙ ap (all_messages p (after_all p s k.settled)) (h.nothing_since clean);
            reported_here = subst (λ l. IsPartOf (all_reports reports p s l) (ts ++ reports d.live x)) (sym end) (reports_more (all_counted k) (Came x) d.live ts live_at h.reported_here);
            reported_there = reported_then (all_counted k) cs ts d.live x live_at h.came h.reported_there;
          }

      -- an input after which it has to be saved
      took_unsaved : (x : A)
          → Stands p reports can_be s (counted_with true k (Came x)) (cs ++ Came x ∷ []) (ts ++ reports d.live x) (took p true d x)
      took_unsaved x =
          let t : S = after_all p s k.settled in
          let end : all_counted k ++ Came x ∷ [] ≡ k.settled ++ (k.since ++ Came x ∷ []) = append_assoc k.settled k.since (Came x ∷ []) in
          record {
            notes = h.notes;
            saved_can_be = h.saved_can_be;
            saved_is = h.saved_is;
            live_is = ap (λ u. p.after u x) h.live_is ∙ sym (after-append t k.since (Came x ∷ []));
            nothing_since = λ clean. absurd (false≢true (sym clean));
            came = subst (λ l. IsPartOf l (cs ++ Came x ∷ [])) end (came_more (Came x));
            sent = h.sent;
            waits = (λ i. h.waits i ++ p.messages (h.live_is i) x)
                ∙ ap (λ l. all_messages p t k.since ++ l) (sym (append-nil (p.messages (after_all p t k.since) x)))
                ∙ sym (messages-append t k.since (Came x ∷ []));
            reported_here = subst (λ l. IsPartOf (all_reports reports p s l) (ts ++ reports d.live x)) end (reports_more (all_counted k) (Came x) d.live ts live_at h.reported_here);
            reported_there = reported_then (all_counted k) cs ts d.live x live_at h.came h.reported_there;
          }

      comes : (x : A) (unsaved changes : Bool)
          → d.is_unsaved ≡ unsaved
          → p.changes d.live x ≡ changes
          → Stands p reports can_be s (counted_with (unsaved || changes) k (Came x)) (cs ++ Came x ∷ []) (ts ++ reports d.live x) (took p (unsaved || changes) d x)
      comes x false false clean same = took_at_rest x clean same
      comes x false true clean same = took_unsaved x
      comes x true false clean same = took_unsaved x
      comes x true true clean same = took_unsaved x

      reported_noted : (n : N) → IsPartOf (all_reports reports p s (all_counted k ++ Noted n ∷ [])) ts
      reported_noted n =
          subst (λ l. IsPartOf (all_reports reports p s (all_counted k ++ Noted n ∷ [])) l) (append-nil ts) (reports_more (all_counted k) (Noted n) d.live ts live_at h.reported_here)

      notes : (n : N) (unsaved : Bool)
          → d.is_unsaved ≡ unsaved
          → Stands p reports can_be s (counted_with unsaved k (Noted n)) (cs ++ Noted n ∷ []) ts (happens p d (Notes n))
      notes n false clean =
          let all : all_counted k ≡ k.settled = settled_all clean in
          let led : after_all p s (all_counted k ++ Noted n ∷ []) ≡ p.noted d.live n =
          after-append s (all_counted k) (Noted n ∷ []) ∙ ap (λ t. p.noted t n) (sym live_at) in
          let end : (all_counted k ++ Noted n ∷ []) ++ [] ≡ all_counted k ++ Noted n ∷ [] = append-nil (all_counted k ++ Noted n ∷ []) in
          record {
            notes = h.notes ++ n ∷ [];
            saved_can_be = h.saved_can_be;
            saved_is = led ∙ ap (λ t. p.noted t n) (live_settled clean ∙ h.saved_is) ∙ sym (noted-append h.notes n d.saved);
            live_is = sym led;
            nothing_since = λ _. refl;
            came = subst (λ l. IsPartOf l (cs ++ Noted n ∷ [])) (sym end) (came_more (Noted n));
            sent = subst (λ l. IsPartOf (d.sent ++ l) (all_messages p s (all_counted k ++ Noted n ∷ []))) (append-nil d.ready)
                (settles (all_counted k) (Noted n) d.sent d.ready [] (subst (λ l. IsPartOf (d.sent ++ d.ready) (all_messages p s l)) (sym all) h.sent) refl);
            waits = h.waits ∙ ap (all_messages p (after_all p s k.settled)) (h.nothing_since clean);
            reported_here = subst (λ l. IsPartOf (all_reports reports p s l) ts) (sym end) (reported_noted n);
            reported_there = λ y has. reported_still cs (Noted n ∷ []) y (h.reported_there y has);
          }
      notes n true dirty =
          let t : S = after_all p s k.settled in
          let end : all_counted k ++ Noted n ∷ [] ≡ k.settled ++ (k.since ++ Noted n ∷ []) = append_assoc k.settled k.since (Noted n ∷ []) in
          record {
            notes = h.notes;
            saved_can_be = h.saved_can_be;
            saved_is = h.saved_is;
            live_is = ap (λ u. p.noted u n) h.live_is ∙ sym (after-append t k.since (Noted n ∷ []));
            nothing_since = λ clean. absurd (false≢true (sym clean ∙ dirty));
            came = subst (λ l. IsPartOf l (cs ++ Noted n ∷ [])) end (came_more (Noted n));
            sent = h.sent;
            waits = h.waits ∙ sym (append-nil (all_messages p t k.since)) ∙ sym (messages-append t k.since (Noted n ∷ []));
            reported_here = subst (λ l. IsPartOf (all_reports reports p s l) ts) end (reported_noted n);
            reported_there = λ y has. reported_still cs (Noted n ∷ []) y (h.reported_there y has);
          }

      saves : Stands p reports can_be s (counted_by p d k Saves) cs ts (happens p d Saves)
      saves =
          let t : S = after_all p s k.settled in
          let end : all_counted k ++ [] ≡ all_counted k = append-nil (all_counted k) in
          record {
            notes = [];
            saved_can_be = subst can_be (sym live_at) (after_can_be s (all_counted k) can);
            saved_is = sym live_at;
            live_is = live_at;
            nothing_since = λ _. refl;
            came = subst (λ l. IsPartOf l cs) (sym end) h.came;
            sent = subst (λ l. IsPartOf l (all_messages p s (all_counted k))) (append_assoc d.sent d.ready d.waiting)
                (subst (λ l. IsPartOf ((d.sent ++ d.ready) ++ d.waiting) l) (sym (messages-append s k.settled k.since))
                (joined (d.sent ++ d.ready) (all_messages p s k.settled) d.waiting (all_messages p t k.since) h.sent
                (subst (λ l. IsPartOf d.waiting l) h.waits (all_of d.waiting))));
            waits = refl;
            reported_here = subst (λ l. IsPartOf (all_reports reports p s l) ts) (sym end) h.reported_here;
            reported_there = h.reported_there;
          }

      sends : (ready : List M) → d.ready ≡ ready → Stands p reports can_be s k cs ts (sent_first d ready)
      sends [] is = h
      sends (m ∷ ms) is = record {
        notes = h.notes;
        saved_can_be = h.saved_can_be;
        saved_is = h.saved_is;
        live_is = h.live_is;
        nothing_since = h.nothing_since;
        came = h.came;
        sent = subst (λ l. IsPartOf l (all_messages p s k.settled)) (ap (λ l. d.sent ++ l) is ∙ sym (append_assoc d.sent (m ∷ []) ms)) h.sent;
        waits = h.waits;
        reported_here = h.reported_here;
        reported_there = h.reported_there;
      }

      -- where power fails, one note stands for what it led back to
      fails : Stands p reports can_be s (counted_by p d k Fails) (cs ++ Noted (p.back d.saved) ∷ []) ts (happens p d Fails)
      fails =
          let note : Happening A N = Noted (p.back d.saved) in
          let led : after_all p s (k.settled ++ note ∷ []) ≡ d.saved =
          after-append s k.settled (note ∷ []) ∙ ap (λ t. p.noted t (p.back d.saved)) h.saved_is ∙ sound.goes_back d.saved h.notes h.saved_can_be in
          let end : (k.settled ++ note ∷ []) ++ [] ≡ k.settled ++ note ∷ [] = append-nil (k.settled ++ note ∷ []) in
          let reported_settled : IsPartOf (all_reports reports p s k.settled) ts =
          front (all_reports reports p s (all_counted k)) (all_reports reports p s k.settled) (all_reports reports p (after_all p s k.settled) k.since) ts (reports-append s k.settled k.since) h.reported_here in
          record {
            notes = [];
            saved_can_be = h.saved_can_be;
            saved_is = led;
            live_is = sym led;
            nothing_since = λ _. refl;
            came = subst (λ l. IsPartOf l (cs ++ note ∷ [])) (sym end)
                (joined k.settled cs (note ∷ []) (note ∷ []) (front (all_counted k) k.settled k.since cs refl h.came) (all_of (note ∷ [])));
            sent = settles k.settled note d.sent [] []
                (subst (λ l. IsPartOf l (all_messages p s k.settled)) (sym (append-nil d.sent))
                (front (d.sent ++ d.ready) d.sent d.ready (all_messages p s k.settled) refl h.sent)) refl;
            waits = refl;
            reported_here = subst (λ l. IsPartOf (all_reports reports p s l) ts) (sym end)
                (subst (λ l. IsPartOf (all_reports reports p s (k.settled ++ note ∷ [])) l) (append-nil ts)
                (reports_more k.settled note (after_all p s k.settled) ts refl reported_settled));
            reported_there = λ y has. reported_still cs (note ∷ []) y (h.reported_there y has);
          }

      -- where nothing happened, and nothing was reported
      same_past : (j : Counted A N) (e : Device S M) → Stands p reports can_be s j cs ts e → Stands p reports can_be s j (cs ++ []) (ts ++ []) e
      same_past j e g =
          subst (λ l. Stands p reports can_be s j l (ts ++ []) e) (sym (append-nil cs)) (subst (λ l. Stands p reports can_be s j cs l e) (sym (append-nil ts)) g)

      silent : (j : Counted A N) (gs : List (Happening A N)) (e : Device S M) → Stands p reports can_be s j gs ts e → Stands p reports can_be s j gs (ts ++ []) e
      silent j gs e g = subst (λ l. Stands p reports can_be s j gs l e) (sym (append-nil ts)) g

      stands_on : (e : Event A N) → Stands p reports can_be s (counted_by p d k e) (cs ++ heard p d e) (ts ++ reports_at reports d e) (happens p d e)
      stands_on (Comes x) = comes x d.is_unsaved (p.changes d.live x) refl refl
      stands_on (Notes n) = silent (counted_by p d k (Notes n)) (cs ++ Noted n ∷ []) (happens p d (Notes n)) (notes n d.is_unsaved refl)
      stands_on Saves = same_past (counted_by p d k Saves) (happens p d Saves) saves
      stands_on Sends = same_past k (happens p d Sends) (sends d.ready refl)
      stands_on Fails = silent (counted_by p d k Fails) (cs ++ Noted (p.back d.saved) ∷ []) (happens p d Fails) fails

    -- ---- all events

    all_stands : (k : Counted A N) (cs : List (Happening A N)) (ts : List R) (d : Device S M) (es : List (Event A N))
        → Stands p reports can_be s k cs ts d
        → Stands p reports can_be s (counted p d k es) (cs ++ happened p d es) (ts ++ reported reports p d es) (happen_all p d es)
    all_stands k cs ts d [] h = same_past k cs ts d h k d h
    all_stands k cs ts d (e ∷ es) h =
        let next : Device S M = happens p d e in
        let j : Counted A N = counted_by p d k e in
        let rest = all_stands j (cs ++ heard p d e) (ts ++ reports_at reports d e) next es (stands_on k cs ts d h e) in
        subst (λ l. Stands p reports can_be s (counted p next j es) l (ts ++ reported reports p d (e ∷ es)) (happen_all p next es)) (append_assoc cs (heard p d e) (happened p next es))
        (subst (λ l. Stands p reports can_be s (counted p next j es) ((cs ++ heard p d e) ++ happened p next es) l (happen_all p next es))
        (append_assoc ts (reports_at reports d e) (reported reports p next es)) rest)

    from_start : (es : List (Event A N))
        → Stands p reports can_be s (counted p (started s) nothing_yet es) (happened p (started s) es) (reported reports p (started s) es) (happen_all p (started s) es)
    from_start es = all_stands nothing_yet [] [] (started s) es (record {
      notes = [];
      saved_can_be = can;
      saved_is = refl;
      live_is = refl;
      nothing_since = λ _. refl;
      came = Ends;
      sent = Ends;
      waits = refl;
      reported_here = Ends;
      reported_there = λ y has. absurd (nobody y has);
    })

    pub as_if_powered : (es : List (Event A N)) → IsAsIfPowered p s es (happen_all p (started s) es)
    as_if_powered es =
        let d : Device S M = happen_all p (started s) es in
        let k : Counted A N = counted p (started s) nothing_yet es in
        let h = from_start es in
        let sent_settled : IsPartOf d.sent (all_messages p s k.settled) = front (d.sent ++ d.ready) d.sent d.ready (all_messages p s k.settled) refl h.sent in
        record {
          live = h.live_is ∙ sym (after-append s k.settled k.since);
          part = h.came;
          sent = subst (λ l. IsPartOf d.sent l) (sym (messages-append s k.settled k.since))
              (of_longer d.sent (all_messages p s k.settled) (all_messages p (after_all p s k.settled) k.since) sent_settled);
        }

    pub reports_as_if_powered : (es : List (Event A N)) → ReportsAsIfPowered reports p s es
    reports_as_if_powered es = let h = from_start es in record { reported_here = h.reported_here; reported_there = h.reported_there }

-- ---- a clock is a sound process

-- ---- a turn

next_same : (w : Verdict) (c : Clock) (s : State) (v : Message) → is_new w ≡ false → next_by w c s v ≡ s
next_same verdicts.AnsweredNew c s v same = absurd (false≢true (sym same))
next_same _ c s v same = refl

turn_same : (c : Clock) (s : State) (ingress : ℕ) (datagram : List ℕ) (r : Result Message DecodeError)
    → is_new (turn_by c s ingress datagram r).verdict ≡ false
    → (turn_by c s ingress datagram r).next ≡ s
turn_same c s ingress datagram (Err cause) same = refl
turn_same c s ingress datagram (Ok v) same = next_same (judged c s v) c s v same

unchanged : (c : Clock) (s : State) (x : Datagram) → is_new (turn c s x.0 x.1).verdict ≡ false → (turn c s x.0 x.1).next ≡ s
unfolding turn
unchanged c s x same = turn_same c s x.0 x.1 (reading x.1) same

next_can_be : (w : Verdict) (c : Clock) (s : State) (v : Message) → CanBe s → CanBe (next_by w c s v)
next_can_be verdicts.AnsweredNew c s v can = changed_by-consistent _ _ s.sets can
next_can_be _ c s v can = can

turn_can_be : (c : Clock) (s : State) (ingress : ℕ) (datagram : List ℕ) (r : Result Message DecodeError)
    → CanBe s
    → CanBe (turn_by c s ingress datagram r).next
turn_can_be c s ingress datagram (Err cause) can = can
turn_can_be c s ingress datagram (Ok v) can = next_can_be (judged c s v) c s v can

turned_can_be : (c : Clock) (s : State) (x : Datagram) → CanBe s → CanBe (turn c s x.0 x.1).next
unfolding turn
turned_can_be c s x can = turn_can_be c s x.0 x.1 (reading x.1) can

-- ---- observations

noted_state : (c : Clock) (notes : List Observation) (s : State)
    → noted_each (clock_process c) notes s ≡ record { sets = observed_each notes s.sets; entries = s.entries }
noted_state c [] s = refl
noted_state c (o ∷ os) s = noted_state c os ((clock_process c).noted s o)

goes_back : (c : Clock) (s : State) (notes : List Observation)
    → CanBe s
    → (clock_process c).noted (noted_each (clock_process c) notes s) ((clock_process c).back s) ≡ s
goes_back c s notes can =
    ap (λ (t : State). (clock_process c).noted t ((clock_process c).back s)) (noted_state c notes s)
    ∙ (λ i. record { sets = observed_back notes s.sets can i; entries = s.entries })

pub clock_sound : (c : Clock) → IsSound (clock_process c) CanBe
clock_sound c = record {
  unchanged = unchanged c;
  goes_back = goes_back c;
  after_can_be = turned_can_be c;
  noted_can_be = λ s o can. observed-consistent o.clock o.ports s.sets can;
}

-- a clock reports nothing before it saves
abbrev no_reports : State → Datagram → List ℕ
no_reports s x = []

pub clock_as_if_powered : (c : Clock) (s : State) (es : List (Event Datagram Observation))
    → IsConsistent s.sets
    → IsAsIfPowered (clock_process c) s es (happen_all (clock_process c) (started s) es)
clock_as_if_powered c s es can = as_if_powered (clock_process c) no_reports CanBe (clock_sound c) s can es
