-- The device of a clock that is saved while it goes on is asked for each undertaking at most once.
use Rattle.std.proofs.Common.{◌≡◌, ◌∙◌, ◌&&◌, ◌||◌, Bool, true, false, not, ap, refl, sym, subst, List, [], ◌∷◌, ◌++◌, ℕ, append_assoc, append-nil, drop, take, Option, Some, None, if◌then◌else◌}
use Rattle.std.specs.Prelude.{is_some}
use Rattle.std.proofs.lemmas.Bool.{false≢true}
use Rattle.ptpm_codec.specs.Layout.{message_octets}
use Rattle.ptpm_data.specs.ObservationBack.{Observation}
use Rattle.ptpm_device.specs.Asking.{asked}
use Rattle.ptpm_saved.specs.Saving.{Came, Comes, Counted, Device, Ends, Event, Fails, Happening, IsPartOf, IsSound, Keeps, Loses, Noted, Notes, Process, Saves, Sends, after_all, after_one, all_counted, all_reports, counted, counted_by, counted_with, happen_all, happened, happens, heard, nothing_yet, reports_of, started, took, what_counts}
use Rattle.ptpm_saved.specs.SavingClock.{Datagram}
use Rattle.ptpm_saved.specs.Batching.{Batch, Call, Confirms, GivesOut, Handles, HoldsChanges, LosesPower, LosesPowerAfter, Observes, all_events, as_device, begun, calls, calls_each, changes_in, comes_after, events, events_of, is_held, notes, shown}
use Rattle.ptpm_saved.proofs.BatchingLaws.{Can, as_the_device, can_call, notes_of, one_call, shown_noted}
use Rattle.ptpm_saved.proofs.SavingLaws.{as_if_powered}
use Rattle.ptpm_host.specs.Coming.{Changed, ClockBatch, ClockState, Coming, Decides, Heard, OfOwner, Undertakes, after_coming, coming_process, is_held_by, undertakes}
use Rattle.ptpm_host.specs.Undertaking.{AsksAtMostOnce, all_asked, all_of, asked_at, decides_in, is_decision, undertakings}
use Rattle.ptpm_host.specs.Clock.{DeviceClock}

-- ---- nothing that comes in late is lost

module _ {S A N M : Type 0} (p : Process S A N M) where
  -- power fails only while nothing is unsaved
  abbrev IsCleanAt : Device S M → Event A N → Type 0
  IsCleanAt d Fails = d.is_unsaved ≡ false
  IsCleanAt d _ = Unit {0}

  abbrev AreClean : Device S M → List (Event A N) → Type 0
  AreClean d [] = Unit {0}
  AreClean d (e ∷ es) = IsCleanAt d e × AreClean (happens p d e) es

  clean-append : (d : Device S M) (es fs : List (Event A N)) → AreClean d es → AreClean (happen_all p d es) fs → AreClean d (es ++ fs)
  clean-append d [] fs clean rest = rest
  clean-append d (e ∷ es) fs clean rest = (clean.0, clean-append (happens p d e) es fs clean.1 rest)

  clean_events : (d : Device S M) (hs : List (Happening A N)) → AreClean d (events hs)
  clean_events d [] = tt
  clean_events d (Came x ∷ hs) = (tt, clean_events (happens p d (Comes x)) hs)
  clean_events d (Noted n ∷ hs) = (tt, clean_events (happens p d (Notes n)) hs)

  clean_notes : (d : Device S M) (hs : List (Happening A N)) → AreClean d (notes hs)
  clean_notes d [] = tt
  clean_notes d (Came x ∷ hs) = clean_notes d hs
  clean_notes d (Noted n ∷ hs) = (tt, clean_notes (happens p d (Notes n)) hs)

  clean_saved : (d : Device S M) (hs : List (Happening A N)) (after : List (Event A N))
      → ((e : Device S M) → e.is_unsaved ≡ false → AreClean e after)
      → AreClean d (events hs ++ Saves ∷ after)
  clean_saved d [] after ok = (tt, ok (happens p d Saves) refl)
  clean_saved d (Came x ∷ hs) after ok = (tt, clean_saved (happens p d (Comes x)) hs after ok)
  clean_saved d (Noted n ∷ hs) after ok = (tt, clean_saved (happens p d (Notes n)) hs after ok)

  clean_after : (w : Bool) (d : Device S M) (rest : List (Happening A N)) → AreClean d (if w then notes rest else events rest)
  clean_after true d rest = clean_notes d rest
  clean_after false d rest = clean_events d rest

  -- what counts is all that happened
  abbrev IsSettled : Device S M → Counted A N → Type 0
  IsSettled d k = d.is_unsaved ≡ false → k.since ≡ []

  counted_more : (u : Bool) (k : Counted A N) (h : Happening A N) → all_counted (counted_with u k h) ≡ all_counted k ++ h ∷ []
  counted_more true k h = sym (append_assoc k.settled k.since (h ∷ []))
  counted_more false k h = append-nil ((k.settled ++ k.since) ++ h ∷ [])

  counted_one : (d : Device S M) (k : Counted A N) (e : Event A N)
      → IsSettled d k
      → IsCleanAt d e
      → all_counted (counted_by p d k e) ≡ all_counted k ++ heard p d e
  counted_one d k (Comes x) settled clean = counted_more (d.is_unsaved || p.changes d.live x) k (Came x)
  counted_one d k (Notes n) settled clean = counted_more d.is_unsaved k (Noted n)
  counted_one d k Saves settled clean = refl
  counted_one d k Sends settled clean = sym (append-nil (all_counted k))
  counted_one d k Fails settled clean =
      append-nil (k.settled ++ Noted (p.back d.saved) ∷ [])
      ∙ ap (λ l. l ++ Noted (p.back d.saved) ∷ []) (sym (append-nil k.settled) ∙ ap (λ l. k.settled ++ l) (sym (settled clean)))

  settled_with : (u : Bool) (k : Counted A N) (h : Happening A N) → u ≡ false → (counted_with u k h).since ≡ []
  settled_with true k h is = absurd (false≢true (sym is))
  settled_with false k h is = refl

  settled_took : (u : Bool) (d : Device S M) (k : Counted A N) (x : A) → IsSettled (took p u d x) (counted_with u k (Came x))
  settled_took true d k x is = absurd (false≢true (sym is))
  settled_took false d k x is = refl

  settled_sent : (d : Device S M) (k : Counted A N) (ready : List M) → IsSettled d k → IsSettled (happens p (record d { ready = ready }) Sends) k
  settled_sent d k [] settled is = settled is
  settled_sent d k (m ∷ ms) settled is = settled is

  settled_one : (d : Device S M) (k : Counted A N) (e : Event A N) → IsSettled d k → IsSettled (happens p d e) (counted_by p d k e)
  settled_one d k (Comes x) settled = settled_took (d.is_unsaved || p.changes d.live x) d k x
  settled_one d k (Notes n) settled = settled_with d.is_unsaved k (Noted n)
  settled_one d k Saves settled = λ is. refl
  settled_one d k Sends settled = settled_sent d k d.ready settled
  settled_one d k Fails settled = λ is. refl

  counted_all : (d : Device S M) (k : Counted A N) (es : List (Event A N))
      → IsSettled d k
      → AreClean d es
      → all_counted (counted p d k es) ≡ all_counted k ++ happened p d es
  counted_all d k [] settled clean = sym (append-nil (all_counted k))
  counted_all d k (e ∷ es) settled clean =
      counted_all (happens p d e) (counted_by p d k e) es (settled_one d k e settled) clean.1
      ∙ ap (λ l. l ++ happened p (happens p d e) es) (counted_one d k e settled clean.0)
      ∙ append_assoc (all_counted k) (heard p d e) (happened p (happens p d e) es)

  happened-append : (d : Device S M) (es fs : List (Event A N)) → happened p d (es ++ fs) ≡ happened p d es ++ happened p (happen_all p d es) fs
  happened-append d [] fs = refl
  happened-append d (e ∷ es) fs =
      ap (λ l. heard p d e ++ l) (happened-append (happens p d e) es fs)
      ∙ sym (append_assoc (heard p d e) (happened p (happens p d e) es) (happened p (happen_all p (happens p d e) es) fs))

  after-append : (s : S) (hs gs : List (Happening A N)) → after_all p s (hs ++ gs) ≡ after_all p (after_all p s hs) gs
  after-append s [] gs = refl
  after-append s (h ∷ hs) gs = after-append (after_one p s h) hs gs

  module _ {R : Type 0} (reports : S → A → List R) where
    reports-append : (s : S) (hs gs : List (Happening A N))
        → all_reports reports p s (hs ++ gs) ≡ all_reports reports p s hs ++ all_reports reports p (after_all p s hs) gs
    reports-append s [] gs = refl
    reports-append s (h ∷ hs) gs =
        ap (λ l. reports_of reports s h ++ l) (reports-append (after_one p s h) hs gs)
        ∙ sym (append_assoc (reports_of reports s h) (all_reports reports p (after_one p s h) hs) (all_reports reports p (after_all p (after_one p s h) hs) gs))

  happened_events : (d : Device S M) (hs : List (Happening A N)) (fs : List (Event A N))
      → happened p d (events hs ++ fs) ≡ hs ++ happened p (happen_all p d (events hs)) fs
  happened_events d [] fs = refl
  happened_events d (Came x ∷ hs) fs = ap (λ l. Came x ∷ l) (happened_events (happens p d (Comes x)) hs fs)
  happened_events d (Noted n ∷ hs) fs = ap (λ l. Noted n ∷ l) (happened_events (happens p d (Notes n)) hs fs)

  module _ (held : A → Bool) where
    clean_call : (b : Batch S A N M) (c : Call A N) → AreClean (as_device p b) (events_of p held b c)
    clean_call b (Handles x) = clean_handled (is_held p held b x)
      where
        clean_handled : (h : Bool) → AreClean (as_device p b) (if h then [] else Comes x ∷ [])
        clean_handled true = tt
        clean_handled false = (tt, tt)
    clean_call b (Observes n) = (tt, tt)
    clean_call b (Confirms k) =
        let now = after_all p b.base (take k b.since) in (
          tt,
          clean_saved (happens p (as_device p b) (Notes (p.back b.base))) (take k b.since) (comes_after p now (drop k b.since))
              (λ d is. clean_after (changes_in p now (drop k b.since)) d (drop k b.since)),
        )
    clean_call b GivesOut = (tt, tt)
    clean_call b LosesPower = (refl, tt)
    clean_call b (LosesPowerAfter k) =
        (tt, clean_saved (happens p (as_device p b) (Notes (p.back b.base))) (take k b.since) (Fails ∷ []) (λ d is. (is, tt)))

    each-append : (b : Batch S A N M) (cs : List (Call A N)) (c : Call A N) → calls_each p held b (cs ++ c ∷ []) ≡ calls p held (calls_each p held b cs) c
    each-append b [] c = refl
    each-append b (d ∷ cs) c = each-append (calls p held b d) cs c

    events-append : (b : Batch S A N M) (cs : List (Call A N)) (c : Call A N)
        → all_events p held b (cs ++ c ∷ []) ≡ all_events p held b cs ++ events_of p held (calls_each p held b cs) c
    events-append b [] c = append-nil (events_of p held b c)
    events-append b (d ∷ cs) c =
        ap (λ l. events_of p held b d ++ l) (events-append (calls p held b d) cs c)
        ∙ sym (append_assoc (events_of p held b d) (all_events p held (calls p held b d) cs) (events_of p held (calls_each p held (calls p held b d) cs) c))

    module _ (can_be : S → Type 0) (sound : IsSound p can_be) (holds_changes : HoldsChanges p held) where
      clean_calls : (b : Batch S A N M) (cs : List (Call A N)) → Can can_be b → AreClean (as_device p b) (all_events p held b cs)
      clean_calls b [] can = tt
      clean_calls b (c ∷ cs) can =
          clean-append (as_device p b) (events_of p held b c) (all_events p held (calls p held b c) cs) (clean_call b c)
          (subst (λ d. AreClean d (all_events p held (calls p held b c) cs)) (sym (one_call p held can_be sound holds_changes b c can.base))
          (clean_calls (calls p held b c) cs (can_call p held can_be sound holds_changes b c can)))

      each_can : (b : Batch S A N M) (cs : List (Call A N)) → Can can_be b → Can can_be (calls_each p held b cs)
      each_can b [] can = can
      each_can b (c ∷ cs) can = each_can (calls p held b c) cs (can_call p held can_be sound holds_changes b c can)

      module _ (s : S) (can : can_be s) where
        at_first : Can can_be (begun {S = S} {A = A} {N = N} {M = M} s)
        at_first = record { base = can; saved = can }

        -- all that comes in by calls counts
        pub counts_all : (cs : List (Call A N)) → what_counts p s (all_events p held (begun s) cs) ≡ happened p (started s) (all_events p held (begun s) cs)
        counts_all cs = counted_all (started s) nothing_yet (all_events p held (begun s) cs) (λ is. refl) (clean_calls (begun s) cs at_first)

        -- after it is what is shown
        shown_is : (cs : List (Call A N))
            → shown p (calls_each p held (begun s) cs) ≡ after_all p s (happened p (started s) (all_events p held (begun s) cs))
        shown_is cs =
            let es = all_events p held (begun s) cs in
            let none : S → A → List ℕ = λ t x. [] in
            ap (λ (d : Device S M). d.live) (sym (as_the_device p held can_be sound holds_changes s cs can))
            ∙ (as_if_powered p none can_be sound s can es).live
            ∙ ap (λ hs. after_all p s hs) (counts_all cs)

        happened_then : (cs : List (Call A N)) (c : Call A N)
            → happened p (started s) (all_events p held (begun s) (cs ++ c ∷ []))
            ≡ happened p (started s) (all_events p held (begun s) cs)
            ++ happened p (as_device p (calls_each p held (begun s) cs)) (events_of p held (calls_each p held (begun s) cs) c)
        happened_then cs c =
            let es = all_events p held (begun s) cs in
            let b = calls_each p held (begun s) cs in
            ap (λ l. happened p (started s) l) (events-append (begun s) cs c)
            ∙ happened-append (started s) es (events_of p held b c)
            ∙ ap (λ (d : Device S M). happened p (started s) es ++ happened p d (events_of p held b c)) (as_the_device p held can_be sound holds_changes s cs can)

        -- what happens by one more call leads to what is shown after it
        pub after_call : (cs : List (Call A N)) (c : Call A N) (b : Batch S A N M)
            → calls_each p held (begun s) cs ≡ b
            → after_all p (shown p b) (happened p (as_device p b) (events_of p held b c)) ≡ shown p (calls p held b c)
        after_call cs c b is =
            subst (λ (x : Batch S A N M). after_all p (shown p x) (happened p (as_device p x) (events_of p held x c)) ≡ shown p (calls p held x c)) is
            (sym (
            ap (shown p) (sym (each-append (begun s) cs c))
            ∙ shown_is (cs ++ c ∷ [])
            ∙ ap (λ hs. after_all p s hs) (happened_then cs c)
            ∙ after-append s (happened p (started s) (all_events p held (begun s) cs))
            (happened p (as_device p (calls_each p held (begun s) cs)) (events_of p held (calls_each p held (begun s) cs) c))
            ∙ ap (λ t. after_all p t (happened p (as_device p (calls_each p held (begun s) cs)) (events_of p held (calls_each p held (begun s) cs) c))) (sym (shown_is cs))))

-- ---- what is asked

pub or_first : (a b : Bool) → (a || b) ≡ false → a ≡ false
or_first true b is = is
or_first false b is = refl

pub or_second : (a b : Bool) → (a || b) ≡ false → b ≡ false
or_second true b is = absurd (false≢true (sym is))
or_second false b is = is

part_joined : {X : Type 0} (xs ys us vs : List X) → IsPartOf xs ys → IsPartOf us vs → IsPartOf (xs ++ us) (ys ++ vs)
part_joined _ _ us vs Ends q = q
part_joined _ _ us vs (Keeps x xs ys part) q = Keeps x (xs ++ us) (ys ++ vs) (part_joined xs ys us vs part q)
part_joined _ _ us vs (Loses y xs ys part) q = Loses y (xs ++ us) (ys ++ vs) (part_joined xs ys us vs part q)

part_none : {X : Type 0} (ys : List X) → IsPartOf [] ys
part_none [] = Ends
part_none (y ∷ ys) = Loses y [] ys (part_none ys)

part_behind : {X : Type 0} (xs us vs : List X) → IsPartOf xs vs → IsPartOf xs (us ++ vs)
part_behind xs [] vs part = part
part_behind xs (u ∷ us) vs part = Loses u xs (us ++ vs) (part_behind xs us vs part)

part_before : {X : Type 0} (xs ys vs : List X) → IsPartOf xs ys → IsPartOf xs (ys ++ vs)
part_before xs ys vs part = subst (λ l. IsPartOf l (ys ++ vs)) (append-nil xs) (part_joined xs ys [] vs part (part_none vs))

module _ (c : DeviceClock) where
  abbrev after : ClockState → List (Happening Coming Observation) → ClockState
  after s hs = after_all (coming_process c) s hs

  abbrev reported : ClockState → List (Happening Coming Observation) → List Datagram
  reported s hs = all_reports (undertakings c) (coming_process c) s hs

  -- without a decision the same stays under way
  stays_busy : (d : Datagram) (o : Option Datagram) (b : Bool) → o ≡ Some d → (not (is_some o) && b) ≡ false
  stays_busy d None b is = absurd (cc)
  stays_busy d (Some e) b is = refl

  kept_one : (s : ClockState) (x : Coming) (d : Datagram) → s.under_way ≡ Some d → is_decision x ≡ false → (after_coming c s x).under_way ≡ Some d
  kept_one s (Heard port datagram say) d is none = is
  kept_one s (OfOwner port datagram) d is none = is
  kept_one s (Changed request) d is none = is
  kept_one s (Undertakes port datagram) d is none =
      ap (λ (b : Bool). (if b then record s { under_way = Some (port, message_octets datagram) } else s).under_way)
      (stays_busy d s.under_way (is_some (asked c.rows c.clock s.state datagram)) is)
      ∙ is
  kept_one s (Decides say) d is none = absurd (false≢true (sym none))

  pub kept_each : (s : ClockState) (hs : List (Happening Coming Observation)) (d : Datagram)
      → s.under_way ≡ Some d
      → decides_in hs ≡ false
      → (after s hs).under_way ≡ Some d
  kept_each s [] d is none = is
  kept_each s (Came x ∷ hs) d is none =
      kept_each (after_coming c s x) hs d (kept_one s x d is (or_first (is_decision x) (decides_in hs) none))
      (or_second (is_decision x) (decides_in hs) none)
  kept_each s (Noted o ∷ hs) d is none = kept_each ((coming_process c).noted s o) hs d is none

  -- what is under way, and was not, was undertaken
  newly_tested : (s : ClockState) (x d : Datagram) (b : Bool)
      → s.under_way ≡ None
      → (if b then record s { under_way = Some x } else s).under_way ≡ Some d
      → (if b then x ∷ [] else []) ≡ d ∷ []
  newly_tested s x d true none is = let same : x ≡ d = cc in ap (λ y. y ∷ []) same
  newly_tested s x d false none is = absurd (cc)

  newly : (s : ClockState) (x : Coming) (d : Datagram) → s.under_way ≡ None → (after_coming c s x).under_way ≡ Some d → undertakings c s x ≡ d ∷ []
  newly s (Heard port datagram say) d none is = absurd (cc)
  newly s (OfOwner port datagram) d none is = absurd (cc)
  newly s (Changed request) d none is = absurd (cc)
  newly s (Undertakes port datagram) d none is = newly_tested s (port, message_octets datagram) d (undertakes c s datagram) none is
  newly s (Decides say) d none is = absurd (cc)

  no_decision : (s : ClockState) (x : Coming) (d : Datagram) → (after_coming c s x).under_way ≡ Some d → is_decision x ≡ false
  no_decision s (Decides say) d is = absurd (cc)
  no_decision s (Heard port datagram say) d is = refl
  no_decision s (OfOwner port datagram) d is = refl
  no_decision s (Changed request) d is = refl
  no_decision s (Undertakes port datagram) d is = refl

  none_before : (o : Option Datagram) (x q : Bool) → (not (is_some o) || (x || q)) ≡ true → x ≡ false → q ≡ false → o ≡ None
  none_before None x q some none quiet = refl
  none_before (Some d) true q some none quiet = absurd (false≢true (sym none))
  none_before (Some d) false true some none quiet = absurd (false≢true (sym quiet))
  none_before (Some d) false false some none quiet = absurd (false≢true some)

  -- what is under way after these was undertaken among them, if nothing was before, or they decide
  came_part : (s : ClockState) (x : Coming) (hs : List (Happening Coming Observation)) (d : Datagram) (o : Option Datagram) (a : Bool)
      → (not (is_some s.under_way) || (is_decision x || decides_in hs)) ≡ true
      → (after (after_coming c s x) hs).under_way ≡ Some d
      → (after_coming c s x).under_way ≡ o
      → (not (is_some o) || decides_in hs) ≡ a
      → (a ≡ true → IsPartOf (d ∷ []) (reported (after_coming c s x) hs))
      → IsPartOf (d ∷ []) (undertakings c s x ++ reported (after_coming c s x) hs)
  came_part s x hs d o true some is now new rest = part_behind (d ∷ []) (undertakings c s x) (reported (after_coming c s x) hs) (rest refl)
  came_part s x hs d None false some is now new rest = absurd (false≢true (sym new))
  came_part s x hs d (Some e) false some is now new rest =
      let kept : (after (after_coming c s x) hs).under_way ≡ Some e = kept_each (after_coming c s x) hs e now new in
      let same : e ≡ d = some_same e d (sym kept ∙ is) in
      let none : s.under_way ≡ None = none_before s.under_way (is_decision x) (decides_in hs) some (no_decision s x e now) new in
      subst (λ l. IsPartOf (d ∷ []) (l ++ reported (after_coming c s x) hs)) (sym (newly s x e none now ∙ ap (λ y. y ∷ []) same))
      (Keeps d [] (reported (after_coming c s x) hs) (part_none (reported (after_coming c s x) hs)))
    where
      some_same : (x y : Datagram) → ◌≡◌ {A = Option Datagram} (Some x) (Some y) → x ≡ y
      some_same x y is = cc

  undertaken_among : (s : ClockState) (hs : List (Happening Coming Observation)) (d : Datagram)
      → (not (is_some s.under_way) || decides_in hs) ≡ true
      → (after s hs).under_way ≡ Some d
      → IsPartOf (d ∷ []) (reported s hs)
  undertaken_among s [] d some is = absurd (busy_alone s.under_way is some)
    where
      busy_alone : (o : Option Datagram) → o ≡ Some d → (not (is_some o) || false) ≡ true → ⊥
      busy_alone None is some = cc
      busy_alone (Some e) is some = false≢true some
  undertaken_among s (Came x ∷ hs) d some is =
      came_part s x hs d (after_coming c s x).under_way (not (is_some (after_coming c s x).under_way) || decides_in hs) some is refl refl
      (λ new. undertaken_among (after_coming c s x) hs d new is)
  undertaken_among s (Noted o ∷ hs) d some is = undertaken_among ((coming_process c).noted s o) hs d some is

  -- ---- at each call

  module _ (can_be : ClockState → Type 0) (sound : IsSound (coming_process c) can_be) (holds_changes : HoldsChanges (coming_process c) (is_held_by c)) where
    abbrev p : Process ClockState Coming Observation (ℕ × List ℕ)
    p = coming_process c

    abbrev happens_by : ClockBatch → Call Coming Observation → List (Happening Coming Observation)
    happens_by b call = happened p (as_device p b) (events_of p (is_held_by c) b call)

    back_is : (b : ClockBatch) → can_be b.base → p.noted (shown p b) (p.back b.base) ≡ b.base
    back_is b can = ap (λ t. p.noted t (p.back b.base)) (shown_noted p b.base b.since) ∙ sound.goes_back b.base (notes_of b.since) can

    and_first : (x y : Bool) → (x && y) ≡ true → x ≡ true
    and_first true y is = refl
    and_first false y is = is

    -- at a save the events of what waited come first, from the base on
    at_save : (b : ClockBatch) (count : ℕ) (d : Datagram)
        → can_be b.base
        → (not (is_some b.base.under_way) || decides_in (take count b.since)) ≡ true
        → (after b.base (take count b.since)).under_way ≡ Some d
        → IsPartOf (d ∷ []) (reported (shown p b) (happens_by b (Confirms count)))
    at_save b count d can new is =
        let hs = take count b.since in
        let rest = comes_after p (after_all p b.base hs) (drop count b.since) in
        let noted = happens p (as_device p b) (Notes (p.back b.base)) in
        let later = happened p (happen_all p noted (events hs)) (Saves ∷ rest) in
        subst (λ l. IsPartOf (d ∷ []) l)
        (sym (
        ap (λ l. reported (p.noted (shown p b) (p.back b.base)) l) (happened_events p noted hs (Saves ∷ rest))
        ∙ ap (λ t. reported t (hs ++ later)) (back_is b can)
        ∙ reports-append p (undertakings c) b.base hs later))
        (part_before (d ∷ []) (reported b.base hs) (reported (after b.base hs) later) (undertaken_among b.base hs d new is))

    asked_so : (b : ClockBatch) (count : ℕ) (t : Bool) (o : Option Datagram)
        → can_be b.base
        → ((not (is_some b.base.under_way) || decides_in (take count b.since)) && not (decides_in (drop count b.since))) ≡ t
        → (after b.base (take count b.since)).under_way ≡ o
        → IsPartOf (all_of (if t then o else None)) (reported (shown p b) (happens_by b (Confirms count)))
    asked_so b count false o can test is = part_none (reported (shown p b) (happens_by b (Confirms count)))
    asked_so b count true None can test is = part_none (reported (shown p b) (happens_by b (Confirms count)))
    asked_so b count true (Some d) can test is =
        at_save b count d can
        (and_first (not (is_some b.base.under_way) || decides_in (take count b.since)) (not (decides_in (drop count b.since))) test) is

    asked_part : (b : ClockBatch) (call : Call Coming Observation)
        → can_be b.base
        → IsPartOf (asked_at c b call) (reported (shown p b) (happens_by b call))
    asked_part b (Confirms count) can =
        asked_so b count
        ((not (is_some b.base.under_way) || decides_in (take count b.since)) && not (decides_in (drop count b.since)))
        (after b.base (take count b.since)).under_way can refl refl
    asked_part b (Handles x) can = part_none (reported (shown p b) (happens_by b (Handles x)))
    asked_part b (Observes o) can = part_none (reported (shown p b) (happens_by b (Observes o)))
    asked_part b GivesOut can = part_none (reported (shown p b) (happens_by b GivesOut))
    asked_part b LosesPower can = part_none (reported (shown p b) (happens_by b LosesPower))
    asked_part b (LosesPowerAfter count) can = part_none (reported (shown p b) (happens_by b (LosesPowerAfter count)))

    module _ (s : ClockState) (can : can_be s) where
      asked_on : (before rest : List (Call Coming Observation)) (b : ClockBatch)
          → calls_each p (is_held_by c) (begun s) before ≡ b
          → Can can_be b
          → IsPartOf (all_asked c b rest) (reported (shown p b) (happened p (as_device p b) (all_events p (is_held_by c) b rest)))
      asked_on before [] b is fit = Ends
      asked_on before (call ∷ rest) b is fit =
          let next = calls p (is_held_by c) b call in
          let later = happened p (as_device p next) (all_events p (is_held_by c) next rest) in
          subst (λ l. IsPartOf (all_asked c b (call ∷ rest)) l)
          (sym (
          ap (λ l. reported (shown p b) l)
          (happened-append p (as_device p b) (events_of p (is_held_by c) b call) (all_events p (is_held_by c) next rest)
          ∙ ap (λ d. happens_by b call ++ happened p d (all_events p (is_held_by c) next rest)) (one_call p (is_held_by c) can_be sound holds_changes b call fit.base))
          ∙ reports-append p (undertakings c) (shown p b) (happens_by b call) later
          ∙ ap (λ t. reported (shown p b) (happens_by b call) ++ reported t later)
          (after_call p (is_held_by c) can_be sound holds_changes s can before call b is)))
          (part_joined (asked_at c b call) (reported (shown p b) (happens_by b call)) (all_asked c next rest) (reported (shown p next) later)
          (asked_part b call fit.base)
          (asked_on (before ++ call ∷ []) rest next
          (each-append p (is_held_by c) (begun s) before call ∙ ap (λ x. calls p (is_held_by c) x call) is)
          (can_call p (is_held_by c) can_be sound holds_changes b call fit)))

      pub asks_at_most_once : (each : List (Call Coming Observation)) → AsksAtMostOnce c s each
      asks_at_most_once each =
          subst (λ hs. IsPartOf (all_asked c (begun s) each) (reported s hs))
          (sym (counts_all p (is_held_by c) can_be sound holds_changes s can each))
          (asked_on [] each (begun s) refl (record { base = can; saved = can }))
