-- What a device is asked after the next save, and after a later one, by each call of the clock.
use Rattle.std.proofs.Common.{arith, ◌≡◌, ◌∙◌, ◌≤◌, ◌&&◌, ◌||◌, Bool, true, false, not, ap, refl, sym, subst, List, [], ◌∷◌, ◌++◌, ℕ, drop, length, take, Option, Some, None, if◌then◌else◌}
use Rattle.std.specs.Prelude.{is_some}
use Rattle.std.proofs.lemmas.Bool.{false≢true}
use Rattle.std.proofs.lemmas.List.{drop-append-le, drop_all, take-append-drop, take-append-le, take_all}
use Rattle.ptpm_data.specs.ObservationBack.{Observation}
use Rattle.ptpm_data.specs.Request.{RequestValue}
use Rattle.ptpm_saved.specs.Saving.{Came, Happening, Noted, Process, after_all, after_one, all_messages}
use Rattle.ptpm_saved.specs.SavingClock.{Datagram}
use Rattle.ptpm_saved.specs.Batching.{Confirms, GivesOut, Handles, Observes, answers, changes_in, gives_out, goes_on, holds, live, observes, waits}
use Rattle.ptpm_host.specs.declared.saving_clock.Acting.{Acting}
use Rattle.ptpm_host.specs.declared.saving_clock.Acting.TheVariants as actings
use Rattle.ptpm_host.specs.declared.saving_clock.SavingClock.{SavingClock}
use Rattle.ptpm_host.specs.Clock.{DeviceClock, clock_in}
use Rattle.ptpm_host.specs.Coming.{Changed, ClockBatch, ClockState, Coming, Decides, Undertakes, after_coming, coming_process, is_change_of}
use Rattle.ptpm_host.specs.KeptBatch.{IsImageIf}
use Rattle.ptpm_host.specs.SavingClock.{IsAsBatch, acting_once_imaged, acts_once_saved, asked_later, asked_next, called_at, kept_of, request_under_way, shown_sets}
use Rattle.ptpm_host.specs.Undertaking.{asked_once_saved, decides_in, is_decision}
use Rattle.ptpm_host.proofs.Batches.{after_all-append}
use Rattle.ptpm_host.proofs.ComingLaws.{coming_sound}
use Rattle.ptpm_host.proofs.UndertakingLaws.{kept_each, or_first, or_second}

-- ---- tests

abbrev pub chosen : Bool → Option Datagram → Option Datagram
chosen t o = if t then o else None

chosen_none : (t : Bool) → chosen t None ≡ None
chosen_none true = refl
chosen_none false = refl

or_none : (a : Bool) → (a || false) ≡ a
or_none true = refl
or_none false = refl

or_more : (a b e : Bool) → (a || (b || e)) ≡ ((a || b) || e)
or_more true b e = refl
or_more false b e = refl

and_first : (a b : Bool) → (a && b) ≡ true → a ≡ true
and_first true b is = refl
and_first false b is = is

and_second : (a b : Bool) → (a && b) ≡ true → b ≡ true
and_second true b is = is
and_second false b is = absurd (false≢true is)

always : (w : Bool) → (if w then true else true) ≡ true
always true = refl
always false = refl

and_true : (a : Bool) → (a && true) ≡ a
and_true true = refl
and_true false = refl

one_more : (a d e : Bool) (o : Option Datagram) → chosen (a && not (d || e)) o ≡ (if e then None else chosen (a && not d) o)
one_more true true true o = refl
one_more true true false o = refl
one_more true false true o = refl
one_more true false false o = refl
one_more false d true o = refl
one_more false d false o = refl

decides-append : (hs gs : List (Happening Coming Observation)) → decides_in (hs ++ gs) ≡ (decides_in hs || decides_in gs)
decides-append [] gs = refl
decides-append (Came x ∷ hs) gs = ap (λ b. is_decision x || b) (decides-append hs gs) ∙ or_more (is_decision x) (decides_in hs) (decides_in gs)
decides-append (Noted o ∷ hs) gs = decides-append hs gs

quiet_decides : (hs : List (Happening Coming Observation)) → waits hs ≡ false → decides_in hs ≡ false
quiet_decides [] quiet = refl
quiet_decides (Came x ∷ hs) quiet = absurd (false≢true (sym quiet))
quiet_decides (Noted o ∷ hs) quiet = quiet_decides hs quiet

module _ (c : DeviceClock) where
  abbrev p : Process ClockState Coming Observation (ℕ × List ℕ)
  p = coming_process c

  abbrev after : ClockState → List (Happening Coming Observation) → ClockState
  after s hs = after_all p s hs

  -- nothing was under way before these, or they decide
  abbrev is_newer : ClockState → List (Happening Coming Observation) → Bool
  is_newer s hs = not (is_some s.under_way) || decides_in hs

  -- ---- after a save of all

  pub asked_later_is : (b : ClockBatch)
      → asked_once_saved c b (length b.since) ≡ chosen (is_newer b.base b.since) (live p b).under_way
  asked_later_is b =
      let all : take (length b.since) b.since ≡ b.since = take_all (length b.since) b.since (omega arith) in
      let none : drop (length b.since) b.since ≡ [] = drop_all (length b.since) b.since (omega arith) in
      (λ i. chosen (is_newer b.base (all i) && not (decides_in (none i))) (after b.base (all i)).under_way)
      ∙ ap (λ t. chosen t (live p b).under_way) (and_true (is_newer b.base b.since))

  pub quiet_later : (b : ClockBatch) → waits b.since ≡ false → asked_once_saved c b (length b.since) ≡ None
  quiet_later b quiet = asked_later_is b ∙ ap (λ d. chosen (not (is_some b.base.under_way) || d) (live p b).under_way) (quiet_decides b.since quiet)
      ∙ same_none b.base b.since quiet
    where
      free_none : (o : Option Datagram) → chosen (not (is_some o) || false) o ≡ None
      free_none None = refl
      free_none (Some x) = refl

      same_none : (s : ClockState) (hs : List (Happening Coming Observation)) → waits hs ≡ false → chosen (not (is_some s.under_way) || false) (after s hs).under_way ≡ None
      same_none s [] still = free_none s.under_way
      same_none s (Came x ∷ hs) still = absurd (false≢true (sym still))
      same_none s (Noted o ∷ hs) still = same_none (p.noted s o) hs still

  -- ---- one more

  module _ (b : ClockBatch) (x : Happening Coming Observation) (ready sent : List (ℕ × List ℕ)) where
    abbrev with_one : ClockBatch
    with_one = record b { since = b.since ++ x ∷ []; ready = ready; sent = sent }

    pub next_one : (count : ℕ)
        → count ≤ length b.since
        → asked_once_saved c with_one count ≡ (if decides_in (x ∷ []) then None else asked_once_saved c b count)
    next_one count inside =
        let first = take-append-le count b.since (x ∷ []) inside in
        let rest = drop-append-le count b.since (x ∷ []) inside in
        (λ i. chosen (is_newer b.base (first i) && not (decides_in (rest i))) (after b.base (first i)).under_way)
        ∙ ap (λ d. chosen (is_newer b.base (take count b.since) && not d) (after b.base (take count b.since)).under_way)
        (decides-append (drop count b.since) (x ∷ []))
        ∙ one_more (is_newer b.base (take count b.since)) (decides_in (drop count b.since)) (decides_in (x ∷ []))
        (after b.base (take count b.since)).under_way

    later_one : asked_once_saved c with_one (length with_one.since)
        ≡ chosen (is_newer b.base b.since || decides_in (x ∷ [])) (after_one p (live p b) x).under_way
    later_one =
        asked_later_is with_one
        ∙ ap (λ s. chosen (is_newer b.base (b.since ++ x ∷ [])) s.under_way) (after_all-append p b.base b.since (x ∷ []))
        ∙ ap (λ d. chosen (not (is_some b.base.under_way) || d) (after_one p (live p b) x).under_way) (decides-append b.since (x ∷ []))
        ∙ ap (λ t. chosen t (after_one p (live p b) x).under_way) (or_more (not (is_some b.base.under_way)) (decides_in b.since) (decides_in (x ∷ [])))

    -- it leaves what is under way
    pub later_other : decides_in (x ∷ []) ≡ false
        → (after_one p (live p b) x).under_way ≡ (live p b).under_way
        → asked_once_saved c with_one (length with_one.since) ≡ asked_once_saved c b (length b.since)
    later_other none same =
        later_one
        ∙ (λ i. chosen (is_newer b.base b.since || none i) (same i))
        ∙ ap (λ t. chosen t (live p b).under_way) (or_none (is_newer b.base b.since))
        ∙ sym (asked_later_is b)

    -- nothing was under way
    pub later_new : decides_in (x ∷ []) ≡ false
        → (live p b).under_way ≡ None
        → asked_once_saved c with_one (length with_one.since) ≡ (after_one p (live p b) x).under_way
    later_new none free =
        later_one
        ∙ ap (λ t. chosen (t || decides_in (x ∷ [])) (after_one p (live p b) x).under_way) (newer b.base.under_way (decides_in b.since) refl refl)
      where
        newer : (o : Option Datagram) (d : Bool) → b.base.under_way ≡ o → decides_in b.since ≡ d → (not (is_some o) || d) ≡ true
        newer None d is quiet = refl
        newer (Some e) true is quiet = refl
        newer (Some e) false is quiet = absurd (none_some (sym free ∙ kept_each c b.base b.since e is quiet))
          where
            none_some : ◌≡◌ {A = Option Datagram} None (Some e) → ⊥
            none_some same = cc

    -- nothing is under way any more
    pub later_none : (after_one p (live p b) x).under_way ≡ None → asked_once_saved c with_one (length with_one.since) ≡ None
    later_none free =
        later_one
        ∙ ap (λ o. chosen (is_newer b.base b.since || decides_in (x ∷ [])) o) free
        ∙ chosen_none (is_newer b.base b.since || decides_in (x ∷ []))

  -- ---- a save

  module _ (unchanged : (s : ClockState) (x : Coming) → is_change_of c s x ≡ false → after_coming c s x ≡ s) where
    -- what changes nothing leaves what is under way, and decides only while nothing is
    still_under_way : (s : ClockState) (hs : List (Happening Coming Observation)) → changes_in p s hs ≡ false → (after s hs).under_way ≡ s.under_way
    still_under_way s [] none = refl
    still_under_way s (Came x ∷ hs) none =
        let same = unchanged s x (or_first (is_change_of c s x) (changes_in p (after_coming c s x) hs) none) in
        ap (λ t. (after t hs).under_way) same
        ∙ still_under_way s hs (subst (λ t. changes_in p t hs ≡ false) same (or_second (is_change_of c s x) (changes_in p (after_coming c s x) hs) none))
    still_under_way s (Noted o ∷ hs) none = still_under_way (p.noted s o) hs none

    one_undecided : (s : ClockState) (x : Coming) (d : Datagram) → s.under_way ≡ Some d → is_change_of c s x ≡ false → is_decision x ≡ false
    one_undecided s (Decides say) d busy none = absurd (false≢true (sym none ∙ ap is_some busy))
    one_undecided s (Undertakes port datagram) d busy none = refl
    one_undecided s _ d busy none = refl

    undecided : (s : ClockState) (hs : List (Happening Coming Observation)) (d : Datagram)
        → s.under_way ≡ Some d
        → changes_in p s hs ≡ false
        → decides_in hs ≡ false
    undecided s [] d busy none = refl
    undecided s (Came x ∷ hs) d busy none =
        let quiet = or_first (is_change_of c s x) (changes_in p (after_coming c s x) hs) none in
        let same = unchanged s x quiet in
        (λ i. one_undecided s x d busy quiet i
        || undecided s hs d busy (subst (λ t. changes_in p t hs ≡ false) same (or_second (is_change_of c s x) (changes_in p (after_coming c s x) hs) none)) i)
    undecided s (Noted o ∷ hs) d busy none = undecided (p.noted s o) hs d busy none

    some_none : (e : Datagram) → ◌≡◌ {A = Option Datagram} (Some e) None → ⊥
    some_none e same = cc

    -- newer : of what is in the image; decides : what came later; there, now : what is under way in the image, and now
    going_on : (newer decides : Bool) (there now : Option Datagram)
        → ((e : Datagram) → there ≡ Some e → decides ≡ false → now ≡ Some e)
        → (newer ≡ false → there ≡ None → ⊥)
        → chosen (not (is_some there) || decides) now
        ≡ (if is_some (chosen (newer && not decides) there) then None else chosen (newer || decides) now)
    going_on true true None now kept busy = refl
    going_on true true (Some e) now kept busy = refl
    going_on false true None now kept busy = refl
    going_on false true (Some e) now kept busy = refl
    going_on true false None now kept busy = refl
    going_on true false (Some e) now kept busy = refl
    going_on false false None now kept busy = absurd (busy refl refl)
    going_on false false (Some e) now kept busy = refl

    all_saved : (newer decides : Bool) (there now : Option Datagram)
        → now ≡ there
        → ((e : Datagram) → there ≡ Some e → decides ≡ false)
        → None ≡ (if is_some (chosen (newer && not decides) there) then None else chosen (newer || decides) now)
    all_saved newer decides None now same quiet =
        sym (ap (λ o. if is_some o then None else chosen (newer || decides) now) (chosen_none (newer && not decides))
        ∙ ap (chosen (newer || decides)) same ∙ chosen_none (newer || decides))
    all_saved true true (Some e) now same quiet = absurd (false≢true (sym (quiet e refl)))
    all_saved false true (Some e) now same quiet = absurd (false≢true (sym (quiet e refl)))
    all_saved true false (Some e) now same quiet = refl
    all_saved false false (Some e) now same quiet = refl

    free_none : (o : Option Datagram) → chosen (not (is_some o) || false) o ≡ None
    free_none None = refl
    free_none (Some x) = refl

    busy_still : (s : ClockState) (hs : List (Happening Coming Observation)) → is_newer s hs ≡ false → (after s hs).under_way ≡ None → ⊥
    busy_still s hs older free = still_busy s.under_way (decides_in hs) refl refl older
      where
        still_busy : (o : Option Datagram) (d : Bool) → s.under_way ≡ o → decides_in hs ≡ d → (not (is_some o) || d) ≡ false → ⊥
        still_busy None d is quiet newer = false≢true (sym newer)
        still_busy (Some e) true is quiet newer = false≢true (sym newer)
        still_busy (Some e) false is quiet newer = some_none e (sym (kept_each c s hs e is quiet) ∙ free)

    module _ (b : ClockBatch) (count : ℕ) (ready : List (ℕ × List ℕ)) where
      abbrev there : ClockState
      there = after b.base (take count b.since)

      abbrev rest : List (Happening Coming Observation)
      rest = drop count b.since

      now_is : (live p b).under_way ≡ (after there rest).under_way
      now_is = ap (λ hs. (after b.base hs).under_way) (sym (take-append-drop count b.since))
          ∙ ap (λ s. s.under_way) (after_all-append p b.base (take count b.since) rest)

      newer_is : is_newer b.base b.since ≡ (is_newer b.base (take count b.since) || decides_in rest)
      newer_is = ap (λ hs. is_newer b.base hs) (sym (take-append-drop count b.since))
          ∙ ap (λ d. not (is_some b.base.under_way) || d) (decides-append (take count b.since) rest)
          ∙ or_more (not (is_some b.base.under_way)) (decides_in (take count b.since)) (decides_in rest)

      later_all : asked_once_saved c b (length b.since) ≡ chosen (is_newer b.base (take count b.since) || decides_in rest) (after there rest).under_way
      later_all = asked_later_is b ∙ (λ i. chosen (newer_is i) (now_is i))

      later_saved_so : (w : Bool)
          → changes_in p there rest ≡ w
          → asked_once_saved c (goes_on p w there rest (record b { ready = ready })) (length (goes_on p w there rest (record b { ready = ready })).since)
          ≡ (if is_some (asked_once_saved c b count) then None else chosen (is_newer b.base (take count b.since) || decides_in rest) (after there rest).under_way)
      later_saved_so true is =
          asked_later_is (goes_on p true there rest (record b { ready = ready }))
          ∙ going_on (is_newer b.base (take count b.since)) (decides_in rest) there.under_way (after there rest).under_way
          (λ e busy quiet. kept_each c there rest e busy quiet)
          (busy_still b.base (take count b.since))
      later_saved_so false is =
          asked_later_is (goes_on p false there rest (record b { ready = ready }))
          ∙ free_none (after there rest).under_way
          ∙ all_saved (is_newer b.base (take count b.since)) (decides_in rest) there.under_way (after there rest).under_way
          (still_under_way there rest is) (λ e busy. undecided there rest e busy is)

      -- what was asked at this save is not asked again; anything else still is
      pub later_saved : asked_once_saved c (goes_on p (changes_in p there rest) there rest (record b { ready = ready }))
          (length (goes_on p (changes_in p there rest) there rest (record b { ready = ready })).since)
          ≡ (if is_some (asked_once_saved c b count) then None else asked_once_saved c b (length b.since))
      later_saved = later_saved_so (changes_in p there rest) refl
          ∙ ap (λ o. if is_some (asked_once_saved c b count) then None else o) (sym later_all)

-- ---- as a clock keeps it

abbrev under_way_at : SavingClock → Option Datagram
under_way_at old = request_under_way old.clock.value.under_way

module _ (old : SavingClock) (b : ClockBatch) (count : ℕ) (as_batch : IsAsBatch old b count) where
  abbrev own : DeviceClock
  own = clock_in old.clock.value

  -- ---- an image

  later_still : (a : Acting) → asked_later a (under_way_at old) ≡ asked_later (acting_once_imaged a) (under_way_at old)
  later_still actings.Nothing = refl
  later_still actings.AnImage = refl
  later_still actings.ItsSave = refl

  next_then : (a : Acting) → asked_later a (under_way_at old) ≡ asked_next (acting_once_imaged a) (under_way_at old)
  next_then actings.Nothing = refl
  next_then actings.AnImage = refl
  next_then actings.ItsSave = refl

  pub imaged_later : asked_once_saved own b (length b.since) ≡ asked_later (acting_once_imaged old.acting) (under_way_at old)
  imaged_later = as_batch.later ∙ later_still old.acting

  pub imaged_next : asked_once_saved own b (length b.since) ≡ asked_next (acting_once_imaged old.acting) (under_way_at old)
  imaged_next = as_batch.later ∙ next_then old.acting

  -- ---- a save

  asked_since : (t : Bool) → (if t then None else asked_later old.acting (under_way_at old)) ≡ asked_later (if t then actings.Nothing else old.acting) (under_way_at old)
  asked_since true = refl
  asked_since false = refl

  pub saved_later : old.is_imaged ≡ true
      → asked_once_saved own (called_at old b (Confirms count)) (length (called_at old b (Confirms count)).since)
      ≡ asked_later (if acts_once_saved old then actings.Nothing else old.acting) (under_way_at old)
  saved_later imaged =
      later_saved own (coming_sound own).unchanged b count (b.ready ++ all_messages (coming_process own) b.base (take count b.since))
      ∙ (λ i. if is_some (as_batch.next imaged i) then None else as_batch.later i)
      ∙ asked_since (acts_once_saved old)

  -- ---- an observation

  pub observed_later : (o : Observation)
      → asked_once_saved own (called_at old b (Observes o)) (length (called_at old b (Observes o)).since) ≡ asked_later old.acting (under_way_at old)
  observed_later o = so (waits b.since) refl
    where
      so : (w : Bool) → waits b.since ≡ w
          → asked_once_saved own (observes (coming_process own) w b o) (length (observes (coming_process own) w b o).since) ≡ asked_later old.acting (under_way_at old)
      so true is = later_other own b (Noted o) b.ready b.sent refl refl ∙ as_batch.later
      so false is =
          quiet_later own (observes (coming_process own) false b o) refl ∙ sym (quiet_later own b is) ∙ as_batch.later

  pub observed_next : (o : Observation)
      → (old.is_imaged && old.waits) ≡ true
      → asked_once_saved own (called_at old b (Observes o)) count ≡ asked_next old.acting (under_way_at old)
  observed_next o both =
      let imaged = and_first old.is_imaged old.waits both in
      ap (λ (w : Bool). asked_once_saved own (observes (coming_process own) w b o) count) (as_batch.kept.waits ∙ and_second old.is_imaged old.waits both)
      ∙ next_one own b (Noted o) b.ready b.sent count
      (subst (λ i. IsImageIf i (coming_process own) shown_sets (kept_of old) b count) imaged as_batch.kept.image).inside
      ∙ as_batch.next imaged

  -- ---- a change that the owner makes

  pub changed_later : (q : RequestValue)
      → asked_once_saved own (called_at old b (Handles (Changed q))) (length (called_at old b (Handles (Changed q))).since) ≡ asked_later old.acting (under_way_at old)
  changed_later q =
      ap (λ (h : Bool). let after = (if h then holds b (Changed q) else answers (coming_process own) b (Changed q)) in asked_once_saved own after (length after.since))
      (always (waits b.since))
      ∙ later_other own b (Came (Changed q)) b.ready b.sent refl refl ∙ as_batch.later

  pub changed_next : (q : RequestValue)
      → old.is_imaged ≡ true
      → asked_once_saved own (called_at old b (Handles (Changed q))) count ≡ asked_next old.acting (under_way_at old)
  changed_next q imaged =
      ap (λ (h : Bool). asked_once_saved own (if h then holds b (Changed q) else answers (coming_process own) b (Changed q)) count) (always (waits b.since))
      ∙ next_one own b (Came (Changed q)) b.ready b.sent count
      (subst (λ i. IsImageIf i (coming_process own) shown_sets (kept_of old) b count) imaged as_batch.kept.image).inside
      ∙ as_batch.next imaged

  -- ---- a message that is given out

  pub given_later : asked_once_saved own (called_at old b GivesOut) (length (called_at old b GivesOut).since) ≡ asked_later old.acting (under_way_at old)
  given_later = so b.ready
    where
      so : (ms : List (ℕ × List ℕ)) → asked_once_saved own (gives_out b ms) (length (gives_out b ms).since) ≡ asked_later old.acting (under_way_at old)
      so [] = as_batch.later
      so (m ∷ ms) = as_batch.later

  pub given_next : old.is_imaged ≡ true → asked_once_saved own (called_at old b GivesOut) count ≡ asked_next old.acting (under_way_at old)
  given_next imaged = so b.ready
    where
      so : (ms : List (ℕ × List ℕ)) → asked_once_saved own (gives_out b ms) count ≡ asked_next old.acting (under_way_at old)
      so [] = as_batch.next imaged
      so (m ∷ ms) = as_batch.next imaged
