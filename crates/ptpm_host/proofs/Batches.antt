-- What each call does to a batch, and to what is kept of one.
use Rattle.std.proofs.Common.{arith, ◌≡◌, ◌∙◌, ◌+◌, Bool, true, false, ◌&&◌, ◌||◌, ℕ, List, [], ◌∷◌, ◌++◌, take, drop, length, replicate, ap, refl, sym, subst, append_assoc, append-nil}
use Rattle.std.specs.Prelude.{if◌then◌else◌}
use Rattle.std.proofs.lemmas.Bool.{false≢true}
use Rattle.std.proofs.lemmas.List.{drop-append-le, take-append-drop, take-append-le, take_all, drop_all, length-append, nil_from_length}
use Rattle.ptpm_saved.specs.Saving.{Came, Happening, Noted, Process, after_all, after_one, all_messages, messages_of}
use Rattle.ptpm_saved.specs.Batching.{Batch, Confirms, GivesOut, Handles, Observes, answers, calls, calls_each, changes_in, gives_out, goes_on, holds, is_held, live, observes, shown, shown_from, waits}
use Rattle.ptpm_host.specs.KeptBatch.{IsGivenOut, IsImage, IsImageIf, IsKept, KeptBatch, LeadsTo, kept_confirmed, kept_held, kept_imaged, kept_observed}

module _ {S A N M : Type 0} (p : Process S A N M) where
  pub after_all-append : (s : S) (hs gs : List (Happening A N)) → after_all p s (hs ++ gs) ≡ after_all p (after_all p s hs) gs
  after_all-append s [] gs = refl
  after_all-append s (h ∷ hs) gs = after_all-append (after_one p s h) hs gs

  pub all_messages-append : (s : S) (hs gs : List (Happening A N))
      → all_messages p s (hs ++ gs) ≡ all_messages p s hs ++ all_messages p (after_all p s hs) gs
  all_messages-append s [] gs = refl
  all_messages-append s (h ∷ hs) gs =
      ap (λ l. messages_of p s h ++ l) (all_messages-append (after_one p s h) hs gs)
      ∙ sym (append_assoc (messages_of p s h) (all_messages p (after_one p s h) hs) (all_messages p (after_all p (after_one p s h) hs) gs))

  pub shown_append : (s : S) (hs gs : List (Happening A N)) → shown_from p s (hs ++ gs) ≡ shown_from p (shown_from p s hs) gs
  shown_append s [] gs = refl
  shown_append s (Came x ∷ hs) gs = shown_append s hs gs
  shown_append s (Noted n ∷ hs) gs = shown_append (p.noted s n) hs gs

  pub changes_in-came : (s : S) (hs : List (Happening A N)) (x : A)
      → changes_in p s (hs ++ Came x ∷ []) ≡ (changes_in p s hs || p.changes (after_all p s hs) x)
  changes_in-came s [] x = or_none (p.changes s x)
    where
      or_none : (b : Bool) → (b || false) ≡ b
      or_none true = refl
      or_none false = refl
  changes_in-came s (Came y ∷ hs) x =
      ap (λ b. p.changes s y || b) (changes_in-came (p.after s y) hs x)
      ∙ or_more (p.changes s y) (changes_in p (p.after s y) hs) (p.changes (after_all p (p.after s y) hs) x)
    where
      or_more : (a b c : Bool) → (a || (b || c)) ≡ ((a || b) || c)
      or_more true b c = refl
      or_more false b c = refl
  changes_in-came s (Noted n ∷ hs) x = changes_in-came (p.noted s n) hs x

  pub changes_in-noted : (s : S) (hs : List (Happening A N)) (n : N) → changes_in p s (hs ++ Noted n ∷ []) ≡ changes_in p s hs
  changes_in-noted s [] n = refl
  changes_in-noted s (Came y ∷ hs) n = ap (λ b. p.changes s y || b) (changes_in-noted (p.after s y) hs n)
  changes_in-noted s (Noted m ∷ hs) n = changes_in-noted (p.noted s m) hs n

  pub waits-came : (hs : List (Happening A N)) (x : A) → waits (hs ++ Came x ∷ []) ≡ true
  waits-came [] x = refl
  waits-came (Came y ∷ hs) x = refl
  waits-came (Noted n ∷ hs) x = waits-came hs x

  pub waits-noted : (hs : List (Happening A N)) (n : N) → waits (hs ++ Noted n ∷ []) ≡ waits hs
  waits-noted [] n = refl
  waits-noted (Came y ∷ hs) n = refl
  waits-noted (Noted m ∷ hs) n = waits-noted hs n

  -- while nothing waits, what is shown is the live state, and there are no messages
  pub quiet_shown : (s : S) (hs : List (Happening A N)) → waits hs ≡ false → after_all p s hs ≡ shown_from p s hs
  quiet_shown s [] quiet = refl
  quiet_shown s (Came x ∷ hs) quiet = absurd (false≢true (sym quiet))
  quiet_shown s (Noted n ∷ hs) quiet = quiet_shown (p.noted s n) hs quiet

  pub quiet_messages : (s : S) (hs : List (Happening A N)) → waits hs ≡ false → all_messages p s hs ≡ []
  quiet_messages s [] quiet = refl
  quiet_messages s (Came x ∷ hs) quiet = absurd (false≢true (sym quiet))
  quiet_messages s (Noted n ∷ hs) quiet = quiet_messages (p.noted s n) hs quiet

  pub quiet_changes : (s : S) (hs : List (Happening A N)) → changes_in p s hs ≡ true → waits hs ≡ true
  quiet_changes s [] some = some
  quiet_changes s (Came x ∷ hs) some = refl
  quiet_changes s (Noted n ∷ hs) some = quiet_changes (p.noted s n) hs some

  module _ (unchanged : (s : S) (x : A) → p.changes s x ≡ false → p.after s x ≡ s) where
    or_first : (a b : Bool) → (a || b) ≡ false → a ≡ false
    or_first true b is = is
    or_first false b is = refl

    or_second : (a b : Bool) → (a || b) ≡ false → b ≡ false
    or_second true b is = absurd (false≢true (sym is))
    or_second false b is = is

    -- what changes nothing leaves what is shown
    pub same_shown : (s : S) (hs : List (Happening A N)) → changes_in p s hs ≡ false → after_all p s hs ≡ shown_from p s hs
    same_shown s [] none = refl
    same_shown s (Came x ∷ hs) none =
        let same = unchanged s x (or_first (p.changes s x) (changes_in p (p.after s x) hs) none) in
        ap (λ t. after_all p t hs) same
        ∙ same_shown s hs (subst (λ t. changes_in p t hs ≡ false) same (or_second (p.changes s x) (changes_in p (p.after s x) hs) none))
    same_shown s (Noted n ∷ hs) none = same_shown (p.noted s n) hs none

-- ---- each call

module _ {S V A N M : Type 0} (p : Process S A N M) (look : S → V) where
  -- the image is of the same batch, whatever was given out
  image_given : (i : Bool) (k : KeptBatch S V M) (b : Batch S A N M) (ready sent : List M) (count : ℕ)
      → IsImageIf i p look k b count
      → IsImageIf i p look k (record b { ready = ready; sent = sent }) count
  image_given false k b ready sent count image = image
  image_given true k b ready sent count image =
      record { inside = image.inside; copied = image.copied; is_changed = image.is_changed; first = image.first }

  module _ (held : A → Bool) where
    pub answered : (k : KeptBatch S V M) (b : Batch S A N M) (count : ℕ) (x : A) (given : List M)
        → IsKept p look k b count
        → k.ready ≡ 0
        → is_held p held b x ≡ false
        → p.messages (shown p b) x ≡ given
        → LeadsTo p look given k (calls p held b (Handles x)) count
    answered k b count x given kept none free made =
        let empty : b.ready ≡ [] = nil_from_length b.ready (kept.ready ∙ none) in
        let here : answers p b x ≡ calls p held b (Handles x) = sym (ap (λ h. if h then holds b x else answers p b x) free) in
        subst (λ after. LeadsTo p look given k after count) here (record {
          given_out = ap (λ l. l ++ p.messages (shown p b) x) empty ∙ made;
          as_batch = record {
            live = kept.live;
            shown = kept.shown;
            waits = kept.waits;
            messages = kept.messages ∙ ap (λ l. l ++ all_messages p b.base b.since) empty;
            ready = sym none;
            image = image_given k.is_imaged k b [] (b.sent ++ (b.ready ++ p.messages (shown p b) x)) count kept.image;
          };
        })

    image_held : (i : Bool) (k : KeptBatch S V M) (b : Batch S A N M) (count : ℕ) (x : A) (made ready sent : List M)
        → live p b ≡ k.live
        → IsImageIf i p look k b count
        → IsImageIf i p look (kept_held (p.after k.live x) made (p.changes k.live x) k)
        (record b { since = b.since ++ Came x ∷ []; ready = ready; sent = sent }) count
    image_held false k b count x made ready sent now image = image
    image_held true k b count x made ready sent now image =
        let first = take-append-le count b.since (Came x ∷ []) image.inside in
        let rest = drop-append-le count b.since (Came x ∷ []) image.inside in
        let s : S = after_all p b.base (take count b.since) in
        let all : after_all p s (drop count b.since) ≡ k.live =
        sym (after_all-append p b.base (take count b.since) (drop count b.since))
        ∙ ap (λ hs. after_all p b.base hs) (take-append-drop count b.since) ∙ now in
        record {
          inside = omega (arith, image.inside, length-append b.since (Came x ∷ []));
          copied = (λ i. look (shown_from p (after_all p b.base (first i)) (rest i)))
              ∙ ap look (shown_append p s (drop count b.since) (Came x ∷ [])) ∙ image.copied;
          is_changed = (λ i. changes_in p (after_all p b.base (first i)) (rest i))
              ∙ changes_in-came p s (drop count b.since) x
              ∙ (λ i. image.is_changed i || p.changes (all i) x);
          first = ap (λ hs. length (all_messages p b.base hs)) first ∙ image.first;
        }

    pub waiting : (k : KeptBatch S V M) (b : Batch S A N M) (count : ℕ) (x : A) (made : List M)
        → IsKept p look k b count
        → k.ready ≡ 0
        → is_held p held b x ≡ true
        → p.messages k.live x ≡ made
        → LeadsTo p look [] (kept_held (p.after k.live x) made (p.changes k.live x) k) (calls p held b (Handles x)) count
    waiting k b count x made kept none is_held_here is_made =
        let empty : b.ready ≡ [] = nil_from_length b.ready (kept.ready ∙ none) in
        let here : holds b x ≡ calls p held b (Handles x) = sym (ap (λ h. if h then holds b x else answers p b x) is_held_here) in
        subst (λ after. LeadsTo p look [] (kept_held (p.after k.live x) made (p.changes k.live x) k) after count) here (record {
          given_out = empty;
          as_batch = record {
            live = after_all-append p b.base b.since (Came x ∷ []) ∙ ap (λ s. p.after s x) kept.live;
            shown = ap look (shown_append p b.base b.since (Came x ∷ [])) ∙ kept.shown;
            waits = waits-came p b.since x;
            messages =
                (λ i. (kept.messages ∙ ap (λ l. l ++ all_messages p b.base b.since) empty) i
                ++ (sym is_made ∙ ap (λ s. p.messages s x) (sym kept.live)) i)
                ∙ sym (all_messages-append p b.base b.since (Came x ∷ [])
                ∙ ap (λ l. all_messages p b.base b.since ++ l) (append-nil (p.messages (live p b) x)));
            ready = sym none;
            image = image_held k.is_imaged k b count x made [] (b.sent ++ b.ready) kept.live kept.image;
          };
        })

    -- without messages, also while others are ready
    pub waiting_silent : (k : KeptBatch S V M) (b : Batch S A N M) (count : ℕ) (x : A)
        → IsKept p look k b count
        → is_held p held b x ≡ true
        → p.messages k.live x ≡ []
        → IsKept p look (kept_held (p.after k.live x) [] (p.changes k.live x) k) (calls p held b (Handles x)) count
    waiting_silent k b count x kept is_held_here silent =
        let here : holds b x ≡ calls p held b (Handles x) = sym (ap (λ h. if h then holds b x else answers p b x) is_held_here) in
        subst (λ after. IsKept p look (kept_held (p.after k.live x) [] (p.changes k.live x) k) after count) here (record {
          live = after_all-append p b.base b.since (Came x ∷ []) ∙ ap (λ s. p.after s x) kept.live;
          shown = ap look (shown_append p b.base b.since (Came x ∷ [])) ∙ kept.shown;
          waits = waits-came p b.since x;
          messages = append-nil k.messages ∙ kept.messages ∙ ap (λ l. b.ready ++ l)
              (sym (all_messages-append p b.base b.since (Came x ∷ [])
              ∙ ap (λ l. all_messages p b.base b.since ++ l)
              (append-nil (p.messages (live p b) x) ∙ ap (λ s. p.messages s x) kept.live ∙ silent)
              ∙ append-nil (all_messages p b.base b.since)));
          ready = kept.ready;
          image = image_held k.is_imaged k b count x [] b.ready b.sent kept.live kept.image;
        })

    -- ---- an observation

    module _ (move : V → V) (n : N) (moves : (s : S) → look (p.noted s n) ≡ move (look s)) where
      image_observed : (i : Bool) (k : KeptBatch S V M) (b : Batch S A N M) (count : ℕ)
          → IsImageIf i p look k b count
          → IsImageIf i p look (kept_observed (p.noted k.live n) move k) (record b { since = b.since ++ Noted n ∷ [] }) count
      image_observed false k b count image = image
      image_observed true k b count image =
          let first = take-append-le count b.since (Noted n ∷ []) image.inside in
          let rest = drop-append-le count b.since (Noted n ∷ []) image.inside in
          let s : S = after_all p b.base (take count b.since) in
          record {
            inside = omega (arith, image.inside, length-append b.since (Noted n ∷ []));
            copied = (λ i. look (shown_from p (after_all p b.base (first i)) (rest i)))
                ∙ ap look (shown_append p s (drop count b.since) (Noted n ∷ []))
                ∙ moves (shown_from p s (drop count b.since)) ∙ ap move image.copied;
            is_changed = (λ i. changes_in p (after_all p b.base (first i)) (rest i))
                ∙ changes_in-noted p s (drop count b.since) n ∙ image.is_changed;
            first = ap (λ hs. length (all_messages p b.base hs)) first ∙ image.first;
          }

      observed_so : (w : Bool) (k : KeptBatch S V M) (b : Batch S A N M) (count : ℕ)
          → IsKept p look k b count
          → waits b.since ≡ w
          → k.waits ≡ w
          → IsKept p look (kept_observed (p.noted k.live n) move k) (observes p w b n) count
      observed_so true k b count kept so is_so = record {
        live = after_all-append p b.base b.since (Noted n ∷ []) ∙ ap (λ s. p.noted s n) kept.live;
        shown = ap look (shown_append p b.base b.since (Noted n ∷ [])) ∙ moves (shown p b) ∙ ap move kept.shown;
        waits = waits-noted p b.since n ∙ kept.waits;
        messages = kept.messages ∙ ap (λ l. b.ready ++ l)
            (sym (all_messages-append p b.base b.since (Noted n ∷ []) ∙ append-nil (all_messages p b.base b.since)));
        ready = kept.ready;
        image = subst (λ i. IsImageIf i p look (kept_observed (p.noted k.live n) move k) (record b { since = b.since ++ Noted n ∷ [] }) count)
            (sym (and_true k.is_imaged) ∙ ap (λ w. k.is_imaged && w) (sym is_so))
            (image_observed k.is_imaged k b count kept.image);
      }
        where
          and_true : (i : Bool) → (i && true) ≡ i
          and_true true = refl
          and_true false = refl
      observed_so false k b count kept so is_so =
          let same : shown p b ≡ k.live = sym (quiet_shown p b.base b.since so) ∙ kept.live in
          record {
            live = ap (λ s. p.noted s n) same;
            shown = moves (shown p b) ∙ ap move kept.shown;
            waits = sym is_so;
            messages = kept.messages ∙ ap (λ l. b.ready ++ l) (quiet_messages p b.base b.since so);
            ready = kept.ready;
            image = subst (λ i. IsImageIf i p look (kept_observed (p.noted k.live n) move k)
                (record b { base = p.noted (shown p b) n; since = [] }) count)
                (sym (and_false k.is_imaged) ∙ ap (λ w. k.is_imaged && w) (sym is_so)) tt;
          }
        where
          and_false : (i : Bool) → (i && false) ≡ false
          and_false true = refl
          and_false false = refl

      pub observed_kept : (k : KeptBatch S V M) (b : Batch S A N M) (count : ℕ)
          → IsKept p look k b count
          → IsKept p look (kept_observed (p.noted k.live n) move k) (calls p held b (Observes n)) count
      observed_kept k b count kept = observed_so (waits b.since) k b count kept refl (sym kept.waits)

    -- ---- an image, and its save

    pub imaged : (k : KeptBatch S V M) (b : Batch S A N M) (count : ℕ)
        → IsKept p look k b count
        → IsKept p look (kept_imaged (look k.live) k) b (length b.since)
    imaged k b count kept =
        let all : take (length b.since) b.since ≡ b.since = take_all (length b.since) b.since (omega arith) in
        let none : drop (length b.since) b.since ≡ [] = drop_all (length b.since) b.since (omega arith) in
        record {
          live = kept.live;
          shown = kept.shown;
          waits = kept.waits;
          messages = kept.messages;
          ready = kept.ready;
          image = record {
            inside = omega arith;
            copied = (λ i. look (shown_from p (after_all p b.base (all i)) (none i))) ∙ ap look kept.live;
            is_changed = (λ i. changes_in p (after_all p b.base (all i)) (none i));
            first = omega (
              arith,
              ap (λ hs. length (all_messages p b.base hs)) all,
              ap (λ l. length l) kept.messages,
              length-append b.ready (all_messages p b.base b.since),
              kept.ready,
            );
          };
        }

    module _ (unchanged : (s : S) (x : A) → p.changes s x ≡ false → p.after s x ≡ s) where
      confirmed_so : (c : Bool) (k : KeptBatch S V M) (b : Batch S A N M) (count later : ℕ)
          → IsKept p look k b count
          → IsImage p look k b count
          → changes_in p (after_all p b.base (take count b.since)) (drop count b.since) ≡ c
          → k.is_changed ≡ c
          → IsKept p look (kept_confirmed k)
          (goes_on p c (after_all p b.base (take count b.since)) (drop count b.since)
          (record b { ready = b.ready ++ all_messages p b.base (take count b.since) })) later
      confirmed_so c k b count later kept image so is_so = record {
        live = now_live c so;
        shown = now_shown c so;
        waits = now_waits c so ∙ sym is_so;
        messages = now_messages c;
        ready = now_ready c is_so;
        image = tt;
      }
        where
          now : S
          now = after_all p b.base (take count b.since)

          rest : List (Happening A N)
          rest = drop count b.since

          after : Bool → Batch S A N M
          after d = goes_on p d now rest (record b { ready = b.ready ++ all_messages p b.base (take count b.since) })

          whole : after_all p now rest ≡ k.live
          whole = sym (after_all-append p b.base (take count b.since) rest)
              ∙ ap (λ hs. after_all p b.base hs) (take-append-drop count b.since) ∙ kept.live

          now_live : (d : Bool) → changes_in p now rest ≡ d → live p (after d) ≡ k.live
          now_live true is = whole
          now_live false is = whole

          now_shown : (d : Bool) → changes_in p now rest ≡ d → look (shown p (after d)) ≡ k.copied
          now_shown true is = image.copied
          now_shown false is = ap look (same_shown p unchanged now rest is) ∙ image.copied

          now_waits : (d : Bool) → changes_in p now rest ≡ d → waits ((after d).since) ≡ d
          now_waits true is = quiet_changes p now rest is
          now_waits false is = refl

          each : all_messages p b.base b.since ≡ all_messages p b.base (take count b.since) ++ all_messages p now rest
          each = ap (λ hs. all_messages p b.base hs) (sym (take-append-drop count b.since))
              ∙ all_messages-append p b.base (take count b.since) rest

          parts : k.messages ≡ (b.ready ++ all_messages p b.base (take count b.since)) ++ all_messages p now rest
          parts = kept.messages ∙ ap (λ l. b.ready ++ l) each
              ∙ sym (append_assoc b.ready (all_messages p b.base (take count b.since)) (all_messages p now rest))

          now_messages : (d : Bool) → k.messages ≡ (after d).ready ++ all_messages p ((after d).base) ((after d).since)
          now_messages true = parts
          now_messages false = parts ∙ sym (append-nil ((b.ready ++ all_messages p b.base (take count b.since)) ++ all_messages p now rest))

          now_ready : (d : Bool) → k.is_changed ≡ d → length ((after d).ready) ≡ (if k.is_changed then k.ready + k.first else length k.messages)
          now_ready true is =
              length-append b.ready (all_messages p b.base (take count b.since))
              ∙ (λ i. kept.ready i + image.first i)
              ∙ ap (λ e. if e then k.ready + k.first else length k.messages) (sym is)
          now_ready false is =
              ap (λ l. length l) (sym parts)
              ∙ ap (λ e. if e then k.ready + k.first else length k.messages) (sym is)

      pub confirmed : (k : KeptBatch S V M) (b : Batch S A N M) (count later : ℕ)
          → IsKept p look k b count
          → k.is_imaged ≡ true
          → IsKept p look (kept_confirmed k) (calls p held b (Confirms count)) later
      confirmed k b count later kept is_imaged =
          let image : IsImage p look k b count = subst (λ i. IsImageIf i p look k b count) is_imaged kept.image in
          confirmed_so (changes_in p (after_all p b.base (take count b.since)) (drop count b.since)) k b count later kept image refl
          (sym image.is_changed)

    -- ---- what is given out

    image_taken : (i : Bool) (k : KeptBatch S V M) (b : Batch S A N M) (ready sent rest : List M) (left count : ℕ)
        → IsImageIf i p look k b count
        → IsImageIf i p look (record k { messages = rest; ready = left }) (record b { ready = ready; sent = sent }) count
    image_taken false k b ready sent rest left count image = image
    image_taken true k b ready sent rest left count image =
        record { inside = image.inside; copied = image.copied; is_changed = image.is_changed; first = image.first }

    first_same : (m o : M) (rest more : List M) → m ∷ rest ≡ o ∷ more → m ≡ o
    first_same m o rest more same = cc

    rest_same : (m o : M) (rest more : List M) → m ∷ rest ≡ o ∷ more → rest ≡ more
    rest_same m o rest more same = cc

    -- the first message that was released is given out
    pub record GivesFirst (k : KeptBatch S V M) (m : M) (rest : List M) (left : ℕ) (b : Batch S A N M) (count : ℕ) : Type 0 where
      pub as_batch : IsKept p look (record k { messages = rest; ready = left }) (calls p held b GivesOut) count
      pub sent : (calls p held b GivesOut).sent ≡ b.sent ++ m ∷ []

    given_so : (ready : List M) (k : KeptBatch S V M) (m : M) (rest : List M) (left : ℕ) (b : Batch S A N M) (count : ℕ)
        → b.ready ≡ ready
        → IsKept p look k b count
        → k.messages ≡ m ∷ rest
        → k.ready ≡ left + 1
        → GivesFirst k m rest left b count
    given_so [] k m rest left b count is kept messages many =
        absurd (omega (arith, ap (λ l. length l) is, kept.ready, many))
    given_so (o ∷ more) k m rest left b count is kept messages many =
        let both : m ∷ rest ≡ o ∷ (more ++ all_messages p b.base b.since) =
        sym messages ∙ kept.messages ∙ ap (λ l. l ++ all_messages p b.base b.since) is in
        let same : m ≡ o = first_same m o rest (more ++ all_messages p b.base b.since) both in
        let here : record b { ready = more; sent = b.sent ++ o ∷ [] } ≡ calls p held b GivesOut = sym (ap (gives_out b) is) in
        record {
          as_batch = subst (λ after. IsKept p look (record k { messages = rest; ready = left }) after count) here (record {
            live = kept.live;
            shown = kept.shown;
            waits = kept.waits;
            messages = rest_same m o rest (more ++ all_messages p b.base b.since) both;
            ready = omega (arith, ap (λ l. length l) is, kept.ready, many);
            image = image_taken k.is_imaged k b more (b.sent ++ o ∷ []) rest left count kept.image;
          });
          sent = subst (λ after. after.sent ≡ b.sent ++ m ∷ []) here (ap (λ l. b.sent ++ l ∷ []) (sym same));
        }

    pub given_first : (k : KeptBatch S V M) (m : M) (rest : List M) (left : ℕ) (b : Batch S A N M) (count : ℕ)
        → IsKept p look k b count
        → k.messages ≡ m ∷ rest
        → k.ready ≡ left + 1
        → GivesFirst k m rest left b count
    given_first k m rest left b count kept messages many = given_so b.ready k m rest left b count refl kept messages many

    given_each : (ready : List M) (b : Batch S A N M)
        → calls_each p held (record b { ready = ready }) (replicate (length ready) GivesOut)
        ≡ record b { ready = []; sent = b.sent ++ ready }
    given_each [] b = λ i. record b { ready = []; sent = sym (append-nil b.sent) i }
    given_each (m ∷ ready) b =
        given_each ready (record b { sent = b.sent ++ m ∷ [] })
        ∙ (λ i. record b { ready = []; sent = append_assoc b.sent (m ∷ []) ready i })

    pub given_all : (b : Batch S A N M) → IsGivenOut p held b
    given_all b = given_each b.ready b
