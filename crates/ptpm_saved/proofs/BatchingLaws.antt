-- A process that is saved in batches is one that saves before it sends; what is not held changes nothing.
use Rattle.std.proofs.Common.{◌≡◌, ◌∙◌, Bool, true, false, ◌&&◌, ◌||◌, ℕ, List, [], ◌∷◌, ◌++◌, take, drop, ap, refl, sym, append_assoc, append-nil, Option, Result, Ok, Err}
use Rattle.std.specs.Prelude.{if◌then◌else◌, not, ◌==◌}
use Rattle.std.proofs.lemmas.Bool.{false≢true}
use Rattle.ptpm_saved.specs.Saving.{Came, Comes, Device, Event, Fails, Happening, IsSound, Noted, Process, Saves, after_all, all_messages, happen_all, happens, noted_each, sent_first, took}
use Rattle.ptpm_saved.specs.Batching.{Batch, Call, Confirms, GivesOut, Handles, HoldsChanges, IsDevice, LosesPower, LosesPowerAfter, Observes, all_events, answers, as_device, begun, calls, calls_each, changes_in, comes_after, comes_late, events, events_of, gives_out, goes_on, holds, is_held, notes, observes, shown, shown_from, waits}
use Rattle.std.specs.FinMap.{get}
use Rattle.ptpm_codec.specs.declared.error.DecodeError.{DecodeError}
use Rattle.ptpm_codec.specs.declared.message.Message.{Message}
use Rattle.ptpm_codec.specs.Reading.{reading}
use Rattle.ptpm_data.specs.Reply.{ReplyValue}
use Rattle.ptpm_table.specs.declared.reply_table.Look.{Look}
use Rattle.ptpm_table.specs.Entries.{Entries}
use Rattle.ptpm_table.specs.Managers.{Clock}
use Rattle.ptpm_table.specs.Numbering.{look_of}
use Rattle.ptpm_agent.specs.declared.verdict.Verdict.{Verdict}
use Rattle.ptpm_agent.specs.Addressing.{heard_of, is_addressed, is_numbered, is_own, is_request, request_of}
use Rattle.ptpm_agent.specs.Turn.{State, is_repeat, judged, look, outbox_of, reply_by, reply_messages, turn, turn_by, verdict_at}
use Rattle.ptpm_agent.specs.Forwarding.{forwarded}
use Rattle.ptpm_saved.specs.SavingClock.{Datagram, clock_process, is_new}
use Rattle.ptpm_saved.specs.BatchingClock.{is_numbered_in, is_of_manager}
use Rattle.ptpm_table.specs.declared.reply_table.Look.TheVariants as looks
use Rattle.ptpm_agent.specs.declared.verdict.Verdict.TheVariants as verdicts

-- ---- calls of a process that is saved in batches are events of a device that saves before it sends

abbrev pub notes_of : {A N : Type 0} → List (Happening A N) → List N
notes_of [] = []
notes_of (Came x ∷ hs) = notes_of hs
notes_of (Noted n ∷ hs) = n ∷ notes_of hs

first_saved : (unsaved changes : Bool) → (unsaved || changes) ≡ false → unsaved ≡ false
first_saved true changes is = absurd (false≢true (sym is))
first_saved false changes is = refl

-- what it is saved as, and what it goes on from, can be
pub record Can {S A N M : Type 0} (can_be : S → Type 0) (b : Batch S A N M) : Type 0 where
  pub base : can_be b.base
  pub saved : can_be b.saved

module _ {S A N M : Type 0} (p : Process S A N M) where
  happen-append : (d : Device S M) (es fs : List (Event A N)) → happen_all p d (es ++ fs) ≡ happen_all p (happen_all p d es) fs
  happen-append d [] fs = refl
  happen-append d (e ∷ es) fs = happen-append (happens p d e) es fs

  pub shown_noted : (s : S) (hs : List (Happening A N)) → shown_from p s hs ≡ noted_each p (notes_of hs) s
  shown_noted s [] = refl
  shown_noted s (Came x ∷ hs) = shown_noted s hs
  shown_noted s (Noted n ∷ hs) = shown_noted (p.noted s n) hs

  pub shown-append : (s : S) (hs gs : List (Happening A N)) → shown_from p s (hs ++ gs) ≡ shown_from p (shown_from p s hs) gs
  shown-append s [] gs = refl
  shown-append s (Came x ∷ hs) gs = shown-append s hs gs
  shown-append s (Noted n ∷ hs) gs = shown-append (p.noted s n) hs gs

  -- notes move only what the device has now
  noted_events : (d : Device S M) (hs : List (Happening A N))
      → happen_all p d (notes hs) ≡ record d { live = shown_from p d.live hs }
  noted_events d [] = refl
  noted_events d (Came x ∷ hs) = noted_events d hs
  noted_events d (Noted n ∷ hs) = noted_events (record d { live = p.noted d.live n }) hs

  -- ---- inputs that come late, and their save

  -- the device after these and a save
  abbrev saved_with : Device S M → List (Happening A N) → Device S M
  saved_with d hs = record {
    live = after_all p d.live hs;
    saved = after_all p d.live hs;
    is_unsaved = false;
    waiting = [];
    ready = d.ready ++ (d.waiting ++ all_messages p d.live hs);
    sent = d.sent;
  }

  with_ready : (now : S) (ready other sent : List M) → ready ≡ other
      → ◌≡◌ {A = Device S M} (record { live = now; saved = now; is_unsaved = false; waiting = []; ready = ready; sent = sent })
      (record { live = now; saved = now; is_unsaved = false; waiting = []; ready = other; sent = sent })
  with_ready now ready other sent is = λ i. record { live = now; saved = now; is_unsaved = false; waiting = []; ready = is i; sent = sent }

  waited : (ready waiting made rest : List M) → ready ++ ((waiting ++ made) ++ rest) ≡ ready ++ (waiting ++ (made ++ rest))
  waited ready waiting made rest = ap (λ l. ready ++ l) (append_assoc waiting made rest)

  at_once : (ready waiting made rest : List M) → waiting ≡ [] → (ready ++ made) ++ (waiting ++ rest) ≡ ready ++ (waiting ++ (made ++ rest))
  at_once ready waiting made rest none =
      ap (λ w. (ready ++ made) ++ (w ++ rest)) none ∙ append_assoc ready made rest ∙ ap (λ w. ready ++ (w ++ (made ++ rest))) (sym none)

  played_input : (b : Bool) (d : Device S M) (x : A) (hs : List (Happening A N))
      → (b ≡ false → d.waiting ≡ [])
      → ((e : Device S M) → (e.is_unsaved ≡ false → e.waiting ≡ []) → happen_all p e (events hs ++ Saves ∷ []) ≡ saved_with e hs)
      → happen_all p (took p b d x) (events hs ++ Saves ∷ []) ≡ saved_with d (Came x ∷ hs)
  played_input true d x hs clean rest =
      rest (took p true d x) (λ saved. absurd (false≢true (sym saved)))
      ∙ with_ready (after_all p (p.after d.live x) hs) (d.ready ++ ((d.waiting ++ p.messages d.live x) ++ all_messages p (p.after d.live x) hs))
      (d.ready ++ (d.waiting ++ (p.messages d.live x ++ all_messages p (p.after d.live x) hs))) d.sent
      (waited d.ready d.waiting (p.messages d.live x) (all_messages p (p.after d.live x) hs))
  played_input false d x hs clean rest =
      rest (took p false d x) (λ saved. clean refl)
      ∙ with_ready (after_all p (p.after d.live x) hs) ((d.ready ++ p.messages d.live x) ++ (d.waiting ++ all_messages p (p.after d.live x) hs))
      (d.ready ++ (d.waiting ++ (p.messages d.live x ++ all_messages p (p.after d.live x) hs))) d.sent
      (at_once d.ready d.waiting (p.messages d.live x) (all_messages p (p.after d.live x) hs) (clean refl))

  played : (d : Device S M) (hs : List (Happening A N))
      → (d.is_unsaved ≡ false → d.waiting ≡ [])
      → happen_all p d (events hs ++ Saves ∷ []) ≡ saved_with d hs
  played d [] clean = with_ready d.live (d.ready ++ d.waiting) (d.ready ++ (d.waiting ++ [])) d.sent
      (ap (λ w. d.ready ++ w) (sym (append-nil d.waiting)))
  played d (Noted n ∷ hs) clean = played (record d { live = p.noted d.live n }) hs clean
  played d (Came x ∷ hs) clean =
      played_input (d.is_unsaved || p.changes d.live x) d x hs (λ saved. clean (first_saved d.is_unsaved (p.changes d.live x) saved))
      (λ e ok. played e hs ok)

  module _ (held : A → Bool) (can_be : S → Type 0) (sound : IsSound p can_be) (holds_changes : HoldsChanges p held) where
    after_can_be : (t : S) (hs : List (Happening A N)) → can_be t → can_be (after_all p t hs)
    after_can_be t [] can = can
    after_can_be t (Came x ∷ hs) can = after_can_be (p.after t x) hs (sound.after_can_be t x can)
    after_can_be t (Noted n ∷ hs) can = after_can_be (p.noted t n) hs (sound.noted_can_be t n can)

    shown_can_be : (t : S) (hs : List (Happening A N)) → can_be t → can_be (shown_from p t hs)
    shown_can_be t [] can = can
    shown_can_be t (Came x ∷ hs) can = shown_can_be t hs can
    shown_can_be t (Noted n ∷ hs) can = shown_can_be (p.noted t n) hs (sound.noted_can_be t n can)

    -- ---- a save, at which what waited comes in

    -- the device with this state, and nothing that waits
    abbrev at_base : S → Batch S A N M → Device S M
    at_base s b = record { live = s; saved = b.saved; is_unsaved = false; waiting = []; ready = b.ready; sent = b.sent }

    back : (b : Batch S A N M) → can_be b.base → p.noted (shown p b) (p.back b.base) ≡ b.base
    back b can = ap (λ t. p.noted t (p.back b.base)) (shown_noted b.base b.since) ∙ sound.goes_back b.base (notes_of b.since) can

    late : (k : ℕ) (b : Batch S A N M) (after : List (Event A N))
        → can_be b.base
        → happen_all p (as_device p b) (comes_late p k b after) ≡ happen_all p (saved_with (at_base b.base b) (take k b.since)) after
    late k b after can =
        ap (λ t. happen_all p (at_base t b) (events (take k b.since) ++ Saves ∷ after)) (back b can)
        ∙ ap (λ l. happen_all p (at_base b.base b) l) (sym (append_assoc (events (take k b.since)) (Saves ∷ []) after))
        ∙ happen-append (at_base b.base b) (events (take k b.since) ++ Saves ∷ []) after
        ∙ ap (λ d. happen_all p d after) (played (at_base b.base b) (take k b.since) (λ clean. refl))

    or_rest : (one rest : Bool) → (one || rest) ≡ false → rest ≡ false
    or_rest true rest is = absurd (false≢true (sym is))
    or_rest false rest is = is

    abbrev clean : S → S → List M → List M → Device S M
    clean now saved ready sent = record { live = now; saved = saved; is_unsaved = false; waiting = []; ready = ready; sent = sent }

    unchanging : (now saved : S) (ready sent : List M) (hs : List (Happening A N))
        → changes_in p now hs ≡ false
        → happen_all p (clean now saved ready sent) (events hs) ≡ clean (after_all p now hs) saved (ready ++ all_messages p now hs) sent
    unchanging now saved ready sent [] none = ap (λ l. clean now saved l sent) (sym (append-nil ready))
    unchanging now saved ready sent (Noted n ∷ hs) none = unchanging (p.noted now n) saved ready sent hs none
    unchanging now saved ready sent (Came x ∷ hs) none =
        ap (λ (b : Bool). happen_all p (took p b (clean now saved ready sent) x) (events hs)) (first_saved (p.changes now x) (changes_in p (p.after now x) hs) none)
        ∙ unchanging (p.after now x) saved (ready ++ p.messages now x) sent hs (or_rest (p.changes now x) (changes_in p (p.after now x) hs) none)
        ∙ ap (λ l. clean (after_all p (p.after now x) hs) saved l sent) (append_assoc ready (p.messages now x) (all_messages p (p.after now x) hs))

    going_on : (w : Bool) (now : S) (rest : List (Happening A N)) (b : Batch S A N M)
        → changes_in p now rest ≡ w
        → happen_all p (clean now now b.ready b.sent) (if w then notes rest else events rest) ≡ as_device p (goes_on p w now rest b)
    going_on true now rest b is = noted_events (clean now now b.ready b.sent) rest
    going_on false now rest b is = unchanging now now b.ready b.sent rest is

    -- ---- each kind of call

    pub unheld : (hold wait changes : Bool) → (hold ≡ false → changes ≡ false) → (hold && (if wait then true else changes)) ≡ false → changes ≡ false
    unheld false wait changes others is = others refl
    unheld true true changes others is = absurd (false≢true (sym is))
    unheld true false changes others is = is

    answered : (changes : Bool) (b : Batch S A N M) (x : A)
        → changes ≡ false
        → p.after (shown p b) x ≡ shown p b
        → took p changes (as_device p b) x ≡ as_device p (answers p b x)
    answered true b x is same = absurd (false≢true (sym is))
    answered false b x is same = λ i. record {
      live = same i;
      saved = b.saved;
      is_unsaved = false;
      waiting = [];
      ready = b.ready ++ p.messages (shown p b) x;
      sent = b.sent;
    }

    pub handled : (h : Bool) (b : Batch S A N M) (x : A)
        → (h ≡ false → p.changes (shown p b) x ≡ false)
        → happen_all p (as_device p b) (if h then [] else Comes x ∷ []) ≡ as_device p (if h then holds b x else answers p b x)
    handled true b x others = ap (λ t. at_base t b) (sym (shown-append b.base b.since (Came x ∷ [])))
    handled false b x others =
        answered (p.changes (shown p b) x) b x (others refl) (sound.unchanged (shown p b) x (others refl))

    observed : (w : Bool) (b : Batch S A N M) (n : N) → at_base (p.noted (shown p b) n) b ≡ as_device p (observes p w b n)
    observed true b n = ap (λ t. at_base t b) (sym (shown-append b.base b.since (Noted n ∷ [])))
    observed false b n = refl

    given_out : (b : Batch S A N M) (ms : List M) → sent_first (as_device p b) ms ≡ as_device p (gives_out b ms)
    given_out b [] = refl
    given_out b (m ∷ ms) = refl

    pub one_call : (b : Batch S A N M) (c : Call A N)
        → can_be b.base
        → happen_all p (as_device p b) (events_of p held b c) ≡ as_device p (calls p held b c)
    one_call b (Handles x) can = handled (is_held p held b x) b x
        (unheld (held x) (waits b.since) (p.changes (shown p b) x) (holds_changes (shown p b) x))
    one_call b (Observes n) can = observed (waits b.since) b n
    one_call b (Confirms k) can =
        let now = after_all p b.base (take k b.since) in
        late k b (comes_after p now (drop k b.since)) can
        ∙ going_on (changes_in p now (drop k b.since)) now (drop k b.since) (record b { ready = b.ready ++ all_messages p b.base (take k b.since) }) refl
    one_call b GivesOut can = given_out b b.ready
    one_call b LosesPower can = refl
    one_call b (LosesPowerAfter k) can = late k b (Fails ∷ []) can

    -- ---- any calls

    can_handle : (h : Bool) (b : Batch S A N M) (x : A) → Can can_be b → Can can_be (if h then holds b x else answers p b x)
    can_handle true b x can = record { base = can.base; saved = can.saved }
    can_handle false b x can = record { base = can.base; saved = can.saved }

    can_observe : (w : Bool) (b : Batch S A N M) (n : N) → Can can_be b → Can can_be (observes p w b n)
    can_observe true b n can = record { base = can.base; saved = can.saved }
    can_observe false b n can = record { base = sound.noted_can_be (shown p b) n (shown_can_be b.base b.since can.base); saved = can.saved }

    can_go_on : (w : Bool) (now : S) (rest : List (Happening A N)) (b : Batch S A N M) → can_be now → Can can_be (goes_on p w now rest b)
    can_go_on true now rest b can = record { base = can; saved = can }
    can_go_on false now rest b can = record { base = after_can_be now rest can; saved = can }

    can_give_out : (b : Batch S A N M) (ms : List M) → Can can_be b → Can can_be (gives_out b ms)
    can_give_out b [] can = can
    can_give_out b (m ∷ ms) can = record { base = can.base; saved = can.saved }

    pub can_call : (b : Batch S A N M) (c : Call A N) → Can can_be b → Can can_be (calls p held b c)
    can_call b (Handles x) can = can_handle (is_held p held b x) b x can
    can_call b (Observes n) can = can_observe (waits b.since) b n can
    can_call b (Confirms k) can = can_go_on (changes_in p (after_all p b.base (take k b.since)) (drop k b.since)) (after_all p b.base (take k b.since)) (drop k b.since)
        (record b { ready = b.ready ++ all_messages p b.base (take k b.since) }) (after_can_be b.base (take k b.since) can.base)
    can_call b GivesOut can = can_give_out b b.ready can
    can_call b LosesPower can = record { base = can.saved; saved = can.saved }
    can_call b (LosesPowerAfter k) can =
        let found = after_can_be b.base (take k b.since) can.base in
        record { base = found; saved = found }

    each_call : (b : Batch S A N M) (cs : List (Call A N))
        → Can can_be b
        → happen_all p (as_device p b) (all_events p held b cs) ≡ as_device p (calls_each p held b cs)
    each_call b [] can = refl
    each_call b (c ∷ cs) can =
        happen-append (as_device p b) (events_of p held b c) (all_events p held (calls p held b c) cs)
        ∙ ap (λ d. happen_all p d (all_events p held (calls p held b c) cs)) (one_call b c can.base)
        ∙ each_call (calls p held b c) cs (can_call b c can)

    pub as_the_device : (s : S) (cs : List (Call A N)) → can_be s → IsDevice p held s cs
    as_the_device s cs can = each_call (begun s) cs (record { base = can; saved = can })

-- ---- a datagram that is not held changes nothing, and no kept reply decides its answer

not_known : (c : Clock) (s : State) (v : Message) → is_numbered c v ≡ false → look c s v ≡ looks.Unknown
not_known c s v is = ap (λ (b : Bool). look_of b (get s.entries v.source) v.number (request_of v)) is

-- the verdict of a message, if this is what the clock keeps of its manager
abbrev judged_at : Look → Clock → State → Message → Verdict
judged_at l c s v =
    if not (v.sdo == 0 && (v.domain == s.sets.default.domain || (not (is_own c v) && (is_addressed c s.sets v && (is_request v && is_repeat l))))) then verdicts.OtherDomain
    else if is_own c v then verdicts.OwnMessage
    else if not (is_addressed c s.sets v) then verdicts.NotAddressed
    else if not (is_request v) then verdicts.NotARequest
    else verdict_at l

judged_is : (c : Clock) (s : State) (v : Message) → is_numbered c v ≡ false → judged c s v ≡ judged_at looks.Unknown c s v
unfolding judged
judged_is c s v is = ap (λ (l : Look). judged_at l c s v) (not_known c s v is)

-- the two verdicts that come only of what is kept of a manager
abbrev is_kept_verdict : Verdict → Bool
is_kept_verdict verdicts.AnsweredNew = true
is_kept_verdict verdicts.AnsweredRepeat = true
is_kept_verdict _ = false

none_kept : (domain own addressed request : Bool)
    → is_kept_verdict (if domain then verdicts.OtherDomain else if own then verdicts.OwnMessage else if addressed then verdicts.NotAddressed
    else if request then verdicts.NotARequest else verdicts.AnsweredUnnumbered) ≡ false
none_kept true own addressed request = refl
none_kept false true addressed request = refl
none_kept false false true request = refl
none_kept false false false true = refl
none_kept false false false false = refl

not_kept : (c : Clock) (s : State) (v : Message) → is_kept_verdict (judged_at looks.Unknown c s v) ≡ false
not_kept c s v = none_kept _ _ _ _

not_new : (w : Verdict) → is_kept_verdict w ≡ false → is_new w ≡ false
not_new verdicts.AnsweredNew is = is
not_new _ is = refl

changes_nothing : (c : Clock) (s : State) (ingress : ℕ) (datagram : List ℕ) (r : Result Message DecodeError)
    → is_numbered_in c r ≡ false
    → is_new (turn_by c s ingress datagram r).verdict ≡ false
changes_nothing c s ingress datagram (Err cause) is = refl
changes_nothing c s ingress datagram (Ok v) is = not_new (judged c s v) (ap is_kept_verdict (judged_is c s v is) ∙ not_kept c s v)

pub holds_changes : (c : Clock) → HoldsChanges (clock_process c) (is_of_manager c)
unfolding turn
holds_changes c s x is = changes_nothing c s x.0 x.1 (reading x.1) is

-- ---- its answer

reply_same : (w : Verdict) (c : Clock) (s : State) (e : Entries) (v : Message)
    → is_kept_verdict w ≡ false
    → reply_by w c s v ≡ reply_by w c (record { sets = s.sets; entries = e }) v
reply_same verdicts.AnsweredRepeat c s e v is = absurd (cc)
reply_same verdicts.AnsweredNew c s e v is = refl
reply_same verdicts.AnsweredUnnumbered c s e v is = refl
reply_same _ c s e v is = refl

same_answer : (c : Clock) (s : State) (e : Entries) (ingress : ℕ) (datagram : List ℕ) (r : Result Message DecodeError)
    → is_numbered_in c r ≡ false
    → outbox_of (turn_by c s ingress datagram r) ≡ outbox_of (turn_by c (record { sets = s.sets; entries = e }) ingress datagram r)
same_answer c s e ingress datagram (Err cause) is = refl
same_answer c s e ingress datagram (Ok v) is =
    ap (λ (w : Verdict). forwarded c.identity ingress s.sets datagram ++ reply_messages c ingress (heard_of v) (reply_by w c s v)) (judged_is c s v is)
    ∙ ap (λ (reply : Option ReplyValue). forwarded c.identity ingress s.sets datagram ++ reply_messages c ingress (heard_of v) reply)
    (reply_same (judged_at looks.Unknown c s v) c s e v (not_kept c s v))
    ∙ ap (λ (w : Verdict). forwarded c.identity ingress s.sets datagram
    ++ reply_messages c ingress (heard_of v) (reply_by w c (record { sets = s.sets; entries = e }) v))
    (sym (judged_is c (record { sets = s.sets; entries = e }) v is))

-- it is the same whatever replies are kept
pub by_sets_alone : (c : Clock) (s : State) (e : Entries) (x : Datagram)
    → is_of_manager c x ≡ false
    → outbox_of (turn c s x.0 x.1) ≡ outbox_of (turn c (record { sets = s.sets; entries = e }) x.0 x.1)
unfolding turn
by_sets_alone c s e x is = same_answer c s e x.0 x.1 (reading x.1) is
