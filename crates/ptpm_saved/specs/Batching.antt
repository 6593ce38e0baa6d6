-- A process that goes on while it is being saved. A held input is carried out at once, but its messages wait for a save that includes
-- it. Every other input is answered at once from what was last saved, and what was noted since (this project's profile).
use Rattle.std.specs.Prelude.{◌≡◌, ℕ, Bool, true, false, ◌&&◌, ◌||◌, if◌then◌else◌, List, [], ◌∷◌, ◌++◌, take, drop}
use Rattle.ptpm_saved.specs.Saving.{Process, Happening, Came, Noted, Event, Comes, Notes, Saves, Sends, Fails, Device, after_all, all_messages, happen_all, started}

pub record Batch (S A N M : Type 0) : Type 0 where
  -- the state that a restart finds, and the state before the first input that waits
  pub saved : S
  pub base : S
  -- what happened from that input on; empty while no input waits
  pub since : List (Happening A N)
  pub ready : List M
  pub sent : List M

-- the state from which others are answered: it has every note, and no input that waits
abbrev pub shown_from : {S A N M : Type 0} → Process S A N M → S → List (Happening A N) → S
shown_from p s [] = s
shown_from p s (Came x ∷ hs) = shown_from p s hs
shown_from p s (Noted n ∷ hs) = shown_from p (p.noted s n) hs

abbrev pub shown : {S A N M : Type 0} → Process S A N M → Batch S A N M → S
shown p b = shown_from p b.base b.since

-- the state after all of it; an image holds this one
abbrev pub live : {S A N M : Type 0} → Process S A N M → Batch S A N M → S
live p b = after_all p b.base b.since

abbrev pub waits : {A N : Type 0} → List (Happening A N) → Bool
waits [] = false
waits (Came x ∷ hs) = true
waits (Noted n ∷ hs) = waits hs

abbrev pub begun : {S A N M : Type 0} → S → Batch S A N M
begun s = record { saved = s; base = s; since = []; ready = []; sent = [] }

pub data Call (A N : Type 0) : Type 0 where
  Handles : (input : A) → Call A N
  Observes : (note : N) → Call A N
  -- the host says that an image is saved. It was made after the first `count` of what happened since.
  Confirms : (count : ℕ) → Call A N
  GivesOut : Call A N
  -- power fails. A restart finds what was confirmed last, or an image that was made since and never confirmed.
  LosesPower : Call A N
  LosesPowerAfter : (count : ℕ) → Call A N

-- an input is answered at once, or waits
abbrev pub answers : {S A N M : Type 0} → Process S A N M → Batch S A N M → A → Batch S A N M
answers p b x = record b { ready = b.ready ++ p.messages (shown p b) x }

abbrev pub holds : {S A N M : Type 0} → Batch S A N M → A → Batch S A N M
holds b x = record b { since = b.since ++ Came x ∷ [] }

-- a held input waits if it changes the process, or if another one waits already
abbrev pub is_held : {S A N M : Type 0} → Process S A N M → (A → Bool) → Batch S A N M → A → Bool
is_held p held b x = held x && (if waits b.since then true else p.changes (shown p b) x)

abbrev pub observes : {S A N M : Type 0} → Process S A N M → Bool → Batch S A N M → N → Batch S A N M
observes p true b n = record b { since = b.since ++ Noted n ∷ [] }
observes p false b n = record b { base = p.noted (shown p b) n; since = [] }

-- whether any of these inputs changes the process
abbrev pub changes_in : {S A N M : Type 0} → Process S A N M → S → List (Happening A N) → Bool
changes_in p s [] = false
changes_in p s (Came x ∷ hs) = p.changes s x || changes_in p (p.after s x) hs
changes_in p s (Noted n ∷ hs) = changes_in p (p.noted s n) hs

-- After a save, what came since its image goes on waiting. If none of that changes anything, it is answered too: those are repeats.
abbrev pub goes_on : {S A N M : Type 0} → Process S A N M → Bool → S → List (Happening A N) → Batch S A N M → Batch S A N M
goes_on p true now rest b = record b { saved = now; base = now; since = rest }
goes_on p false now rest b =
    record b { saved = now; base = after_all p now rest; since = []; ready = b.ready ++ all_messages p now rest }

abbrev pub confirms : {S A N M : Type 0} → Process S A N M → ℕ → Batch S A N M → Batch S A N M
confirms p k b =
    goes_on p (changes_in p (after_all p b.base (take k b.since)) (drop k b.since)) (after_all p b.base (take k b.since)) (drop k b.since)
    (record b { ready = b.ready ++ all_messages p b.base (take k b.since) })

abbrev pub restarts_at : {S A N M : Type 0} → S → Batch S A N M → Batch S A N M
restarts_at s b = record { saved = s; base = s; since = []; ready = []; sent = b.sent }

abbrev pub gives_out : {S A N M : Type 0} → Batch S A N M → List M → Batch S A N M
gives_out b [] = b
gives_out b (m ∷ ms) = record b { ready = ms; sent = b.sent ++ m ∷ [] }

abbrev pub calls : {S A N M : Type 0} → Process S A N M → (A → Bool) → Batch S A N M → Call A N → Batch S A N M
calls p held b (Handles x) = if is_held p held b x then holds b x else answers p b x
calls p held b (Observes n) = observes p (waits b.since) b n
calls p held b (Confirms k) = confirms p k b
calls p held b GivesOut = gives_out b b.ready
calls p held b LosesPower = restarts_at b.saved b
calls p held b (LosesPowerAfter k) = restarts_at (after_all p b.base (take k b.since)) b

abbrev pub calls_each : {S A N M : Type 0} → Process S A N M → (A → Bool) → Batch S A N M → List (Call A N) → Batch S A N M
calls_each p held b [] = b
calls_each p held b (c ∷ cs) = calls_each p held (calls p held b c) cs

-- ---- the events of a device that saves before it sends

abbrev pub events : {A N : Type 0} → List (Happening A N) → List (Event A N)
events [] = []
events (Came x ∷ hs) = Comes x ∷ events hs
events (Noted n ∷ hs) = Notes n ∷ events hs

abbrev pub notes : {A N : Type 0} → List (Happening A N) → List (Event A N)
notes [] = []
notes (Came x ∷ hs) = notes hs
notes (Noted n ∷ hs) = Notes n ∷ notes hs

-- What waited comes in late, at its save. A note comes first, which leads back to what was observed when the first of it came.
abbrev pub comes_late : {S A N M : Type 0} → Process S A N M → ℕ → Batch S A N M → List (Event A N) → List (Event A N)
comes_late p k b after = Notes (p.back b.base) ∷ events (take k b.since) ++ Saves ∷ after

-- What came after the image comes in too, if it changes nothing. Otherwise it waits, and only its notes are noted again.
abbrev pub comes_after : {S A N M : Type 0} → Process S A N M → S → List (Happening A N) → List (Event A N)
comes_after p now rest = if changes_in p now rest then notes rest else events rest

abbrev pub events_of : {S A N M : Type 0} → Process S A N M → (A → Bool) → Batch S A N M → Call A N → List (Event A N)
events_of p held b (Handles x) = if is_held p held b x then [] else Comes x ∷ []
events_of p held b (Observes n) = Notes n ∷ []
events_of p held b (Confirms k) = comes_late p k b (comes_after p (after_all p b.base (take k b.since)) (drop k b.since))
events_of p held b GivesOut = Sends ∷ []
events_of p held b LosesPower = Fails ∷ []
events_of p held b (LosesPowerAfter k) = comes_late p k b (Fails ∷ [])

abbrev pub all_events : {S A N M : Type 0} → Process S A N M → (A → Bool) → Batch S A N M → List (Call A N) → List (Event A N)
all_events p held b [] = []
all_events p held b (c ∷ cs) = events_of p held b c ++ all_events p held (calls p held b c) cs

-- the device of these events, which has nothing unsaved between two calls
abbrev pub as_device : {S A N M : Type 0} → Process S A N M → Batch S A N M → Device S M
as_device p b = record { live = shown p b; saved = b.saved; is_unsaved = false; waiting = []; ready = b.ready; sent = b.sent }

-- ---- what is promised

-- an input that is not held changes nothing
abbrev pub HoldsChanges : {S A N M : Type 0} → Process S A N M → (A → Bool) → Type 0
HoldsChanges {S} {A} p held = (s : S) (x : A) → held x ≡ false → p.changes s x ≡ false

-- whatever is called, it is the device of these events
abbrev pub IsDevice : {S A N M : Type 0} → Process S A N M → (A → Bool) → S → List (Call A N) → Type 0
IsDevice p held s cs = happen_all p (started s) (all_events p held (begun s) cs) ≡ as_device p (calls_each p held (begun s) cs)
