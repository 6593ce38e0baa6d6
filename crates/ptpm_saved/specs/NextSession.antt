-- The session that goes on for one that is over (this project's profile). A manager starts it once the other has begun as many requests
-- as it can, or if its messages are to have other hops.
use Rattle.std.specs.Prelude.{◌≡◌, ℕ, ◌+◌, ◌<◌, ◌≤◌, List, [], ◌∷◌, None}
use Rattle.ptpm_codec.specs.SequenceNumber.{number_of}
use Rattle.ptpm_codec.specs.declared.message.Message.{Message}
use Rattle.ptpm_manager.specs.declared.report.Report.{Report}
use Rattle.ptpm_manager.specs.Session.{SessionValue, count_limit, fresh, reach_limit}
use Rattle.ptpm_saved.specs.Saving.{Came, Happening, after_one}
use Rattle.ptpm_saved.specs.SavingSession.{Begins, GivesUp, SessionInput, SessionNote, session_process}

-- its requests have these hops
abbrev pub with_hops : ℕ → SessionValue → SessionValue
with_hops hops s = record s { setup = record s.setup { hops = hops } }

-- It starts afresh, in the domain of the other. Its first request has the number that the other's next would have.
abbrev pub next_session : SessionValue → ℕ → SessionValue
next_session s hops = fresh (record s.setup { first = number_of s.setup.first (s.issued + 1); hops = hops }) s.domain

-- its last request was reported, so nothing is under way
pub record IsOver (s : SessionValue) : Type 0 where
  pub nothing : s.unanswered ≡ None
  pub reported : s.reported ≡ s.issued

-- its last request was reported or let go
pub record IsIdle (s : SessionValue) : Type 0 where
  pub nothing : s.unanswered ≡ None
  pub reported : s.reported ≤ s.issued

abbrev pub message_with_hops : ℕ → Message → Message
message_with_hops hops v = record v { starting_hops = hops; hops = hops }

-- the same report, of a request before which this many more were begun
abbrev pub counted_after : ℕ → Report → Report
counted_after before r = record r { index = before + r.index }

-- ---- as long as the first can begin what it is asked

abbrev pub CanBegin : SessionValue → Happening SessionInput SessionNote → Type 0
CanBegin s (Came (Begins ask)) = s.issued < count_limit
CanBegin s _ = Unit {0}

-- whenever it is asked to begin a request, it has begun fewer than it can
abbrev pub CanBeginEach : SessionValue → List (Happening SessionInput SessionNote) → Type 0
CanBeginEach s [] = Unit {0}
CanBeginEach s (h ∷ hs) = CanBegin s h × CanBeginEach (after_one session_process s h) hs

-- ---- as long as the first may give up what it is asked to

-- requests that it let go count there, and not for the other
abbrev pub CanGiveUp : SessionValue → Happening SessionInput SessionNote → Type 0
CanGiveUp s (Came GivesUp) = s.issued < s.reported + reach_limit
CanGiveUp s _ = Unit {0}

abbrev pub CanGiveUpEach : SessionValue → List (Happening SessionInput SessionNote) → Type 0
CanGiveUpEach s [] = Unit {0}
CanGiveUpEach s (h ∷ hs) = CanGiveUp s h × CanGiveUpEach (after_one session_process s h) hs
