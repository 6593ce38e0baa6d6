-- What nobody at a desk sees: which messages left, and which request an answer is to.
use Rattle.std.specs.Prelude.{ℕ, Bool, List, [], ◌∷◌, ◌++◌, Option, Some, None, if◌then◌else◌}
use Rattle.ptpm_data.specs.Request.{RequestValue}
use Rattle.ptpm_manager.specs.declared.receiving.Received.{Received}
use Rattle.ptpm_manager.specs.declared.receiving.Received.TheVariants as received
use Rattle.ptpm_manager.specs.Receiving.{received_of}
use Rattle.ptpm_asker.specs.Desk.{Desk, Hears, Move, Notes, Returns, Sends, latest_number, moved}

-- a message with a request, under its number
pub record Sent : Type 0 where
  pub number : ℕ
  pub request : RequestValue

pub record Watch : Type 0 where
  -- what left since the latest note, the latest first
  pub left : List Sent
  -- the request that the latest answer is to
  pub answered : Option RequestValue
  -- the same when the latest note was made
  pub told : Option RequestValue

abbrev pub nothing_seen : Watch
nothing_seen = record { left = []; answered = None; told = None }

abbrev pub sent_by : ℕ → Option RequestValue → List Sent
sent_by number None = []
sent_by number (Some q) = record { number = number; request = q } ∷ []

abbrev pub without_first : List Sent → List Sent
without_first [] = []
without_first (m ∷ further) = further

-- what left before the message that was handed out last
abbrev pub before_latest : Bool → List Sent → List Sent
before_latest out left = if out then without_first left else left

abbrev pub answered_after : Option RequestValue → Option RequestValue → Received → Option RequestValue
answered_after asked before (received.Answered report) = asked
answered_after asked before (received.Ignored reason) = before

-- a message that had no way did not leave
abbrev pub watched : Desk → Watch → Move → Watch
watched d w Sends = record w { left = sent_by (latest_number d.live) d.live.unanswered ++ w.left }
watched d w Returns = record w { left = before_latest d.run.is_out w.left }
watched d w (Hears datagram) = record w { answered = answered_after d.live.unanswered w.answered (received_of d.live datagram) }
watched d w (Notes note) = record w { left = []; told = w.answered }
watched d w _ = w

abbrev pub watched_by : Desk → Watch → List Move → Watch
watched_by d w [] = w
watched_by d w (m ∷ ms) = watched_by (moved d m) (watched d w m) ms

-- all that was handed out to be sent, whether it left or not
abbrev pub sent_at : Desk → Move → List Sent
sent_at d Sends = sent_by (latest_number d.live) d.live.unanswered
sent_at d _ = []

abbrev pub sent_in : Desk → List Move → List Sent
sent_in d [] = []
sent_in d (m ∷ ms) = sent_at d m ++ sent_in (moved d m) ms
