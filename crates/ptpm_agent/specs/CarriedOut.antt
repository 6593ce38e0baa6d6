-- The requests that a clock carried out in its turns, in time or late, and what it has after them (this project's profile).
use Rattle.std.specs.Prelude.{◌≡◌, ℕ, List, [], ◌∷◌, ◌++◌, false, Result, Ok, Err}
use Rattle.std.specs.List.{AllByRecursion}
use Rattle.ptpm_codec.specs.declared.error.DecodeError.{DecodeError}
use Rattle.ptpm_codec.specs.declared.identity.PortIdentity.{PortIdentity}
use Rattle.ptpm_codec.specs.declared.message.Message.{Message}
use Rattle.ptpm_codec.specs.Identity.{same_identity}
use Rattle.ptpm_codec.specs.Reading.{reading}
use Rattle.ptpm_agent.specs.declared.verdict.Verdict.{Verdict}
use Rattle.ptpm_agent.specs.declared.verdict.Verdict.TheVariants as verdicts
use Rattle.ptpm_agent.specs.Turn.{Clock, NumberedRequest, State, after_request, judged, numbered_from, turn}

-- a message's request is carried out if the verdict is AnsweredNew, and nothing is if it is another
abbrev pub carried_by : Verdict → Message → List NumberedRequest
carried_by verdicts.AnsweredNew v = numbered_from v ∷ []
carried_by _ v = []

abbrev pub carried_of : Clock → State → Result Message DecodeError → List NumberedRequest
carried_of c s (Err cause) = []
carried_of c s (Ok v) = carried_by (judged c s v) v

-- what a clock carries out in its turn at a datagram
abbrev pub carried_in : Clock → State → List ℕ → List NumberedRequest
carried_in c s datagram = carried_of c s (reading datagram)

-- and in its turns at these, each with the port that it comes in at, one after another
abbrev pub carried_in_turns : Clock → State → List (ℕ × List ℕ) → List NumberedRequest
carried_in_turns c s [] = []
carried_in_turns c s (x ∷ xs) =
    carried_in c s x.1 ++ carried_in_turns c (turn c s x.0 x.1).next xs

-- the clock after these requests, one after another
abbrev pub after_requests : Clock → State → List NumberedRequest → State
after_requests c s [] = s
after_requests c s (r ∷ rs) = after_requests c (after_request c s r) rs

-- none of these is a request of this manager
abbrev pub AreOfOthers : PortIdentity → List NumberedRequest → Type 0
AreOfOthers m rs = AllByRecursion (λ r. same_identity m r.manager ≡ false) rs
