-- What the messages of a clock's outbox belong to, by its verdict and the port that each leaves at.
use Rattle.std.specs.Prelude.{ℕ, ◌==◌, Bool, true, false, List, if◌then◌else◌}
use Rattle.ptpm_agent.specs.declared.verdict.Verdict.{Verdict}
use Rattle.ptpm_agent.specs.declared.verdict.Verdict.TheVariants as verdicts
use Rattle.ptpm_network.specs.RunningNetwork.{Held, posted}
use Rattle.ptpm_network.specs.Machine.{reply_origin}
use Rattle.ptpm_network.specs.Network.{AtPort, End, peers}
use Rattle.ptpm_network.specs.State.{Origin, Neither}

-- a numbered request is answered
abbrev pub answers_copy : Verdict → Bool
answers_copy verdicts.AnsweredNew = true
answers_copy verdicts.AnsweredRepeat = true
answers_copy _ = false

-- the reply to a numbered request belongs to it, any other to nothing
abbrev pub origin_by : Verdict → Origin → Origin
origin_by verdict o = if answers_copy verdict then reply_origin o else Neither

-- What a clock sends for a datagram that came in at a port. What leaves at that port is the reply, and anything else is passed
-- on.
abbrev pub posted_by : List (List End) → ℕ → ℕ → Origin → Origin → ℕ × List ℕ → List Held
posted_by links c ingress passed reply m =
    posted (peers links (AtPort c m.0)) m.1 (if m.0 == ingress then reply else passed)
