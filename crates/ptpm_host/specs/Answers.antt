-- Answers in the places of a host, and the datagram that goes on at other ports.
use Rattle.std.specs.Prelude.{◌≡◌, ◌≤◌, ◌<◌, ◌==◌, ◌&&◌, ◌+◌, ◌*◌, ◌++◌, ℕ, zero, suc, not, nat_lt, Bool, List, length, map, max, take, if◌then◌else◌}
use Rattle.std.specs.FinMap.{entries}
use Rattle.std.specs.Int.{from_bool}
use Rattle.ptpm_data.specs.Members.{DataSetsValue, may_forward}
use Rattle.ptpm_agent.specs.Forwarding.{copies_if, with_less_hop}
use Rattle.ptpm_agent.specs.Turn.{State, Turned, outbox_of}
use Rattle.ptpm_agent.specs.declared.verdict.Verdict.{Verdict}
use Rattle.ptpm_host.specs.MostSent.{most_answers}
use Rattle.ptpm_host.specs.declared.answer_places.SentAnswer.{SentAnswer}

-- an answer with the port that it is sent at
abbrev pub answer_in : SentAnswer → ℕ × List ℕ
answer_in s = (s.port, take s.size s.octets)

abbrev pub answers_in : List SentAnswer → List (ℕ × List ℕ)
answers_in places = map answer_in places

-- its size is no more than the octets of its place
abbrev pub IsWholeAnswer : SentAnswer → Type 0
IsWholeAnswer s = s.size ≤ 184

-- an answer of each port, or those of one kept reply
abbrev pub most_replied : State → ℕ
most_replied s = max (length s.sets.ports) (most_answers (entries s.entries))

-- the egress ports among these, as a number: 1 for the first of these ports, 2 for the second, 4 for the third, summed up
abbrev pub egress_from : ℕ → ℕ → ℕ → DataSetsValue → ℕ
egress_from port zero ingress d = 0
egress_from port (suc n) ingress d =
    from_bool (not (port == ingress) && may_forward port d) + 2 * egress_from (port + 1) n ingress d

-- those of the clock, if the datagram is passed on
abbrev pub egress_if : Bool → ℕ → DataSetsValue → ℕ
egress_if passed ingress d = if passed then egress_from 1 (length d.ports) ingress d else 0

-- What goes on is the first octets of the datagram, if `size` is not 0. With a copy at each egress port, the answers are what the turn sends.
pub record IsShared (t : Turned) (d : DataSetsValue) (ingress : ℕ) (before after : List ℕ) (verdict : Verdict) (ports size : ℕ)
    (answers : List (ℕ × List ℕ)) (next : State) : Type 0 where
  pub verdict_is : verdict ≡ t.verdict
  pub messages_are : copies_if (nat_lt 0 size) ingress d before ++ answers ≡ outbox_of t
  pub ports_are : ports ≡ egress_if (nat_lt 0 size) ingress d
  pub copy_is : 0 < size → take size after ≡ with_less_hop before
  pub stays : size ≡ 0 → after ≡ before
  pub sets_are : next.sets ≡ t.next.sets
  pub entries_are : next.entries ≡ t.next.entries
