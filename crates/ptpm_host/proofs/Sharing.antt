-- Answers in places, and what is passed on of a datagram that is its own copy.
use Rattle.std.proofs.Common.{◌≡◌, ◌<◌, ◌≤◌, ◌+◌, ◌-◌, ◌∷◌, ◌++◌, ◌∙◌, ℕ, Bool, true, false, List, [], ap, drop, length, refl, slice_set, take}
use Rattle.std.specs.Prelude.{IsTrue}
use Rattle.std.proofs.lemmas.List.{length-set, length-take, length-take-le, map-append, take_at, take_min, take_more_set}
use Rattle.ptpm_codec.specs.Layout.{boundary_hops, message_length, message_octets}
use Rattle.ptpm_data.specs.Members.{DataSetsValue}
use Rattle.ptpm_agent.specs.Forwarding.{with_less_hop}
use Rattle.ptpm_host.specs.Answers.{answer_in, answers_in, egress_from, egress_if}
use Rattle.ptpm_host.specs.declared.answer_places.SentAnswer.{SentAnswer}

-- one answer more
pub answers_more : (room : List SentAnswer) (place : ℕ) (s : SentAnswer) (answer : ℕ × List ℕ)
    → place < length room
    → answer_in s ≡ answer
    → answers_in (take (place + 1) (slice_set room place s)) ≡ answers_in (take place room) ++ answer ∷ []
answers_more room place s answer inside is =
    ap answers_in (take_more_set room place s inside)
    ∙ map-append answer_in (take place room) (s ∷ [])
    ∙ ap (λ x. answers_in (take place room) ++ x ∷ []) is

-- its first octets, with one hop less
pub lowered : (size hops : ℕ) (datagram : List ℕ)
    → size ≡ length (message_octets datagram)
    → size ≤ length datagram
    → hops ≡ boundary_hops datagram - 1
    → take size (slice_set (take size datagram) 45 hops ++ drop size datagram) ≡ with_less_hop datagram
lowered size hops datagram counted inside less =
    let whole : take size datagram ≡ message_octets datagram =
    ap (λ n. take n datagram) (counted ∙ length-take (message_length datagram) datagram) ∙ take_min (message_length datagram) datagram in
    take_at (slice_set (take size datagram) 45 hops) (drop size datagram) size (length-set (take size datagram) 45 hops ∙ length-take-le size datagram inside)
    ∙ (λ i. slice_set (whole i) 45 (less i))

-- the ports are those before the turn, since one that passes a datagram on changes no data set
pub egress_same : (passed : Bool) (ingress : ℕ) (before after : DataSetsValue)
    → (IsTrue passed → after ≡ before)
    → egress_if passed ingress after ≡ egress_if passed ingress before
egress_same true ingress before after same = ap (λ (d : DataSetsValue). egress_from 1 (length d.ports) ingress d) (same refl)
egress_same false ingress before after same = refl
