-- The places of an observation: one with more of them than the clock has ports is refused; numbers of so many bits.
use Rattle.std.proofs.Common.{arith, ◌≡◌, ◌<◌, ◌≤◌, ◌+◌, ◌*◌, ◌^◌, ◌-◌, ◌==◌, ◌&&◌, ◌∙◌, not, ℕ, suc, Bool, true, false, List, ap, nat_lt, Some, length, refl}
use Rattle.std.specs.Int.{from_bool}
use Rattle.std.proofs.Math.Nat.{pow-succ'}
use Rattle.std.proofs.Math.Pow.{pow_mono}
use Rattle.ptpm_data.specs.declared.ports.TheConstants.{PORTS}
use Rattle.ptpm_data.specs.Members.{DataSetsValue, may_forward}
use Rattle.ptpm_data.specs.Observation.{is_left, observation_refusal}
use Rattle.ptpm_host.specs.Answers.{egress_from}
use Rattle.ptpm_host.specs.Observing.{left_from, IsObserved, clock_observation, observe_refusal, port_observation, port_observations}
use Rattle.std.proofs.lemmas.Bool.Decides.{nat_tests}
use Rattle.std.proofs.lemmas.List.{length-map}
use Rattle.ptpm_data.specs.declared.observation.ObservationError.TheVariants.{NoPort}
use Rattle.ptpm_data.proofs.Observed.{observed-refused}
use Rattle.ptpm_host.specs.declared.clock.HostedClock.{HostedClock}
use Rattle.ptpm_host.specs.declared.observing.ObservedClock.{ObservedClock}
use Rattle.ptpm_host.specs.declared.observing.ObservedPort.{ObservedPort}

-- ---- the number of the last ports, with one more before them

pub next_left : (above number : ℕ) (left : List Bool)
    → above < PORTS
    → number ≡ left_from (PORTS + 1 - above) above left
    → from_bool (is_left (PORTS - above) left) + 2 * number ≡ left_from (PORTS + 1 - (above + 1)) (above + 1) left
next_left above number left less is =
    let port : PORTS - above ≡ PORTS + 1 - (above + 1) = omega arith in
    let behind : PORTS + 1 - above ≡ PORTS - above + 1 = omega arith in
    let more : suc above ≡ above + 1 = omega arith in
    ap (λ n. from_bool (is_left (PORTS - above) left) + 2 * n) (is ∙ ap (λ p. left_from p above left) behind)
    ∙ (λ i. left_from (port i) (more i) left)

pub next_egress : (count above number ingress : ℕ) (d : DataSetsValue)
    → above < count
    → number ≡ egress_from (count + 1 - above) above ingress d
    → from_bool (not (count - above == ingress) && may_forward (count - above) d) + 2 * number
    ≡ egress_from (count + 1 - (above + 1)) (above + 1) ingress d
next_egress count above number ingress d less is =
    let port : count - above ≡ count + 1 - (above + 1) = omega arith in
    let behind : count + 1 - above ≡ count - above + 1 = omega (arith, less) in
    let more : suc above ≡ above + 1 = omega arith in
    ap (λ n. from_bool (not (count - above == ingress) && may_forward (count - above) d) + 2 * n) (is ∙ ap (λ p. egress_from p above ingress d) behind)
    ∙ (λ i. egress_from (port i) (more i) ingress d)

pub next_fits : (above bit number : ℕ) → bit ≤ 1 → number < 2 ^ above → bit + 2 * number < 2 ^ (above + 1)
next_fits above bit number small few =
    let e : 2 ^ (above + 1) ≡ 2 * 2 ^ above = ap (λ n. 2 ^ n) (omega arith) ∙ pow-succ' 2 above in
    omega (arith, e, small, few)

pub in_word : (above number : ℕ) → above < 64 → number < 2 ^ (above + 1) → number < 2 ^ 64
in_word above number less few = omega (arith, pow_mono {i = above + 1} {j = 64} (omega (arith, less)), few)

pub bit_small : (b : Bool) → from_bool b ≤ 1
bit_small true = omega arith
bit_small false = omega arith

-- ---- an observation with more places than the clock has ports is refused, and changes nothing

pub no_port : (o : ObservedClock) (ports : List ObservedPort) (c : HostedClock)
    → length c.agent.sets.ports < length ports
    → observe_refusal o ports c ≡ Some NoPort
unfolding observation_refusal
no_port o ports c more =
    let e : nat_lt (length c.agent.sets.ports) (length (port_observations ports)) ≡ true =
    rw (length-map ports port_observation) (grind (arith, nat_tests)) in
    rw e refl

pub same_clock : (o : ObservedClock) (ports : List ObservedPort) (c : HostedClock)
    → length c.agent.sets.ports < length ports
    → IsObserved o ports c c
same_clock o ports c more = record {
  sets_are = rw (observed-refused (clock_observation o) (port_observations ports) c.agent.sets NoPort (no_port o ports c more)) refl;
  table_is = refl;
}
