-- The observation of all that data sets have brings them back from wherever observations have led.
use Rattle.std.proofs.Common.{arith, ◌≡◌, ◌∙◌, ap, refl, sym, nat_lt, Bool, true, false, not, ◌&&◌, List, [], ◌∷◌, length, map, Some, None}
use Rattle.std.proofs.lemmas.Bool.{or_parts}
use Rattle.std.proofs.lemmas.Bool.Decides.{nat_tests}
use Rattle.std.proofs.lemmas.List.{length-map}
use Rattle.ptpm_data.specs.declared.data_sets.ClockPrecedence.{ClockPrecedence}
use Rattle.ptpm_data.specs.declared.data_sets.DefaultDataSet.{DefaultDataSet}
use Rattle.ptpm_data.specs.declared.data_sets.PortDataSet.{PortDataSet}
use Rattle.ptpm_data.specs.declared.observation.ClockObservation.{ClockObservation}
use Rattle.ptpm_data.specs.declared.observation.PortObservation.{PortObservation}
use Rattle.ptpm_data.specs.declared.port_state.PortState.{PortState}
use Rattle.ptpm_data.specs.declared.port_state.PortState.TheVariants as states
use Rattle.ptpm_data.specs.Members.{DataSetsValue, IsConsistent, is_grandmaster, is_same_precedence}
use Rattle.ptpm_data.specs.Observation.{default_after, disables, disables_one, grandmaster_differs, is_disabled, observation_refusal, observed, port_after, ports_after, state_after}
use Rattle.ptpm_data.specs.ObservationBack.{Observation, clock_observation, observed_again, observed_each, port_observation}
use Rattle.ptpm_data.proofs.Observed.{observed-accepted, observed-all, state_stays, enables_none}
use Rattle.ptpm_data.proofs.OneImage.{precedence_same}

-- ---- what no observation moves

record IsPortKin (p q : PortDataSet) : Type 0 where
  disabled : is_disabled q.state ≡ is_disabled p.state
  log_min_delay_req : q.log_min_delay_req ≡ p.log_min_delay_req
  settings : q.settings ≡ p.settings

abbrev ArePortsKin : List PortDataSet → List PortDataSet → Type 0
ArePortsKin [] [] = Unit {0}
ArePortsKin [] (q ∷ qs) = ⊥
ArePortsKin (p ∷ ps) [] = ⊥
ArePortsKin (p ∷ ps) (q ∷ qs) = IsPortKin p q × ArePortsKin ps qs

record IsKin (d e : DataSetsValue) : Type 0 where
  identity : e.default.identity ≡ d.default.identity
  domain : e.default.domain ≡ d.default.domain
  two_step : e.default.two_step ≡ d.default.two_step
  priority1 : e.default.precedence.priority1 ≡ d.default.precedence.priority1
  priority2 : e.default.precedence.priority2 ≡ d.default.precedence.priority2
  description : e.description ≡ d.description
  ports : ArePortsKin d.ports e.ports

ports_same : (ps : List PortDataSet) → ArePortsKin ps ps
ports_same [] = tt
ports_same (p ∷ ps) = (
  record {
    disabled = refl;
    log_min_delay_req = refl;
    settings = refl;
  },
  ports_same ps,
)

same : (d : DataSetsValue) → IsKin d d
same d = record {
  identity = refl;
  domain = refl;
  two_step = refl;
  priority1 = refl;
  priority2 = refl;
  description = refl;
  ports = ports_same d.ports;
}

-- ---- an observation leaves data sets kin

port_stays : (o : PortObservation) (p q : PortDataSet)
    → disables o q ≡ false
    → IsPortKin p q
    → IsPortKin p (port_after o q)
port_stays o p q free kin = record {
  disabled = state_stays (is_disabled q.state) o.state q.state refl free ∙ kin.disabled;
  log_min_delay_req = kin.log_min_delay_req;
  settings = kin.settings;
}

ports_stay : (os : List PortObservation) (ps qs : List PortDataSet)
    → disables_one os qs ≡ false
    → ArePortsKin ps qs
    → ArePortsKin ps (ports_after os qs)
unfolding ports_after disables_one
ports_stay [] ps qs free kin = kin
ports_stay (o ∷ os) [] [] free kin = kin
ports_stay (o ∷ os) [] (q ∷ qs) free kin = absurd kin
ports_stay (o ∷ os) (p ∷ ps) [] free kin = absurd kin
ports_stay (o ∷ os) (p ∷ ps) (q ∷ qs) free kin =
    let both = or_parts (disables o q) _ free in (port_stays o p q both.0 kin.0, ports_stay os ps qs both.1 kin.1)

stays : (d e : DataSetsValue) (o : ClockObservation) (ports : List PortObservation)
    → IsKin d e
    → IsKin d (observed o ports e)
stays d e o ports kin =
    observed-all (IsKin d) o ports e kin
    (λ accepted. record {
      identity = kin.identity;
      domain = kin.domain;
      two_step = kin.two_step;
      priority1 = kin.priority1;
      priority2 = kin.priority2;
      description = kin.description;
      ports = ports_stay ports d.ports e.ports (enables_none o ports e accepted) kin.ports;
    })

each_stays : (os : List Observation) (d e : DataSetsValue) → IsKin d e → IsKin d (observed_each os e)
each_stays [] d e kin = kin
each_stays (o ∷ os) d e kin = each_stays os d (observed o.clock o.ports e) (stays d e o.clock o.ports kin)

-- ---- the ports

only_disabled : (s : PortState) → is_disabled s ≡ true → s ≡ states.Disabled
only_disabled states.Disabled is = refl
only_disabled _ is = absurd cc

state_back : (b : Bool) (s t : PortState) → is_disabled t ≡ b → is_disabled t ≡ is_disabled s → state_after b (Some s) t ≡ s
state_back true s t is kin = only_disabled t is ∙ sym (only_disabled s (sym kin ∙ is))
state_back false s t is kin = refl

port_back : (p q : PortDataSet) → IsPortKin p q → port_after (port_observation p) q ≡ p
port_back p q kin =
    let state = state_back (is_disabled q.state) p.state q.state refl kin.disabled in
    let delay_req = kin.log_min_delay_req in
    let settings = kin.settings in
    λ i. record {
      state = state i;
      log_min_delay_req = delay_req i;
      peer_delay = p.peer_delay;
      settings = settings i;
    }

ports_back : (ps qs : List PortDataSet) → ArePortsKin ps qs → ports_after (map port_observation ps) qs ≡ ps
unfolding ports_after
ports_back [] [] kin = refl
ports_back [] (q ∷ qs) kin = absurd kin
ports_back (p ∷ ps) [] kin = absurd kin
ports_back (p ∷ ps) (q ∷ qs) kin =
    let here = port_back p q kin.0 in let rest = ports_back ps qs kin.1 in λ i. here i ∷ rest i

both_or_none : (a b : Bool) → b ≡ a → (a && not b) ≡ false
both_or_none true true e = refl
both_or_none true false e = absurd cc
both_or_none false b e = refl

none_disabled : (ps qs : List PortDataSet) → ArePortsKin ps qs → disables_one (map port_observation ps) qs ≡ false
unfolding disables_one
none_disabled [] [] kin = refl
none_disabled [] (q ∷ qs) kin = absurd kin
none_disabled (p ∷ ps) [] kin = absurd kin
none_disabled (p ∷ ps) (q ∷ qs) kin =
    rw (both_or_none (is_disabled p.state) (is_disabled q.state) kin.0.disabled) (none_disabled ps qs kin.1)

same_length : (ps qs : List PortDataSet) → ArePortsKin ps qs → length qs ≡ length ps
same_length [] [] kin = refl
same_length [] (q ∷ qs) kin = absurd kin
same_length (p ∷ ps) [] kin = absurd kin
same_length (p ∷ ps) (q ∷ qs) kin = let rest = same_length ps qs kin.1 in omega arith

-- ---- the clock

default_back : (d e : DataSetsValue) → IsKin d e → default_after (clock_observation d) e.default ≡ d.default
default_back d e kin =
    let identity = kin.identity in
    let domain = kin.domain in
    let two_step = kin.two_step in
    let priority1 = kin.priority1 in
    let priority2 = kin.priority2 in
    λ i. record {
      identity = identity i;
      domain = domain i;
      two_step = two_step i;
      precedence = record d.default.precedence { priority1 = priority1 i; priority2 = priority2 i };
    }

own_by : (b : Bool) (d : DataSetsValue)
    → is_grandmaster d.default d.parent ≡ b
    → IsConsistent d
    → grandmaster_differs d.default d.parent ≡ false
own_by false d is c = rw is refl
own_by true d is c =
    let same : is_same_precedence d.parent.precedence d.default.precedence ≡ true =
    ap (λ (p : ClockPrecedence). is_same_precedence p d.default.precedence) (c.grandmaster is) ∙ precedence_same d.default.precedence in
    rw (is, same) refl

own : (d e : DataSetsValue) → IsKin d e → IsConsistent d
    → grandmaster_differs (default_after (clock_observation d) e.default) d.parent ≡ false
own d e kin c = ap (λ (x : DefaultDataSet). grandmaster_differs x d.parent) (default_back d e kin) ∙ own_by (is_grandmaster d.default d.parent) d refl c

-- ---- the whole

places : (d e : DataSetsValue) → IsKin d e → nat_lt (length e.ports) (length (map port_observation d.ports)) ≡ false
places d e kin =
    let size = same_length d.ports e.ports kin.ports in
    let made = length-map d.ports port_observation in grind (arith, nat_lt, nat_tests)

accepted : (d e : DataSetsValue) → IsKin d e → IsConsistent d
    → observation_refusal (clock_observation d) (map port_observation d.ports) e ≡ None
unfolding observation_refusal
accepted d e kin c =
    rw (places d e kin, c.accuracy, c.leaps, none_disabled d.ports e.ports kin.ports, own d e kin c) refl

back : (d e : DataSetsValue) → IsKin d e → IsConsistent d → observed_again d e ≡ d
back d e kin c =
    let default = default_back d e kin in
    let description = kin.description in
    let ports = ports_back d.ports e.ports kin.ports in
    observed-accepted (clock_observation d) (map port_observation d.ports) e (accepted d e kin c)
    ∙ (λ i. record {
      default = default i;
      description = description i;
      current = d.current;
      parent = d.parent;
      time = d.time;
      ports = ports i;
    })

pub observed_back : (os : List Observation) (d : DataSetsValue) → IsConsistent d → observed_again d (observed_each os d) ≡ d
observed_back os d c = back d (observed_each os d) (each_stays os d d (same d)) c
