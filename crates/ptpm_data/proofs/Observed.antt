-- What an observation moves and keeps, port by port and member by member.
use Rattle.std.proofs.Common.{arith, ◌≡◌, ◌∙◌, ap, refl, sym, ℕ, zero, suc, ◌+◌, ◌<◌, ◌≤◌, Bool, true, false, ◌&&◌, ◌||◌, nat_lt, List, [], ◌∷◌, ◌++◌, take, length, get_or, set, add-one, None, ℤ, not, map, slice_get, Option, Some, option_and_then, unwrap_or}
use Rattle.std.proofs.Math.Bool.{or_assoc}
use Rattle.std.proofs.lemmas.Bool.{not-false, or_parts}
use Rattle.std.proofs.lemmas.Bool.Decides.{nat_tests}
use Rattle.ptpm_data.specs.declared.data_sets.PortDataSet.{PortDataSet}
use Rattle.ptpm_data.specs.declared.observation.PortObservation.{PortObservation}
use Rattle.ptpm_data.specs.declared.observation.ClockObservation.{ClockObservation}
use Rattle.ptpm_data.specs.Members.{DataSetsValue, IsConsistent, is_grandmaster, is_own_grandmaster}
use Rattle.ptpm_data.specs.Observation.{accepted_observation, default_after, disables, disables_one, is_left_disabled, left_disabled, observation_refusal, parent_after, port_after, ports_after, time_after, grandmaster_after, grandmaster_follows, is_disabled, is_disabled_state, observed, state_after, unless_not_observed}
use Rattle.ptpm_data.specs.Ranges.{is_clock_accuracy}
use Rattle.ptpm_data.proofs.SettingLemmas.{ports_observed}
use Rattle.ptpm_data.proofs.StartLemmas.{passes, precedence_sound, unless_ok}
use Rattle.ptpm_codec.proofs.OctetLaws.{refilled}
use Rattle.ptpm_data.proofs.Keeping.{length-named_changed}
use Rattle.std.specs.Option.{option_or}
use Rattle.ptpm_data.specs.declared.members.Member.{Member}
use Rattle.ptpm_data.specs.declared.port_state.PortState.{PortState}
use Rattle.ptpm_data.specs.declared.data_sets.ParentDataSet.{ParentDataSet}
use Rattle.ptpm_data.specs.declared.observation.ObservationError.{ObservationError}
use Rattle.ptpm_data.specs.declared.observation.ObservedGrandmaster.{ObservedGrandmaster}
use Rattle.ptpm_data.specs.declared.observation.ObservedGrandmaster.TheVariants.{Itself, Announced}
use Rattle.ptpm_data.specs.MemberMap.{Place, OfClock, OfPort, natural, integer, flag, clock_member, port_member, value_of}
use Rattle.ptpm_data.specs.ObservationLaws.{of_grandmaster, observed_of_clock, observed_of_port, observed_there, observed_value, IsSizedGrandmaster, IsSizedObservation}
use Rattle.ptpm_data.specs.RequestLaws.{IsSized}
use Rattle.ptpm_data.specs.declared.members.Member.TheVariants as members

-- ---- the ports of an observation, one after another, and what an observation keeps

module _ (o : PortObservation) (p : PortDataSet) where
  disables_next : (os : List PortObservation) (ports : List PortDataSet) (i : ℕ)
      → i < length os
      → i < length ports
      → disables_one (take (suc i) os) ports
      ≡ (disables_one (take i os) ports || disables (get_or os i o) (get_or ports i p))
  unfolding disables_one
  disables_next [] ports i a b = absurd (omega arith)
  disables_next (x ∷ os) [] i a b = absurd (omega arith)
  disables_next (x ∷ os) (y ∷ ports) zero a b = grind arith
  disables_next (x ∷ os) (y ∷ ports) (suc i) a b =
      rw (disables_next os ports i (omega arith) (omega arith)) (sym (or_assoc (disables x y) _ _))

  pub disables_more : (os : List PortObservation) (ports : List PortDataSet) (i : ℕ)
      → i < length os
      → i < length ports
      → disables_one (take (i + 1) os) ports
      ≡ (disables_one (take i os) ports || disables (get_or os i o) (get_or ports i p))
  disables_more os ports i a b = rw (add-one i) (disables_next os ports i a b)

  pub disables_on : (os : List PortObservation) (ports : List PortDataSet) (i : ℕ) (before : Bool)
      → i < length os
      → i < length ports
      → before ≡ disables_one (take i os) ports
      → before ≡ false
      → disables (get_or os i o) (get_or ports i p) ≡ disables_one (take (i + 1) os) ports
  disables_on os ports i before a b here not_yet = grind (arith, disables_more)

  left_next : (os : List PortObservation) (ports : List PortDataSet) (i : ℕ)
      → i < length os
      → i < length ports
      → left_disabled (take (suc i) os) ports
      ≡ left_disabled (take i os) ports ++ is_left_disabled (get_or os i o) (get_or ports i p) ∷ []
  unfolding left_disabled
  left_next [] ports i a b = absurd (omega arith)
  left_next (x ∷ os) [] i a b = absurd (omega arith)
  left_next (x ∷ os) (y ∷ ports) zero a b = refl
  left_next (x ∷ os) (y ∷ ports) (suc i) a b =
      ap (λ (bs : List Bool). is_left_disabled x y ∷ bs) (left_next os ports i (omega arith) (omega arith))

  pub left_more : (os : List PortObservation) (ports : List PortDataSet) (i : ℕ)
      → i < length os
      → i < length ports
      → left_disabled (take (i + 1) os) ports
      ≡ left_disabled (take i os) ports ++ is_left_disabled (get_or os i o) (get_or ports i p) ∷ []
  left_more os ports i a b = rw (add-one i) (left_next os ports i a b)

  ports_next : (os : List PortObservation) (ports : List PortDataSet) (i : ℕ)
      → i < length os
      → i < length ports
      → ports_after (take (suc i) os) ports
      ≡ set (ports_after (take i os) ports) i
      (port_after (get_or os i o) (get_or (ports_after (take i os) ports) i p))
  unfolding ports_after
  ports_next [] ports i a b = absurd (omega arith)
  ports_next (x ∷ os) [] i a b = absurd (omega arith)
  ports_next (x ∷ os) (y ∷ ports) zero a b = refl
  ports_next (x ∷ os) (y ∷ ports) (suc i) a b =
      ap (λ (ps : List PortDataSet). port_after x y ∷ ps) (ports_next os ports i (omega arith) (omega arith))

  pub ports_step : (os : List PortObservation) (ports before : List PortDataSet) (i : ℕ) (moved : PortDataSet)
      → i < length os
      → i < length ports
      → before ≡ ports_after (take i os) ports
      → moved ≡ port_after (get_or os i o) (get_or before i p)
      → set before i moved ≡ ports_after (take (i + 1) os) ports
  ports_step os ports before i moved a b here is = grind (arith, add-one, ports_next)

pub disables_found : (os : List PortObservation) (ports : List PortDataSet) (i : ℕ) (before : Bool)
    → i < length os
    → i < length ports
    → before ≡ disables_one (take i os) ports
    → before ≡ true
    → before ≡ disables_one (take (i + 1) os) ports
disables_found [] ports i before a b here found = absurd (omega arith)
disables_found (o ∷ os) [] i before a b here found = absurd (omega arith)
disables_found (o ∷ os) (p ∷ ports) i before a b here found =
    let e : disables_one (take i (o ∷ os)) (p ∷ ports) ≡ true = sym here ∙ found in
    rw (disables_more o p (o ∷ os) (p ∷ ports) i a b, e) found

pub ports_after-length : (os : List PortObservation) (ports : List PortDataSet)
    → length (ports_after os ports) ≡ length ports
unfolding ports_after
ports_after-length [] ports = refl
ports_after-length (o ∷ os) [] = refl
ports_after-length (o ∷ os) (p ∷ ports) = ap (λ (n : ℕ). suc n) (ports_after-length os ports)

-- ---- what follows if an observation is accepted

module _ (o : ClockObservation) (ports : List PortObservation) (d : DataSetsValue) (accepted : observation_refusal o ports d ≡ None) where
  pub has_places : length ports ≤ length d.ports
  unfolding observation_refusal
  has_places = grind (arith, nat_lt, passes, nat_tests)

  pub enables_none : disables_one ports d.ports ≡ false
  unfolding observation_refusal
  enables_none = grind (arith, passes, nat_lt)

  own_precedence : is_grandmaster (default_after o d.default) (parent_after o d.default d.parent) ≡ true
      → (parent_after o d.default d.parent).precedence ≡ (default_after o d.default).precedence
  unfolding observation_refusal
  own_precedence own = grind (arith, precedence_sound, not-false, passes)

  in_range : is_clock_accuracy (default_after o d.default).precedence.accuracy ≡ true
  unfolding observation_refusal
  in_range = grind (arith, nat_lt, passes, not-false)

  no_leaps : ((time_after o d.time).leap61 && (time_after o d.time).leap59) ≡ false
  unfolding observation_refusal
  no_leaps = grind (arith, nat_lt, passes)

  pub consistent : IsConsistent d → IsConsistent (accepted_observation o ports d)
  consistent before = record {
    some_port = grind (arith, ports_after-length);
    few_ports = grind (arith, ports_after-length);
    identity = before.identity;
    description = before.description;
    accuracy = in_range;
    leaps = no_leaps;
    ports = ports_observed ports d.ports before.ports;
    grandmaster = own_precedence;
  }

pub ruleset observe_laws = (unless_ok, has_places, refilled, ports_after-length, consistent)

-- ---- what is written over the data sets of ports is as long as they are

pub ruleset list_laws = (refilled, length-named_changed, ports_after-length)

-- ---- what an observation moves and keeps, member by member

-- ---- a member that is observed or stays

natural_told : (x : Option ℕ) (n : ℕ)
    → natural (unwrap_or x n) ≡ option_or (option_and_then natural x) (natural n)
natural_told None n = refl
natural_told (Some m) n = refl

integer_told : (x : Option ℤ) (n : ℤ)
    → integer (unwrap_or x n) ≡ option_or (option_and_then integer x) (integer n)
integer_told None n = refl
integer_told (Some m) n = refl

flag_told : (x : Option Bool) (b : Bool)
    → flag (unwrap_or x b) ≡ option_or (option_and_then flag x) (flag b)
flag_told None b = refl
flag_told (Some c) b = refl

-- ---- the grandmaster

module _ (o : ClockObservation) (p : ParentDataSet) where
  follows_parent : (b : Bool) → (grandmaster_follows b o p).parent_port ≡ p.parent_port
  follows_parent true = refl
  follows_parent false = refl

  follows_identity : (b : Bool) → (grandmaster_follows b o p).grandmaster ≡ p.grandmaster
  follows_identity true = refl
  follows_identity false = refl

module _ (o : ClockObservation) (d : DataSetsValue) where
  abbrev after : Option ObservedGrandmaster → ParentDataSet
  after g = grandmaster_after g o d.default d.parent

  stats_kept : (g : Option ObservedGrandmaster) → (after g).parent_stats ≡ d.parent.parent_stats
  stats_kept None = grind arith
  stats_kept (Some g) = refl

  variance_kept : (g : Option ObservedGrandmaster) → (after g).observed_variance ≡ d.parent.observed_variance
  variance_kept None = grind arith
  variance_kept (Some g) = refl

  rate_kept : (g : Option ObservedGrandmaster) → (after g).observed_rate ≡ d.parent.observed_rate
  rate_kept None = grind arith
  rate_kept (Some g) = refl

  priority1_told : (g : Option ObservedGrandmaster)
      → natural (after g).precedence.priority1
      ≡ option_or (of_grandmaster (λ p. p.priority1) None o d g) (natural d.parent.precedence.priority1)
  priority1_told None = grind arith
  priority1_told (Some g) = refl

  priority2_told : (g : Option ObservedGrandmaster)
      → natural (after g).precedence.priority2
      ≡ option_or (of_grandmaster (λ p. p.priority2) None o d g) (natural d.parent.precedence.priority2)
  priority2_told None = grind arith
  priority2_told (Some g) = refl

  class_told : (g : Option ObservedGrandmaster)
      → natural (after g).precedence.class
      ≡ option_or (of_grandmaster (λ p. p.class) o.clock_class o d g) (natural d.parent.precedence.class)
  class_told None = grind (arith, natural_told)
  class_told (Some g) = refl

  accuracy_told : (g : Option ObservedGrandmaster)
      → natural (after g).precedence.accuracy
      ≡ option_or (of_grandmaster (λ p. p.accuracy) o.clock_accuracy o d g) (natural d.parent.precedence.accuracy)
  accuracy_told None = grind (arith, natural_told)
  accuracy_told (Some g) = refl

  quality_told : (g : Option ObservedGrandmaster)
      → natural (after g).precedence.variance
      ≡ option_or (of_grandmaster (λ p. p.variance) o.variance o d g) (natural d.parent.precedence.variance)
  quality_told None = grind (arith, natural_told)
  quality_told (Some g) = refl

  clock_told : (ports : List PortObservation) (m : Member)
      → clock_member m (accepted_observation o ports d)
      ≡ option_or (observed_of_clock m o d) (clock_member m d)
  clock_told ports members.ClockClass = natural_told o.clock_class _
  clock_told ports members.ClockAccuracy = natural_told o.clock_accuracy _
  clock_told ports members.Variance = natural_told o.variance _
  clock_told ports members.StepsRemoved = natural_told o.steps_removed _
  clock_told ports members.OffsetFromMaster = integer_told o.offset_from_master _
  clock_told ports members.MeanPathDelay = integer_told o.mean_path_delay _
  clock_told ports members.ParentPort = grind (arith, follows_parent)
  clock_told ports members.ParentStats = ap (λ b. flag (unwrap_or o.parent_stats b)) (stats_kept o.grandmaster) ∙ flag_told o.parent_stats _
  clock_told ports members.ObservedVariance = ap (λ n. natural (unwrap_or o.observed_variance n)) (variance_kept o.grandmaster) ∙ natural_told o.observed_variance _
  clock_told ports members.ObservedRate = ap (λ n. integer (unwrap_or o.observed_rate n)) (rate_kept o.grandmaster) ∙ integer_told o.observed_rate _
  clock_told ports members.GrandmasterPriority1 = priority1_told o.grandmaster
  clock_told ports members.GrandmasterClass = class_told o.grandmaster
  clock_told ports members.GrandmasterAccuracy = accuracy_told o.grandmaster
  clock_told ports members.GrandmasterVariance = quality_told o.grandmaster
  clock_told ports members.GrandmasterPriority2 = priority2_told o.grandmaster
  clock_told ports members.Grandmaster = grind (arith, follows_identity)
  clock_told ports members.UtcOffset = integer_told o.utc_offset _
  clock_told ports members.Leap61 = flag_told o.leap61 _
  clock_told ports members.Leap59 = flag_told o.leap59 _
  clock_told ports members.UtcValid = flag_told o.utc_valid _
  clock_told ports members.PtpTimescale = flag_told o.ptp_timescale _
  clock_told ports members.TimeTraceable = flag_told o.time_traceable _
  clock_told ports members.FrequencyTraceable = flag_told o.frequency_traceable _
  clock_told ports members.TimeSource = natural_told o.time_source _
  clock_told ports _ = refl

-- ---- ports

port_told : (m : Member) (o : PortObservation) (p : PortDataSet)
    → port_member m (port_after o p) ≡ option_or (observed_of_port m o p) (port_member m p)
port_told members.State o p = grind arith
port_told members.PeerDelay o p = integer_told o.peer_delay p.peer_delay
port_told _ o p = refl

place_told : (m : Member) (os : List PortObservation) (ports : List PortDataSet) (i : ℕ)
    → option_and_then (port_member m) (slice_get (ports_after os ports) i)
    ≡ option_or (observed_there m (slice_get os i) (slice_get ports i)) (option_and_then (port_member m) (slice_get ports i))
unfolding ports_after
place_told m [] ports i = refl
place_told m (o ∷ os) [] i = grind arith
place_told m (o ∷ os) (p ∷ ports) zero = port_told m o p
place_told m (o ∷ os) (p ∷ ports) (suc i) = place_told m os ports i

-- ---- which ports are disabled

pub state_stays : (b : Bool) (x : Option PortState) (s : PortState)
    → is_disabled s ≡ b
    → (is_disabled_state x && not b) ≡ false
    → is_disabled (state_after b x s) ≡ is_disabled s
state_stays true x s is free = refl
state_stays false None s is free = refl
state_stays false (Some t) s is free = grind arith

disabled_stay : (os : List PortObservation) (ports : List PortDataSet)
    → disables_one os ports ≡ false
    → map (λ p. is_disabled p.state) (ports_after os ports) ≡ map (λ p. is_disabled p.state) ports
unfolding ports_after disables_one
disabled_stay [] ports free = refl
disabled_stay (o ∷ os) [] free = refl
disabled_stay (o ∷ os) (p ∷ ports) free =
    let both = or_parts (disables o p) _ free in
    let here = state_stays (is_disabled p.state) o.state p.state refl both.0 in
    let rest = disabled_stay os ports both.1 in
    λ i. here i ∷ rest i

-- ---- the data sets after an observation

module _ (P : DataSetsValue → Type 0) (o : ClockObservation) (ports : List PortObservation) (d : DataSetsValue) where
  either : (r : Option ObservationError)
      → observation_refusal o ports d ≡ r
      → P d
      → (observation_refusal o ports d ≡ None → P (accepted_observation o ports d))
      → P (unless_not_observed r (accepted_observation o ports d) d)
  either None is before moved = moved is
  either (Some e) is before moved = before

  pub observed-all : P d
      → (observation_refusal o ports d ≡ None → P (accepted_observation o ports d))
      → P (observed o ports d)
  unfolding observed
  observed-all before moved = either (observation_refusal o ports d) refl before moved

module _ (o : ClockObservation) (ports : List PortObservation) (d : DataSetsValue) where
  pub observed-accepted : observation_refusal o ports d ≡ None → observed o ports d ≡ accepted_observation o ports d
  unfolding observed
  observed-accepted is = rw is refl

  pub observed-refused : (e : ObservationError) → observation_refusal o ports d ≡ Some e → observed o ports d ≡ d
  unfolding observed
  observed-refused e is = rw is refl

  pub observed-identity : (observed o ports d).default.identity ≡ d.default.identity
  observed-identity = observed-all (λ e. e.default.identity ≡ d.default.identity) o ports d refl (λ accepted. refl)

  pub observed-ports : length (observed o ports d).ports ≡ length d.ports
  observed-ports = observed-all (λ e. length e.ports ≡ length d.ports) o ports d refl (λ accepted. ports_after-length ports d.ports)

  pub observed-disabled : map (λ p. is_disabled p.state) (observed o ports d).ports ≡ map (λ p. is_disabled p.state) d.ports
  observed-disabled =
      observed-all (λ e. map (λ p. is_disabled p.state) e.ports ≡ map (λ p. is_disabled p.state) d.ports) o ports d refl
      (λ accepted. grind (arith, disabled_stay, enables_none))

  pub observed-exact : (place : Place)
      → observation_refusal o ports d ≡ None
      → value_of place (observed o ports d) ≡ option_or (observed_value place o ports d) (value_of place d)
  observed-exact (OfClock m) accepted = rw (observed-accepted accepted) (clock_told o d ports m)
  observed-exact (OfPort n m) accepted = grind (arith, observed-accepted, place_told)

  pub observed-stays : (place : Place)
      → observed_value place o ports d ≡ None
      → value_of place (observed o ports d) ≡ value_of place d
  observed-stays place none =
      observed-all (λ e. value_of place e ≡ value_of place d) o ports d refl
      (λ accepted. grind (arith, observed-accepted, observed-exact))

  sized_identity : (g : Option ObservedGrandmaster)
      → IsSizedGrandmaster g
      → IsSized d
      → length (grandmaster_after g o d.default d.parent).grandmaster.0 ≡ 8
  sized_identity None h s = rw (follows_identity o d.parent (is_own_grandmaster d)) s.grandmaster
  sized_identity (Some Itself) h s = s.identity
  sized_identity (Some (Announced a)) h s = h.0

  sized_parent : (g : Option ObservedGrandmaster)
      → IsSizedGrandmaster g
      → IsSized d
      → length (grandmaster_after g o d.default d.parent).parent_port.clock.0 ≡ 8
  sized_parent None h s = rw (follows_parent o d.parent (is_own_grandmaster d)) s.parent
  sized_parent (Some Itself) h s = s.identity
  sized_parent (Some (Announced a)) h s = h.1

  pub observed-sized : IsSizedObservation o → IsSized d → IsSized (observed o ports d)
  observed-sized h s =
      observed-all IsSized o ports d s
      (λ accepted. grind (arith, ports_after-length, sized_parent, sized_identity))
