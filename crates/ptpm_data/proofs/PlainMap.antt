-- Data sets are no more than a map to whole numbers and lists of octets.
use Rattle.std.proofs.Common.{arith, ◌≡◌, ℕ, suc, ◌+◌, ℤ, Bool, true, false, List, [], ◌∷◌, Option, Some, None, option_and_then, slice_get, refl, ap, sym, ◌∙◌, ◌^◌, ◌<◌, ◌++◌, length, take, drop}
use Rattle.std.proofs.lemmas.Bool.Decides.{nat_tests}
use Rattle.std.proofs.lemmas.Option.{same_Some}
use Rattle.ptpm_codec.specs.declared.identity.ClockIdentity.{ClockIdentity}
use Rattle.ptpm_codec.specs.declared.identity.PortIdentity.{PortIdentity}
use Rattle.ptpm_data.specs.declared.members.Member.{Member}
use Rattle.ptpm_data.specs.declared.port_state.PortState.{PortState}
use Rattle.ptpm_data.specs.declared.data_sets.PortDataSet.{PortDataSet}
use Rattle.ptpm_data.specs.PortState.{state_number}
use Rattle.ptpm_data.specs.Members.{DataSetsValue, port_of}
use Rattle.ptpm_data.specs.MemberMap.{MemberValue, Octets, Place, OfClock, OfPort, natural, integer, flag, identity, port_identity, port_member, value_of, Number, PortOf, clock_member, plain}
use Rattle.std.specs.Option.{option_map}
use Rattle.std.proofs.Math.Seq.{drop-append_seam, take-append_seam}
use Rattle.ptpm_data.specs.declared.members.Member.TheVariants as members

-- ---- data sets are no more than their map of members

-- ---- a value determines what it is the value of

natural_same : (m n : ℕ) → natural m ≡ natural n → m ≡ n
natural_same m n h = cc

integer_same : (m n : ℤ) → integer m ≡ integer n → m ≡ n
integer_same m n h = cc

octets_same : (xs ys : List ℕ) → let a : Option MemberValue = Some (Octets xs) in a ≡ Some (Octets ys) → xs ≡ ys
octets_same xs ys h = cc

flag_same : (b c : Bool) → flag b ≡ flag c → b ≡ c
flag_same true true h = refl
flag_same true false h = absurd (let e : 1 ≡ 0 = natural_same 1 0 h in omega arith)
flag_same false true h = absurd (let e : 0 ≡ 1 = natural_same 0 1 h in omega arith)
flag_same false false h = refl

identity_same : (c d : ClockIdentity) → identity c ≡ identity d → c ≡ d
identity_same c d h = let octets = octets_same c.0 d.0 h in λ i. record { 0 = octets i }

port_identity_same : (p q : PortIdentity) → port_identity p ≡ port_identity q → p ≡ q
port_identity_same p q h =
    let clock : p.clock.0 ≡ q.clock.0 = cc in
    let port : p.port ≡ q.port = cc in grind arith

state_same : (s t : PortState) → natural (state_number s) ≡ natural (state_number t) → s ≡ t
state_same s t h = grind (arith, natural_same)

-- ---- ports

port_same : (p q : PortDataSet) → ((m : Member) → port_member m p ≡ port_member m q) → p ≡ q
port_same p q h =
    let state = state_same _ _ (h members.State) in
    let min_delay = integer_same _ _ (h members.LogMinDelayReq) in
    let peer_delay = integer_same _ _ (h members.PeerDelay) in
    let settings : p.settings ≡ q.settings = λ i s. integer_same _ _ (h (members.Setting s)) i in
    λ i. record { state = state i; log_min_delay_req = min_delay i; peer_delay = peer_delay i; settings = settings i }

option_same : (o p : Option PortDataSet)
    → ((m : Member) → option_and_then (port_member m) o ≡ option_and_then (port_member m) p)
    → o ≡ p
option_same None None h = refl
option_same None (Some q) h = let e = h members.State in cc
option_same (Some p) None h = let e = h members.State in cc
option_same (Some p) (Some q) h = ap Some (port_same p q h)

ports_same : (ps qs : List PortDataSet) → ((i : ℕ) → slice_get ps i ≡ slice_get qs i) → ps ≡ qs
ports_same [] [] h = refl
ports_same [] (q ∷ qs) h = let e = h 0 in cc
ports_same (p ∷ ps) [] h = let e = h 0 in cc
ports_same (p ∷ ps) (q ∷ qs) h =
    let first = same_Some p q (h 0) in
    let rest = ports_same ps qs (λ i. h (suc i)) in
    λ i. first i ∷ rest i

port_at : (d : DataSetsValue) (i : ℕ) → port_of (i + 1) d ≡ slice_get d.ports i
port_at d i = grind (arith, nat_tests)

-- ---- the data sets

pub map_decides : (a b : DataSetsValue)
    → ((place : Place) → value_of place a ≡ value_of place b)
    → a ≡ b
map_decides a b h =
    let identity = identity_same _ _ (h (OfClock members.Identity)) in
    let domain = natural_same _ _ (h (OfClock members.Domain)) in
    let text = octets_same _ _ (h (OfClock members.UserDescription)) in
    let two_step = flag_same _ _ (h (OfClock members.TwoStep)) in
    let priority1 = natural_same _ _ (h (OfClock members.Priority1)) in
    let class = natural_same _ _ (h (OfClock members.ClockClass)) in
    let accuracy = natural_same _ _ (h (OfClock members.ClockAccuracy)) in
    let variance = natural_same _ _ (h (OfClock members.Variance)) in
    let priority2 = natural_same _ _ (h (OfClock members.Priority2)) in
    let steps = natural_same _ _ (h (OfClock members.StepsRemoved)) in
    let offset = integer_same _ _ (h (OfClock members.OffsetFromMaster)) in
    let delay = integer_same _ _ (h (OfClock members.MeanPathDelay)) in
    let parent_port = port_identity_same _ _ (h (OfClock members.ParentPort)) in
    let stats = flag_same _ _ (h (OfClock members.ParentStats)) in
    let observed_variance = natural_same _ _ (h (OfClock members.ObservedVariance)) in
    let observed_rate = integer_same _ _ (h (OfClock members.ObservedRate)) in
    let grandmaster_priority1 = natural_same _ _ (h (OfClock members.GrandmasterPriority1)) in
    let grandmaster_class = natural_same _ _ (h (OfClock members.GrandmasterClass)) in
    let grandmaster_accuracy = natural_same _ _ (h (OfClock members.GrandmasterAccuracy)) in
    let grandmaster_variance = natural_same _ _ (h (OfClock members.GrandmasterVariance)) in
    let grandmaster_priority2 = natural_same _ _ (h (OfClock members.GrandmasterPriority2)) in
    let grandmaster = identity_same _ _ (h (OfClock members.Grandmaster)) in
    let utc_offset = integer_same _ _ (h (OfClock members.UtcOffset)) in
    let leap61 = flag_same _ _ (h (OfClock members.Leap61)) in
    let leap59 = flag_same _ _ (h (OfClock members.Leap59)) in
    let utc_valid = flag_same _ _ (h (OfClock members.UtcValid)) in
    let timescale = flag_same _ _ (h (OfClock members.PtpTimescale)) in
    let time_traceable = flag_same _ _ (h (OfClock members.TimeTraceable)) in
    let frequency_traceable = flag_same _ _ (h (OfClock members.FrequencyTraceable)) in
    let time_source = natural_same _ _ (h (OfClock members.TimeSource)) in
    let port : (i : ℕ) → slice_get a.ports i ≡ slice_get b.ports i =
    λ i. sym (port_at a i) ∙ option_same _ _ (λ m. h (OfPort (i + 1) m)) ∙ port_at b i in
    let ports = ports_same a.ports b.ports port in grind arith

-- ---- two lists of the same size in front

pub same_front : (xs ys us vs : List ℕ)
    → length xs ≡ length ys
    → xs ++ us ≡ ys ++ vs
    → (xs ≡ ys) × (us ≡ vs)
same_front xs ys us vs size e = (
  sym (take-append_seam xs us) ∙ (λ i. take (size i) (e i)) ∙ take-append_seam ys vs,
  sym (drop-append_seam xs us) ∙ (λ i. drop (size i) (e i)) ∙ drop-append_seam ys vs,
)

-- ---- values that are no portIdentity

abbrev is_plain : Option MemberValue → Bool
is_plain None = true
is_plain (Some (Number n)) = true
is_plain (Some (Octets octets)) = true
is_plain (Some (PortOf clock port)) = false

plain_same : (o p : Option MemberValue)
    → is_plain o ≡ true
    → is_plain p ≡ true
    → option_map plain o ≡ option_map plain p
    → o ≡ p
plain_same None None a b e = refl
plain_same None (Some (Number n)) a b e = cc
plain_same None (Some (Octets ys)) a b e = cc
plain_same o (Some (PortOf clock port)) a b e = cc
plain_same (Some (PortOf clock port)) p a b e = cc
plain_same (Some (Number m)) None a b e = cc
plain_same (Some (Number m)) (Some (Number n)) a b e = cc
plain_same (Some (Number m)) (Some (Octets ys)) a b e = cc
plain_same (Some (Octets xs)) None a b e = cc
plain_same (Some (Octets xs)) (Some (Number n)) a b e = cc
plain_same (Some (Octets xs)) (Some (Octets ys)) a b e = cc

at_port : (m : Member) (o : Option PortDataSet)
    → is_plain (option_and_then (port_member m) o) ≡ true
at_port m None = refl
at_port members.State (Some p) = refl
at_port members.LogMinDelayReq (Some p) = refl
at_port members.PeerDelay (Some p) = refl
at_port (members.Setting s) (Some p) = refl
at_port _ (Some p) = refl

-- ---- the data sets of a clock

pub record IsReadable (d : DataSetsValue) : Type 0 where
  pub clock : length d.parent.parent_port.clock.0 ≡ 8
  pub port : d.parent.parent_port.port < 2 ^ 16

module _ (a b : DataSetsValue) (left : IsReadable a) (right : IsReadable b) where
  at_clock : (m : Member)
      → option_map plain (clock_member m a) ≡ option_map plain (clock_member m b)
      → clock_member m a ≡ clock_member m b
  at_clock members.ParentPort e = grind (arith, same_front)
  at_clock m e = plain_same (clock_member m a) (clock_member m b) refl refl e

  at_place : (place : Place)
      → option_map plain (value_of place a) ≡ option_map plain (value_of place b)
      → value_of place a ≡ value_of place b
  at_place (OfClock m) e = at_clock m e
  at_place (OfPort port m) e = plain_same _ _ (at_port m (port_of port a)) (at_port m (port_of port b)) e

  pub plain_map_decides : ((place : Place)
      → option_map plain (value_of place a) ≡ option_map plain (value_of place b))
      → a ≡ b
  plain_map_decides same = map_decides a b (λ place. at_place place (same place))
