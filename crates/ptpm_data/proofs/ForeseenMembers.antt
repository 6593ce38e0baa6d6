-- Which members differ after a request, by the few that its id names.
use Rattle.std.proofs.Common.{arith, ◌≡◌, ◌∙◌, ap, refl, sym, ℕ, zero, suc, ◌+◌, ◌*◌, ◌-◌, ◌<◌, ◌≤◌, Bool, true, false, ◌&&◌, if◌then◌else◌, List, [], ◌∷◌, ◌++◌, map, length, Option, Some, None, option_map, replicate, slice_get, ⊎_elim}
use Rattle.std.proofs.lemmas.Bool.{cases_lt}
use Rattle.std.proofs.lemmas.List.{replicate-append-replicate}
use Rattle.std.proofs.lemmas.Option.{slice_get_past}
use Rattle.std.specs.List.{enumerate_from, range_with_len}
use Rattle.ptpm_data.specs.declared.changed.ClockMembers.{ClockMembers}
use Rattle.ptpm_data.specs.declared.changed.PortMembers.{PortMembers}
use Rattle.ptpm_data.specs.declared.data_sets.ClockPrecedence.{ClockPrecedence}
use Rattle.ptpm_data.specs.declared.data_sets.PortDataSet.{PortDataSet}
use Rattle.ptpm_data.specs.declared.data_sets.TimePropertiesDataSet.{TimePropertiesDataSet}
use Rattle.ptpm_data.specs.declared.members.Member.{Member}
use Rattle.ptpm_data.specs.declared.members.Member.TheVariants as members
use Rattle.ptpm_data.specs.declared.port_change.PortChange.{PortChange}
use Rattle.ptpm_data.specs.declared.ports.TheConstants.{PORTS}
use Rattle.ptpm_data.specs.declared.precedence_change.PrecedenceChange.{PrecedenceChange}
use Rattle.ptpm_data.specs.declared.precedence_change.PrecedenceChange.TheVariants.{Priority1, Priority2, ClockAccuracy}
use Rattle.ptpm_data.specs.Changed.{changed, clock_changed, clock_members, differ, members_changed, number_of, port_changed}
use Rattle.ptpm_data.specs.Changes.{changed_if, grandmaster_changed, is_named, named_changed, with_ports, with_precedence, with_utc_properties}
use Rattle.ptpm_data.specs.MemberMap.{Octets, clock_member, flag, integer, natural}
use Rattle.ptpm_data.specs.Members.{DataSetsValue, IsConsistent, is_own_grandmaster, port_among, port_of}
use Rattle.ptpm_data.specs.PortChange.{port_after}
use Rattle.ptpm_data.specs.PrecedenceChange.{precedence_after}
use Rattle.ptpm_data.proofs.Differing.{differ_itself, no_clock_member, no_port_member, no_ports, others_told, rest_told, untold}

-- ---- the clock's members alone

pub of_clock_told : (d e : DataSetsValue) (c : ClockMembers) → e.ports ≡ d.ports → c ≡ clock_changed d e
    → record { clock = c; ports = replicate PORTS untold } ≡ changed d e
of_clock_told d e c same is =
    let none : replicate PORTS untold ≡ map (port_changed d e) (range_with_len 1 PORTS) =
    no_ports d 1 PORTS ∙ ap (λ (ps : List PortDataSet). map (λ n. members_changed (port_of n d) (port_among n ps)) (range_with_len 1 PORTS)) (sym same) in
    λ i. record { clock = is i; ports = none i }

-- by what is said of each
by_digits : (d e : DataSetsValue) (digit : Member → Bool)
    → ((m : Member) → differ (clock_member m d) (clock_member m e) ≡ digit m)
    → (c : ClockMembers) → c.0 ≡ number_of (map digit clock_members)
    → c ≡ clock_changed d e
by_digits d e digit each c is =
    ap (λ n. let m : ClockMembers = record { 0 = n } in m)
    (is ∙ ap (λ (f : Member → Bool). number_of (map f clock_members)) (λ i m. sym (each m) i))

-- ---- the description

abbrev description_digit : Bool → Member → Bool
description_digit t members.UserDescription = t
description_digit t _ = false

description_each : (d : DataSetsValue) (text : List ℕ) (m : Member)
    → differ (clock_member m d) (clock_member m (record d { description = text }))
    ≡ description_digit (differ (Some (Octets d.description)) (Some (Octets text))) m
description_each d text members.UserDescription = refl
description_each d text m = differ_itself (clock_member m d)

description_number : (t : Bool) → (if t then 4 else 0) ≡ number_of (map (description_digit t) clock_members)
unfolding number_of
description_number true = refl
description_number false = refl

pub description_told : (d : DataSetsValue) (text : List ℕ) (t : Bool) (c : ClockMembers)
    → t ≡ differ (Some (Octets d.description)) (Some (Octets text))
    → c.0 ≡ (if t then 4 else 0)
    → c ≡ clock_changed d (record d { description = text })
description_told d text t c is told =
    by_digits d (record d { description = text }) (description_digit (differ (Some (Octets d.description)) (Some (Octets text)))) (description_each d text) c
    (told ∙ description_number t ∙ ap (λ (b : Bool). number_of (map (description_digit b) clock_members)) is)

-- ---- the domain

abbrev domain_digit : Bool → Member → Bool
domain_digit t members.Domain = t
domain_digit t _ = false

domain_each : (d : DataSetsValue) (n : ℕ) (m : Member)
    → differ (clock_member m d) (clock_member m (record d { default = record d.default { domain = n } }))
    ≡ domain_digit (differ (natural d.default.domain) (natural n)) m
domain_each d n members.Domain = refl
domain_each d n m = differ_itself (clock_member m d)

domain_number : (t : Bool) → (if t then 2 else 0) ≡ number_of (map (domain_digit t) clock_members)
unfolding number_of
domain_number true = refl
domain_number false = refl

pub domain_told : (d : DataSetsValue) (n : ℕ) (t : Bool) (c : ClockMembers)
    → t ≡ differ (natural d.default.domain) (natural n)
    → c.0 ≡ (if t then 2 else 0)
    → c ≡ clock_changed d (record d { default = record d.default { domain = n } })
domain_told d n t c is told =
    by_digits d (record d { default = record d.default { domain = n } }) (domain_digit (differ (natural d.default.domain) (natural n))) (domain_each d n) c
    (told ∙ domain_number t ∙ ap (λ (b : Bool). number_of (map (domain_digit b) clock_members)) is)

-- ---- the precedence; the grandmaster's member has the same value if the clock is its own grandmaster

abbrev alters : PrecedenceChange → ClockPrecedence → Bool
alters (Priority1 n) p = differ (natural p.priority1) (natural n)
alters (Priority2 n) p = differ (natural p.priority2) (natural n)
alters (ClockAccuracy n) p = differ (natural p.accuracy) (natural n)

abbrev own_bit : PrecedenceChange → ℕ
own_bit (Priority1 n) = 16
own_bit (Priority2 n) = 256
own_bit (ClockAccuracy n) = 64

abbrev bits : Bool → Bool → ℕ → ℕ
bits b t own = if t then (if b then own + 4096 * own else own) else 0

abbrev precedence_digit : Bool → Bool → PrecedenceChange → Member → Bool
precedence_digit b t (Priority1 n) members.Priority1 = t
precedence_digit b t (Priority1 n) members.GrandmasterPriority1 = b && t
precedence_digit b t (Priority2 n) members.Priority2 = t
precedence_digit b t (Priority2 n) members.GrandmasterPriority2 = b && t
precedence_digit b t (ClockAccuracy n) members.ClockAccuracy = t
precedence_digit b t (ClockAccuracy n) members.GrandmasterAccuracy = b && t
precedence_digit b t _ _ = false

abbrev after : Bool → PrecedenceChange → DataSetsValue → DataSetsValue
after b change d = record d {
  default = record d.default { precedence = precedence_after change d.default.precedence };
  parent = grandmaster_changed b change d.parent;
}

precedence_each : (b : Bool) (change : PrecedenceChange) (d : DataSetsValue)
    → (b ≡ true → d.parent.precedence ≡ d.default.precedence)
    → (m : Member)
    → differ (clock_member m d) (clock_member m (after b change d))
    ≡ precedence_digit b (alters change d.default.precedence) change m
precedence_each true (Priority1 n) d same members.Priority1 = refl
precedence_each false (Priority1 n) d same members.Priority1 = refl
precedence_each true (Priority1 n) d same members.GrandmasterPriority1 = ap (alters (Priority1 n)) (same refl)
precedence_each true (Priority2 n) d same members.Priority2 = refl
precedence_each false (Priority2 n) d same members.Priority2 = refl
precedence_each true (Priority2 n) d same members.GrandmasterPriority2 = ap (alters (Priority2 n)) (same refl)
precedence_each true (ClockAccuracy n) d same members.ClockAccuracy = refl
precedence_each false (ClockAccuracy n) d same members.ClockAccuracy = refl
precedence_each true (ClockAccuracy n) d same members.GrandmasterAccuracy = ap (alters (ClockAccuracy n)) (same refl)
precedence_each b change d same m = differ_itself (clock_member m d)

precedence_number : (b t : Bool) (change : PrecedenceChange)
    → bits b t (own_bit change) ≡ number_of (map (precedence_digit b t change) clock_members)
unfolding number_of
precedence_number true true (Priority1 n) = refl
precedence_number true false (Priority1 n) = refl
precedence_number false true (Priority1 n) = refl
precedence_number false false (Priority1 n) = refl
precedence_number b t change = refl

told_at : (b : Bool) (change : PrecedenceChange) (d : DataSetsValue)
    → (b ≡ true → d.parent.precedence ≡ d.default.precedence)
    → (t : Bool) (c : ClockMembers)
    → t ≡ alters change d.default.precedence
    → c.0 ≡ bits b t (own_bit change)
    → c ≡ clock_changed d (after b change d)
told_at b change d same t c is told =
    by_digits d (after b change d) (precedence_digit b (alters change d.default.precedence) change) (precedence_each b change d same) c
    (told ∙ precedence_number b t change ∙ ap (λ (s : Bool). number_of (map (precedence_digit b s change) clock_members)) is)

pub precedence_told : (change x : PrecedenceChange) (v d : DataSetsValue) (t b : Bool) (c : ClockMembers)
    → change ≡ x
    → d ≡ v
    → IsConsistent d
    → b ≡ is_own_grandmaster d
    → t ≡ alters x d.default.precedence
    → c.0 ≡ bits b t (own_bit x)
    → c ≡ clock_changed v (with_precedence v change)
precedence_told change x v d t b c same view consistent shown is told =
    told_at (is_own_grandmaster d) x d consistent.grandmaster t c is (told ∙ ap (λ (s : Bool). bits s t (own_bit x)) shown)
    ∙ (λ i. clock_changed (view i) (with_precedence (view i) (sym same i)))

-- ---- the UTC properties

abbrev utc_digit : Bool → Bool → Bool → Bool → Member → Bool
utc_digit a b c e members.UtcOffset = a
utc_digit a b c e members.Leap61 = b
utc_digit a b c e members.Leap59 = c
utc_digit a b c e members.UtcValid = e
utc_digit a b c e _ = false

abbrev with_time : DataSetsValue → List ℕ → DataSetsValue
with_time d octets = record d { time = with_utc_properties d.time octets }

abbrev utc_digit_of : TimePropertiesDataSet → TimePropertiesDataSet → Member → Bool
utc_digit_of s t = utc_digit (differ (integer s.utc_offset) (integer t.utc_offset)) (differ (flag s.leap61) (flag t.leap61))
    (differ (flag s.leap59) (flag t.leap59)) (differ (flag s.utc_valid) (flag t.utc_valid))

utc_each : (d : DataSetsValue) (octets : List ℕ) (m : Member)
    → differ (clock_member m d) (clock_member m (with_time d octets)) ≡ utc_digit_of d.time (with_utc_properties d.time octets) m
utc_each d octets members.UtcOffset = refl
utc_each d octets members.Leap61 = refl
utc_each d octets members.Leap59 = refl
utc_each d octets members.UtcValid = refl
utc_each d octets m = differ_itself (clock_member m d)

utc_number : (a b c e : Bool)
    → number_of (a ∷ b ∷ c ∷ e ∷ []) * 4194304 ≡ number_of (map (utc_digit a b c e) clock_members)
unfolding number_of
utc_number true true true true = refl
utc_number true true false true = refl
utc_number true false true true = refl
utc_number true false false true = refl
utc_number false true true true = refl
utc_number false true false true = refl
utc_number false false true true = refl
utc_number false false false true = refl
utc_number a b c e = refl

pub utc_told : (d : DataSetsValue) (octets : List ℕ) (t : TimePropertiesDataSet) (c : ClockMembers)
    → t ≡ with_utc_properties d.time octets
    → c.0 ≡ number_of (differ (integer d.time.utc_offset) (integer t.utc_offset) ∷ differ (flag d.time.leap61) (flag t.leap61)
    ∷ differ (flag d.time.leap59) (flag t.leap59) ∷ differ (flag d.time.utc_valid) (flag t.utc_valid) ∷ []) * 4194304
    → c ≡ clock_changed d (with_time d octets)
utc_told d octets t c is told =
    by_digits d (with_time d octets) (utc_digit_of d.time (with_utc_properties d.time octets)) (utc_each d octets) c
    (told ∙ utc_number _ _ _ _ ∙ ap (λ (s : TimePropertiesDataSet). number_of (map (utc_digit_of d.time s) clock_members)) is)

-- ---- ports

at_place : (port a : ℕ) (change : PortDataSet → PortDataSet) (ports : List PortDataSet) (i n : ℕ)
    → n ≡ a + i
    → slice_get (map (λ e. changed_if (is_named port e.0) change e.1) (enumerate_from a ports)) i
    ≡ option_map (changed_if (is_named port n) change) (slice_get ports i)
at_place port a change [] i n is = refl
at_place port a change (p ∷ ports) zero n is =
    let here : a ≡ n = omega arith in ap (λ (k : ℕ). Some (changed_if (is_named port k) change p)) here
at_place port a change (p ∷ ports) (suc i) n is = at_place port (a + 1) change ports i n (omega arith)

among : (ports : List PortDataSet) (n i : ℕ) → n ≡ i + 1 → port_among n ports ≡ slice_get ports i
among ports n i is = grind arith

told_by : (port n i : ℕ) (change : PortChange) (d : DataSetsValue) → n ≡ i + 1
    → port_changed d (with_ports port d change) n
    ≡ members_changed (slice_get d.ports i) (option_map (changed_if (is_named port n) (port_after change)) (slice_get d.ports i))
unfolding named_changed
told_by port n i change d is =
    let before = among d.ports n i is in
    let later = among (named_changed port (port_after change) d.ports) n i is in
    let at = at_place port 1 (port_after change) d.ports i n (omega arith) in
    λ j. members_changed (before j) ((later ∙ at) j)

pub named_told : (port n i : ℕ) (change : PortChange) (d : DataSetsValue) (p : PortDataSet) (x : PortMembers)
    → n ≡ i + 1
    → is_named port n ≡ true
    → slice_get d.ports i ≡ Some p
    → x ≡ members_changed (Some p) (Some (port_after change p))
    → x ≡ port_changed d (with_ports port d change) n
named_told port n i change d p x at named here is =
    is ∙ sym (told_by port n i change d at
    ∙ (λ j. members_changed (here j) (option_map (changed_if (named j) (port_after change)) (here j))))

stays : (change : PortDataSet → PortDataSet) (o : Option PortDataSet) → untold ≡ members_changed o (option_map (changed_if false change) o)
stays change None = sym (no_port_member None)
stays change (Some p) = sym (no_port_member (Some p))

pub unnamed_told : (port n i : ℕ) (change : PortChange) (d : DataSetsValue)
    → n ≡ i + 1
    → is_named port n ≡ false
    → untold ≡ port_changed d (with_ports port d change) n
unnamed_told port n i change d at named =
    stays (port_after change) (slice_get d.ports i)
    ∙ sym (told_by port n i change d at
    ∙ ap (λ (b : Bool). members_changed (slice_get d.ports i) (option_map (changed_if b (port_after change)) (slice_get d.ports i))) named)

pub past_told : (port n i : ℕ) (change : PortChange) (d : DataSetsValue)
    → n ≡ i + 1
    → length d.ports ≤ i
    → untold ≡ port_changed d (with_ports port d change) n
past_told port n i change d at past =
    sym (told_by port n i change d at
    ∙ ap (λ (o : Option PortDataSet). members_changed o (option_map (changed_if (is_named port n) (port_after change)) o)) (slice_get_past d.ports i past)
    ∙ no_port_member None)

-- no port before the first that is named
pub none_before : (f : ℕ → PortMembers) (first most : ℕ)
    → first ≤ most
    → ((n : ℕ) → 1 ≤ n → n < 1 + first → untold ≡ f n)
    → replicate most untold ≡ map f (range_with_len 1 first) ++ replicate (most - first) untold
none_before f first most within none =
    let all : most ≡ first + (most - first) = omega arith in
    ap (λ (n : ℕ). replicate n untold) all ∙ sym (replicate-append-replicate first (most - first) untold)
    ∙ ap (λ (ms : List PortMembers). ms ++ replicate (most - first) untold) (others_told f 1 first none)

pub of_ports_told : (port : ℕ) (change : PortChange) (d : DataSetsValue) (ports : List PortMembers)
    → ports ≡ map (port_changed d (with_ports port d change)) (range_with_len 1 PORTS)
    → record { clock = record { 0 = 0 }; ports = ports } ≡ changed d (with_ports port d change)
of_ports_told port change d ports told = λ i. record { clock = sym (no_clock_member d) i; ports = told i }

pub none_named_before : (port first most : ℕ) (change : PortChange) (d : DataSetsValue)
    → first ≤ most
    → ((n : ℕ) → n < first → is_named port (n + 1) ≡ false)
    → replicate most untold ≡ map (port_changed d (with_ports port d change)) (range_with_len 1 first) ++ replicate (most - first) untold
none_named_before port first most change d within none =
    none_before (port_changed d (with_ports port d change)) first most within
    (λ n least below. let at : n ≡ n - 1 + 1 = omega (arith, least) in
    unnamed_told port n (n - 1) change d at (ap (is_named port) at ∙ none (n - 1) (omega (arith, least, below))))

pub none_named_after : (port end most : ℕ) (change : PortChange) (d : DataSetsValue) (ports : List PortMembers)
    → ports ≡ map (port_changed d (with_ports port d change)) (range_with_len 1 end) ++ replicate (most - end) untold
    → end ≤ most
    → ((n : ℕ) → end ≤ n → n < length d.ports → is_named port (n + 1) ≡ false)
    → ports ≡ map (port_changed d (with_ports port d change)) (range_with_len 1 most)
none_named_after port end most change d ports told within none =
    rest_told (port_changed d (with_ports port d change)) end most ports told within
    (λ n past. let at : n ≡ n - 1 + 1 = omega (arith, past) in
    ⊎_elim (λ (has : n - 1 < length d.ports). unnamed_told port n (n - 1) change d at (ap (is_named port) at ∙ none (n - 1) (omega (arith, past)) has))
    (λ (lacks : length d.ports ≤ n - 1). past_told port n (n - 1) change d at lacks) (cases_lt (n - 1) (length d.ports)))
