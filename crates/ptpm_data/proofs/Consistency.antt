-- A start without a fault gives consistent data sets, and a request and an observation leave them so.
use Rattle.std.proofs.Common.{arith, nat_lt, ◌≡◌, ap, refl, ℕ, ◌≤◌, List, [], ◌∷◌, length, Option, Some, None, Ok, ◌∙◌, subst, sym, Bool, true, false}
use Rattle.std.specs.Option.{option_or}
use Rattle.std.specs.Str.{is_utf8, chars}
use Rattle.std.proofs.lemmas.Bool.Decides.{nat_tests}
use Rattle.std.proofs.lemmas.List.{length-map}
use Rattle.ptpm_data.specs.declared.start.ClockStart.{ClockStart}
use Rattle.ptpm_data.specs.declared.ports.TheConstants.{INLINE_PORTS, PORTS}
use Rattle.ptpm_data.specs.declared.start.PortStart.{PortStart}
use Rattle.ptpm_data.specs.declared.start.StartError.{StartError}
use Rattle.ptpm_data.specs.ManagementId.{set_of}
use Rattle.ptpm_data.specs.Members.{IsConsistent, DataSetsValue, is_grandmaster, is_own_grandmaster}
use Rattle.ptpm_data.specs.Ranges.{is_description, is_clock_accuracy}
use Rattle.ptpm_data.specs.Start.{clock_fault, count_fault, default_clock, default_data_set, default_port, grandmaster_fault, no_identity, parent_data_set, port_fault, ports_fault, start_fault, start_of, start_within, started, unless}
use Rattle.ptpm_data.proofs.SettingLemmas.{ports_start, ports_changed, set_in_range}
use Rattle.ptpm_data.proofs.StartLemmas.{accuracy_sound, count_sound, description_small, description_sound, grandmaster_sound, identity_sound, leaps_sound}
use Rattle.std.proofs.lemmas.Bool.{not-true}
use Rattle.ptpm_codec.specs.declared.message.Action.{Action}
use Rattle.ptpm_data.specs.declared.rights.Rights.{Rights}
use Rattle.ptpm_data.specs.declared.management_id.Layout.{Layout}
use Rattle.ptpm_data.specs.declared.precedence_change.PrecedenceChange.{PrecedenceChange}
use Rattle.ptpm_data.specs.declared.precedence_change.PrecedenceChange.TheVariants.{Priority1, Priority2, ClockAccuracy}
use Rattle.ptpm_data.specs.declared.data_sets.ClockPrecedence.{ClockPrecedence}
use Rattle.ptpm_data.specs.declared.observation.ClockObservation.{ClockObservation}
use Rattle.ptpm_data.specs.declared.observation.PortObservation.{PortObservation}
use Rattle.ptpm_data.specs.declared.port_change.PortChange.{PortChange}
use Rattle.ptpm_data.specs.Request.{RequestValue}
use Rattle.ptpm_data.specs.Refusals.{is_set_value, is_value}
use Rattle.ptpm_data.specs.PortChange.{is_change_in_range, port_after}
use Rattle.ptpm_data.specs.PrecedenceChange.{is_precedence_in_range, precedence_after}
use Rattle.ptpm_data.specs.Changes.{applied, changed_by, commanded, grandmaster_changed, set_members, with_ports, with_precedence}
use Rattle.ptpm_data.specs.Observation.{observed}
use Rattle.ptpm_data.specs.SetField.{octet}
use Rattle.ptpm_data.proofs.Keeping.{Suits, length-named_changed, changed_by-all}
use Rattle.ptpm_data.proofs.Observed.{observed-all, observed-exact, observed-stays, observed-refused, observed-identity, observed-ports, observed-disabled, observed-sized, consistent}
use Rattle.ptpm_codec.specs.declared.message.Action.TheVariants as actions
use Rattle.ptpm_data.specs.declared.management_id.Layout.TheVariants as layouts
use Rattle.ptpm_data.specs.declared.port_change.PortChange.TheVariants as changes

-- ---- a start without a fault gives consistent data sets

neither : {E : Type 0} (a b : Option E) → option_or a b ≡ None → (a ≡ None) × (b ≡ None)
neither None b h = (refl, h)
neither (Some e) b h = cc

starts_consistent : (most : ℕ) (c : ClockStart) (ports : List PortStart) → start_fault most c ports ≡ None → most ≤ PORTS → IsConsistent (started c ports)
starts_consistent most c ports none within =
    let count = neither _ _ none in
    let clock = neither _ _ count.1 in
    let rest = neither _ _ clock.1 in
    let size = count_sound most (length ports) count.0 in
    record {
      some_port = grind (arith, length-map);
      few_ports = grind (arith, length-map);
      identity = identity_sound c clock.0;
      description = description_sound c clock.0;
      accuracy = accuracy_sound c clock.0;
      leaps = leaps_sound c clock.0;
      ports = ports_start ports rest.0;
      grandmaster = grandmaster_sound _ _ rest.1;
    }

pub few_consistent : (c : ClockStart) (ports : List PortStart) → start_fault INLINE_PORTS c ports ≡ None → IsConsistent (started c ports)
few_consistent c ports none = starts_consistent INLINE_PORTS c ports none (omega arith)

pub many_consistent : (c : ClockStart) (ports : List PortStart) → start_fault PORTS c ports ≡ None → IsConsistent (started c ports)
many_consistent c ports none = starts_consistent PORTS c ports none (omega arith)

-- a clock of few ports starts alike, whether or not it may take memory
count_same : (n : ℕ) → n ≤ INLINE_PORTS → count_fault PORTS n ≡ count_fault INLINE_PORTS n
unfolding count_fault
count_same n small = grind (arith, nat_lt, nat_tests)

pub same_start : (c : ClockStart) (ports : List PortStart) → length ports ≤ INLINE_PORTS → start_within PORTS c ports ≡ start_of c ports
unfolding start_within
same_start c ports small =
    ap (λ (fault : Option StartError). unless (option_or fault (option_or (clock_fault c) (option_or (ports_fault ports) (grandmaster_fault (default_data_set c) (parent_data_set c))))) (started c ports))
    (count_same (length ports) small)

pub text_fits : (most : ℕ) (c : ClockStart) (ports : List PortStart) (text : List ℕ)
    → start_fault most c ports ≡ None
    → text ≡ c.user_description.items
    → length text ≤ 128
text_fits most c ports text none is =
    let clock = neither _ _ (neither _ _ none).1 in
    let small = description_small c.user_description.items (description_sound c clock.0) in
    let size = ap length is in omega arith

pub blank_faultless : start_fault INLINE_PORTS (default_clock no_identity 0) (default_port ∷ []) ≡ None
unfolding count_fault clock_fault port_fault ports_fault grandmaster_fault is_description set_of is_utf8 chars
blank_faultless = refl

pub blank_starts : start_of (default_clock no_identity 0) (default_port ∷ []) ≡ Ok (started (default_clock no_identity 0) (default_port ∷ []))
unfolding start_within
blank_starts = rw blank_faultless refl

-- ---- a request and an observation leave consistent data sets consistent

-- ---- the clock's precedence

accuracy_after : (change : PrecedenceChange) (p : ClockPrecedence)
    → is_precedence_in_range change ≡ true
    → is_clock_accuracy p.accuracy ≡ true
    → is_clock_accuracy (precedence_after change p).accuracy ≡ true
accuracy_after (Priority1 n) p is before = before
accuracy_after (Priority2 n) p is before = before
accuracy_after (ClockAccuracy n) p is before = is

follows : (own : Bool) (change : PrecedenceChange) (d : DataSetsValue)
    → is_own_grandmaster d ≡ own
    → IsConsistent d
    → is_grandmaster d.default (grandmaster_changed own change d.parent) ≡ true
    → (grandmaster_changed own change d.parent).precedence ≡ precedence_after change d.default.precedence
follows true change d is before own = ap (precedence_after change) (before.grandmaster is)
follows false change d is before own = absurd cc

pub precedence_stays : (d : DataSetsValue) (change : PrecedenceChange)
    → is_precedence_in_range change ≡ true
    → IsConsistent d
    → IsConsistent (with_precedence d change)
precedence_stays d change is before = record {
  some_port = before.some_port;
  few_ports = before.few_ports;
  identity = before.identity;
  description = before.description;
  accuracy = accuracy_after change d.default.precedence is before.accuracy;
  leaps = before.leaps;
  ports = before.ports;
  grandmaster = follows (is_own_grandmaster d) change d refl before;
}

-- ---- ports

pub ports_stay : (port : ℕ) (d : DataSetsValue) (change : PortChange)
    → is_change_in_range change ≡ true
    → IsConsistent d
    → IsConsistent (with_ports port d change)
ports_stay port d change is before =
    let size = length-named_changed port (port_after change) d.ports in
    record {
      some_port = rw size before.some_port;
      few_ports = rw size before.few_ports;
      identity = before.identity;
      description = before.description;
      accuracy = before.accuracy;
      leaps = before.leaps;
      ports = ports_changed port change d.ports is before.ports;
      grandmaster = before.grandmaster;
    }

-- ---- a request

description_stays : (d : DataSetsValue) (text : List ℕ)
    → is_description text ≡ true
    → IsConsistent d
    → IsConsistent (record d { description = text })
description_stays d text is before = record {
  some_port = before.some_port;
  few_ports = before.few_ports;
  identity = before.identity;
  description = is;
  accuracy = before.accuracy;
  leaps = before.leaps;
  ports = before.ports;
  grandmaster = before.grandmaster;
}

domain_stays : (d : DataSetsValue) (domain : ℕ)
    → IsConsistent d
    → IsConsistent (record d { default = record d.default { domain = domain } })
domain_stays d domain before = record {
  some_port = before.some_port;
  few_ports = before.few_ports;
  identity = before.identity;
  description = before.description;
  accuracy = before.accuracy;
  leaps = before.leaps;
  ports = before.ports;
  grandmaster = before.grandmaster;
}

set_stays : (layout : Layout) (port : ℕ) (octets : List ℕ) (d : DataSetsValue)
    → is_set_value (set_of layout) octets ≡ true
    → IsConsistent d
    → IsConsistent (set_members layout port octets d)
unfolding is_description is_set_value set_members set_of
set_stays layouts.UserDescription port octets d is before = description_stays d _ is before
set_stays layouts.Priority1 port octets d is before = precedence_stays d (Priority1 (octet 0 octets)) refl before
set_stays layouts.Priority2 port octets d is before = precedence_stays d (Priority2 (octet 0 octets)) refl before
set_stays layouts.ClockAccuracy port octets d is before = precedence_stays d (ClockAccuracy (octet 0 octets)) is before
set_stays layouts.Domain port octets d is before = domain_stays d _ before
set_stays layouts.UtcProperties port octets d is before = record {
  some_port = before.some_port;
  few_ports = before.few_ports;
  identity = before.identity;
  description = before.description;
  accuracy = before.accuracy;
  leaps = not-true _ is;
  ports = before.ports;
  grandmaster = before.grandmaster;
}
set_stays (layouts.Setting s) port octets d is before =
    ports_stay port d (changes.Setting s (octet 0 octets)) (sym (set_in_range s octets) ∙ is) before
set_stays _ port octets d is before = before

command_stays : (layout : Layout) (port : ℕ) (d : DataSetsValue)
    → IsConsistent d
    → IsConsistent (commanded layout port d)
unfolding commanded
command_stays layouts.EnablePort port d before = ports_stay port d changes.Enable refl before
command_stays layouts.DisablePort port d before = ports_stay port d changes.Disable refl before
command_stays _ port d before = before

set_suits : (layout : Layout) (q : RequestValue) → q.action ≡ actions.Set → Suits layout q → is_set_value (set_of layout) q.octets ≡ true
set_suits layout q is suits = subst (λ (a : Action). is_value a (set_of layout) q.octets ≡ true) is suits.value

applied_stays : (layout : Layout) (q : RequestValue) (action : Action) (d : DataSetsValue)
    → q.action ≡ action
    → Suits layout q
    → IsConsistent d
    → IsConsistent (applied layout q action d)
applied_stays layout q actions.Set d is suits before = set_stays layout q.port q.octets d (set_suits layout q is suits) before
applied_stays layout q actions.Command d is suits before = command_stays layout q.port d before
applied_stays layout q _ d is suits before = before

pub changed_by-consistent : (q : RequestValue) (rights : Rights) (d : DataSetsValue)
    → IsConsistent d
    → IsConsistent (changed_by q rights d)
changed_by-consistent q rights d before =
    changed_by-all IsConsistent q rights d before (λ e suits. applied_stays e.layout q q.action d refl suits before)

-- ---- an observation

pub observed-consistent : (o : ClockObservation) (ports : List PortObservation) (d : DataSetsValue)
    → IsConsistent d
    → IsConsistent (observed o ports d)
observed-consistent o ports d before = observed-all IsConsistent o ports d before (λ accepted. consistent o ports d accepted before)

pub ruleset observation_laws = (observed-exact, observed-stays, observed-refused, observed-identity, observed-ports, observed-disabled, observed-sized, observed-consistent)
