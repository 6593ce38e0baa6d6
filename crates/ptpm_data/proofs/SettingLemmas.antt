-- The octets of a port's settings, read and said back, and the ranges of the ports' members: what gives them, and what keeps them.
use Rattle.std.proofs.Common.{arith, ◌≡◌, ◌∙◌, refl, ap, subst, sym, ℕ, ◌≤◌, ◌==◌, ℤ, pos, negsuc, nat_abs, true, List, [], ◌∷◌, Some, slice_get, slice_index, suc, ◌+◌, Bool, false, if◌then◌else◌, map, None}
use Rattle.std.specs.Prelude.{FitsSigned}
use Rattle.std.specs.Int.{w8}
use Rattle.std.proofs.lemmas.Int.{to_z-of_z}
use Rattle.std.proofs.lemmas.Bool.{eqb-true}
use Rattle.std.proofs.lemmas.Option.{same_Some}
use Rattle.ptpm_data.specs.declared.port_setting.PortSetting.{PortSetting}
use Rattle.ptpm_data.specs.declared.port_setting.PortSetting.TheVariants.{LogAnnounceInterval, LogSyncInterval, LogMinPdelayReqInterval}
use Rattle.ptpm_data.specs.declared.port_settings.PortSettings.TheInside.{Inside}
use Rattle.ptpm_data.specs.declared.start.PortStart.{PortStart}
use Rattle.ptpm_data.specs.DataField.{i8_octet}
use Rattle.ptpm_data.specs.PortSetting.{default_settings, octet_of, place, port_settings, row, said_by, said_of, settings_octets}
use Rattle.ptpm_data.specs.PortSettings.{AreFive, octet_back, octets_back, settings_view}
use Rattle.ptpm_data.specs.Ranges.{is_in_range}
use Rattle.ptpm_data.specs.SetForm.{SetField, minus◌to◌}
use Rattle.ptpm_data.specs.Start.{port_start_with, start_settings, is_in_port_range, judged_of_port, port_data_set, port_fault, ports_fault}
use Rattle.std.specs.List.{All, enumerate_from}
use Rattle.std.proofs.lemmas.List.Elements.{All-nil, All-cons, All-head, All-tail}
use Rattle.ptpm_codec.proofs.RefusalLaws.{option_or-none}
use Rattle.ptpm_data.specs.declared.data_sets.PortDataSet.{PortDataSet}
use Rattle.ptpm_data.specs.declared.observation.PortObservation.{PortObservation}
use Rattle.ptpm_data.specs.declared.port_change.PortChange.{PortChange}
use Rattle.ptpm_data.specs.Changes.{changed_if, is_named, named_changed}
use Rattle.ptpm_data.specs.Members.{IsPortInRange}
use Rattle.ptpm_data.specs.Observation.{ports_after}
use Rattle.ptpm_data.specs.PortChange.{is_change_in_range, port_after}
use Rattle.ptpm_data.specs.Refusals.{is_set_value}
use Rattle.ptpm_data.specs.SetField.{first_i8, octet}
use Rattle.ptpm_data.proofs.StartLemmas.{among}
use Rattle.ptpm_data.specs.declared.members.Member.TheVariants as members
use Rattle.ptpm_data.specs.declared.port_change.PortChange.TheVariants as changes
use Rattle.ptpm_data.specs.Observation as observation

-- ---- the octets of a port's settings, read and said back; their places; and that a start may have settings in their ranges

-- one octet and others
pub octet_first : {a b : ℕ} {xs ys : List ℕ} → a ≡ b → xs ≡ ys → a ∷ xs ≡ b ∷ ys
octet_first first rest = cc

pub octet_last : {a b : ℕ} → a ≡ b → a ∷ [] ≡ b ∷ []
octet_last same = ap (λ (n : ℕ). n ∷ []) same

-- ---- the program's octets

pub octet_read : (s : PortSetting) (x : Inside) (values : PortSetting → ℤ)
    → AreFive x
    → settings_view x ≡ values
    → slice_index x.octets (place s) ≡ octet_of (values s)
octet_read s x values is view = sym (octet_back s _ (is.small (place s))) ∙ ap (λ (f : PortSetting → ℤ). octet_of (f s)) view

pub octets_read : (x : Inside) (values : PortSetting → ℤ)
    → AreFive x
    → settings_view x ≡ values
    → x.octets ≡ settings_octets values
octets_read x values is view = sym (octets_back x.octets is.count is.small) ∙ ap settings_octets view

pub said_back : (x : Inside) (values : PortSetting → ℤ)
    → AreFive x
    → settings_view x ≡ values
    → (s : PortSetting) → said_of s (octet_of (values s)) ≡ values s
said_back x values is view s =
    let P : (PortSetting → ℤ) → Type 0 = λ f. said_of s (octet_of (f s)) ≡ f s in
    subst P view (ap (said_of s) (octet_back s _ (is.small (place s))))

default_fits : (s : PortSetting) → said_of s (octet_of (default_settings s)) ≡ default_settings s
unfolding said_of octet_of
default_fits LogAnnounceInterval = refl
default_fits s = refl

-- octets that say each say all
pub settings_back : (values : PortSetting → ℤ)
    → ((s : PortSetting) → said_of s (octet_of (values s)) ≡ values s)
    → (s : PortSetting) → said_by (settings_octets values) s ≡ values s
settings_back values fits LogAnnounceInterval = fits LogAnnounceInterval
settings_back values fits s = fits s

pub default_back : said_by (settings_octets default_settings) ≡ default_settings
default_back = λ i s. settings_back default_settings default_fits s i

-- ---- places

pub listed : (s : PortSetting) → slice_get port_settings (place s) ≡ Some s
listed LogAnnounceInterval = refl
listed s = refl

pub same_place : (s t : PortSetting) → place s == place t ≡ true → s ≡ t
same_place s t same = same_Some s t (sym (listed s) ∙ ap (slice_get port_settings) (eqb-true _ _ same) ∙ listed t)

pub place_few : (s : PortSetting) → place s ≤ 4
place_few LogAnnounceInterval = omega arith
place_few s = omega arith

pub itself : (s : PortSetting) → place s == place s ≡ true
itself LogAnnounceInterval = refl
itself s = refl

-- ---- a start with settings in their ranges

abbrev pub start_octets : PortStart → List ℕ
start_octets p =
    i8_octet p.log_announce ∷ p.receipt_timeout ∷ i8_octet p.log_sync ∷ p.delay_mechanism ∷ i8_octet p.log_min_pdelay ∷ []

abbrev counted : SetField → ℤ → ℤ
counted (minus low to high) z = z
counted _ z = pos (nat_abs z)

counted_back : (s : PortSetting) (z : ℤ) → is_in_range s z ≡ true → counted (row s).range z ≡ z
counted_back LogAnnounceInterval z is = refl
counted_back s (pos n) is = refl
counted_back s (negsuc n) is = cc

pub settings_restart : (state : ℕ) (log_min_delay_req peer_delay : ℤ) (values : PortSetting → ℤ)
    → ((s : PortSetting) → is_in_range s (values s) ≡ true)
    → (s : PortSetting) → start_settings (port_start_with state log_min_delay_req peer_delay values) s ≡ values s
settings_restart state log_min_delay_req peer_delay values range LogAnnounceInterval = refl
settings_restart state log_min_delay_req peer_delay values range s = counted_back s (values s) (range s)

-- the settings of a start, by its octets
start_said_at : (p : PortStart)
    → FitsSigned w8 p.log_announce
    → FitsSigned w8 p.log_sync
    → FitsSigned w8 p.log_min_pdelay
    → (s : PortSetting) → said_by (start_octets p) s ≡ start_settings p s
unfolding said_of i8_octet
start_said_at p announce sync pdelay LogAnnounceInterval = to_z-of_z w8 p.log_announce announce
start_said_at p announce sync pdelay LogSyncInterval = to_z-of_z w8 p.log_sync sync
start_said_at p announce sync pdelay LogMinPdelayReqInterval = to_z-of_z w8 p.log_min_pdelay pdelay
start_said_at p announce sync pdelay s = refl

pub start_said : (p : PortStart)
    → FitsSigned w8 p.log_announce
    → FitsSigned w8 p.log_sync
    → FitsSigned w8 p.log_min_pdelay
    → said_by (start_octets p) ≡ start_settings p
start_said p announce sync pdelay = λ i s. start_said_at p announce sync pdelay s i

-- ---- the ranges of the ports' members: a start gives them, a change and an observation keep them

-- ---- a start

judged_at : (s : PortSetting) → slice_get judged_of_port (suc (place s)) ≡ Some (members.Setting s)
judged_at LogAnnounceInterval = refl
judged_at s = refl

port_starts : (p : PortStart) → port_fault p ≡ None → IsPortInRange (port_data_set p)
unfolding port_fault
port_starts p none =
    record { settings = λ s. among (is_in_port_range p) judged_of_port (suc (place s)) (members.Setting s) none (judged_at s) }

pub ports_start : (ps : List PortStart) → ports_fault ps ≡ None → All IsPortInRange (map port_data_set ps)
unfolding ports_fault
ports_start [] none = All-nil IsPortInRange
ports_start (p ∷ ps) none =
    let both = option_or-none (port_fault p) (ports_fault ps) none in
    All-cons IsPortInRange (port_data_set p) (map port_data_set ps) (port_starts p both.0) (ports_start ps both.1)

-- ---- a change

-- a SET's first octet, as its range has it
pub set_in_range : (s : PortSetting) (octets : List ℕ)
    → is_set_value (row s).range octets ≡ is_in_range s (said_of s (octet 0 octets))
unfolding is_set_value first_i8 said_of
set_in_range LogAnnounceInterval octets = refl
set_in_range _ octets = refl

setting_stays : (s t : PortSetting) (b : Bool) (after before : ℤ)
    → place s == place t ≡ b
    → is_in_range s after ≡ true
    → is_in_range t before ≡ true
    → is_in_range t (if b then after else before) ≡ true
setting_stays s t true after before same is was =
    let P : PortSetting → Type 0 = λ u. is_in_range u after ≡ true in subst P (same_place s t same) is
setting_stays s t false after before same is was = was

port_stays : (change : PortChange) (p : PortDataSet)
    → is_change_in_range change ≡ true
    → IsPortInRange p
    → IsPortInRange (port_after change p)
port_stays (changes.Setting s octet) p is before =
    record { settings = λ t. setting_stays s t (place s == place t) (said_of s octet) (p.settings t) refl is (before.settings t) }
port_stays changes.Enable p is before = record { settings = before.settings }
port_stays changes.Disable p is before = record { settings = before.settings }

if_named : (b : Bool) (change : PortChange) (p : PortDataSet)
    → is_change_in_range change ≡ true
    → IsPortInRange p
    → IsPortInRange (changed_if b (port_after change) p)
if_named true change p is before = port_stays change p is before
if_named false change p is before = before

from_place : (port n : ℕ) (change : PortChange) (ports : List PortDataSet)
    → is_change_in_range change ≡ true
    → All IsPortInRange ports
    → All IsPortInRange (map (λ e. changed_if (is_named port e.0) (port_after change) e.1) (enumerate_from n ports))
from_place port n change [] is before = All-nil IsPortInRange
from_place port n change (p ∷ ports) is before =
    All-cons IsPortInRange _ _ (if_named (is_named port n) change p is (All-head IsPortInRange p ports before))
    (from_place port (n + 1) change ports is (All-tail IsPortInRange p ports before))

pub ports_changed : (port : ℕ) (change : PortChange) (ports : List PortDataSet)
    → is_change_in_range change ≡ true
    → All IsPortInRange ports
    → All IsPortInRange (named_changed port (port_after change) ports)
unfolding named_changed
ports_changed port change ports is before = from_place port 1 change ports is before

-- ---- an observation

port_observed : (o : PortObservation) (p : PortDataSet) → IsPortInRange p → IsPortInRange (observation.port_after o p)
port_observed o p before = record { settings = before.settings }

pub ports_observed : (os : List PortObservation) (ports : List PortDataSet)
    → All IsPortInRange ports
    → All IsPortInRange (ports_after os ports)
unfolding ports_after
ports_observed [] ports before = before
ports_observed (o ∷ os) [] before = before
ports_observed (o ∷ os) (p ∷ ports) before =
    All-cons IsPortInRange (observation.port_after o p) (ports_after os ports) (port_observed o p (All-head IsPortInRange p ports before))
    (ports_observed os ports (All-tail IsPortInRange p ports before))
