-- The ports of a start, one after another.
use Rattle.std.proofs.lemmas.Grind.{common_steps}
use Rattle.std.proofs.Common.{arith, ◌≡◌, nat_lt, nat_le, Bool, true, false, ◌&&◌, if◌then◌else◌, bytes_eq, ℕ, ◌+◌, ◌<◌, ◌≤◌, List, [], ◌∷◌, ◌++◌, Option, Some, None, Result, Ok, Err, map, take, drop, length, get_or, drop-cons, add-one, zero, suc, slice_get, option_map, not, refl, ap, sym, subst, IsErrAnd, MatchResult, ◌∙◌}
use Rattle.std.proofs.Math.ListN.{drop_of_length-le}
use Rattle.std.proofs.lemmas.List.{take_more, map-append}
use Rattle.std.specs.Option.{option_or}
use Rattle.ptpm_data.specs.declared.members.Member.{Member}
use Rattle.ptpm_data.specs.declared.members.Member.TheVariants as members
use Rattle.ptpm_data.specs.declared.start.StartError.{StartError}
use Rattle.ptpm_data.specs.declared.start.StartError.TheVariants.{BadValue}
use Rattle.ptpm_data.specs.declared.start.PortStart.{PortStart}
use Rattle.ptpm_data.specs.declared.data_sets.PortDataSet.{PortDataSet}
use Rattle.ptpm_data.specs.Start.{port_data_set, port_fault, ports_fault, port_start_of, start_within, started, unless, count_fault, clock_fault, first_out, grandmaster_fault, is_in_clock_range, judged_of_clock}
use Rattle.ptpm_data.specs.ManagementId.{set_of}
use Rattle.ptpm_data.specs.Ranges.{all_ones, is_clock_accuracy, is_description}
use Rattle.ptpm_data.specs.Members.{DataSetsValue, is_grandmaster, is_same_precedence}
use Rattle.ptpm_data.specs.declared.data_sets.ClockPrecedence.{ClockPrecedence}
use Rattle.ptpm_data.specs.declared.data_sets.DefaultDataSet.{DefaultDataSet}
use Rattle.ptpm_data.specs.declared.data_sets.ParentDataSet.{ParentDataSet}
use Rattle.ptpm_data.specs.declared.start.ClockStart.{ClockStart}
use Rattle.std.proofs.lemmas.Bool.{and_parts, eqb-true, not-false, not-true}
use Rattle.std.proofs.lemmas.Option.{same_Some}
use Rattle.std.proofs.lemmas.Bool.Decides.{nat_tests}

pub ports_fault_step : (ps : List PortStart) (i : ℕ) (p : PortStart) → i < length ps
    → ports_fault (drop i ps)
    ≡ option_or (port_fault (get_or ps i p)) (ports_fault (drop (i + 1) ps))
unfolding ports_fault
ports_fault_step ps i p h = rw (drop-cons ps i p h, add-one i) refl

pub unless_ok : {A E : Type 0} (o : Option E) (a b : A) → unless o a ≡ Ok b → (o ≡ None) × (b ≡ a)
unless_ok None a b h = (refl, cc)
unless_ok (Some e) a b h = cc

pub unless_err : {A E : Type 0} (o : Option E) (a : A) (e : E) → unless o a ≡ Err e → o ≡ Some e
unless_err None a e h = cc
unless_err (Some x) a e h = cc

pub started_ok : (p : PortStart) (s : PortDataSet)
    → port_start_of p ≡ Ok s
    → (port_fault p ≡ None) × (s ≡ port_data_set p)
unfolding port_start_of
started_ok p s h = unless_ok _ _ _ h

pub started_err : (p : PortStart) (m : StartError) → port_start_of p ≡ Err m → port_fault p ≡ Some m
unfolding port_start_of
started_err p m h = grind arith

-- a port without a fault
pub goes_on : (ps : List PortStart) (i : ℕ) (p : PortStart) (s : PortDataSet)
    → i < length ps
    → ports_fault ps ≡ ports_fault (drop i ps)
    → port_start_of (get_or ps i p) ≡ Ok s → ports_fault ps ≡ ports_fault (drop (i + 1) ps)
goes_on ps i p s below here ok =
    here ∙ ports_fault_step ps i p below ∙ ap (λ o. option_or o (ports_fault (drop (i + 1) ps))) (started_ok _ s ok).0

-- a port with one
pub stops : (ps : List PortStart) (i : ℕ) (p : PortStart) (m : StartError)
    → i < length ps
    → ports_fault ps ≡ ports_fault (drop i ps)
    → port_start_of (get_or ps i p) ≡ Err m → ports_fault ps ≡ Some m
stops ps i p m below here err =
    here ∙ ports_fault_step ps i p below ∙ ap (λ o. option_or o (ports_fault (drop (i + 1) ps))) (started_err _ m err)

-- the same of ports that are only judged
pub judged_on : (ps : List PortStart) (i : ℕ) (p : PortStart)
    → i < length ps
    → ports_fault ps ≡ ports_fault (drop i ps)
    → port_fault (get_or ps i p) ≡ None
    → ports_fault ps ≡ ports_fault (drop (i + 1) ps)
judged_on ps i p below here none = here ∙ ports_fault_step ps i p below ∙ ap (λ o. option_or o (ports_fault (drop (i + 1) ps))) none

pub judged_out : (ps : List PortStart) (i : ℕ) (p : PortStart) (e : StartError)
    → i < length ps
    → ports_fault ps ≡ ports_fault (drop i ps)
    → port_fault (get_or ps i p) ≡ Some e
    → ports_fault ps ≡ Some e
judged_out ps i p e below here fault = here ∙ ports_fault_step ps i p below ∙ ap (λ o. option_or o (ports_fault (drop (i + 1) ps))) fault

pub no_more : (ps : List PortStart) (i : ℕ)
    → length ps ≤ i
    → ports_fault ps ≡ ports_fault (drop i ps)
    → ports_fault ps ≡ None
unfolding ports_fault
no_more ps i past here = here ∙ ap ports_fault (drop_of_length-le ps past)

pub made_on : (ps : List PortStart) (i : ℕ) (p : PortStart) (s : PortDataSet)
    (sets : List PortDataSet)
    → i < length ps
    → sets ≡ map port_data_set (take i ps) → port_start_of (get_or ps i p) ≡ Ok s
    → sets ++ s ∷ [] ≡ map port_data_set (take (i + 1) ps)
made_on ps i p s sets below made ok = grind (arith, common_steps, take_more, map-append, get_or, started_ok)

-- the same of ports without a fault
pub made_so : (ps : List PortStart) (i : ℕ) (p : PortStart) (s : PortDataSet) (sets : List PortDataSet)
    → i < length ps
    → sets ≡ map port_data_set (take i ps)
    → s ≡ port_data_set (get_or ps i p)
    → sets ++ s ∷ [] ≡ map port_data_set (take (i + 1) ps)
made_so ps i p s sets below made is = grind (arith, common_steps, take_more, map-append, get_or)

-- an error that `?` hands on
pub handed_on : {A E : Type 0} (r : Result A E) (e : E) (P : A → Type 0) (Q : E → Type 0)
    → IsErrAnd r (λ x. x ≡ e)
    → Q e
    → MatchResult r P Q
handed_on (Ok a) e P Q h q = absurd h
handed_on (Err x) e P Q h q = subst Q (sym h) q

pub handed_whole : {A E : Type 0} (r : Result A E) (e : E) (o : Option E) (a : A)
    → IsErrAnd r (λ x. x ≡ e)
    → o ≡ Some e
    → r ≡ unless o a
handed_whole (Ok b) e o a h fault = absurd h
handed_whole (Err x) e o a h fault = cc

-- the data sets of a clock that starts
pub started_by : (most : ℕ) (c : ClockStart) (ports : List PortStart) (sets : DataSetsValue)
    → Ok sets ≡ start_within most c ports
    → sets ≡ started c ports
unfolding start_within
started_by most c ports sets h = (unless_ok _ _ _ (sym h)).1

-- ---- what follows if there is no fault

pub passes : {E : Type 0} (b : Bool) (e : E) (o : Option E)
    → (if b then Some e else o) ≡ None
    → (b ≡ false) × (o ≡ None)
passes true e o h = cc
passes false e o h = (refl, h)

pub count_sound : (most n : ℕ) → count_fault most n ≡ None → (1 ≤ n) × (n ≤ most)
unfolding count_fault
count_sound most n h = grind (arith, passes, nat_lt, nat_tests)

-- of these members none is out of its range
head_in : (b : Bool) (m : Member) (o : Option Member)
    → option_map BadValue (if not b then Some m else o) ≡ None
    → (b ≡ true) × (option_map BadValue o ≡ None)
head_in true m o none = (refl, none)
head_in false m o none = cc

pub among : (is_in : Member → Bool) (ms : List Member) (i : ℕ) (m : Member)
    → first_out is_in ms ≡ None
    → slice_get ms i ≡ Some m
    → is_in m ≡ true
among is_in [] i m none at = cc
among is_in (n ∷ ms) zero m none at = subst (λ u. is_in u ≡ true) (same_Some n m at) (head_in (is_in n) n _ none).0
among is_in (n ∷ ms) (suc i) m none at = among is_in ms i m (head_in (is_in n) n _ none).1 at

pub none_out : (is_in : Member → Bool) (ms : List Member) → ((m : Member) → is_in m ≡ true) → first_out is_in ms ≡ None
none_out is_in [] all = refl
none_out is_in (m ∷ ms) all = rw (all m) (none_out is_in ms all)

clock_member : (c : ClockStart) (i : ℕ) (m : Member)
    → clock_fault c ≡ None
    → slice_get judged_of_clock i ≡ Some m
    → is_in_clock_range c m ≡ true
unfolding clock_fault
clock_member c i m none at = among (is_in_clock_range c) judged_of_clock i m none at

pub identity_sound : (c : ClockStart) → clock_fault c ≡ None → bytes_eq c.identity.0 all_ones ≡ false
identity_sound c h = not-true _ (clock_member c 0 members.Identity h refl)

pub description_sound : (c : ClockStart)
    → clock_fault c ≡ None
    → is_description c.user_description.items ≡ true
description_sound c h = clock_member c 1 members.UserDescription h refl

pub accuracy_sound : (c : ClockStart) → clock_fault c ≡ None → is_clock_accuracy c.clock_accuracy ≡ true
accuracy_sound c h = clock_member c 2 members.ClockAccuracy h refl

pub leaps_sound : (c : ClockStart) → clock_fault c ≡ None → (c.leap61 && c.leap59) ≡ false
leaps_sound c h = not-true _ (clock_member c 3 members.Leap59 h refl)

pub description_small : (text : List ℕ) → is_description text ≡ true → length text ≤ 128
unfolding is_description set_of
description_small text h = let small = (and_parts (nat_le (length text) 128) _ h).0 in grind (arith, nat_tests)

pub precedence_sound : (x y : ClockPrecedence) → is_same_precedence x y ≡ true → x ≡ y
precedence_sound x y h = grind (arith, and_parts, eqb-true)

pub grandmaster_sound : (default : DefaultDataSet) (parent : ParentDataSet)
    → grandmaster_fault default parent ≡ None
    → is_grandmaster default parent ≡ true → parent.precedence ≡ default.precedence
unfolding grandmaster_fault
grandmaster_sound default parent h own = grind (arith, passes, precedence_sound, not-false)
