-- What holds of the network of every text that is one.
use Rattle.std.proofs.Common.{◌≡◌, ◌≢◌, ℕ, ◌<◌, ◌≤◌, nat_lt, Bool, true, false, List, [], ◌∷◌, ◌++◌, length, map, Option, Some, None, Result, Ok, Err, refl, ap, sym, subst, ◌∙◌, if◌then◌else◌, cond, IsOk, arith}
use Rattle.std.specs.List.{AllByRecursion}
use Rattle.std.specs.Prelude.{flat_map, unwrap_or, slice_get, codes}
use Rattle.std.specs.Result.{result_err}
use Rattle.std.proofs.lemmas.List.{length-map}
use Rattle.std.proofs.lemmas.Bool.{both_ways}
use Rattle.toml.specs.Data.{Members}
use Rattle.toml.specs.Parse.{parse_document}
use Rattle.ptpm_codec.specs.Identity.{every_clock, same_clock}
use Rattle.ptpm_codec.proofs.MessageLaws.{same_clock-refl}
use Rattle.ptpm_script.specs.declared.net_error.NetError.{NetError}
use Rattle.ptpm_script.specs.declared.net_error.NetError.TheVariants.{TooLong}
use Rattle.ptpm_script.specs.Faults.{file_marks, first_refusal, long_marks, marks_of_document, text_marks}
use Rattle.ptpm_script.specs.Heads.{ClockHeadValue, SessionHeadValue, clocks_of, ends_of, sessions_of}
use Rattle.ptpm_script.specs.LimitFaults.{limit_marks}
use Rattle.ptpm_script.specs.Marks.{Mark, each_after}
use Rattle.ptpm_script.specs.NameFaults.{clock_past_ports, end_name_marks, name_marks, target_marks}
use Rattle.ptpm_script.specs.NetworkText.{clock_of, judged, network_in, network_of, network_of_document, session_of, some_port, IsOfText}
use Rattle.ptpm_script.specs.NetworkValue.{IsAccepted, IsSessionOf, NetworkValue, ClockValue, IsEndOf, AreSized, CanStart, first_sets}
use Rattle.ptpm_script.specs.RepeatFaults.{clock_repeats, end_repeats, repeat_marks, session_repeats}
use Rattle.ptpm_script.specs.ShapeFaults.{shape_marks}
use Rattle.ptpm_script.specs.StartFaults.{start_marks, some_clock}
use Rattle.ptpm_script.proofs.Loops.{append-none, all-map}
use Rattle.ptpm_script.proofs.StartLemmas.{clocks-can-start}
use Rattle.ptpm_script.proofs.NameLemmas.{counts, ends-once, few-managers, links-are, targets-there}
use Rattle.ptpm_script.proofs.RepeatLemmas.{clock-identities, clock-names, no-clock-identity, no-clock-name, repeat-parts, session-identities, session-names}
use Rattle.ptpm_script.proofs.ShapeLemmas.{shape-sound, clock_at-size, port_at-fits}
use Rattle.ptpm_script.proofs.TableLemmas.{SoundSession, SoundClock, SoundFile}
use Rattle.std.proofs.Props.{props}
use mathlib.Core.HLevel.{Σ_prop_path}
use mathlib.Core.Logic.{∥∥₁_elim}
use Rattle.std.proofs.lemmas.Option.{same_Some}
use Rattle.std.specs.Coded.{le_prop}
use Rattle.ptpm_script.specs.declared.network.End.{End}
use Rattle.ptpm_codec.specs.Message.{PortIdentityFits}
use Rattle.ptpm_codec.proofs.RefusalLaws.{option_or-none}
use Rattle.ptpm_data.specs.RequestLaws.{IsSized}
use Rattle.ptpm_data.specs.Start.{clock_fault, port_data_set, start_of, start_within}
use Rattle.ptpm_data.specs.declared.start.ClockStart.{ClockStart}
use Rattle.ptpm_data.specs.declared.start.PortStart.{PortStart}
use Rattle.ptpm_data.proofs.StartLemmas.{description_small, description_sound}
use Rattle.ptpm_script.specs.Starts.{clock_over}
use Rattle.ptpm_script.specs.Values.{clock_at, port_at}
use Rattle.ptpm_data.specs.contracts.start.ClockStart as clock_start
use Rattle.ptpm_data.specs.contracts.start.PortStart as port_start
use Rattle.ptpm_script.specs.declared.network.End.TheVariants as ends

ok_same : (x y : NetworkValue) → ◌≡◌ {A = Result NetworkValue NetError} (Ok x) (Ok y) → x ≡ y
ok_same x y h = cc

-- ---- a document in which nothing is found

pub record Unmarked (ms : Members) : Type 0 where
  pub shape : shape_marks ms ≡ []
  pub limits : limit_marks ms (sessions_of ms) ≡ []
  pub clocks_once : each_after clock_repeats [] (clocks_of ms) ≡ []
  pub sessions_once : each_after (session_repeats (clocks_of ms)) [] (sessions_of ms) ≡ []
  pub ends_once : each_after end_repeats [] (ends_of ms) ≡ []
  pub ports : flat_map clock_past_ports (clocks_of ms) ≡ []
  pub targets : flat_map (target_marks (clocks_of ms)) (sessions_of ms) ≡ []
  pub ends : flat_map (end_name_marks (clocks_of ms) (sessions_of ms)) (ends_of ms) ≡ []
  pub starts : start_marks (clocks_of ms) ≡ []

three : {A : Type 0} (xs ys zs : List A) → xs ++ ys ++ zs ≡ [] → (xs ≡ []) × (ys ≡ []) × (zs ≡ [])
three xs ys zs h =
    let last = append-none (xs ++ ys) zs h in
    let first = append-none xs ys last.0 in
    (first.0, first.1, last.1)

pub unmarked : (ms : Members) → file_marks ms ≡ [] → Unmarked ms
unfolding file_marks name_marks
unmarked ms h =
    let cs = clocks_of ms in
    let ss = sessions_of ms in
    let es = ends_of ms in
    let kinds = three (shape_marks ms ++ limit_marks ms ss ++ repeat_marks cs ss es) (name_marks cs ss es) (start_marks cs) h in
    let first = three (shape_marks ms) (limit_marks ms ss) (repeat_marks cs ss es) kinds.0 in
    let once = repeat-parts cs ss es first.2 in
    let there = three (flat_map clock_past_ports cs) (flat_map (target_marks cs) ss) (flat_map (end_name_marks cs ss) es) kinds.1 in
    record {
      shape = first.0;
      limits = first.1;
      clocks_once = once.0;
      sessions_once = once.1;
      ends_once = once.2;
      ports = there.0;
      targets = there.1;
      ends = there.2;
      starts = kinds.2;
    }

-- ---- sessions

-- of one manager
is_one : (cs : List ClockHeadValue) (s : SessionHeadValue) → SoundSession s → (session_of cs s).identity.clock ≢ every_clock
unfolding session_of
is_one cs s sound every =
    both_ways _ sound.is_one
    (ap (λ c. same_clock c every_clock) (sym (ap (λ o. (unwrap_or o some_port).clock) sound.identity_is) ∙ every) ∙ same_clock-refl every_clock)

sessions_are : (n : NetworkValue) (cs : List ClockHeadValue) (ss : List SessionHeadValue) → length n.clocks ≡ length cs
    → AllByRecursion SoundSession ss
    → AllByRecursion (λ s. AllByRecursion (λ c. s.name ≢ c.name) n.clocks) (map (session_of cs) ss)
    → AllByRecursion (λ s. AllByRecursion (λ c. s.identity.clock ≢ c.start.identity) n.clocks) (map (session_of cs) ss)
    → AllByRecursion (λ s. s.target < length cs) (map (session_of cs) ss)
    → AllByRecursion (IsSessionOf n) (map (session_of cs) ss)
sessions_are n cs [] long sound name clock target = tt
sessions_are n cs (s ∷ ss) long sound name clock target = (
  record {
    is_one = is_one cs s sound.0;
    no_name = name.0;
    no_clock = clock.0;
    target = subst (λ most. (session_of cs s).target < most) (sym long) target.0;
  },
  sessions_are n cs ss long sound.1 name.1 clock.1 target.1,
)

-- ---- the whole

accepted_document : (ms : Members) → file_marks ms ≡ [] → IsAccepted (network_in ms)
unfolding network_in
accepted_document ms h =
    let none = unmarked ms h in
    let sound = shape-sound ms none.shape in
    let cs = clocks_of ms in
    let ss = sessions_of ms in
    let start = clocks-can-start cs sound.clocks none.clocks_once none.ports none.starts in
    let sizes = counts ms in
    record {
      clock_count = subst (λ n. n ≤ 64) (sym (length-map cs clock_of)) sizes.0;
      session_count = subst (λ n. n ≤ 256) (sym (length-map ss (session_of cs))) sizes.1;
      link_count = sizes.2;
      clocks = start;
      sessions = sessions_are (network_in ms) cs ss (length-map cs clock_of) sound.sessions
          (no-clock-name cs ss sound.clocks sound.sessions none.sessions_once)
          (no-clock-identity cs ss sound.clocks sound.sessions none.sessions_once)
          (targets-there cs ss sound.sessions none.targets);
      links = links-are ms sound none.limits none.ends start;
      managers = few-managers ms sound none.limits none.targets;
      clock_names = clock-names cs sound.clocks none.clocks_once;
      clock_identities = clock-identities cs sound.clocks none.clocks_once;
      session_names = session-names cs ss sound.sessions none.sessions_once;
      session_identities = session-identities cs ss sound.sessions none.sessions_once;
      ends_once = ends-once ms sound none.limits none.ends none.ends_once;
    }

read_well : (marks : List Mark) (m n : NetworkValue) → judged marks m ≡ Ok n → (marks ≡ []) × (m ≡ n)
read_well [] m n h = (refl, ok_same m n h)
read_well (x ∷ xs) m n h = cc

of_document : (d : Option Members) (n : NetworkValue) → network_of_document d ≡ Ok n
    → (ms : Members) × (d ≡ Some ms) × (file_marks ms ≡ []) × (network_in ms ≡ n)
of_document None n h = cc
of_document (Some ms) n h = let r = read_well (file_marks ms) (network_in ms) n h in (ms, refl, r.0, r.1)

not_long : (is_long : Bool) (r : Result NetworkValue NetError) (n : NetworkValue) → cond is_long (Err TooLong) r ≡ Ok n → r ≡ Ok n
not_long true r n h = cc
not_long false r n h = h

-- the document of a text that is a network
pub document-of : (text : List ℕ) (n : NetworkValue) → network_of text ≡ Ok n
    → (ms : Members) × (parse_document text ≡ Some ms) × (file_marks ms ≡ []) × (network_in ms ≡ n)
unfolding network_of
document-of text n h = of_document (parse_document text) n (not_long (nat_lt 262144 (length text)) (network_of_document (parse_document text)) n h)

pub accepted : (text : List ℕ) (n : NetworkValue) → network_of text ≡ Ok n → IsAccepted n
accepted text n h =
    let d = document-of text n h in subst IsAccepted d.3 (accepted_document d.0 d.2)

-- ---- the first fault

first_judged : (marks : List Mark) (n : NetworkValue) → first_refusal marks ≡ result_err (judged marks n)
first_judged [] n = refl
first_judged (m ∷ ms) n = refl

first_of : (d : Option Members) → first_refusal (marks_of_document d) ≡ result_err (network_of_document d)
first_of None = refl
first_of (Some ms) = first_judged (file_marks ms) (network_in ms)

first_if : (is_long : Bool) (d : Option Members)
    → first_refusal (if is_long then long_marks else marks_of_document d) ≡ result_err (if is_long then Err TooLong else network_of_document d)
first_if true d = refl
first_if false d = first_of d

pub faults-found : (text : List ℕ) → first_refusal (text_marks text) ≡ result_err (network_of text)
unfolding text_marks network_of
faults-found text = first_if (nat_lt 262144 (length text)) (parse_document text)

pub ruleset faults_found_laws = (faults-found)

-- ---- what holds of the network of a text holds in one way at most, so it comes out of a truncated fact

ClockValue-set : IsSet ClockValue
ClockValue-set = hlevel (props, clock_start.the_row.coded, port_start.the_row.coded)

-- the clock at a place, with a port
abbrev IsPlace : NetworkValue → ℕ → ℕ → ClockValue → Type 0
IsPlace n place port c = (slice_get n.clocks place ≡ Some c) × ((1 ≤ port) × (port ≤ length c.ports))

is_place : (n : NetworkValue) (place port : ℕ) → IsProp ((c : ClockValue) × IsPlace n place port c)
is_place n place port x y =
    Σ_prop_path {B = IsPlace n place port} (λ c. hlevel (props, ClockValue-set)) (same_Some x.0 y.0 (sym x.1.0 ∙ y.1.0))

IsEndOf-prop : (n : NetworkValue) (e : End) → IsProp (IsEndOf n e)
IsEndOf-prop n (ends.Clock place port) x y =
    let same = is_place n place port (x.0, (x.1, (x.2, x.3))) (y.0, (y.1, (y.2, y.3))) in
    λ i. ((same i).0, (same i).1.0, (same i).1.1.0, (same i).1.1.1)
IsEndOf-prop n (ends.Session place) x y = le_prop x y

IsAccepted-prop : (n : NetworkValue) → IsProp (IsAccepted n)
IsAccepted-prop n = hlevel (props, IsEndOf-prop)

pub of_text-accepted : (n : NetworkValue) → ∥ IsOfText n ∥₁ → IsAccepted n
of_text-accepted n t = ∥∥₁_elim t (IsAccepted-prop n) (λ s. accepted s.0 n s.1)

pub ruleset network_laws = (of_text-accepted)

-- ---- the network of every text that is one: its identities have eight octets, its portNumbers 16 bits, and its data sets their
-- sizes.

-- what holds of what is there, and of what stands in its place
either : {A : Type 0} (P : A → Type 0) (o : Option A) (a : A) → ((x : A) → o ≡ Some x → P x) → P a → P (unwrap_or o a)
either P None a there other = other
either P (Some x) a there other = there x refl

faultless : (c : ClockStart) (ports : List PortStart) → IsOk (start_of c ports) → clock_fault c ≡ None
unfolding start_within
faultless c ports h = grind (arith, option_or-none)

clock_sized : (c : ClockHeadValue) → SoundClock c → CanStart (clock_of c) → IsSized (first_sets (clock_of c))
unfolding clock_of clock_over
clock_sized c sound can =
    let start = (clock_of c).start in
    let ports = (clock_of c).ports in
    let identity : length start.identity.0 ≡ 8 = subst (λ o. length (unwrap_or o some_clock).0 ≡ 8) (sym sound.identity_is) sound.identity_size in
    record {
      some_port = subst (λ n. 1 ≤ n) (sym (length-map ports port_data_set)) can.some_port;
      few_ports = omega (arith, length-map ports port_data_set, can.few_ports);
      text = description_small start.user_description.items (description_sound start (faultless start ports can.starts));
      identity = identity;
      parent = either (λ p. length p.clock.0 ≡ 8) (port_at (codes "parent_port") c.table) (record { clock = start.identity; port = 0 })
          (λ p h. (port_at-fits (codes "parent_port") c.table p h).clock) identity;
      grandmaster = either (λ g. length g.0 ≡ 8) (clock_at (codes "grandmaster") c.table) start.identity
          (clock_at-size (codes "grandmaster") c.table) identity;
    }

clocks_sized : (cs : List ClockHeadValue) → AllByRecursion SoundClock cs → AllByRecursion CanStart (map clock_of cs)
    → AllByRecursion (λ c. IsSized (first_sets c)) (map clock_of cs)
clocks_sized [] sound can = tt
clocks_sized (c ∷ cs) sound can = (clock_sized c sound.0 can.0, clocks_sized cs sound.1 can.1)

session_sized : (cs : List ClockHeadValue) (s : SessionHeadValue) → SoundSession s → PortIdentityFits (session_of cs s).identity
unfolding session_of
session_sized cs s sound = subst (λ o. PortIdentityFits (unwrap_or o some_port)) (sym sound.identity_is) sound.identity_fits

document_sized : (ms : Members) → SoundFile ms → AllByRecursion CanStart (network_in ms).clocks → AreSized (network_in ms)
unfolding network_in
document_sized ms sound can =
    let cs = clocks_of ms in
    record {
      clocks = clocks_sized cs sound.clocks can;
      sessions = all-map (session_of cs) SoundSession (λ s. PortIdentityFits s.identity) (session_sized cs) (sessions_of ms) sound.sessions;
    }

pub sized : (text : List ℕ) (n : NetworkValue) → network_of text ≡ Ok n → AreSized n
sized text n h =
    let d = document-of text n h in
    let can = (subst IsAccepted (sym d.3) (accepted text n h)).clocks in
    subst AreSized d.3 (document_sized d.0 (shape-sound d.0 (unmarked d.0 d.2).shape) can)
