-- What a file without marks of repeats gives only once: names, identities and ends.
use Rattle.std.proofs.Common.{◌≡◌, ◌≢◌, ℕ, ◌==◌, Bool, true, false, List, [], ◌∷◌, ◌++◌, map, Option, Some, None, refl, ap, sym, ◌∙◌, bytes_eq, codes, is_some, option_map}
use Rattle.std.specs.Prelude.{unwrap_or}
use Rattle.std.specs.List.{AllByRecursion, list_any}
use Rattle.std.proofs.lemmas.Bool.{and_from, both_ways, or_parts}
use Rattle.std.proofs.lemmas.Bool.Decides.{Decides-eqb}
use Rattle.std.proofs.lemmas.Slice.Eq.{bytes_eq-Decides}
use Rattle.toml.specs.Data.{Members, get_member}
use Rattle.ptpm_codec.specs.Identity.{same_clock, same_identity}
use Rattle.ptpm_codec.specs.declared.identity.PortIdentity.{PortIdentity}
use Rattle.ptpm_codec.proofs.MessageLaws.{same_clock-refl}
use Rattle.ptpm_script.specs.declared.net_error.NetError.TheVariants.{Twice}
use Rattle.ptpm_script.specs.Heads.{ClockHeadValue, EndHeadValue, SessionHeadValue, items_at}
use Rattle.ptpm_script.specs.Marks.{Spot, each_after}
use Rattle.ptpm_script.specs.NetworkText.{clock_of, session_of, some_port}
use Rattle.ptpm_script.specs.NetworkValue.{AreDistinct}
use Rattle.ptpm_script.specs.RepeatFaults.{clock_repeats, end_repeats, is_clock_identity, is_clock_name, is_session_identity, is_session_name, port_repeats, repeat_marks, session_repeats, twice_if}
use Rattle.ptpm_script.specs.Rules.{clock_rules, session_rules}
use Rattle.ptpm_script.specs.Spellings.{passes}
use Rattle.ptpm_script.specs.StartFaults.{some_clock}
use Rattle.ptpm_script.specs.Starts.{clock_over}
use Rattle.ptpm_script.proofs.Loops.{after-none, all-both, all-map, append-none, distinct-made, value-none}
use Rattle.ptpm_script.proofs.TableLemmas.{SoundClock, SoundSession, key-there}

-- ---- what two have

-- both have it, and it is the same
abbrev shares : {A : Type 0} → (A → A → Bool) → Option A → Option A → Bool
shares same o p = passes (λ a. passes (λ b. same b a) p) o

shared : {A : Type 0} (same : A → A → Bool) → ((a : A) → same a a ≡ true) → (o p : Option A) (d : A)
    → is_some o ≡ true
    → is_some p ≡ true
    → unwrap_or o d ≡ unwrap_or p d
    → shares same o p ≡ true
shared same itself None p d is_o is_p e = cc
shared same itself (Some a) None d is_o is_p e = cc
shared same itself (Some a) (Some b) d is_o is_p e = ap (same b) e ∙ itself b

none_passes : {A : Type 0} (xs : List A) → list_any (λ x. false) xs ≡ false
none_passes [] = refl
none_passes (x ∷ xs) = none_passes xs

none_shares : {A H : Type 0} (same : A → A → Bool) (of : H → Option A) (o : Option A) (hs : List H)
    → passes (λ a. list_any (λ h. passes (λ b. same b a) (of h)) hs) o ≡ false
    → list_any (λ h. shares same o (of h)) hs ≡ false
none_shares same of None hs h = none_passes hs
none_shares same of (Some a) hs h = h

-- a key at which no mark says that some of these have what it has
twice_none : {A H : Type 0} (same : A → A → Bool) (of : H → Option A) (o : Option A) (hs : List H) (spot : Spot) (key : List ℕ) (ms : Members)
    → is_some (get_member key ms) ≡ true
    → twice_if (passes (λ a. list_any (λ h. passes (λ b. same b a) (of h)) hs) o) spot key ms ≡ []
    → list_any (λ h. shares same o (of h)) hs ≡ false
twice_none same of o hs spot key ms there none =
    none_shares same of o hs (value-none (passes (λ a. list_any (λ h. passes (λ b. same b a) (of h)) hs) o) Twice spot key ms there none)

-- what is made of these has no part that is what another has
all_differ : {A H V : Type 0} (same : A → A → Bool) → ((a : A) → same a a ≡ true)
    → (of : H → Option A) (make : H → V) (part : V → A) (P : H → Type 0) (o : Option A) (d x : A)
    → is_some o ≡ true
    → x ≡ unwrap_or o d
    → ((h : H) → P h → is_some (of h) ≡ true)
    → ((h : H) → part (make h) ≡ unwrap_or (of h) d)
    → (hs : List H)
    → AllByRecursion P hs
    → list_any (λ h. shares same o (of h)) hs ≡ false
    → AllByRecursion (λ v. x ≢ part v) (map make hs)
all_differ same itself of make part P o d x there is has made [] a none = tt
all_differ same itself of make part P o d x there is has made (h ∷ hs) a none =
    let both = or_parts (shares same o (of h)) (list_any (λ h. shares same o (of h)) hs) none in
    let here : x ≢ part (make h) = λ e. both_ways _ both.0 (shared same itself o (of h) d there (has h a.0) (sym is ∙ e ∙ made h)) in
    (here, all_differ same itself of make part P o d x there is has made hs a.1 both.1)

bytes_itself : (a : List ℕ) → bytes_eq a a ≡ true
bytes_itself a = (bytes_eq-Decides a a).1 refl

identity_itself : (a : PortIdentity) → same_identity a a ≡ true
identity_itself a = and_from (same_clock a.clock a.clock) (a.port == a.port) (same_clock-refl a.clock) ((Decides-eqb a.port a.port).1 refl)

-- ---- no marks of the parts

pub repeat-parts : (cs : List ClockHeadValue) (ss : List SessionHeadValue) (es : List EndHeadValue) → repeat_marks cs ss es ≡ []
    → (each_after clock_repeats [] cs ≡ []) × (each_after (session_repeats cs) [] ss ≡ []) × (each_after end_repeats [] es ≡ [])
unfolding repeat_marks
repeat-parts cs ss es h =
    let cut = append-none (each_after clock_repeats [] cs ++ each_after (session_repeats cs) [] ss) (each_after end_repeats [] es) h in
    let first = append-none (each_after clock_repeats [] cs) (each_after (session_repeats cs) [] ss) cut.0 in
    (first.0, first.1, cut.1)

-- of ports, the name and the identity
pub clock-parts : (before : List ClockHeadValue) (c : ClockHeadValue) → clock_repeats before c ≡ []
    → (each_after (port_repeats c.number) [] (items_at (codes "port") c.table) ≡ [])
    × (twice_if (passes (is_clock_name before) c.name) c.spot (codes "name") c.table ≡ [])
    × (twice_if (passes (is_clock_identity before) c.identity) c.spot (codes "identity") c.table ≡ [])
unfolding clock_repeats
clock-parts before c h =
    let ports = each_after (port_repeats c.number) [] (items_at (codes "port") c.table) in
    let name = twice_if (passes (is_clock_name before) c.name) c.spot (codes "name") c.table in
    let identity = twice_if (passes (is_clock_identity before) c.identity) c.spot (codes "identity") c.table in
    let cut = append-none (ports ++ name) identity h in
    let first = append-none ports name cut.0 in
    (first.0, first.1, cut.1)

-- of a clock's name, of a session's, of a clock's identity and of a session's
session_parts : (cs : List ClockHeadValue) (before : List SessionHeadValue) (s : SessionHeadValue) → session_repeats cs before s ≡ []
    → (twice_if (passes (is_clock_name cs) s.name) s.spot (codes "name") s.table ≡ [])
    × (twice_if (passes (is_session_name before) s.name) s.spot (codes "name") s.table ≡ [])
    × (twice_if (passes (is_clock_identity cs) (option_map (λ i. i.clock) s.identity)) s.spot (codes "identity") s.table ≡ [])
    × (twice_if (passes (is_session_identity before) s.identity) s.spot (codes "identity") s.table ≡ [])
unfolding session_repeats
session_parts cs before s h =
    let clock_name = twice_if (passes (is_clock_name cs) s.name) s.spot (codes "name") s.table in
    let name = twice_if (passes (is_session_name before) s.name) s.spot (codes "name") s.table in
    let clock = twice_if (passes (is_clock_identity cs) (option_map (λ i. i.clock) s.identity)) s.spot (codes "identity") s.table in
    let identity = twice_if (passes (is_session_identity before) s.identity) s.spot (codes "identity") s.table in
    let cut = append-none (clock_name ++ name ++ clock) identity h in
    let more = append-none (clock_name ++ name) clock cut.0 in
    let first = append-none clock_name name more.0 in
    (first.0, first.1, more.1, cut.1)

-- ---- clocks

clock_name_once : (before : List ClockHeadValue) (c : ClockHeadValue) → SoundClock c → clock_repeats before c ≡ []
    → list_any (λ b. shares bytes_eq c.name b.name) before ≡ false
clock_name_once before c k h =
    twice_none bytes_eq (λ b. b.name) c.name before c.spot (codes "name") c.table (key-there clock_rules c.table (codes "name") k.keeps refl)
    (clock-parts before c h).1

clock_identity_once : (before : List ClockHeadValue) (c : ClockHeadValue) → SoundClock c → clock_repeats before c ≡ []
    → list_any (λ b. shares same_clock c.identity b.identity) before ≡ false
clock_identity_once before c k h =
    twice_none same_clock (λ b. b.identity) c.identity before c.spot (codes "identity") c.table
    (key-there clock_rules c.table (codes "identity") k.keeps refl) (clock-parts before c h).2

pub clock-names : (cs : List ClockHeadValue) → AllByRecursion SoundClock cs → each_after clock_repeats [] cs ≡ []
    → AreDistinct (λ c. c.name) (map clock_of cs)
unfolding clock_of
clock-names = distinct-made clock_repeats (λ c b. shares bytes_eq c.name b.name) SoundClock clock_of (λ v. v.name) clock_name_once
    (λ x y k l. shared bytes_eq bytes_itself x.name y.name [] (ap is_some k.name_is) (ap is_some l.name_is))

pub clock-identities : (cs : List ClockHeadValue) → AllByRecursion SoundClock cs → each_after clock_repeats [] cs ≡ []
    → AreDistinct (λ c. c.start.identity) (map clock_of cs)
unfolding clock_of clock_over
clock-identities =
    distinct-made clock_repeats (λ c b. shares same_clock c.identity b.identity) SoundClock clock_of (λ v. v.start.identity) clock_identity_once
    (λ x y k l. shared same_clock same_clock-refl x.identity y.identity some_clock (ap is_some k.identity_is) (ap is_some l.identity_is))

-- ---- sessions

session_name_once : (cs : List ClockHeadValue) (before : List SessionHeadValue) (s : SessionHeadValue) → SoundSession s
    → session_repeats cs before s ≡ []
    → list_any (λ b. shares bytes_eq s.name b.name) before ≡ false
session_name_once cs before s k h =
    twice_none bytes_eq (λ b. b.name) s.name before s.spot (codes "name") s.table (key-there session_rules s.table (codes "name") k.keeps refl)
    (session_parts cs before s h).1

session_identity_once : (cs : List ClockHeadValue) (before : List SessionHeadValue) (s : SessionHeadValue) → SoundSession s
    → session_repeats cs before s ≡ []
    → list_any (λ b. shares same_identity s.identity b.identity) before ≡ false
session_identity_once cs before s k h =
    twice_none same_identity (λ b. b.identity) s.identity before s.spot (codes "identity") s.table
    (key-there session_rules s.table (codes "identity") k.keeps refl) (session_parts cs before s h).3

pub session-names : (cs : List ClockHeadValue) (ss : List SessionHeadValue) → AllByRecursion SoundSession ss
    → each_after (session_repeats cs) [] ss ≡ []
    → AreDistinct (λ s. s.name) (map (session_of cs) ss)
unfolding session_of
session-names cs =
    distinct-made (session_repeats cs) (λ s b. shares bytes_eq s.name b.name) SoundSession (session_of cs) (λ v. v.name) (session_name_once cs)
    (λ x y k l. shared bytes_eq bytes_itself x.name y.name [] (ap is_some k.name_is) (ap is_some l.name_is))

pub session-identities : (cs : List ClockHeadValue) (ss : List SessionHeadValue) → AllByRecursion SoundSession ss
    → each_after (session_repeats cs) [] ss ≡ []
    → AreDistinct (λ s. s.identity) (map (session_of cs) ss)
unfolding session_of
session-identities cs =
    distinct-made (session_repeats cs) (λ s b. shares same_identity s.identity b.identity) SoundSession (session_of cs) (λ v. v.identity)
    (session_identity_once cs)
    (λ x y k l. shared same_identity identity_itself x.identity y.identity some_port (ap is_some k.identity_is) (ap is_some l.identity_is))

-- ---- a session and the clocks

no_name : (cs : List ClockHeadValue) (before : List SessionHeadValue) (s : SessionHeadValue) → AllByRecursion SoundClock cs → SoundSession s
    → session_repeats cs before s ≡ []
    → AllByRecursion (λ c. (session_of cs s).name ≢ c.name) (map clock_of cs)
unfolding session_of clock_of
no_name cs before s a k h =
    all_differ bytes_eq bytes_itself (λ c. c.name) clock_of (λ v. v.name) SoundClock s.name [] (unwrap_or s.name []) (ap is_some k.name_is) refl
    (λ c l. ap is_some l.name_is) (λ c. refl) cs a
    (twice_none bytes_eq (λ c. c.name) s.name cs s.spot (codes "name") s.table (key-there session_rules s.table (codes "name") k.keeps refl)
    (session_parts cs before s h).0)

clock_or : (o : Option PortIdentity) → (unwrap_or o some_port).clock ≡ unwrap_or (option_map (λ i. i.clock) o) some_clock
clock_or None = refl
clock_or (Some i) = refl

no_identity : (cs : List ClockHeadValue) (before : List SessionHeadValue) (s : SessionHeadValue) → AllByRecursion SoundClock cs → SoundSession s
    → session_repeats cs before s ≡ []
    → AllByRecursion (λ c. (session_of cs s).identity.clock ≢ c.start.identity) (map clock_of cs)
unfolding session_of clock_of clock_over
no_identity cs before s a k h =
    all_differ same_clock same_clock-refl (λ c. c.identity) clock_of (λ v. v.start.identity) SoundClock (option_map (λ i. i.clock) s.identity)
    some_clock (unwrap_or s.identity some_port).clock (ap (λ o. is_some (option_map (λ i. i.clock) o)) k.identity_is) (clock_or s.identity)
    (λ c l. ap is_some l.identity_is) (λ c. refl) cs a
    (twice_none same_clock (λ c. c.identity) (option_map (λ i. i.clock) s.identity) cs s.spot (codes "identity") s.table
    (key-there session_rules s.table (codes "identity") k.keeps refl) (session_parts cs before s h).2)

pub no-clock-name : (cs : List ClockHeadValue) (ss : List SessionHeadValue) → AllByRecursion SoundClock cs → AllByRecursion SoundSession ss
    → each_after (session_repeats cs) [] ss ≡ []
    → AllByRecursion (λ s. AllByRecursion (λ c. s.name ≢ c.name) (map clock_of cs)) (map (session_of cs) ss)
no-clock-name cs ss a b h =
    all-map (session_of cs) _ (λ s. AllByRecursion (λ c. s.name ≢ c.name) (map clock_of cs)) (λ s none. none) ss
    (all-both _ _ _ (λ s k none. no_name cs none.0 s a k none.1) ss b (after-none (session_repeats cs) [] ss h))

pub no-clock-identity : (cs : List ClockHeadValue) (ss : List SessionHeadValue) → AllByRecursion SoundClock cs → AllByRecursion SoundSession ss
    → each_after (session_repeats cs) [] ss ≡ []
    → AllByRecursion (λ s. AllByRecursion (λ c. s.identity.clock ≢ c.start.identity) (map clock_of cs)) (map (session_of cs) ss)
no-clock-identity cs ss a b h =
    all-map (session_of cs) _ (λ s. AllByRecursion (λ c. s.identity.clock ≢ c.start.identity) (map clock_of cs)) (λ s none. none) ss
    (all-both _ _ _ (λ s k none. no_identity cs none.0 s a k none.1) ss b (after-none (session_repeats cs) [] ss h))
