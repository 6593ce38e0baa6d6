-- What is found in a world by its name or number, what its frames belong to, and what its reports are worth.
use Rattle.ptpm_world.proofs.Common.{suc, zero, arith, ◌≡◌, ℕ, ◌+◌, ◌-◌, ◌<◌, Bool, not, if◌then◌else◌, nat_lt, List, [], ◌∷◌, Option, Some, None, refl, ap, length, map, All, IfNone, IfSome, bytes_eq, find, position, slice_get, position_or_len, prefix_len, cases_Bool, cond-true, cond-false, prefix_len-le-length, get_or_from_slice_get, same_Some, slice_get_past, slice_get_within, frame_at, Held, Frames, IsOfSession, IsStoredFrame, held_in, origin_of, place_in, sym, ◌∙◌, subst, slice_get-map, HasPort, Stored, World, RunningClock, described_end, IsThere, port_counts, frame_in, ◌≤◌, true, false, ⊎_elim, Contains, IsSome, is_some, option_map, slice_index_or, ◌↔◌, eqb-false, eqb-true, false≢true, length-map, RunningNetwork, is_late_held, Report, StandsAfter, run, Network, initial_state, RunningSession, IsOf, reports_of, running, state_of}
use Rattle.std.proofs.lemmas.Bool.Decides.{nat_tests}
use Rattle.std.proofs.lemmas.List.Folds.{find_at}
use Rattle.ptpm_world.specs.declared.frames.Origin.{Origin}
use Rattle.ptpm_script.specs.declared.network.End.{End}
use Rattle.std.proofs.lemmas.Slice.Eq.{bytes_eq-Decides}
use Rattle.ptpm_agent.specs.Once.{applied_once, initial_history}
use Rattle.ptpm_network.specs.Machine.{state_after}
use Rattle.ptpm_network.specs.State.{copies_at}
use Rattle.ptpm_network.specs.Worth.{IsWorth}
use Rattle.ptpm_network.proofs.Promise.{stands-headline}
use Rattle.ptpm_network.proofs.Reporting.{index-after, worth-after}
use Rattle.ptpm_network.specs.Network as machine
use Rattle.ptpm_script.specs.declared.network.End.TheVariants as ends
use Rattle.ptpm_network.specs.Events as events

-- ---- what is found in a world by its name, and what its frames belong to

-- ---- by names

prefix_len-map : {X Y : Type 0} (p : Y → Bool) (f : X → Y) (xs : List X)
    → prefix_len p (map f xs) ≡ prefix_len (λ x. p (f x)) xs
prefix_len-map p f [] = refl
prefix_len-map p f (x ∷ xs) = ap (λ n. if p (f x) then 1 + n else 0) (prefix_len-map p f xs)

-- the place among the names is the place among what has them
place-map : {X : Type 0} (name_of : X → List ℕ) (xs : List X) (name : List ℕ)
    → place_in (map name_of xs) name ≡ position_or_len (λ x. bytes_eq (name_of x) name) xs
place-map name_of xs name = prefix_len-map (λ n. not (bytes_eq n name)) name_of xs

cut_some : (n m i : ℕ) → Some i ≡ (if nat_lt n m then Some n else None) → (i ≡ n) × (i < m)
cut_some n m i e = grind (arith, nat_lt, same_Some, cond-true, nat_tests, cond-false, cases_Bool)

pub found_clause : {X : Type 0} (name_of : X → List ℕ) (xs : List X) (name : List ℕ) (r : Option ℕ)
    → r ≡ position (λ x. bytes_eq (name_of x) name) xs
    → IfSome r (λ i. (i ≡ place_in (map name_of xs) name) × (i < length xs))
found_clause name_of xs name (Some i) e = grind (arith, cut_some, place-map)
found_clause name_of xs name None e = tt

pub none_clause : {X : Type 0} (name_of : X → List ℕ) (xs : List X) (name : List ℕ) (r : Option ℕ)
    → r ≡ position (λ x. bytes_eq (name_of x) name) xs
    → IfNone r (place_in (map name_of xs) name ≡ length xs)
none_clause name_of xs name (Some i) e = tt
none_clause name_of xs name None e = grind (arith, place-map, prefix_len-le-length, cond-true, nat_tests, cases_Bool)

-- what is at the place of a name is the first that has it
pub at_name : {X : Type 0} (name_of : X → List ℕ) (xs : List X) (name : List ℕ) (i : ℕ) (x : X)
    → i ≡ place_in (map name_of xs) name
    → slice_get xs i ≡ Some x
    → find (λ y. bytes_eq (name_of y) name) xs ≡ Some x
at_name name_of xs name i x e at = grind (arith, find_at, slice_get, place-map)

pub of_no_name : {X : Type 0} (name_of : X → List ℕ) (xs : List X) (name : List ℕ)
    → place_in (map name_of xs) name ≡ length xs → find (λ y. bytes_eq (name_of y) name) xs ≡ None
of_no_name name_of xs name e = grind (arith, find_at, slice_get, place-map, slice_get_past)

-- ---- frames

pub made_at : {X Y : Type 0} (make : X → Y) (xs : List X) (i : ℕ) (y : Y)
    → slice_get (map make xs) i ≡ Some y
    → (x : X) × (slice_get xs i ≡ Some x) × (make x ≡ y)
made_at make [] i y e = absurd (cc)
made_at make (x ∷ xs) zero y e = (x, refl, same_Some (make x) y e)
made_at make (x ∷ xs) (suc i) y e = made_at make xs i y e

pub held_there : (frames : List Held) (n : ℕ) (h : Held)
    → frame_at frames n ≡ Some h
    → slice_get frames (n - 1) ≡ Some h
held_there frames n h e = grind (arith, cond-true, cond-false, cases_Bool)

-- what a frame of the store belongs to
pub origin_there : (counts : List ℕ) (sessions : ℕ) (frames : Frames) (n : ℕ) (h : Held)
    (o : Origin)
    → All (IsStoredFrame counts sessions) frames.stored.items
    → frame_at (held_in frames) n ≡ Some h
    → h.origin ≡ origin_of o
    → IsOfSession sessions o
origin_there counts sessions frames n h o all e same = grind (arith, made_at, held_there, slice_get_within, get_or_from_slice_get)

-- ---- a frame of a world has an end that is there, and belongs to a session that is there

-- what is stored as a held frame
stored_as : (f : Frames) (counts : List ℕ) (sessions : ℕ) (n : ℕ) (h : Held)
    → All (IsStoredFrame counts sessions) f.stored.items
    → frame_at (held_in f) n ≡ Some h
    → (s : Stored) × IsThere counts sessions s.end × (described_end s.end ≡ h.end)
stored_as f counts sessions n h all e =
    let s = made_at (frame_in f.octets.items) f.stored.items (n - 1) h (held_there (held_in f) n h e) in
    let is = subst (IsStoredFrame counts sessions) (get_or_from_slice_get f.stored.items (n - 1) s.0 s.0 s.1) (all (n - 1) s.0 (slice_get_within f.stored.items (n - 1) s.0 s.1)) in
    (s.0, is.end, ap (λ (x : Held). x.end) s.2)

-- ---- at a clock

-- a place of the clocks, and a port of the clock there
pub record IsPort (clocks : List RunningClock) (place port : ℕ) : Type 0 where
  pub within : place < length clocks
  pub has : (x : RunningClock) → slice_get clocks place ≡ Some x → HasPort port x.agent.sets

-- ---- at a session

session_at : (counts : List ℕ) (sessions : ℕ) (e : End) (place : ℕ)
    → described_end e ≡ machine.AtSession place
    → IsThere counts sessions e
    → place < sessions
session_at counts sessions (ends.Clock c p) place e there = absurd (cc)
session_at counts sessions (ends.Session s) place e there = grind arith

-- ---- a frame of a world

-- it comes in at a port of a clock, and belongs to a session that is there
pub record IsAtClock (w : World) (place port : ℕ) (origin : Origin) (h : Held) : Type 0 where
  pub end : h.end ≡ machine.AtPort place port
  pub origin_is : h.origin ≡ origin_of origin
  pub there : IsPort w.clocks.items place port
  pub session : IsOfSession (length w.sessions.items) origin

pub at_clock : (w : World) (n place port : ℕ) (origin : Origin) (h : Held)
    → frame_at (held_in w.frames) n ≡ Some h
    → h.end ≡ machine.AtPort place port
    → h.origin ≡ origin_of origin
    → IsAtClock w place port origin h
at_clock w n place port origin h e end same =
    let counts = port_counts w.clocks.items in
    let stored = stored_as w.frames counts (length w.sessions.items) n h w.frames_there e in
    record {
      end = end;
      origin_is = same;
      there = grind (arith, slice_get-map, slice_get_within);
      session = origin_there counts (length w.sessions.items) w.frames n h origin w.frames_there e same;
    }

pub at_session : (w : World) (n place : ℕ) (h : Held)
    → frame_at (held_in w.frames) n ≡ Some h
    → h.end ≡ machine.AtSession place
    → place < length w.sessions.items
at_session w n place h e end =
    let counts = port_counts w.clocks.items in
    let stored = stored_as w.frames counts (length w.sessions.items) n h w.frames_there e in
    session_at counts (length w.sessions.items) stored.0.end place (stored.2 ∙ end) stored.1

-- ---- octets as they were lent

abbrev pub with_octets : Held → List ℕ → Held
with_octets h octets = record h { octets = octets }

pub lent_octets : (o : Option Held) (h : Held) (octets : List ℕ)
    → Some h ≡ o
    → octets ≡ h.octets
    → o ≡ Some (with_octets h octets)
lent_octets o h octets e same = sym e ∙ ap (λ (os : List ℕ). Some (with_octets h os)) (sym same)

-- ---- the place of a name, and the number of a frame

-- ---- names

place-here : (n : List ℕ) (ns : List (List ℕ)) (name : List ℕ)
    → bytes_eq n name ≡ true
    → place_in (n ∷ ns) name ≡ 0
place-here n ns name e = ap (λ b. if not b then 1 + place_in ns name else 0) e

place-later : (n : List ℕ) (ns : List (List ℕ)) (name : List ℕ)
    → bytes_eq n name ≡ false
    → place_in (n ∷ ns) name ≡ 1 + place_in ns name
place-later n ns name e = ap (λ b. if not b then 1 + place_in ns name else 0) e

pub contains-place : (names : List (List ℕ)) (name : List ℕ)
    → place_in names name < length names
    → Contains names name
contains-place [] name h = absurd (omega (arith, h))
contains-place (n ∷ ns) name h = ⊎_elim
    (λ (y : bytes_eq n name ≡ true). (0, omega arith, (bytes_eq-Decides n name).0 y))
    (λ (o : bytes_eq n name ≡ false).
    let rest = contains-place ns name (omega (arith, h, place-later n ns name o)) in
    (suc rest.0, omega (arith, rest.1), rest.2))
    (cases_Bool (bytes_eq n name))

pub place-contained : (names : List (List ℕ)) (name : List ℕ) (k : ℕ)
    → k < length names
    → slice_index_or names k name ≡ name
    → place_in names name < length names
place-contained [] name k h e = absurd (omega (arith, h))
place-contained (n ∷ ns) name zero h e = omega (arith, place-here n ns name ((bytes_eq-Decides n name).1 e))
place-contained (n ∷ ns) name (suc k) h e = ⊎_elim
    (λ (y : bytes_eq n name ≡ true). omega (arith, place-here n ns name y))
    (λ (o : bytes_eq n name ≡ false). omega (arith, place-later n ns name o, place-contained ns name k (omega (arith, h)) e))
    (cases_Bool (bytes_eq n name))

pub known-found : {X : Type 0} (name_of : X → List ℕ) (xs : List X) (name : List ℕ) (i : ℕ)
    → i ≡ place_in (map name_of xs) name
    → i < length xs
    → (true ≡ true) ↔ Contains (map name_of xs) name
known-found name_of xs name i e within = grind (arith, contains-place, length-map)

pub unknown-name : {X : Type 0} (name_of : X → List ℕ) (xs : List X) (name : List ℕ)
    → place_in (map name_of xs) name ≡ length xs
    → (false ≡ true) ↔ Contains (map name_of xs) name
unknown-name name_of xs name e = grind (arith, false≢true, place-contained, length-map)

-- ---- numbers of frames

some-within : {X : Type 0} (xs : List X) (i : ℕ) → is_some (slice_get xs i) ≡ true → i < length xs
some-within [] i e = absurd (false≢true e)
some-within (x ∷ xs) zero e = omega arith
some-within (x ∷ xs) (suc i) e = omega (arith, some-within xs i e)

within-some : {X : Type 0} (xs : List X) (i : ℕ) → i < length xs → is_some (slice_get xs i) ≡ true
within-some [] i h = absurd (omega (arith, h))
within-some (x ∷ xs) zero h = refl
within-some (x ∷ xs) (suc i) h = within-some xs i (omega (arith, h))

some-held : (frames : List Held) (n : ℕ)
    → is_some (frame_at frames n) ≡ true
    → (1 ≤ n) × (n ≤ length frames)
some-held frames n e = grind (arith, false≢true, is_some, cond-true, eqb-false, some-within, cond-false, cases_Bool)

some-mapped : {T : Type 0} (view : T → Held) (o : Option T)
    → is_some (option_map view o) ≡ is_some o
some-mapped view None = refl
some-mapped view (Some t) = refl

pub known-frame : {T : Type 0} (view : T → Held) (o : Option T) (frames : List Held) (n : ℕ)
    → option_map view o ≡ frame_at frames n
    → IsSome o ↔ ((1 ≤ n) × (n ≤ length frames))
known-frame view o frames n e = grind (arith, some-mapped, some-held, eqb-true, cond-false, within-some, cases_Bool)

-- what is late is there
late-some : (r : RunningNetwork) (o : Option Held) → is_late_held r o ≡ true → is_some o ≡ true
late-some r None e = absurd (false≢true e)
late-some r (Some h) e = refl

pub late-there : (r : RunningNetwork) (n : ℕ)
    → is_late_held r (frame_at r.frames n) ≡ true
    → (1 ≤ n) × (n ≤ length r.frames)
late-there r n e = some-held r.frames n (late-some r (frame_at r.frames n) e)

-- ---- what the reports that a world shows are worth, and its data sets

-- a report of the session at a place
pub worth-shown : (N : Network) (past : List events.Event) (w : World) (s : ℕ) (x : RunningSession)
    → IsOf N w
    → StandsAfter N past (running w)
    → slice_get w.sessions.items s ≡ Some x
    → (i : ℕ) (report : Report)
    → slice_get x.reports.items i ≡ Some report
    → (report.index ≡ i + 1) × IsWorth N (run N (initial_state N) past) s report
worth-shown N past w s x is at there i report e =
    let place : s < N.sessions = grind (arith, slice_get_within) in
    let shown : slice_get ((running w).reports s) i ≡ Some report = ap (λ o. slice_get (reports_of o) i) there ∙ e in
    (index-after N past (running w) s i report at place shown, worth-after N past (running w) s i report at place shown)

-- the data sets of the clock at a place
pub sets-shown : (N : Network) (past : List events.Event) (w : World) (c : ℕ) (x : RunningClock)
    → IsOf N w
    → StandsAfter N past (running w)
    → slice_get w.clocks.items c ≡ Some x
    → x.agent.sets
    ≡ (applied_once (N.clock c) (initial_history (N.start c)) (copies_at N (state_after N past) c)).sets
sets-shown N past w c x is at there =
    let place : c < N.clocks = grind (arith, slice_get_within) in
    sym (ap (λ o. (state_of o).sets) there) ∙ (stands-headline N past (running w) at).sets c place
