-- What becomes of a world if one session or one clock of it has changed, and frames were added.
use Rattle.ptpm_world.proofs.Common.{arith, ◌≡◌, ℕ, ◌<◌, ◌==◌, zero, suc, List, [], ◌∷◌, ◌++◌, ◌+◌, get_or, drop, take, Option, Some, true, false, refl, sym, ◌∙◌, ap, ⊎_elim, length, cases_Bool, eqb-true, eqb-false, cond-true, cond-false, append_assoc, map-append, take-append-drop, take_more, same_Some, map, slice_get, slice_set, with_place, ◌≤◌, length-set, All, NetworkLink, Stored, World, RunningClock, RunningSession, AreLinks, IsStoredFrame, port_counts, State, Report, SessionValue, Network, Held, RunningNetwork, held_in, link_ends, Names, names_in, IsClockOf, IsOf, agent_clock, agent_state, reports_of, running, session_of, state_of}
use Rattle.ptpm_world.specs.Running.{IsSessionOf}

-- ---- lists in which one element is written over, place by place

pub get-set_same : {X : Type 0} (xs : List X) (i : ℕ) (x y : X)
    → slice_get xs i ≡ Some x
    → slice_get (slice_set xs i y) i ≡ Some y
get-set_same [] i x y e = absurd (cc)
get-set_same (z ∷ xs) zero x y e = refl
get-set_same (z ∷ xs) (suc i) x y e = get-set_same xs i x y e

pub get-set_other : {X : Type 0} (xs : List X) (i j : ℕ) (y : X)
    → (j ≡ i → ⊥)
    → slice_get (slice_set xs i y) j ≡ slice_get xs j
get-set_other [] i j y ne = refl
get-set_other (z ∷ xs) zero zero y ne = absurd (ne refl)
get-set_other (z ∷ xs) zero (suc j) y ne = refl
get-set_other (z ∷ xs) (suc i) zero y ne = refl
get-set_other (z ∷ xs) (suc i) (suc j) y ne = get-set_other xs i j y (λ e. ne (ap (λ k. suc k) e))

-- what is read of each place: the new element at its place, and as before elsewhere
pub read-set : {X A : Type 0} (read : Option X → A) (xs : List X) (i : ℕ) (x y : X)
    → slice_get xs i ≡ Some x
    → (j : ℕ)
    → read (slice_get (slice_set xs i y) j)
    ≡ with_place (λ k. read (slice_get xs k)) i (read (Some y)) j
read-set read xs i x y e j = ⊎_elim
    (λ (here : j == i ≡ true). grind (arith, eqb-true, get-set_same, cond-true))
    (λ (away : j == i ≡ false). grind (arith, get-set_other, eqb-false, cond-false))
    (cases_Bool (j == i))

-- the same if nothing is read anew
pub read-kept : {X A : Type 0} (read : Option X → A) (xs : List X) (i : ℕ) (x y : X)
    → slice_get xs i ≡ Some x
    → read (Some y) ≡ read (Some x)
    → (j : ℕ)
    → read (slice_get (slice_set xs i y) j) ≡ read (slice_get xs j)
read-kept read xs i x y e same j = grind (arith, slice_get, slice_set, eqb-true, get-set_same, get-set_other, eqb-false, cases_Bool)

-- what is made of each element stays if it is the same of the new one
pub map-set_same : {X A : Type 0} (make : X → A) (xs : List X) (i : ℕ) (x y : X)
    → slice_get xs i ≡ Some x
    → make y ≡ make x
    → map make (slice_set xs i y) ≡ map make xs
map-set_same make [] i x y e same = refl
map-set_same make (z ∷ xs) zero x y e same = ap (λ a. a ∷ map make xs) (same ∙ sym (ap make (same_Some z x e)))
map-set_same make (z ∷ xs) (suc i) x y e same = ap (λ as'. make z ∷ as') (map-set_same make xs i x y e same)

-- what holds of each element at its place
pub each-set : {X : Type 0} (P : ℕ → X → Type 0) (xs : List X) (i : ℕ) (x y : X)
    → slice_get xs i ≡ Some x
    → ((j : ℕ) (z : X) → slice_get xs j ≡ Some z → P j z)
    → P i y
    → (j : ℕ) (z : X)
    → slice_get (slice_set xs i y) j ≡ Some z
    → P j z
each-set P xs i x y e each new j z at = grind (arith, eqb-true, same_Some, get-set_same, slice_get, slice_set, get-set_other, eqb-false, cases_Bool)

-- what is made of the elements up to a place, and of the one at it
pub map_more : {X A : Type 0} (view : X → A) (entries : List X) (i : ℕ) (e : X)
    → i < length entries
    → e ≡ get_or entries i e
    → map view (take (i + 1) entries) ≡ map view (take i entries) ++ view e ∷ []
map_more view entries i e h is =
    ap (map view) (take_more entries i e h) ∙ map-append view (take i entries) (get_or entries i e ∷ []) ∙ sym (ap (λ x. map view (take i entries) ++ view x ∷ []) is)

-- what is made of all elements: of those before a place, of the one at it, and of the rest
pub map_split : {X A : Type 0} (view : X → A) (entries : List X) (i : ℕ) (e : X)
    → i < length entries
    → e ≡ get_or entries i e
    → map view entries ≡ map view (take i entries) ++ view e ∷ map view (drop (i + 1) entries)
map_split view entries i e h is =
    let rest = map view (drop (i + 1) entries) in
    ap (map view) (sym (take-append-drop (i + 1) entries))
    ∙ map-append view (take (i + 1) entries) (drop (i + 1) entries)
    ∙ ap (λ front. front ++ rest) (map_more view entries i e h is)
    ∙ append_assoc (map view (take i entries)) (view e ∷ []) rest

-- ---- what holds of every world holds if one session or one clock is another, and frames were added

-- the facts of a world, by its parts
pub record AreParts (clocks : List RunningClock) (sessions : List RunningSession) (links : List NetworkLink) (stored : List Stored) : Type 0 where
  pub few_clocks : length clocks ≤ 64
  pub few_sessions : length sessions ≤ 256
  pub links_there : AreLinks (port_counts clocks) (length sessions) links
  pub frames_there : All (IsStoredFrame (port_counts clocks) (length sessions)) stored

pub kept-session : (w : World) (place : ℕ) (y : RunningSession) (stored : List Stored)
    → All (IsStoredFrame (port_counts w.clocks.items) (length w.sessions.items)) stored
    → AreParts w.clocks.items (slice_set w.sessions.items place y) w.links.items stored
kept-session w place y stored all = grind (arith, slice_set, length-set)

pub kept-clock : (w : World) (place : ℕ) (x y : RunningClock) (stored : List Stored)
    → slice_get w.clocks.items place ≡ Some x
    → length y.agent.sets.ports ≡ length x.agent.sets.ports
    → All (IsStoredFrame (port_counts w.clocks.items) (length w.sessions.items)) stored
    → AreParts (slice_set w.clocks.items place y) w.sessions.items w.links.items stored
kept-clock w place x y stored at ports all =
    let counts : port_counts w.clocks.items ≡ port_counts (slice_set w.clocks.items place y) = grind (arith, map-set_same) in grind (arith, length-set)

-- a world is a running network if each part is
pub seen_as : (w : World) (r : RunningNetwork)
    → ((c : ℕ) → state_of (slice_get w.clocks.items c) ≡ r.clock c)
    → ((s : ℕ) → session_of (slice_get w.sessions.items s) ≡ r.session s)
    → ((s : ℕ) → reports_of (slice_get w.sessions.items s) ≡ r.reports s)
    → held_in w.frames ≡ r.frames
    → running w ≡ r
seen_as w r clocks sessions reports frames = λ i. record { clock = λ c. clocks c i; session = λ s. sessions s i; reports = λ s. reports s i; frames = frames i }

-- what is seen of these clocks, sessions and frames
abbrev pub running_by : List RunningClock → List RunningSession → List Held → RunningNetwork
running_by clocks sessions frames = record {
  clock = λ c. state_of (slice_get clocks c);
  session = λ s. session_of (slice_get sessions s);
  reports = λ s. reports_of (slice_get sessions s);
  frames = frames;
}

-- names of clocks and sessions
abbrev pub names_with : List (List ℕ) → List (List ℕ) → Names
names_with clocks sessions = record { clocks = clocks; sessions = sessions }

abbrev pub names_by : List RunningClock → List RunningSession → Names
names_by clocks sessions = names_with (map (λ k. k.name) clocks) (map (λ k. k.name) sessions)

-- ---- a session

-- the session at a place is another, of the same name and identity
pub record SessionChange (old new : World) (place : ℕ) (x y : RunningSession) : Type 0 where
  pub at : slice_get old.sessions.items place ≡ Some x
  pub sessions : new.sessions.items ≡ slice_set old.sessions.items place y
  pub clocks : new.clocks.items ≡ old.clocks.items
  pub links : new.links.items ≡ old.links.items
  pub name : y.name ≡ x.name
  pub identity : y.identity ≡ x.identity

pub session_change-running : (old new : World) (place : ℕ) (x y : RunningSession)
    (value : SessionValue) (reports : List Report) (frames : List Held)
    → SessionChange old new place x y
    → y.session ≡ value → y.reports.items ≡ reports → held_in new.frames ≡ frames
    → running new ≡ record { clock = (running old).clock; session = with_place (running old).session place value; reports = with_place (running old).reports place reports; frames = frames }
session_change-running old new place x y value reports frames c v r f = seen_as new _
    (λ d. grind (arith))
    (λ s. ap (λ (xs : List RunningSession). session_of (slice_get xs s)) c.sessions ∙ read-set session_of old.sessions.items place x y c.at s
    ∙ ap (λ (z : SessionValue). with_place (λ k. session_of (slice_get old.sessions.items k)) place z s) v)
    (λ s. ap (λ (xs : List RunningSession). reports_of (slice_get xs s)) c.sessions ∙ read-set reports_of old.sessions.items place x y c.at s
    ∙ ap (λ (z : List Report). with_place (λ k. reports_of (slice_get old.sessions.items k)) place z s) r)
    f

-- a session that reports nothing more
pub session_change-quiet : (old new : World) (place : ℕ) (x y : RunningSession)
    (value : SessionValue) (frames : List Held)
    → SessionChange old new place x y
    → y.session ≡ value → y.reports.items ≡ x.reports.items → held_in new.frames ≡ frames
    → running new ≡ record { clock = (running old).clock; session = with_place (running old).session place value; reports = (running old).reports; frames = frames }
session_change-quiet old new place x y value frames c v r f = seen_as new _
    (λ d. grind (arith))
    (λ s. ap (λ (xs : List RunningSession). session_of (slice_get xs s)) c.sessions ∙ read-set session_of old.sessions.items place x y c.at s
    ∙ ap (λ (z : SessionValue). with_place (λ k. session_of (slice_get old.sessions.items k)) place z s) v)
    (λ s. ap (λ (xs : List RunningSession). reports_of (slice_get xs s)) c.sessions ∙ read-kept reports_of old.sessions.items place x y c.at r s)
    f

-- a session that stayed what it was
pub session_change-none : (old new : World) (place : ℕ) (x y : RunningSession)
    → SessionChange old new place x y
    → y.session ≡ x.session
    → y.reports.items ≡ x.reports.items
    → held_in new.frames ≡ held_in old.frames
    → running new ≡ running old
session_change-none old new place x y c v r f = seen_as new (running old)
    (λ d. grind (arith))
    (λ s. ap (λ (xs : List RunningSession). session_of (slice_get xs s)) c.sessions ∙ read-kept session_of old.sessions.items place x y c.at v s)
    (λ s. ap (λ (xs : List RunningSession). reports_of (slice_get xs s)) c.sessions ∙ read-kept reports_of old.sessions.items place x y c.at r s)
    f

-- the names of a world in which one session is another
pub names-session : (w : World) (place : ℕ) (x y : RunningSession)
    → slice_get w.sessions.items place ≡ Some x
    → y.name ≡ x.name
    → names_by w.clocks.items (slice_set w.sessions.items place y) ≡ names_in w
names-session w place x y at name = ap (λ names. names_with (map (λ k. k.name) w.clocks.items) names) (map-set_same (λ k. k.name) w.sessions.items place x y at name)

pub session_change-network : (N : Network) (old new : World) (place : ℕ) (x y : RunningSession)
    → SessionChange old new place x y
    → IsOf N old
    → IsOf N new
session_change-network N old new place x y c is = record {
  clock_count = ap length c.clocks ∙ is.clock_count;
  clocks = λ d k at. is.clocks d k (sym (ap (λ (xs : List RunningClock). slice_get xs d) c.clocks) ∙ at);
  session_count = grind (arith, length-set);
  sessions = λ s k at. each-set (IsSessionOf N) old.sessions.items place x y c.at is.sessions
      (record { identity = c.identity ∙ (is.sessions place x c.at).identity }) s k (sym (ap (λ (xs : List RunningSession). slice_get xs s) c.sessions) ∙ at);
  links = ap link_ends c.links ∙ is.links;
}

-- ---- a clock

-- the clock at a place is another, of the same name, identity, managers, rights and number of ports
pub record ClockChange (old new : World) (place : ℕ) (x y : RunningClock) : Type 0 where
  pub at : slice_get old.clocks.items place ≡ Some x
  pub clocks : new.clocks.items ≡ slice_set old.clocks.items place y
  pub sessions : new.sessions.items ≡ old.sessions.items
  pub links : new.links.items ≡ old.links.items
  pub name : y.name ≡ x.name
  pub clock : agent_clock y.agent ≡ agent_clock x.agent
  pub ports : length y.agent.sets.ports ≡ length x.agent.sets.ports

pub clock_change-running : (old new : World) (place : ℕ) (x y : RunningClock) (state : State)
    (frames : List Held)
    → ClockChange old new place x y
    → agent_state y.agent ≡ state → held_in new.frames ≡ frames
    → running new ≡ record { clock = with_place (running old).clock place state; session = (running old).session; reports = (running old).reports; frames = frames }
clock_change-running old new place x y state frames c v f = seen_as new _
    (λ d. ap (λ (xs : List RunningClock). state_of (slice_get xs d)) c.clocks ∙ read-set state_of old.clocks.items place x y c.at d
    ∙ ap (λ (z : State). with_place (λ k. state_of (slice_get old.clocks.items k)) place z d) v)
    (λ s. grind (arith))
    (λ s. grind (arith))
    f

pub names-clock : (w : World) (place : ℕ) (x y : RunningClock)
    → slice_get w.clocks.items place ≡ Some x
    → y.name ≡ x.name
    → names_by (slice_set w.clocks.items place y) w.sessions.items ≡ names_in w
names-clock w place x y at name = ap (λ names. names_with names (map (λ k. k.name) w.sessions.items)) (map-set_same (λ k. k.name) w.clocks.items place x y at name)

pub clock_change-network : (N : Network) (old new : World) (place : ℕ) (x y : RunningClock)
    → ClockChange old new place x y
    → IsOf N old
    → IsOf N new
clock_change-network N old new place x y c is = record {
  clock_count = grind (arith, length-set);
  clocks = λ d k at. each-set (IsClockOf N) old.clocks.items place x y c.at is.clocks
      (record { clock = c.clock ∙ (is.clocks place x c.at).clock; ports = c.ports ∙ (is.clocks place x c.at).ports }) d k (sym (ap (λ (xs : List RunningClock). slice_get xs d) c.clocks) ∙ at);
  session_count = ap length c.sessions ∙ is.session_count;
  sessions = grind (arith);
  links = ap link_ends c.links ∙ is.links;
}
