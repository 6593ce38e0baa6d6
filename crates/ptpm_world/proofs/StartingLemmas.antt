-- A world as it starts is one of its network, and is where the machine starts.
use Rattle.ptpm_world.proofs.Common.{suc, zero, arith, ◌≡◌, ℕ, ◌+◌, ◌<◌, ◌≤◌, ◌==◌, Bool, true, false, if◌then◌else◌, List, [], ◌∷◌, ◌++◌, Some, refl, ap, sym, ◌∙◌, subst, length, map, get_or, set, slice_get, slice_index_or, All, AllByRecursion, filter, length-map, length_push, length-filter, option_map, slice_get-map, slice_get_read, PortIdentity, every_clock, DataSetsValue, port_data_set, is_known, IsFresh, clock_with, has_twice, identities, StandsAt, initial_clock_state, Stands, RunningNetwork, initial_state, history, NetworkLink, AreDistinct, CanStart, ClockValue, IsAccepted, IsEndOf, IsLinkOf, NetworkValue, clock_value, first_sets, link_value, Frames, RunningClock, RunningSession, World, clock_at, configured, described, described_end, no_clock, session_at, with_rights, AreLinks, IsStoredFrame, IsThere, port_counts, held_in, link_ends, Names, names_of, IsOf, agent_state, reports_of, session_of, state_of, table_entries, AreStartedClocks, AreStartedSessions, IsStartedClock, IsStartedSession}
use Rattle.std.proofs.lemmas.Bool.{false_from_ne_true}
use Rattle.std.proofs.Math.Seq.{get_or-append_seam, set-append_seam}
use Rattle.ptpm_codec.specs.declared.identity.ClockIdentity.{ClockIdentity}
use Rattle.ptpm_data.proofs.OwnOctets.{some_at}
use Rattle.ptpm_data.specs.declared.rights.Rights.{Rights}
use Rattle.ptpm_table.specs.Slots as slots
use Rattle.ptpm_table.specs.Tables.{OfSixteen}
use Rattle.ptpm_manager.specs.Session as manager
use Rattle.ptpm_manager.specs.Setup.{AreTwoClocks}
use Rattle.ptpm_network.proofs.Exchanging.{clocks_apart}
use Rattle.ptpm_network.proofs.Lists.{all_get}
use Rattle.ptpm_network.proofs.Standing.{stands-initial_state}
use Rattle.ptpm_script.specs.declared.network.End.{End}
use Rattle.ptpm_script.specs.declared.network.End.TheVariants as ends
use Rattle.ptpm_script.specs.declared.network.NetworkClock.{NetworkClock}
use Rattle.ptpm_script.specs.declared.network.NetworkSession.{NetworkSession}
use Rattle.ptpm_script.specs.NetworkValue.{IsSessionOf}
use Rattle.ptpm_world.specs.Described.{no_session}
use Rattle.ptpm_world.specs.Ends.{IsLink}
use Rattle.ptpm_world.proofs.DescribedLaws.{at_place, known-place, of_place, there}

-- ---- lists

-- an element that was read by its index
pub read_at : {X : Type 0} (xs ys : List X) (i : ℕ) (x : X)
    → ys ≡ xs
    → i < length xs
    → x ≡ get_or ys i x
    → slice_get xs i ≡ Some x
read_at xs ys i x same h e = slice_get_read xs (length xs) i x refl h (e ∙ ap (λ zs. get_or zs i x) same)

-- what holds of each element at its place, with one more
pub made_more : {X : Type 0} (P : ℕ → X → Type 0) (xs : List X) (y : X) → P (length xs) y
    → ((i : ℕ) (x : X) → slice_get xs i ≡ Some x → P i x)
    → (i : ℕ) (x : X) → slice_get (xs ++ y ∷ []) i ≡ Some x → P i x
made_more P [] y new old zero x e = let q : y ≡ x = cc in subst (P zero) q new
made_more P [] y new old (suc i) x e = absurd (cc)
made_more P (z ∷ xs) y new old zero x e = old zero x e
made_more P (z ∷ xs) y new old (suc i) x e = made_more (λ k. P (suc k)) xs y new (λ k w h. old (suc k) w h) i x e

-- a list that is grown by what belongs to its next place
pub grown : {X : Type 0} (P : ℕ → X → Type 0) (xs ys : List X) (place : ℕ) (y : X)
    → ys ≡ xs ++ y ∷ []
    → length xs ≡ place
    → ((i : ℕ) (x : X) → slice_get xs i ≡ Some x → P i x) → P place y
    → (length ys ≡ place + 1) × ((i : ℕ) (x : X) → slice_get ys i ≡ Some x → P i x)
grown P xs ys place y e count old new =
    let more = ap length e in (
      omega (arith, more, length_push xs y, count),
      λ i x h. made_more P xs y (subst (λ k. P k y) (sym count) new) old i x (sym (ap (λ zs. slice_get zs i) e) ∙ h),
    )

pub pushed_on : {X : Type 0} (xs rs ys : List X) (x : X)
    → ys ≡ rs ++ x ∷ []
    → rs ≡ xs
    → ys ≡ xs ++ x ∷ []
pushed_on xs rs ys x e same = e ∙ ap (λ zs. zs ++ x ∷ []) same

-- the last of a list that was grown by one: how it is read, and the list with another in its place
pub is_last : {X : Type 0} (xs ys : List X) (i : ℕ) (x y : X)
    → ys ≡ xs ++ x ∷ []
    → i ≡ length xs
    → y ≡ get_or ys i y
    → y ≡ x
is_last xs ys i x y e at read = read ∙ (λ k. get_or (e k) (at k) y) ∙ get_or-append_seam xs x [] y

pub changed_last : {X : Type 0} (xs ys : List X) (i : ℕ) (x y : X)
    → ys ≡ xs ++ x ∷ []
    → i ≡ length xs
    → set ys i y ≡ xs ++ y ∷ []
changed_last xs ys i x y e at = (λ k. set (e k) (at k) y) ∙ set-append_seam xs x [] y

-- two lists in which the same is seen, place by place
same_maps : {X Y A : Type 0} (f : X → A) (g : Y → A) (xs : List X) (ys : List Y)
    → length xs ≡ length ys
    → ((i : ℕ) (x : X) (y : Y) → slice_get xs i ≡ Some x → slice_get ys i ≡ Some y → f x ≡ g y)
    → map f xs ≡ map g ys
same_maps f g [] [] n h = refl
same_maps f g [] (y ∷ ys) n h = absurd (omega (arith, n))
same_maps f g (x ∷ xs) [] n h = absurd (omega (arith, n))
same_maps f g (x ∷ xs) (y ∷ ys) n h =
    ap (λ a. a ∷ map f xs) (h zero x y refl refl)
    ∙ ap (λ more. g y ∷ more) (same_maps f g xs ys (omega (arith, n)) (λ i a b p q. h (suc i) a b p q))

all_unmade : {X Y : Type 0} (P : Y → Type 0) (f : X → Y) (xs : List X)
    → AllByRecursion P (map f xs)
    → AllByRecursion (λ x. P (f x)) xs
all_unmade P f [] a = tt
all_unmade P f (x ∷ xs) a = (a.0, all_unmade P f xs a.1)

all_places : {X : Type 0} (P Q : X → Type 0)
    → ((x : X) → P x → Q x)
    → (xs : List X)
    → AllByRecursion P xs
    → All Q xs
all_places P Q weaker xs all = λ k d h. weaker _ (of_place P xs k d all h)

-- ---- what a file says of a place

pub value_at : (clocks : List NetworkClock) (c : ℕ) (k : NetworkClock)
    → slice_get clocks c ≡ Some k
    → slice_get (map clock_value clocks) c ≡ Some (clock_value k)
value_at clocks c k e = slice_get-map clock_value clocks c ∙ ap (option_map clock_value) e

pub clock_is : (clocks : List NetworkClock) (c : ℕ) (k : NetworkClock) → slice_get clocks c ≡ Some k
    → slice_index_or (map clock_value clocks) c no_clock ≡ clock_value k
clock_is clocks c k e = at_place (map clock_value clocks) c (clock_value k) no_clock (value_at clocks c k e)

pub starts_at : (n : NetworkValue)
    → IsAccepted n
    → (c : ℕ) (k : ClockValue)
    → slice_get n.clocks c ≡ Some k
    → CanStart k
starts_at n facts c k e = all_get CanStart n.clocks c k facts.clocks e

pub session_at_clock : (n : NetworkValue)
    → IsAccepted n
    → (s : ℕ) (t : NetworkSession)
    → slice_get n.sessions s ≡ Some t
    → IsSessionOf n t
session_at_clock n facts s t e = all_get (IsSessionOf n) n.sessions s t facts.sessions e

pub two_clocks : (n : NetworkValue)
    → IsAccepted n
    → (t : NetworkSession) (k : ClockValue)
    → IsSessionOf n t
    → slice_get n.clocks t.target ≡ Some k → AreTwoClocks t.identity.clock k.start.identity
two_clocks n facts t k is e = record {
  me_is_one = clocks_apart t.identity.clock every_clock is.is_one;
  target_is_one = clocks_apart k.start.identity every_clock (starts_at n facts t.target k e).is_one;
  apart = grind (arith, clocks_apart, all_get);
}

-- ---- the managers of a clock

pub few_managers : (n : NetworkValue)
    → IsAccepted n
    → (c : ℕ)
    → length (configured n.sessions c) ≤ 16
few_managers n facts c =
    let counted = length-map (filter (λ s. s.target == c) n.sessions) with_rights ∙ length-filter (λ s. s.target == c) n.sessions in
    subst (λ k. k ≤ 16) (sym counted) (facts.managers c)

stands_once : (s : NetworkSession) (ss : List NetworkSession) (c : ℕ)
    → AreDistinct (λ t. t.identity) (s ∷ ss)
    → is_known s.identity (identities (configured ss c)) ≡ false
stands_once s ss c d = false_from_ne_true _ (λ k.
    let place = known-place ss s.identity c k in
    let same = d zero (suc place.0) s _ refl (there ss place.0 no_session place.1) (sym place.2) in
    omega (arith, same))

twice-more : (here : Bool) (s : NetworkSession) (ss : List NetworkSession)
    → is_known s.identity (identities (map with_rights ss)) ≡ false
    → has_twice (identities (map with_rights ss)) ≡ false
    → has_twice (identities (map with_rights (if here then s ∷ ss else ss))) ≡ false
twice-more true s ss once rest = rw (once, rest) refl
twice-more false s ss once rest = rest

pub none_twice : (ss : List NetworkSession) (c : ℕ)
    → AreDistinct (λ s. s.identity) ss
    → has_twice (identities (configured ss c)) ≡ false
none_twice [] c d = refl
none_twice (s ∷ ss) c d =
    twice-more (s.target == c) s (filter (λ t. t.target == c) ss) (stands_once s ss c d) (none_twice ss c (λ i j x y p q e. let same = d (suc i) (suc j) x y p q e in omega (arith, same)))

-- ---- one clock

-- the table of a fresh agent
abbrev IsFreshTable : ClockIdentity → List (PortIdentity × Rights) → OfSixteen → Type 0
IsFreshTable clock managers t =
    IsFresh clock managers (clock_with t.clock (slots.configured t.slots.items)) (table_entries t)

-- a clock that was put after the others without managers, and then given these
pub started_clock : (n : NetworkValue) (c : ℕ) (k : ClockValue)
    (managers : List (PortIdentity × Rights)) (sets : DataSetsValue) (put there x : RunningClock)
    → there ≡ put
    → clock_at n c ≡ k → managers ≡ configured n.sessions c → put.name ≡ k.name
    → sets ≡ first_sets k
    → put.agent.sets ≡ sets → IsFreshTable sets.default.identity [] put.agent.table
    → x.name ≡ there.name
    → x.agent.sets ≡ there.agent.sets
    → IsFreshTable there.agent.table.clock managers x.agent.table → IsStartedClock n c x
started_clock n c k managers sets put there x is at same name first put_sets unmanaged named kept given =
    let identity : there.agent.table.clock ≡ k.start.identity = grind (arith) in
    let sets_are : x.agent.sets ≡ first_sets k = grind (arith) in
    let state : agent_state x.agent ≡ initial_clock_state (first_sets k) = grind (arith) in grind (arith)

pub started_session : (n : NetworkValue) (s : ℕ) (t : NetworkSession) (k : ClockValue)
    (x : RunningSession)
    → session_at n s ≡ t → clock_at n t.target ≡ k → x.name ≡ t.name → x.identity ≡ t.identity
    → x.session ≡ manager.fresh
    (record { me = t.identity; target = k.start.identity; ports = length k.ports; first = t.first; hops = t.hops; attempts = t.attempts })
    t.domain
    → x.reports.items ≡ [] → IsStartedSession n s x
started_session n s t k x here target name identity session reports = record {
  name = name ∙ ap (λ (v : NetworkSession). v.name) (sym here);
  identity = grind (arith);
  session = grind (arith);
  reports = reports;
}

-- ---- ends and links

counts_are : (n : NetworkValue) (clocks : List RunningClock)
    → AreStartedClocks n clocks
    → port_counts clocks ≡ map (λ c. length c.ports) n.clocks
counts_are n clocks s = same_maps (λ (x : RunningClock). length x.agent.sets.ports) (λ (c : ClockValue). length c.ports) clocks n.clocks s.count
    (λ i x y p q.
    ap (λ t. length t.sets.ports) (s.each i x p).state
    ∙ length-map (clock_at n i).ports port_data_set
    ∙ ap (λ (c : ClockValue). length c.ports) (at_place n.clocks i y no_clock q))

end_there : (n : NetworkValue) (e : End)
    → IsEndOf n e
    → IsThere (map (λ c. length c.ports) n.clocks) (length n.sessions) e
end_there n (ends.Clock place port) is = (length is.0.ports, (slice_get-map (λ (c : ClockValue). length c.ports) n.clocks place ∙ ap (option_map (λ (c : ClockValue). length c.ports)) is.1, (is.2, is.3)))
end_there n (ends.Session place) is = is

pub are_links : (n : NetworkValue) (clocks : List RunningClock) (sessions : List RunningSession)
    (links : List NetworkLink)
    → IsAccepted n
    → AreStartedClocks n clocks → AreStartedSessions n sessions → map link_value links ≡ n.links
    → AreLinks (port_counts clocks) (length sessions) links
are_links n clocks sessions links facts c s same =
    let counts = map (λ (k : ClockValue). length k.ports) n.clocks in
    let all = all_unmade (IsLinkOf n) link_value links (subst (AllByRecursion (IsLinkOf n)) (sym same) facts.links) in
    let there : AreLinks counts (length n.sessions) links =
    all_places (λ (l : NetworkLink). IsLinkOf n l.ends.items) (IsLink counts (length n.sessions))
    (λ l is. (is.at_most_sixteen, all_places (IsEndOf n) (IsThere counts (length n.sessions)) (end_there n) l.ends.items is.ends)) links all in
    rw (counts_are n clocks c, s.count) there

ends_are : (links : List NetworkLink)
    → link_ends links ≡ map (map described_end) (map link_value links)
ends_are [] = refl
ends_are (l ∷ ls) = ap (λ ends. map described_end l.ends.items ∷ ends) (ends_are ls)

pub none_stored : (counts : List ℕ) (sessions : ℕ) (f : Frames)
    → held_in f ≡ []
    → All (IsStoredFrame counts sessions) f.stored.items
none_stored counts sessions f e = grind (arith, length-map)

-- ---- the whole

pub is_of : (n : NetworkValue) (w : World)
    → AreStartedClocks n w.clocks.items
    → AreStartedSessions n w.sessions.items
    → map link_value w.links.items ≡ n.links → IsOf (described n) w
is_of n w clocks sessions links = grind (arith, ends_are)

pub are_names : (n : NetworkValue) (cs : List RunningClock) (ss : List RunningSession)
    → AreStartedClocks n cs
    → AreStartedSessions n ss
    → ◌≡◌ {A = Names} (record { clocks = map (λ (x : RunningClock). x.name) cs; sessions = map (λ (x : RunningSession). x.name) ss }) (names_of n)
are_names n cs ss clocks sessions =
    let of_clocks = same_maps (λ (x : RunningClock). x.name) (λ (c : ClockValue). c.name) cs n.clocks clocks.count
    (λ i x y p q. (clocks.each i x p).name ∙ ap (λ (c : ClockValue). c.name) (at_place n.clocks i y no_clock q)) in
    let of_sessions = same_maps (λ (x : RunningSession). x.name) (λ (s : NetworkSession). s.name) ss n.sessions sessions.count
    (λ i x y p q. grind (arith, at_place)) in grind (arith)

-- a world of these clocks, sessions and frames
abbrev running_of : List RunningClock → List RunningSession → Frames → RunningNetwork
running_of clocks sessions frames = record {
  clock = λ c. state_of (slice_get clocks c);
  session = λ s. session_of (slice_get sessions s);
  reports = λ s. reports_of (slice_get sessions s);
  frames = held_in frames;
}

pub stands : (n : NetworkValue) (cs : List RunningClock) (ss : List RunningSession)
    (frames_sent : Frames) (first : ℕ → PortIdentity → ℕ)
    → AreStartedClocks n cs
    → AreStartedSessions n ss
    → held_in frames_sent ≡ []
    → Stands (described n) first (running_of cs ss frames_sent) (initial_state (described n))
stands n cs ss frames_sent first clocks sessions frames =
    let start = stands-initial_state (described n) first in
    record {
      clocks = λ c h. (
          let x = some_at cs c (omega (arith, h, clocks.count)) in
          subst (λ t. StandsAt (first c) t (history (described n) (initial_state (described n)) c))
          (sym (ap state_of x.1 ∙ (clocks.each c x.0 x.1).state)) (start.clocks c h));
      sessions = λ s h. (
          let x = some_at ss s (omega (arith, h, sessions.count)) in
          ap session_of x.1 ∙ (sessions.each s x.0 x.1).session ∙ start.sessions s h);
      reports = grind (arith, some_at);
      frames = frames;
    }
