-- Places of names, and at whom events happen.
use Rattle.ptpm_world.proofs.Common.{◌≡◌, ℕ, ◌+◌, ◌-◌, ◌<◌, ◌==◌, zero, suc, Bool, true, false, All, List, [], ◌∷◌, Option, Some, None, refl, sym, ap, ◌∙◌, subst, arith, bytes_eq, cond, length, length-map, map, option_map, position, slice_get, HasEnd, AtPort, AtSession, Held, frame_at, clock_value, ClockValue, described, described_end, frame_value, names_of, NetworkValue}
use Rattle.std.specs.List.{position_from}
use Rattle.std.proofs.lemmas.Iterator.Adapters.{position_from-zero}
use Rattle.std.proofs.lemmas.List.Quantifiers.{position-Some}
use Rattle.ptpm_network.specs.Network.{End}
use Rattle.ptpm_script.specs.declared.network.NetworkClock.{NetworkClock}
use Rattle.ptpm_script.specs.declared.network.NetworkSession.{NetworkSession}
use Rattle.ptpm_world.specs.declared.frames.Frame.{Frame}
use Rattle.ptpm_script.specs.declared.event.Event.{Event}
use Rattle.ptpm_script.specs.declared.event.Event.TheVariants as events
use Rattle.ptpm_draw.specs.Party.{IsThere, clock_named, party_at, party_of, session_named}
use Rattle.ptpm_draw.specs.declared.party.Party.TheVariants as parties

-- ---- names

place-mapped : {X Y : Type 0} (f : X → Y) (test : Y → Bool) (i : ℕ) (xs : List X)
    → position_from (λ x. test (f x)) i xs ≡ position_from test i (map f xs)
place-mapped f test i [] = refl
place-mapped f test i (x ∷ xs) = ap (λ rest. cond (test (f x)) (Some i) rest) (place-mapped f test (i + 1) xs)

position-mapped : {X Y : Type 0} (f : X → Y) (test : Y → Bool) (xs : List X)
    → position (λ x. test (f x)) xs ≡ position test (map f xs)
position-mapped f test xs =
    position_from-zero (λ x. test (f x)) xs ∙ place-mapped f test 0 xs ∙ sym (position_from-zero test (map f xs))

pub named-session : (n : NetworkValue) (name : List ℕ)
    → option_map parties.Session (position (λ s. bytes_eq s.name name) n.sessions) ≡ session_named (names_of n) name
named-session n name = ap (option_map parties.Session) (position-mapped (λ (s : NetworkSession). s.name) (λ m. bytes_eq m name) n.sessions)

pub named-clock : (n : NetworkValue) (clocks : List NetworkClock) (name : List ℕ)
    → n.clocks ≡ map clock_value clocks
    → option_map parties.Clock (position (λ c. bytes_eq c.name name) clocks) ≡ clock_named (names_of n) name
named-clock n clocks name is =
    ap (option_map parties.Clock)
    (position-mapped clock_value (λ (c : ClockValue). bytes_eq c.name name) clocks
    ∙ position-mapped (λ (c : ClockValue). c.name) (λ m. bytes_eq m name) (map clock_value clocks)
    ∙ ap (λ cs. position (λ m. bytes_eq m name) (map (λ (c : ClockValue). c.name) cs)) (sym is))

clock_at-there : (many : ℕ) (o : Option ℕ)
    → ((k : ℕ) → o ≡ Some k → k < many)
    → IsThere many (option_map parties.Clock o)
clock_at-there many None below = tt
clock_at-there many (Some k) below = below k refl

clock-there : (n : NetworkValue) (name : List ℕ) → IsThere (length n.clocks) (clock_named (names_of n) name)
clock-there n name =
    subst (λ many. IsThere many (clock_named (names_of n) name)) (length-map n.clocks (λ c. c.name))
    (clock_at-there (length (names_of n).clocks) (position (λ m. bytes_eq m name) (names_of n).clocks)
    (λ k e. (position-Some (λ m. bytes_eq m name) (names_of n).clocks k [] e).0))

session-there : (many : ℕ) (o : Option ℕ) → IsThere many (option_map parties.Session o)
session-there many None = tt
session-there many (Some k) = tt

-- ---- ends

pub reached : (o : Option Frame) (h : Option Held)
    → option_map frame_value o ≡ h
    → option_map (λ f. party_of (described_end f.end)) o ≡ option_map (λ h. party_of h.end) h
reached None h e = ap (option_map (λ h. party_of h.end)) e
reached (Some f) h e = ap (option_map (λ h. party_of h.end)) e

end-there : (n : NetworkValue) (e : End) → HasEnd (described n) e → IsThere (length n.clocks) (Some (party_of e))
end-there n (AtPort c p) h = h.0
end-there n (AtSession s) h = tt

held-there : (n : NetworkValue) (frames : List Held) (k : ℕ)
    → All (λ f. HasEnd (described n) f.end) frames
    → IsThere (length n.clocks) (option_map (λ h. party_of h.end) (slice_get frames k))
held-there n [] k all = tt
held-there n (f ∷ fs) zero all = end-there n f.end (all 0 f (omega arith))
held-there n (f ∷ fs) (suc k) all = held-there n fs k (λ j d h. all (suc j) d (omega (arith, h)))

there-unless : (many : ℕ) (none : Bool) (o : Option Held)
    → IsThere many (option_map (λ h. party_of h.end) o)
    → IsThere many (option_map (λ h. party_of h.end) (cond none None o))
there-unless many true o h = tt
there-unless many false o h = h

frame-there : (n : NetworkValue) (frames : List Held) (number : ℕ)
    → All (λ f. HasEnd (described n) f.end) frames
    → IsThere (length n.clocks) (option_map (λ h. party_of h.end) (frame_at frames number))
frame-there n frames number all =
    there-unless (length n.clocks) (number == 0) (slice_get frames (number - 1)) (held-there n frames (number - 1) all)

-- ---- events

pub party-there : (n : NetworkValue) (frames : List Held) (e : Event)
    → All (λ f. HasEnd (described n) f.end) frames
    → IsThere (length n.clocks) (party_at (names_of n) frames e)
party-there n frames (events.Begin session ask) all = session-there (length n.clocks) _
party-there n frames (events.Send session) all = session-there (length n.clocks) _
party-there n frames (events.Resume session attempts) all = session-there (length n.clocks) _
party-there n frames (events.Retune session domain) all = session-there (length n.clocks) _
party-there n frames (events.Deliver frame) all = frame-there n frames frame all
party-there n frames (events.Stranger clock port octets) all = clock-there n clock
