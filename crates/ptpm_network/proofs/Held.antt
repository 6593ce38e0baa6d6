-- Frames as a running network holds them, without their first hops and forwardings.
use Rattle.ptpm_network.proofs.Common.{arith, ◌≡◌, ℕ, ◌+◌, List, [], ◌∷◌, Option, Some, None, refl, ap, cond-true, cond-false, map-append, slice_get-map, flat_map, map, option_map, slice_get, Message, canonical, boundary_hops, frame_at, Held, RunningNetwork, after_turn, held, posted, seen, sent_posted, forwarded_frames, sent_frames, AtPort, End, Network, peers, Frame, Origin, RequestOf, frames_to}

-- a frame by its number
pub frame_at-map : (fs : List Frame) (n : ℕ)
    → frame_at (map held fs) n ≡ option_map held (frame_at fs n)
frame_at-map fs n = grind (arith, cond-true, option_map, slice_get, cond-false, slice_get-map)

-- ---- frames that are made

pub held-frames_to : (ends : List End) (octets : List ℕ) (o : Origin) (first_hops forwardings : ℕ)
    → map held (frames_to ends octets o first_hops forwardings) ≡ posted ends octets o
held-frames_to [] octets o first_hops forwardings = refl
held-frames_to (e ∷ ends) octets o first_hops forwardings =
    let h : Held = record { end = e; octets = octets; origin = o } in
    ap (λ (hs : List Held). h ∷ hs) (held-frames_to ends octets o first_hops forwardings)

pub held-sent_frames : (ends : List End) (s k : ℕ) (o : Option Message)
    → map held (sent_frames ends s k o) ≡ sent_posted ends s k o
held-sent_frames ends s k None = refl
held-sent_frames ends s k (Some v) = held-frames_to ends (canonical v) (RequestOf s k) (boundary_hops (canonical v)) 0

pub held-flat : (N : Network) (c : ℕ) (o : Origin) (first : ℕ × List ℕ → ℕ) (forwardings : ℕ) (sent : List (ℕ × List ℕ))
    → map held (flat_map (λ m. frames_to (peers N.links (AtPort c m.0)) m.1 o (first m) forwardings) sent)
    ≡ flat_map (λ m. posted (peers N.links (AtPort c m.0)) m.1 o) sent
held-flat N c o first forwardings [] = refl
held-flat N c o first forwardings (m ∷ ms) =
    rw (map-append, held-frames_to (peers N.links (AtPort c m.0)) m.1 o (first m) forwardings, held-flat N c o first forwardings ms)

pub held-forwarded : (N : Network) (c : ℕ) (f : Frame) (sent : List (ℕ × List ℕ))
    → map held (forwarded_frames N c f sent)
    ≡ flat_map (λ m. posted (peers N.links (AtPort c m.0)) m.1 f.origin) sent
held-forwarded N c f sent = held-flat N c f.origin (λ m. f.first_hops) (f.forwardings + 1) sent

-- a clock that hears a frame sends the same, whatever the frame's first hops and forwardings
pub turned-seen : (N : Network) (r : RunningNetwork) (c port : ℕ) (f : Frame)
    → after_turn N r c port (seen (held f)) ≡ after_turn N r c port f
turned-seen N r c port f = grind (arith, map-append, held-forwarded)
