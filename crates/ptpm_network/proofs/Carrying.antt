-- What a clock on the way does with a copy of a request, or of the reply: it passes it on, and nothing else changes.
use Rattle.std.proofs.Math.Nat.{mul-le-mul_left}
use Rattle.std.proofs.lemmas.List.FromFn.{get_or-range_with_len, length-range_with_len}
use Rattle.std.proofs.lemmas.Option.{slice_get-get_or}
use Rattle.ptpm_network.proofs.Common.{PORTS, by_test, suc, zero, arith, ◌≡◌, ℕ, ◌<◌, ◌≤◌, ◌+◌, ◌-◌, ◌*◌, ◌/◌, ◌==◌, ◌&&◌, ◌||◌, Bool, List, [], ◌∷◌, ◌++◌, Some, None, true, refl, sym, ◌∙◌, ap, subst, ⊎_elim, length, length-append, and_from, and_left, and_parts, and_right, cond-false, cond-true, eq-eqb, eqb-false, eqb-true, false≢true, lt-ltb, ne_eqb, or_cases, or_from, append-nil, slice_get_within, flat_map, map, not, slice_get, AllByRecursion, filter, list_any, range_with_len, ClockIdentity, PortIdentity, Message, every_clock, same_clock, boundary_hops, domain_number, Fits, message_of, DataSetsValue, may_forward, egress_ports, forwarded, with_less_hop, copy_of, is_addressed, is_for_this_clock, is_own, names_port, Clock, AreDataSets, IsOfOrigin, IsReached, delivered_at_clock, delivery, forwarded_frames, made_frames, read_messages, AtPort, AtSession, End, IsNetwork, Network, manager, peers, ports, same_end, Frame, NetworkState, RequestOf, ReplyTo, frames_to, history, LinksHaveAtMost, passed_at_most, get_append, le_trans, filter-few, length-range_with_len, length-map, flat-few, slice_get-map, option_map}
use Rattle.ptpm_network.proofs.Arriving.{history-elsewhere, history-here}
use Rattle.ptpm_network.proofs.Exchanging.{clocks_apart, message-domain}
use Rattle.ptpm_network.proofs.Frames.{says_reply, says_request}
use Rattle.ptpm_network.proofs.Messages.{less_hop-hops, less_hop-message, message-hops, reply_at, request_at}

-- ---- elements of lists

-- it is somewhere in the list
abbrev pub IsIn : {X : Type 0} → List X → X → Type 0
IsIn xs x = (i : ℕ) × (slice_get xs i ≡ Some x)

pub in_left : {X : Type 0} (xs ys : List X) (x : X) → IsIn xs x → IsIn (xs ++ ys) x
in_left xs ys x p = (p.0, get_append xs ys p.0 x p.1)

pub in_right : {X : Type 0} (xs ys : List X) (x : X) → IsIn ys x → IsIn (xs ++ ys) x
in_right [] ys x p = p
in_right (z ∷ xs) ys x p = let q = in_right xs ys x p in (suc q.0, q.1)

pub in_map : {X Y : Type 0} (f : X → Y) (xs : List X) (x : X) → IsIn xs x → IsIn (map f xs) (f x)
in_map f xs x p = (p.0, slice_get-map f xs p.0 ∙ ap (option_map f) p.1)

in_flat-at : {X Y : Type 0} (f : X → List Y) (xs : List X) (i : ℕ) (x : X) (y : Y)
    → slice_get xs i ≡ Some x → IsIn (f x) y
    → IsIn (flat_map f xs) y
in_flat-at f [] i x y e p = absurd (cc)
in_flat-at f (z ∷ xs) zero x y e p = let q : z ≡ x = cc in grind (arith, in_left)
in_flat-at f (z ∷ xs) (suc i) x y e p = in_right (f z) (flat_map f xs) y (in_flat-at f xs i x y e p)

in_filter-at : {X : Type 0} (test : X → Bool) (xs : List X) (i : ℕ) (x : X)
    → slice_get xs i ≡ Some x → test x ≡ true
    → IsIn (filter test xs) x
in_filter-at test [] i x e t = absurd (cc)
in_filter-at test (y ∷ xs) zero x e t = let q : y ≡ x = cc in rw (q, t) (0, refl)
in_filter-at test (y ∷ xs) (suc i) x e t =
    let rest = in_filter-at test xs i x e t in
    by_test (test y)
    (λ h. rw h (suc rest.0, rest.1))
    (λ h. rw h rest)

in_range-at : (a n i : ℕ) → i < n → slice_get (range_with_len a n) i ≡ Some (a + i)
in_range-at a n i lt =
    slice_get-get_or (range_with_len a n) i 0 (omega (arith, length-range_with_len a n)) ∙ ap Some (get_or-range_with_len a n i 0 lt)

pub in_range : (n p : ℕ) → 1 ≤ p → p ≤ n → IsIn (range_with_len 1 n) p
in_range n p low high =
    let q : 1 + (p - 1) ≡ p = omega arith in
    (p - 1, in_range-at 1 n (p - 1) (omega arith) ∙ ap Some q)

pub same_end-true : (a b : End) → same_end a b ≡ true → a ≡ b
same_end-true (AtPort c p) (AtPort d q) y = grind (arith, and_parts, eqb-true)
same_end-true (AtSession s) (AtSession t) y = ap AtSession (eqb-true s t y)
same_end-true _ _ y = absurd (false≢true y)

pub in_any : (e : End) (ends : List End) → list_any (same_end e) ends ≡ true → IsIn ends e
in_any e [] y = absurd (false≢true y)
in_any e (d ∷ ends) y = ⊎_elim
    (λ (h : same_end e d ≡ true). let q : d ≡ e = sym (same_end-true e d h) in (0, ap Some q))
    (λ (h : list_any (same_end e) ends ≡ true). let rest = in_any e ends h in (suc rest.0, rest.1))
    (or_cases (same_end e d) (list_any (same_end e) ends) y)

-- ---- the ports that a clock passes messages on at

forwarding-exists : (q : ℕ) (d : DataSetsValue)
    → may_forward q d ≡ true
    → (1 ≤ q) × (q ≤ length d.ports)
forwarding-exists q d y = grind (arith, false≢true, cond-true, cond-false, eqb-false, slice_get_within)

egress-in : (p q : ℕ) (d : DataSetsValue)
    → (q ≡ p → ⊥) → may_forward q d ≡ true
    → IsIn (egress_ports p d) q
egress-in p q d ne y =
    let exists = forwarding-exists q d y in
    let at = in_range (length d.ports) q exists.0 exists.1 in
    in_filter-at (λ port. not (port == p) && may_forward port d) (range_with_len 1 (length d.ports)) at.0 q at.1
    (and_from (not (q == p)) (may_forward q d) (ap not (ne_eqb q p ne)) y)

-- ---- how many frames a message makes at most

-- each end has so few others that a clock with all of them at each port makes no more frames than this
abbrev pub MakesAtMost : Network → ℕ → Type 0
MakesAtMost N most = (e : End) → PORTS * length (peers N.links e) ≤ most

few-peers : (ends : ℕ) (links : List (List End)) (e : End)
    → AllByRecursion (λ link. length link ≤ ends) links
    → length (peers links e) ≤ ends
few-peers ends [] e all = omega arith
few-peers ends (link ∷ links) e all = by_test (list_any (same_end e) link)
    (λ y. grind (arith, le_trans, filter-few))
    (λ n. rw n (few-peers ends links e all.1))

pub few-made : (N : Network) (ends : ℕ)
    → LinksHaveAtMost N ends
    → MakesAtMost N (passed_at_most ends)
few-made N ends all e = let few = few-peers ends N.links e all in omega (arith, few)

pub few-forwarded : (N : Network) (most c : ℕ) (f : Frame) (sent : List (ℕ × List ℕ))
    → MakesAtMost N most → length sent ≤ PORTS
    → length (forwarded_frames N c f sent) ≤ most
few-forwarded N most c f sent few le =
    let each = flat-few (λ (m : ℕ × List ℕ). frames_to (peers N.links (AtPort c m.0)) m.1 f.origin f.first_hops (f.forwardings + 1)) (most / PORTS)
    (λ m. rw length-map (omega (arith, few (AtPort c m.0)))) sent in
    omega (arith, each, mul-le-mul_left (most / PORTS) le)

-- ---- a message on its way is for neither this clock nor every clock

pub record IsPassing (me : ClockIdentity) (octets : List ℕ) : Type 0 where
  pub message : Message
  pub read : message_of octets ≡ Some message
  pub fits : Fits message
  pub sdo : message.sdo ≡ 0
  pub source : message.source.clock ≡ me → ⊥
  pub target : message.target.clock ≡ me → ⊥
  pub every : message.target.clock ≡ every_clock → ⊥

module _ (N : Network) (w : NetworkState) (s k c : ℕ) (octets : List ℕ) (n : IsNetwork N) (r : IsReached N w) (exists : c < N.clocks) (ne : (c ≡ (N.session s).target → ⊥)) where
  pub request-passing : IsOfOrigin N w octets (RequestOf s k)
      → IsPassing (N.clock c).identity octets
  request-passing i =
      let says = says_request N w s k octets n r i in
      let session = n.are_sessions s says.place in grind (arith, request_at, clocks_apart)

  pub reply-passing : IsOfOrigin N w octets (ReplyTo s k) → IsPassing (N.clock c).identity octets
  reply-passing i =
      let says = says_reply N w s k octets n r i in
      let session = n.are_sessions s says.place in
      let to_manager : says.heard.source.clock ≡ (manager N s).clock = ap (λ (m : PortIdentity). m.clock) says.source in grind (arith, reply_at, clocks_apart)

-- ---- it is passed on

-- the clock passes it on from this port
pub record MayPass (d : DataSetsValue) (p q : ℕ) (octets : List ℕ) : Type 0 where
  pub domain : domain_number octets ≡ d.default.domain
  pub hop : 0 < boundary_hops octets
  pub two_ports : q ≡ p → ⊥
  pub ingress : may_forward p d ≡ true
  pub egress : may_forward q d ≡ true

passing-no_copy : (c : Clock) (count p : ℕ) (f : Frame)
    → IsPassing c.identity f.octets
    → copy_of c count (delivery p f) ≡ None
passing-no_copy c count p f v = grind (arith, cond-false, and_right, and_left, clocks_apart)

passing-not_read : (c : Clock) (d : DataSetsValue) (p : ℕ) (octets : List ℕ)
    → IsPassing c.identity octets
    → read_messages c d p (message_of octets) ≡ []
passing-not_read c d p octets v =
    let m : Message = v.message in
    ap (read_messages c d p) v.read
    ∙ cond-false _ _ _ (and_right (m.sdo == 0) _ (and_right (m.domain == d.default.domain) _ (and_right (not (is_own c m)) _
    (and_left (is_addressed c d m) _ (and_left (is_for_this_clock c m || same_clock m.target.clock every_clock) (names_port (length d.ports) m.target.port)
    (or_from (is_for_this_clock c m) (same_clock m.target.clock every_clock) (clocks_apart m.target.clock c.identity v.target) (clocks_apart m.target.clock every_clock v.every)))))))

made-passing : (N : Network) (w : NetworkState) (c p q : ℕ) (f : Frame)
    → IsPassing (N.clock c).identity f.octets → MayPass (history N w c).sets p q f.octets
    → made_frames N c (history N w c) p f
    ≡ forwarded_frames N c f
    (map (λ port. (port, with_less_hop f.octets)) (egress_ports p (history N w c).sets))
unfolding forwarded
made-passing N w c p q f v may = grind (arith, passing-no_copy, passing-not_read, append-nil, message-hops, cond-true, and_from, eq-eqb, message-domain, clocks_apart, lt-ltb)

-- no clock's history changes
pub passing-history : (N : Network) (w : NetworkState) (c p : ℕ) (f : Frame) (d : ℕ)
    → IsPassing (N.clock c).identity f.octets
    → history N (delivered_at_clock N w c p f) d ≡ history N w d
passing-history N w c p f d v = grind (arith, eqb-true, history-here, passing-no_copy, history-elsewhere)

-- the copy for this end
abbrev pub passed_copy : Frame → End → Frame
passed_copy f e = record { end = e; octets = with_less_hop f.octets; origin = f.origin; first_hops = f.first_hops; forwardings = f.forwardings + 1 }

pub passing-made : (N : Network) (w : NetworkState) (c p q : ℕ) (f : Frame) (e : End)
    → IsPassing (N.clock c).identity f.octets → MayPass (history N w c).sets p q f.octets
    → list_any (same_end e) (peers N.links (AtPort c q)) ≡ true
    → IsIn (delivered_at_clock N w c p f).frames (passed_copy f e)
passing-made N w c p q f e v may link =
    let d = (history N w c).sets in
    let sent : List (ℕ × List ℕ) = map (λ port. (port, with_less_hop f.octets)) (egress_ports p d) in
    let out = in_map (λ port. (port, with_less_hop f.octets)) (egress_ports p d) q (egress-in p q d may.two_ports may.egress) in
    in_right w.frames (made_frames N c (history N w c) p f) (passed_copy f e)
    (subst (λ fs. IsIn fs (passed_copy f e)) (sym (made-passing N w c p q f v may))
    (in_flat-at (λ (m : ℕ × List ℕ). frames_to (peers N.links (AtPort c m.0)) m.1 f.origin f.first_hops (f.forwardings + 1)) sent out.0 (q, with_less_hop f.octets) (passed_copy f e) out.1
    (in_map (λ end. record { end = end; octets = with_less_hop f.octets; origin = f.origin; first_hops = f.first_hops; forwardings = f.forwardings + 1 }) (peers N.links (AtPort c q)) e (in_any e (peers N.links (AtPort c q)) link))))

pub passing-few : (N : Network) (w : NetworkState) (most c p q : ℕ) (f : Frame)
    → MakesAtMost N most → AreDataSets (ports N c) (history N w c).sets
    → IsPassing (N.clock c).identity f.octets → MayPass (history N w c).sets p q f.octets
    → length (delivered_at_clock N w c p f).frames ≤ length w.frames + most
passing-few N w most c p q f few sets v may =
    let d = (history N w c).sets in
    let sent : List (ℕ × List ℕ) = map (λ port. (port, with_less_hop f.octets)) (egress_ports p d) in
    let size : length sent ≤ PORTS = grind (arith, length-map, filter-few, length-range_with_len) in
    let made : length (made_frames N c (history N w c) p f) ≤ most = grind (arith, made-passing, few-forwarded) in
    omega (arith, made, length-append w.frames (made_frames N c (history N w c) p f))

module _ (me : ClockIdentity) (octets : List ℕ) (v : IsPassing me octets) where
  -- a hop less, in the same domain
  pub passed-hops : boundary_hops (with_less_hop octets) ≡ boundary_hops octets - 1
  passed-hops = less_hop-hops v.message octets v.read

  pub passed-domain : domain_number (with_less_hop octets) ≡ domain_number octets
  passed-domain =
      let m : Message = v.message in
      let less = less_hop-message m octets v.read v.fits in grind (arith, message-domain)
