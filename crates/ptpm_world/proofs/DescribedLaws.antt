-- The network that an accepted file describes is one of the network machine's.
use Rattle.ptpm_world.proofs.Common.{suc, zero, arith, ◌≡◌, ℕ, ◌<◌, ◌==◌, Bool, true, false, ◌&&◌, ◌||◌, List, [], ◌∷◌, Some, refl, sym, ◌∙◌, length, map, if◌then◌else◌, ⊎_elim, and_parts, eqb-true, eq-eqb, or_cases, or_left, or_right, length-map, slice_get_within, slice_get, slice_index_or, AllByRecursion, filter, PortIdentity, same_identity, is_known, identities, HasEnd, configured, described, described_end, with_rights, AreSized, IsAccepted, IsEndOf, IsLinkOf, NetworkValue, IsNetwork, IsOfText}
use Rattle.ptpm_codec.proofs.MessageLaws.{same_identity-true}
use Rattle.ptpm_table.proofs.Identities.{same_identity-refl}
use Rattle.ptpm_network.specs.Network.{IsLink}
use Rattle.ptpm_network.proofs.Lists.{all_get, all_made}
use Rattle.ptpm_script.specs.declared.network.End.{End}
use Rattle.ptpm_script.specs.declared.network.NetworkSession.{NetworkSession}
use Rattle.ptpm_script.specs.NetworkValue.{CanStart, IsSessionOf}
use Rattle.ptpm_world.specs.Described.{clock_at, no_clock, no_session, session_at}
use Rattle.std.proofs.Props.{props}
use mathlib.Core.Logic.{∥∥₁_elim}
use Rattle.ptpm_script.proofs.NetworkLaw.{of_text-accepted, sized}
use Rattle.ptpm_network.specs.Network as machine
use Rattle.ptpm_script.specs.declared.network.End.TheVariants as ends

-- ---- what is at a place

pub there : {X : Type 0} (xs : List X) (i : ℕ) (d : X)
    → i < length xs
    → slice_get xs i ≡ Some (slice_index_or xs i d)
there [] i d h = absurd (omega (arith, h))
there (x ∷ xs) zero d h = refl
there (x ∷ xs) (suc i) d h = there xs i d (omega (arith, h))

pub of_place : {X : Type 0} (P : X → Type 0) (xs : List X) (i : ℕ) (d : X)
    → AllByRecursion P xs
    → i < length xs
    → P (slice_index_or xs i d)
of_place P xs i d all h = all_get P xs i (slice_index_or xs i d) all (there xs i d h)

-- ---- clocks

-- ---- the configured managers

-- with one more session, that is a manager of the clock or is none
known-more : (here : Bool) (m : PortIdentity) (s : NetworkSession) (ss : List NetworkSession)
    → is_known m (identities (map with_rights (if here then s ∷ ss else ss)))
    ≡ ((here && same_identity m s.identity) || is_known m (identities (map with_rights ss)))
known-more true m s ss = refl
known-more false m s ss = refl

known-later : (here : Bool) (m : PortIdentity) (s : NetworkSession) (ss : List NetworkSession)
    → is_known m (identities (map with_rights ss)) ≡ true
    → is_known m (identities (map with_rights (if here then s ∷ ss else ss))) ≡ true
known-later here m s ss k = known-more here m s ss ∙ or_right _ _ k

known-configured : (ss : List NetworkSession) (s c : ℕ)
    → s < length ss
    → (slice_index_or ss s no_session).target ≡ c
    → is_known (slice_index_or ss s no_session).identity (identities (configured ss c)) ≡ true
known-configured [] s c h t = absurd (omega (arith, h))
known-configured (x ∷ xs) zero c h t = grind (arith, eq-eqb, same_identity-refl, known-more, or_left)
known-configured (x ∷ xs) (suc s) c h t =
    known-later (x.target == c) _ x _ (known-configured xs s c (omega (arith, h)) t)

-- the place of a configured manager among the sessions
abbrev PlaceOf : List NetworkSession → PortIdentity → ℕ → Type 0
PlaceOf ss m c =
    (s : ℕ) × (s < length ss) × ((slice_index_or ss s no_session).identity ≡ m) × ((slice_index_or ss s no_session).target ≡ c)

place-later : (x : NetworkSession) (xs : List NetworkSession) (m : PortIdentity) (c : ℕ)
    → PlaceOf xs m c
    → PlaceOf (x ∷ xs) m c
place-later x xs m c p = (suc p.0, omega (arith, p.1), p.2, p.3)

place-first : (x : NetworkSession) (xs : List NetworkSession) (m : PortIdentity) (c : ℕ)
    → ((x.target == c) && same_identity m x.identity) ≡ true
    → PlaceOf (x ∷ xs) m c
place-first x xs m c h =
    let p = and_parts (x.target == c) (same_identity m x.identity) h in
    (zero, omega (arith), sym (same_identity-true m x.identity p.1), eqb-true x.target c p.0)

pub known-place : (ss : List NetworkSession) (m : PortIdentity) (c : ℕ)
    → is_known m (identities (configured ss c)) ≡ true
    → PlaceOf ss m c
known-place [] m c k = absurd (cc)
known-place (x ∷ xs) m c k =
    let parts = sym (known-more (x.target == c) m x (filter (λ s. s.target == c) xs)) ∙ k in
    ⊎_elim (place-first x xs m c) (λ rest. place-later x xs m c (known-place xs m c rest))
    (or_cases ((x.target == c) && same_identity m x.identity) _ parts)

-- ---- sessions

-- the clock that a session manages can start, so it has one to eight ports
target-starts : (n : NetworkValue) (s : ℕ) → IsAccepted n → s < length n.sessions → CanStart (clock_at n (session_at n s).target)
target-starts n s facts h =
    of_place CanStart n.clocks (session_at n s).target no_clock facts.clocks (of_place (IsSessionOf n) n.sessions s no_session facts.sessions h).target

-- ---- links

pub at_place : {X : Type 0} (xs : List X) (i : ℕ) (x d : X)
    → slice_get xs i ≡ Some x
    → slice_index_or xs i d ≡ x
at_place xs i x d e = let here : Some (slice_index_or xs i d) ≡ Some x = sym (there xs i d (slice_get_within xs i x e)) ∙ e in cc

described-has_end : (n : NetworkValue) (e : End)
    → IsEndOf n e
    → HasEnd (described n) (described_end e)
described-has_end n (ends.Clock place port) is = grind (arith, at_place, slice_get_within, length-map)
described-has_end n (ends.Session place) is = is

described-links : (n : NetworkValue)
    → IsAccepted n
    → AllByRecursion (IsLink (described n)) (map (map described_end) n.links)
described-links n facts =
    all_made (IsLinkOf n) (IsLink (described n)) (map described_end)
    (λ link is. record {
      two = grind (arith, length-map);
      at_most_sixteen = grind (arith, length-map);
      ends = all_made (IsEndOf n) (HasEnd (described n)) described_end (described-has_end n) link is.ends;
    })
    n.links facts.links

-- ---- the network

pub described-network : (n : NetworkValue)
    → IsAccepted n
    → AreSized n
    → machine.IsNetwork (described n)
described-network n facts sized = grind (arith, there, of_place, target-starts, known-configured, known-place, described-links, length-map)

-- ---- the network of every text is one of the network machine's, however the text is kept

AreSized-prop : (n : NetworkValue) → IsProp (AreSized n)
AreSized-prop n = hlevel props

pub of_text-sized : (n : NetworkValue) → ∥ IsOfText n ∥₁ → AreSized n
of_text-sized n t = ∥∥₁_elim t (AreSized-prop n) (λ s. sized s.0 n s.1)

pub of_text-network : (n : NetworkValue) → ∥ IsOfText n ∥₁ → IsNetwork (described n)
of_text-network n t = described-network n (of_text-accepted n t) (of_text-sized n t)
