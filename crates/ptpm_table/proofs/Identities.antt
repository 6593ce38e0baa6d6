-- Identities in their order, and lists of entries as finite maps.
use Rattle.std.proofs.Common.{arith, ◌≡◌, ℕ, true, sym, ◌∙◌, ap, List, cond, refl, [], ◌∷◌, Some}
use Rattle.std.proofs.lemmas.Map.Lookups.{CmpEqualImpliesEq, exact_bytes, exact_pairs, exact_unsigned}
use Rattle.std.proofs.lemmas.Map.Text.{is_eq-slice_cmp}
use Rattle.std.proofs.lemmas.Cmp.{eq_by_cmp_equiv, nat_cmp_total, nat_list_cmp_total, on_total, then_total}
use Rattle.std.specs.Cmp.{IsTotalOrder}
use Rattle.std.specs.Cmp.Lexicographic.{slice_cmp}
use Rattle.std.specs.Ordering.{eq_by_cmp, nat_cmp}
use Rattle.ptpm_codec.specs.Identity.{identity_cmp, same_identity}
use Rattle.ptpm_codec.specs.declared.identity.PortIdentity.{PortIdentity}
use Rattle.std.specs.FinMap.{get, insert, find, from_entries, get-insert, get-from_entries, same_map}
use Rattle.std.specs.Map.{lookup}
use Rattle.ptpm_table.specs.Entries.{Entry}

-- ---- the order of identities separates what the test of equality separates

pub identities_total : IsTotalOrder identity_cmp
identities_total = then_total (on_total (λ p. p.clock.0) nat_list_cmp_total) (on_total (λ p. p.port) nat_cmp_total)

abbrev identity_from : List ℕ × ℕ → PortIdentity
identity_from p = record { clock = record { 0 = p.0 }; port = p.1 }

-- identities that compare alike are one
pub exact_identities : CmpEqualImpliesEq identity_cmp
exact_identities a b h =
    ap identity_from (exact_pairs (slice_cmp nat_cmp) nat_cmp exact_bytes exact_unsigned (a.clock.0, a.port) (b.clock.0, b.port) h)

pub tied_identities : (a b : PortIdentity) → eq_by_cmp identity_cmp a b ≡ same_identity a b
tied_identities a b = grind (arith, is_eq-slice_cmp)

pub same_identity-refl : (a : PortIdentity) → same_identity a a ≡ true
same_identity-refl a = sym (tied_identities a a) ∙ (eq_by_cmp_equiv identities_total).refl a

pub same_identity-comm : (a b : PortIdentity) → same_identity a b ≡ same_identity b a
same_identity-comm a b = sym (tied_identities a b) ∙ ((eq_by_cmp_equiv identities_total).symm a b ∙ tied_identities b a)

-- ---- lists of entries as finite maps

find_entry : (es : List (PortIdentity × Entry)) (q : PortIdentity)
    → find identity_cmp q es ≡ lookup (same_identity q) es
find_entry [] q = refl
find_entry (e ∷ es) q =
    ap (λ b. cond b (Some e.1) (find identity_cmp q es)) (tied_identities q e.0)
    ∙ ap (cond (same_identity q e.0) (Some e.1)) (find_entry es q)

-- what the map of a list has at a manager
pub get_entry : (es : List (PortIdentity × Entry)) (q : PortIdentity) →
    get (from_entries {R = identity_cmp} es) q ≡ lookup (same_identity q) es
get_entry es q = get-from_entries identities_total es q ∙ find_entry es q

-- lists that differ at one manager make maps that differ there
pub one_entry : (es fs : List (PortIdentity × Entry)) (who : PortIdentity) (e : Entry) →
    ((q : PortIdentity) → lookup (same_identity q) fs ≡ cond (same_identity who q) (Some e) (lookup (same_identity q) es)) →
    from_entries {R = identity_cmp} fs ≡ insert (from_entries es) who e
one_entry es fs who e h = same_map identities_total exact_identities _ _ (λ q.
    get_entry fs q ∙ h q
    ∙ ap (λ b. cond b (Some e) (lookup (same_identity q) es)) (same_identity-comm who q ∙ sym (tied_identities q who))
    ∙ sym (get-insert identities_total (from_entries es) who e q
    ∙ ap (cond (eq_by_cmp identity_cmp q who) (Some e)) (get_entry es q)))
