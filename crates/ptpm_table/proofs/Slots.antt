-- The slots of a table: the entry of a manager is that of its slot, and stays its own when another slot is written.
use Rattle.std.proofs.Common.{suc, zero, arith, ◌≡◌, ℕ, ◌+◌, ◌<◌, ◌≤◌, Bool, true, false, cond, refl, sym, ◌∙◌, ap, subst, ⊎_elim, ◌||◌, List, [], ◌∷◌, ◌++◌, length, take, get_or, set, Option, Some, None, All, Bor}
use Rattle.std.proofs.lemmas.Bool.{cases_Bool, or_parts, or_left, cond-true, cond-false, false≢true, ltb-false}
use Rattle.std.specs.Map.{lookup}
use Rattle.std.specs.Option.{option_copied}
use Rattle.std.specs.Prelude.{IfSome, MatchOption, ⊤, is_some, position}
use Rattle.std.proofs.lemmas.List.Folds.{find_at}
use Rattle.std.proofs.lemmas.List.{map-append, take_more}
use Rattle.std.proofs.lemmas.List.Elements.{All-push}
use Rattle.std.proofs.lemmas.Option.{slice_get_past}
use Rattle.std.specs.FinMap.{get, insert, from_entries}
use Rattle.ptpm_codec.specs.Identity.{identity_cmp, same_identity}
use Rattle.ptpm_codec.specs.declared.identity.ClockIdentity.{ClockIdentity}
use Rattle.ptpm_codec.specs.declared.identity.PortIdentity.{PortIdentity}
use Rattle.ptpm_data.specs.declared.rights.Rights.{Rights}
use Rattle.ptpm_table.specs.Entries.{is_known}
use Rattle.ptpm_table.specs.Managers.{has_twice, identities, rights_in}
use Rattle.ptpm_table.specs.Slots.{HaveFew, clocks, configured, entry_in, rights_at, slot_of, used}
use Rattle.ptpm_table.specs.declared.slot.Slot.{Slot}
use Rattle.ptpm_codec.proofs.MessageLaws.{same_identity-true}
use Rattle.ptpm_table.proofs.Identities.{same_identity-refl, same_identity-comm, get_entry, one_entry}

abbrev managers : List Slot → List PortIdentity
managers slots = identities (configured slots)

-- ---- looking up

pub none_used : (q : PortIdentity) (ss : List Slot)
    → is_known q (managers ss) ≡ false
    → lookup (same_identity q) (used ss) ≡ None
none_used q [] h = refl
none_used q (s ∷ ss) h =
    let parts = or_parts (same_identity q s.kept.manager) (is_known q (managers ss)) h in
    let rest : lookup (same_identity q) (used ss) ≡ None = none_used q ss parts.1 in grind (arith, cond-true, cond-false, cases_Bool)

lookup_used : (q : PortIdentity) (ss : List Slot)
    → has_twice (managers ss) ≡ false
    → lookup (same_identity q) (used ss) ≡ entry_in (slot_of q ss)
lookup_used q [] h = refl
lookup_used q (s ∷ ss) h =
    let parts = or_parts (is_known s.kept.manager (managers ss)) (has_twice (managers ss)) h in
    ⊎_elim
    (λ (y : same_identity q s.kept.manager ≡ true).
    let same : q ≡ s.kept.manager = same_identity-true q s.kept.manager y in
    let others : lookup (same_identity q) (used ss) ≡ None = grind (arith, none_used) in
    let own : entry_in (slot_of q (s ∷ ss)) ≡ entry_in (Some s) = ap entry_in (cond-true _ _ _ y) in
    ⊎_elim
    (λ (t : s.taken ≡ true). grind (arith, cond-true))
    (λ (t : s.taken ≡ false). grind (arith, cond-false))
    (cases_Bool s.taken))
    (λ (n : same_identity q s.kept.manager ≡ false).
    let later : entry_in (slot_of q (s ∷ ss)) ≡ entry_in (slot_of q ss) = ap entry_in (cond-false _ _ _ n) in
    let rest : lookup (same_identity q) (used ss) ≡ entry_in (slot_of q ss) = lookup_used q ss parts.1 in
    ⊎_elim
    (λ (t : s.taken ≡ true). grind (arith, cond-true, cond-false))
    (λ (t : s.taken ≡ false). grind (arith, cond-false))
    (cases_Bool s.taken))
    (cases_Bool (same_identity q s.kept.manager))

-- the entry of a manager is that of its slot
pub get_used : (q : PortIdentity) (ss : List Slot) → has_twice (managers ss) ≡ false →
    get (from_entries {R = identity_cmp} (used ss)) q ≡ entry_in (slot_of q ss)
get_used q ss distinct = get_entry (used ss) q ∙ lookup_used q ss distinct

-- a manager is configured if it has a slot
pub known_slot : (q : PortIdentity) (ss : List Slot)
    → is_known q (managers ss) ≡ is_some (slot_of q ss)
known_slot q [] = refl
known_slot q (s ∷ ss) = ⊎_elim
    (λ (y : same_identity q s.kept.manager ≡ true). grind (arith, or_left, cond-true))
    (λ (n : same_identity q s.kept.manager ≡ false). ap (λ b. b || is_known q (managers ss)) n
    ∙ (known_slot q ss ∙ sym (ap is_some (cond-false _ (Some s) (slot_of q ss) n))))
    (cases_Bool (same_identity q s.kept.manager))

-- the rights of a manager are those of its slot
pub rights_slot : (q : PortIdentity) (ss : List Slot)
    → rights_in (configured ss) q ≡ rights_at (slot_of q ss)
rights_slot q [] = refl
rights_slot q (s ∷ ss) = ⊎_elim
    (λ (y : same_identity q s.kept.manager ≡ true). grind (arith, cond-true))
    (λ (n : same_identity q s.kept.manager ≡ false). cond-false _ _ _ n
    ∙ (rights_slot q ss ∙ sym (ap rights_at (cond-false _ (Some s) (slot_of q ss) n))))
    (cases_Bool (same_identity q s.kept.manager))

-- ---- writing

swapped : {X : Type 0} (a b : Bool) (x y z : X)
    → (a ≡ true → b ≡ true → ⊥)
    → cond a x (cond b y z) ≡ cond b y (cond a x z)
swapped true true x y z h = absurd (h refl refl)
swapped true false x y z h = refl
swapped false true x y z h = refl
swapped false false x y z h = refl

same_twice : {X : Type 0} (a b : Bool) (x y z : X) → a ≡ b → cond a x z ≡ cond b x (cond a y z)
same_twice true true x y z h = refl
same_twice true false x y z h = absurd (false≢true (sym h))
same_twice false true x y z h = absurd (false≢true h)
same_twice false false x y z h = refl

other_manager : (p : PortIdentity) (ss : List Slot) (i : ℕ) (d : Slot)
    → i < length ss
    → is_known p (managers ss) ≡ false →
    same_identity p (get_or ss i d).kept.manager ≡ false
other_manager p [] i d inside h = absurd (omega arith)
other_manager p (s ∷ ss) zero d inside h = (or_parts (same_identity p s.kept.manager) (is_known p (managers ss)) h).0
other_manager p (s ∷ ss) (suc i) d inside h =
    other_manager p ss i d (omega arith) (or_parts (same_identity p s.kept.manager) (is_known p (managers ss)) h).1

-- a new slot in a manager's place
slot_set : (who q : PortIdentity) (ss : List Slot) (i : ℕ) (d new : Slot)
    → has_twice (managers ss) ≡ false
    → i < length ss →
    same_identity who (get_or ss i d).kept.manager ≡ true → new.kept.manager ≡ who →
    slot_of q (set ss i new) ≡ cond (same_identity who q) (Some new) (slot_of q ss)
slot_set who q [] i d new distinct inside y e = absurd (omega arith)
slot_set who q (s ∷ ss) zero d new distinct inside y e =
    let same : who ≡ s.kept.manager = same_identity-true who s.kept.manager y in grind (arith, same_twice, same_identity-comm)
slot_set who q (s ∷ ss) (suc i) d new distinct inside y e =
    let parts = or_parts (is_known s.kept.manager (managers ss)) (has_twice (managers ss)) distinct in
    let at_i : who ≡ (get_or ss i d).kept.manager = same_identity-true who (get_or ss i d).kept.manager y in
    let other : same_identity s.kept.manager who ≡ false = grind (arith, other_manager) in
    ap (cond (same_identity q s.kept.manager) (Some s)) (slot_set who q ss i d new parts.1 (omega arith) y e)
    ∙ swapped (same_identity q s.kept.manager) (same_identity who q) (Some s) (Some new) (slot_of q ss)
    (λ f g. let same : q ≡ s.kept.manager = same_identity-true q s.kept.manager f in
    let who_q : who ≡ q = same_identity-true who q g in
    false≢true (sym other ∙ (ap (λ p. same_identity s.kept.manager p) (who_q ∙ same) ∙ same_identity-refl s.kept.manager)))

-- a slot written for the same manager, with the same rights, leaves the managers as they were
pub configured_set : (ss : List Slot) (i : ℕ) (d new : Slot)
    → i < length ss
    → new.kept.manager ≡ (get_or ss i d).kept.manager →
    new.rights ≡ (get_or ss i d).rights → configured (set ss i new) ≡ configured ss
configured_set [] i d new inside e f = absurd (omega arith)
configured_set (s ∷ ss) zero d new inside e f = (λ j. (e j, f j) ∷ configured ss)
configured_set (s ∷ ss) (suc i) d new inside e f = ap (λ ms. (s.kept.manager, s.rights) ∷ ms) (configured_set ss i d new (omega arith) e f)

-- the entries after a manager's slot is written
pub entries_set : (who : PortIdentity) (ss : List Slot) (i : ℕ) (d new : Slot)
    → has_twice (managers ss) ≡ false
    → i < length ss →
    same_identity who (get_or ss i d).kept.manager ≡ true → new.kept.manager ≡ (get_or ss i d).kept.manager → new.rights ≡ (get_or ss i d).rights →
    new.taken ≡ true →
    from_entries {R = identity_cmp} (used (set ss i new)) ≡ insert (from_entries (used ss)) who new.kept.entry
entries_set who ss i d new distinct inside y e f t =
    let at_i : who ≡ (get_or ss i d).kept.manager = same_identity-true who (get_or ss i d).kept.manager y in
    let still : has_twice (managers (set ss i new)) ≡ false = grind (arith, configured_set) in grind (arith, one_entry, lookup_used, slot_set, cond-true, cond-false, cases_Bool)

-- a slot written for the same clock leaves the clocks as they were
pub clocks_set : (ss : List Slot) (i : ℕ) (d new : Slot)
    → i < length ss
    → new.kept.clock ≡ (get_or ss i d).kept.clock
    → clocks (set ss i new) ≡ clocks ss
clocks_set [] i d new inside e = absurd (omega arith)
clocks_set (s ∷ ss) zero d new inside e = ap (λ c. c ∷ clocks ss) e
clocks_set (s ∷ ss) (suc i) d new inside e = ap (λ cs. s.kept.clock ∷ cs) (clocks_set ss i d new (omega arith) e)

-- a configured manager has a place
pub has_place : (who : PortIdentity) (ss : List Slot) → is_known who (managers ss) ≡ true →
    position (λ s. same_identity who s.kept.manager) ss ≡ None → ⊥
has_place who ss known none = grind (arith, cond-true, slice_get_past, ltb-false, false≢true, known_slot, find_at, cases_Bool)

-- every slot is of the clock that all are of
pub clock_at : (clock : ClockIdentity) (ss : List Slot) (i : ℕ) (d : Slot)
    → i < length ss
    → All (λ c. c ≡ clock) (clocks ss)
    → (get_or ss i d).kept.clock ≡ clock
clock_at clock [] i d inside own = absurd (omega arith)
clock_at clock (s ∷ ss) zero d inside own = own 0 clock (omega arith)
clock_at clock (s ∷ ss) (suc i) d inside own = clock_at clock ss i d (omega arith) (λ k e within. own (suc k) e (omega arith))

-- ---- making

-- one more slot without an entry
pub used_more : (ss : List Slot) (s : Slot)
    → s.taken ≡ false
    → used ss ≡ []
    → used (ss ++ s ∷ []) ≡ []
used_more [] s free none = cond-false s.taken _ _ free
used_more (x ∷ ss) s free none = ⊎_elim
    (λ (t : x.taken ≡ true). grind (arith, cond-true))
    (λ (t : x.taken ≡ false).
    cond-false x.taken _ _ t ∙ used_more ss s free (sym (cond-false x.taken _ _ t) ∙ none))
    (cases_Bool x.taken)

-- what is known of the slot that was found
pub found_manager : (q : PortIdentity) (ss : List Slot)
    → MatchOption (slot_of q ss) ⊤ (λ s. s.kept.manager ≡ q)
found_manager q [] = tt
found_manager q (s ∷ ss) = ⊎_elim
    (λ (y : same_identity q s.kept.manager ≡ true).
    subst (λ (o : Option Slot). MatchOption o ⊤ (λ s. s.kept.manager ≡ q)) (sym (cond-true _ (Some s) (slot_of q ss) y)) (sym (same_identity-true q s.kept.manager y)))
    (λ (n : same_identity q s.kept.manager ≡ false).
    subst (λ (o : Option Slot). MatchOption o ⊤ (λ s. s.kept.manager ≡ q)) (sym (cond-false _ (Some s) (slot_of q ss) n)) (found_manager q ss))
    (cases_Bool (same_identity q s.kept.manager))

pub found_clock : (q : PortIdentity) (clock : ClockIdentity) (ss : List Slot)
    → All (λ c. c ≡ clock) (clocks ss)
    → MatchOption (slot_of q ss) ⊤ (λ s. s.kept.clock ≡ clock)
found_clock q clock [] own = tt
found_clock q clock (s ∷ ss) own = ⊎_elim
    (λ (y : same_identity q s.kept.manager ≡ true).
    subst (λ (o : Option Slot). MatchOption o ⊤ (λ s. s.kept.clock ≡ clock)) (sym (cond-true _ (Some s) (slot_of q ss) y)) (own 0 clock (omega arith)))
    (λ (n : same_identity q s.kept.manager ≡ false).
    subst (λ (o : Option Slot). MatchOption o ⊤ (λ s. s.kept.clock ≡ clock)) (sym (cond-false _ (Some s) (slot_of q ss) n))
    (found_clock q clock ss (λ k d inside. own (suc k) d (omega arith))))
    (cases_Bool (same_identity q s.kept.manager))

pub found_few : (q : PortIdentity) (most : ℕ) (ss : List Slot)
    → HaveFew most ss
    → MatchOption (slot_of q ss) ⊤ (λ s. s.taken ≡ true → length s.kept.entry.reply.answers ≤ most)
found_few q most [] all = tt
found_few q most (s ∷ ss) all = ⊎_elim
    (λ (y : same_identity q s.kept.manager ≡ true).
    subst (λ (o : Option Slot). MatchOption o ⊤ (λ s. s.taken ≡ true → length s.kept.entry.reply.answers ≤ most)) (sym (cond-true _ (Some s) (slot_of q ss) y)) (all 0 s (omega arith)))
    (λ (n : same_identity q s.kept.manager ≡ false).
    subst (λ (o : Option Slot). MatchOption o ⊤ (λ s. s.taken ≡ true → length s.kept.entry.reply.answers ≤ most)) (sym (cond-false _ (Some s) (slot_of q ss) n))
    (found_few q most ss (λ k t inside. all (suc k) t (omega (arith, inside)))))
    (cases_Bool (same_identity q s.kept.manager))

pub copied_Some : (r : Option (Bor Slot)) (P : Slot → Type 0)
    → MatchOption (option_copied r) ⊤ P
    → IfSome r (λ s. P s.now)
copied_Some None P h = tt
copied_Some (Some s) P h = h

pub own_more : (clock : ClockIdentity) (ss : List Slot) (s : Slot)
    → All (λ c. c ≡ clock) (clocks ss)
    → s.kept.clock ≡ clock
    → All (λ c. c ≡ clock) (clocks (ss ++ s ∷ []))
own_more clock ss s own one =
    subst (λ (cs : List ClockIdentity). All (λ c. c ≡ clock) cs) (sym (map-append (λ (t : Slot). t.kept.clock) ss (s ∷ [])))
    (All-push (λ c. c ≡ clock) (clocks ss) s.kept.clock own one)

pub configured_more : (ss ss' : List Slot) (s : Slot) (ms : List (PortIdentity × Rights)) (i : ℕ)
    (d : PortIdentity × Rights)
    → ss' ≡ ss ++ s ∷ []
    → i < length ms
    → configured ss ≡ take i ms
    → s.kept.manager ≡ (get_or ms i d).0
    → s.rights ≡ (get_or ms i d).1
    → configured ss' ≡ take (i + 1) ms
configured_more ss ss' s ms i d more inside before manager rights =
    ap configured more
    ∙ (map-append (λ (t : Slot). (t.kept.manager, t.rights)) ss (s ∷ [])
    ∙ ((λ j. before j ++ (manager j, rights j) ∷ []) ∙ sym (take_more ms i d inside)))
