-- The entries of slots in the order of their managers.
use Rattle.std.proofs.Common.{suc, zero, arith, cond, ◌≡◌, ℕ, ◌<◌, ◌≤◌, true, false, refl, sym, ◌∙◌, ap, subst, List, [], ◌∷◌, ◌++◌, length, get_or, take, drop, Option, Some, None, slice_get}
use Rattle.std.proofs.lemmas.Bool.{or_parts, cond-true, cond-false}
use Rattle.std.proofs.lemmas.List.Elements.{All-append, All-cons, All-drop, All-head, All-tail, All-take}
use Rattle.std.proofs.lemmas.Option.{get_or_from_slice_get, slice_get-get_or, slice_get_within}
use Rattle.std.proofs.lemmas.List.{drop_all, nil_from_length}
use Rattle.std.specs.Prelude.{insert, is_some}
use Rattle.std.specs.FinMap.Entries.{by_order}
use Rattle.std.specs.FinMap.{entries, entries-insert, find, from_entries, get-entries, len-empty, len-entries, put}
use Rattle.std.specs.Ordering.{is_eq, is_lt}
use Rattle.std.specs.declared.cmp.Ordering.{Ordering}
use Rattle.std.specs.declared.cmp.Ordering.TheVariants.{Equal, Greater, Less}
use Rattle.ptpm_codec.specs.declared.identity.PortIdentity.{PortIdentity}
use Rattle.ptpm_codec.specs.Identity.{identity_cmp}
use Rattle.ptpm_table.specs.Entries.{Entry}
use Rattle.ptpm_table.specs.InOrder.{AreLendable, IsLendable, entries_at, entry_at, rank}
use Rattle.ptpm_table.specs.Lending.{IsKeepable}
use Rattle.ptpm_table.specs.Managers.{has_twice, identities}
use Rattle.ptpm_table.specs.Slots.{AreKeepable, configured, entry_in, slot_of, used}
use Rattle.ptpm_table.specs.declared.slot.Slot.{Slot}
use Rattle.ptpm_table.proofs.Identities.{identities_total}
use Rattle.ptpm_table.proofs.Slots.{get_used, known_slot}

abbrev Pair : Type 0
Pair = PortIdentity × Entry

abbrev pair_of : Slot → Pair
pair_of s = (s.kept.manager, s.kept.entry)

-- ---- at places

-- a slot, and its entry
pub record HasSlot (o : Option Slot) : Type 0 where
  pub slot : Slot
  pub is : o ≡ Some slot
  pub keepable : IsKeepable slot.kept.entry
  pub entry_is : entry_at o ≡ (slot.kept.manager, slot.kept.entry) ∷ []

slot_at : (o : Option Slot) → IsLendable o → HasSlot o
slot_at None h = absurd h
slot_at (Some s) h = record { slot = s; is = refl; keepable = h; entry_is = refl }

pub inside : (slots : List Slot) (p : ℕ) → IsLendable (slice_get slots p) → p < length slots
inside slots p h = let s = slot_at (slice_get slots p) h in slice_get_within slots p s.slot s.is

first_is : (slots : List Slot) (p : ℕ) (ps : List ℕ) (h : IsLendable (slice_get slots p))
    → entries_at slots (p ∷ ps) ≡ pair_of (slot_at (slice_get slots p) h).slot ∷ entries_at slots ps
first_is slots p ps h = ap (λ es. es ++ entries_at slots ps) (slot_at (slice_get slots p) h).entry_is

-- there are as many entries as places
pub count_at : (slots : List Slot) (ps : List ℕ) → AreLendable slots ps → length (entries_at slots ps) ≡ length ps
count_at slots [] h = refl
count_at slots (p ∷ ps) h =
    ap length (first_is slots p ps (All-head (λ q. IsLendable (slice_get slots q)) p ps h))
    ∙ ap suc (count_at slots ps (All-tail (λ q. IsLendable (slice_get slots q)) p ps h))

-- the entry at a place of the order
pub record HasEntryAt (slots : List Slot) (ps : List ℕ) (i : ℕ) : Type 0 where
  pub slot : Slot
  pub is : slice_get slots (get_or ps i 0) ≡ Some slot
  pub keepable : IsKeepable slot.kept.entry
  pub entry_is : slice_get (entries_at slots ps) i ≡ Some (slot.kept.manager, slot.kept.entry)

pub nth_entry : (slots : List Slot) (ps : List ℕ) (i : ℕ) → AreLendable slots ps → i < length ps → HasEntryAt slots ps i
nth_entry slots [] i h within = absurd (omega (arith, within))
nth_entry slots (p ∷ ps) zero h within =
    let own = All-head (λ q. IsLendable (slice_get slots q)) p ps h in
    let s = slot_at (slice_get slots p) own in
    record { slot = s.slot; is = s.is; keepable = s.keepable; entry_is = ap (λ es. slice_get es 0) (first_is slots p ps own) }
nth_entry slots (p ∷ ps) (suc i) h within =
    let own = All-head (λ q. IsLendable (slice_get slots q)) p ps h in
    let rest = nth_entry slots ps i (All-tail (λ q. IsLendable (slice_get slots q)) p ps h) (omega (arith, within)) in
    record {
      slot = rest.slot;
      is = rest.is;
      keepable = rest.keepable;
      entry_is = ap (λ es. slice_get es (suc i)) (first_is slots p ps own) ∙ rest.entry_is;
    }

-- the slot that was read at a place of the order
pub record IsRead (slots : List Slot) (ps : List ℕ) (i : ℕ) (s : Slot) : Type 0 where
  pub entry_is : slice_get (entries_at slots ps) i ≡ Some (s.kept.manager, s.kept.entry)
  pub keepable : IsKeepable s.kept.entry

pub read_slot : (slots : List Slot) (ps qs : List ℕ) (i : ℕ) (d : Slot)
    → AreLendable slots ps
    → i < length ps
    → qs ≡ ps
    → IsRead slots ps i (get_or slots (get_or qs i 0) d)
read_slot slots ps qs i d h within same =
    let e = nth_entry slots ps i h within in
    let own : e.slot ≡ get_or slots (get_or qs i 0) d =
    sym (ap (λ (l : List ℕ). get_or slots (get_or l i 0) d) same ∙ get_or_from_slice_get slots (get_or ps i 0) e.slot d e.is) in
    record {
      entry_is = e.entry_is ∙ ap (λ (t : Slot). Some (t.kept.manager, t.kept.entry)) own;
      keepable = subst (λ (t : Slot). IsKeepable t.kept.entry) own e.keepable;
    }

pub place_within : (slots : List Slot) (ps qs : List ℕ) (i : ℕ)
    → AreLendable slots ps
    → i < length ps
    → qs ≡ ps
    → get_or qs i 0 < length slots
place_within slots ps qs i h within same =
    let e = nth_entry slots ps i h within in
    subst (λ (l : List ℕ). get_or l i 0 < length slots) (sym same) (slice_get_within slots (get_or ps i 0) e.slot e.is)

-- ---- one more

rank_within : (who : PortIdentity) (es : List Pair) → rank who es ≤ length es
rank_within who [] = omega arith
rank_within who (e ∷ es) = elim (is_lt (identity_cmp who e.0)) as (λ b. cond b 0 (suc (rank who es)) ≤ suc (length es)) [
  | true ↦ omega arith
  | false ↦ let rest = rank_within who es in omega arith
]

some_none : (y : Entry) → Some y ≡ None → ⊥
some_none y h = cc

-- if no key ties, an entry is put after those that come before it
pub put_ranked : (who : PortIdentity) (x : Entry) (es : List Pair)
    → find identity_cmp who es ≡ None
    → put identity_cmp who x es ≡ insert es (rank who es) (who, x)
put_ranked who x [] none = refl
put_ranked who x (e ∷ es) none = split (put_ranked who x es) (identity_cmp who e.0) refl
  where
    split : (find identity_cmp who es ≡ None → put identity_cmp who x es ≡ insert es (rank who es) (who, x)) → (o : Ordering) → identity_cmp who e.0 ≡ o → put identity_cmp who x (e ∷ es) ≡ insert (e ∷ es) (rank who (e ∷ es)) (who, x)
    split rest Less is =
        ap (λ (r : Ordering). by_order r ((who, x) ∷ e ∷ es) ((e.0, x) ∷ es) (e ∷ put identity_cmp who x es)) is
        ∙ sym (ap (λ (r : Ordering). insert (e ∷ es) (cond (is_lt r) 0 (suc (rank who es))) (who, x)) is)
    split rest Equal is = absurd (some_none e.1 (sym (ap (λ (r : Ordering). cond (is_eq r) (Some e.1) (find identity_cmp who es)) is) ∙ none))
    split behind Greater is =
        let rest : find identity_cmp who es ≡ None = sym (ap (λ (r : Ordering). cond (is_eq r) (Some e.1) (find identity_cmp who es)) is) ∙ none in
        ap (λ (r : Ordering). by_order r ((who, x) ∷ e ∷ es) ((e.0, x) ∷ es) (e ∷ put identity_cmp who x es)) is
        ∙ ap (λ (l : List Pair). e ∷ l) (behind rest)
        ∙ sym (ap (λ (r : Ordering). insert (e ∷ es) (cond (is_lt r) 0 (suc (rank who es))) (who, x)) is)

-- an entry is put where its place is put
entries_insert : (slots : List Slot) (ps : List ℕ) (i p : ℕ) (s : Slot)
    → AreLendable slots ps
    → i ≤ length ps
    → slice_get slots p ≡ Some s
    → entries_at slots (insert ps i p) ≡ insert (entries_at slots ps) i (pair_of s)
entries_insert slots ps zero p s h within is = ap (λ o. entry_at o ++ entries_at slots ps) is
entries_insert slots [] (suc i) p s h within is = absurd (omega (arith, within))
entries_insert slots (q ∷ ps) (suc i) p s h within is =
    let own = All-head (λ q. IsLendable (slice_get slots q)) q ps h in
    first_is slots q (insert ps i p) own
    ∙ ap (λ (l : List Pair). pair_of (slot_at (slice_get slots q) own).slot ∷ l)
    (entries_insert slots ps i p s (All-tail (λ q. IsLendable (slice_get slots q)) q ps h) (omega (arith, within)) is)
    ∙ sym (ap (λ (l : List Pair). insert l (suc i) (pair_of s)) (first_is slots q ps own))

pub lendable_more : (slots : List Slot) (ps : List ℕ) (i p : ℕ)
    → AreLendable slots ps
    → IsLendable (slice_get slots p)
    → AreLendable slots (insert ps i p)
lendable_more slots ps i p h own =
    let P : ℕ → Type 0 = λ q. IsLendable (slice_get slots q) in
    All-append P (take i ps) (p ∷ drop i ps) (All-take P i ps h) (All-cons P p (drop i ps) own (All-drop P i ps h))

-- ---- slot by slot, from the last on

pub drop_here : (ss : List Slot) (i : ℕ) (s : Slot) → slice_get ss i ≡ Some s → drop i ss ≡ s ∷ drop (suc i) ss
drop_here [] i s is = absurd (cc)
drop_here (x ∷ ss) zero s is = let own : x ≡ s = same x s is in ap (λ (y : Slot). y ∷ ss) own
  where
    same : (x y : Slot) → Some x ≡ Some y → x ≡ y
    same x y e = cc
drop_here (x ∷ ss) (suc i) s is = drop_here ss i s is

distinct_drop : (ss : List Slot) (i : ℕ)
    → has_twice (identities (configured ss)) ≡ false
    → has_twice (identities (configured (drop i ss))) ≡ false
distinct_drop ss zero h = h
distinct_drop [] (suc i) h = h
distinct_drop (s ∷ ss) (suc i) h = distinct_drop ss i (or_parts _ _ h).1

-- the entries of the slots after this one; its manager is none of theirs
none_behind : (s : Slot) (ss : List Slot)
    → has_twice (identities (configured (s ∷ ss))) ≡ false
    → find identity_cmp s.kept.manager (entries (from_entries {R = identity_cmp} (used ss))) ≡ None
none_behind s ss distinct =
    let parts = or_parts _ _ distinct in
    let m = from_entries {R = identity_cmp} (used ss) in
    sym (get-entries m s.kept.manager) ∙ get_used s.kept.manager ss parts.1
    ∙ ap entry_in (no_slot (slot_of s.kept.manager ss) (sym (known_slot s.kept.manager ss) ∙ parts.0))
  where
    no_slot : (o : Option Slot) → is_some o ≡ false → o ≡ None
    no_slot None h = refl
    no_slot (Some t) h = absurd (cc)

-- the entries of the slots from one on, in order
abbrev pub sorted_from : List Slot → ℕ → List (PortIdentity × Entry)
sorted_from ss i = entries (from_entries {R = identity_cmp} (used (drop i ss)))

pub none_left : (ss : List Slot) → sorted_from ss (length ss) ≡ []
none_left ss =
    ap (λ ts. entries (from_entries {R = identity_cmp} (used ts))) (drop_all (length ss) ss (omega arith))
    ∙ nil_from_length _ (sym (len-entries _) ∙ len-empty identity_cmp Entry)

pub skipped : (ss : List Slot) (i : ℕ) (s : Slot)
    → slice_get ss i ≡ Some s
    → s.taken ≡ false
    → sorted_from ss i ≡ sorted_from ss (suc i)
skipped ss i s is free =
    ap (λ ts. entries (from_entries {R = identity_cmp} (used ts))) (drop_here ss i s is)
    ∙ ap (λ es. entries (from_entries {R = identity_cmp} es)) (cond-false s.taken _ _ free)

pub placed : (ss : List Slot) (i : ℕ) (s : Slot) (ps : List ℕ)
    → has_twice (identities (configured ss)) ≡ false
    → slice_get ss i ≡ Some s
    → s.taken ≡ true
    → AreLendable ss ps
    → entries_at ss ps ≡ sorted_from ss (suc i)
    → entries_at ss (insert ps (rank s.kept.manager (entries_at ss ps)) i) ≡ sorted_from ss i
placed ss i s ps distinct is taken lendable behind =
    let rest = drop (suc i) ss in
    let m = from_entries {R = identity_cmp} (used rest) in
    let here = drop_here ss i s is in
    let apart : has_twice (identities (configured (s ∷ rest))) ≡ false =
    subst (λ ts. has_twice (identities (configured ts)) ≡ false) here (distinct_drop ss i distinct) in
    let none : find identity_cmp s.kept.manager (entries_at ss ps) ≡ None =
    ap (find identity_cmp s.kept.manager) behind ∙ none_behind s rest apart in
    let within : rank s.kept.manager (entries_at ss ps) ≤ length ps =
    subst (λ n. rank s.kept.manager (entries_at ss ps) ≤ n) (count_at ss ps lendable) (rank_within s.kept.manager (entries_at ss ps)) in
    entries_insert ss ps (rank s.kept.manager (entries_at ss ps)) i s lendable within is
    ∙ sym (put_ranked s.kept.manager s.kept.entry (entries_at ss ps) none)
    ∙ ap (put identity_cmp s.kept.manager s.kept.entry) behind
    ∙ sym (entries-insert identities_total m s.kept.manager s.kept.entry)
    ∙ sym (ap (λ es. entries (from_entries {R = identity_cmp} es)) (cond-true s.taken _ _ taken))
    ∙ sym (ap (λ ts. entries (from_entries {R = identity_cmp} (used ts))) here)

-- a slot in use can be lent
pub lendable_slot : (ss : List Slot) (i : ℕ) (s : Slot)
    → AreKeepable ss
    → slice_get ss i ≡ Some s
    → s.taken ≡ true
    → IsLendable (slice_get ss i)
lendable_slot ss i s keepable is taken =
    let here : get_or ss i s ≡ s = same (get_or ss i s) s (sym (slice_get-get_or ss i s (slice_get_within ss i s is)) ∙ is) in
    subst IsLendable (sym is)
    (subst (λ (t : Slot). IsKeepable t.kept.entry) here
    (keepable i s (slice_get_within ss i s is) (subst (λ (t : Slot). t.taken ≡ true) (sym here) taken)))
  where
    same : (x y : Slot) → Some x ≡ Some y → x ≡ y
    same x y e = cc
