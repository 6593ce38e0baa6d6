-- The entries of a table in the order of their managers: which of them comes next.
use Rattle.std.proofs.Common.{suc, zero, arith, ◌≡◌, ℕ, ◌<◌, ◌≤◌, Bool, true, false, cond, refl, sym, ◌∙◌, ap, subst, List, [], ◌∷◌, length, drop, Option, Some, None, ◌&&◌, slice_get, ◌+◌, All}
use Rattle.std.proofs.lemmas.Bool.{and_parts}
use Rattle.std.proofs.lemmas.Option.{slice_get_within}
use Rattle.std.proofs.lemmas.Cmp.{tied_itself}
use Rattle.std.specs.Prelude.{option_map, T}
use Rattle.std.specs.FinMap.{entries, entries_sorted, find, get, get-entries, is_sorted, empty, get-empty, get-insert, insert, same_map}
use Rattle.std.specs.Ordering.{is_eq, is_lt, ordering_reverse, eq_by_cmp}
use Rattle.std.specs.declared.cmp.Ordering.{Ordering}
use Rattle.std.specs.declared.cmp.Ordering.TheVariants.{Equal, Greater, Less}
use Rattle.ptpm_codec.specs.declared.identity.PortIdentity.{PortIdentity}
use Rattle.ptpm_codec.specs.Identity.{identity_cmp}
use Rattle.ptpm_table.specs.Entries.{Entries, Entry, is_known}
use Rattle.ptpm_table.specs.Lending.{HasNoneAfter, IsAfter, IsNext, ManagerEntry}
use Rattle.ptpm_table.proofs.Identities.{exact_identities, identities_total, tied_identities}
use Rattle.std.proofs.lemmas.List.Elements.{All-head, All-tail}
use Rattle.ptpm_codec.proofs.MessageLaws.{same_identity-true}
use Rattle.ptpm_saved.specs.Restoring.{kept_by, kept_of, let_go}

abbrev pub Pair : Type 0
Pair = PortIdentity × Entry

pub same_Some : {A : Type 0} (x y : A) → Some x ≡ Some y → x ≡ y
same_Some x y e = cc

pub lt_less : (o : Ordering) → is_lt o ≡ true → o ≡ Less
lt_less Less h = refl
lt_less Equal h = absurd (cc)
lt_less Greater h = absurd (cc)

true_of : (b : Bool) → T b → b ≡ true
true_of true h = refl
true_of false h = absurd h

pub sorted_entries : (m : Entries) → is_sorted identity_cmp (entries m) ≡ true
sorted_entries m = true_of _ (entries_sorted m)

-- ---- lists in order

abbrev pub below_all : PortIdentity → List Pair → Bool
below_all p [] = true
below_all p (e ∷ es) = is_lt (identity_cmp p e.0) && below_all p es

pub sorted_parts : (e : Pair) (es : List Pair)
    → is_sorted identity_cmp (e ∷ es) ≡ true
    → (below_all e.0 es ≡ true) × (is_sorted identity_cmp es ≡ true)
sorted_parts e es h = and_parts (below_all e.0 es) (is_sorted identity_cmp es) h

pub below_at : (p : PortIdentity) (es : List Pair) (i : ℕ) (e : Pair)
    → below_all p es ≡ true
    → slice_get es i ≡ Some e
    → identity_cmp p e.0 ≡ Less
below_at p [] i e h is = absurd (cc)
below_at p (x ∷ es) zero e h is =
    subst (λ (y : Pair). identity_cmp p y.0 ≡ Less) (same_Some x e is) (lt_less _ (and_parts (is_lt (identity_cmp p x.0)) (below_all p es) h).0)
below_at p (x ∷ es) (suc i) e h is = below_at p es i e (and_parts (is_lt (identity_cmp p x.0)) (below_all p es) h).1 is

-- the manager of the entry before a place, if there is one
abbrev pub after_at : List Pair → ℕ → Option PortIdentity
after_at es zero = None
after_at es (suc i) = option_map (λ e. e.0) (slice_get es i)

after_own : (es : List Pair) (i : ℕ) (e : Pair)
    → is_sorted identity_cmp es ≡ true
    → slice_get es i ≡ Some e
    → IsAfter (after_at es i) e.0
after_own es zero e h is = tt
after_own [] (suc i) e h is = absurd (cc)
after_own (x ∷ es) (suc zero) e h is = below_at x.0 es 0 e (sorted_parts x es h).0 is
after_own (x ∷ es) (suc (suc i)) e h is = after_own es (suc i) e (sorted_parts x es h).1 is

find_other : (q : PortIdentity) (e : Pair) (es : List Pair)
    → identity_cmp e.0 q ≡ Less
    → find identity_cmp q (e ∷ es) ≡ find identity_cmp q es
find_other q e es h =
    let back : identity_cmp q e.0 ≡ Greater = identities_total.antisymm q e.0 ∙ ap ordering_reverse h in
    ap (λ o. cond (is_eq o) (Some e.1) (find identity_cmp q es)) back

pub split_at : (es : List Pair) (i : ℕ)
    → i < length es
    → (e : Pair) × (slice_get es i ≡ Some e) × (drop i es ≡ e ∷ drop (suc i) es)
split_at [] i inside = absurd (omega (arith, inside))
split_at (x ∷ es) zero inside = (x, refl, refl)
split_at (x ∷ es) (suc i) inside = split_at es i (omega (arith, inside))

-- a manager that comes after the first entries of a list is found among the others
find_behind : (es : List Pair) (i : ℕ) (q : PortIdentity)
    → is_sorted identity_cmp es ≡ true
    → i ≤ length es
    → IsAfter (after_at es i) q
    → find identity_cmp q es ≡ find identity_cmp q (drop i es)
find_behind es zero q h inside after = refl
find_behind [] (suc i) q h inside after = absurd (omega (arith, inside))
find_behind (x ∷ es) (suc zero) q h inside after = find_other q x es after
find_behind (x ∷ es) (suc (suc i)) q h inside after =
    let parts = sorted_parts x es h in
    let s = split_at es i (omega (arith, inside)) in
    let last : identity_cmp s.0.0 q ≡ Less = subst (λ (o : Option Pair). IsAfter (option_map (λ e. e.0) o) q) s.1 after in
    find_other q x es (identities_total.trans x.0 s.0.0 q (below_at x.0 es i s.0 parts.0 s.1) last)
    ∙ find_behind es (suc i) q parts.1 (omega (arith, inside)) after

sorted_drop : (es : List Pair) (i : ℕ)
    → is_sorted identity_cmp es ≡ true
    → is_sorted identity_cmp (drop i es) ≡ true
sorted_drop es zero h = h
sorted_drop [] (suc i) h = h
sorted_drop (x ∷ es) (suc i) h = sorted_drop es i (sorted_parts x es h).1

-- a manager before all of a list is not found in it
pub find_less : (q : PortIdentity) (es : List Pair)
    → ((j : ℕ) (e : Pair) → slice_get es j ≡ Some e → identity_cmp q e.0 ≡ Less)
    → find identity_cmp q es ≡ None
find_less q [] h = refl
find_less q (e ∷ es) h =
    ap (λ o. cond (is_eq o) (Some e.1) (find identity_cmp q es)) (h 0 e refl) ∙ find_less q es (λ j f is. h (suc j) f is)

find_before : (q : PortIdentity) (e : Pair) (es : List Pair)
    → is_sorted identity_cmp (e ∷ es) ≡ true
    → identity_cmp q e.0 ≡ Less
    → find identity_cmp q (e ∷ es) ≡ None
find_before q e es h less =
    ap (λ o. cond (is_eq o) (Some e.1) (find identity_cmp q es)) less
    ∙ find_less q es (λ j f is. identities_total.trans q e.0 f.0 less (below_at e.0 es j f (sorted_parts e es h).0 is))

find_own : (e : Pair) (es : List Pair) → find identity_cmp e.0 (e ∷ es) ≡ Some e.1
find_own e es = ap (λ o. cond (is_eq o) (Some e.1) (find identity_cmp e.0 es)) (tied_itself identities_total e.0)

-- ---- the next of a table

-- what the table has at each place
pub get_at : (m : Entries) (i : ℕ) (e : Pair)
    → slice_get (entries m) i ≡ Some e
    → get m e.0 ≡ Some e.1
get_at m i e is =
    let inside : i < length (entries m) = slice_get_within (entries m) i e is in
    let s = split_at (entries m) i inside in
    let own : s.0 ≡ e = same_Some s.0 e (sym s.1 ∙ is) in
    get-entries m e.0
    ∙ find_behind (entries m) i e.0 (sorted_entries m) (omega (arith, inside)) (after_own (entries m) i e (sorted_entries m) is)
    ∙ ap (find identity_cmp e.0) (s.2 ∙ ap (λ (x : Pair). x ∷ drop (suc i) (entries m)) own)
    ∙ find_own e (drop (suc i) (entries m))

pub none_next : (m : Entries) (i : ℕ)
    → i < length (entries m)
    → HasNoneAfter m (after_at (entries m) i)
    → ⊥
none_next m i inside none =
    let s = split_at (entries m) i inside in
    let nothing : get m s.0.0 ≡ None = none s.0.0 (after_own (entries m) i s.0 (sorted_entries m) s.1) in
    not_None s.0.1 (sym (get_at m i s.0 s.1) ∙ nothing)
  where
    not_None : (x : Entry) → Some x ≡ None → ⊥
    not_None x e = cc

pub next_is : (m : Entries) (i : ℕ) (x : ManagerEntry)
    → i < length (entries m)
    → IsNext m (after_at (entries m) i) x
    → slice_get (entries m) i ≡ Some (x.manager, x.entry)
next_is m i x inside next = by_order (identity_cmp x.manager s.0.0) refl
  where
    s : (e : Pair) × (slice_get (entries m) i ≡ Some e) × (drop i (entries m) ≡ e ∷ drop (suc i) (entries m))
    s = split_at (entries m) i inside

    own : IsAfter (after_at (entries m) i) s.0.0
    own = after_own (entries m) i s.0 (sorted_entries m) s.1

    behind : is_sorted identity_cmp (s.0 ∷ drop (suc i) (entries m)) ≡ true
    behind = subst (λ es. is_sorted identity_cmp es ≡ true) s.2 (sorted_drop (entries m) i (sorted_entries m))

    found : find identity_cmp x.manager (s.0 ∷ drop (suc i) (entries m)) ≡ Some x.entry
    found =
        ap (find identity_cmp x.manager) (sym s.2)
        ∙ sym (find_behind (entries m) i x.manager (sorted_entries m) (omega (arith, inside)) next.comes_after)
        ∙ sym (get-entries m x.manager) ∙ next.kept

    not_None : (e : Entry) → Some e ≡ None → ⊥
    not_None e is = cc

    by_order : (o : Ordering) → identity_cmp x.manager s.0.0 ≡ o → slice_get (entries m) i ≡ Some (x.manager, x.entry)
    by_order Less is = absurd (not_None x.entry (sym found ∙ find_before x.manager s.0 (drop (suc i) (entries m)) behind is))
    by_order Equal is =
        let manager : x.manager ≡ s.0.0 = exact_identities x.manager s.0.0 is in
        let entry : x.entry ≡ s.0.1 = same_Some x.entry s.0.1 (sym next.kept ∙ ap (get m) manager ∙ get_at m i s.0 s.1) in
        s.1 ∙ (λ j. Some (sym manager j, sym entry j))
    by_order Greater is =
        let less : identity_cmp s.0.0 x.manager ≡ Less = identities_total.antisymm s.0.0 x.manager ∙ ap ordering_reverse is in
        absurd (not_None s.0.1 (sym (get_at m i s.0 s.1) ∙ next.first s.0.0 own less))

-- ---- so far

pub after_next : (es : List Pair) (i : ℕ) (e : Pair) → slice_get es i ≡ Some e → Some e.0 ≡ after_at es (suc i)
after_next es i e is = ap (option_map (λ (x : Pair). x.0)) (sym is)

-- ---- the entries of a table whose managers are all configured make the table again

abbrev pub AreKnown : List PortIdentity → List Pair → Type 0
AreKnown ms es = All (λ e. is_known e.0 ms ≡ true) es

or_else : Option Entry → Option Entry → Option Entry
or_else None o = o
or_else (Some e) o = Some e

none_of_own : (e : Pair) (es : List Pair) → is_sorted identity_cmp (e ∷ es) ≡ true → find identity_cmp e.0 es ≡ None
none_of_own e es h = find_less e.0 es (λ j f is. below_at e.0 es j f (sorted_parts e es h).0 is)

-- what is kept is found among the entries, or was there before
get_kept : (ms : List PortIdentity) (es : List Pair) (m : Entries) (q : PortIdentity)
    → is_sorted identity_cmp es ≡ true
    → AreKnown ms es
    → get (kept_of ms es m) q ≡ or_else (find identity_cmp q es) (get m q)
unfolding or_else
get_kept ms [] m q h known = refl
get_kept ms (e ∷ es) m q h known =
    ap (λ b. get (kept_of ms es (kept_by b m e)) q) (All-head (λ (x : Pair). is_known x.0 ms ≡ true) e es known)
    ∙ get_kept ms es (insert m e.0 e.1) q (sorted_parts e es h).1 (All-tail (λ (x : Pair). is_known x.0 ms ≡ true) e es known)
    ∙ ap (or_else (find identity_cmp q es)) (get-insert identities_total m e.0 e.1 q)
    ∙ by_test (eq_by_cmp identity_cmp q e.0) refl
  where
    by_test : (b : Bool) → eq_by_cmp identity_cmp q e.0 ≡ b
        → or_else (find identity_cmp q es) (cond (eq_by_cmp identity_cmp q e.0) (Some e.1) (get m q))
        ≡ or_else (cond (eq_by_cmp identity_cmp q e.0) (Some e.1) (find identity_cmp q es)) (get m q)
    by_test true is =
        let own : q ≡ e.0 = same_identity-true q e.0 (sym (tied_identities q e.0) ∙ is) in
        let nothing : find identity_cmp q es ≡ None = ap (λ p. find identity_cmp p es) own ∙ none_of_own e es h in
        (λ i. or_else (nothing i) (cond (is i) (Some e.1) (get m q)))
        ∙ sym (ap (λ b. or_else (cond b (Some e.1) (find identity_cmp q es)) (get m q)) is)
    by_test false is =
        ap (λ b. or_else (find identity_cmp q es) (cond b (Some e.1) (get m q))) is
        ∙ sym (ap (λ b. or_else (cond b (Some e.1) (find identity_cmp q es)) (get m q)) is)

or_none : (o : Option Entry) → or_else o None ≡ o
unfolding or_else
or_none None = refl
or_none (Some e) = refl

pub kept_all : (ms : List PortIdentity) (m : Entries)
    → AreKnown ms (entries m)
    → kept_of ms (entries m) empty ≡ m
kept_all ms m known =
    same_map identities_total exact_identities _ _ (λ q.
    get_kept ms (entries m) empty q (sorted_entries m) known
    ∙ ap (or_else (find identity_cmp q (entries m))) (get-empty identity_cmp q)
    ∙ or_none (find identity_cmp q (entries m))
    ∙ sym (get-entries m q))

pub none_gone : (ms : List PortIdentity) (es : List Pair)
    → AreKnown ms es
    → let_go ms es ≡ 0
none_gone ms [] known = refl
none_gone ms (e ∷ es) known =
    ap (λ b. cond b (let_go ms es) (1 + let_go ms es)) (All-head (λ (x : Pair). is_known x.0 ms ≡ true) e es known)
    ∙ none_gone ms es (All-tail (λ (x : Pair). is_known x.0 ms ≡ true) e es known)
