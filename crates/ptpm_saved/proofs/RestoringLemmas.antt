-- What was read of the entries of an image, one after the other.
use Rattle.std.proofs.Common.{suc, arith, ◌≡◌, ℕ, ◌+◌, ◌<◌, ◌≤◌, Bool, true, false, cond, refl, sym, ◌∙◌, ap, subst, List, [], ◌∷◌, ◌++◌, length, Option, Some, None, slice_get, get_or, take, drop, All, append_assoc, append-nil, length-append}
use Rattle.std.proofs.lemmas.Bool.{and_from, and_parts, false≢true}
use Rattle.std.proofs.lemmas.Bool.Decides.{nat_tests}
use Rattle.std.proofs.lemmas.List.{take_all, take_more}
use Rattle.std.proofs.lemmas.Option.{get_or_from_slice_get}
use Rattle.std.proofs.lemmas.List.Elements.{All-head, All-nil, All-push, All-tail}
use Rattle.std.specs.FinMap.{is_sorted}
use Rattle.std.specs.Prelude.{◌==◌, option_map}
use Rattle.std.specs.List.{flat_map}
use Rattle.std.specs.Ordering.{is_lt}
use Rattle.std.specs.declared.cmp.Ordering.TheVariants.{Less}
use Rattle.ptpm_codec.specs.declared.identity.PortIdentity.{PortIdentity}
use Rattle.ptpm_codec.specs.Identity.{identity_cmp}
use Rattle.ptpm_table.specs.declared.managers.TheConstants.{MOST_MANAGERS}
use Rattle.ptpm_table.specs.Entries.{Entries, HaveAnswers, is_known}
use Rattle.ptpm_table.specs.Lending.{IsAfter}
use Rattle.ptpm_table.proofs.Identities.{identities_total}
use Rattle.ptpm_saved.specs.Image.{AreEntries, EntryIsSound, entries_image, entry_image}
use Rattle.ptpm_saved.specs.Restoring.{IsRestored, kept_by, kept_of, let_go}
use Rattle.ptpm_saved.proofs.EntryOrder.{Pair, after_at, below_all, below_at, sorted_parts, split_at}

-- ---- one more

images-append : (es fs : List Pair) → entries_image (es ++ fs) ≡ entries_image es ++ entries_image fs
unfolding entries_image
images-append [] fs = refl
images-append (e ∷ es) fs = ap (λ s. entry_image e ++ s) (images-append es fs) ∙ sym (append_assoc (entry_image e) (flat_map entry_image es) (flat_map entry_image fs))

image-cons : (e : Pair) (es : List Pair) → entries_image (e ∷ es) ≡ entry_image e ++ entries_image es
unfolding entries_image
image-cons e es = refl

image-nil : entries_image [] ≡ []
unfolding entries_image
image-nil = refl

kept-append : (ms : List PortIdentity) (es : List Pair) (e : Pair) (m : Entries)
    → kept_of ms (es ++ e ∷ []) m ≡ kept_by (is_known e.0 ms) (kept_of ms es m) e
kept-append ms [] e m = refl
kept-append ms (x ∷ es) e m = kept-append ms es e (kept_by (is_known x.0 ms) m x)

gone-append : (ms : List PortIdentity) (es : List Pair) (e : Pair)
    → let_go ms (es ++ e ∷ []) ≡ cond (is_known e.0 ms) (let_go ms es) (let_go ms es + 1)
gone-append ms [] e = ends (is_known e.0 ms)
  where
    ends : (b : Bool) → cond b 0 (1 + 0) ≡ cond b 0 (0 + 1)
    ends true = refl
    ends false = refl
gone-append ms (x ∷ es) e = by_first (is_known x.0 ms) (is_known e.0 ms) (gone-append ms es e)
  where
    by_first : (a b : Bool) → let_go ms (es ++ e ∷ []) ≡ cond b (let_go ms es) (let_go ms es + 1)
        → cond a (let_go ms (es ++ e ∷ [])) (1 + let_go ms (es ++ e ∷ [])) ≡ cond b (cond a (let_go ms es) (1 + let_go ms es)) (cond a (let_go ms es) (1 + let_go ms es) + 1)
    by_first true true h = h
    by_first true false h = h
    by_first false true h = ap (λ n. 1 + n) h
    by_first false false h = omega (arith, h)

-- ---- in order

below_push : (p : PortIdentity) (es : List Pair) (e : Pair)
    → below_all p es ≡ true
    → identity_cmp p e.0 ≡ Less
    → below_all p (es ++ e ∷ []) ≡ true
below_push p [] e h less = and_from _ _ (ap is_lt less) refl
below_push p (x ∷ es) e h less =
    let parts = and_parts (is_lt (identity_cmp p x.0)) (below_all p es) h in and_from _ _ parts.0 (below_push p es e parts.1 less)

-- the first of a list in order comes before what comes after its last
first_before : (x : Pair) (es : List Pair) (q : PortIdentity)
    → is_sorted identity_cmp (x ∷ es) ≡ true
    → IsAfter (after_at (x ∷ es) (suc (length es))) q
    → identity_cmp x.0 q ≡ Less
first_before x [] q h after = after
first_before x (y ∷ es) q h after =
    let parts = sorted_parts x (y ∷ es) h in
    identities_total.trans x.0 y.0 q (below_at x.0 (y ∷ es) 0 y parts.0 refl) (first_before y es q parts.1 after)

sorted_push : (es : List Pair) (e : Pair)
    → is_sorted identity_cmp es ≡ true
    → IsAfter (after_at es (length es)) e.0
    → is_sorted identity_cmp (es ++ e ∷ []) ≡ true
sorted_push [] e h after = refl
sorted_push (x ∷ []) e h after = and_from _ _ (below_push x.0 [] e refl after) refl
sorted_push (x ∷ y ∷ es) e h after =
    let parts = sorted_parts x (y ∷ es) h in
    and_from _ _ (below_push x.0 (y ∷ es) e parts.0 (first_before x (y ∷ es) e.0 h after)) (sorted_push (y ∷ es) e parts.1 after)

-- an element of a list in order comes after those before it
sorted_after : (es : List Pair) (e : Pair) (more : List Pair)
    → is_sorted identity_cmp (es ++ e ∷ more) ≡ true
    → IsAfter (after_at es (length es)) e.0
sorted_after [] e more h = tt
sorted_after (x ∷ []) e more h = below_at x.0 (e ∷ more) 0 e (sorted_parts x (e ∷ more) h).0 refl
sorted_after (x ∷ y ∷ es) e more h = sorted_after (y ∷ es) e more (sorted_parts x ((y ∷ es) ++ e ∷ more) h).1

last_after : (es : List Pair) (e : Pair) → Some e.0 ≡ after_at (es ++ e ∷ []) (length es + 1)
last_after es e = ap (λ o. option_map (λ (x : Pair). x.0) o) (sym (at_end es e)) ∙ ap (after_at (es ++ e ∷ [])) (sym (one_more (length es)))
  where
    at_end : (es : List Pair) (e : Pair) → slice_get (es ++ e ∷ []) (length es) ≡ Some e
    at_end [] e = refl
    at_end (x ∷ es) e = at_end es e

    one_more : (n : ℕ) → n + 1 ≡ suc n
    one_more n = omega arith

-- ---- so far

-- Of this many entries in these octets the first ones were read. Whoever reads the octets as entries reads these
-- first.
pub record IsReadSoFar (most : ℕ) (octets : List ℕ) (count place : ℕ) (rest : List ℕ) (last : Option PortIdentity) : Type 0 where
  pub read : List Pair
  pub size : length read ≡ place
  pub octets_are : octets ≡ entries_image read ++ rest
  pub ascending : is_sorted identity_cmp read ≡ true
  pub sound : All (EntryIsSound most) read
  pub last_is : last ≡ after_at read place
  pub found : (es : List Pair) → AreEntries most es → length es ≡ count → octets ≡ entries_image es
      → (more : List Pair) × (es ≡ read ++ more) × (rest ≡ entries_image more)

pub none_read : (most : ℕ) (octets : List ℕ) (count : ℕ) → IsReadSoFar most octets count 0 octets None
none_read most octets count = record {
  read = [];
  size = refl;
  octets_are = ap (λ s. s ++ octets) (sym image-nil);
  ascending = refl;
  sound = All-nil (EntryIsSound most);
  last_is = refl;
  found = λ es entries size is. (es, refl, is);
}

-- what follows is not empty, and begins with an entry
abbrev pub Follows : List Pair → List ℕ → Type 0
Follows more rest = (e : Pair) × (others : List Pair) × (more ≡ e ∷ others) × (rest ≡ entry_image e ++ entries_image others)

follows : (read more es : List Pair) (count place : ℕ) (rest : List ℕ)
    → es ≡ read ++ more
    → length es ≡ count
    → length read ≡ place
    → place < count
    → rest ≡ entries_image more
    → Follows more rest
follows read [] es count place rest is size so_far less rests =
    absurd (omega (arith, ap length is, length-append read [], size, so_far, less))
follows read (e ∷ more) es count place rest is size so_far less rests = (e, more, refl, rests ∙ image-cons e more)

sound_of : (most : ℕ) (read more : List Pair) (e : Pair) → All (EntryIsSound most) (read ++ e ∷ more) → EntryIsSound most e
sound_of most [] more e all = All-head (EntryIsSound most) e more all
sound_of most (x ∷ read) more e all = sound_of most read more e (All-tail (EntryIsSound most) x (read ++ e ∷ more) all)

-- no entry comes first: so these are no entries
pub cut_short : (most : ℕ) (octets : List ℕ) (count place : ℕ) (rest : List ℕ) (last : Option PortIdentity)
    → IsReadSoFar most octets count place rest last
    → place < count
    → ((e : Pair) (others : List ℕ) → EntryIsSound most e → rest ≡ entry_image e ++ others → ⊥)
    → (es : List Pair) → AreEntries most es → length es ≡ count → octets ≡ entries_image es → ⊥
cut_short most octets count place rest last h less none es entries size is =
    let f = h.found es entries size is in
    let g = follows h.read f.0 es count place rest f.1 size h.size less f.2 in
    none g.0 (entries_image g.1)
    (sound_of most h.read g.1 g.0 (subst (All (EntryIsSound most)) (f.1 ∙ ap (λ m. h.read ++ m) g.2) entries.sound)) g.3

-- an entry comes first, and is not after the last one: so these are no entries
pub out_of_order : (most : ℕ) (octets : List ℕ) (count place : ℕ) (rest : List ℕ) (last : Option PortIdentity) (e : Pair) (next : List ℕ)
    → IsReadSoFar most octets count place rest last
    → place < count
    → ((d : Pair) (others : List ℕ) → EntryIsSound most d → rest ≡ entry_image d ++ others → (e ≡ d) × (next ≡ others))
    → (IsAfter last e.0 → ⊥)
    → (es : List Pair) → AreEntries most es → length es ≡ count → octets ≡ entries_image es → ⊥
out_of_order most octets count place rest last e next h less same not_after es entries size is =
    let f = h.found es entries size is in
    let g = follows h.read f.0 es count place rest f.1 size h.size less f.2 in
    let all : es ≡ h.read ++ g.0 ∷ g.1 = f.1 ∙ ap (λ m. h.read ++ m) g.2 in
    let own = same g.0 (entries_image g.1) (sound_of most h.read g.1 g.0 (subst (All (EntryIsSound most)) all entries.sound)) g.3 in
    not_after
    (subst (λ (o : Option PortIdentity). IsAfter o e.0) (sym (h.last_is ∙ ap (after_at h.read) (sym h.size)))
    (subst (λ (d : Pair). IsAfter (after_at h.read (length h.read)) d.0) (sym own.0)
    (sorted_after h.read g.0 g.1 (subst (λ l. is_sorted identity_cmp l ≡ true) all entries.ascending))))

-- one more entry
pub read_on : (most : ℕ) (octets : List ℕ) (count place : ℕ) (rest next : List ℕ) (last : Option PortIdentity) (e : Pair)
    → IsReadSoFar most octets count place rest last
    → place < count
    → rest ≡ entry_image e ++ next
    → EntryIsSound most e
    → ((d : Pair) (others : List ℕ) → EntryIsSound most d → rest ≡ entry_image d ++ others → (e ≡ d) × (next ≡ others))
    → IsAfter last e.0
    → IsReadSoFar most octets count (place + 1) next (Some e.0)
read_on most octets count place rest next last e h less is sound same comes = record {
  read = h.read ++ e ∷ [];
  size = omega (arith, length-append h.read (e ∷ []), h.size);
  octets_are =
      h.octets_are ∙ ap (λ s. entries_image h.read ++ s) is ∙ sym (append_assoc (entries_image h.read) (entry_image e) next)
      ∙ ap (λ s. s ++ next) (sym (images-append h.read (e ∷ []) ∙ ap (λ s. entries_image h.read ++ s) (alone e)));
  ascending = sorted_push h.read e h.ascending
      (subst (λ (o : Option PortIdentity). IsAfter o e.0) (h.last_is ∙ ap (after_at h.read) (sym h.size)) comes);
  sound = All-push (EntryIsSound most) h.read e h.sound sound;
  last_is = last_after h.read e ∙ ap (λ n. after_at (h.read ++ e ∷ []) (n + 1)) h.size;
  found = λ es entries size all.
      let f = h.found es entries size all in
      let g = follows h.read f.0 es count place rest f.1 size h.size less f.2 in
      let whole : es ≡ h.read ++ g.0 ∷ g.1 = f.1 ∙ ap (λ m. h.read ++ m) g.2 in
      let own = same g.0 (entries_image g.1) (sound_of most h.read g.1 g.0 (subst (All (EntryIsSound most)) whole entries.sound)) g.3 in
      (g.1, whole ∙ ap (λ (d : Pair). h.read ++ d ∷ g.1) (sym own.0) ∙ sym (append_assoc h.read (e ∷ []) g.1), own.1);
}
  where
    alone : (e : Pair) → entries_image (e ∷ []) ≡ entry_image e
    alone e = image-cons e [] ∙ ap (λ s. entry_image e ++ s) image-nil ∙ append-nil (entry_image e)

-- ---- at the end

-- all were read
pub record IsWhole (most : ℕ) (octets : List ℕ) (count : ℕ) : Type 0 where
  pub es : List Pair
  pub entries : AreEntries most es
  pub size : length es ≡ count
  pub octets_are : octets ≡ entries_image es

pub read_whole : (most : ℕ) (octets : List ℕ) (count place : ℕ) (rest : List ℕ) (last : Option PortIdentity)
    → IsReadSoFar most octets count place rest last
    → place ≡ count
    → count ≤ MOST_MANAGERS
    → rest ≡ []
    → IsWhole most octets count
read_whole most octets count place rest last h all few end = record {
  es = h.read;
  entries = record { few = omega (arith, h.size, all, few); ascending = h.ascending; sound = h.sound };
  size = h.size ∙ all;
  octets_are = h.octets_are ∙ ap (λ s. entries_image h.read ++ s) end ∙ append-nil (entries_image h.read);
}

-- whoever reads the octets as entries has read all
pub found_whole : (most : ℕ) (octets : List ℕ) (count place : ℕ) (rest : List ℕ) (last : Option PortIdentity)
    → IsReadSoFar most octets count place rest last
    → place ≡ count
    → (es : List Pair) → AreEntries most es → length es ≡ count → octets ≡ entries_image es → rest ≡ []
found_whole most octets count place rest last h all es entries size is =
    let f = h.found es entries size is in
    let none : f.0 ≡ [] = no_more f.0 (omega (arith, ap length f.1, length-append h.read f.0, size, h.size, all)) in
    f.2 ∙ ap entries_image none ∙ image-nil
  where
    no_more : (l : List Pair) → length l ≡ 0 → l ≡ []
    no_more [] is = refl
    no_more (x ∷ l) is = absurd (omega (arith, is))

-- ---- kept, one after the other

-- of these entries the first ones were put into a table, and these octets are those of the others
pub record IsKeptSoFar (ms : List PortIdentity) (es : List Pair) (place : ℕ) (rest : List ℕ) (before after : Entries) (gone : ℕ) : Type 0 where
  pub rest_is : rest ≡ entries_image (drop place es)
  pub entries : after ≡ kept_of ms (take place es) before
  pub gone_is : gone ≡ let_go ms (take place es)

pub none_kept : (ms : List PortIdentity) (es : List Pair) (octets : List ℕ) (before : Entries)
    → octets ≡ entries_image es
    → IsKeptSoFar ms es 0 octets before before 0
none_kept ms es octets before is = record { rest_is = is; entries = refl; gone_is = refl }

-- the entry at a place, before the octets of those after it
pub record IsInFront (most : ℕ) (es : List Pair) (place : ℕ) (rest : List ℕ) : Type 0 where
  pub entry : Pair
  pub there : slice_get es place ≡ Some entry
  pub sound : EntryIsSound most entry
  pub octets_are : rest ≡ entry_image entry ++ entries_image (drop (suc place) es)

pub in_front : (most : ℕ) (es : List Pair) (place : ℕ) (rest : List ℕ)
    → AreEntries most es
    → place < length es
    → rest ≡ entries_image (drop place es)
    → IsInFront most es place rest
in_front most es place rest entries inside is =
    let s = split_at es place inside in
    record {
      entry = s.0;
      there = s.1;
      sound = subst (EntryIsSound most) (get_or_from_slice_get es place s.0 s.0 s.1) (entries.sound place s.0 inside);
      octets_are = is ∙ ap entries_image s.2 ∙ image-cons s.0 (drop (suc place) es);
    }

pub keep_on : (most : ℕ) (ms : List PortIdentity) (es : List Pair) (place : ℕ) (rest next : List ℕ) (before after new : Entries) (gone gone' : ℕ)
    (e : Pair)
    → IsKeptSoFar ms es place rest before after gone
    → AreEntries most es
    → place < length es
    → ((d : Pair) (others : List ℕ) → EntryIsSound most d → rest ≡ entry_image d ++ others → (e ≡ d) × (next ≡ others))
    → new ≡ kept_by (is_known e.0 ms) after e
    → gone' ≡ cond (is_known e.0 ms) gone (gone + 1)
    → IsKeptSoFar ms es (place + 1) next before new gone'
keep_on most ms es place rest next before after new gone gone' e h entries inside same kept counted =
    let f = in_front most es place rest entries inside h.rest_is in
    let own = same f.entry (entries_image (drop (suc place) es)) f.sound f.octets_are in
    let one : suc place ≡ place + 1 = omega arith in
    let here : get_or es place e ≡ e = get_or_from_slice_get es place f.entry e f.there ∙ sym own.0 in
    let more : take (place + 1) es ≡ take place es ++ e ∷ [] =
    take_more es place e inside ∙ ap (λ (d : Pair). take place es ++ d ∷ []) here in
    record {
      rest_is = own.1 ∙ ap (λ n. entries_image (drop n es)) one;
      entries =
          kept ∙ ap (λ m. kept_by (is_known e.0 ms) m e) h.entries ∙ sym (kept-append ms (take place es) e before)
          ∙ ap (λ l. kept_of ms l before) (sym more);
      gone_is =
          counted ∙ ap (λ n. cond (is_known e.0 ms) n (n + 1)) h.gone_is ∙ sym (gone-append ms (take place es) e)
          ∙ ap (let_go ms) (sym more);
    }

pub all_kept : (ms : List PortIdentity) (es : List Pair) (place : ℕ) (rest : List ℕ) (before after : Entries) (gone : ℕ)
    → IsKeptSoFar ms es place rest before after gone
    → place ≡ length es
    → IsRestored ms es before after gone
all_kept ms es place rest before after gone h end =
    let all : take place es ≡ es = ap (λ n. take n es) end ∙ take_all (length es) es (omega arith) in
    record { entries = h.entries ∙ ap (λ l. kept_of ms l before) all; gone_is = h.gone_is ∙ ap (let_go ms) all }

-- ---- how many are let go, and whether octets are left

abbrev pub one_of : Bool → ℕ
one_of known = cond known 0 1

pub gone_on : (known : Bool) (gone lost : ℕ) → lost ≡ one_of known → gone + lost ≡ cond known gone (gone + 1)
gone_on true gone lost is = omega (arith, is)
gone_on false gone lost is = omega (arith, is)

pub empty_of : (xs : List ℕ) (b : Bool) → b ≡ (length xs == 0) → b ≡ true → xs ≡ []
empty_of [] b is holds = refl
empty_of (x ∷ xs) b is holds = absurd (false≢true (sym (not_zero (length xs)) ∙ sym is ∙ holds))
  where
    not_zero : (n : ℕ) → (suc n == 0) ≡ false
    not_zero n = grind (arith, nat_tests)

pub one_small : (known : Bool) → one_of known ≤ 1
one_small true = omega arith
one_small false = omega arith

-- ---- with fewer answers

pub sound_with : (most kept : ℕ) (es : List Pair) → All (EntryIsSound most) es → HaveAnswers kept es → All (EntryIsSound kept) es
sound_with most kept es sound few = λ k e inside.
    let s = sound k e inside in record { keepable = s.keepable; few = few k e inside; fits = s.fits }

pub entries_with : (most kept : ℕ) (es : List Pair) → AreEntries most es → HaveAnswers kept es → AreEntries kept es
entries_with most kept es are few = record { few = are.few; ascending = are.ascending; sound = sound_with most kept es are.sound few }
