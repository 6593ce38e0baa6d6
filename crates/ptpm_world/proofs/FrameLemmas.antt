-- Frames in a store of octets, as the machine has them.
use Rattle.ptpm_world.proofs.Common.{arith, ◌≡◌, ℕ, ◌+◌, ◌≤◌, ◌<◌, Bool, true, false, cond, not, refl, sym, ◌∙◌, ap, subst, List, [], ◌∷◌, ◌++◌, length, get_or, map, take, drop, Option, Some, None, All, find, ◌||◌, filter, list_any, drop-append-le, drop_at, length-append, length-drop, length-map, map-append, take-append-drop, take-append-le, take_all, count_by-le-length, length-filter, posted, peers, same_end, NetworkLink, Stored, described_end, ends_of, frame_in, link_ends, origin_of, AreLinks, IsOfSession, IsStoredFrame, IsThere, IsShort, IsWithin, at_end, is_same, others}
use Rattle.std.proofs.lemmas.List.Elements.{All-append, All-filter, All-head, All-map, All-tail, All-weaker, filter-append}
use Rattle.std.proofs.lemmas.List.Filters.{length-filter_more}
use Rattle.ptpm_network.specs.Network as machine
use Rattle.ptpm_script.specs.declared.network.End.{End}

-- ---- lists

cond-map : {A B : Type 0} (f : A → B) (b : Bool) (x : A) (xs : List A)
    → cond b (f x ∷ map f xs) (map f xs) ≡ map f (cond b (x ∷ xs) xs)
cond-map f true x xs = refl
cond-map f false x xs = refl

filter-map : {A B : Type 0} (p : B → Bool) (f : A → B) (xs : List A)
    → filter p (map f xs) ≡ map f (filter (λ x. p (f x)) xs)
filter-map p f [] = refl
filter-map p f (x ∷ xs) =
    ap (λ l. cond (p (f x)) (f x ∷ l) l) (filter-map p f xs) ∙ cond-map f (p (f x)) x (filter (λ y. p (f y)) xs)

list_any-map : {A B : Type 0} (p : B → Bool) (f : A → B) (xs : List A)
    → list_any p (map f xs) ≡ list_any (λ x. p (f x)) xs
list_any-map p f [] = refl
list_any-map p f (x ∷ xs) = ap (λ b. p (f x) || b) (list_any-map p f xs)

-- if an element passes, more pass in the whole list than before it
pub filter_room : {A : Type 0} (p : A → Bool) (xs : List A) (i : ℕ) (d : A)
    → i < length xs
    → p (get_or xs i d) ≡ true
    → length (filter p (take i xs)) + 1 ≤ length (filter p xs)
filter_room p xs i d inside passes =
    let here : length (filter p (take (i + 1) xs)) ≡ length (filter p (take i xs)) + cond (p (get_or xs i d)) 1 0 = length-filter_more p xs i d inside in
    let one : cond {A = ℕ} (p (get_or xs i d)) 1 0 ≡ 1 = ap (λ (b : Bool). cond {A = ℕ} b 1 0) passes in
    let parts : filter p (take (i + 1) xs) ++ filter p (drop (i + 1) xs) ≡ filter p xs =
    sym (filter-append p (take (i + 1) xs) (drop (i + 1) xs)) ∙ ap (filter p) (take-append-drop (i + 1) xs) in
    omega (arith, length-append (filter p (take (i + 1) xs)) (filter p (drop (i + 1) xs)), ap length parts)

found : {A : Type 0} (P : A → Type 0) (p : A → Bool) (b : Bool) (y : A) (rest : Option A) (x : A)
    → p y ≡ b
    → P y
    → (rest ≡ Some x → P x × (p x ≡ true))
    → cond b (Some y) rest ≡ Some x
    → P x × (p x ≡ true)
found P p true y rest x is here behind h = let same : y ≡ x = cc in subst (λ z. P z × (p z ≡ true)) same (here, is)
found P p false y rest x is here behind h = behind h

-- what holds of each element holds of the one that is found, which passes
pub find-holds : {A : Type 0} (P : A → Type 0) (p : A → Bool) (xs : List A) (x : A)
    → All P xs
    → find p xs ≡ Some x
    → P x × (p x ≡ true)
find-holds P p [] x all h = absurd (cc)
find-holds P p (y ∷ ys) x all h =
    found P p (p y) y (find p ys) x refl (All-head P y ys all) (find-holds P p ys x (All-tail P y ys all)) h

-- ---- ends

fewer : (b any : Bool) (x : End) (xs kept : List End)
    → length kept ≤ length xs
    → (any ≡ true → length kept + 1 ≤ length xs)
    → (b || any) ≡ true → length (cond (not b) (x ∷ kept) kept) + 1 ≤ length (x ∷ xs)
fewer true any x xs kept at_most behind h = omega arith
fewer false any x xs kept at_most behind h = omega (arith, behind h)

length-others : (e : End) (ends : List End) → length (others e ends) ≤ length ends
length-others e ends = grind (arith, length-filter, count_by-le-length)

-- one is left out, if it is there
pub others-fewer : (e : End) (ends : List End)
    → list_any (is_same e) ends ≡ true
    → length (others e ends) + 1 ≤ length ends
others-fewer e [] h = absurd (cc)
others-fewer e (x ∷ xs) h =
    fewer (is_same e x) (list_any (is_same e) xs) x xs (others e xs) (length-others e xs) (others-fewer e xs) h

abbrev pub found_peers : End → Option NetworkLink → List machine.End
found_peers e None = []
found_peers e (Some l) = map described_end (others e l.ends.items)

found_cases : (e : End) (b : Bool) (l : NetworkLink) (o : Option NetworkLink)
    → cond b (found_peers e (Some l)) (found_peers e o) ≡ found_peers e (cond b (Some l) o)
found_cases e true l o = refl
found_cases e false l o = refl

-- the other ends of the link that an end is on, as the machine has them
pub peers_found : (e : End) (links : List NetworkLink)
    → peers (link_ends links) (described_end e)
    ≡ found_peers e (find (λ l. list_any (is_same e) l.ends.items) links)
peers_found e [] = refl
peers_found e (l ∷ ls) =
    let d : machine.End = described_end e in
    let here : list_any (same_end d) (ends_of l) ≡ list_any (is_same e) l.ends.items = list_any-map (same_end d) described_end l.ends.items in
    let kept : filter (λ o. not (same_end d o)) (ends_of l) ≡ map described_end (others e l.ends.items) = grind (arith, filter-map) in
    let found : Option NetworkLink = find (λ m. list_any (is_same e) m.ends.items) ls in
    let path : cond (list_any (same_end d) (ends_of l)) (filter (λ o. not (same_end d o)) (ends_of l)) (peers (link_ends ls) d)
    ≡ cond (list_any (is_same e) l.ends.items) (map described_end (others e l.ends.items)) (found_peers e found) =
    λ i. cond (here i) (kept i) (peers_found e ls i) in grind (arith, found_cases)

-- ---- octets

-- what is put after a store hides none of its frames
frame_before : (store more : List ℕ) (s : Stored)
    → IsWithin store s
    → frame_in (store ++ more) s ≡ frame_in store s
frame_before store more s within = grind (arith, drop-append-le, length-drop, take-append-le)

frames_before : (store more : List ℕ) (xs : List Stored)
    → All (IsWithin store) xs
    → map (frame_in (store ++ more)) xs ≡ map (frame_in store) xs
frames_before store more [] all = refl
frames_before store more (x ∷ xs) all =
    let here = frame_before store more x (All-head (IsWithin store) x xs all) in
    let rest = frames_before store more xs (All-tail (IsWithin store) x xs all) in
    λ i. here i ∷ rest i

-- a stored message's octets are all that was put after it
pub record IsBehind (store octets : List ℕ) (s : Stored) : Type 0 where
  pub start : s.start ≡ length store
  pub size : s.size ≡ length octets

octets_behind : (store octets : List ℕ) (s : Stored)
    → IsBehind store octets s
    → take s.size (drop s.start (store ++ octets)) ≡ octets
octets_behind store octets s b = grind (arith, drop_at, take_all)

frames_behind : (store octets : List ℕ) (s : Stored) (ends : List End) → IsBehind store octets s
    → map (frame_in (store ++ octets)) (map (at_end s) ends)
    ≡ posted (map described_end ends) octets (origin_of s.origin)
frames_behind store octets s [] b = refl
frames_behind store octets s (e ∷ es) b =
    let here = octets_behind store octets s b in
    let rest = frames_behind store octets s es b in grind (arith)

pub within_posted : (store octets : List ℕ) (xs : List Stored) (s : Stored) (ends : List End)
    → All (IsWithin store) xs
    → IsBehind store octets s
    → All (IsWithin (store ++ octets)) (xs ++ map (at_end s) ends)
within_posted store octets xs s ends all b =
    let P : Stored → Type 0 = IsWithin (store ++ octets) in
    let long : length (store ++ octets) ≡ length store + length octets = length-append store octets in
    let weaker : (x : Stored) → IsWithin store x → P x = λ x w. omega (arith, w) in
    let behind : s.start + s.size ≤ length (store ++ octets) = omega (arith, b.start, b.size) in
    All-append P xs (map (at_end s) ends) (All-weaker (IsWithin store) P weaker xs all)
    (All-map P (at_end s) ends (λ k d h. behind))

-- ---- the link that an end is on

abbrev pub link_of : End → List NetworkLink → Option NetworkLink
link_of e links = find (λ l. list_any (is_same e) l.ends.items) links

pub few_others : (counts : List ℕ) (sessions : ℕ) (e : End) (links : List NetworkLink)
    (l : NetworkLink)
    → AreLinks counts sessions links
    → link_of e links ≡ Some l → length (others e l.ends.items) ≤ 15
few_others counts sessions e links l all found =
    let test : NetworkLink → Bool = λ m. list_any (is_same e) m.ends.items in
    let few = find-holds (λ m. (length m.ends.items ≤ 16) × All (IsThere counts sessions) m.ends.items) test links l all found in
    omega (arith, few.0.0, others-fewer e l.ends.items few.1)

pub stored_posted : (counts : List ℕ) (sessions : ℕ) (e : End) (links : List NetworkLink)
    (l : NetworkLink) (xs : List Stored) (s : Stored)
    → All (IsStoredFrame counts sessions) xs
    → AreLinks counts sessions links
    → IsOfSession sessions s.origin
    → link_of e links ≡ Some l
    → All (IsStoredFrame counts sessions) (xs ++ map (at_end s) (others e l.ends.items))
stored_posted counts sessions e links l xs s before all origin found =
    let test : NetworkLink → Bool = λ m. list_any (is_same e) m.ends.items in
    let P : Stored → Type 0 = IsStoredFrame counts sessions in
    let there = find-holds (λ m. (length m.ends.items ≤ 16) × All (IsThere counts sessions) m.ends.items) test links l all found in
    let ends : All (IsThere counts sessions) (others e l.ends.items) =
    All-filter (λ o. not (is_same e o)) (IsThere counts sessions) l.ends.items there.0.1 in
    let stored : (x : End) → IsThere counts sessions x → P (at_end s x) = λ x h. record { end = h; origin = origin } in
    All-append P xs (map (at_end s) (others e l.ends.items)) before
    (All-map P (at_end s) (others e l.ends.items) (All-weaker (IsThere counts sessions) (λ x. P (at_end s x)) stored (others e l.ends.items) ends))

-- ---- one message is sent

-- A message of these octets is sent at an end of a link. The store grows by its octets, and a frame is stored for each other
-- end.
pub record Posting (links : List NetworkLink) (l : NetworkLink) (s : Stored) (store octets next : List ℕ) (xs ys : List Stored) : Type 0 where
  pub found : link_of s.end links ≡ Some l
  pub behind : IsBehind store octets s
  pub within : All (IsWithin store) xs
  pub grown : next ≡ store ++ octets
  pub longer : ys ≡ xs ++ map (at_end s) (others s.end l.ends.items)

pub posting-frames : {links : List NetworkLink} {l : NetworkLink} {s : Stored}
    {store octets next : List ℕ} {xs ys : List Stored}
    → Posting links l s store octets next xs ys
    → map (frame_in next) ys
    ≡ map (frame_in store) xs
    ++ posted (peers (link_ends links) (described_end s.end)) octets (origin_of s.origin)
posting-frames {links} {l} {s} {store} {octets} {next} {xs} {ys} p = grind (arith, peers_found, map-append, frames_before, frames_behind)

pub posting-within : {links : List NetworkLink} {l : NetworkLink} {s : Stored}
    {store octets next : List ℕ} {xs ys : List Stored}
    → Posting links l s store octets next xs ys → All (IsWithin next) ys
posting-within {links} {l} {s} {store} {octets} {next} {xs} {ys} p = grind (arith, within_posted)

pub posting-short : {links : List NetworkLink} {l : NetworkLink} {s : Stored}
    {store octets next : List ℕ} {xs ys : List Stored}
    → Posting links l s store octets next xs ys → All IsShort xs → IsShort s → All IsShort ys
posting-short {links} {l} {s} {store} {octets} {next} {xs} {ys} p before short =
    subst (λ (fs : List Stored). All IsShort fs) (sym p.longer)
    (All-append IsShort xs (map (at_end s) (others s.end l.ends.items)) before (All-map IsShort (at_end s) (others s.end l.ends.items) (λ k d below. short)))

pub posting-count : {links : List NetworkLink} {l : NetworkLink} {s : Stored}
    {store octets next : List ℕ} {xs ys : List Stored}
    → Posting links l s store octets next xs ys
    → length ys ≡ length xs + length (others s.end l.ends.items)
posting-count {links} {l} {s} {store} {octets} {next} {xs} {ys} p = grind (arith, length-append, length-map)

pub posting-there : {links : List NetworkLink} {l : NetworkLink} {s : Stored}
    {store octets next : List ℕ} {xs ys : List Stored}
    → Posting links l s store octets next xs ys
    → (counts : List ℕ) (sessions : ℕ)
    → All (IsStoredFrame counts sessions) xs
    → AreLinks counts sessions links
    → IsOfSession sessions s.origin
    → All (IsStoredFrame counts sessions) ys
posting-there {links} {l} {s} {store} {octets} {next} {xs} {ys} p counts sessions before all origin =
    subst (λ (fs : List Stored). All (IsStoredFrame counts sessions) fs) (sym p.longer)
    (stored_posted counts sessions s.end links l xs s before all origin p.found)
