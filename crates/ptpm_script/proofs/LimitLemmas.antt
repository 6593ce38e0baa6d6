-- A network file in which no mark of a limit is found keeps within the limits.
use Rattle.std.proofs.Common.{arith, ◌≡◌, ℕ, ◌+◌, ◌≤◌, nat_lt, ◌==◌, true, false, ⊎_elim, List, [], ◌∷◌, ◌++◌, Option, Some, None, refl, ap, sym, ◌∙◌, is_some, bytes_eq, codes, length, option_and_then, option_map, take, cond}
use Rattle.std.specs.List.{AllByRecursion}
use Rattle.std.proofs.lemmas.Bool.{and_from, cases_Bool, false_from_ne_true, ltb-false, ltb-true, or_parts, true≢false}
use Rattle.std.proofs.lemmas.List.{length-append, length-take}
use Rattle.std.proofs.lemmas.List.Sums.{sum_by-cons, sum_by_push}
use Rattle.toml.specs.Data.{Data, Members, as_array, as_table, get_member}
use Rattle.ptpm_script.specs.declared.net_error.NetError.TheVariants.{TooMany}
use Rattle.ptpm_script.specs.declared.place.Array.TheVariants as arrays
use Rattle.ptpm_script.specs.Heads.{SessionHeadValue, clock_head, clock_in, clocks_of, items_at, items_in, list_of, list_or_none, members_items, session_head, session_in, sessions_of}
use Rattle.ptpm_script.specs.LimitFaults.{count_marks, has_bad_size, has_target, is_crowded, limit_marks, link_size_marks, manager_marks, managers_of, size_marks}
use Rattle.ptpm_script.specs.Marks.{each, each_after, if_any, in_table}
use Rattle.ptpm_script.specs.Rules.{session_rules}
use Rattle.ptpm_script.specs.Spellings.{passes}
use Rattle.ptpm_script.proofs.Loops.{all-both, append-none, each-none, value-none}
use Rattle.ptpm_script.proofs.TableLemmas.{SoundLink, SoundSession, key-there, same_bytes}

-- ---- how many

each-few : {A B : Type 0} (of : ℕ → A → List B)
    → ((n : ℕ) (x : A) → length (of n x) ≤ 1)
    → (n : ℕ) (xs : List A) → length (each of n xs) ≤ length xs
each-few of one n [] = omega arith
each-few of one n (x ∷ xs) =
    let here = one n x in
    let later = each-few of one (n + 1) xs in
    rw (length-append (of n x) (each of (n + 1) xs)) (omega arith)

any-few : {A B : Type 0} (f : A → B) (o : Option A) → length (if_any (option_map f o)) ≤ 1
any-few f None = omega arith
any-few f (Some a) = omega arith

pub clock-count : (ms : Members) → length (clocks_of ms) ≤ 64
unfolding clocks_of
clock-count ms =
    let few = each-few clock_in (λ n d. any-few (clock_head n) (as_table d)) 1 (take 64 (items_at (codes "clock") ms)) in
    let first = length-take 64 (items_at (codes "clock") ms) in
    omega arith

pub session-count : (ms : Members) → length (sessions_of ms) ≤ 256
unfolding sessions_of
session-count ms =
    let few = each-few session_in (λ n d. any-few (session_head n) (as_table d)) 1 (take 256 (items_at (codes "session") ms)) in
    let first = length-take 256 (items_at (codes "session") ms) in
    omega arith

-- ---- sessions of one target

has-target-is : (target : List ℕ) (s : SessionHeadValue) (name : List ℕ) → s.target ≡ Some name → has_target target s ≡ true → name ≡ target
has-target-is target s name is has = same_bytes name target (sym (ap (passes (λ n. bytes_eq n target)) is) ∙ has)

-- a target that too many have and none before is not this session's
not-this : (all : List SessionHeadValue) (target : List ℕ) (before : List SessionHeadValue) (s : SessionHeadValue)
    → SoundSession s
    → nat_lt 16 (managers_of target all) ≡ true
    → managers_of target before ≡ 0
    → manager_marks all before s ≡ []
    → has_target target s ≡ false
unfolding manager_marks
not-this all target before s k full earlier none =
    let there = key-there session_rules s.table (codes "target") k.keeps refl in
    let free = value-none (passes (is_crowded all before) s.target) TooMany s.spot (codes "target") s.table there none in
    false_from_ne_true (has_target target s) (λ has.
    let same = has-target-is target s k.target k.target_is has in
    let crowded : is_crowded all before target ≡ true = and_from _ _ full (ap (λ n. n == 0) earlier) in
    true≢false (sym crowded ∙ ap (is_crowded all before) (sym same) ∙ sym (ap (passes (is_crowded all before)) k.target_is) ∙ free))

none-later : (all : List SessionHeadValue) (target : List ℕ) (before rest : List SessionHeadValue)
    → AllByRecursion SoundSession rest
    → nat_lt 16 (managers_of target all) ≡ true
    → managers_of target before ≡ 0
    → each_after (manager_marks all) before rest ≡ []
    → managers_of target rest ≡ 0
unfolding managers_of
none-later all target before [] sound full earlier none = refl
none-later all target before (s ∷ rest) sound full earlier none =
    let parts = append-none (manager_marks all before s) (each_after (manager_marks all) (before ++ s ∷ []) rest) none in
    let here : cond {A = ℕ} (has_target target s) 1 0 ≡ 0 = ap (λ b. cond b 1 0) (not-this all target before s sound.0 full earlier parts.0) in
    let push = sum_by_push (λ x. cond (has_target target x) 1 0) before s in
    let later = none-later all target (before ++ s ∷ []) rest sound.1 full (omega arith) parts.1 in
    let sum = sum_by-cons (λ x. cond (has_target target x) 1 0) s rest in
    omega arith

pub few-managers-of : (ss : List SessionHeadValue) (target : List ℕ)
    → AllByRecursion SoundSession ss
    → each_after (manager_marks ss) [] ss ≡ []
    → managers_of target ss ≤ 16
unfolding managers_of
few-managers-of ss target sound none =
    ⊎_elim (λ full.
    let nothing = none-later ss target [] ss sound full refl none in
    let over = ltb-true 16 (managers_of target ss) full in
    absurd (omega arith))
    (ltb-false 16 (managers_of target ss)) (cases_Bool (nat_lt 16 (managers_of target ss)))

-- ---- sizes of links

pub link-items : (d : Data) → (k : SoundLink d) → items_in (codes "ends") d ≡ list_of k.items
unfolding items_at
link-items d k = ap (members_items (codes "ends")) k.is ∙ ap list_or_none k.items_are

taken-there : {A B : Type 0} (f : A → Option B) (o : Option A) (b : B) → option_and_then f o ≡ Some b → is_some o ≡ true
taken-there f None b h = cc
taken-there f (Some a) b h = refl

-- a link of 2 to 16 ends
pub record HasSize (d : Data) : Type 0 where
  pub two : 2 ≤ length (items_in (codes "ends") d)
  pub at_most_sixteen : length (items_in (codes "ends") d) ≤ 16

link-size : (n : ℕ) (d : Data) → SoundLink d → link_size_marks n d ≡ [] → HasSize d
unfolding link_size_marks
link-size n d k none =
    let ends = get_member (codes "ends") k.table in
    let fits = value-none (passes has_bad_size (option_and_then as_array ends)) TooMany (in_table arrays.Link n) (codes "ends") k.table
    (taken-there as_array ends k.items k.items_are) (sym (ap (size_marks (in_table arrays.Link n)) k.is) ∙ none) in
    let parts = or_parts (nat_lt (length (list_of k.items)) 2) (nat_lt 16 (length (list_of k.items)))
    (sym (ap (passes has_bad_size) k.items_are) ∙ fits) in
    let low = ltb-false (length (list_of k.items)) 2 parts.0 in
    let high = ltb-false 16 (length (list_of k.items)) parts.1 in
    let items = ap length (link-items d k) in
    record { two = omega arith; at_most_sixteen = omega arith }

pub link-sizes : (ds : List Data) → AllByRecursion SoundLink ds → each link_size_marks 1 ds ≡ [] → AllByRecursion HasSize ds
link-sizes ds sound none =
    all-both SoundLink (λ d. (n : ℕ) × (link_size_marks n d ≡ [])) HasSize (λ d k m. link-size m.0 d k m.1) ds sound
    (each-none link_size_marks 1 ds none)

-- ---- the file

pub limits-none : (ms : Members) (ss : List SessionHeadValue) → limit_marks ms ss ≡ []
    → (each link_size_marks 1 (items_at (codes "link") ms) ≡ []) × (each_after (manager_marks ss) [] ss ≡ [])
unfolding limit_marks
limits-none ms ss none =
    let counts = count_marks (codes "clocks") 64 (items_at (codes "clock") ms)
    ++ count_marks (codes "sessions") 256 (items_at (codes "session") ms)
    ++ count_marks (codes "links") 256 (items_at (codes "link") ms) in
    let sizes = each link_size_marks 1 (items_at (codes "link") ms) in
    let last = append-none (counts ++ sizes) (each_after (manager_marks ss) [] ss) none in
    ((append-none counts sizes last.0).1, last.1)
