-- A network file in which no mark of a name is found has each target and each end that it names.
use Rattle.std.proofs.Common.{arith, ◌≡◌, ℕ, zero, suc, ◌+◌, ◌<◌, ◌≤◌, nat_lt, ◌==◌, Bool, true, false, not, ◌&&◌, ◌||◌, cond, if◌then◌else◌, List, [], ◌∷◌, ◌++◌, Option, Some, None, refl, ap, sym, subst, ◌∙◌, bytes_eq, codes, flat_map, length, map, option_and_then, option_map, take, unwrap_or}
use Rattle.std.specs.Prelude.{slice_get}
use Rattle.std.specs.List.{AllByRecursion, count_by, find, list_any, position_from}
use Rattle.std.proofs.lemmas.Bool.{and_from, eqb-true, not-false, or_parts}
use Rattle.std.proofs.lemmas.Bool.Decides.{Decides-eqb, nat_tests}
use Rattle.std.proofs.lemmas.List.{length-append, length-map, length-take, map-append, take_all}
use Rattle.std.proofs.lemmas.List.Elements.{All-from_recursion, All-take, recursion_from_All}
use Rattle.std.proofs.lemmas.List.FromFn.{length-map-range_with_len}
use Rattle.std.proofs.lemmas.List.Sums.{sum_by-cons}
use Rattle.std.proofs.lemmas.Option.{same_Some, slice_get-map, slice_get_within}
use Rattle.std.proofs.lemmas.Slice.Eq.{bytes_eq-Decides}
use Rattle.toml.specs.Data.{Data, Members, as_str}
use Rattle.ptpm_script.specs.declared.limits.TheConstants.{CLOCK_PORTS}
use Rattle.ptpm_script.specs.declared.net_error.NetError.TheVariants.{NoSuchName, Twice}
use Rattle.ptpm_script.specs.declared.network.End.{End}
use Rattle.ptpm_script.specs.declared.place.Array.TheVariants as arrays
use Rattle.ptpm_script.specs.Heads.{ClockHeadValue, EndHeadValue, SessionHeadValue, clocks_of, end_head, ends_in, ends_of, items_at, items_in, list_of, sessions_of}
use Rattle.ptpm_script.specs.LimitFaults.{has_target, limit_marks, manager_marks, managers_of}
use Rattle.ptpm_script.specs.Marks.{Spot, at_item, each, each_after, if_any, in_table}
use Rattle.ptpm_script.specs.NameFaults.{clock_named, end_name_marks, if_ports, is_no_clock, is_no_end, is_past, lacks, ports_of, target_marks}
use Rattle.ptpm_script.specs.NetworkText.{clock_of, clock_place, end_by_name, end_in, if_end, link_of, network_in, ports_of_clock, session_of, session_place, start_of_port}
use Rattle.ptpm_script.specs.NetworkValue.{AreDistinct, CanStart, IsEndOf, IsLinkOf}
use Rattle.ptpm_script.specs.RepeatFaults.{end_repeats, is_clock_name, is_same_end, is_session_name, same_port}
use Rattle.ptpm_script.specs.Rules.{session_rules}
use Rattle.ptpm_script.specs.Spellings.{end_of, is_between, passes}
use Rattle.ptpm_script.proofs.Loops.{all-at, all-both, all-map, all-weaker, distinct-made, flat-none, mark-none, value-none}
use Rattle.ptpm_script.proofs.LimitLemmas.{HasSize, clock-count, few-managers-of, limits-none, link-items, link-sizes, session-count}
use Rattle.ptpm_script.proofs.TableLemmas.{SoundEnd, SoundFile, SoundLink, SoundSession, key-there, passes_some, same_bytes}

-- ---- the first of a list that passes a test

abbrev IsFirst : {A : Type 0} → (A → Bool) → List A → A → ℕ → Type 0
IsFirst test xs x place = (find test xs ≡ Some x) × (slice_get xs place ≡ Some x) × (test x ≡ true)

first_or_later : {A : Type 0} (test : A → Bool) (k : ℕ) (x : A) (xs : List A) (b : Bool)
    → test x ≡ b
    → (b || list_any test xs) ≡ true
    → (list_any test xs ≡ true → (j : ℕ) × (y : A) × (position_from test (k + 1) xs ≡ Some (k + 1 + j)) × IsFirst test xs y j)
    → (j : ℕ) × (y : A) × (cond b (Some k) (position_from test (k + 1) xs) ≡ Some (k + j))
    × (cond b (Some x) (find test xs) ≡ Some y) × (slice_get (x ∷ xs) j ≡ Some y) × (test y ≡ true)
first_or_later test k x xs true e any more = (zero, x, ap Some (omega arith), refl, refl, e)
first_or_later test k x xs false e any more =
    let m = more any in
    (suc m.0, m.1, m.2 ∙ ap Some (omega arith), m.3.0, m.3.1, m.3.2)

first_from : {A : Type 0} (test : A → Bool) (k : ℕ) (xs : List A)
    → list_any test xs ≡ true
    → (j : ℕ) × (y : A) × (position_from test k xs ≡ Some (k + j)) × IsFirst test xs y j
first_from test k [] any = cc
first_from test k (x ∷ xs) any =
    let f = first_or_later test k x xs (test x) refl any (first_from test (k + 1) xs) in
    (f.0, f.1, f.2, (f.3, f.4, f.5))

-- at the place that its search gives
first : {A : Type 0} (test : A → Bool) (xs : List A)
    → list_any test xs ≡ true
    → (x : A) × IsFirst test xs x (unwrap_or (position_from test 0 xs) 0)
first test xs any =
    let f = first_from test 0 xs any in
    let at : f.0 ≡ unwrap_or (position_from test 0 xs) 0 = sym (ap (λ o. unwrap_or o 0) f.2 ∙ omega arith) in
    (f.1, subst (IsFirst test xs f.1) at f.3)

some_or_later : {A : Type 0} (b : Bool) (x y : A) (o : Option A) (any : Bool)
    → cond b (Some x) o ≡ Some y
    → (o ≡ Some y → any ≡ true)
    → (b || any) ≡ true
some_or_later true x y o any is more = refl
some_or_later false x y o any is more = more is

found-any : {A : Type 0} (test : A → Bool) (xs : List A) (y : A) → find test xs ≡ Some y → list_any test xs ≡ true
found-any test [] y is = cc
found-any test (x ∷ xs) y is = some_or_later (test x) x y (find test xs) (list_any test xs) is (found-any test xs y)

named : {A : Type 0} (name_of : A → Option (List ℕ)) (name : List ℕ) (x : A) → passes (λ other. bytes_eq other name) (name_of x) ≡ true
    → name_of x ≡ Some name
named name_of name x has =
    let n = passes_some (λ other. bytes_eq other name) (name_of x) has in
    n.1 ∙ ap Some (same_bytes n.0 name n.2)

-- ---- targets

-- a session with its target's clock
record HasTarget (cs : List ClockHeadValue) (s : SessionHeadValue) : Type 0 where
  name : List ℕ
  is : s.target ≡ Some name
  clock : ClockHeadValue
  there : slice_get cs (session_of cs s).target ≡ Some clock
  named : clock.name ≡ Some name

target-there : (cs : List ClockHeadValue) (s : SessionHeadValue) → SoundSession s → target_marks cs s ≡ [] → HasTarget cs s
unfolding target_marks session_of
target-there cs s k none =
    let there = key-there session_rules s.table (codes "target") k.keeps refl in
    let known = value-none (passes (is_no_clock cs) s.target) NoSuchName s.spot (codes "target") s.table there none in
    let any : is_clock_name cs k.target ≡ true = not-false _ (sym (ap (passes (is_no_clock cs)) k.target_is) ∙ known) in
    let f = first (λ c. passes (λ other. bytes_eq other k.target) c.name) cs any in
    record {
      name = k.target;
      is = k.target_is;
      clock = f.0;
      there = ap (λ o. slice_get cs (clock_place cs (unwrap_or o []))) k.target_is ∙ f.1.1;
      named = named (λ c. c.name) k.target f.0 f.1.2;
    }

targets : (cs : List ClockHeadValue) (ss : List SessionHeadValue)
    → AllByRecursion SoundSession ss
    → flat_map (target_marks cs) ss ≡ []
    → AllByRecursion (HasTarget cs) ss
targets cs ss sound none =
    all-both SoundSession (λ s. target_marks cs s ≡ []) (HasTarget cs) (target-there cs) ss sound (flat-none (target_marks cs) ss none)

pub targets-there : (cs : List ClockHeadValue) (ss : List SessionHeadValue)
    → AllByRecursion SoundSession ss
    → flat_map (target_marks cs) ss ≡ []
    → AllByRecursion (λ s. s.target < length cs) (map (session_of cs) ss)
targets-there cs ss sound none =
    all-map (session_of cs) (HasTarget cs) (λ s. s.target < length cs)
    (λ s t. slice_get_within cs (session_of cs s).target t.clock t.there) ss (targets cs ss sound none)

-- ---- managers of one clock

counted : (a b : Bool) (n k : ℕ) → (b ≡ true → a ≡ true) → k ≤ n → cond {A = ℕ} b 1 0 + k ≤ cond {A = ℕ} a 1 0 + n
counted true true n k h le = omega arith
counted true false n k h le = omega arith
counted false true n k h le = let q : false ≡ true = h refl in cc
counted false false n k h le = omega arith

count-fewer : {A B : Type 0} (make : A → B) (p : A → Bool) (q : B → Bool) (xs : List A)
    → AllByRecursion (λ x. q (make x) ≡ true → p x ≡ true) xs
    → count_by q (map make xs) ≤ count_by p xs
count-fewer make p q [] all = omega arith
count-fewer make p q (x ∷ xs) all =
    rw (sum_by-cons (λ y. cond (q y) 1 0) (make x) (map make xs), sum_by-cons (λ y. cond (p y) 1 0) x xs)
    (counted (p x) (q (make x)) (count_by p xs) (count_by q (map make xs)) all.0 (count-fewer make p q xs all.1))

-- the name of the clock at a place
abbrev name_at_place : List ClockHeadValue → ℕ → List ℕ
name_at_place cs place = unwrap_or (option_and_then (λ c. c.name) (slice_get cs place)) []

has-its-target : (cs : List ClockHeadValue) (place : ℕ) (s : SessionHeadValue)
    → HasTarget cs s
    → ((session_of cs s).target == place) ≡ true
    → has_target (name_at_place cs place) s ≡ true
has-its-target cs place s t at =
    let there : slice_get cs place ≡ Some t.clock = ap (slice_get cs) (sym (eqb-true _ _ at)) ∙ t.there in
    let same : t.name ≡ name_at_place cs place =
    sym (ap (λ o. unwrap_or (option_and_then (λ c. c.name) o) []) there ∙ ap (λ o. unwrap_or o []) t.named) in
    ap (passes (λ n. bytes_eq n (name_at_place cs place))) t.is ∙ (bytes_eq-Decides t.name (name_at_place cs place)).1 same

few-of-clock : (cs : List ClockHeadValue) (ss : List SessionHeadValue)
    → AllByRecursion SoundSession ss
    → each_after (manager_marks ss) [] ss ≡ []
    → flat_map (target_marks cs) ss ≡ []
    → (place : ℕ) → count_by (λ s. s.target == place) (map (session_of cs) ss) ≤ 16
unfolding managers_of
few-of-clock cs ss sound few none place =
    let name = name_at_place cs place in
    let at_most = few-managers-of ss name sound few in
    let fewer = count-fewer (session_of cs) (has_target name) (λ s. s.target == place) ss
    (all-weaker (HasTarget cs) (λ s. ((session_of cs s).target == place) ≡ true → has_target name s ≡ true)
    (has-its-target cs place) ss (targets cs ss sound none)) in
    omega arith

pub few-managers : (ms : Members)
    → SoundFile ms
    → limit_marks ms (sessions_of ms) ≡ []
    → flat_map (target_marks (clocks_of ms)) (sessions_of ms) ≡ []
    → (place : ℕ) → count_by (λ s. s.target == place) (map (session_of (clocks_of ms)) (sessions_of ms)) ≤ 16
few-managers ms sound limits none = few-of-clock (clocks_of ms) (sessions_of ms) sound.sessions (limits-none ms (sessions_of ms) limits).1 none

-- ---- ends that are there

record AtSession (ss : List SessionHeadValue) (name : List ℕ) : Type 0 where
  session : SessionHeadValue
  there : slice_get ss (session_place ss name) ≡ Some session
  named : session.name ≡ Some name

record AtClock (cs : List ClockHeadValue) (name : List ℕ) (port : ℕ) : Type 0 where
  clock : ClockHeadValue
  there : slice_get cs (clock_place cs name) ≡ Some clock
  named : clock.name ≡ Some name
  has : passes (λ count. is_past count port) (ports_of clock) ≡ false

at-session : (ss : List SessionHeadValue) (name : List ℕ) → not (is_session_name ss name) ≡ false → AtSession ss name
at-session ss name none =
    let f = first (λ s. passes (λ other. bytes_eq other name) s.name) ss (not-false _ none) in
    record { session = f.0; there = f.1.1; named = named (λ s. s.name) name f.0 f.1.2 }

not-lacking : (o : Option ClockHeadValue) (port : ℕ) → lacks o port ≡ false
    → (c : ClockHeadValue) × (o ≡ Some c) × (passes (λ count. is_past count port) (ports_of c) ≡ false)
not-lacking None port h = cc
not-lacking (Some c) port h = (c, refl, h)

at-clock : (cs : List ClockHeadValue) (name : List ℕ) (port : ℕ) → lacks (clock_named cs name) port ≡ false → AtClock cs name port
at-clock cs name port none =
    let c = not-lacking (clock_named cs name) port none in
    let test = λ (k : ClockHeadValue). passes (λ other. bytes_eq other name) k.name in
    let f = first test cs (found-any test cs c.0 c.1) in
    let same : f.0 ≡ c.0 = same_Some f.0 c.0 (sym f.1.0 ∙ c.1) in
    record {
      clock = f.0;
      there = f.1.1;
      named = named (λ k. k.name) name f.0 f.1.2;
      has = ap (λ k. passes (λ count. is_past count port) (ports_of k)) same ∙ c.2;
    }

-- ends at one place are one end
one-place : (cs : List ClockHeadValue) (ss : List SessionHeadValue) (an bn : List ℕ) (p q : Option ℕ)
    → is_no_end cs ss an p ≡ false
    → is_no_end cs ss bn q ≡ false
    → end_by_name cs ss an p ≡ end_by_name cs ss bn q
    → (bytes_eq bn an && same_port q p) ≡ true
one-place cs ss an bn None None a b e =
    let x = at-session ss an a in
    let y = at-session ss bn b in
    let place : session_place ss an ≡ session_place ss bn = cc in
    let same : x.session ≡ y.session = same_Some x.session y.session (sym x.there ∙ ap (slice_get ss) place ∙ y.there) in
    let name : bn ≡ an = same_Some bn an (sym y.named ∙ ap (λ s. s.name) (sym same) ∙ x.named) in
    and_from _ _ ((bytes_eq-Decides bn an).1 name) refl
one-place cs ss an bn None (Some q) a b e = cc
one-place cs ss an bn (Some p) None a b e = cc
one-place cs ss an bn (Some p) (Some q) a b e =
    let x = at-clock cs an p a in
    let y = at-clock cs bn q b in
    let place : clock_place cs an ≡ clock_place cs bn = cc in
    let port : q ≡ p = cc in
    let same : x.clock ≡ y.clock = same_Some x.clock y.clock (sym x.there ∙ ap (slice_get cs) place ∙ y.there) in
    let name : bn ≡ an = same_Some bn an (sym y.named ∙ ap (λ c. c.name) (sym same) ∙ x.named) in
    and_from _ _ ((bytes_eq-Decides bn an).1 name) ((Decides-eqb q p).1 port)

-- a number of ports that a clock can start with
port-within : (o : Option ℕ) (port : ℕ)
    → 1 ≤ unwrap_or o 0
    → unwrap_or o 0 ≤ CLOCK_PORTS
    → passes (λ count. is_past count port) (option_and_then if_ports o) ≡ false
    → (1 ≤ port) × (port ≤ unwrap_or o 0)
port-within None port low high has = absurd (omega arith)
port-within (Some n) port low high has =
    let between : is_between 1 CLOCK_PORTS n ≡ true = grind (arith, nat_tests) in
    let past : is_past n port ≡ false = sym (ap (λ b. passes (λ count. is_past count port) (if b then Some n else None)) between) ∙ has in
    let parts = or_parts (port == 0) (nat_lt n port) past in
    grind (arith, nat_tests)

has-port : (c : ClockHeadValue) (port : ℕ) → CanStart (clock_of c) → passes (λ count. is_past count port) (ports_of c) ≡ false
    → (1 ≤ port) × (port ≤ length (clock_of c).ports)
unfolding clock_of ports_of_clock
has-port c port start has =
    let count = length-map-range_with_len (start_of_port (items_at (codes "port") c.table)) 1 (unwrap_or c.count 0) in
    let low = start.some_port in
    let high = start.few_ports in
    let within = port-within c.count port (omega arith) (omega arith) has in
    (within.0, omega arith)

end-there : (cs : List ClockHeadValue) (ss : List SessionHeadValue) (links : List (List End)) → AllByRecursion CanStart (map clock_of cs)
    → (name : List ℕ) (p : Option ℕ)
    → is_no_end cs ss name p ≡ false
    → IsEndOf (record { clocks = map clock_of cs; sessions = map (session_of cs) ss; links = links }) (end_by_name cs ss name p)
end-there cs ss links starts name None h =
    let s = at-session ss name h in
    subst (λ n. session_place ss name < n) (sym (length-map ss (session_of cs))) (slice_get_within ss (session_place ss name) s.session s.there)
end-there cs ss links starts name (Some port) h =
    let c = at-clock cs name port h in
    let place = clock_place cs name in
    let there : slice_get (map clock_of cs) place ≡ Some (clock_of c.clock) = slice_get-map clock_of cs place ∙ ap (option_map clock_of) c.there in
    let port_there = has-port c.clock port (all-at CanStart (map clock_of cs) place (clock_of c.clock) starts there) c.has in
    (clock_of c.clock, there, port_there.0, port_there.1)

-- ---- the ends of links are the heads of ends, one for one

abbrev end_at : List ClockHeadValue → List SessionHeadValue → EndHeadValue → End
end_at cs ss e = end_by_name cs ss e.name e.port

map-each : {A B C : Type 0} (f : B → C) (of : ℕ → A → List B) (g : A → List C)
    → ((n : ℕ) (x : A) → map f (of n x) ≡ g x)
    → (n : ℕ) (xs : List A) → map f (each of n xs) ≡ flat_map g xs
map-each f of g same n [] = refl
map-each f of g same n (x ∷ xs) =
    map-append f (of n x) (each of (n + 1) xs)
    ∙ ap (λ l. l ++ map f (each of (n + 1) xs)) (same n x)
    ∙ ap (λ l. g x ++ l) (map-each f of g same (n + 1) xs)

abbrev head_of : Spot → ℕ → List ℕ × Option ℕ → EndHeadValue
head_of spot n e = record { spot = spot; number = n; name = e.0; port = e.1 }

head-made : (cs : List ClockHeadValue) (ss : List SessionHeadValue) (spot : Spot) (n : ℕ) (o : Option (List ℕ × Option ℕ))
    → map (end_at cs ss) (if_any (option_map (head_of spot n) o)) ≡ if_end cs ss o
head-made cs ss spot n None = refl
head-made cs ss spot n (Some e) = refl

link-made : (cs : List ClockHeadValue) (ss : List SessionHeadValue) (n : ℕ) (d : Data) → HasSize d
    → map (end_at cs ss) (ends_in n d) ≡ link_of cs ss d
unfolding link_of
link-made cs ss n d size =
    map-each (end_at cs ss) (end_head (in_table arrays.Link n)) (end_in cs ss)
    (λ k e. head-made cs ss (in_table arrays.Link n) k (option_and_then end_of (as_str e))) 1 (take 16 (items_in (codes "ends") d))
    ∙ ap (flat_map (end_in cs ss)) (take_all 16 (items_in (codes "ends") d) size.at_most_sixteen)

links-made : (cs : List ClockHeadValue) (ss : List SessionHeadValue) (n : ℕ) (ds : List Data) → AllByRecursion HasSize ds
    → map (end_at cs ss) (each ends_in n ds) ≡ flat_map (λ link. link) (map (link_of cs ss) ds)
links-made cs ss n [] sizes = refl
links-made cs ss n (d ∷ ds) sizes =
    map-append (end_at cs ss) (ends_in n d) (each ends_in (n + 1) ds)
    ∙ ap (λ l. l ++ map (end_at cs ss) (each ends_in (n + 1) ds)) (link-made cs ss n d sizes.0)
    ∙ ap (λ l. link_of cs ss d ++ l) (links-made cs ss (n + 1) ds sizes.1)

-- ---- each link

all-split : {A : Type 0} (P : A → Type 0) (xs ys : List A) → AllByRecursion P (xs ++ ys) → AllByRecursion P xs × AllByRecursion P ys
all-split P [] ys all = (tt, all)
all-split P (x ∷ xs) ys all = let more = all-split P xs ys all.1 in ((all.0, more.0), more.1)

all-flat : {A : Type 0} (P : A → Type 0) (ls : List (List A)) → AllByRecursion P (flat_map (λ l. l) ls) → AllByRecursion (AllByRecursion P) ls
all-flat P [] all = tt
all-flat P (l ∷ ls) all = let both = all-split P l (flat_map (λ k. k) ls) all in (both.0, all-flat P ls both.1)

one-each : {A B : Type 0} (of : A → List B) (xs : List A) → AllByRecursion (λ x. length (of x) ≡ 1) xs → length (flat_map of xs) ≡ length xs
one-each of [] all = refl
one-each of (x ∷ xs) all =
    let later = one-each of xs all.1 in
    let here = all.0 in
    rw (length-append (of x) (flat_map of xs)) (omega arith)

link-length : (cs : List ClockHeadValue) (ss : List SessionHeadValue) (d : Data) → SoundLink d
    → length (link_of cs ss d) ≡ length (items_in (codes "ends") d)
unfolding link_of
link-length cs ss d k =
    one-each (end_in cs ss) (items_in (codes "ends") d)
    (subst (AllByRecursion (λ e. length (end_in cs ss e) ≡ 1)) (sym (link-items d k))
    (all-weaker SoundEnd (λ e. length (end_in cs ss e) ≡ 1) (λ e s. ap (λ o. length (if_end cs ss o)) s.is) (list_of k.items) k.ends))

-- a link of 2 to 16 ends
abbrev HasFewEnds : List End → Type 0
HasFewEnds link = (2 ≤ length link) × (length link ≤ 16)

link-few : (cs : List ClockHeadValue) (ss : List SessionHeadValue) (d : Data) → SoundLink d → HasSize d → HasFewEnds (link_of cs ss d)
link-few cs ss d k size =
    let ends = link-length cs ss d k in
    let low = size.two in
    let high = size.at_most_sixteen in
    (omega arith, omega arith)

-- ---- the file

all-first : {A : Type 0} (P : A → Type 0) (n : ℕ) (xs : List A) → AllByRecursion P xs → AllByRecursion P (take n xs)
all-first P n xs all = recursion_from_All P (take n xs) (All-take P n xs (All-from_recursion P xs all))

abbrev links_in : Members → List Data
links_in ms = take 256 (items_at (codes "link") ms)

pub counts : (ms : Members)
    → (length (clocks_of ms) ≤ 64)
    × (length (sessions_of ms) ≤ 256)
    × (length (map (link_of (clocks_of ms) (sessions_of ms)) (take 256 (items_at (codes "link") ms))) ≤ 256)
counts ms =
    let many = length-map (links_in ms) (link_of (clocks_of ms) (sessions_of ms)) in
    let first = length-take 256 (items_at (codes "link") ms) in
    (clock-count ms, session-count ms, omega arith)

sized : (ms : Members) → SoundFile ms → limit_marks ms (sessions_of ms) ≡ [] → AllByRecursion HasSize (links_in ms)
sized ms sound limits =
    all-first HasSize 256 (items_at (codes "link") ms)
    (link-sizes (items_at (codes "link") ms) sound.links (limits-none ms (sessions_of ms) limits).0)

abbrev IsThere : List ClockHeadValue → List SessionHeadValue → EndHeadValue → Type 0
IsThere cs ss e = is_no_end cs ss e.name e.port ≡ false

all-there : (cs : List ClockHeadValue) (ss : List SessionHeadValue) (es : List EndHeadValue) → flat_map (end_name_marks cs ss) es ≡ []
    → AllByRecursion (IsThere cs ss) es
unfolding end_name_marks
all-there cs ss es none =
    all-weaker (λ e. end_name_marks cs ss e ≡ []) (IsThere cs ss)
    (λ e. mark-none (is_no_end cs ss e.name e.port) NoSuchName e.spot (at_item (codes "ends") e.number)) es (flat-none (end_name_marks cs ss) es none)

-- the ends of all links
ends-made : (ms : Members) → SoundFile ms → limit_marks ms (sessions_of ms) ≡ []
    → map (end_at (clocks_of ms) (sessions_of ms)) (ends_of ms) ≡ flat_map (λ link. link) (network_in ms).links
unfolding ends_of network_in
ends-made ms sound limits = links-made (clocks_of ms) (sessions_of ms) 1 (links_in ms) (sized ms sound limits)

pub links-are : (ms : Members)
    → SoundFile ms
    → limit_marks ms (sessions_of ms) ≡ []
    → flat_map (end_name_marks (clocks_of ms) (sessions_of ms)) (ends_of ms) ≡ []
    → AllByRecursion CanStart (map clock_of (clocks_of ms))
    → AllByRecursion (IsLinkOf (network_in ms)) (network_in ms).links
unfolding network_in
links-are ms sound limits none starts =
    let cs = clocks_of ms in
    let ss = sessions_of ms in
    let n = network_in ms in
    let there = all-map (end_at cs ss) (IsThere cs ss) (IsEndOf n) (λ e. end-there cs ss n.links starts e.name e.port)
    (ends_of ms) (all-there cs ss (ends_of ms) none) in
    let ends = all-flat (IsEndOf n) n.links (subst (AllByRecursion (IsEndOf n)) (ends-made ms sound limits) there) in
    let sizes = all-both SoundLink HasSize (λ d. HasFewEnds (link_of cs ss d)) (link-few cs ss) (links_in ms)
    (all-first SoundLink 256 (items_at (codes "link") ms) sound.links) (sized ms sound limits) in
    all-both HasFewEnds (AllByRecursion (IsEndOf n)) (IsLinkOf n) (λ link few all. record { two = few.0; at_most_sixteen = few.1; ends = all })
    n.links (all-map (link_of cs ss) (λ d. HasFewEnds (link_of cs ss d)) HasFewEnds (λ d h. h) (links_in ms) sizes) ends

not-before : (before : List EndHeadValue) (e : EndHeadValue) → end_repeats before e ≡ [] → list_any (is_same_end e) before ≡ false
unfolding end_repeats
not-before before e none = mark-none (list_any (is_same_end e) before) Twice e.spot (at_item (codes "ends") e.number) none

pub ends-once : (ms : Members)
    → SoundFile ms
    → limit_marks ms (sessions_of ms) ≡ []
    → flat_map (end_name_marks (clocks_of ms) (sessions_of ms)) (ends_of ms) ≡ []
    → each_after end_repeats [] (ends_of ms) ≡ []
    → AreDistinct (λ e. e) (flat_map (λ link. link) (network_in ms).links)
ends-once ms sound limits none once =
    let cs = clocks_of ms in
    let ss = sessions_of ms in
    subst (AreDistinct (λ e. e)) (ends-made ms sound limits)
    (distinct-made end_repeats is_same_end (IsThere cs ss) (end_at cs ss) (λ e. e) (λ before e h. not-before before e)
    (λ d e. one-place cs ss d.name e.name d.port e.port) (ends_of ms) (all-there cs ss (ends_of ms) none) once)
