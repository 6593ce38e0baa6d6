-- Tests of whether a member's values differ, and binary digits that are read from the highest on.
use Rattle.std.proofs.lemmas.Grind.{common_steps}
use mathlib.Core.Bool.{beq}
use mir.Val.{bool_byte}
use Rattle.std.proofs.Common.{arith, ◌≡◌, ◌∙◌, ap, refl, sym, ℕ, zero, suc, ◌+◌, ◌*◌, ◌-◌, ◌<◌, ◌^◌, Bool, true, false, not, nat_eq, pos, nat_abs, int_eq, if◌then◌else◌, List, [], ◌∷◌, map, length, drop, get_or, Option, Some, None, option_map, bytes_eq, eq-eqb, replicate, set, slice_get, ◌≤◌, ◌++◌}
use Rattle.std.proofs.Math.Nat.{pow-suc}
use Rattle.std.proofs.lemmas.List.{length-map, map-append}
use Rattle.std.proofs.lemmas.List.FromFn.{length-range_with_len, map-range_with_len_more}
use Rattle.std.specs.List.{range_with_len}
use Rattle.std.proofs.lemmas.Slice.Eq.{bytes_eq-Decides}
use Rattle.std.proofs.lemmas.Bool.Decides.{Decides-eqb, Decides-int_eq, same_from_decides}
use Rattle.ptpm_data.specs.declared.changed.ClockMembers.{ClockMembers}
use Rattle.ptpm_data.specs.declared.changed.PortMembers.{PortMembers}
use Rattle.ptpm_data.specs.declared.data_sets.PortDataSet.{PortDataSet}
use Rattle.ptpm_data.specs.declared.members.Member.{Member}
use Rattle.ptpm_data.specs.declared.ports.TheConstants.{PORTS}
use Rattle.ptpm_data.specs.Changed.{changed, clock_changed, clock_members, differ, member_of, members_changed, no_members, number_of, port_changed, port_members}
use Rattle.ptpm_data.specs.MemberMap.{MemberValue, Octets, clock_member, flag, natural}
use Rattle.ptpm_data.specs.Members.{DataSetsValue, port_among, port_of}

-- ---- tests of values

natural_same : (a b : ℕ) → nat_eq a b ≡ int_eq (pos a) (pos b)
natural_same a b = grind (arith, same_from_decides, Decides-eqb, nat_abs, Decides-int_eq)

pub naturals : (a b : ℕ) (r : Bool) → r ≡ not (nat_eq a b) → r ≡ differ (natural a) (natural b)
naturals a b r tested = tested ∙ ap not (natural_same a b)

pub numbers_of : (m n a b : ℕ) (r : Bool) → m ≡ a → n ≡ b → r ≡ not (nat_eq m n) → r ≡ differ (natural a) (natural b)
numbers_of m n a b r is_a is_b tested = naturals a b r (tested ∙ cc)

pub flags : (a b r : Bool) → r ≡ not (beq a b) → r ≡ differ (flag a) (flag b)
flags true true r tested = tested
flags true false r tested = tested
flags false true r tested = tested
flags false false r tested = tested

pub texts : (s t a b : List ℕ) (r : Bool) → s ≡ a → t ≡ b → r ≡ not (bytes_eq s t) → r ≡ differ (Some (Octets a)) (Some (Octets b))
texts s t a b r is_a is_b tested = tested ∙ cc

-- of values that are these
pub at_values : {A B : Type 0} (f : A → A → B) (x y a b : A) (z : B) → x ≡ a → y ≡ b → z ≡ f x y → z ≡ f a b
at_values f x y a b z is_a is_b is = is ∙ cc

-- ---- ports that one of two lacks

pub none_told : {R : Type 0} (f : R → PortDataSet) (r : Option R) (o : Option PortDataSet)
    → option_map f r ≡ o → r ≡ None → o ≡ None
none_told f r o told is = cc

pub some_told : {R : Type 0} (f : R → PortDataSet) (r : Option R) (x : R) (o : Option PortDataSet)
    → option_map f r ≡ o → r ≡ Some x → o ≡ Some (f x)
some_told f r x o told is = cc

pub of_neither : (p q : Option PortDataSet) → p ≡ None → q ≡ None → record { 0 = 0 } ≡ members_changed p q
unfolding number_of
of_neither p q lacks lacks_too = grind (arith, at_values)

pub of_the_former : (p q : Option PortDataSet) (x : PortDataSet) → p ≡ Some x → q ≡ None
    → record { 0 = 0xff } ≡ members_changed p q
unfolding number_of
of_the_former p q x has lacks = grind (arith, at_values)

pub of_the_latter : (p q : Option PortDataSet) (x : PortDataSet) → p ≡ None → q ≡ Some x
    → record { 0 = 0xff } ≡ members_changed p q
unfolding number_of
of_the_latter p q x lacks has = grind (arith, at_values)

-- ---- digits

-- one more in front
pub digit : {a b : Bool} {xs ys : List Bool} → a ≡ b → xs ≡ ys → a ∷ xs ≡ b ∷ ys
digit first rest = cc

none_left : (digits : List Bool) → 0 ≡ number_of (drop (length digits) digits)
unfolding number_of
none_left [] = refl
none_left (b ∷ bs) = none_left bs

pub none_read : (digits : List Bool) → 0 ≡ number_of (drop (length digits - 0) digits)
none_read digits = let all : length digits - 0 ≡ length digits = omega arith in rw all (none_left digits)

byte_is : (b : Bool) → bool_byte b ≡ (if b then 1 else 0)
byte_is true = refl
byte_is false = refl

one_more : (digits : List Bool) (i : ℕ) (d : Bool) → i < length digits
    → number_of (drop i digits) ≡ (if get_or digits i d then 1 else 0) + 2 * number_of (drop (suc i) digits)
unfolding number_of
one_more [] i d below = absurd (omega arith)
one_more (b ∷ bs) zero d below = refl
one_more (b ∷ bs) (suc i) d below = one_more bs i d (omega arith)

-- a turn of the loop reads one digit more
pub digit_read : (digits : List Bool) (place number digit : ℕ) (d : Bool) → place < length digits
    → number ≡ number_of (drop (length digits - place) digits)
    → digit ≡ bool_byte (get_or digits (length digits - 1 - place) d)
    → 2 * number + digit ≡ number_of (drop (length digits - (place + 1)) digits)
digit_read digits place number digit d below read is =
    let i : ℕ = length digits - 1 - place in
    let next : suc i ≡ length digits - place = omega arith in
    let here : length digits - (place + 1) ≡ i = omega arith in
    let more = one_more digits i d (omega arith) in
    let rest : number_of (drop (suc i) digits) ≡ number = ap (λ n. number_of (drop n digits)) next ∙ sym read in grind (arith, byte_is)

digit_small : (b : Bool) → (if b then 1 else 0) < 2
digit_small true = omega arith
digit_small false = omega arith

pub still_small : (place number digit : ℕ) (b : Bool) → number < 2 ^ place → digit ≡ bool_byte b
    → 2 * number + digit < 2 ^ (place + 1)
still_small place number digit b small is = grind (arith, common_steps, pow-suc, digit_small, byte_is)

-- ---- nothing differs between a value and itself

octets_same : (octets : List ℕ) → bytes_eq octets octets ≡ true
octets_same octets = (bytes_eq-Decides octets octets).1 refl

pub differ_itself : (v : Option MemberValue) → differ v v ≡ false
differ_itself None = refl
differ_itself (Some v) = grind (arith, octets_same, eq-eqb, Decides-int_eq)

no_digit : (value : Member → Option MemberValue) (ms : List Member)
    → number_of (map (λ m. differ (value m) (value m)) ms) ≡ 0
unfolding number_of
no_digit value [] = refl
no_digit value (m ∷ ms) = rw (differ_itself (value m), no_digit value ms) refl

pub no_port_member : (p : Option PortDataSet) → members_changed p p ≡ record { 0 = 0 }
no_port_member p = ap (λ n. let m : PortMembers = record { 0 = n } in m) (no_digit (λ m. member_of m p) port_members)

pub no_clock_member : (d : DataSetsValue) → clock_changed d d ≡ record { 0 = 0 }
no_clock_member d = ap (λ n. let m : ClockMembers = record { 0 = n } in m) (no_digit (λ m. clock_member m d) clock_members)

-- no member
abbrev pub untold : PortMembers
untold = record { 0 = 0 }

-- of ports that neither has
none_past : (ports : List PortDataSet) (place : ℕ) → length ports ≤ place → slice_get ports place ≡ None
none_past [] place past = refl
none_past (p ∷ ports) zero past = absurd (omega arith)
none_past (p ∷ ports) (suc place) past = none_past ports place (omega (arith, past))

no_port : (ports : List PortDataSet) (port : ℕ) → length ports < port → port_among port ports ≡ None
no_port ports zero past = refl
no_port ports (suc place) past = let none = none_past ports place (omega (arith, past)) in grind arith

-- one more port is told in the place of one that is not yet
set_behind : {X : Type 0} (xs : List X) (n : ℕ) (none x : X) → set (xs ++ replicate (suc n) none) (length xs) x ≡ (xs ++ x ∷ []) ++ replicate n none
set_behind [] n none x = refl
set_behind (y ∷ ys) n none x = ap (λ zs. y ∷ zs) (set_behind ys n none x)

pub one_more_told : (f : ℕ → PortMembers) (place most : ℕ) (ports : List PortMembers) (x : PortMembers)
    → ports ≡ map f (range_with_len 1 place) ++ replicate (most - place) untold
    → place < most
    → x ≡ f (place + 1)
    → set ports place x ≡ map f (range_with_len 1 (place + 1)) ++ replicate (most - (place + 1)) untold
one_more_told f place most ports x told below is =
    let before = map f (range_with_len 1 place) in
    let left : most - place ≡ suc (most - (place + 1)) = omega arith in
    let size : place ≡ length before = sym (length-map (range_with_len 1 place) f ∙ length-range_with_len 1 place) in
    ap (λ ps. set ps place x) (told ∙ ap (λ n. before ++ replicate n untold) left)
    ∙ ap (λ n. set (before ++ replicate (suc (most - (place + 1))) untold) n x) size
    ∙ set_behind before (most - (place + 1)) untold x
    ∙ ap (λ ps. ps ++ replicate (most - (place + 1)) untold)
    (ap (λ y. before ++ y ∷ []) is ∙ sym (map-range_with_len_more f 1 place (place + 1) (omega arith)))

-- these are not told
pub others_told : (f : ℕ → PortMembers) (a n : ℕ) → ((port : ℕ) → a ≤ port → port < a + n → untold ≡ f port)
    → replicate n untold ≡ map f (range_with_len a n)
others_told f a zero none = refl
others_told f a (suc n) none =
    λ i. none a (omega arith) (omega arith) i ∷ others_told f (a + 1) n (λ port past below. none port (omega (arith, past)) (omega (arith, below))) i

ranges_join : (a m n : ℕ) → range_with_len a m ++ range_with_len (a + m) n ≡ range_with_len a (m + n)
ranges_join a zero n =
    let from : a + 0 ≡ a = omega arith in
    let total : n ≡ 0 + n = omega arith in
    ap (λ k. range_with_len k n) from ∙ ap (range_with_len a) total
ranges_join a (suc m) n =
    let from : a + suc m ≡ a + 1 + m = omega arith in
    let total : suc (m + n) ≡ suc m + n = omega arith in
    ap (λ ks. a ∷ ks) (ap (λ k. range_with_len (a + 1) m ++ range_with_len k n) from ∙ ranges_join (a + 1) m n) ∙ ap (range_with_len a) total

pub rest_told : (f : ℕ → PortMembers) (count most : ℕ) (ports : List PortMembers)
    → ports ≡ map f (range_with_len 1 count) ++ replicate (most - count) untold
    → count ≤ most
    → ((port : ℕ) → 1 + count ≤ port → untold ≡ f port)
    → ports ≡ map f (range_with_len 1 most)
rest_told f count most ports told within none =
    let all : count + (most - count) ≡ most = omega arith in
    told
    ∙ ap (λ ms. map f (range_with_len 1 count) ++ ms) (others_told f (1 + count) (most - count) (λ port past below. none port past))
    ∙ sym (map-append f (range_with_len 1 count) (range_with_len (1 + count) (most - count)))
    ∙ ap (map f) (ranges_join 1 count (most - count) ∙ ap (range_with_len 1) all)

pub all_told : (before after : DataSetsValue) (count most : ℕ) (ports : List PortMembers)
    → ports ≡ map (port_changed before after) (range_with_len 1 count) ++ replicate (most - count) untold
    → length before.ports ≤ count
    → length after.ports ≤ count
    → count ≤ most
    → ports ≡ map (port_changed before after) (range_with_len 1 most)
all_told before after count most ports told few few_too within =
    rest_told (port_changed before after) count most ports told within
    (λ port past. of_neither (port_of port before) (port_of port after)
    (no_port before.ports port (omega (arith, past, few))) (no_port after.ports port (omega (arith, past, few_too))))

pub no_ports : (d : DataSetsValue) (a n : ℕ) → replicate n untold ≡ map (port_changed d d) (range_with_len a n)
no_ports d a zero = refl
no_ports d a (suc n) = λ i. sym (no_port_member (port_of a d)) i ∷ no_ports d (a + 1) n i

pub nothing_changed : (d : DataSetsValue) → no_members ≡ changed d d
nothing_changed d = λ i. record { clock = sym (no_clock_member d) i; ports = no_ports d 1 PORTS i }
