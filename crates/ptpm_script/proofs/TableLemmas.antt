-- The tables of a network file in which no fault of shape is found: what holds of them, and what is at a key.
use Rattle.std.proofs.Common.{◌≡◌, ℕ, false, List, [], length, Option, Some, arith, ℤ, pos, negsuc, nat_le, int_le, Bool, true, ◌&&◌, ◌||◌, ◌⊎◌, inl, inr, if◌then◌else◌, ◌∷◌, None, refl, ap, sym, subst, ◌∙◌, is_none, is_some, bytes_eq, Ordering, Less, Equal, Greater, nat_cmp, is_eq}
use Rattle.std.specs.Prelude.{codes, option_and_then}
use Rattle.std.specs.List.{AllByRecursion}
use Rattle.toml.specs.Data.{Data, Items, Members, as_array, as_str, as_table, get_member, as_integer, no_members, member}
use Rattle.ptpm_codec.specs.declared.identity.ClockIdentity.{ClockIdentity}
use Rattle.ptpm_codec.specs.declared.identity.PortIdentity.{PortIdentity}
use Rattle.ptpm_codec.specs.Identity.{every_clock, same_clock}
use Rattle.ptpm_codec.specs.Message.{PortIdentityFits}
use Rattle.ptpm_script.specs.Heads.{ClockHeadValue, SessionHeadValue, clocks_of, items_at, list_of, sessions_of}
use Rattle.ptpm_script.specs.KeyFaults.{missing_keys, wrong_keys, holds}
use Rattle.ptpm_script.specs.Rules.{KeyRule, clock_rules, port_rules, session_rules, fits, kind_of}
use Rattle.ptpm_script.specs.Spellings.{end_of, clock_identity, is_name, passes, port_identity}
use Rattle.ptpm_script.specs.Values.{natural_at, clock_at, natural_up_to, port_at, text_at}
use Rattle.std.specs.Cmp.Lexicographic.{slice_cmp}
use Rattle.std.specs.Ordering.{match_ordering}
use Rattle.std.proofs.lemmas.Bool.{and_parts, or_cases}
use Rattle.std.proofs.lemmas.Bool.Decides.{nat_tests}
use Rattle.std.proofs.lemmas.Cmp.{same_from_slice_cmp}
use Rattle.std.proofs.lemmas.Slice.Eq.{bytes_eq-Decides}
use Rattle.ptpm_script.specs.declared.rules.Kind.{Kind}
use Rattle.ptpm_script.specs.declared.rules.Kind.TheVariants as kinds

-- ---- what holds of the tables of a network file in which no fault of shape is found

-- each key is one of the rules and holds what it may, and none that is required is missing
pub record Keeps (rules : List KeyRule) (ms : Members) : Type 0 where
  pub missing : missing_keys rules ms ≡ []
  pub wrong : wrong_keys rules ms ≡ []

-- a port's table
pub record SoundPort (d : Data) : Type 0 where
  pub table : Members
  pub is : as_table d ≡ Some table
  pub keeps : Keeps port_rules table
  pub number : ℕ
  pub number_is : natural_at 65535 (codes "number") table ≡ Some number

pub record SoundClock (c : ClockHeadValue) : Type 0 where
  pub keeps : Keeps clock_rules c.table
  pub name : List ℕ
  pub name_is : c.name ≡ Some name
  pub identity : ClockIdentity
  pub identity_is : c.identity ≡ Some identity
  pub is_one : same_clock identity every_clock ≡ false
  pub identity_size : length identity.0 ≡ 8
  pub count : ℕ
  pub count_is : c.count ≡ Some count
  pub ports : AllByRecursion SoundPort (items_at (codes "port") c.table)

pub record SoundSession (s : SessionHeadValue) : Type 0 where
  pub keeps : Keeps session_rules s.table
  pub name : List ℕ
  pub name_is : s.name ≡ Some name
  pub identity : PortIdentity
  pub identity_is : s.identity ≡ Some identity
  pub is_one : same_clock identity.clock every_clock ≡ false
  pub identity_fits : PortIdentityFits identity
  pub target : List ℕ
  pub target_is : s.target ≡ Some target

-- an end of a link, by its name and its port
pub record SoundEnd (d : Data) : Type 0 where
  pub name : List ℕ
  pub port : Option ℕ
  pub is : option_and_then end_of (as_str d) ≡ Some (name, port)

pub record SoundLink (d : Data) : Type 0 where
  pub table : Members
  pub is : as_table d ≡ Some table
  pub items : Items
  pub items_are : option_and_then as_array (get_member (codes "ends") table) ≡ Some items
  pub ends : AllByRecursion SoundEnd (list_of items)

pub record SoundFile (ms : Members) : Type 0 where
  pub clocks : AllByRecursion SoundClock (clocks_of ms)
  pub sessions : AllByRecursion SoundSession (sessions_of ms)
  pub links : AllByRecursion SoundLink (items_at (codes "link") ms)

-- ---- what is at a key of a table that keeps to its rules

pub same_bytes : (xs ys : List ℕ) → bytes_eq xs ys ≡ true → xs ≡ ys
same_bytes xs ys h = (bytes_eq-Decides xs ys).0 h

same_keys : (k l : List ℕ) → is_eq (slice_cmp nat_cmp k l) ≡ bytes_eq k l
same_keys k l =
    same_from_slice_cmp nat_cmp is_eq bytes_eq refl (λ _ _. refl) (λ _ _. refl) (λ x y xs ys o h. grind (arith, nat_tests))
    k l (slice_cmp nat_cmp k l) refl

found_key : (k l : List ℕ) → slice_cmp nat_cmp k l ≡ Equal → k ≡ l
found_key k l h = same_bytes k l (sym (same_keys k l) ∙ ap is_eq h)

pub passes_some : {A : Type 0} (test : A → Bool) (o : Option A) → passes test o ≡ true
    → (a : A) × (o ≡ Some a) × (test a ≡ true)
passes_some test None h = cc
passes_some test (Some a) h = (a, refl, h)

pub some_of : {A : Type 0} (o : Option A) → is_some o ≡ true → (a : A) × (o ≡ Some a)
some_of None h = cc
some_of (Some a) h = (a, refl)

-- what a step that made something was taken from
pub opt_inv : {A B : Type 0} (f : A → Option B) (o : Option A) (b : B)
    → option_and_then f o ≡ Some b
    → (a : A) × (o ≡ Some a) × (f a ≡ Some b)
opt_inv f (Some a) b h = (a, refl, h)
opt_inv f None b h = cc

-- ---- what is at a key is of its kind

-- one that is left out leaves nothing of itself
left_out : {A : Type 0} (test : Bool) (x : A) (xs : List A) → (if test then xs else x ∷ xs) ≡ [] → (test ≡ true) × (xs ≡ [])
left_out true x xs h = (refl, h)
left_out false x xs h = cc

holds_at : (rules : List KeyRule) (key l : List ℕ) (e d : Data) (ms : Members) (o : Ordering)
    → slice_cmp nat_cmp key l ≡ o
    → holds rules l e ≡ true
    → match_ordering o (get_member key ms) (Some e) (get_member key ms) ≡ Some d
    → (get_member key ms ≡ Some d → holds rules key d ≡ true)
    → holds rules key d ≡ true
holds_at rules key l e d ms Less is here there later = later there
holds_at rules key l e d ms Greater is here there later = later there
holds_at rules key l e d ms Equal is here there later =
    let same : e ≡ d = cc in
    subst (λ v. holds rules key v ≡ true) same (subst (λ k. holds rules k e ≡ true) (sym (found_key key l is)) here)

holding : (rules : List KeyRule) (ms : Members) (key : List ℕ) (d : Data)
    → wrong_keys rules ms ≡ []
    → get_member key ms ≡ Some d
    → holds rules key d ≡ true
holding rules no_members key d none there = cc
holding rules (member l e ms) key d none there =
    let both = left_out (holds rules l e) l (wrong_keys rules ms) none in
    holds_at rules key l e d ms (slice_cmp nat_cmp key l) refl both.0 there (holding rules ms key d both.1)

pub fitting : (rules : List KeyRule) (ms : Members) (key : List ℕ) (kind : Kind) (d : Data)
    → Keeps rules ms
    → kind_of rules key ≡ Some kind
    → get_member key ms ≡ Some d
    → fits kind d ≡ true
fitting rules ms key kind d is of there = subst (λ o. passes (λ k. fits k d) o ≡ true) of (holding rules ms key d is.wrong there)

-- ---- a required key is there

abbrev pub requires : List KeyRule → List ℕ → Bool
requires [] key = false
requires (r ∷ rs) key = (r.is_required && bytes_eq r.key key) || requires rs key

-- one that is not told of is no fault
untold : {A : Type 0} (test : Bool) (x : A) (xs : List A) → (if test then x ∷ xs else xs) ≡ [] → (test ≡ false) × (xs ≡ [])
untold true x xs h = cc
untold false x xs h = (refl, h)

not_missing : (is_required : Bool) (o : Option Data) → (is_required && is_none o) ≡ false → is_required ≡ true → is_some o ≡ true
not_missing is_required (Some d) h is = refl
not_missing true None h is = cc
not_missing false None h is = cc

required_either : (r : KeyRule) (rs : List KeyRule) (key : List ℕ) (ms : Members)
    → ((r.is_required && bytes_eq r.key key) ≡ true) ⊎ (requires rs key ≡ true)
    → (r.is_required && is_none (get_member r.key ms)) ≡ false
    → (requires rs key ≡ true → is_some (get_member key ms) ≡ true)
    → is_some (get_member key ms) ≡ true
required_either r rs key ms (inr is) here later = later is
required_either r rs key ms (inl is) here later =
    let both = and_parts r.is_required (bytes_eq r.key key) is in
    subst (λ k. is_some (get_member k ms) ≡ true) (same_bytes r.key key both.1)
    (not_missing r.is_required (get_member r.key ms) here both.0)

required_there : (rules : List KeyRule) (ms : Members) (key : List ℕ)
    → missing_keys rules ms ≡ []
    → requires rules key ≡ true
    → is_some (get_member key ms) ≡ true
required_there [] ms key none is = cc
required_there (r ∷ rs) ms key none is =
    let both = untold (r.is_required && is_none (get_member r.key ms)) r.key (missing_keys rs ms) none in
    required_either r rs key ms (or_cases (r.is_required && bytes_eq r.key key) (requires rs key) is) both.0
    (required_there rs ms key both.1)

pub key-there : (rules : List KeyRule) (ms : Members) (key : List ℕ)
    → Keeps rules ms
    → requires rules key ≡ true
    → is_some (get_member key ms) ≡ true
key-there rules ms key is needs = required_there rules ms key is.missing needs

-- what is at a required key
pub given : (rules : List KeyRule) (ms : Members) (key : List ℕ) (kind : Kind)
    → Keeps rules ms
    → requires rules key ≡ true
    → kind_of rules key ≡ Some kind
    → (d : Data) × (get_member key ms ≡ Some d) × (fits kind d ≡ true)
given rules ms key kind is needs of =
    let there = some_of (get_member key ms) (key-there rules ms key is needs) in
    (there.0, there.1, fitting rules ms key kind there.0 is of there.1)

-- ---- values of each kind

pub name_given : (key : List ℕ) (ms : Members) (d : Data)
    → get_member key ms ≡ Some d
    → fits kinds.Name d ≡ true
    → (text : List ℕ) × (text_at key ms ≡ Some text) × (is_name text ≡ true)
unfolding fits
name_given key ms d there is =
    let t = passes_some is_name (as_str d) is in
    (t.0, ap (option_and_then as_str) there ∙ t.1, t.2)

pub clock_given : (key : List ℕ) (ms : Members) (d : Data)
    → get_member key ms ≡ Some d
    → fits kinds.Clock d ≡ true
    → (c : ClockIdentity) × (clock_at key ms ≡ Some c)
unfolding fits
clock_given key ms d there is =
    let t = passes_some (λ text. is_some (clock_identity text)) (as_str d) is in
    let c = some_of (clock_identity t.0) t.2 in
    (c.0, ap (λ o. option_and_then clock_identity (option_and_then as_str o)) there ∙ ap (option_and_then clock_identity) t.1 ∙ c.1)

pub port_given : (most : ℕ) (key : List ℕ) (ms : Members) (d : Data)
    → get_member key ms ≡ Some d
    → fits (kinds.Port most) d ≡ true
    → (p : PortIdentity) × (port_at key ms ≡ Some p)
unfolding fits
port_given most key ms d there is =
    let t = passes_some (λ text. passes (λ p. nat_le p.port most) (port_identity text)) (as_str d) is in
    let p = passes_some (λ p. nat_le p.port most) (port_identity t.0) t.2 in
    (p.0, ap (λ o. option_and_then port_identity (option_and_then as_str o)) there ∙ ap (option_and_then port_identity) t.1 ∙ p.1)

within_bound : (n most bound : ℕ) → nat_le n most ≡ true → nat_le most bound ≡ true → nat_le n bound ≡ true
within_bound n most bound h k = grind (arith, nat_tests)

number_up_to : (least most bound : ℕ) (z : ℤ)
    → nat_le most bound ≡ true
    → (int_le (pos least) z && int_le z (pos most)) ≡ true
    → (n : ℕ) × (z ≡ pos n) × (nat_le least n ≡ true) × (nat_le n most ≡ true) × (natural_up_to bound z ≡ Some n)
number_up_to least most bound (negsuc n) small is = cc
number_up_to least most bound (pos n) small is =
    let both = and_parts (nat_le least n) (nat_le n most) is in
    let within : nat_le n bound ≡ true = within_bound n most bound both.1 small in
    (n, refl, both.0, both.1, ap (λ b. if b then Some n else None) within)

pub whole_given : (least most bound : ℕ) (key : List ℕ) (ms : Members) (d : Data)
    → nat_le most bound ≡ true
    → get_member key ms ≡ Some d
    → fits (kinds.Whole (pos least) (pos most)) d ≡ true
    → (n : ℕ) × (nat_le least n ≡ true) × (nat_le n most ≡ true) × (natural_at bound key ms ≡ Some n)
unfolding fits natural_at
whole_given least most bound key ms d small there is =
    let z = passes_some (λ z. int_le (pos least) z && int_le z (pos most)) (as_integer d) is in
    let n = number_up_to least most bound z.0 small z.2 in
    let read : option_and_then as_integer (get_member key ms) ≡ Some z.0 = ap (option_and_then as_integer) there ∙ z.1 in
    (n.0, n.2, n.3, ap (option_and_then (natural_up_to bound)) read ∙ n.4)

pub array_given : (key : List ℕ) (ms : Members) (d : Data)
    → get_member key ms ≡ Some d
    → fits kinds.Array d ≡ true
    → (ds : Items) × (as_array d ≡ Some ds)
unfolding fits
array_given key ms d there is = some_of (as_array d) is
