-- The tables of a file in which no fault of shape is found are sound.
use Rattle.std.proofs.Common.{arith, ◌≡◌, ℕ, Bool, true, false, List, length, Option, Some, None, refl, ap, subst, cond, zero, suc, ◌+◌, [], ◌∷◌, ◌++◌, map, take, sym, ◌∙◌, if◌then◌else◌, is_none, codes, option_map, option_and_then}
use Rattle.std.specs.Result.{result_ok}
use Rattle.std.proofs.lemmas.Bool.Decides.{nat_tests}
use Rattle.std.proofs.lemmas.Option.{cond_some}
use Rattle.hex.specs.Hex.{decode_sized}
use Rattle.hex.proofs.HexLemmas.{decode_pairs-ok, decode_sized-ok}
use Rattle.toml.specs.Data.{Members, Data, as_array, as_str, as_table, get_member}
use Rattle.ptpm_codec.specs.declared.identity.ClockIdentity.{ClockIdentity}
use Rattle.ptpm_codec.specs.declared.identity.PortIdentity.{PortIdentity}
use Rattle.ptpm_codec.specs.Identity.{every_clock, same_clock}
use Rattle.ptpm_codec.specs.Message.{PortIdentityFits}
use Rattle.ptpm_script.specs.Spellings.{clock_identity, if_one_clock, port_identity, port_of, end_of}
use Rattle.ptpm_script.specs.Values.{clock_at, port_at, text_at, natural_at}
use Rattle.ptpm_script.proofs.TableLemmas.{opt_inv, array_given, clock_given, given, name_given, port_given, requires, whole_given, Keeps, SoundClock, SoundEnd, SoundFile, SoundLink, SoundPort, SoundSession}
use Rattle.std.specs.List.{AllByRecursion}
use Rattle.ptpm_script.specs.declared.net_error.NetError.TheVariants.{BadShape}
use Rattle.ptpm_script.specs.Heads.{clock_head, clock_in, clocks_of, if_name, items_at, items_in, list_of, list_or_none, members_items, name_at, session_head, session_in, sessions_of}
use Rattle.ptpm_script.specs.KeyFaults.{key_marks, members_marks, missing_keys, missing_marks, table_marks, wrong_keys, wrong_marks}
use Rattle.ptpm_script.specs.Marks.{Mark, Spot, at_item, each, if_any, in_file, in_port, in_table}
use Rattle.ptpm_script.specs.Rules.{KeyRule, kind_of, clock_rules, file_rules, link_rules, port_rules, session_rules, u16}
use Rattle.ptpm_script.specs.ShapeFaults.{clock_marks, end_marks, link_marks, port_marks, ports_marks, rights_marks, session_marks, shape_marks}
use Rattle.ptpm_script.proofs.Loops.{all-weaker, append-none, each-none, mark-none}
use Rattle.ptpm_script.specs.declared.place.Array.TheVariants as arrays
use Rattle.ptpm_script.specs.declared.rules.Kind.TheVariants as kinds

-- ---- what the identities of a network file are: of eight octets, and not all ones

else_some : {A : Type 0} (test : Bool) (x y : A) → cond test None (Some x) ≡ Some y → (test ≡ false) × (x ≡ y)
else_some true x y h = cc
else_some false x y h = (refl, cc)

pub clock-is_one : (text : List ℕ) (c : ClockIdentity) → clock_identity text ≡ Some c → same_clock c every_clock ≡ false
unfolding clock_identity
clock-is_one text c h =
    let octets = opt_inv if_one_clock (result_ok (decode_sized text 8)) c h in
    let both = else_some (same_clock (record { 0 = octets.0 }) every_clock) (record { 0 = octets.0 }) c octets.2 in
    subst (λ k. same_clock k every_clock ≡ false) both.1 both.0

pub clock-size : (text : List ℕ) (c : ClockIdentity) → clock_identity text ≡ Some c → length c.0 ≡ 8
unfolding clock_identity
clock-size text c h = grind (arith, opt_inv, else_some, decode_sized-ok, decode_pairs-ok)

clock_part : (a : Option ClockIdentity) (b : Option ℕ) (p : PortIdentity) → port_of a b ≡ Some p → a ≡ Some p.clock
clock_part (Some clock) (Some port) p h = let q : record { clock = clock; port = port } ≡ p = cc in ap (λ r. Some r.clock) q
clock_part (Some clock) None p h = cc
clock_part None b p h = cc

pub port-is_one : (text : List ℕ) (p : PortIdentity) → port_identity text ≡ Some p → same_clock p.clock every_clock ≡ false
unfolding port_identity
port-is_one text p h = grind (arith, opt_inv, clock_part, clock-is_one)

pub port-fits : (text : List ℕ) (p : PortIdentity) → port_identity text ≡ Some p → PortIdentityFits p
unfolding port_identity
port-fits text p h = grind (arith, opt_inv, clock-size, clock_part, cond_some, nat_tests)

-- ---- at a key

pub clock_at-size : (key : List ℕ) (ms : Members) (c : ClockIdentity) → clock_at key ms ≡ Some c → length c.0 ≡ 8
clock_at-size key ms c h = let text = opt_inv clock_identity (text_at key ms) c h in clock-size text.0 c text.2

pub port_at-fits : (key : List ℕ) (ms : Members) (p : PortIdentity) → port_at key ms ≡ Some p → PortIdentityFits p
port_at-fits key ms p h = let text = opt_inv port_identity (text_at key ms) p h in port-fits text.0 p text.2

-- ---- tables

unmapped : {A B : Type 0} (f : A → B) (xs : List A) → map f xs ≡ [] → xs ≡ []
unmapped f [] h = refl
unmapped f (x ∷ xs) h = cc

keeping : (spot : Spot) (rules : List KeyRule) (ms : Members) → key_marks spot rules ms ≡ [] → Keeps rules ms
unfolding key_marks
keeping spot rules ms h =
    let both = append-none (missing_marks spot rules ms) (wrong_marks spot rules ms) h in
    record { missing = unmapped _ (missing_keys rules ms) both.0; wrong = unmapped _ (wrong_keys rules ms) both.1 }

-- what is a table, and keeps to its rules
record IsTable (rules : List KeyRule) (d : Data) : Type 0 where
  table : Members
  is : as_table d ≡ Some table
  keeps : Keeps rules table

members_of : (spot : Spot) (rules : List KeyRule) (o : Option Members) → members_marks spot rules o ≡ []
    → (ms : Members) × (o ≡ Some ms) × Keeps rules ms
members_of spot rules None h = cc
members_of spot rules (Some ms) h = (ms, refl, keeping spot rules ms h)

is_table : (spot : Spot) (rules : List KeyRule) (d : Data) → table_marks spot rules d ≡ [] → IsTable rules d
unfolding table_marks
is_table spot rules d h = let t = members_of spot rules (as_table d) h in record { table = t.0; is = t.1; keeps = t.2 }

-- what each of the first of some values is known by
all_append : {A : Type 0} (P : A → Type 0) (xs ys : List A) → AllByRecursion P xs → AllByRecursion P ys → AllByRecursion P (xs ++ ys)
all_append P [] ys a b = b
all_append P (x ∷ xs) ys a b = (a.0, all_append P xs ys a.1 b)

heads_sound : {A B : Type 0} (of : ℕ → A → List B) (marks : ℕ → A → List Mark) (P : B → Type 0)
    → ((n : ℕ) (x : A) → marks n x ≡ [] → AllByRecursion P (of n x))
    → (most n : ℕ) (xs : List A)
    → each marks n xs ≡ []
    → AllByRecursion P (each of n (take most xs))
heads_sound of marks P sound zero n xs h = tt
heads_sound of marks P sound (suc most) n [] h = tt
heads_sound of marks P sound (suc most) n (x ∷ xs) h =
    let both = append-none (marks n x) (each marks (n + 1) xs) h in
    all_append P (of n x) (each of (n + 1) (take most xs)) (sound n x both.0) (heads_sound of marks P sound most (n + 1) xs both.1)

each_sound : {A : Type 0} (marks : ℕ → A → List Mark) (P : A → Type 0)
    → ((n : ℕ) (x : A) → marks n x ≡ [] → P x)
    → (xs : List A)
    → each marks 1 xs ≡ []
    → AllByRecursion P xs
each_sound marks P sound xs h = all-weaker _ P (λ x none. sound none.0 x none.1) xs (each-none marks 1 xs h)

named : (key : List ℕ) (rules : List KeyRule) (ms : Members)
    → Keeps rules ms
    → requires rules key ≡ true
    → kind_of rules key ≡ Some kinds.Name
    → (name : List ℕ) × (name_at key ms ≡ Some name)
named key rules ms keeps needs of =
    let d = given rules ms key kinds.Name keeps needs of in
    let text = name_given key ms d.0 d.1 d.2 in
    (text.0, ap (option_and_then if_name) text.1 ∙ ap (λ b. if b then Some text.0 else None) text.2)

-- ---- clocks

port_sound : (clock n : ℕ) (d : Data) → port_marks clock n d ≡ [] → SoundPort d
port_sound clock n d h =
    let t = is_table (in_port clock n) port_rules d h in
    let v = given port_rules t.table (codes "number") u16 t.keeps refl refl in
    let number = whole_given 0 65535 65535 (codes "number") t.table v.0 refl v.1 v.2 in
    record { table = t.table; is = t.is; keeps = t.keeps; number = number.0; number_is = number.3 }

clock_head_sound : (n : ℕ) (ms : Members)
    → Keeps clock_rules ms
    → AllByRecursion SoundPort (items_at (codes "port") ms)
    → SoundClock (clock_head n ms)
unfolding clock_head
clock_head_sound n ms keeps ports =
    let name = named (codes "name") clock_rules ms keeps refl refl in
    let i = given clock_rules ms (codes "identity") kinds.Clock keeps refl refl in
    let identity = clock_given (codes "identity") ms i.0 i.1 i.2 in
    let text = opt_inv clock_identity (text_at (codes "identity") ms) identity.0 identity.1 in
    let v = given clock_rules ms (codes "ports") u16 keeps refl refl in
    let count = whole_given 0 65535 65535 (codes "ports") ms v.0 refl v.1 v.2 in
    record {
      keeps = keeps;
      name = name.0;
      name_is = name.1;
      identity = identity.0;
      identity_is = identity.1;
      is_one = clock-is_one text.0 identity.0 text.2;
      identity_size = clock-size text.0 identity.0 text.2;
      count = count.0;
      count_is = count.3;
      ports = ports;
    }

clock_sound : (n : ℕ) (d : Data) → clock_marks n d ≡ [] → AllByRecursion SoundClock (clock_in n d)
unfolding clock_marks
clock_sound n d h =
    let both = append-none (table_marks (in_table arrays.Clock n) clock_rules d) (ports_marks n d) h in
    let t = is_table (in_table arrays.Clock n) clock_rules d both.0 in
    let none : each (port_marks n) 1 (items_at (codes "port") t.table) ≡ [] =
    subst (λ o. each (port_marks n) 1 (members_items (codes "port") o) ≡ []) t.is both.1 in
    let ports = each_sound (port_marks n) SoundPort (port_sound n) (items_at (codes "port") t.table) none in
    subst (λ o. AllByRecursion SoundClock (if_any (option_map (clock_head n) o))) (sym t.is) (clock_head_sound n t.table t.keeps ports, tt)

-- ---- sessions

session_head_sound : (n : ℕ) (ms : Members) → Keeps session_rules ms → SoundSession (session_head n ms)
unfolding session_head
session_head_sound n ms keeps =
    let name = named (codes "name") session_rules ms keeps refl refl in
    let target = named (codes "target") session_rules ms keeps refl refl in
    let i = given session_rules ms (codes "identity") (kinds.Port 65534) keeps refl refl in
    let identity = port_given 65534 (codes "identity") ms i.0 i.1 i.2 in
    let text = opt_inv port_identity (text_at (codes "identity") ms) identity.0 identity.1 in
    record {
      keeps = keeps;
      name = name.0;
      name_is = name.1;
      identity = identity.0;
      identity_is = identity.1;
      is_one = port-is_one text.0 identity.0 text.2;
      identity_fits = port-fits text.0 identity.0 text.2;
      target = target.0;
      target_is = target.1;
    }

session_sound : (version : Option ℕ) (n : ℕ) (d : Data) → session_marks version n d ≡ [] → AllByRecursion SoundSession (session_in n d)
unfolding session_marks
session_sound version n d h =
    let spot = in_table arrays.Session n in
    let both = append-none (table_marks spot session_rules d) (rights_marks spot version (as_table d)) h in
    let t = is_table spot session_rules d both.0 in
    subst (λ o. AllByRecursion SoundSession (if_any (option_map (session_head n) o))) (sym t.is) (session_head_sound n t.table t.keeps, tt)

-- ---- links

there : {A : Type 0} (o : Option A) → is_none o ≡ false → (a : A) × (o ≡ Some a)
there None h = cc
there (Some a) h = (a, refl)

end_sound : (spot : Spot) (n : ℕ) (d : Data) → end_marks spot n d ≡ [] → SoundEnd d
end_sound spot n d h =
    let o = option_and_then end_of (as_str d) in
    let e = there o (mark-none (is_none o) BadShape spot (at_item (codes "ends") n) h) in
    record { name = e.0.0; port = e.0.1; is = e.1 }

link_sound : (n : ℕ) (d : Data) → link_marks n d ≡ [] → SoundLink d
unfolding link_marks items_at
link_sound n d h =
    let spot = in_table arrays.Link n in
    let both = append-none (table_marks spot link_rules d) (each (end_marks spot) 1 (items_in (codes "ends") d)) h in
    let t = is_table spot link_rules d both.0 in
    let v = given link_rules t.table (codes "ends") kinds.Array t.keeps refl refl in
    let items = array_given (codes "ends") t.table v.0 v.1 v.2 in
    let are : option_and_then as_array (get_member (codes "ends") t.table) ≡ Some items.0 = ap (option_and_then as_array) v.1 ∙ items.1 in
    let at_key = subst (λ o. each (end_marks spot) 1 (members_items (codes "ends") o) ≡ []) t.is both.1 in
    let none : each (end_marks spot) 1 (list_of items.0) ≡ [] = subst (λ o. each (end_marks spot) 1 (list_or_none o) ≡ []) are at_key in
    record {
      table = t.table;
      is = t.is;
      items = items.0;
      items_are = are;
      ends = each_sound (end_marks spot) SoundEnd (end_sound spot) (list_of items.0) none;
    }

-- ---- the file

pub shape-sound : (ms : Members) → shape_marks ms ≡ [] → SoundFile ms
unfolding shape_marks clocks_of sessions_of
shape-sound ms h =
    let version = natural_at 65535 (codes "version") ms in
    let links = each link_marks 1 (items_at (codes "link") ms) in
    let sessions = each (session_marks version) 1 (items_at (codes "session") ms) in
    let clocks = each clock_marks 1 (items_at (codes "clock") ms) in
    let keys = key_marks in_file file_rules ms in
    let most = append-none ((keys ++ clocks) ++ sessions) links h in
    let tables = append-none (keys ++ clocks) sessions most.0 in
    let clock_none = (append-none keys clocks tables.0).1 in
    record {
      clocks = heads_sound clock_in clock_marks SoundClock clock_sound 64 1 (items_at (codes "clock") ms) clock_none;
      sessions = heads_sound session_in (session_marks version) SoundSession (session_sound version) 256 1 (items_at (codes "session") ms) tables.1;
      links = each_sound link_marks SoundLink link_sound (items_at (codes "link") ms) most.1;
    }
