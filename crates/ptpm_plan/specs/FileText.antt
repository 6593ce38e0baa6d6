-- What a plan file asks for, by the tables of its TOML document (this project's profile). `None` is of what is no such table.
use Rattle.std.specs.Prelude.{◌≡◌, ℕ, ◌+◌, ◌==◌, ℤ, pos, negsuc, nat_le, Bool, false, not, ◌&&◌, ◌||◌, if◌then◌else◌, bytes_eq, codes, length, ◌≢◌, List, [], ◌∷◌, ◌++◌, map, Option, Some, None, option_map, option_and_then, is_some, unwrap_or, Result, Ok, Err}
use Rattle.std.specs.Fmt.{signed_decimal}
use Rattle.std.specs.List.{filter_map, find, list_any}
use Rattle.toml.specs.Data.{Data, as_array, as_bool, as_integer, as_str, as_table, Items, no_items, item, Members, no_members, member, get_member}
use Rattle.toml.specs.Parse.{parse_document}
use Rattle.ptpm_codec.specs.declared.identity.ClockIdentity.{ClockIdentity}
use Rattle.ptpm_data.specs.ManagementId.{is_of_port, row_of}
use Rattle.ptpm_members.specs.Identities.{clock_identity_of}
use Rattle.ptpm_members.specs.ValueText.{flag_name}
use Rattle.ptpm_plan.specs.Naming.{is_of_one_clock}
use Rattle.ptpm_plan.specs.PlannedId.{number_of}
use Rattle.ptpm_plan.specs.declared.change.PlannedId.{PlannedId}
use Rattle.ptpm_plan.specs.declared.change.PlannedId.TheVariants as ids
use Rattle.ptpm_plan.specs.declared.change.TheConstants.PlannedId.{ALL}
use Rattle.ptpm_plan.specs.declared.file_fault.FileFault.{FileFault}
use Rattle.ptpm_plan.specs.declared.file_fault.FileFault.TheVariants as faults
use Rattle.ptpm_plan.specs.declared.table_keys.TableKind.{TableKind}
use Rattle.ptpm_plan.specs.declared.table_keys.TableKind.TheVariants as kinds
use Rattle.ptpm_plan.specs.declared.wish.ClockWishes.{ClockWishes}
use Rattle.ptpm_plan.specs.declared.wish.EveryWishes.{EveryWishes}
use Rattle.ptpm_plan.specs.declared.wish.PlanFile.{PlanFile}
use Rattle.ptpm_plan.specs.declared.wish.PortWishes.{PortWishes}
use Rattle.ptpm_plan.specs.declared.wish.Target.{Target}
use Rattle.ptpm_plan.specs.declared.wish.Target.TheVariants as targets
use Rattle.ptpm_plan.specs.declared.wish.UtcWish.{UtcWish}
use Rattle.ptpm_plan.specs.declared.wish.Wish.{Wish}
use Rattle.ptpm_plan.specs.declared.wish.Wished.{Wished}
use Rattle.ptpm_plan.specs.declared.wish.Wished.TheVariants as wishes

-- ---- values at keys

abbrev pub list_of : Items → List Data
list_of no_items = []
list_of (item d ds) = d ∷ list_of ds

abbrev pub first_of : {A : Type 0} → Option A → Option (List A) → Option (List A)
first_of None others = None
first_of (Some x) others = option_map (λ xs. x ∷ xs) others

-- all of them, if each is there
abbrev pub all_of : {A : Type 0} → List (Option A) → Option (List A)
all_of [] = Some []
all_of (o ∷ os) = first_of o (all_of os)

-- what is found at one place more: nothing, or a value that is added
abbrev pub Gathers : {A : Type 0} → Option (Option A) → List A → List A → Type 0
Gathers None old new = new ≡ old
Gathers (Some None) old new = ⊥
Gathers (Some (Some x)) old new = new ≡ old ++ x ∷ []

-- one after the other, each by what is read before it
abbrev pub read_each : {A : Type 0} → (List A → Data → Option A) → List A → List Data → Option (List A)
read_each read before [] = Some before
read_each read before (d ∷ ds) = option_and_then (λ x. read_each read (before ++ x ∷ []) ds) (read before d)

abbrev pub if_there : {A : Type 0} → (Data → Option A) → Option Data → Option (Option A)
if_there read None = Some None
if_there read (Some d) = option_map Some (read d)

abbrev pub or_absent : {A : Type 0} → A → (Data → Option A) → Option Data → Option A
or_absent absent read None = Some absent
or_absent absent read (Some d) = read d

abbrev pub text_at : List ℕ → Members → Option (Option (List ℕ))
text_at key ms = if_there as_str (get_member key ms)

-- the items of an array, none if the key is absent
abbrev pub items_at : List ℕ → Members → Option (List Data)
items_at key ms = or_absent [] (λ d. option_map list_of (as_array d)) (get_member key ms)

abbrev pub natural_in : ℕ → ℕ → ℤ → Option ℕ
natural_in least most (pos n) = if nat_le least n && nat_le n most then Some n else None
natural_in least most (negsuc n) = None

-- a number from the least to the most
abbrev pub number_in : ℕ → ℕ → Data → Option ℕ
number_in least most d = option_and_then (natural_in least most) (as_integer d)

-- domainNumber, 0 if it is absent
abbrev pub domain_in : Members → Option ℕ
domain_in ms = or_absent 0 (number_in 0 255) (get_member (codes "domain") ms)

-- the standard's name of an id
abbrev pub name_of : PlannedId → List ℕ
name_of id = unwrap_or (option_map (λ row. row.name) (row_of (number_of id))) []

-- ---- the keys that a table may have: a text with another is no plan

abbrev pub names_of : Members → List (List ℕ)
names_of no_members = []
names_of (member key d ms) = key ∷ names_of ms

abbrev pub is_own_key : TableKind → List ℕ → Bool
is_own_key kinds.File key = bytes_eq key (codes "version") || bytes_eq key (codes "clock") || bytes_eq key (codes "every")
is_own_key kinds.Clock key =
    bytes_eq key (codes "identity")
    || bytes_eq key (codes "description")
    || bytes_eq key (codes "alias")
    || bytes_eq key (codes "domain")
    || bytes_eq key (codes "port")
is_own_key kinds.EveryClock key =
    bytes_eq key (codes "domain")
    || bytes_eq key (codes "clocks")
    || bytes_eq key (codes "except")
    || bytes_eq key (codes "port")
is_own_key kinds.Port key = bytes_eq key (codes "number")
is_own_key kinds.EveryPort key = false
is_own_key kinds.UtcProperties key =
    bytes_eq key (codes "currentUtcOffset")
    || bytes_eq key (codes "leap61")
    || bytes_eq key (codes "leap59")
    || bytes_eq key (codes "currentUtcOffsetValid")

-- an id of a port is in a table of a port. A USER_DESCRIPTION (0002) is one clock's
abbrev pub has_id : TableKind → PlannedId → Bool
has_id kinds.File id = false
has_id kinds.Clock id = not (is_of_port (number_of id))
has_id kinds.EveryClock id = not (is_of_port (number_of id)) && not (number_of id == 2)
has_id kinds.Port id = is_of_port (number_of id)
has_id kinds.EveryPort id = is_of_port (number_of id)
has_id kinds.UtcProperties id = false

abbrev pub names_id : TableKind → List ℕ → Bool
names_id kind key = list_any (λ id. has_id kind id && bytes_eq (name_of id) key) ALL

abbrev pub is_key : TableKind → List ℕ → Bool
is_key kind key = is_own_key kind key || names_id kind key

-- the first key that such a table may not have
unfoldable pub other_key : TableKind → Members → Option (List ℕ)
other_key kind ms = find (λ key. not (is_key kind key)) (names_of ms)

abbrev pub unless_other : {A : Type 0} → Option (List ℕ) → Option A → Option A
unless_other None what = what
unless_other (Some key) what = None

-- what a table is, if it has no other key
abbrev pub with_keys : {A : Type 0} → TableKind → Members → Option A → Option A
with_keys kind ms what = unless_other (other_key kind ms) what

-- ---- what an id is to be

abbrev pub typed_by : Option Bool → Option (List ℕ) → Option ℤ → Option (List ℕ)
typed_by (Some flag) text number = Some (flag_name flag)
typed_by None (Some text) number = Some text
typed_by None None (Some number) = Some (signed_decimal number)
typed_by None None None = None

-- a value as a person types it: true or false, a text, or a number in decimal
unfoldable pub typed : Data → Option (List ℕ)
typed d = typed_by (as_bool d) (as_str d) (as_integer d)

abbrev pub typed_at : List ℕ → Members → Option (Option (List ℕ))
typed_at key ms = if_there typed (get_member key ms)

abbrev pub utc_by : Option (Option (List ℕ)) → Option (Option (List ℕ)) → Option (Option (List ℕ)) → Option (Option (List ℕ)) → Option UtcWish
utc_by (Some offset) (Some leap61) (Some leap59) (Some valid) =
    Some (record { offset = offset; leap61 = leap61; leap59 = leap59; valid = valid })
utc_by _ _ _ _ = None

-- the members of UTC_PROPERTIES that a table names (15.5.3.6.2)
unfoldable pub utc_in : Members → Option UtcWish
utc_in ms =
    with_keys kinds.UtcProperties ms
    (utc_by (typed_at (codes "currentUtcOffset") ms) (typed_at (codes "leap61") ms) (typed_at (codes "leap59") ms)
    (typed_at (codes "currentUtcOffsetValid") ms))

abbrev pub wished_of : PlannedId → Data → Option Wished
wished_of ids.UtcProperties d = option_map wishes.UtcProperties (option_and_then utc_in (as_table d))
wished_of id d = option_map wishes.Alone (typed d)

abbrev pub wish_of : PlannedId → Data → Option Wish
wish_of id d = option_map (λ w. record { id = id; wished = w }) (wished_of id d)

-- what a table asks of an id that it names
unfoldable pub wish_in : Members → PlannedId → Option (Option Wish)
wish_in ms id = option_map (wish_of id) (get_member (name_of id) ms)

-- what it asks of each id that it names
unfoldable pub wishes_in : Members → Option (List Wish)
wishes_in ms = all_of (filter_map (wish_in ms) ALL)

-- the same of a table of this kind
abbrev pub wishes_of : TableKind → Members → Option (List Wish)
wishes_of kind ms = with_keys kind ms (wishes_in ms)

-- ---- a clock

pub record PortValue : Type 0 where
  pub number : ℕ
  pub wishes : List Wish

pub record ClockValue : Type 0 where
  pub place : ℕ
  pub target : Target
  pub alias : Option (List ℕ)
  pub domain : ℕ
  pub wishes : List Wish
  pub ports : List PortValue

abbrev pub port_by : Option ℕ → Option (List Wish) → Option PortValue
port_by (Some number) (Some asked) = Some (record { number = number; wishes = asked })
port_by _ _ = None

-- a port by its portNumber: 0 and 0xFFFF are of no port (7.5.2.3)
abbrev pub port_of : Members → Option PortValue
port_of ms = port_by (option_and_then (number_in 1 65534) (get_member (codes "number") ms)) (wishes_of kinds.Port ms)

unfoldable pub port_in : Data → Option PortValue
port_in d = option_and_then port_of (as_table d)

unfoldable pub ports_in : Members → Option (List PortValue)
ports_in ms = option_and_then (read_each (λ before. port_in) []) (items_at (codes "port") ms)

abbrev pub if_of_one : Option ClockIdentity → Option Target
if_of_one None = None
if_of_one (Some clock) = if is_of_one_clock clock then Some (targets.Identity clock) else None

abbrev pub target_by : Option (Option (List ℕ)) → Option (Option (List ℕ)) → Option Target
target_by (Some (Some identity)) (Some None) = if_of_one (clock_identity_of identity)
target_by (Some None) (Some (Some description)) = Some (targets.Description description)
target_by _ _ = None

-- a clock by its identity, or by its description
unfoldable pub target_in : Members → Option Target
target_in ms = target_by (text_at (codes "identity") ms) (text_at (codes "description") ms)

abbrev pub clock_by : ℕ → Option Target → Option (Option (List ℕ)) → Option ℕ → Option (List Wish) → Option (List PortValue) → Option ClockValue
clock_by place (Some target) (Some alias) (Some domain) (Some asked) (Some ports) =
    Some (record { place = place; target = target; alias = alias; domain = domain; wishes = asked; ports = ports })
clock_by place _ _ _ _ _ = None

abbrev pub has_alias : List ℕ → Option (List ℕ) → Bool
has_alias text None = false
has_alias text (Some alias) = bytes_eq alias text

-- one of these has this alias
abbrev pub is_taken : List ClockValue → List ℕ → Bool
is_taken clocks text = is_some (find (λ c. has_alias text c.alias) clocks)

abbrev pub alias_if : List ClockValue → Option (List ℕ) → Option (Option (List ℕ))
alias_if earlier None = Some None
alias_if earlier (Some text) =
    if is_some (clock_identity_of text) then None else if is_taken earlier text then None else Some (Some text)

-- the alias, if there is one: it is not a clockIdentity, and no clock before has it
unfoldable pub alias_in : List ClockValue → Members → Option (Option (List ℕ))
alias_in earlier ms = option_and_then (alias_if earlier) (text_at (codes "alias") ms)

-- a clock, after these
abbrev pub clock_of : List ClockValue → Members → Option ClockValue
clock_of earlier ms =
    clock_by (length earlier) (target_in ms) (alias_in earlier ms) (domain_in ms) (wishes_of kinds.Clock ms) (ports_in ms)

unfoldable pub clock_in : List ClockValue → Data → Option ClockValue
clock_in earlier d = option_and_then (clock_of earlier) (as_table d)

-- ---- every clock

pub record EveryValue : Type 0 where
  pub place : ℕ
  pub domain : ℕ
  pub clocks : Option ℕ
  pub except : List Target
  pub wishes : List Wish
  pub port_wishes : List Wish

abbrev pub named_by : Option ClockValue → Option ClockIdentity → Option Target
named_by (Some c) identity = Some c.target
named_by None (Some identity) = Some (targets.Identity identity)
named_by None None = None

-- the clock of this alias, or else of this identity
unfoldable pub named_in : List ClockValue → List ℕ → Option Target
named_in clocks text = named_by (find (λ c. has_alias text c.alias) clocks) (clock_identity_of text)

abbrev pub excepted : List ClockValue → Data → Option Target
excepted clocks d = option_and_then (named_in clocks) (as_str d)

abbrev pub excepted_of : List ClockValue → Data → Option (List Target)
excepted_of clocks d = option_and_then (λ ds. read_each (λ before. excepted clocks) [] (list_of ds)) (as_array d)

-- the clocks that are left out
unfoldable pub except_in : List ClockValue → Members → Option (List Target)
except_in clocks ms = or_absent [] (excepted_of clocks) (get_member (codes "except") ms)

-- how many clocks are to answer, if the key is there
abbrev pub expected_in : Members → Option (Option ℕ)
expected_in ms = if_there (number_in 1 65535) (get_member (codes "clocks") ms)

unfoldable pub port_wishes_in : Members → Option (List Wish)
port_wishes_in ms = or_absent [] (λ d. option_and_then (wishes_of kinds.EveryPort) (as_table d)) (get_member (codes "port") ms)

abbrev pub every_by : ℕ → Option ℕ → Option (Option ℕ) → Option (List Target) → Option (List Wish) → Option (List Wish) → Option EveryValue
every_by place (Some domain) (Some expected) (Some except) (Some asked) (Some of_ports) = Some (record {
  place = place;
  domain = domain;
  clocks = expected;
  except = except;
  wishes = asked;
  port_wishes = of_ports;
})
every_by place _ _ _ _ _ = None

abbrev pub every_of : List ClockValue → ℕ → Members → Option EveryValue
every_of clocks n ms =
    every_by (length clocks + n) (domain_in ms) (expected_in ms) (except_in clocks ms) (wishes_of kinds.EveryClock ms) (port_wishes_in ms)

unfoldable pub every_in : List ClockValue → ℕ → Data → Option EveryValue
every_in clocks n d = option_and_then (every_of clocks n) (as_table d)

-- ---- the file

pub record FileValue : Type 0 where
  pub clocks : List ClockValue
  pub every : List EveryValue

unfoldable pub clocks_in : Members → Option (List ClockValue)
clocks_in ms = option_and_then (read_each clock_in []) (items_at (codes "clock") ms)

unfoldable pub all_every_in : List ClockValue → Members → Option (List EveryValue)
all_every_in clocks ms =
    option_and_then (read_each (λ before. every_in clocks (length before)) []) (items_at (codes "every") ms)

abbrev pub file_with : Members → Option (List ClockValue) → Option FileValue
file_with ms None = None
file_with ms (Some clocks) = option_map (λ every. record { clocks = clocks; every = every }) (all_every_in clocks ms)

abbrev pub version_in : Members → Option ℕ
version_in ms = option_and_then (number_in 1 1) (get_member (codes "version") ms)

-- a file of version 1
abbrev pub file_in : Members → Option FileValue
file_in ms = if is_some (version_in ms) then with_keys kinds.File ms (file_with ms (clocks_in ms)) else None

-- what a text asks for
unfoldable pub file_of : List ℕ → Option FileValue
file_of text = option_and_then file_in (parse_document text)

-- ---- as the program has it

-- what was looked for is read if it is there; if it is not read, it is not there, or memory was refused
abbrev pub Reads : {A B : Type 0} → Result A FileFault → (A → B) → Option B → Type 0
Reads (Ok x) value found = found ≡ Some (value x)
Reads (Err fault) value found = fault ≢ faults.OutOfMemory → found ≡ None

abbrev pub port_value : PortWishes → PortValue
port_value p = record { number = p.number; wishes = p.wishes.items }

abbrev pub clock_value : ClockWishes → ClockValue
clock_value c = record {
  place = c.place;
  target = c.target;
  alias = c.alias;
  domain = c.domain;
  wishes = c.wishes.items;
  ports = map port_value c.ports.items;
}

abbrev pub every_value : EveryWishes → EveryValue
every_value e = record {
  place = e.place;
  domain = e.domain;
  clocks = e.clocks;
  except = e.except.items;
  wishes = e.wishes.items;
  port_wishes = e.port_wishes.items;
}

abbrev pub file_value : PlanFile → FileValue
file_value f = record { clocks = map clock_value f.clocks.items; every = map every_value f.every.items }
