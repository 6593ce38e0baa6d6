-- Which messages were passed on last (this project's profile): a table of places. A message may be noted in sixteen of them.
use Rattle.std.specs.Prelude.{◌≡◌, ◌<◌, ◌≤◌, ◌⊎◌, ℕ, ◌+◌, ◌-◌, ◌*◌, ◌/◌, ◌%◌, ◌^◌, ◌&&◌, ◌==◌, Bool, true, false, List, MatchBool, length, nat_lt, slice_set, bit_or, bit_xor, All, [], ◌∷◌}
use Rattle.std.specs.List.{slice_index_or}
use Rattle.std.specs.Int.{from_be_bytes, w64}
use Rattle.ptpm_codec.specs.declared.identity.ClockIdentity.{ClockIdentity}
use Rattle.ptpm_codec.specs.declared.message.Message.{Message}
use Rattle.ptpm_codec.specs.Message.{action_code, action_of, id_of}
use Rattle.ptpm_host.specs.declared.passed_on.MessageKey.{MessageKey}
use Rattle.ptpm_host.specs.declared.passed_on.PassedOn.{PassedOn}
use Rattle.ptpm_host.specs.declared.passed_on.PassedOnPlace.{PassedOnPlace}

-- ---- what distinguishes one message from another

abbrev pub clock_number : ClockIdentity → ℕ
clock_number identity = from_be_bytes w64 identity.0

abbrev pub key_of : Message → MessageKey
key_of m = record {
  source_clock = clock_number m.source.clock;
  target_clock = clock_number m.target.clock;
  source_port = m.source.port;
  number = m.number;
  target_port = m.target.port;
  id = id_of m.body;
  action = action_code (action_of m.body);
}

abbrev pub same_key : MessageKey → MessageKey → Bool
same_key a b =
    a.source_clock == b.source_clock && (a.target_clock == b.target_clock && (a.source_port == b.source_port
    && (a.number == b.number && (a.target_port == b.target_port && (a.id == b.id && a.action == b.action)))))

-- ---- a table

-- these places of a host's, with this seed
abbrev pub table_of : ℕ → List PassedOnPlace → PassedOn
table_of seed places = record { seed = seed; places = places }

-- a table has that many places
abbrev pub IsTableSize : ℕ → Type 0
IsTableSize count = (16 ≤ count) × (count ≤ 1048576)

-- ---- where it may be noted: in sixteen places that follow each other, from one that its key and the table's seed make

unfoldable pub stirred : ℕ → ℕ → ℕ
stirred number by =
    let product = (bit_xor number by * 0x9e3779b97f4a7c15) % 2 ^ 64 in bit_xor product (product / 2 ^ 32)

-- of a table with that number of places
unfoldable pub first_place : ℕ → ℕ → MessageKey → ℕ
first_place count seed key =
    let clocks = stirred (stirred seed key.source_clock) key.target_clock in
    let ports = bit_or (key.source_port * 2 ^ 32) (key.target_port * 2 ^ 16) in
    let rest = bit_or (bit_or (key.number * 2 ^ 32) (key.id * 2 ^ 8)) key.action in
    stirred (stirred clocks ports) rest % count

abbrev pub first_of : PassedOn → MessageKey → ℕ
first_of t key = first_place (length t.places) t.seed key

-- the places that follow each other from a place on; after the last comes the first again
abbrev pub place_from : ℕ → ℕ → ℕ → ℕ
place_from count first i = (first + i) % count

abbrev pub no_key : MessageKey
no_key = record { source_clock = 0; target_clock = 0; source_port = 0; number = 0; target_port = 0; id = 0; action = 0 }

abbrev pub free : PassedOnPlace
free = record { since = 0; time = 0; key = no_key }

abbrev pub nth_from : List PassedOnPlace → ℕ → ℕ → PassedOnPlace
nth_from places first i = slice_index_or places (place_from (length places) first i) free

-- ---- what is noted

-- a message that was noted for a time is noted while less than that has passed
abbrev pub is_live : ℕ → PassedOnPlace → Bool
is_live now p = nat_lt (now - p.since) p.time

abbrev pub is_noted : ℕ → MessageKey → PassedOnPlace → Bool
is_noted now key p = is_live now p && same_key p.key key

-- of the sixteen from a place on: one has the message; none has it; in each something is still noted; this one is free
abbrev pub HasFrom : List PassedOnPlace → ℕ → ℕ → MessageKey → Type 0
HasFrom places first now key = (i : ℕ) × (i < 16) × (is_noted now key (nth_from places first i) ≡ true)

abbrev pub LacksFrom : List PassedOnPlace → ℕ → ℕ → MessageKey → Type 0
LacksFrom places first now key = (i : ℕ) → i < 16 → is_noted now key (nth_from places first i) ≡ false

abbrev pub TakenFrom : List PassedOnPlace → ℕ → ℕ → Type 0
TakenFrom places first now = (i : ℕ) → i < 16 → is_live now (nth_from places first i) ≡ true

abbrev pub FreeFrom : List PassedOnPlace → ℕ → ℕ → ℕ → Type 0
FreeFrom places first now place =
    (i : ℕ) × (i < 16) × (place ≡ place_from (length places) first i) × (is_live now (nth_from places first i) ≡ false)

abbrev pub NotesNothing : PassedOn → Type 0
NotesNothing t = (now place : ℕ) → is_live now (slice_index_or t.places place free) ≡ false

-- ---- one question: is a message with this key passed on?

-- it was not noted, and is noted now in a place that was free
abbrev pub IsLetThrough : PassedOn → MessageKey → ℕ → ℕ → PassedOn → Type 0
IsLetThrough t key now time u =
    LacksFrom t.places (first_of t key) now key
    × ((place : ℕ) × (FreeFrom t.places (first_of t key) now place
    × (u ≡ record t { places = slice_set t.places place (record { since = now; time = time; key = key }) })))

-- it is noted, or there is no place for it; and nothing changes
abbrev pub IsKeptBack : PassedOn → MessageKey → ℕ → PassedOn → Type 0
IsKeptBack t key now u =
    (HasFrom t.places (first_of t key) now key ⊎ TakenFrom t.places (first_of t key) now) × (u ≡ t)

abbrev pub IsAsked : PassedOn → MessageKey → ℕ → ℕ → Bool → PassedOn → Type 0
IsAsked t key now time answer u = MatchBool answer (IsLetThrough t key now time u) (IsKeptBack t key now u)

-- ---- what holds for questions that are asked one after another: a message that was let through is not let through again within its
-- time.

-- a message of this key that comes at a time; if it is passed on, it is noted for a time
pub record Ask : Type 0 where
  pub key : MessageKey
  pub now : ℕ
  pub time : ℕ

-- messages that come one after another, what is answered to each, and the table after them
abbrev pub Asked : PassedOn → List Ask → List Bool → PassedOn → Type 0
Asked t [] [] u = u ≡ t
Asked t [] (answer ∷ answers) u = ⊥
Asked t (a ∷ asks) [] u = ⊥
Asked t (a ∷ asks) (answer ∷ answers) u =
    (s : PassedOn) × (IsAsked t a.key a.now a.time answer s × Asked s asks answers u)

-- in a table of any size, whatever came between, if it came no later than the second message
abbrev pub NotTwice : Type 0
NotTwice = (t u v w : PassedOn) (a b : Ask) (between : List Ask) (answers : List Bool) (answer : Bool)
    → 16 ≤ length t.places
    → IsAsked t a.key a.now a.time true u
    → Asked u between answers v
    → All (λ x. x.now ≤ b.now) between
    → b.key ≡ a.key
    → b.now - a.now < a.time
    → IsAsked v b.key b.now b.time answer w
    → answer ≡ false
