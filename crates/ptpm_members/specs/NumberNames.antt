-- The numbers that the standard names: one table for texts, for JSON, for charts and for what is typed.
use Rattle.std.specs.Prelude.{ℕ, ◌==◌, Bool, false, if◌then◌else◌, List, [], ◌∷◌, ◌++◌, Option, Some, None, codes, find, option_map}
use Rattle.std.specs.Option.{option_or}
use Rattle.std.specs.Str.{str_eq_ignore_ascii_case}
use Rattle.ptpm_codec.specs.Identity.{octet_text}
use Rattle.ptpm_data.specs.declared.port_state.DelayMechanism.{DelayMechanism}
use Rattle.ptpm_data.specs.declared.port_state.DelayMechanism.TheVariants as mechanisms
use Rattle.ptpm_data.specs.declared.port_state.PortState.{PortState}
use Rattle.ptpm_data.specs.declared.port_state.PortState.TheVariants as states
use Rattle.ptpm_data.specs.PortState.{mechanism_of, state_of}
use Rattle.ptpm_members.specs.declared.number_names.Enumeration.{Enumeration}
use Rattle.ptpm_members.specs.declared.number_names.Enumeration.TheVariants as enumerations

-- ---- names

-- 9.2.5, table 10
abbrev pub state_name : PortState → List ℕ
state_name states.Initializing = codes "INITIALIZING"
state_name states.Faulty = codes "FAULTY"
state_name states.Disabled = codes "DISABLED"
state_name states.Listening = codes "LISTENING"
state_name states.PreMaster = codes "PRE_MASTER"
state_name states.Master = codes "MASTER"
state_name states.Passive = codes "PASSIVE"
state_name states.Uncalibrated = codes "UNCALIBRATED"
state_name states.Slave = codes "SLAVE"

-- 8.2.15.4.4, table 21
abbrev pub mechanism_name : DelayMechanism → List ℕ
mechanism_name mechanisms.EndToEnd = codes "E2E"
mechanism_name mechanisms.PeerToPeer = codes "P2P"
mechanism_name mechanisms.NoMechanism = codes "NO_MECHANISM"

-- that of a delay mechanism that no clock of this project has
abbrev pub other_mechanism : ℕ → Option (List ℕ)
other_mechanism n = if n == 3 then Some (codes "COMMON_P2P") else if n == 4 then Some (codes "SPECIAL") else None

abbrev pub mechanism_number_name : ℕ → Option (List ℕ)
mechanism_number_name n = option_or (option_map mechanism_name (mechanism_of n)) (other_mechanism n)

-- of a timeSource (7.6.2.8, table 6)
abbrev pub source_name : ℕ → Option (List ℕ)
source_name n =
    if n == 0x10 then Some (codes "ATOMIC_CLOCK")
    else if n == 0x20 then Some (codes "GNSS")
    else if n == 0x30 then Some (codes "TERRESTRIAL_RADIO")
    else if n == 0x39 then Some (codes "SERIAL_TIME_CODE")
    else if n == 0x40 then Some (codes "PTP")
    else if n == 0x50 then Some (codes "NTP")
    else if n == 0x60 then Some (codes "HAND_SET")
    else if n == 0x90 then Some (codes "OTHER")
    else if n == 0xa0 then Some (codes "INTERNAL_OSCILLATOR")
    else None

-- of a way of timestamping, of linuxptp
abbrev pub timestamping_name : ℕ → Option (List ℕ)
timestamping_name n =
    if n == 0 then Some (codes "SOFTWARE")
    else if n == 1 then Some (codes "HARDWARE")
    else if n == 2 then Some (codes "LEGACY_HW")
    else if n == 3 then Some (codes "ONESTEP")
    else if n == 4 then Some (codes "P2P1STEP")
    else None

-- ---- the name of a number, if it has one

abbrev pub name_of : Enumeration → ℕ → Option (List ℕ)
name_of enumerations.PortState n = option_map state_name (state_of n)
name_of enumerations.DelayMechanism n = mechanism_number_name n
name_of enumerations.TimeSource n = source_name n
name_of enumerations.Timestamping n = timestamping_name n

-- a name, or the number in hexadecimal if it has none
abbrev pub name_or_number : Option (List ℕ) → ℕ → List ℕ
name_or_number None n = codes "0x" ++ octet_text n
name_or_number (Some name) n = name

unfoldable pub enumeration_text : Enumeration → ℕ → List ℕ
enumeration_text e n = name_or_number (name_of e n) n

-- ---- the number of a name

-- whether a text is this name, in either case
abbrev pub is_name : List ℕ → Option (List ℕ) → Bool
is_name text None = false
is_name text (Some name) = str_eq_ignore_ascii_case text name

-- the numbers that have a name
abbrev pub named_numbers : Enumeration → List ℕ
named_numbers enumerations.PortState = 1 ∷ 2 ∷ 3 ∷ 4 ∷ 5 ∷ 6 ∷ 7 ∷ 8 ∷ 9 ∷ []
named_numbers enumerations.DelayMechanism = 1 ∷ 2 ∷ 3 ∷ 4 ∷ 0xfe ∷ []
named_numbers enumerations.TimeSource = 0x10 ∷ 0x20 ∷ 0x30 ∷ 0x39 ∷ 0x40 ∷ 0x50 ∷ 0x60 ∷ 0x90 ∷ 0xa0 ∷ []
named_numbers enumerations.Timestamping = 0 ∷ 1 ∷ 2 ∷ 3 ∷ 4 ∷ []

-- the first of these numbers with this name
abbrev pub named_in : Enumeration → List ℕ → List ℕ → Option ℕ
named_in e text numbers = find (λ n. is_name text (name_of e n)) numbers

unfoldable pub number_of : Enumeration → List ℕ → Option ℕ
number_of e text = named_in e text (named_numbers e)
