-- Which clock is restored from octets, over the table of a clock with these managers, and why none is (this project's profile).
use Rattle.std.specs.Prelude.{◌≡◌, ◌≢◌, ℕ, ◌+◌, ◌%◌, ◌≤◌, ◌==◌, ◌||◌, not, nat_lt, Bool, if◌then◌else◌, List, [], ◌∷◌, length, take, drop, bytes_eq, Option, Some, None}
use Rattle.std.specs.FinMap as fin
use Rattle.ptpm_codec.specs.declared.identity.ClockIdentity.{ClockIdentity}
use Rattle.ptpm_codec.specs.declared.identity.PortIdentity.{PortIdentity}
use Rattle.ptpm_codec.specs.Layout.{octet}
use Rattle.ptpm_codec.specs.Ordered.{first_of}
use Rattle.ptpm_data.specs.Image.{BeginsWithImage}
use Rattle.ptpm_data.specs.Members.{DataSetsValue}
use Rattle.ptpm_table.specs.Entries.{Entries, Entry, is_known}
use Rattle.ptpm_manager.specs.Image.{image_head, image_version, mark}
use Rattle.ptpm_saved.specs.declared.error.RestoreError.{RestoreError}
use Rattle.ptpm_saved.specs.declared.error.RestoreError.TheVariants as restores
use Rattle.ptpm_saved.specs.declared.error.RestoreFault.{RestoreFault}
use Rattle.ptpm_saved.specs.declared.error.RestoreFault.TheVariants as faults
use Rattle.ptpm_saved.specs.Image.{AreEntries, IsSaved, SavedClock, answers_kept, clock_kind, entries_image, saved_image}

-- the octets are the image of this clock
pub record IsImageOf (c : SavedClock) (octets : List ℕ) : Type 0 where
  pub saved : IsSaved c
  pub octets_are : octets ≡ saved_image c

-- ---- an image, read as far as its data sets

-- its head is right, and these data sets come after it
pub record IsBegun (image : List ℕ) (sets : DataSetsValue) : Type 0 where
  pub long : 12 ≤ length image
  pub head : take 12 image ≡ image_head clock_kind (length (drop 12 image) % 4294967296)
  pub sets_first : BeginsWithImage sets (drop 12 image)

-- with this many entries after them it is the image of the clock that has these data sets and these entries
pub record IsOpened (image : List ℕ) (sets : DataSetsValue) (count : ℕ) (octets : List ℕ) : Type 0 where
  pub whole : (es : List (PortIdentity × Entry)) → AreEntries (answers_kept sets) es → length es ≡ count → octets ≡ entries_image es
      → IsImageOf (record { sets = sets; entries = es }) image

-- what is found when the image of this clock is opened
pub record OpensAs (c : SavedClock) (sets : DataSetsValue) (count : ℕ) (octets : List ℕ) : Type 0 where
  pub sets_are : sets ≡ c.sets
  pub count_is : count ≡ length c.entries
  pub octets_are : octets ≡ entries_image c.entries

-- ---- the entries that stay

-- an entry stays if its manager is one of these
abbrev pub kept_by : Bool → Entries → PortIdentity × Entry → Entries
kept_by known entries e = if known then fin.insert entries e.0 e.1 else entries

abbrev pub kept_of : List PortIdentity → List (PortIdentity × Entry) → Entries → Entries
kept_of managers [] entries = entries
kept_of managers (e ∷ es) entries = kept_of managers es (kept_by (is_known e.0 managers) entries e)

-- how many are let go, since their manager is no longer configured
abbrev pub let_go : List PortIdentity → List (PortIdentity × Entry) → ℕ
let_go managers [] = 0
let_go managers (e ∷ es) = if is_known e.0 managers then let_go managers es else 1 + let_go managers es

-- these entries were put into a table if their managers are known to it, and this many others were let go
pub record IsRestored (managers : List PortIdentity) (es : List (PortIdentity × Entry)) (before after : Entries) (gone : ℕ) : Type 0 where
  pub entries : after ≡ kept_of managers es before
  pub gone_is : gone ≡ let_go managers es

-- ---- refusals, in their order

unfoldable pub head_refusal : List ℕ → Option RestoreError
head_refusal octets = first_of (
    (nat_lt (length octets) 12 || not (bytes_eq (take 4 octets) mark), restores.NotAnImage)
    ∷ (not (octet 5 octets == image_version), restores.OtherVersion)
    ∷ (not (octet 4 octets == clock_kind), restores.OtherKind)
    ∷ [])

-- the head is the reason
abbrev pub IsRefusedByHead : List ℕ → RestoreError → Type 0
IsRefusedByHead octets restores.NotAnImage = head_refusal octets ≡ Some restores.NotAnImage
IsRefusedByHead octets restores.OtherVersion = head_refusal octets ≡ Some restores.OtherVersion
IsRefusedByHead octets restores.OtherKind = head_refusal octets ≡ Some restores.OtherKind
IsRefusedByHead octets restores.Damaged = ⊥
IsRefusedByHead octets restores.OtherClock = ⊥
IsRefusedByHead octets restores.OtherPorts = ⊥

-- the octets are an image of a clock of this identity; below, of a clock of another one
pub record IsOfClock (me : ClockIdentity) (octets : List ℕ) (c : SavedClock) : Type 0 where
  pub image : IsImageOf c octets
  pub own : c.sets.default.identity ≡ me

pub record IsOfOther (me : ClockIdentity) (octets : List ℕ) : Type 0 where
  pub clock : SavedClock
  pub image : IsImageOf clock octets
  pub other : clock.sets.default.identity ≢ me

pub record HasOtherPorts (me : ClockIdentity) (ports : ℕ) (octets : List ℕ) : Type 0 where
  pub clock : SavedClock
  pub of_clock : IsOfClock me octets clock
  pub other : length clock.sets.ports ≢ ports

-- why no clock of this identity with this many ports is restored from the octets
abbrev pub IsRefused : ClockIdentity → ℕ → List ℕ → RestoreError → Type 0
IsRefused me ports octets restores.NotAnImage = head_refusal octets ≡ Some restores.NotAnImage
IsRefused me ports octets restores.OtherVersion = head_refusal octets ≡ Some restores.OtherVersion
IsRefused me ports octets restores.OtherKind = head_refusal octets ≡ Some restores.OtherKind
IsRefused me ports octets restores.Damaged = (head_refusal octets ≡ None) × ((c : SavedClock) → IsImageOf c octets → ⊥)
IsRefused me ports octets restores.OtherClock = IsOfOther me octets
IsRefused me ports octets restores.OtherPorts = HasOtherPorts me ports octets

-- or want of memory, which can come in place of any of these but a refusal by the head
abbrev pub IsWhyNot : ClockIdentity → ℕ → List ℕ → RestoreFault → Type 0
IsWhyNot me ports octets (faults.Refused e) = IsRefused me ports octets e
IsWhyNot me ports octets faults.OutOfMemory = head_refusal octets ≡ None
