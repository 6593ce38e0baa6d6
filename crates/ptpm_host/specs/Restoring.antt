-- Which clock goes on from an image, and why none does.
use Rattle.std.specs.Prelude.{◌≡◌, ◌≤◌, ℕ, Bool, true, false, List, [], length, Option, Some, None}
use Rattle.std.specs.FinMap.{empty}
use Rattle.ptpm_codec.specs.declared.identity.ClockIdentity.{ClockIdentity}
use Rattle.ptpm_table.specs.Managers.{clock_with, identities, block_refusal}
use Rattle.ptpm_saved.specs.Image.{SavedClock, answers_kept}
use Rattle.ptpm_saved.specs.declared.error.RestoreError.{RestoreError}
use Rattle.ptpm_saved.specs.declared.error.RestoreError.TheVariants as images
use Rattle.ptpm_saved.specs.Restoring.{IsImageOf, IsRefused, IsRestored}
use Rattle.ptpm_saved.specs.SavingClock.{Datagram}
use Rattle.ptpm_host.specs.Clock.{clock_in, state_in}
use Rattle.ptpm_host.specs.SavingClock.{request_under_way}
use Rattle.ptpm_host.specs.UnderWay.{IsUnderWayImage}
use Rattle.ptpm_host.specs.Settings.{configured, is_zero}
use Rattle.ptpm_host.specs.declared.clock.HostedClock.{HostedClock}
use Rattle.ptpm_host.specs.declared.refusal.ClockRestoreRefusal.{ClockRestoreRefusal}
use Rattle.ptpm_host.specs.declared.refusal.ClockRestoreRefusal.TheVariants as refusals
use Rattle.ptpm_host.specs.declared.settings.ManagerSettings.{ManagerSettings}

-- the managers can be a clock's, and its identity can be one
pub record HasOwner (identity : ClockIdentity) (managers : List ManagerSettings) : Type 0 where
  pub managers_fit : block_refusal (identities (configured managers)) ≡ None
  pub not_zero : is_zero identity ≡ false

-- the image is of what was saved of a clock of this identity with this many ports, and the managers can be its managers
pub record CanRestore (identity : ClockIdentity) (ports : ℕ) (managers : List ManagerSettings) (image : List ℕ) (c : SavedClock) : Type 0 where
  pub managers_fit : block_refusal (identities (configured managers)) ≡ None
  pub not_zero : is_zero identity ≡ false
  pub image_of : IsImageOf c image
  pub own : c.sets.default.identity ≡ identity
  pub ports_are : length c.sets.ports ≡ ports

-- The clock goes on from what was saved: with its data sets, and with the entries of those that are its managers now. This many
-- other entries were let go. Managers and rights are the host's.
pub record IsBack (c : SavedClock) (managers : List ManagerSettings) (d : HostedClock) (gone : ℕ) : Type 0 where
  pub sets_are : (state_in d).sets ≡ c.sets
  pub entries_are : IsRestored (identities (configured managers)) c.entries empty (state_in d).entries gone
  pub clock_is : (clock_in d).clock ≡ clock_with c.sets.default.identity (configured managers)
  pub no_rows : (clock_in d).rows ≡ []

-- it has the data sets that were saved, and the host's managers; none of these has an entry yet
pub record IsBegunAs (c : SavedClock) (managers : List ManagerSettings) (d : HostedClock) : Type 0 where
  pub sets_are : (state_in d).sets ≡ c.sets
  pub nothing_kept : (state_in d).entries ≡ empty
  pub room : answers_kept c.sets ≤ d.agent.table.answers
  pub clock_is : (clock_in d).clock ≡ clock_with c.sets.default.identity (configured managers)
  pub no_rows : (clock_in d).rows ≡ []

-- ---- why a clock does not go on from an image: its managers first, then its identity, then the image. Want of memory can come in
-- place of a reason that the image gives.

abbrev pub IsRestoreRefused : ClockIdentity → ℕ → List ManagerSettings → List ℕ → ClockRestoreRefusal → Type 0
IsRestoreRefused identity ports managers image (refusals.Managers e) = block_refusal (identities (configured managers)) ≡ Some e
IsRestoreRefused identity ports managers image refusals.IdentityIsZero =
    (block_refusal (identities (configured managers)) ≡ None) × (is_zero identity ≡ true)
IsRestoreRefused identity ports managers image (refusals.Image e) =
    (block_refusal (identities (configured managers)) ≡ None) × (is_zero identity ≡ false) × IsRefused identity ports image e
IsRestoreRefused identity ports managers image refusals.OutOfMemory =
    (block_refusal (identities (configured managers)) ≡ None) × (is_zero identity ≡ false)

abbrev pub IsOwnerRefused : ClockIdentity → List ManagerSettings → ClockRestoreRefusal → Type 0
IsOwnerRefused identity managers (refusals.Managers e) = block_refusal (identities (configured managers)) ≡ Some e
IsOwnerRefused identity managers refusals.IdentityIsZero =
    (block_refusal (identities (configured managers)) ≡ None) × (is_zero identity ≡ true)
IsOwnerRefused identity managers _ = ⊥

-- ---- an image that may have what is under way

-- it is of this clock, with this under way; the image of the clock alone is inside it
abbrev pub CanRestoreWith : ClockIdentity → ℕ → List ManagerSettings → List ℕ → SavedClock → Option Datagram → Type 0
CanRestoreWith identity ports managers octets c None = CanRestore identity ports managers octets c
CanRestoreWith identity ports managers octets c (Some x) =
    (image : List ℕ) × IsUnderWayImage ports x image octets × CanRestore identity ports managers image c

-- the clock goes on from it, and the same is under way
pub record IsBackWith (c : SavedClock) (under_way : Option Datagram) (managers : List ManagerSettings) (d : HostedClock) (gone : ℕ) : Type 0 where
  pub clock : IsBack c managers d gone
  pub under_way_is : request_under_way d.under_way ≡ under_way

-- the image inside is none of a clock
abbrev pub IsNoImage : RestoreError → Type 0
IsNoImage images.NotAnImage = Unit {0}
IsNoImage images.OtherVersion = Unit {0}
IsNoImage images.OtherKind = Unit {0}
IsNoImage images.Damaged = Unit {0}
IsNoImage images.OtherClock = ⊥
IsNoImage images.OtherPorts = ⊥

-- The image inside is no image of a clock. So it is also if there is none.
abbrev pub IsDamagedInside : ClockIdentity → ℕ → List ℕ → Type 0
IsDamagedInside identity ports octets = (x : Datagram) (image : List ℕ)
    → IsUnderWayImage ports x image octets
    → (e : RestoreError) × IsNoImage e × IsRefused identity ports image e

-- the refusal, if the image inside is refused so
abbrev pub inside : ClockRestoreRefusal → ClockRestoreRefusal
inside (refusals.Image images.NotAnImage) = refusals.Image images.Damaged
inside (refusals.Image images.OtherVersion) = refusals.Image images.Damaged
inside (refusals.Image images.OtherKind) = refusals.Image images.Damaged
inside e = e

-- the image inside is refused so
abbrev pub IsRefusedInside : ClockIdentity → ℕ → List ℕ → RestoreError → Type 0
IsRefusedInside identity ports octets e = (x : Datagram) × (image : List ℕ)
    × IsUnderWayImage ports x image octets
    × IsRefused identity ports image e

abbrev pub IsImageRefused : ClockIdentity → ℕ → List ℕ → RestoreError → Type 0
IsImageRefused identity ports octets images.Damaged = IsDamagedInside identity ports octets
IsImageRefused identity ports octets images.OtherClock = IsRefusedInside identity ports octets images.OtherClock
IsImageRefused identity ports octets images.OtherPorts = IsRefusedInside identity ports octets images.OtherPorts
IsImageRefused identity ports octets _ = ⊥

abbrev pub IsUnderWayRefused : ClockIdentity → ℕ → List ManagerSettings → List ℕ → ClockRestoreRefusal → Type 0
IsUnderWayRefused identity ports managers octets (refusals.Image e) = HasOwner identity managers × IsImageRefused identity ports octets e
IsUnderWayRefused identity ports managers octets refusals.OutOfMemory = HasOwner identity managers
IsUnderWayRefused identity ports managers octets e = IsOwnerRefused identity managers e

-- by what the image says that it has
abbrev pub IsRefusedBy : Bool → ClockIdentity → ℕ → List ManagerSettings → List ℕ → ClockRestoreRefusal → Type 0
IsRefusedBy true identity ports managers octets e = IsUnderWayRefused identity ports managers octets e
IsRefusedBy false identity ports managers octets e = IsRestoreRefused identity ports managers octets e
