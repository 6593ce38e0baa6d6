-- The words of what an accepted SET is answered and changes (IEEE 1588-2019, 15.5.3).
use Rattle.std.specs.Prelude.{◌≡◌, ◌≢◌, ◌<◌, ◌+◌, ◌%◌, ℕ, true, false, List, [], ◌∷◌, ◌++◌, take, replicate, Option, Some, None}
use Rattle.ptpm_codec.specs.declared.message.Action.TheVariants as actions
use Rattle.ptpm_data.specs.declared.management_id.Layout.{Layout}
use Rattle.ptpm_data.specs.declared.management_id.Layout.TheVariants as layouts
use Rattle.ptpm_data.specs.declared.members.Member.{Member}
use Rattle.ptpm_data.specs.declared.rights.Rights.{Rights}
use Rattle.ptpm_data.specs.ManagementId.{RowValue}
use Rattle.ptpm_data.specs.MemberMap.{OfClock, Place, natural, value_of}
use Rattle.ptpm_data.specs.Members.{DataSetsValue, is_own_grandmaster}
use Rattle.ptpm_data.specs.Refusals.{refusal_of}
use Rattle.ptpm_data.specs.Request.{RequestValue}
use Rattle.ptpm_data.specs.SetField.{octet}

-- a SET that is carried out
pub record IsAcceptedSet (q : RequestValue) (rights : Rights) : Type 0 where
  pub set : q.action ≡ actions.Set
  pub accepted : refusal_of q rights ≡ None

-- a GET of the same id, of the same target port
abbrev pub get_of : RequestValue → RequestValue
get_of q = record { action = actions.Get; id = q.id; port = q.port; octets = [] }

-- octets are numbers below 256
abbrev pub AreOctets : List ℕ → Type 0
AreOctets octets = (place : ℕ) → octet place octets < 256

-- The dataField of an accepted SET as the standard has it. A reserved octet is 0, and a text has a pad of 0 if its size
-- would be odd. Of the flags of UTC_PROPERTIES it has the three that it sets.
abbrev pub standard_field : Layout → List ℕ → List ℕ
standard_field layouts.NullPtpManagement octets = []
standard_field layouts.UserDescription octets = take (1 + octet 0 octets) octets ++ replicate ((1 + octet 0 octets) % 2) 0
standard_field layouts.UtcProperties octets = take 2 octets ++ octet 2 octets % 8 ∷ 0 ∷ []
standard_field _ octets = octet 0 octets ∷ 0 ∷ []

abbrev pub standard_field_at : Option RowValue → List ℕ → List ℕ
standard_field_at None octets = octets
standard_field_at (Some e) octets = standard_field e.layout octets

-- A member of the clock's own becomes a number. The grandmaster's member becomes the same if the clock is its own
-- grandmaster (9.3.5, table 30). Every other member stays, whatever the data sets are.
pub record MovesWithGrandmaster (own grandmaster : Member) (number : ℕ) (before after : DataSetsValue) : Type 0 where
  pub moved : value_of (OfClock own) after ≡ natural number
  pub followed : is_own_grandmaster before ≡ true
      → value_of (OfClock grandmaster) after ≡ natural number
  pub left : is_own_grandmaster before ≡ false
      → value_of (OfClock grandmaster) after ≡ value_of (OfClock grandmaster) before
  pub others : (place : Place)
      → place ≢ OfClock own
      → place ≢ OfClock grandmaster
      → value_of place after ≡ value_of place before
