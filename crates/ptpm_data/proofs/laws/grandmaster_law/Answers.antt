-- A SET of a priority or of the accuracy: which members it moves.
use Rattle.std.proofs.Common.{arith, ◌≡◌, ◌≢◌, refl, ap, ℕ, Bool, List}
use Rattle.ptpm_data.specs.declared.rights.Rights.{Rights}
use Rattle.ptpm_data.specs.declared.members.Member.{Member}
use Rattle.ptpm_data.specs.declared.precedence_change.PrecedenceChange.{PrecedenceChange}
use Rattle.ptpm_data.specs.ManagementId.{row_of}
use Rattle.ptpm_data.specs.MemberMap.{OfClock, OfPort, Place, clock_member, value_of}
use Rattle.ptpm_data.specs.Members.{DataSetsValue, is_own_grandmaster}
use Rattle.ptpm_data.specs.Request.{RequestValue}
use Rattle.ptpm_data.specs.SetField.{octet}
use Rattle.ptpm_data.specs.Changes.{changed_by, grandmaster_changed, set_members}
use Rattle.ptpm_data.specs.PrecedenceChange.{precedence_after}
use Rattle.ptpm_data.specs.SetLaws.{IsAcceptedSet, MovesWithGrandmaster}
use Rattle.ptpm_data.proofs.OwnOctets.{set_changes}
use Rattle.ptpm_data.specs.declared.members.Member.TheVariants as members
use Rattle.ptpm_data.specs.declared.management_id.Layout.TheVariants as layouts
use Rattle.ptpm_data.proofs.laws.grandmaster_law.Goals as goal

-- the data sets after a change, whether the clock is its own grandmaster or not
abbrev changed : Bool → PrecedenceChange → DataSetsValue → DataSetsValue
changed own change d = record d {
  default = record d.default { precedence = precedence_after change d.default.precedence };
  parent = grandmaster_changed own change d.parent;
}

-- ---- the other members

at_places : (m1 m2 : Member) (change : PrecedenceChange) (d : DataSetsValue)
    → ((m : Member)
    → OfClock m ≢ OfClock m1
    → OfClock m ≢ OfClock m2
    → clock_member m (changed (is_own_grandmaster d) change d) ≡ clock_member m d)
    → (place : Place)
    → place ≢ OfClock m1
    → place ≢ OfClock m2
    → value_of place (changed (is_own_grandmaster d) change d) ≡ value_of place d
at_places m1 m2 change d clock (OfClock m) a b = clock m a b
at_places m1 m2 change d clock (OfPort port m) a b = refl

-- ---- the SET of each

moves1 : (port : ℕ) (octets : List ℕ) (d : DataSetsValue)
    → MovesWithGrandmaster members.Priority1 members.GrandmasterPriority1 (octet 0 octets) d
    (set_members layouts.Priority1 port octets d)
unfolding set_members
moves1 port octets d = grind (arith, at_places)

moves2 : (port : ℕ) (octets : List ℕ) (d : DataSetsValue)
    → MovesWithGrandmaster members.Priority2 members.GrandmasterPriority2 (octet 0 octets) d
    (set_members layouts.Priority2 port octets d)
unfolding set_members
moves2 port octets d = grind (arith, at_places)

moves3 : (port : ℕ) (octets : List ℕ) (d : DataSetsValue)
    → MovesWithGrandmaster members.ClockAccuracy members.GrandmasterAccuracy (octet 0 octets) d
    (set_members layouts.ClockAccuracy port octets d)
unfolding set_members
moves3 port octets d = grind (arith, at_places)

module _ (q : RequestValue) (rights : Rights) (d : DataSetsValue) (a : IsAcceptedSet q rights) where
  pub priority1_moves : q.id ≡ 0x2005
      → MovesWithGrandmaster members.Priority1 members.GrandmasterPriority1 (octet 0 q.octets) d
      (changed_by q rights d)
  unfolding row_of
  priority1_moves id = rw (set_changes q rights d _ a (ap row_of id)) (moves1 q.port q.octets d)

  pub priority2_moves : q.id ≡ 0x2006
      → MovesWithGrandmaster members.Priority2 members.GrandmasterPriority2 (octet 0 q.octets) d
      (changed_by q rights d)
  unfolding row_of
  priority2_moves id = rw (set_changes q rights d _ a (ap row_of id)) (moves2 q.port q.octets d)

  pub accuracy_moves : q.id ≡ 0x2010
      → MovesWithGrandmaster members.ClockAccuracy members.GrandmasterAccuracy (octet 0 q.octets) d
      (changed_by q rights d)
  unfolding row_of
  accuracy_moves id = rw (set_changes q rights d _ a (ap row_of id)) (moves3 q.port q.octets d)

pub returns : goal.returns
returns c = record { priority1 = priority1_moves; priority2 = priority2_moves; accuracy = accuracy_moves }
