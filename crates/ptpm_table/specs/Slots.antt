-- How a `SlotTable` is represented, which is no promise: what its slots hold.
use denote.Struct.Props.{props}
use Rattle.std.proofs.Common.{ap, sym, ◌∙◌}
use Rattle.std.specs.declared.cmp.Ordering.TheVariants.{Less}
use Rattle.std.specs.Coded.{×_prop, Π_prop, →_prop, Unit-prop, le_prop, Coded-set, coded_option, coded_ℕ}
use mathlib.Core.HLevel.{Σ_prop_path}
use Rattle.std.specs.Prelude.{◌≡◌, ◌≤◌, ℕ, Bool, true, false, unwrap_or, slice_get, All, List, [], ◌∷◌, length, map, Option, Some, None, find, if◌then◌else◌}
use Rattle.ptpm_codec.specs.declared.identity.ClockIdentity.{ClockIdentity}
use Rattle.ptpm_codec.specs.declared.identity.PortIdentity.{PortIdentity}
use Rattle.ptpm_codec.specs.Identity.{identity_cmp, same_identity}
use Rattle.ptpm_data.specs.declared.rights.Rights.{Rights}
use Rattle.ptpm_data.specs.Rights.{no_rights}
use Rattle.ptpm_table.specs.declared.slot.Slot.{Slot}
use Rattle.ptpm_codec.specs.declared.message.Action.{Action}
use Rattle.ptpm_data.specs.Reply as reply
use Rattle.ptpm_data.specs.Reply.{Answer, Outcome}
use Rattle.ptpm_table.specs.Entries.{Entry, FitsAnswer, FitsCount, FitsOutcome}
use Rattle.ptpm_table.specs.Lending.{IsAfter, IsKeepable}

-- the managers of the slots, with their rights
abbrev pub configured : List Slot → List (PortIdentity × Rights)
configured slots = map (λ s. (s.kept.manager, s.rights)) slots

-- the entries of the slots that have one
abbrev pub used : List Slot → List (PortIdentity × Entry)
used [] = []
used (s ∷ ss) = if s.taken then (s.kept.manager, s.kept.entry) ∷ used ss else used ss

abbrev pub slot_of : PortIdentity → List Slot → Option Slot
slot_of who slots = find (λ s. same_identity who s.kept.manager) slots

abbrev pub entry_in : Option Slot → Option Entry
entry_in None = None
entry_in (Some s) = if s.taken then Some s.kept.entry else None

abbrev pub rights_at : Option Slot → Rights
rights_at None = no_rights
rights_at (Some s) = s.rights

-- the entry of each slot that has one can be kept
abbrev pub AreKeepable : List Slot → Type 0
AreKeepable slots = All (λ s. s.taken ≡ true → IsKeepable s.kept.entry) slots

-- the reply of each slot that has one has this many answers at most
abbrev pub HaveFew : ℕ → List Slot → Type 0
HaveFew most slots = All (λ s. s.taken ≡ true → length s.kept.entry.reply.answers ≤ most) slots

-- each slot has room for this many answers
abbrev pub HaveRoom : ℕ → List Slot → Type 0
HaveRoom most slots = All (λ s. most ≤ s.kept.most) slots

-- ---- that they can be kept holds in one way at most

FitsCount-prop : (of_port : Bool) (count : ℕ) → IsProp (FitsCount of_port count)
FitsCount-prop false count = Coded-set coded_ℕ count 1
FitsCount-prop true count = ×_prop le_prop le_prop

FitsOutcome-prop : (action : Action) (most : ℕ) (o : Outcome) → IsProp (FitsOutcome action most o)
FitsOutcome-prop action most (reply.Value octets) = hlevel props
FitsOutcome-prop action most reply.Done = hlevel props
FitsOutcome-prop action most (reply.Refused error) = Unit-prop

FitsAnswer-prop : (of_port : Bool) (action : Action) (a : Answer) → IsProp (FitsAnswer of_port action a)
FitsAnswer-prop false action a =
    ×_prop (Coded-set (coded_option coded_ℕ) a.port None) (FitsOutcome-prop action 130 a.outcome)
FitsAnswer-prop true action a =
    ×_prop
    (λ x y. Σ_prop_path (λ port. Coded-set (coded_option coded_ℕ) a.port (Some port)) (ap (λ o. unwrap_or o 0) (sym x.1 ∙ y.1)))
    (FitsOutcome-prop action 26 a.outcome)

IsKeepable-prop : (e : Entry) → IsProp (IsKeepable e)
IsKeepable-prop e = hlevel (props, FitsCount-prop, FitsAnswer-prop)

pub AreKeepable-prop : (slots : List Slot) → IsProp (AreKeepable slots)
AreKeepable-prop slots = Π_prop (λ k. Π_prop (λ d. →_prop (→_prop (IsKeepable-prop _))))

-- the clocks that the slots are of
abbrev pub clocks : List Slot → List ClockIdentity
clocks slots = map (λ s. s.kept.clock) slots

-- a slot has an entry, of a manager who comes after this one
pub record IsUsedAfter (after : Option PortIdentity) (s : Slot) : Type 0 where
  pub taken : s.taken ≡ true
  pub comes_after : IsAfter after s.kept.manager

-- the manager of a slot comes before that of the slot found so far, if one was
abbrev pub IsSooner : List Slot → Slot → Option ℕ → Type 0
IsSooner slots s None = Unit {0}
IsSooner slots s (Some i) =
    (t : Slot) → slice_get slots i ≡ Some t → identity_cmp s.kept.manager t.kept.manager ≡ Less
