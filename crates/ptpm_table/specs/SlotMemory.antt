-- What the memory of a table's slots lends, and what it is after that.
use Rattle.std.proofs.Common.{◌≡◌, ◌∙◌, ℕ, ◌-◌, List, ap, arith, length, refl}
use Rattle.std.specs.Borrow.{Array, Fml, Lends, MutBor, RattleType}
use Rattle.std.specs.Global.{Vec}
use Rattle.std.specs.Vec.{vec_capacity, with_items}
use Rattle.arrayvec.specs.ArrayVec as array
use Rattle.arrayvec.specs.ArrayVec.{ArrayVec, array_vec_len}
use Rattle.ptpm_codec.proofs.OctetLaws.{refilled}
use Rattle.ptpm_table.specs.contracts.slot.Slot as slot
use Rattle.ptpm_table.specs.declared.slot.Slot.{Slot}

-- the slots that are lent are written back
abbrev pub LendsSlots : (M : RattleType) → (List Slot → M.Denot) → MutBor M.Denot → MutBor (List Slot) → Fml
LendsSlots M written memory slots = Lends M (Array slot.the_row 0) memory slots written

-- ---- a block on the heap

pub block_written : (v : Vec Slot) (ss : List Slot) → length ss ≡ length v.items → (with_items v ss).items ≡ ss
block_written v ss same = refilled v.len v.items ss (omega (arith, same, v.ok.0)) (omega (arith, v.ok.0))

pub block_spare : (v : Vec Slot) (ss : List Slot)
    → length ss ≡ length v.items
    → vec_capacity (with_items v ss) - length (with_items v ss).items ≡ vec_capacity v - length v.items
block_spare v ss same = ap (λ n. vec_capacity v - n) (ap length (block_written v ss same) ∙ same)

-- ---- an array

pub array_written : (a : ArrayVec Slot) (ss : List Slot) → length ss ≡ length a.items → (array.with_items a ss).items ≡ ss
array_written a ss same = refilled (array_vec_len a) a.items ss same (omega arith)

pub array_spare : (a : ArrayVec Slot) (ss : List Slot) → length ss ≡ length a.items → ◌≡◌ {A = ℕ} 0 0
array_spare a ss same = refl
