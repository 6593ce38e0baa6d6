-- Numbers modulo 65,536 and the indexes that they stand for.
use Rattle.std.proofs.Common.{arith, ◌≡◌, ℕ, ◌%◌, ◌+◌, ◌-◌, ◌<◌, ◌≤◌}
use Rattle.std.proofs.lemmas.Bool.{cases_lt}
use Rattle.std.proofs.lemmas.Bool.Decides.{nat_tests}
use Rattle.ptpm_table.specs.declared.serial.Serial.TheVariants.{Same, Newer, Older}
use Rattle.ptpm_table.specs.Serial.{serial_of, order_of, class_of, ahead, InWindow}

ahead_of_later : (i j : ℕ) → i ≤ j → j ≤ i + 32767 → ahead (i % 65536) (j % 65536) ≡ j - i
ahead_of_later i j below near = omega arith

class_of_later : (i j d : ℕ) → i ≤ j → j ≤ i + 32767 → d ≡ j - i → class_of d ≡ order_of i j
class_of_later i j d below near distance = grind (arith, nat_tests)

-- in the window, the class of the numbers is the order of the indexes
pub serial_in_window : (i j : ℕ) → InWindow i j → serial_of (i % 65536) (j % 65536) ≡ order_of i j
unfolding serial_of
serial_in_window i j w = grind (arith, class_of_later, ahead_of_later, cases_lt, nat_tests)

-- ---- the order of two indexes

pub order_of-same : (g k : ℕ) → g ≡ k → order_of g k ≡ Same
order_of-same g k e = grind (arith, nat_tests)

pub order_of-newer : (g k : ℕ) → g < k → order_of g k ≡ Newer
order_of-newer g k l = grind (arith, nat_tests)

pub order_of-older : (g k : ℕ) → k < g → order_of g k ≡ Older
order_of-older g k l = grind (arith, nat_tests)
