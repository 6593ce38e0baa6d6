use Rattle.ptpm_world.proofs.Common.{◌≡◌, ℕ, Some, length, slice_get, network_value, RunningClock, IsStartedClock}
use Rattle.ptpm_world.proofs.starting.start_clocks.Given as goal

abbrev pub invariant-loop-place : goal.invariant-loop-place
invariant-loop-place l =
    (length l.running.items ≡ l.place)
    × ((c : ℕ) (x : RunningClock) → slice_get l.running.items c ≡ Some x → IsStartedClock (network_value l.network) c x)
