use Rattle.ptpm_world.proofs.Common.{◌≡◌, ℕ, Some, length, slice_get, network_value, RunningSession, IsStartedSession}
use Rattle.ptpm_world.proofs.starting.start_sessions.Given as goal

abbrev pub invariant-loop-place : goal.invariant-loop-place
invariant-loop-place l =
    (length l.running.items ≡ l.place)
    × ((s : ℕ) (x : RunningSession) → slice_get l.running.items s ≡ Some x → IsStartedSession (network_value l.network) s x)
