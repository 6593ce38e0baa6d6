use Rattle.ptpm_world.proofs.Common.{arith, ◌≡◌, ℕ, List, Ok, Result}
use Rattle.ptpm_world.specs.declared.script_error.ScriptError.{ScriptError}
use Rattle.ptpm_world.proofs.script.one_trace.Goals as goal

one_end : (a b : List ℕ) → ◌≡◌ {A = Result (List ℕ) ScriptError} (Ok a) (Ok b) → a ≡ b
one_end a b h = cc

pub returns : goal.returns
returns c = grind (arith, one_end)
