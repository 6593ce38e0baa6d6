use Rattle.std.proofs.Common.{◌≡◌, string_bytes}
use Rattle.ptpm_plan.specs.Asks.{lines_below}
use Rattle.ptpm_plan.proofs.wish.PlanFile.asks.Given as goal

-- the lines of the domains so far
abbrev pub invariant-loop-domain : goal.invariant-loop-domain
invariant-loop-domain l = string_bytes l.text ≡ lines_below l.self l.domain
