-- A clock has as many ports after a request and after an observation; two agents of the same data sets and table are the same.
use Rattle.ptpm_data.proofs.Keeping.{changed_by-ports}
use Rattle.ptpm_data.proofs.Observed.{observed-ports}
use Rattle.std.proofs.Common.{◌≡◌, ◌≤◌, Result, Ok, Err, OnErr, length}
use mathlib.Core.HLevel.{is_prop→PathP}
use native.Mathlib.Bridge.{le_prop}
use Rattle.ptpm_table.specs.declared.reply_table.ReplyTable.{Ghosts}
use Rattle.ptpm_agent.specs.declared.agent.Agent.{Agent}

-- ---- a clock has as many ports after a request and after an observation as before

pub ruleset port_laws = (changed_by-ports, observed-ports)

-- ---- two agents of the same data sets and the same table are the same

pub alike : {T : Type 0} {g : Ghosts T} (a b : Agent T g) → a.sets ≡ b.sets → a.table ≡ b.table → a ≡ b
alike {g = g} a b sets table = λ i. record {
  sets = sets i;
  table = table i;
  room = is_prop→PathP (λ j. length (sets j).ports ≤ g.most (table j)) (λ j. le_prop) a.room b.room i;
}

pub alike_if_err : {T A E : Type 0} {g : Ghosts T} (r : Result A E) (a b : Agent T g)
    → OnErr r (a.sets ≡ b.sets)
    → a.table ≡ b.table
    → OnErr r (a ≡ b)
alike_if_err (Ok x) a b sets table = tt
alike_if_err (Err e) a b sets table = alike a b sets table
