use Rattle.std.proofs.Common.{refl}
use Rattle.ptpm_restarts.proofs.DeskMoves.{mirrors-first}
use Rattle.ptpm_changes.proofs.Carried.{carried-out}
use Rattle.ptpm_changes.proofs.laws.told_is_carried_out.Goals as goal

pub returns : goal.returns
returns c = record {
  first = λ N s steps setup domain place set_up first.
      record { exists = place; free = tt; mirrors = mirrors-first N s setup domain set_up first; allowed = tt; noted = tt; happens = tt; incidents = refl };
  told = λ N s steps is l k a tag number outcome h has. carried-out N s steps is l h k a tag number outcome has;
}
