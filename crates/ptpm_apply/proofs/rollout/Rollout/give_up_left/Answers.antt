use Rattle.std.proofs.Common.{◌≡◌, ℕ, None, refl}
use Rattle.ptpm_apply.specs.declared.standing.Standing.{Standing}
use Rattle.ptpm_apply.specs.declared.standing.Standing.TheVariants as standings
use Rattle.ptpm_apply.specs.Going.{Going}
use Rattle.ptpm_apply.specs.Rollout.{RolloutValue}
use Rattle.ptpm_apply.specs.Turning.{GivesUp}
use Rattle.ptpm_apply.proofs.rollout.Rollout.give_up_left.Goals as goal

rest : (s : Standing) (time lane : ℕ) (o v : RolloutValue) → (s ≡ standings.UnderWay → ⊥) → (s ≡ standings.Told → ⊥) → Going time o v
    → GivesUp time o lane s None v
rest standings.UnderWay time lane o v a b g = absurd (a refl)
rest standings.Told time lane o v a b g = absurd (b refl)
rest standings.NothingLeft time lane o v a b g = g
rest standings.NeverBegun time lane o v a b g = g
rest standings.NumberTaken time lane o v a b g = g
rest standings.Unknown time lane o v a b g = g
rest standings.OfAnother time lane o v a b g = g

pub returns-in_default : goal.returns-in_default
returns-in_default c =
    rest c.args.standing c.args.time c.args.lane c.args.self.now c.go_on.new.self c.in_default.not-UnderWay c.in_default.not-Told c.go_on.ensures
