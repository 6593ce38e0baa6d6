use Rattle.std.proofs.Common.{◌≡◌, ℕ, Bool, None, Option, refl, subst, sym}
use Rattle.ptpm_apply.specs.declared.standing.Standing.{Standing}
use Rattle.ptpm_apply.specs.declared.standing.Standing.TheVariants as standings
use Rattle.ptpm_apply.specs.Going.{Going}
use Rattle.ptpm_apply.specs.Rollout.{RolloutValue}
use Rattle.ptpm_apply.specs.Turning.{SeesTo}
use Rattle.ptpm_apply.proofs.rollout.Rollout.see_to.Goals as goal

rest : (s : Standing) (time lane : ℕ) (o v : RolloutValue) (changes : Bool) → (s ≡ standings.Told → ⊥) → (s ≡ standings.OfAnother → ⊥)
    → (s ≡ standings.Unknown → ⊥) → Going time o v → SeesTo time o lane s None changes v
rest standings.Told time lane o v changes a b d g = absurd (a refl)
rest standings.OfAnother time lane o v changes a b d g = absurd (b refl)
rest standings.Unknown time lane o v changes a b d g = absurd (d refl)
rest standings.NothingLeft time lane o v changes a b d g = g
rest standings.UnderWay time lane o v changes a b d g = g
rest standings.NeverBegun time lane o v changes a b d g = g
rest standings.NumberTaken time lane o v changes a b d g = g

pub returns-in-NothingLeft : goal.returns-in-NothingLeft
returns-in-NothingLeft c =
    subst (λ (s : Standing). SeesTo c.args.time c.args.self.now c.args.lane s c.args.begun c.args.changes c.go_on.new.self)
    (sym c.in-NothingLeft.is) c.go_on.ensures

pub returns-in-None : goal.returns-in-None
returns-in-None c =
    subst (λ (b : Option ℕ). SeesTo c.args.time c.args.self.now c.args.lane c.args.standing b c.args.changes c.go_on-in-None.new.self)
    (sym c.in-None.is)
    (rest c.args.standing c.args.time c.args.lane c.args.self.now c.go_on-in-None.new.self c.args.changes c.in_default.not-Told
    c.in_default.not-OfAnother c.in_default.not-Unknown c.go_on-in-None.ensures)
