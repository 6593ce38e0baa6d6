-- `nothing` stores a null pointer, which owns nothing.
use mathlib.Core.List.{[], ◌∷◌}
use mathlib.Core.Path.{refl}
use base.Fml.{ftrue}
use contract.Running.{tables}
use types.Kit.{‵, raw, ◌⊛◌, ◌$◌, ◌∵◌, !, qed, keep, join, suffices, done}
use types.Part.{agg}
use types.Run.{lit, no_more, and_then, returns, enter}
use types.ByLocal.{alloc_all, pass_all, free_all, look_at, sets}
use base.Logic.{emp}
use denote.RawPtr.{null_ptr}
use denote.Steps.{nothing}
use denote.Triple.Walked.{says, ends_at}
use Rattle.std.proofs.raw_atomic.Walks.{proved_at}
use Rattle.std.specs.Prelude.{None}
use Rattle.ptpm_c.proofs.KeptWord.{kept_word, kept_good, puts_behind}
use Rattle.ptpm_c.specs.contracts.keeping.Keeping.nothing as f
use Rattle.ptpm_c.proofs.keeping.Keeping.nothing.Statement.{statement}
use Rattle.ptpm_c.proofs.keeping.Keeping.nothing.Code as code

pub nothing_spec : {M : Type 1} → statement M
nothing_spec 𝓤 𝓛 𝓜 𝓡 wired =
    let said = f.clauses 𝓛 𝓜.mem 𝓡.returns in let 𝓣 = tables 𝓤 𝓛.H 𝓜 𝓡 𝓡.env in
    proved_at 𝓛 f.ended tt said 𝓜 𝓡 tt f.Key.name code.function (code.unfolded 𝓤 𝓛.H 𝓜 𝓡 wired) (λ y are.
    qed 𝓛 ((‵ ftrue ⊛ ‵ ftrue) ∷ raw (emp 𝓤) ∷ []) ∵ keep ! [] $
    enter ! 𝓣.C 𝓣.Λ code.function [] _ $ alloc_all ! (λ ls. pass_all ! refl tt $
    sets ! (agg ! (and_then ! (lit ! tt) (no_more !))) refl (kept_good null_ptr) $
    returns ! (look_at ! 0 refl) $ free_all ! refl $ nothing ! $ puts_behind ! null_ptr None $
    suffices ! _ (ends_at 𝓛 f.ended tt said y (kept_word null_ptr) (record { at = null_ptr; kept = None }) tt tt) $ says ! refl $
    nothing ! $ join ! $ nothing ! $ join ! $ done !))
