-- `of_box` has the box's pointer from `into_raw`, and keeps what comes with it. Two lifetimes, of what is kept and of its heap, are made for the call.
use mathlib.Core.List.{List, [], ◌∷◌, ◌++◌}
use mathlib.Core.Path.{refl, ap}
use mir.Val.{Val}
use base.Fml.{ftrue, fsep, flft}
use base.Fraction.{full_share}
use base.Logic.{emp, id⊢}
use prog.Wp.{WpFn}
use contract.BorrowLft.{◌⊑◌, ⊑_static}
use contract.Monad.{fact, fact_i}
use contract.Running.{tables}
use types.Kit.{Item, ‵, raw, prop, ◌⊛◌, some, later, ◌$◌, ◌∵◌, !, qed, move, keep, drop, use0, use1, split, join, pick, rewrite, regoal, fsplit, fjoin, feq_l, suffices, await, done}
use types.Part.{agg}
use types.Run.{no_more, and_then, of_opd, returns, enter}
use types.ByLocal.{alloc_all, pass_all, free_all, look_at, get, sets, lands_as}
use types.Tokens.{lft_new}
use denote.Builtin.{RawPtr}
use denote.Exit.{yes}
use denote.Param.{layout}
use denote.Param.NoDrop.{glues}
use denote.RawPtr.{Ptr}
use denote.Signature.{plain}
use denote.Steps.{nothing, only}
use denote.Triple.Call.{calls_at}
use denote.Triple.Clauses.{Ended, Lasts, lasts}
use denote.Triple.Spec.{triple_of}
use denote.Triple.Statement.{Contract}
use denote.Triple.Table.{framed}
use denote.Triple.Walked.{says, Stays, stay_dropped, walk_of, ends_at, Goes-dropped}
use Rattle.std.proofs.boxed.Box.TheLaws as box
use Rattle.std.proofs.impls.GlobalAllocator.TheImpl.Met.{passed as heap_meets}
use Rattle.std.proofs.RcSteps.{Ptr-Good}
use Rattle.std.proofs.raw_atomic.Walks.{proved_at}
use Rattle.std.specs.Box.Ownership.{box_owns}
use Rattle.std.specs.Prelude.{Some}
use Rattle.std.specs.contracts.boxed.Box.into_raw as callee
use Rattle.std.specs.contracts.impls.GlobalAllocator.TheImpl.{ghosts, dict}
use Rattle.std.proofs.boxed.Box.into_raw.Met.{met}
use Rattle.ptpm_c.proofs.kept.Kept.TheLaws as the
use Rattle.std.proofs.alloc.Global.TheLaws as global
use Rattle.ptpm_c.specs.Keeping.{may_free}
use Rattle.ptpm_c.proofs.KeptWord.{Inner, Heap, Boxed, passed, inner_laws, heap_laws, let_go, OneWord, one_word, kept_word, kept_good, puts_behind}
use Rattle.ptpm_c.specs.contracts.keeping.Keeping.of_box as f
use Rattle.ptpm_c.proofs.keeping.Keeping.of_box.Statement.{statement}
use Rattle.ptpm_c.proofs.keeping.Keeping.of_box.Code as code

abbrev stays : Stays f.ended.signature.params f.ended.kept
stays = (stay_dropped _ yes, tt)

abbrev callee_ends : Ended
callee_ends = callee.ended (passed Inner) (passed Heap) ghosts dict (let_go Heap) (let_go Inner)

pub of_box_spec : {M : Type 1} → statement M
unfolding Rattle.ptpm_c.proofs.Destruct++none.drop.Code.code
of_box_spec {M} 𝓤 𝓛 𝓜 𝓡 wired =
    let said = f.clauses 𝓛 𝓜.mem 𝓡.returns in let W = walk_of 𝓛 f.ended stays said in let 𝓣 = tables 𝓤 𝓛.H 𝓜 𝓡 𝓡.env in
    let Unboxes : Contract 𝓤 = triple_of 𝓛 callee_ends.signature (callee.spec (passed Inner) (passed Heap) ghosts dict (let_go Heap) (let_go Inner) 𝓛 𝓜.mem 𝓡.returns) in
    let none = code.calls-ptpm_c::Destruct++none::drop 𝓡.env wired in
    let holds = met 𝓤 𝓛 𝓜 𝓡 (code.calls-std_alloc::boxed::Box::into_raw 𝓡.env wired) (passed Inner) (passed Heap) inner_laws heap_laws ghosts dict (let_go Heap) (let_go Inner)
    (heap_meets 𝓡.env (code.calls-std_heap::GlobalAllocator::allocate 𝓡.env wired) (code.calls-std_heap::GlobalAllocator::deallocate 𝓡.env wired) (code.calls-std_heap::GlobalAllocator::grow 𝓡.env wired) (code.calls-std_heap::GlobalAllocator::shrink 𝓡.env wired) M 𝓤 𝓛 𝓜 𝓡)
    (glues "ptpm_c::Destruct++none::drop" 𝓡.env none (passed Heap) heap_laws M 𝓤 𝓛 𝓜 𝓡)
    (glues "ptpm_c::Destruct++none::drop" 𝓡.env none (passed Inner) inner_laws M 𝓤 𝓛 𝓜 𝓡) in
    proved_at 𝓛 f.ended stays said 𝓜 𝓡 (Goes-dropped 𝓛 0 (plain (λ _. Boxed)) yes (λ κs x w. refl), tt) f.Key.name code.function (code.unfolded 𝓤 𝓛.H 𝓜 𝓡 wired) (λ y are.
    let d = y.0.3.0 in let vs = y.0.4.0 in
    let one : OneWord (layout Boxed) vs = one_word (layout Boxed) vs (((box.the_field_loose Inner Heap ghosts the.the_row_laws global.the_row_laws).lawful 𝓛).typed d vs are.0) in
    qed 𝓛 ((‵ ftrue ⊛ ‵ (fsep (Boxed.own_val d vs) ftrue)) ∷ raw (emp 𝓤) ∷ []) ∵ split ! $ drop ! $ fsplit ! $ keep ! (0 ∷ []) $
    rewrite ! 0 (λ (us : List Val). ‵ (Boxed.own_val d us)) one.is_it refl $
    regoal ! (λ (us : List Val). prop (WpFn 𝓤 𝓛.H 𝓣.C 𝓣.Λ code.function (us ++ []) (W.post y))) one.is_it refl $
    enter ! 𝓣.C 𝓣.Λ code.function (one.word ∷ []) _ $ alloc_all ! (λ ls. pass_all ! refl (one.good, tt) $
    sets ! (of_opd ! (get ! refl)) refl one.good $
    lft_new ! tt (λ α. lft_new ! tt (λ β.
    -- [the token of β; the token of α; the box; the locals]
    let at : Unboxes.Ghost = (((α ∷ [], (β ∷ [], tt)), (full_share, (full_share, tt)), tt, (d, tt), (one.word ∷ [], tt)), tt) in
    let tokens : Item 𝓤 = ‵ (flft (α ∷ []) full_share) ⊛ ‵ (flft (β ∷ []) full_share) ⊛ ‵ ftrue in
    nothing ! $ move ! (1 ∷ 0 ∷ []) $ join ! $ move ! (1 ∷ 0 ∷ []) $ join ! $
    nothing ! $ move ! (2 ∷ 0 ∷ []) $ fjoin ! $ move ! (1 ∷ 0 ∷ []) $ join ! $
    nothing ! $ use0 𝓛 (raw (fact 𝓤 ((β ∷ []) ⊑ Heap.lives))) (fact_i 𝓤 ((β ∷ []) ⊑ Heap.lives) (emp 𝓤) (⊑_static (β ∷ []))) $ join ! $
    use0 𝓛 (raw (fact 𝓤 ((α ∷ []) ⊑ Inner.lives))) (fact_i 𝓤 ((α ∷ []) ⊑ Inner.lives) (emp 𝓤) (⊑_static (α ∷ []))) $ join ! $
    move ! (1 ∷ 0 ∷ []) $ join ! $ use1 𝓛 (raw (Unboxes.pre at)) (id⊢ 𝓤 _) $
    calls_at ! (framed 𝓤 𝓛.H 𝓜 𝓣) Unboxes holds at (and_then ! (get ! refl) (no_more !)) (λ u.
    use1 𝓛 (later (some (λ (p : Ptr). (tokens ⊛ ‵ (RawPtr.own_val p (u ∷ []))) ⊛ some (λ (ws : Lasts callee_ends at.0.0 at.0.3). ‵ (lasts callee_ends at.0.0 at.0.3 ws) ⊛ ‵ (box_owns may_free Inner p d.value))))) (id⊢ 𝓤 _) $
    await ! tt $ pick ! (λ p. split ! $ split ! $ drop ! $ feq_l ! (λ is_p. pick ! (λ ws. split ! $ drop ! $
    lands_as ! (ap only is_p) refl (Ptr-Good p) $ sets ! (of_opd ! (get ! refl)) refl (Ptr-Good p) $
    sets ! (agg ! (and_then ! (get ! refl) (no_more !))) refl (kept_good p) $
    returns ! (look_at ! 0 refl) $ free_all ! refl $ puts_behind ! p (Some d.value) $
    suffices ! _ (ends_at 𝓛 f.ended stays said y (kept_word p) (record { at = p; kept = Some d.value }) (tt, tt) (tt, tt)) $ says ! refl $
    nothing ! $ nothing ! $ fjoin ! $ join ! $ nothing ! $ join ! $ done !))))))))
