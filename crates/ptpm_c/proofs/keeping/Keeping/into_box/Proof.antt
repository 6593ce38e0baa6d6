-- `into_box` hands `from_raw` the heap, the pointer and what is owned behind it, for what is kept.
use mathlib.Core.List.{List, [], ◌∷◌, ◌++◌}
use mathlib.Core.Path.{◌≡◌, ◌∙◌, refl, sym, ap}
use mir.Val.{Val}
use base.Fml.{ftrue, fsep, flft}
use base.Fraction.{full_share}
use base.Logic.{emp, id⊢}
use prog.Wp.{WpFn}
use contract.BorrowLft.{◌⊑◌, ⊑_static}
use contract.Monad.{fact, fact_i}
use contract.Running.{tables}
use types.Kit.{Item, ‵, raw, prop, at_ret, ◌⊛◌, some, later, ◌$◌, ◌∵◌, !, qed, move, keep, drop, use0, use1, split, join, pick, rewrite, regoal, fsplit, fjoin, feq_i, suffices, await, done}
use types.Part.{whole, sub}
use types.Run.{stop, fld, no_more, and_then, of_opd, returns, enter, first, blocks, exec}
use types.ByLocal.{alloc_all, pass_all, free_all, look_at, get, get_in, sets, lands_last, env}
use types.Tokens.{lft_new}
use denote.Exit.{yes}
use denote.Laws.{Is, shows}
use denote.Param.{layout}
use denote.Param.NoDrop.{glues}
use denote.RawPtr.{ptr_val}
use denote.Signature.{plain}
use denote.Steps.{nothing, heard, peeks}
use denote.Triple.Call.{calls_at_last}
use denote.Triple.Clauses.{Ended, Lasts, lasts}
use denote.Triple.Spec.{triple_of}
use denote.Triple.Statement.{Contract}
use denote.Triple.Table.{framed}
use denote.Triple.Walked.{says, Stays, stay_dropped, walk_of, ends_at, Goes-dropped}
use Rattle.std.proofs.VecSteps.Shapes.{after}
use Rattle.std.proofs.alloc.Global.TheLaws as global
use Rattle.std.proofs.boxed.Box.TheLaws as box
use Rattle.std.proofs.impls.GlobalAllocator.TheImpl.Met.{passed as heap_meets}
use Rattle.std.proofs.RcSteps.{Good, Ptr-Good}
use Rattle.std.proofs.raw_atomic.Walks.{proved_at}
use Rattle.std.specs.Prelude.{Option, Some, IsTrue, is_some}
use Rattle.std.specs.contracts.boxed.Box.from_raw as callee
use Rattle.std.specs.contracts.impls.GlobalAllocator.TheImpl.{ghosts, dict}
use Rattle.std.proofs.boxed.Box.from_raw.Met.{met}
use Rattle.ptpm_c.proofs.kept.Kept.TheLaws as the
use Rattle.ptpm_c.specs.Keeping.{keeping_owns}
use Rattle.ptpm_c.proofs.KeptWord.{Inner, Heap, Boxed, Kept, passed, inner_laws, heap_laws, let_go, OneWord, one_word, kept_word, kept_good, Holding, holding, lifts_out}
use Rattle.ptpm_c.specs.contracts.keeping.Keeping.into_box as f
use Rattle.ptpm_c.proofs.keeping.Keeping.into_box.Statement.{statement}
use Rattle.ptpm_c.proofs.keeping.Keeping.into_box.Code as code

abbrev stays : Stays f.ended.signature.params f.ended.kept
stays = (stay_dropped _ yes, (stay_dropped _ yes, tt))

abbrev callee_ends : Ended
callee_ends = callee.ended (passed Inner) (passed Heap) ghosts dict (let_go Heap)

pub into_box_spec : {M : Type 1} → statement M
unfolding Rattle.ptpm_c.proofs.Destruct++none.drop.Code.code
into_box_spec {M} 𝓤 𝓛 𝓜 𝓡 wired =
    let said = f.clauses 𝓛 𝓜.mem 𝓡.returns in let W = walk_of 𝓛 f.ended stays said in let 𝓣 = tables 𝓤 𝓛.H 𝓜 𝓡 𝓡.env in
    let Boxes : Contract 𝓤 = triple_of 𝓛 callee_ends.signature (callee.spec (passed Inner) (passed Heap) ghosts dict (let_go Heap) 𝓛 𝓜.mem 𝓡.returns) in
    let holds = met 𝓤 𝓛 𝓜 𝓡 (code.calls-std_alloc::boxed::Box::from_raw 𝓡.env wired) (passed Inner) (passed Heap) inner_laws heap_laws ghosts dict (let_go Heap)
    (heap_meets 𝓡.env (code.calls-std_heap::GlobalAllocator::allocate 𝓡.env wired) (code.calls-std_heap::GlobalAllocator::deallocate 𝓡.env wired) (code.calls-std_heap::GlobalAllocator::grow 𝓡.env wired) (code.calls-std_heap::GlobalAllocator::shrink 𝓡.env wired) M 𝓤 𝓛 𝓜 𝓡)
    (glues "ptpm_c::Destruct++none::drop" 𝓡.env (code.calls-ptpm_c::Destruct++none::drop 𝓡.env wired) (passed Heap) heap_laws M 𝓤 𝓛 𝓜 𝓡) in
    let goes_kept = Goes-dropped 𝓛 0 (plain (λ _. Kept)) yes (λ κs x w. refl) in let goes_heap = Goes-dropped 𝓛 0 (plain (λ _. Heap)) yes (λ κs x w. refl) in
    proved_at 𝓛 f.ended stays said 𝓜 𝓡 (goes_kept, (goes_heap, tt)) f.Key.name code.function (code.unfolded 𝓤 𝓛.H 𝓜 𝓡 wired) (λ y are.
    let k = y.0.3.0 in let a = y.0.3.1.0 in let us = y.0.4.1.0 in
    let heap : OneWord (layout Heap) us = one_word (layout Heap) us ((global.the_row_laws.lawful 𝓛).typed a us are.1.0) in
    qed 𝓛 ((‵ ftrue ⊛ ‵ (fsep (Kept.own_val k y.0.4.0) (fsep (Heap.own_val a us) ftrue))) ∷ raw (fact 𝓤 (IsTrue (is_some k.kept))) ∷ []) ∵
    move ! (1 ∷ []) $ heard ! (IsTrue (is_some k.kept)) (λ has. let held : Holding k.kept = holding k.kept has in
    split ! $ drop ! $ fsplit ! $ lifts_out ! k y.0.4.0 (λ is_kept.
    rewrite ! 0 (λ (c : Option Inner.Denot). ‵ (keeping_owns k.at c)) held.is_it refl $ move ! (1 ∷ []) $ fsplit ! $ keep ! (0 ∷ 2 ∷ []) $
    rewrite ! 0 (λ (ws : List Val). ‵ (Heap.own_val a ws)) heap.is_it refl $
    regoal ! (λ (ws : List Val). prop (WpFn 𝓤 𝓛.H 𝓣.C 𝓣.Λ code.function (ws ++ (us ++ [])) (W.post y))) is_kept refl $
    regoal ! (λ (ws : List Val). prop (WpFn 𝓤 𝓛.H 𝓣.C 𝓣.Λ code.function (kept_word k.at ∷ (ws ++ [])) (W.post y))) heap.is_it refl $
    enter ! 𝓣.C 𝓣.Λ code.function (kept_word k.at ∷ heap.word ∷ []) _ $ alloc_all ! (λ ls. pass_all ! refl (kept_good k.at, (heap.good, tt)) $
    first ! $ blocks ! $ sets ! (of_opd ! (get_in ! (fld ! refl (stop !)) (sub ! 0 refl (whole !)))) refl (Ptr-Good k.at) $
    lft_new ! tt (λ α. lft_new ! tt (λ β.
    -- [the token of β; the token of α; the heap; what is owned behind the pointer; the locals]
    let at : Boxes.Ghost = (((α ∷ [], (β ∷ [], tt)), (full_share, (full_share, tt)), tt, (a, (k.at, tt)), (heap.word ∷ [], (ptr_val k.at ∷ [], tt))), held.inner) in
    let tokens : Item 𝓤 = ‵ (flft (α ∷ []) full_share) ⊛ ‵ (flft (β ∷ []) full_share) ⊛ ‵ ftrue in
    nothing ! $ move ! (1 ∷ 0 ∷ []) $ join ! $ move ! (1 ∷ 0 ∷ []) $ join ! $
    nothing ! $ feq_i ! (List Val) (ptr_val k.at ∷ []) (ptr_val k.at ∷ []) refl $ fjoin ! $ move ! (2 ∷ 0 ∷ []) $ fjoin ! $ move ! (1 ∷ 0 ∷ []) $ join ! $ move ! (1 ∷ []) $
    use0 𝓛 (raw (fact 𝓤 ((β ∷ []) ⊑ Heap.lives))) (fact_i 𝓤 ((β ∷ []) ⊑ Heap.lives) (emp 𝓤) (⊑_static (β ∷ []))) $ join ! $
    use0 𝓛 (raw (fact 𝓤 ((α ∷ []) ⊑ Inner.lives))) (fact_i 𝓤 ((α ∷ []) ⊑ Inner.lives) (emp 𝓤) (⊑_static (α ∷ []))) $ join ! $
    move ! (1 ∷ 0 ∷ []) $ join ! $ use1 𝓛 (raw (Boxes.pre at)) (id⊢ 𝓤 _) $
    calls_at_last ! (framed 𝓤 𝓛.H 𝓜 𝓣) Boxes holds at (and_then ! (get ! refl) (and_then ! (get ! refl) (no_more !))) (λ u.
    use1 𝓛 (later (some (λ (r : Boxed.Denot). (tokens ⊛ ‵ (Boxed.own_val r (u ∷ []))) ⊛ some (λ (ws : Lasts callee_ends at.0.0 at.0.3). ‵ (lasts callee_ends at.0.0 at.0.3 ws) ⊛ raw (fact 𝓤 (r.value ≡ held.inner)) ⊛ raw (fact 𝓤 (r.alloc ≡ a)))))) (id⊢ 𝓤 _) $
    await ! tt $ pick ! (λ r. split ! $ split ! $ drop ! $ move ! (1 ∷ []) $ pick ! (λ ws. split ! $ drop ! $ split ! $ heard ! (r.value ≡ held.inner) (λ same. drop ! $
    peeks ! Boxed (Is Boxed) (shows 𝓛 Boxed) r (u ∷ []) (λ is.
    let good : Good (layout Boxed) u = (((box.the_field_loose Inner Heap ghosts the.the_row_laws global.the_row_laws).lawful 𝓛).typed r (u ∷ []) is).0 in
    lands_last ! refl good $ exec ! 𝓣.C 𝓣.Λ (env code.function.locals ls) (after 1 code.function.body) (at_ret (env code.function.locals ls) (W.post y)) $
    sets ! (of_opd ! (get ! refl)) refl good $ returns ! (look_at ! 0 refl) $ free_all ! refl $
    suffices ! _ (ends_at 𝓛 f.ended stays said y u r (tt, (tt, tt)) (tt, (tt, tt))) $ says ! (ap Some same ∙ sym held.is_it) $
    nothing ! $ nothing ! $ fjoin ! $ nothing ! $ fjoin ! $ join ! $ nothing ! $ join ! $ done !)))))))))))
