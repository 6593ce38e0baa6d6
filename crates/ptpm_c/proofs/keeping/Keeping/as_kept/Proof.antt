-- `as_kept` lends what lies behind the pointer, and the pointer follows it.
use mathlib.Core.List.{List, [], ◌∷◌}
use mathlib.Core.Path.{◌≡◌, ◌∙◌, refl, sym, ap}
use Prim.Native.Nat.{ℕ}
use seplogic.Ra.Ura.{Ura}
use mir.Raw.{raw as bare}
use mir.Syntax.{named}
use mir.Val.{Val, vptr}
use base.Fml.{Fml, GName, Lft, ftrue, fsep, flft}
use base.Fraction.{full_share}
use base.Logic.{SProp, ent, sep, fst∗, never}
use contract.Monad.{fact}
use contract.Running.{tables}
use types.Kit.{‵, raw, some, later, at_ret, ◌⊛◌, ◌$◌, ◌∵◌, !, qed, by, move, keep, split, join, pick, fsplit, fsplit3, fjoin, fpack, use1, await, group, rewrite, suffices, frame, done}
use types.Logic.{Logic, sem}
use types.Part.{sub, whole, look_in}
use types.Run.{stop, fld, load, addr, of_opd, first, blocks, exec, returns, enter}
use types.ByLocal.{alloc_all, pass_all, free_all, look_at, get, through, sets, sets_last, env}
use denote.Exit.{no}
use denote.Follow.{follows, Part, lends_Part}
use denote.Memory.{cell_at, lone, mem, part_at, part_of}
use denote.RattleType.{owns}
use denote.RawPtr.{Ptr, block_ptr, in_a_block, null_ptr}
use denote.Ref.{MutRef, mut_vals, mut_Tells}
use denote.Signature.{types_at, plain, mut_ref_to}
use denote.Steps.{heard, nothing, opens}
use denote.Triple.Walked.{says, Stays, stay_dropped, walk_of, ends_at, Goes-spent_ref}
use Rattle.std.proofs.VecSteps.Shapes.{after}
use Rattle.std.proofs.raw_atomic.Walks.{proved}
use Rattle.std.specs.Box.Ownership.{box_owns}
use Rattle.std.specs.Prelude.{Option, Some, IsTrue, is_some}
use Rattle.ptpm_c.specs.Keeping.{keeping_owns, may_free}
use Rattle.ptpm_c.specs.Lending.{with_kept}
use Rattle.ptpm_c.specs.contracts.keeping.Keeping as C
use Rattle.ptpm_c.proofs.KeptWord.{Inner, Holding, holding, kept_word, lifts_out, puts_behind}
use Rattle.ptpm_c.specs.contracts.keeping.Keeping.as_kept as f
use Rattle.ptpm_c.proofs.keeping.Keeping.as_kept.Statement.{statement}
use Rattle.ptpm_c.proofs.keeping.Keeping.as_kept.Code as code

module _ {M : Type 1} {𝓤 : Ura M} (𝓛 : Logic 𝓤) (d : C.the_row.Denot) (b o b' o' : ℕ) where
  -- all but what is kept
  abbrev Rest : Fml
  Rest = fsep (may_free (bare (lone Inner.mir)) (block_ptr b' o')) (cell_at full_share C.the_row.mir (kept_word (block_ptr b' o') ∷ []) b o)

  back : d.at ≡ block_ptr b' o' → (w : Inner.Denot) → ent 𝓤 (sep 𝓤 (sem 𝓛 ((mem Inner).own_at w b' o')) (sem 𝓛 Rest)) (sem 𝓛 ((mem C.the_row).own_at (with_kept d w) b o))
  unfolding part_of
  back at_b w =
      qed 𝓛 (‵ (part_at Inner full_share w b' o') ∷ ‵ Rest ∷ []) ∵ move ! (1 ∷ []) $ fsplit ! $ move ! (2 ∷ 0 ∷ []) $ fjoin ! $
      rewrite ! 0 (λ (r : Ptr). ‵ (keeping_owns r (Some w))) (sym at_b) refl $ puts_behind ! d.at (Some w) $
      move ! (1 ∷ []) $ rewrite ! 0 (λ (r : Ptr). ‵ (cell_at full_share C.the_row.mir (kept_word r ∷ []) b o)) (sym at_b) refl $ fjoin ! $
      fpack ! (List Val) (λ us. fsep (cell_at full_share C.the_row.mir us b o) (C.the_row.own_val (with_kept d w) us)) (kept_word d.at ∷ []) $ done !

pub as_kept_spec : {M : Type 1} → statement M
as_kept_spec {M} 𝓤 𝓛 𝓜 𝓡 wired =
    let 𝓣 = tables 𝓤 𝓛.H 𝓜 𝓡 𝓡.env in let said = f.clauses 𝓛 𝓜.mem 𝓡.returns in
    let stays : Stays f.ended.signature.params f.ended.kept = (stay_dropped (mut_ref_to (0 ∷ []) tt (plain (λ _. C.the_row))) no, tt) in
    proved 𝓛 f.ended stays said 𝓜 𝓡 (Goes-spent_ref 𝓛 1 (0 ∷ []) tt (plain (λ _. C.the_row)), tt) f.Key.name code.function (code.unfolded 𝓤 𝓛.H 𝓜 𝓡 wired)
    (λ κs. (mut_vals, tt)) (λ κs. (mut_Tells (named 0) κs.0 C.the_row, tt)) (λ κs qs bounds a gh are.
    let b : ℕ = a.0.ref_ptr.0 in let o : ℕ = a.0.ref_ptr.1 in let κ : Lft = κs.0 in let γ : GName = a.0.ghost_name in let d : C.the_row.Denot = a.0.now in let p : Ptr = d.at in
    let y : (walk_of 𝓛 f.ended stays said).Ghost = ((κs, qs, bounds, a, (vptr b o ∷ [], tt)), gh) in let Post : Val → SProp 𝓤 = (walk_of 𝓛 f.ended stays said).post y in
    qed 𝓛 (((‵ (flft κ qs.0) ⊛ ‵ ftrue) ⊛ ‵ (owns (types_at f.ended.signature.params κs) a y.0.4)) ∷ raw (fact 𝓤 (IsTrue (is_some d.kept))) ∷ []) ∵
    split ! $ split ! $ move ! (2 ∷ []) $ fsplit ! $ fsplit3 ! $ keep ! (6 ∷ 1 ∷ 2 ∷ 4 ∷ []) $
    heard ! (IsTrue (is_some d.kept)) (λ has. let held : Holding d.kept = holding d.kept has in let x : Inner.Denot = held.inner in
    enter ! 𝓣.C 𝓣.Λ code.function (vptr b o ∷ []) Post $ alloc_all ! (λ l. pass_all ! refl ((tt, tt), tt) $ let Ev = env code.function.locals l in
    opens ! tt C.the_row {h = d} b o (λ vs. move ! (1 ∷ []) $ lifts_out ! d vs (λ is_kept.
    rewrite ! 0 (λ (c : Option Inner.Denot). ‵ (keeping_owns p c)) held.is_it refl $
    in_a_block ! p (λ (r : Ptr). box_owns may_free Inner r x) (fst∗ 𝓤 (never 𝓤) (sem 𝓛 (may_free (bare (lone Inner.mir)) null_ptr))) (λ b' o' at_b. fsplit ! $
    -- [what is kept; the right to its block; the word; the open borrow; obs; auth]
    rewrite ! 2 (λ (us : List Val). ‵ (cell_at full_share C.the_row.mir us b o)) (is_kept ∙ ap (λ (r : Ptr). kept_word r ∷ []) at_b) refl $
    sets ! (of_opd ! (load ! (through ! refl (fld ! refl (stop !))) (look_in ! 2 (sub ! 0 refl (whole !))))) refl (tt, tt) $
    sets ! (of_opd ! (get ! refl)) refl (tt, tt) $ first ! $ blocks ! $
    sets_last ! (addr ! (through ! refl (stop !))) refl (tt, tt) $ exec ! 𝓣.C 𝓣.Λ Ev (after 3 code.function.body) (at_ret Ev Post) $
    sets ! (of_opd ! (get ! refl)) refl (tt, tt) $
    move ! (1 ∷ 2 ∷ []) $ fjoin ! $ move ! (2 ∷ 3 ∷ 4 ∷ 1 ∷ 0 ∷ []) $ group ! 5 $
    use1 𝓛 (later (some (λ (γ' : GName). raw (Part 𝓛 C.the_row Inner (with_kept d) (named 0) κ qs.0 b o b' o' γ (sem 𝓛 (Rest 𝓛 d b o b' o')) (back 𝓛 d b o b' o' at_b) x γ'))))
    (lends_Part 𝓛 C.the_row Inner (with_kept d) (named 0) κ qs.0 b o b' o' γ (sem 𝓛 (Rest 𝓛 d b o b' o')) (back 𝓛 d b o b' o' at_b) (C.the_row.coded.code d) (C.the_row.coded.code d) x) $ await ! tt $ pick ! (λ γ'.
    returns ! (look_at ! 0 refl) $ free_all ! refl $ keep ! (0 ∷ []) $
    by ! (qed 𝓛 (‵ ((MutRef (named 0) κ Inner).own_val (record { ref_ptr = (b', o'); ghost_name = γ'; now = x }) (vptr b' o' ∷ [])) ∷ ‵ (flft κ qs.0) ∷ ‵ (follows C.the_row Inner γ γ' (with_kept d)) ∷ []) ∵
    suffices ! _ (ends_at 𝓛 f.ended stays said y (vptr b' o') (record { ref_ptr = (b', o'); ghost_name = γ'; now = x }) (tt, tt) (tt, tt)) $
    nothing ! $ nothing ! $ fjoin ! $ join ! $ nothing ! $ move ! (2 ∷ 0 ∷ []) $ join ! $ join ! $ frame ! $ says ! (sym held.is_it) $ done !))))))))
