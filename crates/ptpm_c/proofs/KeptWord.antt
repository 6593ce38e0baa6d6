-- What is kept for a host where the machine has it: one word, which is its pointer. And the types of its functions, as their calls pass them.
use mathlib.Core.Path.{◌≡◌, refl, subst}
use mathlib.Core.List.{List, [], ◌∷◌, ◌++◌}
use seplogic.Ra.Ura.{Ura}
use mir.Syntax.{Ty, Dict, ty_ptr, impl, tnil, tcons, dnil}
use mir.Raw.{raw as unnamed}
use mir.Val.{Val, vstruct, vcons, vnil, of_list, has_ty}
use types.Logic.{Logic}
use types.Kit.{Goal, Seq, Step, step, Item, ‵, ◌$◌, drop, fsplit, fjoin, fpick, fpack, feq_l, feq_i}
use denote.RattleType.{RattleType, Valss}
use denote.RawPtr.{Ptr, ptr_val}
use denote.Exit.{no}
use denote.Laws.{Typed}
use denote.Param.{arg, layout}
use denote.Param.Laws.{Laws, arg_laws}
use denote.Param.Steps.{one_value}
use denote.Steps.{nothing}
use denote.Struct.Struct.{within}
use denote.Struct.Owning.{shape, to}
use Rattle.std.specs.Prelude.{Option, Some, None, IsTrue, is_some}
use Rattle.std.specs.contracts.alloc.Global as Global
use Rattle.std.specs.contracts.boxed.Box as Box
use Rattle.std.specs.contracts.impls.GlobalAllocator.TheImpl.{ghosts}
use Rattle.std.proofs.Flags.{never_true}
use Rattle.std.proofs.RcSteps.{Good, Ptr-Good}
use Rattle.std.proofs.ResultValues.{and_tt}
use Rattle.std.proofs.alloc.Global.TheLaws as global
use Rattle.ptpm_c.specs.Keeping.{keeping_owns}
use Rattle.ptpm_c.specs.contracts.keeping.Keeping as Keeping
use Rattle.ptpm_c.specs.contracts.kept.Kept as The
use Rattle.ptpm_c.proofs.kept.Kept.TheLaws as the

-- ---- the types
abbrev pub Inner : RattleType
Inner = The.the_row

abbrev pub Heap : RattleType
Heap = Global.the_row

abbrev pub Boxed : RattleType
Boxed = Box.the_row Inner Heap ghosts

abbrev pub Kept : RattleType
Kept = Keeping.the_row

-- a generic function is called at a type's form alone
abbrev pub passed : RattleType → RattleType
passed R = arg (unnamed (layout R)) no R

pub inner_laws : Laws (passed Inner)
inner_laws = arg_laws (unnamed (layout Inner)) no Inner the.the_row_laws refl

pub heap_laws : Laws (passed Heap)
heap_laws = arg_laws (unnamed (layout Heap)) no Heap global.the_row_laws refl

-- neither has anything to be done when it is let go
abbrev pub let_go : RattleType → Dict
let_go R = impl ("ptpm_c::Destruct++none::drop" ∷ []) (tcons (layout (passed R)) tnil) dnil

-- ---- values of one word
-- what was passed for a type of one machine type
pub record OneWord (τ : Ty) (vs : List Val) : Type 1 where
  pub word : Val
  pub is_it : vs ≡ word ∷ []
  pub good : Good τ word

pub one_word : (τ : Ty) (vs : List Val) → Typed (τ ∷ []) vs → OneWord τ vs
one_word τ vs typed = one_value τ (OneWord τ) vs typed (λ v good. record { word = v; is_it = refl; good = good })

-- the word of what is kept has its pointer alone
abbrev pub kept_word : Ptr → Val
kept_word p = vstruct (vcons (ptr_val p) vnil)

pub kept_good : (p : Ptr) → Good (layout Kept) (kept_word p)
kept_good p = let of_pointer : Good ty_ptr (ptr_val p) = Ptr-Good p in (and_tt (has_ty ty_ptr (ptr_val p)) of_pointer.0, (of_pointer.1, tt))

-- ---- what is kept if something is known to be
pub record Holding (kept : Option Inner.Denot) : Type 0 where
  pub inner : Inner.Denot
  pub is_it : kept ≡ Some inner

pub holding : (kept : Option Inner.Denot) → IsTrue (is_some kept) → Holding kept
holding (Some c) says_so = record { inner = c; is_it = refl }
holding None says_so = never_true says_so

-- ---- what it owns
module _ {M : Type 1} {𝓤 : Ura M} {𝓛 : Logic 𝓤} {K : Type 0} {Γ : List (Item 𝓤)} {G : Goal 𝓤 𝓛.H} where
  -- taken out of its word
  pub lifts_out : K
      → (k : Kept.Denot) (vs : List Val)
      → (vs ≡ kept_word k.at ∷ [] → Seq K 𝓛 (‵ (keeping_owns k.at k.kept) ∷ Γ) G)
      → Seq K 𝓛 (‵ (Kept.own_val k vs) ∷ Γ) G
  lifts_out t k vs next =
      fsplit t $ fpick t (λ fields. fsplit t $ feq_l t (λ whole. fsplit t $ feq_l t (λ first. drop t $
      next (subst (λ (ps : List Val). vs ≡ vstruct (of_list (ps ++ [])) ∷ []) first whole))))

  -- put behind a pointer
  pub puts_behind : K
      → (p : Ptr) (c : Option Inner.Denot)
      → Step K 𝓛 (‵ (Kept.own_val (record { at = p; kept = c }) (kept_word p ∷ [])) ∷ Γ) G
      (‵ (keeping_owns p c) ∷ Γ) G
  puts_behind t p c = step (λ s.
      nothing t $ feq_i t (List Val) (ptr_val p ∷ []) (ptr_val p ∷ []) refl $ fjoin t $
      feq_i t (List Val) (kept_word p ∷ []) (kept_word p ∷ []) refl $ fjoin t $
      fpack t (Valss (shape Keeping.the_type).fields) (within (shape Keeping.the_type) (to Keeping.the_type (record { at = p; kept = c })) (kept_word p ∷ [])) (ptr_val p ∷ [], tt) $ fjoin t $ s)
