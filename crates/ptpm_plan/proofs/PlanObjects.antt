-- The objects of the changes so far, and of one change more; and what is found in the object of a plan.
use Rattle.std.proofs.Common.{◌≡◌, ◌∙◌, ℕ, ◌+◌, ◌<◌, ◌≤◌, List, [], ◌∷◌, ◌++◌, length, get_or, drop, map, codes, ap, refl, sym, arith, append_assoc, append-nil, BTreeMap, Global, String, Some, subst}
use Rattle.std.proofs.lemmas.List.{drop_all, drop_more}
use Rattle.hex.specs.Hex.{encode_lower}
use Rattle.serde_json.specs.Data.{Data, Members, array, object, put, string}
use Rattle.serde_json.specs.Find.{get, get_member}
use Rattle.serde_json.specs.View.{items_of, members_view, view}
use Rattle.serde_json.specs.declared.value.Value.{Value, Object}
use Rattle.serde_json.proofs.Views.{get_member-put, get_member-put_other, view-Object}
use Rattle.ptpm_plan.specs.Digest.{digest_of}
use Rattle.ptpm_plan.specs.PlanObject.{IsObject, change_data, changes_data}
use Rattle.ptpm_plan.specs.declared.change.Change.{Change}

apart : codes "changes" ≡ codes "plan" → ⊥
apart h = omega (arith, ap length h)

-- of a map in which the changes were put, and then the name
pub has_both : (cs said : List Change) (m : BTreeMap (String Global) Value) (ms mid : Members) (name objects : Data)
    → said ≡ cs → name ≡ string (encode_lower (digest_of said)) → objects ≡ array (items_of (changes_data 1 said))
    → mid ≡ put (codes "changes") objects ms → members_view m.entries ≡ put (codes "plan") name mid → IsObject cs (view (Object m))
has_both cs said m ms mid name objects same is_name are before after =
    let is = view-Object m ∙ ap object after in
    let there : get_member (codes "changes") mid ≡ Some objects =
    ap (get_member (codes "changes")) before ∙ get_member-put (codes "changes") objects ms in
    subst (λ (xs : List Change). IsObject xs (view (Object m))) same
    (record {
      named = ap (get (codes "plan")) is ∙ get_member-put (codes "plan") name mid ∙ ap Some is_name;
      told = ap (get (codes "changes")) is ∙ get_member-put_other (codes "changes") (codes "plan") name mid apart ∙ there ∙ ap Some are;
    })

one_object : (vs : List Value) (v : Value) (cs : List Change) (i : ℕ) (c : Change) → i < length cs → c ≡ get_or cs i c
    → view v ≡ change_data (i + 1) c
    → map view (vs ++ v ∷ []) ++ changes_data (i + 1 + 1) (drop (i + 1) cs) ≡ map view vs ++ changes_data (i + 1) (drop i cs)
one_object [] v cs i c below is says =
    ap (λ (d : Data). d ∷ changes_data (i + 1 + 1) (drop (i + 1) cs)) (says ∙ ap (change_data (i + 1)) is)
    ∙ sym (ap (changes_data (i + 1)) (drop_more cs i c below))
one_object (x ∷ vs) v cs i c below is says = ap (λ (ds : List Data). view x ∷ ds) (one_object vs v cs i c below is says)

-- the objects so far, with that of one change more
pub object_added : (vs : List Value) (v : Value) (cs : List Change) (i : ℕ) (c : Change) → i < length cs → c ≡ get_or cs i c
    → view v ≡ change_data (i + 1) c
    → map view vs ++ changes_data (i + 1) (drop i cs) ≡ changes_data 1 cs
    → map view (vs ++ v ∷ []) ++ changes_data (i + 1 + 1) (drop (i + 1) cs) ≡ changes_data 1 cs
object_added vs v cs i c below is says h = one_object vs v cs i c below is says ∙ h

pub all_objects : (vs : List Value) (cs : List Change) (i : ℕ) → length cs ≤ i
    → map view vs ++ changes_data (i + 1) (drop i cs) ≡ changes_data 1 cs → map view vs ≡ changes_data 1 cs
all_objects vs cs i past h =
    sym (append-nil (map view vs)) ∙ sym (ap (λ (xs : List Change). map view vs ++ changes_data (i + 1) xs) (drop_all i cs past)) ∙ h
