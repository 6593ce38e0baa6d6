-- Members that `==` finds the same are the same.
use Rattle.std.proofs.Common.{arith, ◌≡◌, ap, refl, ℕ, zero, suc, ◌<◌, Bool, true, false, List, [], ◌∷◌, length, get_or, inl, inr, ◌∙◌, option_map, subst, sym}
use Rattle.std.specs.Prelude.{IsSomeAnd, slice_get}
use denote.Enum.Bare.{same_true}
use denote.Enum.Compared.{Each, by}
use denote.Enum.Declared.{Choice, intoss}
use denote.Struct.Values.{Values}
use Rattle.ptpm_data.specs.declared.port_setting.PortSetting.{PortSetting}
use Rattle.ptpm_members.specs.declared.forms.Field.{Field}
use Rattle.ptpm_members.specs.declared.names.Member.{Member}
use Rattle.ptpm_data.specs.ManagementId.{row_value}
use Rattle.ptpm_members.specs.Tables.{fields_of_id, fields_of_row}
use Rattle.ptpm_host.proofs.FaultLemmas.{never_met}
use denote.Struct.Field.{Field as Part}
use Rattle.ptpm_data.specs.declared.members.Member.{Member as DataSetMember}
use Rattle.ptpm_data.specs.contracts.members.Member as data_set_member
use Rattle.ptpm_data.specs.contracts.members.MemberPartialEq.TheImpl.{ghosts as of_data_set}
use Rattle.ptpm_data.specs.contracts.port_setting.PortSetting as port_setting
use Rattle.ptpm_data.specs.contracts.port_setting.PortSettingPartialEq.TheImpl.{ghosts as of_setting}
use Rattle.ptpm_members.specs.contracts.names.Member as member
use Rattle.ptpm_members.specs.contracts.names.MemberPartialEq.TheImpl.{ghosts as of_member}
use Rattle.ptpm_host.proofs.parsing.place.Goals as goal

-- ---- the `==` of an enum distinguishes its values, if that of each variant with fields does

abbrev AreDistinguished : (Fss : List (List Part)) → Each Bool Fss → Type 0
AreDistinguished [] each = Unit {0}
AreDistinguished ([] ∷ Fss) each = AreDistinguished Fss each.1
AreDistinguished ((F ∷ Fs) ∷ Fss) each = ((x y : Values (F ∷ Fs)) → each.0 x y ≡ true → x ≡ y) × AreDistinguished Fss each.1

same_choice : (Fss : List (List Part)) (each : Each Bool Fss) → AreDistinguished Fss each
    → (c d : Choice Fss) → by false false Fss each c d ≡ true → c ≡ d
same_choice [] each apart c d is = absurd c
same_choice ([] ∷ Fss) each apart (inl x) (inl y) is = refl
same_choice ([] ∷ Fss) each apart (inl x) (inr d) is = cc
same_choice ([] ∷ Fss) each apart (inr c) (inl y) is = cc
same_choice ([] ∷ Fss) each apart (inr c) (inr d) is = ap inr (same_choice Fss each.1 apart c d is)
same_choice ((F ∷ Fs) ∷ Fss) each apart (inl x) (inl y) is = ap inl (apart.0 x y is)
same_choice ((F ∷ Fs) ∷ Fss) each apart (inl x) (inr d) is = cc
same_choice ((F ∷ Fs) ∷ Fss) each apart (inr c) (inl y) is = cc
same_choice ((F ∷ Fs) ∷ Fss) each apart (inr c) (inr d) is = ap inr (same_choice Fss each.1 apart.1 c d is)

-- ---- a setting, a member of the data sets, and what a dataField says at a place

same_setting : (a b : PortSetting) → of_setting.eq a b ≡ true → a ≡ b
same_setting a b is = same_true port_setting.the_type tt a b is

same_in_data_sets : (a b : DataSetMember) → of_data_set.eq a b ≡ true → a ≡ b
same_in_data_sets a b is =
    let E = data_set_member.the_type in
    E.to_one a b (ap (intoss E.parts) (same_choice E.parts _ ((λ x y e i. (same_setting x.0 y.0 e i, tt)), tt) _ _ is))

same_member : (a b : Member) → of_member.eq a b ≡ true → a ≡ b
same_member a b is =
    let E = member.the_type in
    E.to_one a b (ap (intoss E.parts) (same_choice E.parts _ ((λ x y e i. (same_in_data_sets x.0 y.0 e i, tt)), tt) _ _ is))

-- the place of a member among fields
member_at : (fields : List Field) (place : ℕ) (d : Field) (m : Member)
    → place < length fields
    → of_member.eq (get_or fields place d).0 m ≡ true
    → IsSomeAnd (slice_get fields place) (λ f. f.0 ≡ m)
member_at [] place d m below is = absurd (omega arith)
member_at (f ∷ fields) zero d m below is = same_member f.0 m is
member_at (f ∷ fields) (suc place) d m below is = member_at fields place d m (omega arith) is

pub unreachable-requires-2 : goal.unreachable-requires-2
unreachable-requires-2 c =
    let fields : c.fields-field-items.result.now ≡ fields_of_id c.args.id =
    c.fields-field-items.ensures ∙ ap fields_of_row (sym (ap (option_map row_value) c.in-Some.is) ∙ c.by_id.ensures) in
    never_met c.args.member c.fields-field-items.result.now (fields_of_id c.args.id) fields c.requires
    (λ k d below. c.loop-place.invariant k d (omega (arith, below)))

pub returns-then-eq : goal.returns-then-eq
returns-then-eq c =
    let fields : c.fields-field-items.result.now ≡ fields_of_id c.args.id =
    c.fields-field-items.ensures ∙ ap fields_of_row (sym (ap (option_map row_value) c.in-Some.is) ∙ c.by_id.ensures) in
    let P : List Field → Type 0 = λ fs. IsSomeAnd (slice_get fs c.loop-place.place) (λ f. f.0 ≡ c.args.member) in
    subst P fields (member_at c.fields-field-items.result.now c.loop-place.place _ c.args.member c.loop-place-test.true (sym c.if-eq.ensures))
