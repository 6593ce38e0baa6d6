use Rattle.std.proofs.Common.{◌≡◌, ◌∙◌, ◌≤◌, ℕ, List, length, Option, Some, None, ap, subst, sym}
use Rattle.std.specs.Prelude.{IfSome, OnSome}
use Rattle.ptpm_codec.specs.declared.message.Action.{Action}
use Rattle.ptpm_codec.specs.declared.tlv.TlvKind.TheVariants.{Management}
use Rattle.ptpm_codec.specs.Layout.{message_octets}
use Rattle.ptpm_codec.specs.Reading.{action_at, IsViewed, IsWellFormed}
use Rattle.ptpm_codec.specs.Refusal.{frame_refusal, tlv_refusal}
use Rattle.ptpm_codec.proofs.ReadingLaws.{tlv_kind-management, well_formed_management}
use Rattle.ptpm_codec.proofs.decoding.plain_action.Goals as goal
use Rattle.ptpm_codec.specs.Layout as layout

viewed : (o : Option Action) (d m : List ℕ) (type : ℕ)
    → m ≡ message_octets d
    → 54 ≤ length m
    → type ≡ layout.tlv_type m
    → IfSome o (λ a. a ≡ action_at m)
    → OnSome o (type ≡ 1)
    → IfSome o (λ a. IsViewed (message_octets d) a Management)
viewed None d m type e long t action one = tt
viewed (Some a) d m type e long t action one = subst (λ (n : List ℕ). IsViewed n a Management) e (record {
  long = long;
  action_is = action;
  kind_is = sym (tlv_kind-management m (sym t ∙ one));
  status_long = λ status. absurd cc;
  text_fits = λ status. absurd cc;
})

well_formed : (o : Option Action) (d m : List ℕ) (type field : ℕ)
    → frame_refusal d ≡ None
    → m ≡ message_octets d
    → type ≡ layout.tlv_type m
    → field ≡ layout.length_field m
    → OnSome o (tlv_refusal (layout.action_field m) type field (length m) ≡ None)
    → OnSome o (type ≡ 1)
    → OnSome o (IsWellFormed d)
well_formed None d m type field frame e t f tlv one = tt
well_formed (Some a) d m type field frame e t f tlv one =
    well_formed_management d m frame e
    (ap (λ (x : ℕ). tlv_refusal (layout.action_field m) x (layout.length_field m) (length m)) (sym t)
    ∙ (ap (λ (y : ℕ). tlv_refusal (layout.action_field m) type y (length m)) (sym f) ∙ tlv))
    (sym t ∙ one)

pub returns-clause-viewed : goal.returns-clause-viewed
returns-clause-viewed c =
    viewed c.management_action.result c.args.datagram.now c.in-Ok.message.now c.u16_at-tlv_type.result
    c.in-Ok.ensures.octets c.in-Ok.ensures.long c.u16_at-tlv_type.ensures
    c.management_action.ensures.action c.management_action.ensures.tlv

pub returns-clause-well_formed : goal.returns-clause-well_formed
returns-clause-well_formed c =
    well_formed c.management_action.result c.args.datagram.now c.in-Ok.message.now c.u16_at-tlv_type.result c.u16_at-length_field.result
    c.in-Ok.ensures.refusal c.in-Ok.ensures.octets c.u16_at-tlv_type.ensures c.u16_at-length_field.ensures
    c.management_action.ensures.sound c.management_action.ensures.tlv
