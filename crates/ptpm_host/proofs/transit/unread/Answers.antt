-- What is passed on unread has the header of a management message.
use Rattle.std.proofs.Common.{arith, ◌≡◌, ◌⊎◌, inl, inr, ℕ, Bool, true, false, cond, List, Option, Some, None, refl, ap, sym, take}
use Rattle.std.specs.Option.{option_or}
use Rattle.ptpm_codec.specs.declared.error.DecodeError.{DecodeError}
use Rattle.ptpm_codec.specs.Layout.{message_octets}
use Rattle.ptpm_codec.specs.Refusal.{frame_refusal, message_refusal}
use Rattle.ptpm_codec.proofs.RefusalLaws.{IsFramed, framed}
use Rattle.ptpm_host.specs.Transit.{is_past_header, is_unread, is_unread_by}
use Rattle.std.proofs.lemmas.List.{length-take-le}
use Rattle.ptpm_host.proofs.transit.unread.Goals as goal

picks : (test : Bool) (f e : DecodeError) (o : Option DecodeError)
    → cond test (Some f) o ≡ Some e
    → (f ≡ e) ⊎ (o ≡ Some e)
picks true f e o h = inl cc
picks false f e o h = inr h

frame_error : (d : List ℕ) (e : DecodeError) → frame_refusal d ≡ Some e → is_past_header e ≡ false
unfolding frame_refusal
frame_error d e h = grind (arith, picks)

unread_by : (o m : Option DecodeError)
    → ((e : DecodeError) → o ≡ Some e → is_past_header e ≡ false)
    → is_unread_by (option_or o m) ≡ true
    → o ≡ None
unread_by None m f h = refl
unread_by (Some e) m f h = let no : is_past_header e ≡ false = f e refl in absurd cc

unread_framed : (d : List ℕ) → is_unread d ≡ true → IsFramed d
unread_framed d h = framed d (unread_by (frame_refusal d) (message_refusal (message_octets d)) (frame_error d) h)

pub u16_at-requires : goal.u16_at-requires
u16_at-requires c =
    let found : is_unread c.args.datagram.now ≡ true = grind arith in
    omega (arith, (unread_framed c.args.datagram.now found).at_least)

pub slice_bounds-result-end : goal.slice_bounds-result-end
slice_bounds-result-end c =
    let found : is_unread c.args.datagram.now ≡ true = grind arith in
    let framed = unread_framed c.args.datagram.now found in
    sym (length-take-le c.u16_at.result c.args.datagram.now (omega (arith, c.u16_at.ensures, framed.inside)))

pub returns-in-Err : goal.returns-in-Err
returns-in-Err c =
    let found : is_unread c.args.datagram.now ≡ true = grind arith in
    let framed = unread_framed c.args.datagram.now found in
    let size = length-take-le c.u16_at.result c.args.datagram.now (omega (arith, c.u16_at.ensures, framed.inside)) in (
      found,
      (
        ap (λ n. take n c.args.datagram.now) c.u16_at.ensures,
        (omega (arith, size, c.u16_at.ensures, framed.low), omega (arith, size, c.u16_at.ensures, framed.high)),
      ),
    )
