-- Reading an identity: a text without the mark names none.
use Rattle.std.proofs.Common.{arith, ◌≡◌, ℕ, List, [], length, Option, Some, None, refl, ◌∙◌, sym}
use Rattle.std.proofs.Math.ListN.{drop_of_length-le}
use Rattle.std.specs.List.{position_or_len}
use Rattle.std.proofs.lemmas.Str.Pattern.{split_once_first}
use Rattle.ptpm_codec.specs.declared.identity.ClockIdentity.{ClockIdentity}
use Rattle.ptpm_members.specs.Identities.{is_mark, port_identity_around, port_of}
use Rattle.ptpm_members.specs.Typed.{number_up_to}
use Rattle.ptpm_members.proofs.identities.port_identity_around.Goals as goal

no_port : (clock : Option ClockIdentity) (text : List ℕ)
    → text ≡ []
    → port_of clock (number_up_to 65535 text) ≡ None
unfolding number_up_to
no_port None text e = refl
no_port (Some clock) text e = rw e refl

no_mark : (mark : ℕ) (text : List ℕ)
    → position_or_len (is_mark mark) text ≡ length text
    → port_identity_around mark text ≡ None
unfolding port_identity_around
no_mark mark text e = no_port _ _ (drop_of_length-le text (omega (arith, e)))

pub returns-in_err-clock : goal.returns-in_err-clock
returns-in_err-clock c =
    let mark = c.args.mark in
    let text = c.args.text.now in
    c.from_residual.ensures ∙ sym (no_mark mark text (split_once_first mark text None c.in_err-clock.ensures.cases (omega arith)))
