-- The errors that the standard names.
use Rattle.std.proofs.Common.{◌≡◌, ◌==◌, ℕ, false, IfSome, None, Option, Some, find, refl, sym}
use Rattle.std.proofs.lemmas.Bool.{ne_eqb}
use Rattle.std.proofs.lemmas.Option.{none-some}
use Rattle.ptpm_codec.specs.declared.error.ErrorId.{ErrorId}
use Rattle.ptpm_codec.specs.declared.error.ErrorId.TheVariants as errors
use Rattle.ptpm_codec.specs.Message.{error_number}
use Rattle.ptpm_message_json.specs.MessageJson.{named_error, named_errors}

pub no_name : (n : ℕ) → ((e : ErrorId) → error_number e ≡ n → ⊥) → find (λ e. error_number e == n) named_errors ≡ None
no_name n none =
    let a : (0x0001 == n) ≡ false = ne_eqb 0x0001 n (none errors.ResponseTooBig) in
    let b : (0x0002 == n) ≡ false = ne_eqb 0x0002 n (none errors.NoSuchId) in
    let c : (0x0003 == n) ≡ false = ne_eqb 0x0003 n (none errors.WrongLength) in
    let d : (0x0004 == n) ≡ false = ne_eqb 0x0004 n (none errors.WrongValue) in
    let e : (0x0005 == n) ≡ false = ne_eqb 0x0005 n (none errors.NotSetable) in
    let f : (0x0006 == n) ≡ false = ne_eqb 0x0006 n (none errors.NotSupported) in
    let g : (0xfffe == n) ≡ false = ne_eqb 0xfffe n (none errors.GeneralError) in
    rw (a, b, c, d, e, f, g) refl

has_name : (e : ErrorId) (n : ℕ) → error_number e ≡ n → find (λ x. error_number x == n) named_errors ≡ Some e
has_name errors.ResponseTooBig n is = rw (← is) refl
has_name errors.NoSuchId n is = rw (← is) refl
has_name errors.WrongLength n is = rw (← is) refl
has_name errors.WrongValue n is = rw (← is) refl
has_name errors.NotSetable n is = rw (← is) refl
has_name errors.NotSupported n is = rw (← is) refl
has_name errors.GeneralError n is = rw (← is) refl

pub is_named : (n : ℕ) (name : Option ErrorId) → IfSome name (λ e. error_number e ≡ n)
    → ((e : ErrorId) → error_number e ≡ n → name ≡ Some e)
    → name ≡ named_error n
unfolding named_error
is_named n None named found = sym (no_name n (λ e is. none-some e (found e is)))
is_named n (Some e) named found = sym (has_name e n named)
