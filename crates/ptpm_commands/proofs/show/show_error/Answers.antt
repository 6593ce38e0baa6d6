-- An error without a name.
use Rattle.std.proofs.Common.{◌≡◌, ℕ, ap, ◌∙◌, codes, subst, sym}
use Rattle.std.proofs.lemmas.Option.{none-some}
use Rattle.std.proofs.lemmas.Result.{on_ok_weaker}
use Rattle.std.specs.Io.KnownBytes.{Appends}
use Rattle.ptpm_codec.specs.declared.error.ErrorId.{ErrorId}
use Rattle.ptpm_codec.specs.Message.{error_number}
use Rattle.ptpm_message_json.proofs.Naming.{no_name}
use Rattle.ptpm_commands.specs.Show.{dash, error_named, name_of_error, named_line}
use Rattle.ptpm_commands.proofs.Telling.{named-line}
use Rattle.ptpm_commands.proofs.show.show_error.Goals as goal

unnamed : (n : ℕ) → ((e : ErrorId) → error_number e ≡ n → ⊥) → error_named n ≡ dash
unnamed n none = ap name_of_error (no_name n none)

pub returns-in-None : goal.returns-in-None
returns-in-None g c =
    let n = c.args.number in
    let none : error_named n ≡ dash = unnamed n (λ e is. none-some e (c.in-None.ensures.found e is)) in
    let line = named-line (codes "error ") n c.to_be_bytes-digits.result dash c.to_be_bytes-digits.ensures
    ∙ ap (named_line (codes "error ") n) (sym none) in
    on_ok_weaker c.writeln-in-None.result
    (λ wrote. subst (Appends (g.O.Write.contents c.args.out.now) (g.O.Write.contents c.writeln-in-None.new.self)) line wrote)
    c.writeln-in-None.ensures.bytes
