-- The keys of a table, as texts and as octets.
use Rattle.ptpm_plan.specs.FileText.{is_key, names_of, other_key}
use Rattle.ptpm_plan.specs.declared.table_keys.TableKind.{TableKind}
use Rattle.std.proofs.Common.{◌≡◌, ◌∙◌, ℕ, Bool, true, false, cond, List, [], ◌∷◌, map, not, Option, Some, option_map, refl, ap, sym}
use Rattle.std.specs.List.{find}
use Rattle.std.specs.Prelude.{String, string_bytes}
use Rattle.std.specs.declared.alloc.Global.{Global}
use Rattle.toml.specs.View.{members_view}
use Rattle.toml.specs.declared.value.Value.{Value}
use Rattle.std.specs.Map.{keys_of}

names_there : (es : List (String Global × Value)) → names_of (members_view es) ≡ map (λ e. string_bytes e.0) es
names_there [] = refl
names_there (e ∷ es) = ap (λ xs. string_bytes e.0 ∷ xs) (names_there es)

found_or : (b : Bool) (k : String Global) (o : Option (String Global)) (v : Option (List ℕ))
    → v ≡ option_map string_bytes o → cond b (Some (string_bytes k)) v ≡ option_map string_bytes (cond b (Some k) o)
found_or true k o v e = refl
found_or false k o v e = e

found_there : (p : List ℕ → Bool) (es : List (String Global × Value))
    → find p (map (λ e. string_bytes e.0) es) ≡ option_map string_bytes (find (λ k. p (string_bytes k)) (keys_of es))
found_there p [] = refl
found_there p (e ∷ es) = found_or (p (string_bytes e.0)) e.0 _ _ (found_there p es)

pub other_key_found : (kind : TableKind) (es : List (String Global × Value))
    → option_map string_bytes (find (λ k. not (is_key kind (string_bytes k))) (keys_of es)) ≡ other_key kind (members_view es)
unfolding other_key
other_key_found kind es =
    sym (ap (find (λ key. not (is_key kind key))) (names_there es) ∙ found_there (λ key. not (is_key kind key)) es)
