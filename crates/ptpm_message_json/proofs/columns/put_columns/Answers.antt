-- An array of texts in an object.
use Rattle.std.proofs.Common.{◌≡◌, ◌==◌, ◌∙◌, ap, sym, ℕ, false, List, [], ◌∷◌, length, map, codes, Vec, Global, Bor}
use Rattle.std.proofs.lemmas.Simd.{map-map}
use Rattle.std.proofs.lemmas.Result.{on_ok_weaker}
use Rattle.serde_json.specs.Data.{Data, Members, array, put, string}
use Rattle.serde_json.specs.View.{items_of, view}
use Rattle.serde_json.specs.declared.value.Value.{Value, Array}
use Rattle.serde_json.proofs.Views.{view-Array}
use Rattle.ptpm_message_json.specs.MessageJson.{put_columns}
use Rattle.ptpm_message_json.proofs.columns.put_columns.Goals as goal

put_texts : (columns : List (Bor (List ℕ))) (values : Vec Value Global) (ms : Members) → (length columns == 0) ≡ false
    → map view values.items ≡ map (λ t. string t.now) columns
    → put (codes "columns") (view (Array values)) ms ≡ put_columns (map (λ c. c.now) columns) ms
unfolding put_columns
put_texts [] values ms some is = absurd (cc)
put_texts (column ∷ more) values ms some is =
    ap (λ (d : Data). put (codes "columns") d ms)
    (view-Array values ∙ ap (λ (ds : List Data). array (items_of ds)) (is ∙ sym (map-map string (λ (t : Bor (List ℕ)). t.now) (column ∷ more))))

pub returns : goal.returns
returns c =
    on_ok_weaker c.put.result
    (λ is. is ∙ put_texts c.args.columns.now c.in_ok-texts.field-0 _ (sym c.is_empty.ensures ∙ c.if-is_empty.false) c.in_ok-texts.ensures)
    c.put.ensures.ok
