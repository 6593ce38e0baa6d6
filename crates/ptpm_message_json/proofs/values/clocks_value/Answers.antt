-- The identities of clocks, one after the other, as an array of texts.
use Rattle.std.proofs.Common.{arith, ◌≡◌, ◌≤◌, ◌<◌, ap, refl, ℕ, List, [], ◌∷◌, ◌++◌, drop, length, map, take, ◌∙◌, append-nil, rules, string_bytes, sym}
use Rattle.hex.specs.Hex.{encode_lower}
use Rattle.serde_json.specs.Data.{Data, string, array}
use Rattle.serde_json.specs.View.{view, items_of}
use Rattle.serde_json.specs.declared.value.Value.{Value, String as text_value, the_lemmas}
use Rattle.ptpm_message_json.specs.Values.{clocks_in}
use Rattle.serde_json.proofs.Views.{view-Array}
use Rattle.ptpm_message_json.proofs.values.clocks_value.Goals as goal

first_clock : (octets : List ℕ) → 8 ≤ length octets → clocks_in octets ≡ encode_lower (take 8 octets) ∷ clocks_in (drop 8 octets)
unfolding clocks_in
first_clock (a ∷ b ∷ c ∷ d ∷ e ∷ f ∷ g ∷ h ∷ more) long = refl
first_clock [] long = absurd (omega arith)
first_clock (a ∷ []) long = absurd (omega arith)
first_clock (a ∷ b ∷ []) long = absurd (omega arith)
first_clock (a ∷ b ∷ c ∷ []) long = absurd (omega arith)
first_clock (a ∷ b ∷ c ∷ d ∷ []) long = absurd (omega arith)
first_clock (a ∷ b ∷ c ∷ d ∷ e ∷ []) long = absurd (omega arith)
first_clock (a ∷ b ∷ c ∷ d ∷ e ∷ f ∷ []) long = absurd (omega arith)
first_clock (a ∷ b ∷ c ∷ d ∷ e ∷ f ∷ g ∷ []) long = absurd (omega arith)

no_clock : (octets : List ℕ) → length octets < 8 → clocks_in octets ≡ []
unfolding clocks_in
no_clock [] few = refl
no_clock (a ∷ []) few = refl
no_clock (a ∷ b ∷ []) few = refl
no_clock (a ∷ b ∷ c ∷ []) few = refl
no_clock (a ∷ b ∷ c ∷ d ∷ []) few = refl
no_clock (a ∷ b ∷ c ∷ d ∷ e ∷ []) few = refl
no_clock (a ∷ b ∷ c ∷ d ∷ e ∷ f ∷ []) few = refl
no_clock (a ∷ b ∷ c ∷ d ∷ e ∷ f ∷ g ∷ []) few = refl
no_clock (a ∷ b ∷ c ∷ d ∷ e ∷ f ∷ g ∷ h ∷ more) few = absurd (omega arith)

one_more : (values : List Value) (v : Value) (octets : List ℕ) → 8 ≤ length octets → view v ≡ string (encode_lower (take 8 octets))
    → map view (values ++ v ∷ []) ++ map string (clocks_in (drop 8 octets)) ≡ map view values ++ map string (clocks_in octets)
one_more [] v octets long is =
    rw (first_clock octets long) (ap (λ (d : Data). d ∷ map string (clocks_in (drop 8 octets))) is)
one_more (x ∷ values) v octets long is = ap (λ (ds : List Data). view x ∷ ds) (one_more values v octets long is)

pub loop-rest-preserved : goal.loop-rest-preserved
loop-rest-preserved c =
    let clock = text_value c.in_ok-encode.field-0 in
    let says : view clock ≡ string (string_bytes c.in_ok-encode.field-0) = search (rules, the_lemmas) in
    let items : c.push.new.self.items ≡ c.loop-rest.clocks.items ++ clock ∷ [] = search rules in
    rw (items, c.split_at.ensures.back)
    (one_more c.loop-rest.clocks.items clock c.loop-rest.rest.now c.in-len8-up.len_at_least
    (says ∙ ap string (c.in_ok-encode.ensures ∙ ap encode_lower c.split_at.ensures.front)) ∙ c.loop-rest.invariant)

pub returns : goal.returns
returns c =
    let none = no_clock c.loop-rest.rest.now c.in_default.len_below in
    view-Array c.loop-rest.clocks
    ∙ ap (λ (ds : List Data). array (items_of ds)) (sym (append-nil (map view c.loop-rest.clocks.items)) ∙ rw none at c.loop-rest.invariant)
