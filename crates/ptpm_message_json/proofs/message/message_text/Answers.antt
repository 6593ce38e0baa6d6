-- What is said of a message has no number with a point, so `compact_text` is its text.
use Rattle.std.proofs.Common.{◌≡◌, ◌∙◌, ap, refl, ℕ, ℤ, pos, negsuc, Bool, true, false, List, [], ◌∷◌, fold, map, Option, Some, None, Ordering, Less, Equal, Greater, nat_cmp, string_bytes}
use Rattle.std.specs.Prelude.{⊤, if◌then◌else◌}
use Rattle.std.specs.Cmp.Lexicographic.{slice_cmp}
use Rattle.std.specs.Ordering.{match_ordering}
use Rattle.std.proofs.lemmas.Bool.{or_from, or_parts}
use Rattle.serde_json.specs.Data.{Data, array, string, object, Members, no_members, member, put}
use Rattle.serde_json.specs.Find.{is_float, of_integer}
use Rattle.serde_json.specs.View.{items_of}
use Rattle.serde_json.specs.Written.{compact_text, has_float, items_have_float, members_have_float}
use Rattle.ptpm_codec.specs.declared.message.Body.{Body}
use Rattle.ptpm_codec.specs.declared.message.Message.{Message}
use Rattle.ptpm_codec.specs.Message.{error_of, text_of}
use Rattle.ptpm_members.specs.declared.forms.Field.{Field}
use Rattle.ptpm_members.specs.declared.forms.Form.{Form}
use Rattle.ptpm_members.specs.FieldText.{members_in}
use Rattle.ptpm_members.specs.Values.{Said, said_in}
use Rattle.ptpm_message_json.specs.DataField.{members_data, put_by, put_data, put_data_field, put_field}
use Rattle.ptpm_message_json.specs.MessageJson.{head, message_data, message_text, put_body, put_columns, put_head, put_rest, put_content, refusal, rest, with_members}
use Rattle.ptpm_message_json.specs.Names.{is_in_quality, quality_name}
use Rattle.ptpm_message_json.specs.Values.{clocks_in, said_data, value_data}
use Rattle.std.proofs.lemmas.Result.{IfOk-weaker}
use Rattle.ptpm_members.specs.Values as values
use Rattle.ptpm_message_json.proofs.message.message_text.Goals as goal

-- ---- an object with one member more

by_order : (o : Ordering) (a b c : Members) → members_have_float a ≡ false → members_have_float b ≡ false → members_have_float c ≡ false
    → members_have_float (match_ordering o a b c) ≡ false
by_order Less a b c p q r = p
by_order Equal a b c p q r = q
by_order Greater a b c p q r = r

put_plain : (k : List ℕ) (d : Data) (ms : Members) → has_float d ≡ false → members_have_float ms ≡ false
    → members_have_float (put k d ms) ≡ false
put_plain k d no_members p q = or_from (has_float d) _ p refl
put_plain k d (member l e ms) p q =
    let r = or_parts (has_float e) _ q in
    by_order (slice_cmp nat_cmp k l) (member k d (member l e ms)) (member l d ms) (member l e (put k d ms)) (or_from (has_float d) _ p q)
    (or_from (has_float d) _ p r.1) (or_from (has_float e) _ r.0 (put_plain k d ms p r.1))

abbrev ArePlain : List (List ℕ × Data) → Type 0
ArePlain [] = ⊤
ArePlain (m ∷ more) = (has_float m.1 ≡ false) × ArePlain more

with_plain : (more : List (List ℕ × Data)) (ms : Members) → ArePlain more → members_have_float ms ≡ false
    → members_have_float (with_members more ms) ≡ false
with_plain [] ms plain q = q
with_plain (m ∷ more) ms plain q = with_plain more (put m.0 m.1 ms) plain.1 (put_plain m.0 m.1 ms plain.0 q)

-- ---- the members of a dataField

integer_plain : (z : ℤ) → is_float (of_integer z) ≡ false
integer_plain (pos n) = refl
integer_plain (negsuc n) = refl

texts_plain : (texts : List (List ℕ)) → items_have_float (items_of (map string texts)) ≡ false
texts_plain [] = refl
texts_plain (text ∷ more) = texts_plain more

said_plain : (s : Said) → has_float (said_data s) ≡ false
said_plain (values.Unsigned n) = refl
said_plain (values.Signed z) = integer_plain z
said_plain (values.Flag flag) = refl
said_plain (values.Interval z) = integer_plain z
said_plain (values.Clock clock) = refl
said_plain (values.Port port) = refl
said_plain (values.Named enumeration n) = refl
said_plain (values.Quality quality) = refl
said_plain (values.Text octets) = refl
said_plain (values.Octets octets) = refl
said_plain (values.Clocks octets) = texts_plain (clocks_in octets)

value_plain : (form : Form) (octets : List ℕ) → has_float (value_data form octets) ≡ false
value_plain form octets = said_plain (said_in form octets)

either : (b : Bool) (x y : Members) → members_have_float x ≡ false → members_have_float y ≡ false
    → members_have_float (if b then x else y) ≡ false
either true x y p q = p
either false x y p q = q

by_name : (name : Option (List ℕ)) (octets : List ℕ) (f : Field) (ms : Members) → members_have_float ms ≡ false
    → members_have_float (put_by name octets f ms) ≡ false
by_name (Some name) octets f ms q = put_plain name _ ms refl q
by_name None octets f ms q = either (is_in_quality f.0) ms _ q (put_plain _ _ ms (value_plain f.2 _) q)

field_plain : (octets : List ℕ) (ms : Members) (f : Field) → members_have_float ms ≡ false
    → members_have_float (put_field octets ms f) ≡ false
unfolding put_field
field_plain octets ms f q = by_name (quality_name f.0) octets f ms q

fields_plain : (octets : List ℕ) (ms : Members) (fs : List Field) → members_have_float ms ≡ false
    → members_have_float (fold (put_field octets) ms fs) ≡ false
fields_plain octets ms [] q = q
fields_plain octets ms (f ∷ fs) q = fields_plain octets (put_field octets ms f) fs (field_plain octets ms f q)

members_plain : (octets : List ℕ) (fs : List Field) → members_have_float (members_data octets fs) ≡ false
unfolding members_data
members_plain octets fs = fields_plain octets no_members fs refl

data_plain : (octets : List ℕ) (fs : List Field) (ms : Members) → members_have_float ms ≡ false
    → members_have_float (put_data octets fs ms) ≡ false
data_plain octets [] ms q = put_plain _ _ ms refl q
data_plain octets (f ∷ fs) ms q = put_plain _ (object (members_data octets (f ∷ fs))) ms (members_plain octets (f ∷ fs)) q

data_field_plain : (id : ℕ) (octets : List ℕ) (ms : Members) → members_have_float ms ≡ false
    → members_have_float (put_data_field id octets ms) ≡ false
unfolding put_data_field
data_field_plain id octets ms q = data_plain octets (members_in id octets) ms q

-- ---- a message

head_plain : (m : Message) (ms : Members) → members_have_float ms ≡ false → members_have_float (put_head m ms) ≡ false
unfolding put_head
head_plain m ms q = with_plain (head m) ms (refl, (refl, (refl, (refl, (refl, tt))))) q

rest_plain : (m : Message) (ms : Members) → members_have_float ms ≡ false → members_have_float (put_rest m ms) ≡ false
unfolding put_rest
rest_plain m ms q = with_plain (rest m) ms (refl, (refl, (refl, (refl, tt)))) q

told_plain : (error : Option ℕ) (body : Body) (ms : Members) → members_have_float ms ≡ false
    → members_have_float (put_content error body ms) ≡ false
told_plain None body ms q = data_field_plain _ _ ms q
told_plain (Some error) body ms q = with_plain (refusal error (text_of body)) ms (refl, (refl, tt)) q

body_plain : (body : Body) (ms : Members) → members_have_float ms ≡ false → members_have_float (put_body body ms) ≡ false
unfolding put_body
body_plain body ms q = told_plain (error_of body) body ms q

columns_plain : (columns : List (List ℕ)) (ms : Members) → members_have_float ms ≡ false → members_have_float (put_columns columns ms) ≡ false
unfolding put_columns
columns_plain [] ms q = q
columns_plain (column ∷ more) ms q = put_plain _ (array (items_of (map string (column ∷ more)))) ms (texts_plain (column ∷ more)) q

message_plain : (columns : List (List ℕ)) (m : Message) → has_float (message_data columns m) ≡ false
unfolding message_data
message_plain columns m =
    columns_plain columns _
    (body_plain m.body (put_rest m (put_head m no_members)) (rest_plain m (put_head m no_members) (head_plain m no_members refl)))

-- the text of a value that says what the message does
text_of_message : (columns : List (List ℕ)) (m : Message) (d : Data) (text : List ℕ) → d ≡ message_data columns m
    → (has_float d ≡ false → text ≡ compact_text d)
    → text ≡ message_text columns m
unfolding message_text
text_of_message columns m d text says written = written (ap has_float says ∙ message_plain columns m) ∙ ap compact_text says

pub returns : goal.returns
returns c =
    IfOk-weaker c.to_string.result _ _ (λ s written. text_of_message (map (λ t. t.now) c.args.columns.now) c.args.message.now _ (string_bytes s) c.in_ok-message_value.ensures written)
    c.to_string.ensures.text
