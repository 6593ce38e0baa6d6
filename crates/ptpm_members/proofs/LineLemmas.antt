-- The lines of a dataField, if it has members and if it has none; there is one at least. And one octet more of a text.
use Rattle.std.proofs.Common.{arith, ◌≡◌, ◌<◌, ◌+◌, ◌++◌, ◌∙◌, ℕ, List, [], ◌∷◌, ap, codes, drop, get_or, length, length-append, refl, sym, take}
use Rattle.std.proofs.lemmas.List.{flat_map_more, take_more}
use Rattle.std.specs.Prelude.{flat_map}
use Rattle.ptpm_members.specs.declared.forms.Field.{Field}
use Rattle.ptpm_members.specs.Names.{member_name}
use Rattle.ptpm_members.specs.ValueText.{octets_text, value_text}
use Rattle.ptpm_members.specs.FieldText.{field_text, line, lines, member_line, members_in, octets_line}

no_lines : (lead octets : List ℕ) (fs : List Field) → length fs ≡ 0 → octets_line lead octets ≡ lines lead octets fs
no_lines lead octets [] h = refl
no_lines lead octets (f ∷ fs) h = absurd (omega arith)

some_lines : (lead octets : List ℕ) (fs : List Field) → 0 < length fs → flat_map (member_line lead octets) fs ≡ lines lead octets fs
some_lines lead octets [] h = absurd (omega arith)
some_lines lead octets (f ∷ fs) h = refl

pub text_of_none : (lead octets : List ℕ) (id : ℕ) (fs : List Field) → fs ≡ members_in id octets → length fs ≡ 0
    → octets_line lead octets ≡ field_text lead id octets
unfolding field_text
text_of_none lead octets id fs e h = rw (← e) (no_lines lead octets fs h)

pub text_of_some : (lead octets : List ℕ) (id : ℕ) (fs : List Field) → fs ≡ members_in id octets → 0 < length fs
    → flat_map (member_line lead octets) fs ≡ field_text lead id octets
unfolding field_text
text_of_some lead octets id fs e h = rw (← e) (some_lines lead octets fs h)

line_length : (lead name value : List ℕ) → 0 < length (line lead name value)
line_length lead name value = omega (arith, length-append (lead ++ name ++ codes " " ++ value) (10 ∷ []))

lines_length : (lead octets : List ℕ) (fs : List Field) → 0 < length (lines lead octets fs)
unfolding member_line octets_line
lines_length lead octets [] = line_length lead (codes "value") (octets_text octets)
lines_length lead octets (f ∷ fs) =
    let first : 0 < length (member_line lead octets f) = line_length lead (member_name f.0) (value_text f.2 (drop f.1 octets)) in
    omega (arith, first, length-append (member_line lead octets f) (flat_map (member_line lead octets) fs))

pub text_length : (lead : List ℕ) (id : ℕ) (octets : List ℕ) → 0 < length (field_text lead id octets)
unfolding field_text
text_length lead id octets = lines_length lead octets (members_in id octets)

-- the texts of some octets and of the next one are those of one octet more
pub one_octet_more : (text : ℕ → List ℕ) (octets : List ℕ) (i : ℕ) → i < length octets
    → flat_map text (take i octets) ++ text (get_or octets i 0) ≡ flat_map text (take (i + 1) octets)
one_octet_more text octets i inside =
    flat_map_more text [] (take i octets) (get_or octets i 0) ∙ ap (flat_map text) (sym (take_more octets i 0 inside))
