-- Lines as a reader's octets give them, if these are known.
use Rattle.std.specs.Prelude.{◌≡◌, ◌==◌, ℕ, nat_lt, Bool, true, false, List, [], ◌∷◌, length, ⊤, Option, Some, None, option_map, zip}
use Rattle.std.specs.List.{slice_split}
use Rattle.std.specs.Str.Lines.{lines}
use Rattle.std.specs.Io.BufRead.{drop_through}
use Rattle.std.specs.Io.Buffered.{reader_remaining}
use Rattle.ptpm_text.specs.declared.line_reader.LineReader.{LineReader}

-- ---- a reader's octets, line by line

-- the line that was read last, without its end
abbrev pub reader_line : {R : Type 0} → LineReader R → List ℕ
reader_line l = l.line.items

-- known octets, or, if these begin within a line that is too long, those after its line feed
abbrev pub left_of : Bool → Option (List ℕ) → Option (List ℕ)
left_of true known = option_map (drop_through 10) known
left_of false known = known

-- what a reader has left, if its octets are known
abbrev pub reader_left : {R : Type 0} → (R → Option (List ℕ)) → LineReader R → Option (List ℕ)
reader_left remaining l = left_of l.is_cut (reader_remaining remaining l.reader)

-- ---- the next line, beside all that comes before its line feed, a carriage return too

-- a fact of the octets that were left before and are left after; nothing is said of a reader whose octets are not known
abbrev pub BothKnown : Option (List ℕ) → Option (List ℕ) → (List ℕ → List ℕ → Type 0) → Type 0
BothKnown None after P = ⊤
BothKnown (Some xs) None P = ⊥
BothKnown (Some xs) (Some ys) P = P xs ys

-- each line beside all that comes before its line feed, a carriage return too
abbrev pub whole_lines : List ℕ → List (List ℕ × List ℕ)
whole_lines octets = zip (lines octets) (slice_split (λ octet. octet == 10) octets)

-- the next line came, with what comes before its line feed; or none came
abbrev pub IsNextWhole : Bool → List ℕ → List (List ℕ × List ℕ) → List (List ℕ × List ℕ) → Type 0
IsNextWhole true line before after = (octets : List ℕ) × (before ≡ (line, octets) ∷ after)
IsNextWhole false line before after = (before ≡ []) × (after ≡ [])

-- over 4,096 octets come before its line feed
abbrev pub is_long : List ℕ → Bool
is_long octets = nat_lt 4096 (length octets)

abbrev pub begins_long : List (List ℕ × List ℕ) → Bool
begins_long [] = false
begins_long (line ∷ lines) = is_long line.1

-- the next line came, or none, and it is not too long
abbrev pub ReadsNext : Option (List ℕ) → Bool → List ℕ → Option (List ℕ) → Type 0
ReadsNext before more line after = BothKnown before after (λ xs ys.
    (begins_long (whole_lines xs) ≡ false) × IsNextWhole more line (whole_lines xs) (whole_lines ys))

-- the next line is too long, and those after it are left
abbrev pub LeavesLong : Option (List ℕ) → Option (List ℕ) → Type 0
LeavesLong before after = BothKnown before after (λ xs ys.
    (line : List ℕ × List ℕ) × ((whole_lines xs ≡ line ∷ whole_lines ys) × (is_long line.1 ≡ true)))

-- octets that a reader gave: one, or none at its end
abbrev pub given : Option ℕ → List ℕ
given None = []
given (Some octet) = octet ∷ []
