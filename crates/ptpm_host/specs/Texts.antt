-- A text that is left in octets of the caller.
use Rattle.std.specs.Prelude.{ℕ, List, Option, Some, None, ◌++◌, ◌≡◌, ◌<◌, ◌≤◌, ◌+◌, length, drop, take, []}
use Rattle.std.proofs.Common.{append-nil, append_assoc, subst, sym}

-- the text is at the head, and has this many octets; what comes after it is as it was
pub record IsHandedOut (text : List ℕ) (count : ℕ) (before after : List ℕ) : Type 0 where
  pub size : count ≡ length text
  pub octets : after ≡ text ++ drop count before

-- the text is handed out if there is room for all of it, and only then
abbrev pub HandsOut : List ℕ → Option ℕ → List ℕ → List ℕ → Type 0
HandsOut text (Some count) before after = IsHandedOut text count before after × (length text ≤ length before)
HandsOut text None before after = length before < length text

-- octets to which a text was handed out, and its count: another text goes after it
abbrev pub KeepsText : (List ℕ × Option ℕ) → List ℕ → (List ℕ × Option ℕ) → Type 0
KeepsText s more t = (text before : List ℕ) → HandsOut text s.1 before s.0 → HandsOut (text ++ more) t.1 before t.0

-- octets with a text in place of as many of them, after the first few
abbrev pub put_in : List ℕ → ℕ → List ℕ → List ℕ
put_in octets at text = take at octets ++ text ++ drop (at + length text) octets

-- the text is put in at a place if there is room for all of it, and the answer is the place after it
abbrev pub IsPut : List ℕ → List ℕ → ℕ → Option ℕ → List ℕ → Type 0
IsPut text before at (Some end) after = (end ≡ at + length text) × (end ≤ length before) × (after ≡ put_in before at text)
IsPut text before at None after = length before < at + length text

-- ---- one text is handed out after another

pub keeps_none : (s : List ℕ × Option ℕ) → KeepsText s [] s
keeps_none s text before is = subst (λ (u : List ℕ). HandsOut u s.1 before s.0) (sym (append-nil text)) is

pub keeps_twice : (r s t : List ℕ × Option ℕ) (a b : List ℕ) → KeepsText r a s → KeepsText s b t → KeepsText r (a ++ b) t
keeps_twice r s t a b first second text before is =
    subst (λ (u : List ℕ). HandsOut u t.1 before t.0) (append_assoc text a b) (second (text ++ a) before (first text before is))
