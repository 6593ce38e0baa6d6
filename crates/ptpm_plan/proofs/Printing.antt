-- The lines of the changes so far, and of one change more.
use Rattle.std.proofs.Common.{◌≡◌, ◌≢◌, ℕ, ◌+◌, ◌<◌, ◌≤◌, ◌==◌, Bor, false, List, [], ◌∷◌, ◌++◌, length, get_or, take, Option, None, Some, IfNone, IfSome, refl, sym, ap, subst, ◌∙◌, append_assoc, append-nil, arith}
use Rattle.std.proofs.lemmas.List.{length-take}
use Rattle.std.specs.Io.KnownBytes.{Appends}
use Rattle.std.proofs.KnownBytes.{Appends-nil, Appends-trans}
use Rattle.std.proofs.lemmas.Bool.{ne_eqb}
use Rattle.std.proofs.lemmas.List.{get_or_default, take_all, take_more}
use Rattle.std.proofs.lemmas.List.Folds.{list_any_none}
use Rattle.std.proofs.lemmas.Str.Pattern.{IsSplitOnceResult, split_parts}
use Rattle.ptpm_plan.specs.Printed.{AreNumbered, AreRows, IsCount, IsNamed, IsRow, IsStep, IsWithSteps, Writes, has_feed, name_text, row_head, row_member}
use Rattle.ptpm_plan.specs.declared.plan.Plan.{Plan}
use Rattle.ptpm_plan.specs.declared.change.Change.{Change}
use Rattle.ptpm_plan.specs.declared.surveyed.Surveyed.{Surveyed}

no_feed : (xs : List ℕ) → ((i : ℕ) → i < length xs → get_or xs i 0 ≢ 10) → has_feed xs ≡ false
no_feed xs h = list_any_none (λ octet. octet == 10) xs (λ k d below.
    ap (λ octet. octet == 10) (get_or_default xs k d 0 below) ∙ ne_eqb (get_or xs k 0) 10 (h k below))

-- a text that is cut at its first line feed
pub uncut : (bs : List ℕ) (r : Option (Bor (List ℕ) × Bor (List ℕ))) → IsSplitOnceResult 10 bs r → IfNone r (has_feed bs ≡ false)
uncut bs None h = no_feed bs (split_parts 10 bs None h (omega arith))
uncut bs (Some x) h = tt

pub cut_front : (bs : List ℕ) (r : Option (Bor (List ℕ) × Bor (List ℕ))) → IsSplitOnceResult 10 bs r → IfSome r (λ x. has_feed x.0.now ≡ false)
cut_front bs None h = tt
cut_front bs (Some x) h = no_feed x.0.now (split_parts 10 bs (Some x) h (omega arith)).1

one_line : (Is : ℕ → Change → List ℕ → Type 0) (n m : ℕ) (c : Change) (line : List ℕ) → n ≡ m → Is n c line
    → AreNumbered Is m (c ∷ []) line
one_line Is n m c line e h = record {
  first = line;
  others = [];
  is = sym (append-nil line);
  is_first = subst (λ k. Is k c line) e h;
  are_others = refl;
}

lines_more : (Is : ℕ → Change → List ℕ → Type 0) (n m : ℕ) (cs : List Change) (c : Change) (text line : List ℕ)
    → m ≡ n + length cs → AreNumbered Is n cs text → Is m c line → AreNumbered Is n (cs ++ c ∷ []) (text ++ line)
lines_more Is n m [] c text line at h k = subst (AreNumbered Is n (c ∷ [])) (ap (λ xs. xs ++ line) (sym h)) (one_line Is m n c line (omega (arith, at)) k)
lines_more Is n m (x ∷ xs) c text line at h k = record {
  first = h.first;
  others = h.others ++ line;
  is = ap (λ ys. ys ++ line) h.is ∙ append_assoc h.first h.others line;
  is_first = h.is_first;
  are_others = lines_more Is (n + 1) m xs c h.others line (omega (arith, at)) h.are_others k;
}

pub no_lines : (Is : ℕ → Change → List ℕ → Type 0) (old : Option (List ℕ)) → Writes (AreNumbered Is 1 []) old old
no_lines Is old = record { text = []; is = refl; written = Appends-nil old }

pub line_written : (Is : ℕ → Change → List ℕ → Type 0) (cs : List Change) (i : ℕ) (c : Change) (old mid new : Option (List ℕ))
    → i < length cs → c ≡ get_or cs i c
    → Writes (AreNumbered Is 1 (take i cs)) old mid → Writes (Is (i + 1) c) mid new
    → Writes (AreNumbered Is 1 (take (i + 1) cs)) old new
line_written Is cs i c old mid new below is h k = record {
  text = h.text ++ k.text;
  is = subst (λ xs. AreNumbered Is 1 xs (h.text ++ k.text)) (ap (λ x. take i cs ++ x ∷ []) is ∙ sym (take_more cs i c below))
      (lines_more Is 1 (i + 1) (take i cs) c h.text k.text (omega (arith, length-take i cs, below)) h.is k.is);
  written = Appends-trans old mid new h.text k.text h.written k.written;
}

pub all_lines : (Is : ℕ → Change → List ℕ → Type 0) (cs : List Change) (i : ℕ) (old new : Option (List ℕ))
    → length cs ≤ i → Writes (AreNumbered Is 1 (take i cs)) old new → Writes (AreNumbered Is 1 cs) old new
all_lines Is cs i old new past h = subst (λ xs. Writes (AreNumbered Is 1 xs) old new) (take_all i cs past) h

-- the row of a change, by its parts
pub row_written : (number : ℕ) (c : Change) (head name member values line : List ℕ) (old new : Option (List ℕ))
    → head ≡ row_head number c → member ≡ row_member c → has_feed name ≡ false → has_feed values ≡ false
    → line ≡ head ++ name ++ member ++ values ++ 10 ∷ [] → Appends old new line → Writes (IsRow number c) old new
row_written number c head name member values line old new is_head is_member one_name one is h = record {
  text = line;
  is = record {
    name = name;
    values = values;
    is = is ∙ ap (λ xs. xs ++ name ++ member ++ values ++ 10 ∷ []) is_head
        ∙ ap (λ xs. row_head number c ++ name ++ xs ++ values ++ 10 ∷ []) is_member;
    one_name = one_name;
    one = one;
  };
  written = h;
}

-- the number of changes, and their rows
pub counted_rows : (p : Plan) (cs : List Change) (old mid new : Option (List ℕ)) → cs ≡ p.changes.items
    → Writes (IsCount (length cs)) old mid → Writes (AreNumbered IsRow 1 cs) mid new → Writes (AreRows p.changes.items) old new
counted_rows p cs old mid new same h k = subst (λ xs. Writes (AreRows xs) old new) same (record {
  text = h.text ++ k.text;
  is = record { first = h.text; others = k.text; is = refl; is_first = h.is; are_others = k.is };
  written = Appends-trans old mid new h.text k.text h.written k.written;
})

-- what was written in memory
pub rows_made : (cs : List Change) (before rows : List ℕ) → before ≡ [] → Writes (AreRows cs) (Some before) (Some rows) → AreRows cs rows
rows_made cs before rows none h = subst (AreRows cs) (sym (h.written ∙ ap (λ xs. xs ++ h.text) none)) h.is

-- the name, the rows, and the words after them
pub named : (cs : List Change) (name rows words : List ℕ) (old a b new : Option (List ℕ))
    → name ≡ name_text cs → AreRows cs rows → Appends old a name → Appends a b rows → Appends b new words
    → Writes (IsNamed cs) old new
named cs name rows words old a b new is are first second third = record {
  text = name ++ rows ++ words;
  is = record { rows = rows; words = words; is = ap (λ xs. xs ++ rows ++ words) is; are_rows = are };
  written = Appends-trans old b new (name ++ rows) words (Appends-trans old a b name rows first second) third;
}

-- the text, an empty line, and the steps
pub with_steps : (p : Plan) (cs : List Change) (old text line new : Option (List ℕ))
    → cs ≡ p.changes.items → Writes (IsNamed p.changes.items) old text → Appends text line (10 ∷ [])
    → Writes (AreNumbered (IsStep p.surveyed) 1 cs) line new → Writes (IsWithSteps p) old new
with_steps p cs old text line new same h feed k = record {
  text = h.text ++ 10 ∷ k.text;
  is = record {
    first = h.text;
    others = 10 ∷ k.text;
    is = refl;
    is_first = h.is;
    are_others = record { further = k.text; is = refl; are = subst (λ xs. AreNumbered (IsStep p.surveyed) 1 xs k.text) same k.is };
  };
  written = Appends-trans old text new h.text (10 ∷ k.text) h.written (Appends-trans text line new (10 ∷ []) k.text feed k.written);
}
