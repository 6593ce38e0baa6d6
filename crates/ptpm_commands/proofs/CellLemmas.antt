-- The texts between the tabs of a line, one after another, and what a line has.
use Rattle.std.proofs.Common.{arith, ◌≡◌, ◌⊎◌, inl, inr, true, ◌<◌, ◌++◌, ◌∷◌, [], ℕ, List, length, Option, Some, None, Result, Ok, Err, IfNone, IfSome, IsErr, Bor, refl, sym, ap, ◌∙◌}
use Rattle.std.proofs.lemmas.Bool.{cond-true}
use Rattle.std.proofs.lemmas.List.Splits.{slice_split_first, slice_split_none}
use Rattle.std.proofs.lemmas.List.Sums.{fails_before_first}
use Rattle.std.proofs.lemmas.Str.Pattern.{IsSplitOnceResult, split_once_first}
use Rattle.std.specs.List.{after_first, before_first, position_or_len}
use Rattle.std.proofs.lemmas.Result.{IfOk-from_err}
use Rattle.std.specs.Str.{is_utf8}
use Rattle.hex.specs.declared.error.FromHexError.{FromHexError}
use Rattle.ptpm_commands.specs.declared.faults.Fault.{Fault}
use Rattle.ptpm_commands.specs.declared.faults.Fault.TheVariants as faults
use Rattle.ptpm_commands.specs.declared.faults.LineFault.TheVariants as bad
use Rattle.ptpm_commands.specs.Columns.{HasNoDatagram, IsRow, cells, is_tab}
use Rattle.ptpm_commands.specs.DatagramLine.{datagram_of}
use Rattle.ptpm_commands.specs.Faults.{at_line, is_outside}
use Rattle.ptpm_commands.specs.Lines.{beside, cells_apart, datagram_in, last_apart, numbered, row_in, row_of_cells}

one_cell : (line : List ℕ) → position_or_len is_tab line ≡ length line → cells line ≡ line ∷ []
one_cell line none = slice_split_none is_tab line (λ k d h. fails_before_first is_tab line k d (rw none h))

more_cells : (line : List ℕ) → position_or_len is_tab line < length line
    → cells line ≡ before_first is_tab line ∷ cells (after_first is_tab line)
more_cells line some = slice_split_first is_tab line 0 some

-- what `split_once` gives
pub no_tab : (line : List ℕ) (r : Option (Bor (List ℕ) × Bor (List ℕ))) → IsSplitOnceResult 9 line r
    → IfNone r (cells line ≡ line ∷ [])
no_tab line None h = one_cell line (split_once_first 9 line None h (omega arith))
no_tab line (Some parts) h = tt

pub first_tab : (line : List ℕ) (r : Option (Bor (List ℕ) × Bor (List ℕ))) → IsSplitOnceResult 9 line r
    → IfSome r (λ parts. cells line ≡ parts.0.now ∷ cells parts.1.now)
first_tab line None h = tt
first_tab line (Some parts) h =
    let found = split_once_first 9 line (Some parts) h (omega arith) in
    rw (found.1, found.2) (more_cells line found.0)

-- ---- the last cell

last_of_apart : (cell : List ℕ) (more : List (List ℕ)) (last : List ℕ) → last_apart cell (more ++ last ∷ []) ≡ (cell ∷ more, last)
last_of_apart cell [] last = refl
last_of_apart cell (next ∷ more) last = ap (λ (p : List (List ℕ) × List ℕ). (cell ∷ p.0, p.1)) (last_of_apart next more last)

pub cells-apart : (columns : List (List ℕ)) (last : List ℕ) → cells_apart (columns ++ last ∷ []) ≡ (columns, last)
cells-apart [] last = refl
cells-apart (cell ∷ more) last = last_of_apart cell more last

-- ---- what a line has

pub row-ok : (n : ℕ) (line text : List ℕ) (columns : List (List ℕ)) (datagram : Option (List ℕ))
    → text ≡ line
    → is_utf8 line ≡ true
    → IsRow text columns datagram
    → row_in n line ≡ Ok (columns, datagram)
row-ok n line text columns datagram same u h =
    cond-true _ _ _ u
    ∙ ap (λ cs. row_of_cells n (cells_apart cs)) (ap cells (sym same) ∙ sym h.1)
    ∙ ap (row_of_cells n) (cells-apart columns h.0)
    ∙ ap (λ d. beside columns (numbered n d)) h.2

numbered-err : {A : Type 0} (n : ℕ) (r : Result A FromHexError) → IsErr r → numbered n r ≡ Err (faults.BadLine n bad.BadHex)
numbered-err n (Ok a) h = absurd (IfOk-from_err {E = FromHexError} (Ok a) (λ _. ⊥) h)
numbered-err n (Err e) h = refl

row_err : (n : ℕ) (line text : List ℕ)
    → text ≡ line
    → is_utf8 line ≡ true
    → HasNoDatagram text
    → row_in n line ≡ Err (faults.BadLine n bad.BadHex)
row_err n line text same u h =
    cond-true _ _ _ u
    ∙ ap (λ cs. row_of_cells n (cells_apart cs)) (ap cells (sym same) ∙ sym h.1.1)
    ∙ ap (row_of_cells n) (cells-apart h.0 h.1.0)
    ∙ ap (beside h.0) (numbered-err n (datagram_of h.1.0) h.1.2)

datagram_err : (n : ℕ) (line text : List ℕ)
    → text ≡ line
    → is_utf8 line ≡ true
    → IsErr (datagram_of text)
    → datagram_in n line ≡ Err (faults.BadLine n bad.BadHex)
datagram_err n line text same u h = cond-true _ _ _ u ∙ ap (λ l. numbered n (datagram_of l)) (sym same) ∙ numbered-err n (datagram_of text) h

pub datagram-ok : (n : ℕ) (line text : List ℕ) (datagram : Option (List ℕ))
    → text ≡ line
    → is_utf8 line ≡ true
    → datagram_of text ≡ Ok datagram
    → datagram_in n line ≡ Ok datagram
datagram-ok n line text datagram same u h = cond-true _ _ _ u ∙ ap (λ l. numbered n (datagram_of l)) (sym same) ∙ ap (numbered n) h

-- what ends the reading of a line's digits
pub row-fails : (n : ℕ) (line text : List ℕ) (e fault : Fault)
    → text ≡ line
    → is_utf8 line ≡ true
    → (e ≡ faults.OutOfMemory) ⊎ ((e ≡ faults.BadHex) × HasNoDatagram text)
    → fault ≡ at_line n e
    → (is_outside fault ≡ true) ⊎ (row_in n line ≡ Err fault)
row-fails n line text e fault same u (inl is) at = inl (ap is_outside (at ∙ ap (at_line n) is))
row-fails n line text e fault same u (inr is) at = inr (row_err n line text same u is.1 ∙ ap Err (sym (at ∙ ap (at_line n) is.0)))

pub datagram-fails : (n : ℕ) (line text : List ℕ) (e fault : Fault)
    → text ≡ line
    → is_utf8 line ≡ true
    → (e ≡ faults.OutOfMemory) ⊎ ((e ≡ faults.BadHex) × IsErr (datagram_of text))
    → fault ≡ at_line n e
    → (is_outside fault ≡ true) ⊎ (datagram_in n line ≡ Err fault)
datagram-fails n line text e fault same u (inl is) at = inl (ap is_outside (at ∙ ap (at_line n) is))
datagram-fails n line text e fault same u (inr is) at = inr (datagram_err n line text same u is.1 ∙ ap Err (sym (at ∙ ap (at_line n) is.0)))

pub ruleset datagram_laws = (datagram-ok, datagram-fails)
