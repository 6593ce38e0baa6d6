-- The words with which a line begins, one after another.
use Rattle.std.proofs.Common.{arith, ◌≡◌, ◌<◌, ◌≤◌, ◌∷◌, [], ◌==◌, cond, ℕ, Bool, List, length, Option, Some, None, IfNone, IfSome, Bor, refl, ap, ◌∙◌}
use Rattle.std.proofs.lemmas.List.Splits.{length-slice_split, slice_split_first, slice_split_none}
use Rattle.std.proofs.lemmas.List.Sums.{fails_before_first}
use Rattle.std.proofs.lemmas.Str.Pattern.{IsSplitOnceResult, split_once_first}
use Rattle.std.specs.List.{after_first, before_first, position_or_len}
use Rattle.ptpm_commands.specs.DatagramLine.{behind_all, is_word, texts}
use Rattle.ptpm_commands.proofs.datagram_line.first_text.Goals as goal

abbrev is_space : ℕ → Bool
is_space octet = octet == 0x20

one_text : (line : List ℕ) → position_or_len is_space line ≡ length line → texts line ≡ line ∷ []
one_text line none = slice_split_none is_space line (λ k d h. fails_before_first is_space line k d (rw none h))

more_texts : (line : List ℕ) → position_or_len is_space line < length line
    → texts line ≡ before_first is_space line ∷ texts (after_first is_space line)
more_texts line some = slice_split_first is_space line 0 some

-- there is a last text
behind_first : (text : List ℕ) (more : List (List ℕ)) → 1 ≤ length more → behind_all (text ∷ more) ≡ cond (is_word text) (behind_all more) None
behind_first text [] h = absurd (omega arith)
behind_first text (next ∷ more) h = refl

-- what `split_once` gives
no_space : (line : List ℕ) (r : Option (Bor (List ℕ) × Bor (List ℕ))) → IsSplitOnceResult 32 line r
    → IfNone r (behind_all (texts line) ≡ Some line)
no_space line None h = ap behind_all (one_text line (split_once_first 32 line None h (omega arith)))
no_space line (Some parts) h = tt

first_space : (line : List ℕ) (r : Option (Bor (List ℕ) × Bor (List ℕ))) → IsSplitOnceResult 32 line r
    → IfSome r (λ parts. behind_all (texts line) ≡ cond (is_word parts.0.now) (behind_all (texts parts.1.now)) None)
first_space line None h = tt
first_space line (Some parts) h =
    let found = split_once_first 32 line (Some parts) h (omega arith) in
    rw (found.1, found.2) (ap behind_all (more_texts line found.0)
    ∙ behind_first (before_first is_space line) (texts (after_first is_space line)) (omega (arith, length-slice_split is_space (after_first is_space line))))

pub returns-clause-none : goal.returns-clause-none
returns-clause-none c = no_space c.args.line.now c.split_once.result c.split_once.ensures.cases

pub returns-clause-some : goal.returns-clause-some
returns-clause-some c = first_space c.args.line.now c.split_once.result c.split_once.ensures.cases
