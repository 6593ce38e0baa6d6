-- What a formatter has taken of a text.
use Rattle.std.specs.Prelude.{◌≡◌, ℕ, List, ◌++◌, IsOk, []}
use Rattle.std.specs.Fmt.{HasWritten}
use Rattle.std.specs.declared.fmt.Formatter.{Formatter}
use Rattle.ptpm_members.specs.declared.formatted.Formatted.{Formatted}
use Rattle.std.proofs.Common.{◌∙◌, append-nil, append_assoc, refl, subst, sym}

-- t is s after this text. If no write failed, what was written at s from some formatter on is at t, followed by the
-- text.
pub record HasPushed {W : Type 0} (took : W → List ℕ → W → Type 0) (s : Formatted W) (text : List ℕ) (t : Formatted W) : Type 0 where
  pub same_reference : t.formatter.ghost_name ≡ s.formatter.ghost_name
  pub earlier : IsOk t.result → IsOk s.result
  pub written : IsOk t.result → (first : Formatter W) (done : List ℕ)
      → HasWritten took first done s.formatter.now
      → HasWritten took first (done ++ text) t.formatter.now

-- ---- what a formatter has taken of one text after another

pub has_pushed_none : {W : Type 0} (took : W → List ℕ → W → Type 0) (s : Formatted W) → HasPushed took s [] s
has_pushed_none took s = record {
  same_reference = refl;
  earlier = λ ok. ok;
  written = λ ok first done wrote.
      subst (λ (text : List ℕ). HasWritten took first text s.formatter.now) (sym (append-nil done)) wrote;
}

pub has_pushed_twice : {W : Type 0} (took : W → List ℕ → W → Type 0) (r s t : Formatted W) (a b : List ℕ)
    → HasPushed took r a s
    → HasPushed took s b t
    → HasPushed took r (a ++ b) t
has_pushed_twice took r s t a b one other = record {
  same_reference = other.same_reference ∙ one.same_reference;
  earlier = λ ok. one.earlier (other.earlier ok);
  written = λ ok first done wrote.
      subst (λ (text : List ℕ). HasWritten took first text t.formatter.now) (append_assoc done a b)
      (other.written ok first (done ++ a) (one.written (other.earlier ok) first done wrote));
}
