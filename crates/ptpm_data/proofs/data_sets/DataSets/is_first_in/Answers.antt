use Rattle.std.proofs.Common.{◌≡◌, ◌∙◌, ◌++◌, ℕ, List, ap, drop, length, subst, sym}
use Rattle.std.proofs.lemmas.Bool.Decides.{Decides-eqb}
use Rattle.std.proofs.lemmas.Slice.Eq.{starts_is}
use Rattle.ptpm_data.specs.Image.{data_sets_octets}
use Rattle.ptpm_data.proofs.data_sets.DataSets.is_first_in.Goals as goal

pub returns : goal.returns
returns c =
    let octets = c.args.octets.now in
    let own : List ℕ = data_sets_octets c.args.self.now in
    let rest : List ℕ = drop (length own) octets in
    let image : c.as_slice.result.now ≡ own = c.as_slice.ensures.value ∙ c.image.ensures in
    let starts = starts_is Decides-eqb octets c.as_slice.result.now c.starts_with.result c.starts_with.ensures.value in (
      (λ yes. subst (λ (xs : List ℕ). octets ≡ xs ++ drop (length xs) octets) image (starts.0 yes)),
      (λ begins. starts.1 rest (begins ∙ ap (λ (xs : List ℕ). xs ++ rest) (sym image))),
    )
