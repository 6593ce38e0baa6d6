use Rattle.std.proofs.Common.{◌≡◌, ℕ, List, ◌++◌, ap, append_assoc, codes, string_bytes, ◌∙◌}
use Rattle.ptpm_plan.specs.Asks.{line}
use Rattle.ptpm_plan.proofs.asks.push_standing.Goals as goal

three_more : (a b c none one two three : List ℕ) → one ≡ none ++ a → two ≡ one ++ b → three ≡ two ++ c
    → three ≡ none ++ ((a ++ b) ++ c)
three_more a b c none one two three is_a is_b is_c =
    is_c ∙ (ap (λ t. t ++ c) (is_b ∙ (ap (λ t. t ++ b) is_a ∙ append_assoc none a b)) ∙ append_assoc none (a ++ b) c)

pub returns : goal.returns
returns c =
    three_more (line c.args.domain (codes "DEFAULT_DATA_SET")) (line c.args.domain (codes "USER_DESCRIPTION"))
    (line c.args.domain (codes "PORT_DATA_SET")) (string_bytes c.args.text.now) _ _ _ c.in_ok-push_line.ensures
    c.in_ok-push_line-2.ensures c.in_ok-push_line-3.ensures
