-- The identities of clocks, one after the other, as a text.
use Rattle.std.proofs.Common.{arith, ◌≡◌, ◌≤◌, refl, ℕ, List, [], ◌∷◌, ◌++◌, drop, length, take, rules, subst}
use Rattle.ptpm_members.specs.ValueText.{clocks_text, hexadecimal, space_before}
use Rattle.ptpm_members.proofs.value_text.+push_clocks.Goals as goal

first_clock : (octets : List ℕ) → 8 ≤ length octets
    → hexadecimal (take 8 octets) ++ space_before (drop 8 octets) ++ clocks_text (drop 8 octets) ≡ clocks_text octets
unfolding clocks_text
first_clock (a ∷ b ∷ c ∷ d ∷ e ∷ f ∷ g ∷ h ∷ more) long = refl
first_clock [] long = absurd (omega arith)
first_clock (a ∷ []) long = absurd (omega arith)
first_clock (a ∷ b ∷ []) long = absurd (omega arith)
first_clock (a ∷ b ∷ c ∷ []) long = absurd (omega arith)
first_clock (a ∷ b ∷ c ∷ d ∷ []) long = absurd (omega arith)
first_clock (a ∷ b ∷ c ∷ d ∷ e ∷ []) long = absurd (omega arith)
first_clock (a ∷ b ∷ c ∷ d ∷ e ∷ f ∷ []) long = absurd (omega arith)
first_clock (a ∷ b ∷ c ∷ d ∷ e ∷ f ∷ g ∷ []) long = absurd (omega arith)

pub returns-in-len8-up : goal.returns-in-len8-up
returns-in-len8-up g t c =
    let octets = c.args.octets.now in
    let clock : g.T.TextSink.pushed c.args.sink.now (hexadecimal (take 8 octets)) c.push_hexadecimal.new.sink = search rules in
    let space : g.T.TextSink.pushed c.push_hexadecimal.new.sink (space_before (drop 8 octets)) c.push_space.new.sink = search rules in
    let others : g.T.TextSink.pushed c.push_space.new.sink (clocks_text (drop 8 octets)) c.push_clocks.new.sink = search rules in
    subst (λ (text : List ℕ). g.T.TextSink.pushed c.args.sink.now text c.push_clocks.new.sink)
    (first_clock octets c.in-len8-up.len_at_least)
    (g.met.T.TextSink.pushed_twice _ _ _ _ _ (g.met.T.TextSink.pushed_twice _ _ _ _ _ clock space) others)
