-- Places of a host in which nothing of a message is left.
use Rattle.std.specs.Prelude.{◌≡◌, ℕ, All, List, drop, take}
use Rattle.ptpm_host.specs.declared.sent.Sent.{Sent}

-- a place of zeros
pub record IsBlank (s : Sent) : Type 0 where
  pub port : s.port ≡ 0
  pub size : s.size ≡ 0
  pub octets : All (λ o. o ≡ 0) s.octets

-- the first places are blank, and the others are as they were
pub record AreBlanked (count : ℕ) (before after : List Sent) : Type 0 where
  pub first : All IsBlank (take count after)
  pub others : drop count after ≡ drop count before
