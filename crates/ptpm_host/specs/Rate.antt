-- A bucket of tokens (this project's profile): how many it gets in a second, and how many it gives at once. It counts in
-- thousandths of a token, and in milliseconds.
use Rattle.std.specs.Prelude.{ℕ, ◌+◌, ◌-◌, ◌*◌, min, max, nat_le, Bool, if◌then◌else◌, ◌≤◌, List, [], ◌∷◌}
use Rattle.ptpm_host.specs.declared.rate.Rate.{Rate}

abbrev pub rate_of : Rate → ℕ
rate_of b = min b.rate 1000000

-- how much fits in the bucket
abbrev pub burst : Rate → ℕ
burst b = rate_of b * 1000

abbrev pub full : ℕ → ℕ → Rate
full tokens now = record { rate = min tokens 1000000; left = min tokens 1000000 * 1000; time = now }

-- what is in it at a time, with what the milliseconds since have brought
abbrev pub filled : Rate → ℕ → ℕ
filled b now = min (min b.left (burst b) + min (now - b.time) 1000 * rate_of b) (burst b)

abbrev pub has_token : Rate → ℕ → Bool
has_token b now = nat_le 1000 (filled b now)

abbrev pub taken : Rate → ℕ → Rate
taken b now = record { rate = b.rate; left = filled b now - (if has_token b now then 1000 else 0); time = max b.time now }

-- ---- what holds for a bucket that is asked at one time after another. From any of its states on it gives no more tokens than a
-- second's and those that the time since then has brought.

-- how many tokens it gives, and its state after that
abbrev pub given : Rate → List ℕ → ℕ
given b [] = 0
given b (now ∷ times) = (if has_token b now then 1 else 0) + given (taken b now) times

abbrev pub after : Rate → List ℕ → Rate
after b [] = b
after b (now ∷ times) = after (taken b now) times

-- in thousandths of a token
abbrev pub WithinRate : Type 0
WithinRate = (b : Rate) (times : List ℕ)
    → 1000 * given b times ≤ burst b + rate_of b * ((after b times).time - b.time)
