-- The place of a finding among those of its clock.
use Rattle.std.specs.Prelude.{ℕ}
use Rattle.ptpm_site.specs.declared.judging.finding.Finding.{Finding}
use Rattle.ptpm_site.specs.declared.judging.finding.What.{What}
use Rattle.ptpm_site.specs.declared.judging.finding.What.TheVariants as what
use Rattle.ptpm_expected.specs.declared.order.FindingKey.{FindingKey}

abbrev pub place_of : What → ℕ
place_of (what.Absent description) = 0
place_of what.Unexpected = 1
place_of (what.NotAsExpected unmet) = 2
place_of (what.OtherLeaders leaders) = 2
place_of (what.Profile outside) = 4
place_of (what.Incomplete missing) = 5
place_of (what.OutOfReach hops) = 5
place_of (what.GrandmasterChanged change) = 5
place_of (what.Changed port change) = 5
place_of (what.IdentityTwice twice) = 5
place_of _ = 3

-- by what findings are sorted: the clock, by domain and identity, and the place
abbrev pub finding_key : Finding → FindingKey
finding_key f = record { source = f.source; place = place_of f.what }
