use Rattle.ptpm_codec.specs.Canonical.{canonical}
use Rattle.std.proofs.Common.{◌++◌}
use Rattle.ptpm_codec.proofs.CanonicalLaws.{canonical_round_trip, canonical_octets, canonical_size}
use Rattle.ptpm_codec.proofs.ReadingLaws.{spells-message_of}
use Rattle.ptpm_codec.proofs.laws.round_trip.Goals as goal

pub returns-clause-spells : goal.returns-clause-spells
returns-clause-spells c = canonical_round_trip

pub returns-clause-read : goal.returns-clause-read
returns-clause-read c = λ v rest valid fits. spells-message_of v (canonical v ++ rest) (canonical_round_trip v rest valid fits)

pub returns-clause-octets : goal.returns-clause-octets
returns-clause-octets c = canonical_octets

pub returns-clause-at_least : goal.returns-clause-at_least
returns-clause-at_least c = λ v valid fits. (canonical_size v valid fits).at_least

pub returns-clause-at_most : goal.returns-clause-at_most
returns-clause-at_most c = λ v valid fits. (canonical_size v valid fits).at_most
