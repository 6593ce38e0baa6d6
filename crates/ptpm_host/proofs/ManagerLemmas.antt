-- The managers of a clock are few, and each is another.
use Rattle.std.proofs.Common.{arith, ◌≡◌, ◌<◌, ◌≤◌, nat_lt, true, false, ap, ◌∙◌, List, Some, None, length, if◌then◌else◌}
use Rattle.std.proofs.lemmas.Bool.Decides.{nat_tests}
use Rattle.std.proofs.lemmas.List.{length-map}
use Rattle.ptpm_codec.specs.declared.identity.PortIdentity.{PortIdentity}
use Rattle.ptpm_data.specs.declared.rights.Rights.{Rights}
use Rattle.ptpm_data.proofs.StartLemmas.{passes}
use Rattle.ptpm_host.specs.declared.settings.ManagerSettings.{ManagerSettings}
use Rattle.ptpm_host.specs.Settings.{configured, manager_of}
use Rattle.ptpm_table.specs.declared.error.TableError.TheVariants.{TooMany, Twice}
use Rattle.ptpm_table.specs.declared.managers.TheConstants.{MOST_MANAGERS}
use Rattle.ptpm_table.specs.Managers.{has_twice, identities, block_refusal}

pub too_many : (ms : List ManagerSettings)
    → MOST_MANAGERS < length ms
    → block_refusal (identities (configured ms)) ≡ Some TooMany
too_many ms h =
    let size = length-map (configured ms) (λ (m : _ × Rights). m.0) ∙ length-map ms manager_of in
    let many : nat_lt MOST_MANAGERS (length (identities (configured ms))) ≡ true = grind (arith, nat_tests) in
    ap (λ b. if b then Some TooMany else if has_twice (identities (configured ms)) then Some Twice else None) many

pub few : (ms : List ManagerSettings)
    → block_refusal (identities (configured ms)) ≡ None
    → length ms ≤ MOST_MANAGERS
few ms h =
    let size = length-map (configured ms) (λ (m : _ × Rights). m.0) ∙ length-map ms manager_of in
    let not_more : nat_lt MOST_MANAGERS (length (identities (configured ms))) ≡ false = (passes _ _ _ h).0 in
    grind (arith, nat_tests)

pub none_twice : (ms : List (PortIdentity × Rights))
    → block_refusal (identities ms) ≡ None
    → has_twice (identities ms) ≡ false
none_twice ms h = (passes _ _ _ (passes _ _ _ h).1).0
