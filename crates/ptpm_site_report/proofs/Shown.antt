-- Where findings are shown one counts: it follows from no other.
use Rattle.std.proofs.Common.{◌≡◌, ◌<◌, ◌∙◌, ℕ, zero, suc, true, false, ◌||◌, ◌&&◌, if◌then◌else◌, List, [], ◌∷◌, Option, Some, None, length, map, refl, sym, ap, subst, arith}
use Rattle.std.proofs.lemmas.List.{length-map}
use Rattle.std.specs.List.{list_any}
use Rattle.ptpm_site.specs.declared.judging.finding.Finding.{Finding}
use Rattle.ptpm_site.specs.declared.reading.source.Source.{Source}
use Rattle.ptpm_causes.specs.declared.cause.Cause.{Cause}
use Rattle.ptpm_causes.specs.declared.kind.Severity.TheVariants as severities
use Rattle.ptpm_site_report.specs.declared.finding.remarks.Remark.{Remark}
use Rattle.ptpm_site_report.specs.declared.reporting.Conclusion.TheVariants as outcomes
use Rattle.ptpm_site_report.specs.Reporting.{concluded, counts, is_critical, outcome, standing, standing_by}
use Rattle.ptpm_causes.specs.Roots.{IsRoot}

-- the causes of the remarks are those that were given
pub rooted : (causes given : List (Option Cause)) (found : List Remark) (n : ℕ) → given ≡ causes → length causes ≡ n
    → (length given ≡ n → map (λ r. r.cause) found ≡ given) → (0 < length causes → (place : ℕ) × IsRoot causes place)
    → 0 < length found → (place : ℕ) × IsRoot (map (λ r. r.cause) found) place
rooted causes given found n value len told root some =
    let is : map (λ r. r.cause) found ≡ causes = told (ap length value ∙ len) ∙ value in
    let Has : List (Option Cause) → Type 0 = λ cs. (place : ℕ) × IsRoot cs place in
    let some_given : 0 < length causes = subst (λ (cs : List (Option Cause)). 0 < length cs) is (rw length-map some) in
    subst Has (sym is) (root some_given)

root_counts : (found : List Remark) (place : ℕ) → IsRoot (map (λ r. r.cause) found) place → list_any (λ r. counts r.cause) found ≡ true
root_counts [] place root = absurd (omega (arith, root.0))
root_counts (r ∷ rs) zero root = let e : r.cause ≡ None = root.1 None in rw e
root_counts (r ∷ rs) (suc place) root =
    let later : list_any (λ r. counts r.cause) rs ≡ true = root_counts rs place (omega (arith, root.0), λ d. root.1 d) in
    rw later (elim (counts r.cause) as (λ b. (b || true) ≡ true) [ true ↦ refl | false ↦ refl ])

agree_here : (sources : List Source) (found : List Remark) → (0 < length found → (place : ℕ) × IsRoot (map (λ r. r.cause) found) place)
    → concluded (standing sources found) ≡ outcome sources (map (λ r. r.finding.now) found)
agree_here [] found root = refl
agree_here (s ∷ ss) [] root = refl
agree_here (s ∷ ss) (r ∷ rs) root =
    let at : (place : ℕ) × IsRoot (map (λ q. q.cause) (r ∷ rs)) place = root (omega arith) in
    let e : list_any (λ q. counts q.cause) (r ∷ rs) ≡ true = root_counts (r ∷ rs) at.0 at.1 in
    elim (list_any (λ q. counts q.cause && is_critical q.severity) (r ∷ rs))
    as (λ v. concluded (standing_by (if v then Some severities.Critical else (if list_any (λ q. counts q.cause) (r ∷ rs) then Some severities.Warning else None))) ≡ outcomes.Findings)
    [ true ↦ refl | false ↦ rw e refl ]

pub agree : (sources : List Source) (found : List Remark) (findings : List Finding) → map (λ r. r.finding.now) found ≡ findings
    → (0 < length found → (place : ℕ) × IsRoot (map (λ r. r.cause) found) place) → concluded (standing sources found) ≡ outcome sources findings
agree sources found findings are root = agree_here sources found root ∙ ap (λ fs. outcome sources fs) are
