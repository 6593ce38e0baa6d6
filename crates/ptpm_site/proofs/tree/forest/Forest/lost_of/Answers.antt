-- Those between the two points are of the domain.
use Rattle.std.proofs.Common.{rules, ◌≡◌, ℕ, ap, refl, subst, sym}
use Rattle.std.proofs.lemmas.List.Elements.{All-contains_itself, All-weaker}
use Rattle.std.proofs.lemmas.List.Sorted.{IsPartitionPoint-from_clause, IsPartitionedBy-leb, IsPartitionedBy-ltb}
use Rattle.std.specs.List.{All, Contains}
use Rattle.ptpm_site.specs.declared.tree.forest.Lost.{Lost}
use Rattle.ptpm_site.specs.Forest.{AreByDomain}
use Rattle.ptpm_site.proofs.Parts.{all_between}
use Rattle.ptpm_site.proofs.tree.forest.Forest.lost_of.Goals as goal
use lib.Dec.{ltb, leb}
use Rattle.ptpm_site.specs.declared.reading.domain.Domain.{Domain}

abbrev domain_from : ℕ → Domain
domain_from n = record { 0 = n }

pub returns : goal.returns
returns c =
    let f = c.args.self.now in
    let xs = c.as_slice-lost.result.now in
    let from = c.partition_point-from.result in
    let to = c.partition_point-to.result in
    let ordered : AreByDomain xs = subst AreByDomain (sym c.as_slice-lost.ensures.value) f.by_domain in
    let each : All (Contains f.lost.items) xs = subst (All (Contains f.lost.items)) (sym c.as_slice-lost.ensures.value) (All-contains_itself f.lost.items) in
    let low = IsPartitionPoint-from_clause (λ (l : Lost). ltb l.domain.0 c.args.domain.0) xs from c.partition_point-from.ensures.partitioned
    (IsPartitionedBy-ltb (λ (l : Lost). l.domain.0) xs c.args.domain.0 ordered) (λ a r g k. search rules) in
    let high = IsPartitionPoint-from_clause (λ (l : Lost). leb l.domain.0 c.args.domain.0) xs to c.partition_point-to.ensures.partitioned
    (IsPartitionedBy-leb (λ (l : Lost). l.domain.0) xs c.args.domain.0 ordered) (λ a r g k. search rules) in
    All-weaker (λ (l : Lost). Contains f.lost.items l × (l.domain.0 ≡ c.args.domain.0)) (λ (l : Lost). (l.domain ≡ c.args.domain) × Contains f.lost.items l)
    (λ l both. (ap domain_from both.1, both.0)) c.unwrap_or.result.now
    (all_between (λ (l : Lost). l.domain.0) (Contains f.lost.items) xs c.args.domain.0 from to low high c.partition_point-to.ensures.bound each c.get.result _ c.unwrap_or.result
    c.unwrap_or.ensures c.get.ensures.lookup refl)
