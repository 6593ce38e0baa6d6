-- Those between the two points follow the clock at the place.
use Rattle.std.proofs.Common.{rules, ◌≡◌, Some, None, get_or, refl, ap, subst, sym, ◌∙◌}
use Rattle.std.proofs.lemmas.List.Elements.{All-weaker}
use Rattle.std.proofs.lemmas.List.Sorted.{IsPartitionPoint-from_clause, IsPartitionedBy-leb, IsPartitionedBy-ltb}
use Rattle.ptpm_site.specs.declared.tree.forest.Follower.{Follower}
use Rattle.ptpm_site.specs.Forest.{AreFollowers, IsFollower}
use Rattle.ptpm_site.proofs.Parts.{all_between}
use Rattle.ptpm_site.proofs.tree.forest.Forest.followers_of.Goals as goal
use lib.Dec.{ltb, leb}

pub returns : goal.returns
returns c =
    let f = c.args.self.now in
    let xs = c.as_slice-followers.result.now in
    let from = c.partition_point-from.result in
    let to = c.partition_point-to.result in
    let are : AreFollowers f.followed.items xs = subst (AreFollowers f.followed.items) (sym c.as_slice-followers.ensures.value) f.followers_are in
    let low = IsPartitionPoint-from_clause (λ (x : Follower). ltb x.above c.args.place) xs from c.partition_point-from.ensures.partitioned
    (IsPartitionedBy-ltb (λ (x : Follower). x.above) xs c.args.place are.ordered) (λ a r g k. search rules) in
    let high = IsPartitionPoint-from_clause (λ (x : Follower). leb x.above c.args.place) xs to c.partition_point-to.ensures.partitioned
    (IsPartitionedBy-leb (λ (x : Follower). x.above) xs c.args.place are.ordered) (λ a r g k. search rules) in
    All-weaker (λ (x : Follower). IsFollower f.followed.items x × (x.above ≡ c.args.place)) (λ (x : Follower). get_or f.followed.items x.place None ≡ Some c.args.place)
    (λ x both. both.0 ∙ ap Some both.1) c.unwrap_or.result.now
    (all_between (λ (x : Follower). x.above) (IsFollower f.followed.items) xs c.args.place from to low high c.partition_point-to.ensures.bound are.follow c.get.result _ c.unwrap_or.result
    c.unwrap_or.ensures c.get.ensures.lookup refl)
