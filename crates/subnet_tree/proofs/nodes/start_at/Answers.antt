use Rattle.std.proofs.Common.{◌<◌, ltb, ltb-true, arith, rules}
use Rattle.std.proofs.lemmas.List.Sorted.{IsPartitionPoint-from_clause, IsPartitionedBy-ltb}
use Rattle.subnet_tree.proofs.Building.{nodes_ascend, each_low}
use Rattle.subnet_tree.proofs.nodes.start_at.Goals as goal

pub returns-clause-low : goal.returns-clause-low
returns-clause-low c =
    let parted = IsPartitionedBy-ltb (λ node. node.prefix.net.0) _ c.args.a.0 (nodes_ascend c.args.nodes.now c.requires) in
    let point = IsPartitionPoint-from_clause (λ node. ltb node.prefix.net.0 c.args.a.0) _ _ c.partition_point.ensures.partitioned parted (λ a r q k. search rules) in
    each_low (λ n. n < c.args.a.0) c.args.nodes.now c.partition_point.result c.partition_point.ensures.bound (λ k d h. ltb-true _ _ (point.0 k d (omega arith) h))
