use Rattle.std.proofs.Common.{◌<◌, ◌≤◌, leb, leb-true, leb-false, arith, rules}
use Rattle.std.proofs.lemmas.List.Sorted.{IsPartitionPoint-from_clause, IsPartitionedBy-leb}
use Rattle.subnet_tree.proofs.Building.{nodes_ascend, each_low, each_high}
use Rattle.subnet_tree.proofs.nodes.end_at.Goals as goal

pub returns-clause-low : goal.returns-clause-low
returns-clause-low c =
    let parted = IsPartitionedBy-leb (λ node. node.prefix.net.0) _ c.args.a.0 (nodes_ascend c.args.nodes.now c.requires) in
    let point = IsPartitionPoint-from_clause (λ node. leb node.prefix.net.0 c.args.a.0) _ _ c.partition_point.ensures.partitioned parted (λ a r q k. search rules) in
    each_low (λ n. n ≤ c.args.a.0) c.args.nodes.now c.partition_point.result c.partition_point.ensures.bound (λ k d h. leb-true _ _ (point.0 k d (omega arith) h))

pub returns-clause-high : goal.returns-clause-high
returns-clause-high c =
    let parted = IsPartitionedBy-leb (λ node. node.prefix.net.0) _ c.args.a.0 (nodes_ascend c.args.nodes.now c.requires) in
    let point = IsPartitionPoint-from_clause (λ node. leb node.prefix.net.0 c.args.a.0) _ _ c.partition_point.ensures.partitioned parted (λ a r q k. search rules) in
    each_high (λ n. c.args.a.0 < n) c.args.nodes.now c.partition_point.result (λ k d low h. leb-false _ _ (point.1 k d low h))
