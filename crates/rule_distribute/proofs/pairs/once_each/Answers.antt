use Rattle.std.proofs.lemmas.List.Filters.{dedup_is}
use Rattle.rule_distribute.proofs.Tuples.{once_from}
use Rattle.rule_distribute.proofs.pairs.once_each.Goals as goal

pub returns : goal.returns
returns c =
    let is = dedup_is _ _ _ c.dedup.ensures.filtered in
    once_from c.args.pairs.now.items c.sort_unstable.new.self.items c.dedup.new.self.items c.sort_unstable.ensures.permutation c.sort_unstable.ensures.sorted is
