-- What clauses see of blocks, and of the pairs that are kept.
use Rattle.std.specs.Prelude.{ℕ}
use Rattle.spoc_base.specs.declared.ids.ZoneId.{ZoneId}
use Rattle.policy_model.specs.Blocks as plain
use Rattle.zone_graph.specs.Grouped.{row_items}
use Rattle.permit_set.specs.declared.block.PairBlock.{PairBlock}
use Rattle.rule_distribute.specs.Placed.{Pairs}
use Rattle.rule_distribute.specs.declared.blocks.Joined.{Joined}

abbrev pub block_seen : PairBlock → plain.Block
block_seen b = record { pair = record { src = b.src.0; dst = b.dst.0 }; forward = b.forward; mirrored = b.mirrored; closed = b.closed }

abbrev pub pairs_seen : Joined → Pairs
pairs_seen j = record { pairs = j.pairs.items; forward = row_items j.forward.items; replied = row_items j.replied.items }

abbrev pub zones_seen : ZoneId × ZoneId → ℕ × ℕ
zones_seen z = (z.0.0, z.1.0)
