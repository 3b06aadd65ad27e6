use Rattle.std.proofs.Common.{ℕ, map, subst, sym, slice_index}
use Rattle.std.specs.List.{Contains}
use Rattle.rule_distribute.specs.Paths.{zones_named}
use Rattle.rule_distribute.proofs.unjoined.lacks.Goals as goal

pub is_unjoined-requires-clause-named : goal.is_unjoined-requires-clause-named
is_unjoined-requires-clause-named c =
    let zones = c.args.graph.now.zones in
    subst (λ (e : ℕ × ℕ). Contains (map zones_named c.args.tables.now) (slice_index zones e.0, slice_index zones e.1)) (sym c.nets_of-pair.ensures) (c.requires.named.named c.args.w c.requires.below)
