use Rattle.std.proofs.Common.{ℕ, List, length, map, ap, sym, subst, ◌∙◌}
use Rattle.std.specs.List.{All}
use Rattle.std.proofs.lemmas.Result.{IfOk-weaker}
use Rattle.topology.specs.View.{policy_of}
use Rattle.permit_lines.specs.Given.{site_with}
use Rattle.rule_distribute.specs.Nested.{AreNets, zones_of}
use Rattle.rule_distribute.specs.Pairs.{AreOnce}
use Rattle.rule_distribute.specs.Shown.{pairs_seen, zones_seen}
use Rattle.rule_distribute.proofs.Joining.{are_nets}
use Rattle.rule_distribute.proofs.ZonePairs.{zone_pairs_are}
use Rattle.rule_distribute.proofs.blocks.Joined.zone_pairs.Goals as goal

pub zones_once-requires : goal.zones_once-requires
zones_once-requires c =
    subst (λ (ps : List (ℕ × ℕ)). All (AreNets (length c.args.graph.now.zones)) ps) (sym c.deref.ensures.value)
    (are_nets (policy_of c.args.topo) (pairs_seen c.args.self.now) (length c.args.graph.now.zones) c.requires.rows c.requires.graph.table.each)

pub returns : goal.returns
returns c =
    let s = site_with (policy_of c.args.topo) c.args.graph.now in
    IfOk-weaker c.zones_once.result _ _
    (λ found once tags permits are.
    zone_pairs_are s tags permits c.requires.graph.table (map zones_seen found.items)
    (subst (λ (xs : List (ℕ × ℕ)). AreOnce xs (map zones_seen found.items)) (ap (λ (es : List (ℕ × ℕ)). map (zones_of c.args.graph.now.zones) es) (c.deref.ensures.value ∙ are.pairs)) once)) c.zones_once.ensures
