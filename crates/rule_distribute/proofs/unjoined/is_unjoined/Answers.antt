use Rattle.std.proofs.Common.{◌∙◌, sym, ap}
use Rattle.policy_model.specs.Lists.{is_nothing}
use Rattle.policy_model.specs.Zones.{zone_of}
use Rattle.topology.specs.View.{policy_of}
use Rattle.permit_lines.specs.Given.{site_with}
use Rattle.rule_distribute.specs.Paths.{crossing_seen}
use Rattle.rule_distribute.proofs.Marks.{no_walk}
use Rattle.rule_distribute.proofs.Nth.{nothing, nothing_seen}
use Rattle.rule_distribute.proofs.unjoined.is_unjoined.Goals as goal

pub returns : goal.returns
returns c =
    let s = site_with (policy_of c.args.topo) c.args.graph.now in
    let cs = c.crossings_of.result.now in
    c.is_empty.ensures ∙ (nothing cs ∙ (sym (nothing_seen crossing_seen cs) ∙ (ap is_nothing c.crossings_of.ensures ∙ no_walk s (zone_of s c.args.pair.0) (zone_of s c.args.pair.1))))
