use Rattle.std.proofs.Common.{ℕ, List, length, map, ap, subst, ◌∙◌}
use Rattle.std.proofs.lemmas.Result.{IfOk-weaker}
use Rattle.policy_model.specs.Blocks.{zone_pairs}
use Rattle.topology.specs.View.{policy_of}
use Rattle.nat_view.specs.Views.{seen_of}
use Rattle.permit_set.specs.Shown.{permit_of}
use Rattle.rule_distribute.specs.Concerned.{is_concerned_pair}
use Rattle.permit_lines.specs.Given.{site_with}
use Rattle.rule_distribute.specs.Nested.{zones_of}
use Rattle.rule_distribute.specs.Pairs.{AreOnce}
use Rattle.rule_distribute.specs.Shown.{zones_seen}
use Rattle.rule_distribute.proofs.AllConcerned.{as_long}
use Rattle.rule_distribute.proofs.ZonePairs.{zone_pairs_are}
use Rattle.rule_distribute.proofs.zones.zone_pairs.Goals as goal

pub zones_once-requires : goal.zones_once-requires
zones_once-requires c =
    let s = site_with (policy_of c.args.topo) c.args.graph.now in
    let v = (seen_of c.args.views.now).views in
    let permits = map permit_of c.args.permits.now in
    as_long (policy_of c.args.topo) (length c.args.graph.now.zones) c.requires.graph.table.each (λ (e : ℕ × ℕ). is_concerned_pair s v permits (record { src = e.0; dst = e.1 })) c.deref.result.now (c.deref.ensures.value ∙ c.in_ok-nets.ensures.pairs)

pub returns : goal.returns
returns c =
    let s = site_with (policy_of c.args.topo) c.args.graph.now in
    let v = (seen_of c.args.views.now).views in
    let permits = map permit_of c.args.permits.now in
    let same = ap (λ (es : List (ℕ × ℕ)). map (zones_of c.args.graph.now.zones) es) (c.deref.ensures.value ∙ c.in_ok-nets.ensures.pairs) in
    IfOk-weaker c.zones_once.result _ _ (λ found once. zone_pairs_are s v permits c.requires.graph.table (map zones_seen found.items) (subst (λ (xs : List (ℕ × ℕ)). AreOnce xs (map zones_seen found.items)) same once)) c.zones_once.ensures
