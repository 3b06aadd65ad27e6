use Rattle.std.proofs.Common.{◌∙◌, ◌<◌, ℕ, List, length, sym, ap, subst}
use Rattle.std.specs.Prelude.{slice_index}
use Rattle.topology.specs.View.{policy_of, sources_of}
use Rattle.permit_lines.specs.Given.{site_with}
use Rattle.rule_distribute.proofs.Calling.{first_there, zone_told}
use Rattle.rule_distribute.proofs.naming.zone_name.Goals as goal

pub net_name-requires : goal.net_name-requires
net_name-requires c =
    let p = policy_of c.args.topo in
    subst (λ (x : ℕ). x < length p.nets) (sym c.first_net.ensures) (first_there p c.args.graph.now c.requires.graph c.args.z.0 c.requires.there)

pub returns : goal.returns
returns c =
    zone_told (sources_of c.args.topo) (site_with (policy_of c.args.topo) c.args.graph.now) c.args.z.0 c.first_net.result.0 c.net_name.result c.span_of.result
    (c.first_net.ensures ∙ ap (λ (xs : List ℕ). slice_index xs 0) (c.requires.graph.nets_are c.args.z.0 c.requires.there)) c.net_name.ensures c.span_of.ensures
