use Rattle.std.proofs.Common.{◌<◌, [], length, ap, arith}
use Rattle.spoc_base.specs.declared.place.Kind.TheVariants as kind
use Rattle.spoc_base.specs.declared.place.Named.TheVariants.{Plain}
use Rattle.policy_model.specs.Policy.{Tag}
use Rattle.topology.specs.Seen.{tag_seen}
use Rattle.topology.specs.Told.{tag_name}
use Rattle.topology.specs.View.{policy_of, sources_of}
use Rattle.nat_domains.proofs.Calling.{as_long, name_told, seen_at}
use Rattle.nat_domains.proofs.naming.tag_name.Goals as goal

pub returns : goal.returns
returns c =
    let p = policy_of c.args.topo in
    let sources = sources_of c.args.topo in
    let k = c.args.tag.0 in
    let long = as_long (tag_seen sources) c.tags.result.now p.tags c.tags.ensures.seen in
    let there : k < length c.tags.result.now = omega (arith, c.requires, long) in
    name_told kind.Tag sources (tag_name p k) _ (c.tags.ensures.named k (record { name = Plain kind.Network (record { file = 0; start = 0; end = 0 }) }) there)
    (ap (λ (tag : Tag). tag.name)
    (seen_at (tag_seen sources) c.tags.result.now p.tags k (record { name = Plain kind.Network (record { file = 0; start = 0; end = 0 }) }) (record { name = [] }) c.tags.ensures.seen there))
