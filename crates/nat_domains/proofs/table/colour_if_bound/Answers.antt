use Rattle.nat_domains.specs.Inner.{IsActiveIn, IsInnerTag}
use Rattle.nat_domains.specs.Marks.{site_of}
use Rattle.nat_domains.specs.Rows.{tag_rows}
use Rattle.nat_domains.proofs.Binding.{not_active, not_inner}
use Rattle.nat_domains.proofs.Listing.{lists_none}
use Rattle.nat_domains.proofs.table.colour_if_bound.Goals as goal

pub returns-then-not-bound-tag-clause-zones : goal.returns-then-not-bound-tag-clause-zones
returns-then-not-bound-tag-clause-zones c =
    let s = site_of c.args.topo c.args.graph.now in
    lists_none (IsActiveIn s) c.args.tag.0 (tag_rows c.args.zones.now) (not_active s c.args.tag.0 c.args.bound.now c.requires.bound c.if-not-bound-tag.true)

pub returns-then-not-bound-tag-clause-inner : goal.returns-then-not-bound-tag-clause-inner
returns-then-not-bound-tag-clause-inner c =
    let s = site_of c.args.topo c.args.graph.now in
    lists_none (IsInnerTag s) c.args.tag.0 (tag_rows c.args.inner.now) (not_inner s c.args.tag.0 c.args.bound.now c.requires.bound c.if-not-bound-tag.true)
