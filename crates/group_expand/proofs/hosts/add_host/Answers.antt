use Rattle.std.proofs.Common.{◌<◌, length, subst, ap, arith, refl}
use Rattle.std.specs.Prelude.{◌==◌}
use Rattle.std.proofs.lemmas.List.{length-map}
use Rattle.policy_model.specs.Policy.{host_of}
use Rattle.topology.specs.View.{policy_of}
use Rattle.zone_graph.specs.Grouped.{row_items}
use Rattle.group_expand.proofs.RowFilling.{put_in}
use Rattle.group_expand.proofs.hosts.add_host.Goals as goal

pub add-requires : goal.add-requires
add-requires c =
    let p = policy_of c.args.topo in
    let there = subst (λ h. h.net < length p.nets) c.host-host.ensures.seen (c.args.topo.kept.sound.numbered.hosts c.args.h c.requires.there) in
    omega (arith, there, c.requires.each)

pub returns : goal.returns
returns c =
    let p = policy_of c.args.topo in
    let there = subst (λ h. h.net < length p.nets) c.host-host.ensures.seen (c.args.topo.kept.sound.numbered.hosts c.args.h c.requires.there) in
    put_in (λ h. h.0) (row_items c.args.rows.now) (row_items c.add.new.rows) (λ w h. (host_of p h).net == w) c.args.h c.host-host.result.net.0 (record { 0 = c.args.h })
    (omega (arith, there, c.requires.each, length-map c.args.rows.now (λ r. r.items))) c.in_ok-add.ensures refl
    (λ w. ap (λ h. h.net == w) c.host-host.ensures.seen) c.requires.so_far
