use Rattle.std.proofs.Common.{ap, map, flat_map, sym, ◌∙◌, List, ◌++◌}
use Rattle.std.specs.Prelude.{option_map}
use Rattle.closed_pairs.specs.Reaching.{others_from}
use Rattle.spoc_base.specs.Shown.{cidr_of}
use Rattle.spoc_base.specs.declared.ids.NetId.{NetId}
use Rattle.nat_view.specs.Sights.{sight_of}
use Rattle.closed_pairs.specs.Seen.{nets_seen}
use Rattle.closed_pairs.proofs.Enclosed.{pushed_inside, none_in_source, none_in_destination}
use Rattle.closed_pairs.proofs.inside.pairs_inside.Goals as goal

pub returns-in_default : goal.returns-in_default
returns-in_default c =
    let sight = sight_of c.args.view in
    ap (map nets_seen) c.new-pairs.ensures.items ∙ sym (none_in_source sight.policy sight.tags (nets_seen (c.args.src, c.args.dst)) (sym c.seen_prefix.ensures ∙ ap (option_map cidr_of) c.in_default.is))

pub returns-in_default-seen_prefix : goal.returns-in_default-seen_prefix
returns-in_default-seen_prefix c =
    let sight = sight_of c.args.view in
    ap (map nets_seen) c.new-pairs.ensures.items ∙ sym (none_in_destination sight.policy sight.tags (nets_seen (c.args.src, c.args.dst)) (sym c.seen_prefix-2.ensures ∙ ap (option_map cidr_of) c.in_default-seen_prefix.is))

pub returns : goal.returns
returns c =
    let sight = sight_of c.args.view in
    let outer = nets_seen (c.args.src, c.args.dst) in
    let srcs = map (λ (n : NetId). n.0) c.deref.result.now in
    let dsts = map (λ (n : NetId). n.0) c.deref-2.result.now in
    let rows = flat_map (others_from outer dsts) srcs in
    pushed_inside sight.policy sight.tags outer (cidr_of c.in-Some.outer_src) (cidr_of c.in-Some-seen_prefix.outer_dst) (sym c.seen_prefix.ensures ∙ ap (option_map cidr_of) c.in-Some.is)
    (sym c.seen_prefix-2.ensures ∙ ap (option_map cidr_of) c.in-Some-seen_prefix.is) (map nets_seen c.push_rows.new.pairs.items) srcs dsts
    (ap (map (λ (n : NetId). n.0)) c.deref.ensures.value ∙ c.in_ok-srcs.ensures) (ap (map (λ (n : NetId). n.0)) c.deref-2.ensures.value ∙ c.in_ok-dsts.ensures)
    (c.in_ok-push_rows.ensures ∙ ap (λ (es : List (NetId × NetId)). map nets_seen es ++ rows) c.new-pairs.ensures.items)
