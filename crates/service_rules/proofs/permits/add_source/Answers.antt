use Rattle.std.proofs.Common.{map, flat_map, refl}
use Rattle.spoc_base.specs.Shown.{box_of}
use Rattle.permit_set.specs.Shown.{end_of, permit_of}
use Rattle.service_rules.specs.Ends.{pair_permits}
use Rattle.service_rules.proofs.Rules.{more_behind, all_behind}
use Rattle.service_rules.proofs.permits.add_source.Goals as goal

pub loop-dst-preserved : goal.loop-dst-preserved
loop-dst-preserved c =
    more_behind (λ l. flat_map (pair_permits (map box_of c.args.boxes.now) (end_of c.args.src)) (map end_of l)) (λ e. pair_permits (map box_of c.args.boxes.now) (end_of c.args.src) (end_of e))
    (λ e l. refl) c.args.dsts.now c.loop-dst.dst-index c.dst-item.result (map permit_of c.loop-dst.found.items) (map permit_of c.add_pair.new.found.items) _ c.loop-dst-test.true c.dst-item.is c.in_ok-add_pair.ensures c.loop-dst.invariant

pub returns : goal.returns
returns c =
    all_behind (λ l. flat_map (pair_permits (map box_of c.args.boxes.now) (end_of c.args.src)) (map end_of l)) c.args.dsts.now c.loop-dst.dst-index (map permit_of c.loop-dst.found.items) _ refl
    c.loop-dst-test.false c.loop-dst.invariant
