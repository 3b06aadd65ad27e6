use Rattle.std.proofs.Common.{map, flat_map, refl}
use Rattle.spoc_base.specs.Shown.{box_of}
use Rattle.permit_set.specs.Shown.{end_of, permit_of}
use Rattle.service_rules.specs.Ends.{all_permits, pair_permits}
use Rattle.service_rules.proofs.Rules.{more_behind, all_behind}
use Rattle.service_rules.proofs.permits.add_all.Goals as goal

pub loop-src-preserved : goal.loop-src-preserved
loop-src-preserved c =
    more_behind (λ l. all_permits (map end_of l) (map end_of c.args.dsts.now) (map box_of c.args.boxes.now))
    (λ e. flat_map (pair_permits (map box_of c.args.boxes.now) (end_of e)) (map end_of c.args.dsts.now))
    (λ e l. refl) c.args.srcs.now c.loop-src.src-index c.src-item.result (map permit_of c.loop-src.found.items) (map permit_of c.add_source.new.found.items) _ c.loop-src-test.true c.src-item.is c.in_ok-add_source.ensures c.loop-src.invariant

pub returns : goal.returns
returns c =
    all_behind (λ l. all_permits (map end_of l) (map end_of c.args.dsts.now) (map box_of c.args.boxes.now)) c.args.srcs.now c.loop-src.src-index (map permit_of c.loop-src.found.items) _ refl
    c.loop-src-test.false c.loop-src.invariant
