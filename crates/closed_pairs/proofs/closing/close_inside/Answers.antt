use Rattle.std.proofs.Common.{◌∙◌, ◌&&◌, map, take, ap, subst}
use Rattle.std.specs.Prelude.{slice_index_or}
use Rattle.std.proofs.lemmas.List.{take_all}
use Rattle.permit_set.specs.Shown.{permit_of}
use Rattle.nat_view.specs.Sights.{sight_of}
use Rattle.permit_lines.specs.Seen.{lines_of_covers}
use Rattle.closed_pairs.specs.Seen.{pair_seen, nets_seen}
use Rattle.closed_pairs.specs.Reaching.{encloses_in}
use Rattle.closed_pairs.specs.Flags.{enters, is_reached, same_nets, AreMarked}
use Rattle.closed_pairs.proofs.Marking.{mark_idle, mark_step, mark_end}
use Rattle.closed_pairs.proofs.closing.close_inside.Goals as goal

pub returns-then-is_idle : goal.returns-then-is_idle
returns-then-is_idle c =
    let sight = sight_of c.args.view in
    let outer = pair_seen c.args.outer.now in
    let idle = c.is_idle.ensures.0 c.if-is_idle.true in
    mark_idle sight.policy sight.tags (map permit_of c.args.permits.now) outer (encloses_in sight.policy sight.tags outer.pair) (map pair_seen c.args.pairs.now) c.args.flags.now idle.0 idle.1

pub loop-inner-preserved : goal.loop-inner-preserved
loop-inner-preserved c =
    let sight = sight_of c.args.view in
    let permits = map permit_of c.args.permits.now in
    let ps = map pair_seen c.args.pairs.now in
    let nets = nets_seen (slice_index_or c.deref-inner-items.result.now c.loop-inner.inner-index _) in
    let marked =
    subst (λ lines. AreMarked (λ e. same_nets nets e.pair && is_reached sight.policy sight.tags permits lines e) ps c.loop-inner.flags c.close_one.new.flags) (ap lines_of_covers c.deref.ensures.value ∙ c.in_ok-lines.ensures)
    c.in_ok-close_one.ensures in
    mark_step ps (enters sight.policy sight.tags permits (pair_seen c.args.outer.now)) c.deref-inner-items.result.now c.loop-inner.inner-index _ c.args.flags.now c.loop-inner.flags c.close_one.new.flags
    c.loop-inner-test.true c.loop-inner.invariant marked

pub returns : goal.returns
returns c =
    let sight = sight_of c.args.view in
    let outer = pair_seen c.args.outer.now in
    let nets = c.deref-inner-items.result.now in
    mark_end sight.policy (encloses_in sight.policy sight.tags outer.pair) (map pair_seen c.args.pairs.now) (enters sight.policy sight.tags (map permit_of c.args.permits.now) outer)
    (map nets_seen (take c.loop-inner.inner-index nets)) c.args.flags.now c.loop-inner.flags c.requires.given.there
    (ap (map nets_seen) (take_all c.loop-inner.inner-index nets c.loop-inner-test.false ∙ c.deref-inner-items.ensures.value) ∙ c.in_ok-inside.ensures) c.loop-inner.invariant
