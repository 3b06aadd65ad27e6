use Rattle.std.proofs.Common.{◌≡◌, ◌∙◌, ℕ, not, length, sym, ap, arith}
use Rattle.std.specs.Prelude.{Some}
use Rattle.std.proofs.lemmas.List.{length-map}
use Rattle.policy_model.specs.Filters.{line_meets}
use Rattle.dev_config.specs.Seen.{line_of}
use Rattle.local_optimise.specs.Keys.{action_key}
use Rattle.local_optimise.specs.Chained.{last_with}
use Rattle.local_optimise.specs.Held.{held_by, line_at, is_nearer, last_across}
use Rattle.local_optimise.proofs.Places.{fewer_steps}
use Rattle.local_optimise.proofs.Walks.{walk_begun, walk_on, walk_below, walk_found, walk_ended, walk_under}
use Rattle.local_optimise.proofs.Repeating.{action_keys, across_by_action, not_under, all_under}
use Rattle.local_optimise.proofs.remaining.Remaining.is_clear_above.Goals as goal

pub loop-cursor-init : goal.loop-cursor-init
loop-cursor-init c =
    let self = c.args.self.now in
    let held = held_by self.shelf in
    let line = c.args.line.now in
    let key = action_key (not line.permit) in
    let count : length self.actions.links.items ≡ length held = omega (arith, c.requires.count, length-map self.shelf.lines.items line_of) in
    walk_begun (action_keys held) key (λ i. line_meets (line_at held i) (line_of line)) (length held) c.last-cursor.result
    (c.last-cursor.ensures (action_keys held) c.requires.chained ∙ (ap (λ k. last_with (action_keys held) k (length self.actions.links.items)) c.of_action.ensures ∙ ap (last_with (action_keys held) key) count))

pub at-requires : goal.at-requires
at-requires c = let self = c.args.self.now in let p = c.loop-cursor.invariant.passing c.in-Some.place c.in-Some.is in omega (arith, p.below, length-map self.shelf.lines.items line_of)

pub before-cursor-requires : goal.before-cursor-requires
before-cursor-requires c =
    let self = c.args.self.now in let p = c.loop-cursor.invariant.passing c.in-Some.place c.in-Some.is in omega (arith, c.requires.count, p.below, length-map self.shelf.lines.items line_of)

pub returns-then-place-floor : goal.returns-then-place-floor
returns-then-place-floor c =
    let held = held_by c.args.self.now.shelf in
    let l = line_of c.args.line.now in
    sym (all_under c.args.floor (last_across l held) (λ j e. walk_under (action_keys held) (action_key (not l.permit)) (λ (i : ℕ). line_meets (line_at held i) l) (length held) c.in-Some.place j c.args.floor
    c.loop-cursor.cursor c.loop-cursor.invariant c.in-Some.is c.if-place-floor.true (across_by_action l held ∙ e)))

pub returns-then-is_meeting : goal.returns-then-is_meeting
returns-then-is_meeting c =
    let held = held_by c.args.self.now.shelf in
    let l = line_of c.args.line.now in
    sym (not_under c.args.floor (last_across l held) c.in-Some.place
    (sym (across_by_action l held) ∙ sym (walk_found (action_keys held) (action_key (not l.permit)) (λ (i : ℕ). line_meets (line_at held i) l) (length held) c.in-Some.place c.loop-cursor.cursor c.loop-cursor.invariant c.in-Some.is
    (ap (λ m. line_meets m l) (sym c.at.ensures) ∙ (sym c.is_meeting.ensures ∙ c.if-is_meeting.true)))) c.if-place-floor.false)

pub loop-cursor-preserved : goal.loop-cursor-preserved
loop-cursor-preserved c =
    let held = held_by c.args.self.now.shelf in
    let l = line_of c.args.line.now in
    walk_on (action_keys held) (action_key (not l.permit)) (λ (i : ℕ). line_meets (line_at held i) l) (length held) c.in-Some.place c.loop-cursor.cursor c.before-cursor.result c.loop-cursor.invariant c.in-Some.is
    (ap (λ m. line_meets m l) (sym c.at.ensures) ∙ (sym c.is_meeting.ensures ∙ c.if-is_meeting.false)) (c.before-cursor.ensures (action_keys held) c.requires.chained)

pub loop-cursor-smaller : goal.loop-cursor-smaller
loop-cursor-smaller c =
    let held = held_by c.args.self.now.shelf in
    let l = line_of c.args.line.now in
    fewer_steps c.loop-cursor.cursor c.before-cursor.result c.in-Some.place c.in-Some.is
    (λ j e. walk_below (action_keys held) (action_key (not l.permit)) (λ (i : ℕ). line_meets (line_at held i) l) (length held) c.in-Some.place j c.loop-cursor.cursor c.before-cursor.result c.loop-cursor.invariant c.in-Some.is
    (c.before-cursor.ensures (action_keys held) c.requires.chained) e)

pub returns : goal.returns
returns c =
    let held = held_by c.args.self.now.shelf in
    let l = line_of c.args.line.now in
    sym (ap (is_nearer (Some c.args.floor)) (sym (across_by_action l held) ∙ sym (walk_ended (action_keys held) (action_key (not l.permit)) (λ (i : ℕ). line_meets (line_at held i) l) (length held) c.loop-cursor.cursor c.loop-cursor.invariant c.in_default.is)))
