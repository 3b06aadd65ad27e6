use Rattle.std.proofs.Common.{◌∙◌, ◌≤◌, sym, ap, refl, map, subst, length, arith}
use Rattle.std.proofs.lemmas.List.{length-map}
use Rattle.policy_model.specs.Grouped.{sources_joined, destinations_joined}
use Rattle.policy_model.specs.Laws.{IsJoinedUp}
use Rattle.list_laws.proofs.Grouping.{is_joined_up}
use Rattle.dev_config.specs.Seen.{line_of, lines_of}
use Rattle.object_groups.proofs.Turns.{after_turn, all_grouped}
use Rattle.object_groups.proofs.list.group.Goals as goal

pub loop-before-init : goal.loop-before-init
loop-before-init c =
    after_turn (lines_of c.args.list.now) (lines_of c.args.list.now) (map line_of c.in_ok-left.left.items) _ refl c.in_ok-left.ensures (sym (length-map c.args.list.now.lines.now line_of))

pub loop-before-preserved : goal.loop-before-preserved
loop-before-preserved c =
    let old = c.loop-before.left.items in
    let seen = ap (λ ls. destinations_joined (sources_joined (map line_of ls))) c.deref.ensures.value in
    after_turn (lines_of c.args.list.now) (map line_of old) (map line_of c.in_ok-left-2.left.items) c.len-before.result c.loop-before.invariant.alike (c.in_ok-left-2.ensures ∙ seen) (c.len-before.ensures ∙ (c.loop-before.left.ok.0 ∙ sym (length-map old line_of)))

pub returns-clause-joined : goal.returns-clause-joined
returns-clause-joined c =
    let all = lines_of c.args.list.now in
    let left = c.loop-before.left.items in
    let count = c.len.ensures ∙ (c.loop-before.left.ok.0 ∙ sym (length-map left line_of)) in
    let none_went : c.loop-before.before ≤ length (map line_of left) = omega (arith, count, c.loop-before-test.false) in
    let is = ap (map line_of) (c.in_ok-lines.ensures ∙ c.deref-2.ensures.value) ∙ all_grouped all (map line_of left) c.loop-before.before c.loop-before.invariant none_went in
    subst (IsJoinedUp all) (sym is) (is_joined_up all)
