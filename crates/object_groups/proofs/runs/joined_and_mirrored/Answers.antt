use Rattle.std.proofs.Common.{◌≡◌, ◌∙◌, ℕ, suc, ◌+◌, ◌-◌, List, [], ◌∷◌, ◌++◌, ap, map, take, drop, length, arith}
use Rattle.std.proofs.lemmas.List.{take_all, length-drop}
use Rattle.dev_config.specs.declared.setup.Line.{Line}
use Rattle.dev_config.specs.Seen.{line_of}
use Rattle.object_groups.proofs.RunSteps.{run_more}
use Rattle.object_groups.proofs.runs.joined_and_mirrored.Goals as goal

all_behind : (left : List Line) (k : ℕ) → take (length left - k) (drop k left) ≡ drop k left
all_behind left k = take_all (length left - k) (drop k left) (omega (arith, length-drop k left))

one_counted : (n : ℕ) → 1 + n ≡ suc n
one_counted n = omega arith

pub loop-first-preserved : goal.loop-first-preserved
loop-first-preserved c =
    let left = c.loop-first.left.now in
    let n = c.count_joinable-count.result in
    let k = 1 + n in
    let done = map line_of c.loop-first.joined.items in
    run_more c.args.lines.now left (take (length left - k) (drop k left)) c.in-Some.first.now c.in-Some.others.now n k done (map line_of c.push_line.new.lines.items) (line_of c.in_ok-line.line)
    c.in-Some.ensures.cases.0 (one_counted n) c.count_joinable-count.ensures.joinable c.count_joinable-count.ensures.longest (all_behind left k) c.in_ok-line.ensures
    (c.in_ok-push_line.ensures ∙ ap (λ y. done ++ y ∷ []) c.mirror.ensures) c.loop-first.invariant
