use Rattle.std.proofs.Common.{◌≡◌, ◌∙◌, ℕ, length, sym, ap, arith}
use Rattle.std.proofs.lemmas.List.{length-map}
use Rattle.policy_model.specs.Filters.{line_covers}
use Rattle.dev_config.specs.Seen.{line_of}
use Rattle.local_optimise.specs.Keys.{key_of}
use Rattle.local_optimise.specs.Chained.{last_with}
use Rattle.local_optimise.specs.Held.{held_by, line_at}
use Rattle.local_optimise.proofs.Places.{fewer_steps}
use Rattle.local_optimise.proofs.Walks.{walk_begun, walk_on, walk_below, walk_found, walk_ended}
use Rattle.local_optimise.proofs.shelf.Shelf.last_with.Goals as goal

pub loop-cursor-init : goal.loop-cursor-init
loop-cursor-init c =
    let self = c.args.self.now in
    let held = held_by self in
    let keys = λ (i : ℕ). key_of (line_at held i) in
    let count : length self.chains.links.items ≡ length held = omega (arith, c.requires.count, length-map self.lines.items line_of) in
    walk_begun keys c.args.key (λ i. line_covers (line_at held i) (line_of c.args.line.now)) (length held) c.last-cursor.result (c.last-cursor.ensures keys c.requires.chained ∙ ap (last_with keys c.args.key) count)

pub at-requires : goal.at-requires
at-requires c = let self = c.args.self.now in let p = c.loop-cursor.invariant.passing c.in-Some.place c.in-Some.is in omega (arith, p.below, length-map self.lines.items line_of)

pub before-cursor-requires : goal.before-cursor-requires
before-cursor-requires c =
    let self = c.args.self.now in let p = c.loop-cursor.invariant.passing c.in-Some.place c.in-Some.is in omega (arith, c.requires.count, p.below, length-map self.lines.items line_of)

pub returns-then-is_covering : goal.returns-then-is_covering
returns-then-is_covering c =
    let held = held_by c.args.self.now in
    let l = line_of c.args.line.now in
    walk_found (λ (i : ℕ). key_of (line_at held i)) c.args.key (λ (i : ℕ). line_covers (line_at held i) l) (length held) c.in-Some.place c.loop-cursor.cursor c.loop-cursor.invariant c.in-Some.is
    (ap (λ m. line_covers m l) (sym c.at.ensures) ∙ (sym c.is_covering.ensures ∙ c.if-is_covering.true))

pub loop-cursor-preserved : goal.loop-cursor-preserved
loop-cursor-preserved c =
    let held = held_by c.args.self.now in
    let l = line_of c.args.line.now in
    let keys = λ (i : ℕ). key_of (line_at held i) in
    walk_on keys c.args.key (λ (i : ℕ). line_covers (line_at held i) l) (length held) c.in-Some.place c.loop-cursor.cursor c.before-cursor.result c.loop-cursor.invariant c.in-Some.is
    (ap (λ m. line_covers m l) (sym c.at.ensures) ∙ (sym c.is_covering.ensures ∙ c.if-is_covering.false)) (c.before-cursor.ensures keys c.requires.chained)

pub loop-cursor-smaller : goal.loop-cursor-smaller
loop-cursor-smaller c =
    let held = held_by c.args.self.now in
    let l = line_of c.args.line.now in
    let keys = λ (i : ℕ). key_of (line_at held i) in
    fewer_steps c.loop-cursor.cursor c.before-cursor.result c.in-Some.place c.in-Some.is
    (λ j e. walk_below keys c.args.key (λ (i : ℕ). line_covers (line_at held i) l) (length held) c.in-Some.place j c.loop-cursor.cursor c.before-cursor.result c.loop-cursor.invariant c.in-Some.is (c.before-cursor.ensures keys c.requires.chained) e)

pub returns : goal.returns
returns c =
    let held = held_by c.args.self.now in
    walk_ended (λ (i : ℕ). key_of (line_at held i)) c.args.key (λ (i : ℕ). line_covers (line_at held i) (line_of c.args.line.now)) (length held) c.loop-cursor.cursor c.loop-cursor.invariant c.in_default.is
