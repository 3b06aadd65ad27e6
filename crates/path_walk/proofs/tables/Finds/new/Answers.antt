use Rattle.std.proofs.Common.{◌≡◌, ◌+◌, ◌==◌, ◌∙◌, not, ap, sym, subst, get_or, take}
use Rattle.std.proofs.lemmas.Bool.{eqb-true, eq-eqb, false≢true, not-false}
use Rattle.spoc_base.specs.declared.ids.ZoneId.{ZoneId}
use Rattle.path_walk.specs.Swept.{numbers_of}
use Rattle.path_walk.specs.Tables.{HasEnds, AreNew}
use Rattle.path_walk.proofs.Ends.{none_yet, inserted, looked_for}
use Rattle.path_walk.proofs.Wanted.{no_ends, ends_more, ends_same, one_more}
use Rattle.path_walk.proofs.tables.Finds.new.Goals.{then-ne+in_ok-insert+in-Some-1, then-ne+in_ok-insert+in-None-1, else-ne}
use Rattle.path_walk.proofs.tables.Finds.new.Goals as goal

pub loop-z-init : goal.loop-z-init
loop-z-init c = (no_ends c.args.from.0 c.new-ends.result c.new-ends.ensures.empty, none_yet c.args.from.0 (numbers_of c.args.wanted.now) c.new-ends.result c.new-ends.ensures.empty)

pub loop-z-preserved : goal.loop-z-preserved
loop-z-preserved c =
    let wanted = numbers_of c.args.wanted.now in
    let none : ZoneId = record { 0 = 0 } in
    let z = get_or c.args.wanted.now c.loop-z.z-index none in
    let before = numbers_of (take c.loop-z.z-index c.args.wanted.now) in
    let after = one_more c.args.wanted.now c.loop-z.z-index none c.loop-z-test.true in
    let keys = c.loop-z.invariant.0 in
    let marks = c.loop-z.invariant.1 in
    elim c.if-ne.branch [
      | then-ne+in_ok-insert+in-Some-1 w ↦
          let other = λ (e : c.args.from.0 ≡ z.0). false≢true (sym (w.if-ne.ensures ∙ ap not (eq-eqb z.0 c.args.from.0 (sym e)))) in (
            subst (λ e. HasEnds c.args.from.0 (numbers_of (take (c.loop-z.z-index + 1) c.args.wanted.now)) e) (sym w.ends-is)
                (subst (λ ns. HasEnds c.args.from.0 ns w.insert.new.self) (sym after) (ends_more c.args.from.0 before c.loop-z.ends w.insert.new.self z.0 w.new.result keys other w.in_ok-insert.ensures.updates.0)),
            subst (λ e. AreNew c.args.from.0 wanted e) (sym w.ends-is)
                (inserted c.args.from.0 wanted c.loop-z.ends w.insert.new.self z.0 w.new.result marks other (looked_for c.args.wanted.now c.loop-z.z-index none c.loop-z-test.true) w.new.ensures.crossings w.new.ensures.links w.in_ok-insert.ensures.updates.0),
          )
      | then-ne+in_ok-insert+in-None-1 w ↦
          let other = λ (e : c.args.from.0 ≡ z.0). false≢true (sym (w.if-ne.ensures ∙ ap not (eq-eqb z.0 c.args.from.0 (sym e)))) in (
            subst (λ e. HasEnds c.args.from.0 (numbers_of (take (c.loop-z.z-index + 1) c.args.wanted.now)) e) (sym w.ends-is)
                (subst (λ ns. HasEnds c.args.from.0 ns w.insert.new.self) (sym after) (ends_more c.args.from.0 before c.loop-z.ends w.insert.new.self z.0 w.new.result keys other w.in_ok-insert.ensures.updates.0)),
            subst (λ e. AreNew c.args.from.0 wanted e) (sym w.ends-is)
                (inserted c.args.from.0 wanted c.loop-z.ends w.insert.new.self z.0 w.new.result marks other (looked_for c.args.wanted.now c.loop-z.z-index none c.loop-z-test.true) w.new.ensures.crossings w.new.ensures.links w.in_ok-insert.ensures.updates.0),
          )
      | else-ne w ↦ (
        subst (λ e. HasEnds c.args.from.0 (numbers_of (take (c.loop-z.z-index + 1) c.args.wanted.now)) e) (sym w.ends-is)
            (subst (λ ns. HasEnds c.args.from.0 ns c.loop-z.ends) (sym after) (ends_same c.args.from.0 before c.loop-z.ends z.0 keys (sym (eqb-true z.0 c.args.from.0 (not-false (z.0 == c.args.from.0) (sym w.if-ne.ensures)))))),
        subst (λ e. AreNew c.args.from.0 wanted e) (sym w.ends-is) marks,
      )
    ]
