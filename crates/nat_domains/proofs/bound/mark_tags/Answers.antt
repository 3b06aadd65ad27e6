use Rattle.std.proofs.Common.{◌≡◌, ◌∷◌, [], ◌<◌, ℕ, List, true, length, map, take, set, slice_index_or, subst, ⊎_elim, arith}
use Rattle.spoc_base.specs.declared.ids.TagId.{TagId}
use Rattle.policy_model.specs.Lists.{has}
use Rattle.nat_domains.specs.Marks.{is_marked}
use Rattle.nat_domains.proofs.Members.{has_either, has_one, one_more, marked_here, marks_grow}
use Rattle.nat_domains.proofs.Binding.{tag_in_marks}
use Rattle.nat_domains.proofs.bound.mark_tags.Goals as goal

pub bounds-marks-tag : goal.bounds-marks-tag
bounds-marks-tag c =
    let low = tag_in_marks (length c.args.marks.now) c.args.tags.now c.loop-tag.tag-index c.requires c.loop-tag-test.true in omega (arith, low, c.loop-tag.auto.marks)

pub loop-tag-preserved : goal.loop-tag-preserved
loop-tag-preserved c =
    let tags = c.args.tags.now in
    let k = c.loop-tag.tag-index in
    let at = (slice_index_or tags k (record { 0 = 0 })).0 in
    let low = tag_in_marks (length c.args.marks.now) tags k c.requires c.loop-tag-test.true in
    let there : at < length c.loop-tag.marks = omega (arith, low, c.loop-tag.auto.marks) in
    record {
      grown = λ t h. marks_grow c.loop-tag.marks at t there (c.loop-tag.invariant.grown t h);
      marked = λ t h.
          ⊎_elim (λ g. marks_grow c.loop-tag.marks at t there (c.loop-tag.invariant.marked t g))
          (λ g. subst (λ (x : ℕ). is_marked (set c.loop-tag.marks at true) x ≡ true) (has_one at t g) (marked_here c.loop-tag.marks at there))
          (has_either (map (λ (tag : TagId). tag.0) (take k tags)) (at ∷ []) t
          (subst (λ (xs : List ℕ). has xs t ≡ true) (one_more (λ (tag : TagId). tag.0) tags (record { 0 = 0 }) k c.loop-tag-test.true) h));
    }
