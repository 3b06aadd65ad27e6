-- Tags that interfaces bind, and tags that none binds.
use Rattle.std.proofs.Common.{◌≡◌, ℕ, ◌+◌, ◌<◌, Bool, true, false, List, length, map, refl, sym, subst, ◌∙◌, ⊎_elim, arith}
use Rattle.std.specs.Prelude.{nat_lt, slice_index, slice_index_or, IsTrue}
use Rattle.std.proofs.lemmas.Bool.{ltb-true, false≢true, cases_eq}
use Rattle.std.proofs.lemmas.List.{length-map}
use Rattle.spoc_base.specs.declared.ids.TagId.{TagId}
use Rattle.policy_model.specs.Policy.{iface_of}
use Rattle.policy_model.specs.Policy.{Policy}
use Rattle.policy_model.specs.Zones.{Site, zone_at}
use Rattle.policy_model.specs.Tags.{binds, IsActive}
use Rattle.topology.specs.Sound.{are_below}
use Rattle.nat_domains.specs.Bound.{HasMarked, AreBoundMarked}
use Rattle.nat_domains.specs.Inner.{IsInnerTag}
use Rattle.nat_domains.specs.Marks.{is_marked}
use Rattle.nat_domains.proofs.Members.{has_at, at_row}
use Rattle.nat_domains.proofs.Viewed.{all_in}

pub below_at : (count : ℕ) (xs : List ℕ) (k : ℕ) → IsTrue (are_below count xs) → k < length xs → slice_index xs k < count
below_at count xs k all h = ltb-true (slice_index xs k) count (all_in (λ n. nat_lt n count) xs (slice_index xs k) all (has_at xs k h))

pub tag_in_marks : (count : ℕ) (tags : List TagId) (k : ℕ) → IsTrue (are_below count (map (λ tag. tag.0) tags)) → k < length tags → (slice_index_or tags k (record { 0 = 0 })).0 < count
tag_in_marks count tags k all h =
    let long = length-map tags (λ (tag : TagId). tag.0) in
    let low = below_at count (map (λ (tag : TagId). tag.0) tags) k all (omega (arith, h, long)) in
    subst (λ (x : ℕ). x < count) (sym (at_row (λ (tag : TagId). tag.0) tags (map (λ (tag : TagId). tag.0) tags) (record { 0 = 0 }) refl k)) low

pub one_more_bound : (p : Policy) (i : ℕ) (marks new : List Bool) → HasMarked (iface_of p i).binds marks new → AreBoundMarked p i marks → AreBoundMarked p (i + 1) new
one_more_bound p i marks new more old =
    record {
      marked = λ j tag low bound. ⊎_elim (λ e. more.marked tag (subst (λ (x : ℕ). binds p x tag ≡ true) e bound)) (λ ne. more.grown tag (old.marked j tag (omega (arith, low, ne)) bound)) (cases_eq j i);
    }

module _ (s : Site) (tag : ℕ) (marks : List Bool) (bound : AreBoundMarked s.policy (length s.policy.ifaces) marks) (none : is_marked marks tag ≡ false) where
  pub not_active : (z : ℕ) → IsActive s tag z → ⊥
  not_active z a = false≢true (sym none ∙ bound.marked a.iface tag a.there a.bound)

  pub not_inner : (r : ℕ) → IsInnerTag s r tag → ⊥
  not_inner r w = not_active (zone_at s w.iface) w.active
