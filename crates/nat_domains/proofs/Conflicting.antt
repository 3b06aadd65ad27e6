-- The conflict that counts, one tag after another.
use Rattle.std.proofs.Common.{◌≡◌, ℕ, ◌+◌, ◌<◌, ◌≤◌, ◌⊎◌, inl, inr, Bool, true, ◌&&◌, List, length, Option, None, Some, sym, subst, ◌∙◌, ⊎_elim, arith}
use Rattle.std.specs.Prelude.{◌↔◌, MatchOption}
use Rattle.std.proofs.lemmas.Bool.{and_parts, and_from, cases_eq, cases_lt, false≢true}
use Rattle.spoc_base.specs.declared.ids.ZoneId.{ZoneId}
use Rattle.policy_model.specs.Zones.{Site, zone_count}
use Rattle.policy_model.specs.Tags.{IsActive, IsBarred}
use Rattle.policy_model.specs.Faults.{IsConflicting}
use Rattle.nat_domains.specs.declared.table.Conflict.{Conflict}
use Rattle.nat_domains.specs.Marks.{is_marked}
use Rattle.nat_domains.specs.Places.{NonePasses, IsFirstPlace}
use Rattle.nat_domains.specs.Conflicts.{IsFirstConflict, IsZoneOfConflict, IsLeastConflict, HasNoConflict, IsConflictBelow}
use Rattle.nat_domains.proofs.Members.{marked_below}

module _ (s : Site) (tag : ℕ) where
  split_tag : (z t : ℕ) → t < tag + 1 → IsConflicting s t z → (IsConflicting s tag z × (t ≡ tag)) ⊎ (t < tag)
  split_tag z t low w = ⊎_elim (λ e. inl (subst (λ (x : ℕ). IsConflicting s x z) e w, e)) (λ ne. inr (omega (arith, low, ne))) (cases_eq t tag)

  pub kept_none : (known : Option Conflict) → IsConflictBelow s tag known → ((z : ℕ) → IsConflicting s tag z → ⊥) → IsConflictBelow s (tag + 1) known
  kept_none None old here = λ z t low w. ⊎_elim (λ a. here z a.0) (λ less. old z t less w) (split_tag z t low w)
  kept_none (Some c) old here =
      record {
        low = omega (arith, old.low);
        there = old.there;
        here = old.here;
        least = λ z t low w. ⊎_elim (λ a. absurd (here z a.0)) (λ less. old.least z t less w) (split_tag z t low w);
      }

  not_before : (zone z : ℕ) → IsFirstConflict s tag zone → IsConflicting s tag z → zone ≤ z
  not_before zone z first w = ⊎_elim (λ less. absurd (first.before z less w)) (λ high. high) (cases_lt z zone)

  pub kept_lower : (known early zone : ℕ) → IsLeastConflict s tag known early → IsFirstConflict s tag zone → known ≤ zone → IsLeastConflict s (tag + 1) known early
  kept_lower known early zone old first lower =
      record {
        low = omega (arith, old.low);
        there = old.there;
        here = old.here;
        least = λ z t low w. ⊎_elim (λ a. let h = not_before zone z first a.0 in (omega (arith, h, lower), λ e. omega (arith, old.low, a.1))) (λ less. old.least z t less w)
            (split_tag z t low w);
      }

  pub came_first : (zone : ℕ) → HasNoConflict s tag → IsFirstConflict s tag zone → IsLeastConflict s (tag + 1) zone tag
  came_first zone none first =
      record {
        low = omega arith;
        there = first.there;
        here = first.here;
        least = λ z t low w. ⊎_elim (λ a. (not_before zone z first a.0, λ e. omega (arith, a.1))) (λ less. absurd (none z t less w)) (split_tag z t low w);
      }

  pub came_lower : (known early zone : ℕ) → IsLeastConflict s tag known early → IsFirstConflict s tag zone → zone < known → IsLeastConflict s (tag + 1) zone tag
  came_lower known early zone old first lower =
      record {
        low = omega arith;
        there = first.there;
        here = first.here;
        least = λ z t low w. ⊎_elim (λ a. (not_before zone z first a.0, λ e. omega (arith, a.1)))
            (λ less. let h = (old.least z t less w).0 in (omega (arith, h, lower), λ e. absurd (omega (arith, e, h, lower)))) (split_tag z t low w);
      }

  module _ (active barred : List Bool) (count : ℕ) (long : length active ≡ count) (counted : zone_count s ≡ count)
      (act : (z : ℕ) → (is_marked active z ≡ true) ↔ IsActive s tag z) (bar : (z : ℕ) → (is_marked barred z ≡ true) ↔ IsBarred s tag z) where
    both : ℕ → Bool
    both z = is_marked active z && is_marked barred z

    both_marked : (z : ℕ) → IsConflicting s tag z → (both z ≡ true) × (z < count)
    unfolding both
    both_marked z w =
        let a = (act z).1 w.0 in let low = marked_below active z a in
        (and_from (is_marked active z) (is_marked barred z) a ((bar z).1 w.1), omega (arith, low, long))

    pub zone_found : (zone : Option ZoneId) →
        MatchOption zone (NonePasses (λ z. is_marked active z && is_marked barred z) 0 count) (λ z. IsFirstPlace (λ z. is_marked active z && is_marked barred z) 0 count z.0) →
        IsZoneOfConflict s tag zone
    unfolding both
    zone_found None none = λ z w. let m = both_marked z w in false≢true (sym (none.fails z (omega arith) m.1) ∙ m.0)
    zone_found (Some zone) place =
        let a = and_parts (is_marked active zone.0) (is_marked barred zone.0) place.passes in
        record {
          there = omega (arith, place.below, counted);
          here = ((act zone.0).0 a.0, (bar zone.0).0 a.1);
          before = λ z low w. let m = both_marked z w in false≢true (sym (place.before.fails z (omega arith) low) ∙ m.0);
        }
