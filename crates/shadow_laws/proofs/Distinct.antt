-- Where tags and views have no fault, prefixes are distinct.
use Rattle.std.proofs.Common.{ℕ, zero, suc, ◌<◌, ◌≤◌, List, [], ◌∷◌, length, map, sym, subst, arith}
use Rattle.std.specs.Prelude.{max, fold, slice_index}
use Rattle.std.proofs.lemmas.Bool.{false_from_ne_true, lt-ltb}
use Rattle.policy_model.specs.Policy.{Policy, net_at}
use Rattle.policy_model.specs.Zones.{IsSite, zone_at, zone_count}
use Rattle.policy_model.specs.Tags.{zone_view}
use Rattle.policy_model.specs.Faults.{is_same_prefix, is_translated_inside}
use Rattle.policy_model.specs.FirstFault.{NatInside, SamePrefix, AtZone}
use Rattle.policy_model.specs.Headline.{Meaning, IsMeaning}
use Rattle.policy_laws.specs.Shaped.{HasDistinctPrefixes}
use Rattle.topology.specs.First.{HasNone}
use Rattle.topology.specs.Sound.{IsSound}

above_start : (xs : List ℕ) (a : ℕ) → a ≤ fold max a xs
above_start [] a = omega arith
above_start (x ∷ xs) a = let h = above_start xs (max a x) in omega (arith, h)

below_count : (zones : List ℕ) (n a : ℕ) → n < length zones → slice_index zones n < fold max a (map suc zones)
below_count [] n a h = absurd (omega arith)
below_count (z ∷ zones) zero a h = let g = above_start (map suc zones) (max a (suc z)) in omega (arith, g)
below_count (z ∷ zones) (suc n) a h = below_count zones n (max a (suc z)) (omega arith)

module _ (m : Meaning) where
  -- the zone of an interface is one
  zone_there : IsSite m.site → IsSound m.site.policy → (i : ℕ) → i < length m.site.policy.ifaces → zone_at m.site i < zone_count m.site
  zone_there site sound i h =
      let below = (sound.numbered.placed i h).0 in
      let each = site.each in
      below_count m.site.zones (net_at m.site.policy i) 0 (omega (arith, below, each))

  distinct : IsSite m.site → IsSound m.site.policy → HasNone m 1 3 → HasNone m 4 6 → HasDistinctPrefixes m.site m.views
  distinct site sound tags views = record {
    apart = λ i n k below there.
        false_from_ne_true (is_same_prefix m.site.policy (zone_view m.views (zone_at m.site i)) n k)
        (λ t. views (SamePrefix n k (AtZone (zone_at m.site i))) (record { lower = omega arith; upper = omega arith })
        (there, lt-ltb (zone_at m.site i) (zone_count m.site) (zone_there site sound i below), t));
    inside = λ n tag there.
        false_from_ne_true (is_translated_inside m.site m.views n tag) (λ t. tags (NatInside n tag) (record { lower = omega arith; upper = omega arith }) (there, t));
  }

pub distinct_prefixes : (p : Policy) (m : Meaning) → IsMeaning p m → IsSound p → HasNone m 1 3 → HasNone m 4 6 → HasDistinctPrefixes m.site m.views
distinct_prefixes p m its sound tags views = distinct m its.zones (subst IsSound (sym its.policy) sound) tags views
