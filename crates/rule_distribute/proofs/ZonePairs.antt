-- The zones of the pairs that matter.
use Rattle.std.proofs.Common.{◌≡◌, ℕ, Bool, true, not, ◌&&◌, List, map, refl, sym, ap, subst, ◌∙◌}
use Rattle.std.specs.Prelude.{◌==◌}
use Rattle.std.specs.List.{list_any}
use Rattle.std.proofs.lemmas.Bool.{and_parts, and_from, eqb-true, eq-eqb}
use Rattle.policy_model.specs.Lists.{numbers_below, pairs_of}
use Rattle.policy_model.specs.Zones.{Site, IsSite, zone_of, zone_count}
use Rattle.policy_model.specs.Tags.{Views}
use Rattle.policy_model.specs.Permits.{Permit}
use Rattle.policy_model.specs.Blocks.{NetPair, all_pairs, is_concerned, zone_pairs}
use Rattle.policy_model.proofs.AllWalks.{IsIn, in_map, in_filter, in_numbers, in_pairs, from_map}
use Rattle.list_laws.proofs.Members.{from_filter, some_in, some_of}
use Rattle.policy_laws.proofs.InnerViews.{zone_below}
use Rattle.rule_distribute.specs.Concerned.{is_concerned_pair, concerned_pairs}
use Rattle.rule_distribute.specs.Nested.{named, numbers_of, zones_of}
use Rattle.rule_distribute.specs.Pairs.{IsBefore, AreOnce}
use Rattle.rule_distribute.proofs.AllConcerned.{every_pair, nets_there, as_named, as_numbers}
use Rattle.rule_distribute.proofs.Rising.{rising_same, rises_by_places, contains_in, in_contains}
use Rattle.rule_distribute.proofs.Tuples.{before_apart, some_rise}

tuple_same : (a b c d : ℕ) → a ≡ c → b ≡ d → ◌≡◌ {A = ℕ × ℕ} (a, b) (c, d)
tuple_same a b c d e f = ap (λ (x : ℕ). let r : ℕ × ℕ = (x, b) in r) e ∙ ap (λ (x : ℕ). let r : ℕ × ℕ = (c, x) in r) f

module _ (s : Site) (v : Views) (permits : List Permit) (site : IsSite s) where
  abbrev nets : List (ℕ × ℕ)
  nets = concerned_pairs s v permits

  abbrev all : List (ℕ × ℕ)
  all = pairs_of (numbers_below (zone_count s)) (numbers_below (zone_count s))

  abbrev lies_in : ℕ × ℕ → NetPair → Bool
  lies_in z e = (zone_of s e.src == z.0) && (zone_of s e.dst == z.1) && is_concerned s v permits e

  abbrev wanted : ℕ × ℕ → Bool
  wanted z = not (z.0 == z.1) && list_any (lies_in z) (all_pairs s.policy)

  abbrev wanted_nets : ℕ × ℕ → Bool
  wanted_nets e = is_concerned_pair s v permits (record { src = e.0; dst = e.1 })

  listed : (e : ℕ × ℕ) → IsIn e nets → IsIn (zones_of s.zones e) (zone_pairs s v permits)
  listed e h =
      let a = zone_of s e.0 in
      let b = zone_of s e.1 in
      let n = zone_count s in
      let w = from_filter wanted_nets e (every_pair s.policy) h in
      let there = nets_there s.policy e w.0 in
      let t = and_parts (not (a == b)) (is_concerned s v permits (named e)) w.1 in
      let here = in_pairs a b (numbers_below n) (numbers_below n) (in_numbers n a (zone_below s site e.0 there.src)) (in_numbers n b (zone_below s site e.1 there.dst)) in
      let test = and_from _ _ (and_from _ _ (eq-eqb a a refl) (eq-eqb b b refl)) t.1 in
      in_filter wanted (a, b) all here (and_from _ _ t.0 (some_of (lies_in (a, b)) (named e) (all_pairs s.policy) (as_named s.policy e w.0) test))

  from_listed : (z : ℕ × ℕ) → IsIn z (zone_pairs s v permits) → IsIn z (map (zones_of s.zones) nets)
  from_listed z h =
      let w = from_filter wanted z all h in
      let x = and_parts (not (z.0 == z.1)) (list_any (lies_in z) (all_pairs s.policy)) w.1 in
      let f = some_in (lies_in z) (all_pairs s.policy) x.1 in
      let t = and_parts ((zone_of s f.0.src == z.0) && (zone_of s f.0.dst == z.1)) (is_concerned s v permits f.0) f.2 in
      let y = and_parts (zone_of s f.0.src == z.0) (zone_of s f.0.dst == z.1) t.0 in
      let a = eqb-true (zone_of s f.0.src) z.0 y.0 in
      let b = eqb-true (zone_of s f.0.dst) z.1 y.1 in
      let same = tuple_same (zone_of s f.0.src) (zone_of s f.0.dst) z.0 z.1 a b in
      let differ = subst (λ (e : ℕ × ℕ). not (e.0 == e.1) ≡ true) (sym same) x.0 in
      let kept = in_filter wanted_nets (numbers_of f.0) (every_pair s.policy) (as_numbers s.policy f.0 f.1) (and_from _ _ differ t.1) in
      subst (λ (e : ℕ × ℕ). IsIn e (map (zones_of s.zones) nets)) same (in_map (zones_of s.zones) (numbers_of f.0) nets kept)

  -- the pairs of zones that were found are those that are defined
  pub zone_pairs_are : (found : List (ℕ × ℕ)) → AreOnce (map (zones_of s.zones) nets) found → found ≡ zone_pairs s v permits
  zone_pairs_are found once =
      rising_same IsBefore before_apart found (zone_pairs s v permits) (rises_by_places IsBefore found once.order) (some_rise wanted (zone_count s) (zone_count s))
      (λ e i. let f = from_map (zones_of s.zones) e nets (contains_in (map (zones_of s.zones) nets) e (once.added e (in_contains found e i))) in
      subst (λ (x : ℕ × ℕ). IsIn x (zone_pairs s v permits)) (sym f.2) (listed f.0 f.1))
      (λ e i. contains_in found e (once.kept e (in_contains (map (zones_of s.zones) nets) e (from_listed e i))))
