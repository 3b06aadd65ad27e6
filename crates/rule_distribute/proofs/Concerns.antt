-- The pairs on which what is placed depends, and their zones.
use Rattle.std.proofs.Common.{◌≡◌, ℕ, ◌<◌, Bool, true, false, not, ◌&&◌, List, length, refl, ap, arith}
use Rattle.std.specs.Prelude.{◌==◌}
use Rattle.std.specs.List.{list_any}
use Rattle.std.proofs.lemmas.Bool.{and_from, or_left, eq-eqb, not_from_false}
use Rattle.policy_model.specs.Lists.{numbers_below, pairs_of}
use Rattle.policy_model.specs.Policy.{all_nets}
use Rattle.policy_model.specs.Zones.{Site, IsSite, zone_of, zone_count}
use Rattle.policy_model.specs.Tags.{Views}
use Rattle.policy_model.specs.Permits.{Permit}
use Rattle.policy_model.specs.Blocks.{NetPair, all_pairs, is_joined, is_joined_pair, is_concerned, zone_pairs}
use Rattle.policy_model.proofs.AllWalks.{IsIn, in_map, in_filter, in_numbers, in_pairs, from_map}
use Rattle.list_laws.proofs.Members.{some_of}
use Rattle.policy_laws.proofs.InnerViews.{zone_below}
use Rattle.policy_laws.proofs.PermitLines.{from_pairs}
use Rattle.policy_laws.proofs.Placed.{from_numbers}
use Rattle.rule_distribute.specs.Concerned.{is_concerned_pair, concerned_pairs}

abbrev named : ℕ × ℕ → NetPair
named e = record { src = e.0; dst = e.1 }

pub below_count : (n k : ℕ) → IsIn k (numbers_below n) → k < n
below_count n k h = let w = (from_numbers 0 n k h).1 in omega (arith, w)

module _ (s : Site) where
  pub record AreThere (e : NetPair) : Type 0 where
    pub src : e.src < length s.policy.nets
    pub dst : e.dst < length s.policy.nets

  pub all_in : (e : ℕ × ℕ) → e.0 < length s.policy.nets → e.1 < length s.policy.nets → IsIn e (pairs_of (all_nets s.policy) (all_nets s.policy))
  all_in e a b = in_pairs e.0 e.1 (all_nets s.policy) (all_nets s.policy) (in_numbers (length s.policy.nets) e.0 a) (in_numbers (length s.policy.nets) e.1 b)

  pub pair_in : (e : NetPair) → AreThere e → IsIn e (all_pairs s.policy)
  pair_in e there = in_map named (e.src, e.dst) (pairs_of (all_nets s.policy) (all_nets s.policy)) (all_in (e.src, e.dst) there.src there.dst)

  pub pair_there : (e : NetPair) → IsIn e (all_pairs s.policy) → AreThere e
  pair_there e h =
      let w = from_map named e (pairs_of (all_nets s.policy) (all_nets s.policy)) h in
      let p = from_pairs (all_nets s.policy) (all_nets s.policy) w.0 w.1 in
      let a : e.src ≡ w.0.0 = ap (λ (x : NetPair). x.src) w.2 in
      let b : e.dst ≡ w.0.1 = ap (λ (x : NetPair). x.dst) w.2 in
      let u = below_count (length s.policy.nets) w.0.0 p.0 in
      let x = below_count (length s.policy.nets) w.0.1 p.1 in
      record { src = omega (arith, a, u); dst = omega (arith, b, x) }

module _ (s : Site) (v : Views) (permits : List Permit) where
  abbrev wanted : ℕ × ℕ → Bool
  wanted z = not (z.0 == z.1) && list_any (λ e. (zone_of s e.src == z.0) && (zone_of s e.dst == z.1) && is_concerned s v permits e) (all_pairs s.policy)

  -- the zones of such a pair
  pub concerned_listed : (e : NetPair) → IsSite s → AreThere s e → is_concerned s v permits e ≡ true → (zone_of s e.src == zone_of s e.dst) ≡ false → IsIn (zone_of s e.src, zone_of s e.dst) (zone_pairs s v permits)
  concerned_listed e site there concerned differ =
      let a = zone_of s e.src in
      let b = zone_of s e.dst in
      let n = zone_count s in
      let here = in_pairs a b (numbers_below n) (numbers_below n) (in_numbers n a (zone_below s site e.src there.src)) (in_numbers n b (zone_below s site e.dst there.dst)) in
      let test = and_from _ _ (and_from _ _ (eq-eqb a a refl) (eq-eqb b b refl)) concerned in
      in_filter wanted (a, b) (pairs_of (numbers_below n) (numbers_below n)) here
      (and_from _ _ (not_from_false (a == b) differ) (some_of (λ f. (zone_of s f.src == a) && (zone_of s f.dst == b) && is_concerned s v permits f) e (all_pairs s.policy) (pair_in s e there) test))

  -- networks of different zones that a permit joins
  pub joined_concerned : (e : ℕ × ℕ) → IsIn e (pairs_of (all_nets s.policy) (all_nets s.policy)) → is_joined permits (named e) ≡ true → (zone_of s e.0 == zone_of s e.1) ≡ false → is_concerned_pair s v permits (named e) ≡ true
  joined_concerned e here joined differ =
      let apart : not (zone_of s e.0 == zone_of s e.1) ≡ true = not_from_false (zone_of s e.0 == zone_of s e.1) differ in
      let pair : is_joined_pair s permits (named e) ≡ true = and_from (is_joined permits (named e)) (not (zone_of s e.0 == zone_of s e.1)) joined apart in
      and_from (not (zone_of s e.0 == zone_of s e.1)) (is_concerned s v permits (named e)) apart (or_left (is_joined_pair s permits (named e)) _ pair)

  abbrev test : ℕ × ℕ → Bool
  test e = is_concerned_pair s v permits (record { src = e.0; dst = e.1 })

  pub joined_listed : (e : ℕ × ℕ) → e.0 < length s.policy.nets → e.1 < length s.policy.nets → is_joined permits (named e) ≡ true → (zone_of s e.0 == zone_of s e.1) ≡ false → IsIn e (concerned_pairs s v permits)
  joined_listed e a b joined differ =
      let here = all_in s e a b in
      in_filter test e (pairs_of (all_nets s.policy) (all_nets s.policy)) here (joined_concerned e here joined differ)
