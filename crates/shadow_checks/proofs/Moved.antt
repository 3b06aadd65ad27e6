-- Which own addresses of a network lie at another, told by where they lie in the view.
use Rattle.std.proofs.Common.{◌≡◌, ◌≢◌, ℕ, ◌+◌, ◌-◌, ◌^◌, ◌<◌, ◌≤◌, Bool, true, false, cond, List, length, map, refl, sym, ap, subst, ◌∙◌, arith}
use Rattle.std.specs.Prelude.{nat_le, Option, Some, None, option_map, slice_index_or, IsTrue, MatchOption}
use Rattle.std.specs.Option.{option_and_then}
use Rattle.std.proofs.lemmas.Bool.{and_from, and_parts, le-leb, leb-true, false≢true}
use Rattle.std.specs.List.Sorted.{IsStrictlyIncreasing}
use Rattle.std.specs.List.{All}
use Rattle.std.proofs.lemmas.List.{length-map}
use Rattle.std.proofs.Math.ListN.{get_or-map}
use Rattle.std.proofs.lemmas.List.Kept.{IsStrictlyIncreasing-filter}
use Rattle.std.proofs.Math.Pow.{pow_pos}
use Rattle.spoc_base.specs.Address.{Cidr, Interval, size_of, addresses, within, interval_covers, prefix_holds}
use Rattle.spoc_base.specs.declared.ids.NetId.{NetId}
use Rattle.policy_model.specs.Policy.{Policy, net_of, all_nets}
use Rattle.policy_model.specs.Places.{prefix_in, place, moved, moved_range, range_in, to_view, translated_address}
use Rattle.policy_model.specs.Permits.{one_address}
use Rattle.policy_model.specs.Blocks.{is_part_of}
use Rattle.policy_model.specs.Faults.{IsShadowed}
use Rattle.policy_model.proofs.AllWalks.{IsIn, in_filter, in_numbers}
use Rattle.list_laws.proofs.Nesting.{holds_from}
use Rattle.policy_laws.proofs.Members.{from_filter}
use Rattle.policy_laws.proofs.PermitLines.{in_at}
use Rattle.policy_laws.proofs.Placed.{below_count, placed_at, held_by, seen_as, round_place}
use Rattle.nat_view.specs.Seen.{AreApartIn, nets_within}
use Rattle.shadow_checks.specs.Lying.{HaveNets}
use Rattle.shadow_checks.specs.Shadows.{HasNoShadow, IsLeastShadow, IsOther, IsOtherPlace, IsFirstOf, NoneBefore}
use Rattle.shadow_checks.proofs.Choosing.{match_weaker, numbers_rise, none_in, first_least}
use Rattle.shadow_checks.proofs.Walking.{held_of, no_pair}

record AreEnds (r : Interval) (a : ℕ) : Type 0 where
  low : r.first ≤ a
  high : a ≤ r.last

ends_of : (r : Interval) (a : ℕ) → IsTrue (within r a) → AreEnds r a
ends_of r a h = let w = and_parts (nat_le r.first a) (nat_le a r.last) h in record { low = leb-true r.first a w.0; high = leb-true a r.last w.1 }

within_of : (r : Interval) (a : ℕ) → AreEnds r a → IsTrue (within r a)
within_of r a w = and_from (nat_le r.first a) (nat_le a r.last) (le-leb r.first a w.low) (le-leb a r.last w.high)

-- the networks inside are those of the policy
pub all_below : (p : Policy) (view : List ℕ) (q : Cidr) (ids : List NetId) → map (λ m. m.0) ids ≡ nets_within p view q → All (λ m. m.0 < length p.nets) ids
all_below p view q ids listed k d h =
    let test = λ (n : ℕ). is_part_of (prefix_in p view n) (Some q) in
    let one = in_at (map (λ (m : NetId). m.0) ids) d.0 k (omega (arith, h, length-map ids (λ (m : NetId). m.0))) in
    let at = get_or-map (λ (m : NetId). m.0) ids k d in
    below_count p (slice_index_or ids k d).0 (from_filter test (slice_index_or ids k d).0 (all_nets p) (subst (IsIn (slice_index_or ids k d).0) listed (subst (λ (n : ℕ). IsIn n (map (λ (m : NetId). m.0) ids)) at one))).0

pub some_is : {A : Type 0} (x y : A) → Some x ≡ Some y → x ≡ y
some_is x y e = cc e

module _ (p : Policy) (view : List ℕ) (nets : HaveNets p) (apart : AreApartIn p view) (n : ℕ) (r seen : Interval) (here : Cidr) (there : n < length p.nets)
    (ordered : r.first ≤ r.last) (inside : IsTrue (interval_covers (addresses (net_of p n).own) r)) (its : prefix_in p view n ≡ Some here) (is : range_in p view n r ≡ Some seen) where
  abbrev own : Cidr
  own = (net_of p n).own

  seen_is : moved_range own here r ≡ seen
  seen_is = some_is (moved_range own here r) seen (sym (ap (option_map (λ q. moved_range own q r)) its) ∙ is)

  record AreCovered : Type 0 where
    low : own.net ≤ r.first
    high : r.last ≤ own.net + (size_of own - 1)

  covered : AreCovered
  covered =
      let w = and_parts (nat_le own.net r.first) (nat_le r.last (own.net + (size_of own - 1))) inside in
      record { low = leb-true own.net r.first w.0; high = leb-true r.last (own.net + (size_of own - 1)) w.1 }

  lies : (a : ℕ) → option_and_then (place p view) (translated_address p view n a) ≡ place p view (moved own here a)
  lies a = ap (λ o. option_and_then (place p view) (option_map (λ q. moved own q a) o)) its

  first_seen : seen.first ≡ here.net + (r.first - own.net)
  first_seen = sym (ap (λ (i : Interval). i.first) seen_is)

  last_seen : seen.last ≡ here.net + (r.last - own.net)
  last_seen = sym (ap (λ (i : Interval). i.last) seen_is)

  other_of : (m : ℕ) → IsShadowed p view n r m → IsOther p view n seen m
  other_of m w =
      let e = ends_of r w.address w.inside in
      record {
        differs = w.elsewhere;
        here = record {
          address = moved own here w.address;
          inside = within_of seen (moved own here w.address) (record { low = omega (arith, first_seen, e.low); high = omega (arith, last_seen, e.high) });
          placed = sym (lies w.address) ∙ w.placed;
        };
      }

  shadow_of : (m : ℕ) → IsOther p view n seen m → IsShadowed p view n r m
  shadow_of m w =
      let b = w.here.address in
      let e = ends_of seen b w.here.inside in
      let c = covered in
      let a = own.net + (b - here.net) in
      let back : moved own here a ≡ b = omega (arith, first_seen, e.low) in
      record {
        address = a;
        inside = within_of r a (record { low = omega (arith, first_seen, e.low, c.low); high = omega (arith, last_seen, first_seen, e.low, e.high, c.low, ordered) });
        placed = lies a ∙ (ap (place p view) back ∙ w.here.placed);
        elsewhere = w.differs;
      }

  -- a network at which an address of the range is placed is inside
  near : (m : ℕ) → IsOther p view n seen m → IsIn m (nets_within p view here)
  near m w =
      let b = w.here.address in
      let e = ends_of seen b w.here.inside in
      let c = covered in
      let own_seen = seen_as p view n here (nets n there) its in
      let same : size_of here ≡ size_of own = ap (λ k. 2 ^ (32 - k)) own_seen.length in
      let some = pow_pos (32 - own.len) in
      let held = held_of p view n b here its ∙ holds_from here b (omega (arith, first_seen, e.low)) (omega (arith, last_seen, e.high, c.high, same, some)) in
      let placed = placed_at p view b m w.here.placed in
      let round =
      round_place p view b m n (no_pair p view nets apart) placed (held_by p view m b (nets m placed.below) placed.holds) there held (held_by p view n b (nets n there) held) in
      in_filter (λ k. is_part_of (prefix_in p view k) (Some here)) m (all_nets p) (in_numbers (length p.nets) m placed.below)
      (subst (λ o. is_part_of (prefix_in p view m) o ≡ true) its round.part)

  -- ---- several addresses

  module _ (near_nets : List ℕ) (listed : near_nets ≡ nets_within p view here) where
    none_near : (count : ℕ) → count ≡ length near_nets → NoneBefore (IsOther p view n seen) near_nets count → HasNoShadow p view n r
    none_near count long none m w =
        let o = other_of m w in none_in (IsOther p view n seen) near_nets count m long none (subst (IsIn m) (sym listed) (near m o)) o

    least_near : (m : ℕ) → IsFirstOf (IsOther p view n seen) near_nets m → IsLeastShadow p view n r m
    least_near m first =
        record {
          there = shadow_of m first.has;
          least = λ k w.
              let o = other_of k w in
              first_least (IsOther p view n seen) near_nets m k
              (subst IsStrictlyIncreasing (sym listed) (IsStrictlyIncreasing-filter (λ j. is_part_of (prefix_in p view j) (Some here)) (all_nets p) (numbers_rise (length p.nets)))) first
              (subst (IsIn k) (sym listed) (near k o)) o;
        }

    pub of_near : (o : Option NetId) (count : ℕ) → count ≡ length near_nets → MatchOption o (NoneBefore (IsOther p view n seen) near_nets count) (λ m. IsFirstOf (IsOther p view n seen) near_nets m.0) →
        MatchOption o (HasNoShadow p view n r) (λ m. IsLeastShadow p view n r m.0)
    of_near o count long h =
        match_weaker (NoneBefore (IsOther p view n seen) near_nets count) (HasNoShadow p view n r) (λ (m : NetId). IsFirstOf (IsOther p view n seen) near_nets m.0) (λ (m : NetId). IsLeastShadow p view n r m.0) o
        (none_near count long) (λ m first. least_near m.0 first) h

-- ---- hidden networks

-- a hidden network has no address
pub none_hidden : (p : Policy) (view : List ℕ) (n : ℕ) (r : Interval) → None ≡ prefix_in p view n → HasNoShadow p view n r
none_hidden p view n r hidden m w = nowhere (moved_as w.address) (ap (λ o. option_and_then (place p view) (option_map (moved_as w.address) o)) hidden ∙ w.placed)
  where
    moved_as : ℕ → Cidr → ℕ
    moved_as a seen = moved (net_of p n).own seen a

    nowhere : (f : Cidr → ℕ) → option_and_then (place p view) (option_map f None) ≡ Some m → ⊥
    nowhere f e = cc e

pub no_range : (p : Policy) (view : List ℕ) (n : ℕ) (r : Interval) → None ≡ range_in p view n r → None ≡ prefix_in p view n
no_range p view n r none = go (prefix_in p view n) none
  where
    go : (o : Option Cidr) → None ≡ option_map (λ seen. moved_range (net_of p n).own seen r) o → None ≡ o
    go None e = refl
    go (Some q) e = cc e

-- ---- one address

module _ (p : Policy) (view : List ℕ) (n a : ℕ) where
  ends_one : (b : ℕ) → IsTrue (within (one_address a) b) → b ≡ a
  ends_one b h = let e = ends_of (one_address a) b h in omega (arith, e.low, e.high)

  held_seen : (b : Bool) → b ≡ true → cond b (translated_address p view n a) None ≡ translated_address p view n a
  held_seen true h = refl
  held_seen false h = absurd (false≢true h)

  module _ (inside : IsTrue (prefix_holds (net_of p n).own a)) (seen : Option ℕ) (is : seen ≡ to_view p view n a) where
    its_place : (m : ℕ) → IsShadowed p view n (one_address a) m → option_and_then (place p view) seen ≡ Some m
    its_place m w =
        let same = ends_one w.address w.inside in
        ap (option_and_then (place p view)) (is ∙ held_seen (prefix_holds (net_of p n).own a) inside) ∙ (sym (ap (λ b. option_and_then (place p view) (translated_address p view n b)) same) ∙ w.placed)

    shadow_one : (m : ℕ) → m ≢ n → option_and_then (place p view) seen ≡ Some m → IsShadowed p view n (one_address a) m
    shadow_one m differs placed =
        record {
          address = a;
          inside = within_of (one_address a) a (record { low = omega arith; high = omega arith });
          placed = sym (ap (option_and_then (place p view)) (is ∙ held_seen (prefix_holds (net_of p n).own a) inside)) ∙ placed;
          elsewhere = differs;
        }

  pub none_seen : IsTrue (prefix_holds (net_of p n).own a) → None ≡ to_view p view n a → HasNoShadow p view n (one_address a)
  none_seen inside is m w = let no = its_place inside None is m w in cc no

  pub of_one : (b : ℕ) → IsTrue (prefix_holds (net_of p n).own a) → Some b ≡ to_view p view n a → (o : Option NetId) →
      MatchOption o ((m : ℕ) → IsOtherPlace p view n b m → ⊥) (λ m. IsOtherPlace p view n b m.0) → MatchOption o (HasNoShadow p view n (one_address a)) (λ m. IsLeastShadow p view n (one_address a) m.0)
  of_one b inside is o h =
      match_weaker ((m : ℕ) → IsOtherPlace p view n b m → ⊥) (HasNoShadow p view n (one_address a)) (λ (m : NetId). IsOtherPlace p view n b m.0) (λ (m : NetId). IsLeastShadow p view n (one_address a) m.0) o
      (λ none m w. none m (record { differs = w.elsewhere; placed = its_place inside (Some b) is m w }))
      (λ m w.
      record {
        there = shadow_one inside (Some b) is m.0 w.differs w.placed;
        least = λ k g. let same = some_is m.0 k (sym w.placed ∙ its_place inside (Some b) is k g) in omega (arith, same);
      }) h

pub as_range : (P : Interval → Type 0) (r : Interval) (a : ℕ) → a ≡ r.first → a ≡ r.last → P (one_address a) → P r
as_range P r a low high h = subst P (ap (λ (x : ℕ). let i : Interval = record { first = x; last = a } in i) low ∙ ap (λ (x : ℕ). let i : Interval = record { first = r.first; last = x } in i) high) h
