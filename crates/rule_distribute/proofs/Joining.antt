-- The rows of the pairs that are kept, and what is known of the pairs.
use Rattle.std.proofs.Common.{◌≡◌, ℕ, zero, suc, ◌<◌, Bool, true, false, List, [], ◌∷◌, length, map, refl, sym, ap, subst, ◌∙◌, arith, slice_index_or}
use Rattle.std.specs.Prelude.{◌==◌, ◌&&◌, not, filter}
use Rattle.std.specs.List.{All, AllPairs, Contains, list_any}
use Rattle.std.proofs.lemmas.Bool.{and_parts, and_from, not-true, eq-eqb, or_left}
use Rattle.std.proofs.lemmas.List.{get_or_default}
use Rattle.policy_model.specs.Lists.{numbers_below, pairs_of}
use Rattle.policy_model.specs.Policy.{Policy, all_nets}
use Rattle.policy_model.specs.Zones.{Site, IsSite, zone_of, zone_count}
use Rattle.policy_model.specs.Tags.{Views}
use Rattle.policy_model.specs.Permits.{Permit}
use Rattle.policy_model.specs.Blocks.{permit_at, no_permit, is_concerned, zone_pairs}
use Rattle.policy_model.proofs.AllWalks.{IsIn}
use Rattle.list_laws.proofs.Members.{from_filter}
use Rattle.policy_laws.proofs.PermitLines.{from_pairs}
use Rattle.zone_graph.specs.Grouped.{HasGroups}
use Rattle.rule_distribute.specs.Concerned.{is_concerned_pair, concerned_pairs}
use Rattle.permit_lines.specs.Given.{AreKnown}
use Rattle.rule_distribute.specs.Hidden.{HaveTables}
use Rattle.rule_distribute.specs.Nested.{AreNets}
use Rattle.rule_distribute.specs.Pairs.{IsBefore}
use Rattle.rule_distribute.specs.Paths.{AreNamed}
use Rattle.rule_distribute.specs.Placed.{Pairs, row_at, HaveRows, AreLess, ArePairsOf}
use Rattle.rule_distribute.specs.Rows.{pair_at, belongs, row_below}
use Rattle.rule_distribute.proofs.Rising.{Rises, contains_in, in_contains}
use Rattle.rule_distribute.proofs.Tuples.{some_rise}
use Rattle.rule_distribute.proofs.Concerns.{below_count, all_in, concerned_listed, joined_concerned}
use Rattle.rule_distribute.proofs.NetPairs.{ends_there, by}

map_self : (xs : List ℕ) → map (λ k. k) xs ≡ xs
map_self [] = refl
map_self (x ∷ xs) = ap (λ ys. x ∷ ys) (map_self xs)

-- a row is that of its group
pub row_is : (rows : List (List ℕ)) (group : ℕ → List ℕ) (w : ℕ) → HasGroups (λ k. k) rows group → w < length rows → row_at rows w ≡ group w
row_is rows group w groups h = sym (map_self (row_at rows w)) ∙ groups.each w h

-- from members to places
pub places_rise : {A : Type 0} (R : A → A → Type 0) (xs : List A) → Rises R xs → AllPairs R xs
places_rise R [] r i j d lt below = absurd (omega (arith, below))
places_rise R (x ∷ xs) r i zero d lt below = absurd (omega (arith, lt))
places_rise R (x ∷ xs) r zero (suc j) d lt below =
    let h : j < length xs = omega (arith, below) in
    r.0 (slice_index_or xs j d) (contains_in xs (slice_index_or xs j d) (j, h, get_or_default xs j (slice_index_or xs j d) d h))
places_rise R (x ∷ xs) r (suc i) (suc j) d lt below = places_rise R xs r.1 i j d (omega (arith, lt)) (omega (arith, below))

module _ (s : Site) (v : Views) (permits : List Permit) (j : Pairs) (are : ArePairsOf s v permits j) where
  abbrev all : List (ℕ × ℕ)
  all = pairs_of (all_nets s.policy) (all_nets s.policy)

  abbrev wanted : ℕ × ℕ → Bool
  wanted e = is_concerned_pair s v permits (record { src = e.0; dst = e.1 })

  pub pair_in : (w : ℕ) → w < length j.pairs → IsIn (pair_at j.pairs w) all × (wanted (pair_at j.pairs w) ≡ true)
  pair_in w h =
      let e = pair_at j.pairs w in
      from_filter wanted e all (subst (IsIn e) are.pairs (contains_in j.pairs e (w, h, get_or_default j.pairs w e (0, 0) h)))

  there : (w : ℕ) → w < length j.pairs → IsIn (pair_at j.pairs w).0 (all_nets s.policy) × IsIn (pair_at j.pairs w).1 (all_nets s.policy)
  there w h = from_pairs (all_nets s.policy) (all_nets s.policy) (pair_at j.pairs w) (pair_in w h).0

  src_there : (w : ℕ) → w < length j.pairs → (pair_at j.pairs w).0 < length s.policy.nets
  src_there w h = below_count (length s.policy.nets) (pair_at j.pairs w).0 (there w h).0

  dst_there : (w : ℕ) → w < length j.pairs → (pair_at j.pairs w).1 < length s.policy.nets
  dst_there w h = below_count (length s.policy.nets) (pair_at j.pairs w).1 (there w h).1

  pub have_rows : HaveRows s.policy j
  have_rows = record { forward = are.each_forward; replied = are.each_replied; src = src_there; dst = dst_there }

  pub pairs_in_order : AllPairs IsBefore j.pairs
  pairs_in_order = subst (AllPairs IsBefore) (sym are.pairs) (places_rise IsBefore (filter wanted all) (some_rise wanted (length s.policy.nets) (length s.policy.nets)))

  -- the zones of the pairs are among those whose walks the lists depend on
  pub are_named : (names : List (ℕ × ℕ)) → IsSite s → ((e : ℕ × ℕ) → Contains (zone_pairs s v permits) e → Contains names e) → AreNamed s j.pairs names
  are_named names site there =
      record {
        src = src_there;
        dst = dst_there;
        named = λ w h.
            let p = pair_at j.pairs w in
            let t = and_parts (not (zone_of s p.0 == zone_of s p.1)) (is_concerned s v permits (record { src = p.0; dst = p.1 })) (pair_in w h).1 in
            let listed = concerned_listed s v permits (record { src = p.0; dst = p.1 }) site (record { src = src_there w h; dst = dst_there w h }) t.1 (not-true (zone_of s p.0 == zone_of s p.1) t.0) in
            there (zone_of s p.0, zone_of s p.1) (in_contains (zone_pairs s v permits) (zone_of s p.0, zone_of s p.1) listed);
      }

  -- the rows have the numbers of permits
  pub are_less : (n : ℕ) → n ≡ length permits → AreLess n j
  are_less n count =
      record {
        forward = λ w h. less (belongs_to false w) (row_at j.forward w) (are.forward w h);
        replied = λ w h. less (belongs_to true w) (row_at j.replied w) (are.replied w h);
      }
    where
      belongs_to : Bool → ℕ → ℕ → Bool
      belongs_to back w k = belongs s.zones j.pairs back (permit_at permits k) w

      less : (test : ℕ → Bool) (row : List ℕ) → row ≡ filter test (numbers_below (length permits)) → All (λ k. k < n) row
      less test row e = λ k d below.
          let x = slice_index_or row k d in
          let i = subst (IsIn x) e (contains_in row x (k, below, get_or_default row k x d below)) in
          let low = below_count (length permits) x (from_filter test x (numbers_below (length permits)) i).0 in
          omega (arith, low, count)

-- the pairs' networks are there, however these are counted
pub are_nets : (p : Policy) (j : Pairs) (count : ℕ) → HaveRows p j → count ≡ length p.nets → All (AreNets count) j.pairs
are_nets p j count rows long = λ w d below.
    let src = rows.src w below in
    let dst = rows.dst w below in
    let is : slice_index_or j.pairs w d ≡ pair_at j.pairs w = sym (get_or_default j.pairs w (0, 0) d below) in
    let a = ap (λ (e : ℕ × ℕ). e.0) is in
    let b = ap (λ (e : ℕ × ℕ). e.1) is in
    record { src = omega (arith, src, a, long); dst = omega (arith, dst, b, long) }

-- the zones of each permit have a table
pub have_tables : (s : Site) (v : Views) (permits : List Permit) (names : List (ℕ × ℕ)) → IsSite s → AreKnown s.policy permits → ((e : ℕ × ℕ) → Contains (zone_pairs s v permits) e → Contains names e) →
    HaveTables s.zones names permits
have_tables s v permits names site given there k below differ =
    let q = permit_at permits k in
    let i : IsIn q permits = contains_in permits q (k, below, get_or_default permits k q no_permit below) in
    let e : ℕ × ℕ = (q.src.net, q.dst.net) in
    let ends = ends_there s permits given q i in
    let same = and_from (q.src.net == q.src.net) (q.dst.net == q.dst.net) (eq-eqb q.src.net q.src.net refl) (eq-eqb q.dst.net q.dst.net refl) in
    let joined = by s permits given q (record { src = e.0; dst = e.1 }) i (or_left _ _ same) in
    let concerned = and_parts (not (zone_of s e.0 == zone_of s e.1)) (is_concerned s v permits (record { src = e.0; dst = e.1 })) (joined_concerned s v permits e (all_in s e ends.src ends.dst) joined differ) in
    there (zone_of s e.0, zone_of s e.1)
    (in_contains (zone_pairs s v permits) (zone_of s e.0, zone_of s e.1) (concerned_listed s v permits (record { src = e.0; dst = e.1 }) site (record { src = ends.src; dst = ends.dst }) concerned.1 differ))

-- the pairs with their rows
pub are_pairs : (s : Site) (v : Views) (permits : List Permit) (pairs qs rs : List (ℕ × ℕ)) (forward replied : List (List ℕ)) (n : ℕ) → n ≡ length permits →
    pairs ≡ concerned_pairs s v permits → qs ≡ pairs → rs ≡ pairs → length forward ≡ length qs → length replied ≡ length rs →
    HasGroups (λ k. k) forward (row_below s.zones qs false permits n) → HasGroups (λ k. k) replied (row_below s.zones rs true permits n) → ArePairsOf s v permits (record { pairs = pairs; forward = forward; replied = replied })
are_pairs s v permits pairs qs rs forward replied n count is e f each_forward each_replied forth back =
    let m = ap length e in
    let k = ap length f in
    record {
      pairs = is;
      each_forward = each_forward ∙ m;
      each_replied = each_replied ∙ k;
      forward = λ w h. row_is forward (row_below s.zones qs false permits n) w forth (omega (arith, h, each_forward, m))
          ∙ (ap (λ ps. row_below s.zones ps false permits n w) e ∙ ap (λ c. row_below s.zones pairs false permits c w) count);
      replied = λ w h. row_is replied (row_below s.zones rs true permits n) w back (omega (arith, h, each_replied, k))
          ∙ (ap (λ ps. row_below s.zones ps true permits n w) f ∙ ap (λ c. row_below s.zones pairs true permits c w) count);
    }
