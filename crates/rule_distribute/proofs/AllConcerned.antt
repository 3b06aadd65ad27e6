-- The pairs that permits join, and those that lie inside one of them in some zone's view.
use Rattle.std.proofs.Common.{◌≡◌, ℕ, zero, suc, ◌<◌, ◌≤◌, Bool, true, false, not, ◌&&◌, List, [], ◌∷◌, ◌++◌, length, map, flat_map, refl, sym, ap, subst, ◌∙◌, ⊎_elim, arith, slice_index_or}
use Rattle.std.specs.Prelude.{◌==◌, filter, fold, max, slice_index}
use Rattle.std.specs.List.{list_any, All}
use Rattle.std.proofs.lemmas.Bool.{and_parts, and_from, or_cases, or_left, or_right, eqb-true, not_from_false}
use Rattle.std.proofs.lemmas.List.{get_or_default, get_or-map, length-map}
use Rattle.std.proofs.lemmas.List.Folds.{flat_map-map}
use Rattle.spoc_base.specs.declared.ids.NetId.{NetId}
use Rattle.spoc_base.specs.declared.ids.ZoneId.{ZoneId}
use Rattle.policy_model.specs.Lists.{numbers_below, pairs_of}
use Rattle.policy_model.specs.Policy.{Policy, all_nets}
use Rattle.policy_model.specs.Zones.{Site, zone_of, zone_count}
use Rattle.policy_model.specs.Tags.{Views, zone_view}
use Rattle.policy_model.specs.Permits.{Permit}
use Rattle.policy_model.specs.Blocks.{NetPair, all_pairs, permit_at, is_round, is_joined_pair, is_joined, is_concerned}
use Rattle.policy_model.proofs.AllWalks.{IsIn, in_front, in_back, in_map, in_flat_map, in_filter, in_numbers, from_map}
use Rattle.list_laws.proofs.Members.{in_either, from_filter, some_in, some_of}
use Rattle.list_laws.proofs.Tables.{from_flat_map}
use Rattle.policy_laws.proofs.PermitLines.{from_pairs}
use Rattle.policy_laws.proofs.Placed.{from_numbers}
use Rattle.zone_graph.specs.Labels.{AreNumbers}
use Rattle.nat_view.specs.Firsts.{AreFirsts, HasFirst}
use Rattle.closed_pairs.specs.Reaching.{encloses_in}
use Rattle.closed_pairs.specs.Seen.{nets_seen}
use Rattle.rule_distribute.specs.Concerned.{is_concerned_pair, concerned_pairs}
use Rattle.rule_distribute.specs.Nested.{named, numbers_of, are_parted, nested_in, AreNets}
use Rattle.rule_distribute.specs.Pairs.{IsBefore, AreOnce}
use Rattle.rule_distribute.specs.Rows.{HasAll, ends_of}
use Rattle.rule_distribute.proofs.Rising.{rising_same, rises_by_places, contains_in, in_contains}
use Rattle.rule_distribute.proofs.Tuples.{before_apart, some_rise}

-- ---- zones are counted by their greatest number

top_below : (xs : List ℕ) (a count : ℕ) → a ≤ count → ((k : ℕ) → k < length xs → slice_index xs k < count) → fold max a (map suc xs) ≤ count
top_below [] a count low each = low
top_below (x ∷ xs) a count low each = top_below xs (max a (suc x)) count (let h = each 0 (omega arith) in omega (arith, h, low)) (λ k b. each (suc k) (omega (arith, b)))

start_below : (xs : List ℕ) (a : ℕ) → a ≤ fold max a (map suc xs)
start_below [] a = omega arith
start_below (x ∷ xs) a = let h = start_below xs (max a (suc x)) in omega (arith, h)

each_below : (xs : List ℕ) (a k : ℕ) → k < length xs → slice_index xs k < fold max a (map suc xs)
each_below [] a k b = absurd (omega (arith, b))
each_below (x ∷ xs) a zero b = let h = start_below xs (max a (suc x)) in omega (arith, h)
each_below (x ∷ xs) a (suc k) b = each_below xs (max a (suc x)) k (omega (arith, b))

reached : (zones : List ℕ) (count : ℕ) → AreNumbers zones count → count ≤ fold max 0 (map suc zones)
reached zones zero n = omega arith
reached zones (suc z) n = let w = n.used z (omega arith) in let h = each_below zones 0 w.0 w.1 in omega (arith, h, w.2)

pub zones_counted : (zones : List ℕ) (count : ℕ) → AreNumbers zones count → fold max 0 (map suc zones) ≡ count
zones_counted zones count n =
    let high = top_below zones 0 count (omega arith) n.below in
    let low = reached zones count n in
    omega (arith, high, low)

-- ---- pairs of networks

below_count : (n k : ℕ) → IsIn k (numbers_below n) → k < n
below_count n k h = let w = (from_numbers 0 n k h).1 in omega (arith, w)

pair_same : (e f : NetPair) → e.src ≡ f.src → e.dst ≡ f.dst → e ≡ f
pair_same e f a b = ap (λ (x : ℕ). let r : NetPair = record { src = x; dst = e.dst } in r) a ∙ ap (λ (x : ℕ). let r : NetPair = record { src = f.src; dst = x } in r) b

abbrev pub every_pair : Policy → List (ℕ × ℕ)
every_pair p = pairs_of (all_nets p) (all_nets p)

pub nets_there : (p : Policy) (e : ℕ × ℕ) → IsIn e (every_pair p) → AreNets (length p.nets) e
nets_there p e h =
    let w = from_pairs (all_nets p) (all_nets p) e h in
    record { src = below_count (length p.nets) e.0 w.0; dst = below_count (length p.nets) e.1 w.1 }

pub as_named : (p : Policy) (e : ℕ × ℕ) → IsIn e (every_pair p) → IsIn (named e) (all_pairs p)
as_named p e h = in_map (λ (e : ℕ × ℕ). named e) e (every_pair p) h

pub as_numbers : (p : Policy) (e : NetPair) → IsIn e (all_pairs p) → IsIn (numbers_of e) (every_pair p)
as_numbers p e h =
    let w = from_map (λ (e : ℕ × ℕ). named e) e (every_pair p) h in
    subst (λ (f : NetPair). IsIn (numbers_of f) (every_pair p)) (sym w.2) w.1

-- the networks of some of all pairs are there
pub some_are_there : (p : Policy) (test : ℕ × ℕ → Bool) → All (AreNets (length p.nets)) (filter test (every_pair p))
some_are_there p test = λ k d below.
    let some = filter test (every_pair p) in
    let x : ℕ × ℕ = slice_index_or some k d in
    nets_there p x (from_filter test x (every_pair p) (contains_in some x (k, below, get_or_default some k x d below))).0

-- the networks of the pairs inside another one are there
pub inside_are_there : (p : Policy) (test : NetPair → Bool) (count : ℕ) → count ≡ length p.nets → (es : List (NetId × NetId)) → map nets_seen es ≡ filter test (all_pairs p) →
    All (λ e. AreNets count (numbers_of (nets_seen e))) es
inside_are_there p test count long es are = λ k d below.
    let e : NetId × NetId = slice_index_or es k d in
    let there = in_map nets_seen e es (contains_in es e (k, below, get_or_default es k e d below)) in
    let kept = from_filter test (nets_seen e) (all_pairs p) (subst (λ (fs : List NetPair). IsIn (nets_seen e) fs) are there) in
    subst (λ (n : ℕ). AreNets n (numbers_of (nets_seen e))) (sym long) (nets_there p (numbers_of (nets_seen e)) (as_numbers p (nets_seen e) kept.0))

pub as_long : (p : Policy) (count : ℕ) → count ≡ length p.nets → (test : ℕ × ℕ → Bool) (found : List (ℕ × ℕ)) → found ≡ filter test (every_pair p) → All (AreNets count) found
as_long p count long test found are =
    subst (λ (es : List (ℕ × ℕ)). All (AreNets count) es) (sym are) (subst (λ (n : ℕ). All (AreNets n) (filter test (every_pair p))) (sym long) (some_are_there p test))

-- the zones that stand for all are there
pub firsts_are_there : (rows : List (List ℕ)) (zones found : List ZoneId) → found ≡ zones → AreFirsts rows (map (λ z. z.0) zones) → All (λ z. z.0 < length rows) found
firsts_are_there rows zones found same are = λ k d below.
    let b : k < length zones = let e = ap (λ (zs : List ZoneId). length zs) same in omega (arith, below, e) in
    let e : slice_index_or (map (λ (z : ZoneId). z.0) zones) k d.0 ≡ (slice_index_or zones k d).0 = get_or-map (λ (z : ZoneId). z.0) zones k d d.0 b in
    let m = length-map zones (λ (z : ZoneId). z.0) in
    let h = are.below k d.0 (omega (arith, b, m)) in
    let f = ap (λ (zs : List ZoneId). (slice_index_or zs k d).0) same in
    omega (arith, h, e, f)

-- the same, with the zones as numbers
pub as_nested : (zones : List ℕ) (p q : Policy) (v : Views) (joined found : List (ℕ × ℕ)) (firsts listed : List ZoneId) → q ≡ p → found ≡ joined → listed ≡ firsts →
    flat_map (λ z. flat_map (nested_in zones q (zone_view v z.0)) found) listed ≡ flat_map (λ z. flat_map (nested_in zones p (zone_view v z)) joined) (map (λ z. z.0) firsts)
as_nested zones p q v joined found firsts listed a b c =
    (λ i. flat_map (λ (z : ZoneId). flat_map (nested_in zones (a i) (zone_view v z.0)) (b i)) (c i))
    ∙ sym (flat_map-map (λ (z : ℕ). flat_map (nested_in zones p (zone_view v z)) joined) (λ (z : ZoneId). z.0) firsts)

pub none_there : {A : Type 0} (xs : List A) (n : ℕ) → length xs ≡ n → (n == 0) ≡ true → xs ≡ []
none_there [] n e h = refl
none_there (x ∷ xs) n e h = absurd (let z = eqb-true n 0 h in let w : ⊥ = omega (arith, e, z) in w)

-- ---- what was found

module _ (s : Site) (v : Views) (permits : List Permit) (each : length v.zones ≡ zone_count s) where
  abbrev all : List (ℕ × ℕ)
  all = every_pair s.policy

  abbrev wanted : ℕ × ℕ → Bool
  wanted e = is_concerned_pair s v permits (record { src = e.0; dst = e.1 })

  abbrev is_joined_here : ℕ × ℕ → Bool
  is_joined_here e = is_joined_pair s permits (record { src = e.0; dst = e.1 })

  -- the pairs that permits join
  abbrev joined : List (ℕ × ℕ)
  joined = filter is_joined_here all

  abbrev nested_by : List (ℕ × ℕ) → ℕ → List (ℕ × ℕ)
  nested_by found z = flat_map (nested_in s.zones s.policy (zone_view v z)) found

  abbrev round_some : NetPair → NetPair → Bool
  round_some e outer = is_joined_pair s permits outer && list_any (λ z. is_round s.policy (zone_view v z) outer e) (numbers_below (zone_count s))

  pub joined_parts : (e : ℕ × ℕ) → IsIn e joined → IsIn e all × (is_joined_here e ≡ true)
  joined_parts e h = from_filter is_joined_here e all h

  joined_wanted : (e : ℕ × ℕ) → IsIn e joined → IsIn e (filter wanted all)
  joined_wanted e h =
      let w = joined_parts e h in
      let differ = (and_parts (is_joined permits (named e)) (not (zone_of s e.0 == zone_of s e.1)) w.1).1 in
      in_filter wanted e all w.0 (and_from _ _ differ (or_left (is_joined_here e) (list_any (round_some (named e)) (all_pairs s.policy)) w.1))

  -- a pair inside another one is concerned
  inside_wanted : (z : ℕ) (outer e : ℕ × ℕ) → z < zone_count s → IsIn outer joined → IsIn e (nested_in s.zones s.policy (zone_view v z) outer) → IsIn e (filter wanted all)
  inside_wanted z outer e below o h =
      let view = zone_view v z in
      let inside = encloses_in s.policy view (named outer) in
      let w = from_filter (are_parted s.zones) e (map numbers_of (filter inside (all_pairs s.policy))) h in
      let f = from_map numbers_of e (filter inside (all_pairs s.policy)) w.0 in
      let g = from_filter inside f.0 (all_pairs s.policy) f.1 in
      let here = subst (λ (x : ℕ × ℕ). IsIn x all) (sym f.2) (as_numbers s.policy f.0 g.0) in
      let round = (and_parts (not ((outer.0 == f.0.src) && (outer.1 == f.0.dst))) (is_round s.policy view (named outer) f.0) g.1).1 in
      let same : f.0 ≡ named e = pair_same f.0 (named e) (ap (λ (x : ℕ × ℕ). x.0) (sym f.2)) (ap (λ (x : ℕ × ℕ). x.1) (sym f.2)) in
      let seen = subst (λ (x : NetPair). is_round s.policy view (named outer) x ≡ true) same round in
      let j = joined_parts outer o in
      let some = some_of (λ z. is_round s.policy (zone_view v z) (named outer) (named e)) z (numbers_below (zone_count s)) (in_numbers (zone_count s) z below) seen in
      let other = some_of (round_some (named e)) (named outer) (all_pairs s.policy) (as_named s.policy outer j.0) (and_from _ _ j.1 some) in
      in_filter wanted e all here (and_from _ _ w.1 (or_right (is_joined_here e) (list_any (round_some (named e)) (all_pairs s.policy)) other))

  module _ (firsts : List ℕ) (are : AreFirsts v.zones firsts) where
    abbrev nested : List (ℕ × ℕ)
    nested = flat_map (nested_by joined) firsts

    first_below : (z : ℕ) → IsIn z firsts → z < zone_count s
    first_below z h =
        let c = in_contains firsts z h in
        let b = subst (λ (n : ℕ). n < length v.zones) c.2 (are.below c.0 z c.1) in
        omega (arith, b, each)

    pub nested_wanted : (e : ℕ × ℕ) → IsIn e nested → IsIn e (filter wanted all)
    nested_wanted e h =
        let z = from_flat_map (nested_by joined) e firsts h in
        let o = from_flat_map (nested_in s.zones s.policy (zone_view v z.0)) e joined z.2 in
        inside_wanted z.0 o.0 e (first_below z.0 z.1) o.1 o.2

    pub found_wanted : (e : ℕ × ℕ) → IsIn e (joined ++ nested) → IsIn e (filter wanted all)
    found_wanted e h = ⊎_elim (λ a. joined_wanted e a) (λ b. nested_wanted e b) (in_either e joined nested h)

    wanted_joined : (e : ℕ × ℕ) → IsIn e all → is_joined_here e ≡ true → IsIn e (joined ++ nested)
    wanted_joined e i j = in_front e joined nested (in_filter is_joined_here e all i j)

    -- a pair inside a joined one is joined itself, or is found in the view that stands for the zone's
    wanted_inside : (e : ℕ × ℕ) (o : NetPair) (z : ℕ) → IsIn e all → are_parted s.zones e ≡ true → IsIn o (all_pairs s.policy) → is_joined_pair s permits o ≡ true → z < zone_count s →
        is_round s.policy (zone_view v z) o (named e) ≡ true → IsIn e (joined ++ nested)
    wanted_inside e o z i differ io jo below round = go ((o.src == e.0) && (o.dst == e.1)) refl
      where
        first : HasFirst v.zones firsts z
        first = are.each z (omega (arith, below, each))

        seen : is_round s.policy (zone_view v first.place) o (named e) ≡ true
        seen = subst (λ (view : List ℕ). is_round s.policy view o (named e) ≡ true) (sym first.same) round

        go : (b : Bool) → ((o.src == e.0) && (o.dst == e.1)) ≡ b → IsIn e (joined ++ nested)
        go true t =
            let w = and_parts (o.src == e.0) (o.dst == e.1) t in
            let same : o ≡ named e = pair_same o (named e) (eqb-true o.src e.0 w.0) (eqb-true o.dst e.1 w.1) in
            wanted_joined e i (subst (λ (x : NetPair). is_joined_pair s permits x ≡ true) same jo)
        go false t =
            let inside = encloses_in s.policy (zone_view v first.place) o in
            let there = in_map numbers_of (named e) (filter inside (all_pairs s.policy)) (in_filter inside (named e) (all_pairs s.policy) (as_named s.policy e i) (and_from _ _ (not_from_false _ t) seen)) in
            let kept : IsIn e (nested_in s.zones s.policy (zone_view v first.place) (numbers_of o)) = in_filter (are_parted s.zones) e (map numbers_of (filter inside (all_pairs s.policy))) there differ in
            let outer = in_filter is_joined_here (numbers_of o) all (as_numbers s.policy o io) jo in
            in_back e joined nested
            (in_flat_map (nested_by joined) first.place e firsts (contains_in firsts first.place first.listed)
            (in_flat_map (nested_in s.zones s.policy (zone_view v first.place)) (numbers_of o) e joined outer kept))

    wanted_found : (e : ℕ × ℕ) → IsIn e (filter wanted all) → IsIn e (joined ++ nested)
    wanted_found e h =
        let w = from_filter wanted e all h in
        let t = and_parts (not (zone_of s e.0 == zone_of s e.1)) (is_concerned s v permits (named e)) w.1 in
        ⊎_elim (λ j. wanted_joined e w.0 j)
        (λ g. let o = some_in (round_some (named e)) (all_pairs s.policy) g in
        let r = and_parts (is_joined_pair s permits o.0) (list_any (λ z. is_round s.policy (zone_view v z) o.0 (named e)) (numbers_below (zone_count s))) o.2 in
        let z = some_in (λ z. is_round s.policy (zone_view v z) o.0 (named e)) (numbers_below (zone_count s)) r.1 in
        wanted_inside e o.0 z.0 w.0 t.0 o.1 r.0 (below_count (zone_count s) z.0 z.1) z.2)
        (or_cases (is_joined_here e) (list_any (round_some (named e)) (all_pairs s.policy)) t.1)

    abbrev nested_of : List (ℕ × ℕ) → List (ℕ × ℕ)
    nested_of pairs = flat_map (nested_by pairs) firsts

    -- the pairs that were found are those that are defined
    pub concerned_are : (pairs : List (ℕ × ℕ)) → pairs ≡ joined → (found : List (ℕ × ℕ)) → AreOnce (pairs ++ nested_of pairs) found → found ≡ concerned_pairs s v permits
    concerned_are pairs same found given =
        rising_same IsBefore before_apart found (filter wanted all) (rises_by_places IsBefore found once.order) (some_rise wanted (length s.policy.nets) (length s.policy.nets))
        (λ e i. found_wanted e (contains_in (joined ++ nested) e (once.added e (in_contains found e i))))
        (λ e i. contains_in found e (once.kept e (in_contains (joined ++ nested) e (wanted_found e i))))
      where
        once : AreOnce (joined ++ nested) found
        once = subst (λ (es : List (ℕ × ℕ)). AreOnce (es ++ nested_of es) found) same given

    -- where none lies inside another, they are the joined ones
    pub joined_are : (pairs : List (ℕ × ℕ)) → pairs ≡ joined → nested_of pairs ≡ [] → joined ≡ concerned_pairs s v permits
    joined_are pairs same given =
        rising_same IsBefore before_apart joined (filter wanted all) (some_rise is_joined_here (length s.policy.nets) (length s.policy.nets)) (some_rise wanted (length s.policy.nets) (length s.policy.nets))
        (λ e i. joined_wanted e i)
        (λ e i. ⊎_elim (λ a. a) (λ b. absurd (subst (λ (xs : List (ℕ × ℕ)). IsIn e xs) none b)) (in_either e joined nested (wanted_found e i)))
      where
        none : nested ≡ []
        none = subst (λ (es : List (ℕ × ℕ)). nested_of es ≡ []) same given

-- what has the joined pairs has the permits' networks
pub kept_all : (zones : List ℕ) (permits : List Permit) (pairs more found : List (ℕ × ℕ)) → HasAll zones pairs permits → AreOnce (pairs ++ more) found → HasAll zones found permits
kept_all zones permits pairs more found has once = λ k back below differ.
    let e = ends_of back (permit_at permits k) in
    once.kept e (in_contains (pairs ++ more) e (in_front e pairs more (contains_in pairs e (has k back below differ))))
