-- The blocks from rows are those that are defined.
use Rattle.std.proofs.Common.{◌≡◌, ℕ, suc, ◌+◌, ◌-◌, ◌<◌, ◌≤◌, inl, inr, Bool, true, false, cond, not, ◌&&◌, ◌||◌, List, [], ◌∷◌, ◌++◌, length, map, flat_map, refl, sym, ap, subst, ◌∙◌, ⊎_elim, arith, slice_index_or}
use Rattle.std.specs.Prelude.{◌==◌, Option, None, Some, is_some, filter, slice_index}
use Rattle.std.specs.List.{list_any, range_with_len, enumerate_from}
use Rattle.std.specs.Option.{option_map_or}
use Rattle.std.proofs.lemmas.Bool.{both_ways as both_truths, and_parts, and_from, or_cases, or_left, or_right, eqb-true, eq-eqb, not-true, not_from_false, false_from_ne_true, false≢true}
use Rattle.std.proofs.lemmas.List.{get_or_default}
use Rattle.std.proofs.lemmas.List.Concat.{flat_map-cons}
use Rattle.std.proofs.lemmas.List.FromFn.{fill_by_all}
use Rattle.spoc_base.specs.Address.{Cidr}
use Rattle.policy_model.specs.Lists.{numbers_below, pairs_of, is_nothing}
use Rattle.policy_model.specs.Policy.{Policy, net_of, all_nets}
use Rattle.policy_model.specs.Zones.{Site, zone_of, zone_at, zone_count}
use Rattle.policy_model.specs.Tags.{Views, zone_view}
use Rattle.policy_model.specs.Places.{prefix_in, length_in}
use Rattle.policy_model.specs.Permits.{Permit, has_replies}
use Rattle.policy_model.specs.Filters.{Line}
use Rattle.policy_model.specs.Walks.{is_allowed_walk, all_paths, allowed_walks}
use Rattle.policy_model.specs.Blocks.{NetPair, Block, all_pairs, places_replies_at, is_on_path, pairs_on_path, places_where, permit_at, no_permit, permits_between, replied_between, is_part_of, is_round, is_seen, view_here, is_closed, block_of, is_needed, depth_of, placement, is_joined, is_joined_pair, is_concerned}
use Rattle.policy_model.proofs.AllWalks.{IsIn, in_map, in_filter, in_numbers, from_map, parts_of}
use Rattle.policy_model.proofs.Views.{list_any_map}
use Rattle.list_laws.proofs.Members.{from_filter, filter_same, some_in, some_of, same_truth, in_either}
use Rattle.list_laws.proofs.Tables.{from_flat_map}
use Rattle.permit_lines.specs.Pieces.{forward_lines, mirrored_lines}
use Rattle.closed_pairs.specs.Reaching.{PairNumbers, permits_here, lines_between, reaches_pair, encloses_in}
use Rattle.rule_distribute.specs.Concerned.{is_concerned_pair}
use Rattle.rule_distribute.specs.Paths.{is_on_way, path_row}
use Rattle.rule_distribute.specs.Placed.{Pairs, row_at, ArePairsOf, numbers_at, is_seen_at, is_shut, told_closed, block_at, is_filled, shallow, is_in_bucket, bucket, placed}
use Rattle.rule_distribute.specs.Rows.{pair_at, ends_of, same_pair, belongs}
use Rattle.rule_distribute.proofs.Rising.{contains_in, in_contains}
use Rattle.rule_distribute.proofs.Concerns.{below_count, pair_there, joined_concerned}

-- ---- lists

pub filter_map : {A B : Type 0} (test : B → Bool) (f : A → B) (xs : List A) → filter test (map f xs) ≡ map f (filter (λ x. test (f x)) xs)
filter_map test f [] = refl
filter_map test f (x ∷ xs) = ap (λ ys. cond (test (f x)) (f x ∷ ys) ys) (filter_map test f xs) ∙ at (test (f x))
  where
    at : (b : Bool) → cond b (f x ∷ map f (filter (λ x. test (f x)) xs)) (map f (filter (λ x. test (f x)) xs)) ≡ map f (cond b (x ∷ filter (λ x. test (f x)) xs) (filter (λ x. test (f x)) xs))
    at true = refl
    at false = refl

pub filter_twice : {A : Type 0} (p q : A → Bool) (xs : List A) → filter q (filter p xs) ≡ filter (λ x. p x && q x) xs
filter_twice p q [] = refl
filter_twice p q (x ∷ xs) = at (p x) (q x) refl (filter_twice p q xs)
  where
    at : (b c : Bool) → q x ≡ c → filter q (filter p xs) ≡ filter (λ x. p x && q x) xs → filter q (cond b (x ∷ filter p xs) (filter p xs)) ≡ cond (b && c) (x ∷ filter (λ x. p x && q x) xs) (filter (λ x. p x && q x) xs)
    at true c e ih = ap (λ (d : Bool). cond d (x ∷ filter q (filter p xs)) (filter q (filter p xs))) e ∙ ap (λ ys. cond c (x ∷ ys) ys) ih
    at false c e ih = ih

map_same : {A B : Type 0} (f g : A → B) (xs : List A) → ((x : A) → IsIn x xs → f x ≡ g x) → map f xs ≡ map g xs
map_same f g [] h = refl
map_same f g (x ∷ xs) h = ap (λ y. y ∷ map f xs) (h x (inl refl)) ∙ ap (λ ys. g x ∷ ys) (map_same f g xs (λ y i. h y (inr i)))

map_map : {A B C : Type 0} (f : B → C) (g : A → B) (xs : List A) → map f (map g xs) ≡ map (λ x. f (g x)) xs
map_map f g [] = refl
map_map f g (x ∷ xs) = ap (λ ys. f (g x) ∷ ys) (map_map f g xs)

pub flat_map_same : {A B : Type 0} (f g : A → List B) (xs : List A) → ((x : A) → IsIn x xs → f x ≡ g x) → flat_map f xs ≡ flat_map g xs
flat_map_same f g [] h = refl
flat_map_same f g (x ∷ xs) h =
    flat_map-cons f x xs ∙ (ap (λ ys. ys ++ flat_map f xs) (h x (inl refl)) ∙ (ap (λ ys. g x ++ ys) (flat_map_same f g xs (λ y i. h y (inr i))) ∙ sym (flat_map-cons g x xs)))

-- ---- the numbers of the permits that pass

numbered : {A : Type 0} (test : A → Bool) (F : ℕ → Bool) (d : A) (a : ℕ) (xs : List A) → ((k : ℕ) → k < length xs → F (a + k) ≡ test (slice_index_or xs k d)) →
    map (λ (e : ℕ × A). e.0) (filter (λ (e : ℕ × A). test e.1) (enumerate_from a xs)) ≡ filter F (range_with_len a (length xs))
numbered test F d a [] h = refl
numbered {A} test F d a (x ∷ xs) h =
    let head : F a ≡ test x = ap F (let e : a ≡ a + 0 = omega arith in e) ∙ h 0 (omega arith) in
    at (test x) (F a) head
    (numbered test F d (a + 1) xs (λ k below. ap F (let e : a + 1 + k ≡ a + suc k = omega arith in e) ∙ h (suc k) (omega (arith, below))))
  where
    at : (b c : Bool) → c ≡ b → map (λ (e : ℕ × A). e.0) (filter (λ (e : ℕ × A). test e.1) (enumerate_from (a + 1) xs)) ≡ filter F (range_with_len (a + 1) (length xs)) →
        map (λ (e : ℕ × A). e.0) (cond b ((a, x) ∷ filter (λ (e : ℕ × A). test e.1) (enumerate_from (a + 1) xs)) (filter (λ (e : ℕ × A). test e.1) (enumerate_from (a + 1) xs))) ≡ cond c (a ∷ filter F (range_with_len (a + 1) (length xs))) (filter F (range_with_len (a + 1) (length xs)))
    at true true e ih = ap (λ ys. a ∷ ys) ih
    at true false e ih = absurd (false≢true e)
    at false true e ih = absurd (false≢true (sym e))
    at false false e ih = ih

pub places_are : (test : Permit → Bool) (permits : List Permit) → places_where test permits ≡ filter (λ k. test (permit_at permits k)) (numbers_below (length permits))
places_are test permits = numbered test (λ k. test (permit_at permits k)) no_permit 0 permits (λ k h. ap (λ n. test (permit_at permits n)) (let e : 0 + k ≡ k = omega arith in e))

-- ---- the pairs' blocks

abbrev named : ℕ × ℕ → NetPair
named e = record { src = e.0; dst = e.1 }

-- A network's prefix in the view, if it is there, has the length of its own.
pub record KeepsLength (p : Policy) (view : List ℕ) (n : ℕ) : Type 0 where
  pub length_is : is_some (prefix_in p view n) ≡ true → length_in p view n ≡ (net_of p n).own.len
  pub short : (net_of p n).own.len ≤ 32

pair_from : (a b : ℕ × ℕ) → a.0 ≡ b.0 → a.1 ≡ b.1 → same_pair a b ≡ true
pair_from a b e f = and_from (a.0 == b.0) (a.1 == b.1) (eq-eqb a.0 b.0 e) (eq-eqb a.1 b.1 f)

-- what is kept for an interface
pub record AreKept (s : Site) (v : Views) (permits : List Permit) (i : ℕ) (j : Pairs) : Type 0 where
  pub pairs : ArePairsOf s v permits j
  pub lengths : (n : ℕ) → n < length s.policy.nets → KeepsLength s.policy (view_here s v permits i) n
  pub zone : zone_at s i < zone_count s

module _ (s : Site) (v : Views) (permits : List Permit) (i : ℕ) (j : Pairs) (kept : AreKept s v permits i j) where
  abbrev all : List (ℕ × ℕ)
  all = pairs_of (all_nets s.policy) (all_nets s.policy)

  abbrev wanted : ℕ × ℕ → Bool
  wanted e = is_concerned_pair s v permits (record { src = e.0; dst = e.1 })

  abbrev told : Bool
  told = places_replies_at s.policy i

  abbrev here : List ℕ
  here = view_here s v permits i

  -- the pairs on path, and those of them that are seen
  abbrev way : List ℕ
  way = path_row s j.pairs (length j.pairs) i

  abbrev seen : ℕ → Bool
  seen w = is_seen_at s.policy here j w

  abbrev row : List ℕ
  row = filter seen way

  abbrev shut : ℕ → Bool
  shut w = is_shut s.policy here permits j told row w

  abbrev block_for : ℕ × ℕ → Block
  block_for e = block_of s v permits i (named e)

  all_named : all_pairs s.policy ≡ map named all
  all_named = refl

  -- ---- one pair's rows

  differ_of : (e : ℕ × ℕ) → wanted e ≡ true → (zone_of s e.0 == zone_of s e.1) ≡ false
  differ_of e h = not-true (zone_of s e.0 == zone_of s e.1) (and_parts (not (zone_of s e.0 == zone_of s e.1)) (is_concerned s v permits (named e)) h).0

  abbrev straight : ℕ × ℕ → Permit → Bool
  straight e q = (q.src.net == e.0) && (q.dst.net == e.1)

  abbrev turned : ℕ × ℕ → Permit → Bool
  turned e q = (q.src.net == e.1) && (q.dst.net == e.0)

  forward_test : (w : ℕ) (q : Permit) → wanted (pair_at j.pairs w) ≡ true → belongs s.zones j.pairs false q w ≡ straight (pair_at j.pairs w) q
  forward_test w q h =
      let e = pair_at j.pairs w in
      let differ = differ_of e h in
      same_truth (belongs s.zones j.pairs false q w) (straight e q)
      (λ t. (and_parts (not (slice_index s.zones q.src.net == slice_index s.zones q.dst.net) && (not false || has_replies q.box)) (straight e q) t).1)
      (λ t.
      let p = and_parts (q.src.net == e.0) (q.dst.net == e.1) t in
      let zones = ap (λ n. zone_of s n == zone_of s q.dst.net) (eqb-true q.src.net e.0 p.0) ∙ (ap (λ n. zone_of s e.0 == zone_of s n) (eqb-true q.dst.net e.1 p.1) ∙ differ) in
      and_from _ _ (and_from _ _ (not_from_false (slice_index s.zones q.src.net == slice_index s.zones q.dst.net) zones) refl) t)

  back_test : (w : ℕ) (q : Permit) → wanted (pair_at j.pairs w) ≡ true → belongs s.zones j.pairs true q w ≡ (turned (pair_at j.pairs w) q && has_replies q.box)
  back_test w q h =
      let e = pair_at j.pairs w in
      let differ = differ_of e h in
      same_truth (belongs s.zones j.pairs true q w) (turned e q && has_replies q.box)
      (λ t.
      let a = and_parts (not (slice_index s.zones q.src.net == slice_index s.zones q.dst.net) && (not true || has_replies q.box)) (same_pair (ends_of true q) e) t in
      let b = and_parts (not (slice_index s.zones q.src.net == slice_index s.zones q.dst.net)) (has_replies q.box) a.0 in
      let c = and_parts (q.dst.net == e.0) (q.src.net == e.1) a.1 in
      and_from (turned e q) (has_replies q.box) (and_from (q.src.net == e.1) (q.dst.net == e.0) c.1 c.0) b.1)
      (λ t.
      let a = and_parts (turned e q) (has_replies q.box) t in
      let p = and_parts (q.src.net == e.1) (q.dst.net == e.0) a.0 in
      let zones = ap (λ n. zone_of s n == zone_of s q.dst.net) (eqb-true q.src.net e.1 p.0) ∙ (ap (λ n. zone_of s e.1 == zone_of s n) (eqb-true q.dst.net e.0 p.1) ∙ turn (zone_of s e.0) (zone_of s e.1) differ) in
      and_from _ _ (and_from _ _ (not_from_false (slice_index s.zones q.src.net == slice_index s.zones q.dst.net) zones) a.1) (and_from (q.dst.net == e.0) (q.src.net == e.1) p.1 p.0))
    where
      turn : (x y : ℕ) → (x == y) ≡ false → (y == x) ≡ false
      turn x y f = false_from_ne_true (y == x) (λ u. both_truths (x == y) f (eq-eqb x y (sym (eqb-true y x u))))

  pair_wanted : (w : ℕ) → w < length j.pairs → IsIn (pair_at j.pairs w) all × (wanted (pair_at j.pairs w) ≡ true)
  pair_wanted w h =
      let e = pair_at j.pairs w in
      from_filter wanted e all (subst (IsIn e) kept.pairs.pairs (contains_in j.pairs e (w, h, get_or_default j.pairs w e (0, 0) h)))

  forward_is : (w : ℕ) → w < length j.pairs → row_at j.forward w ≡ permits_between permits (pair_at j.pairs w).0 (pair_at j.pairs w).1
  forward_is w h =
      kept.pairs.forward w h
      ∙ (filter_same (λ k. belongs s.zones j.pairs false (permit_at permits k) w) (λ k. straight (pair_at j.pairs w) (permit_at permits k)) (numbers_below (length permits)) (λ k m. forward_test w (permit_at permits k) (pair_wanted w h).1)
      ∙ sym (places_are (straight (pair_at j.pairs w)) permits))

  replied_is : (w : ℕ) → w < length j.pairs → row_at j.replied w ≡ filter (λ k. has_replies (permit_at permits k).box) (permits_between permits (pair_at j.pairs w).1 (pair_at j.pairs w).0)
  replied_is w h =
      let e = pair_at j.pairs w in
      kept.pairs.replied w h
      ∙ (filter_same (λ k. belongs s.zones j.pairs true (permit_at permits k) w) (λ k. turned e (permit_at permits k) && has_replies (permit_at permits k).box) (numbers_below (length permits)) (λ k m. back_test w (permit_at permits k) (pair_wanted w h).1)
      ∙ (sym (filter_twice (λ k. turned e (permit_at permits k)) (λ k. has_replies (permit_at permits k).box) (numbers_below (length permits)))
      ∙ ap (filter (λ k. has_replies (permit_at permits k).box)) (sym (places_are (turned e) permits))))

  -- the permits of a pair at the interface
  numbers_are : (w : ℕ) → w < length j.pairs → numbers_at j told w ≡ permits_here s.policy permits i (named (pair_at j.pairs w))
  numbers_are w h =
      let e = pair_at j.pairs w in
      let pair = named e in
      ap (λ (xs : List ℕ). let n : PairNumbers = record { pair = pair; forward = xs; mirrored = cond told (row_at j.replied w) [] } in n) (forward_is w h)
      ∙ ap (λ (xs : List ℕ). let n : PairNumbers = record { pair = pair; forward = permits_between permits e.0 e.1; mirrored = cond told xs [] } in n) (replied_is w h)

  -- ---- which pairs are kept

  abbrev on : ℕ × ℕ → Bool
  on e = is_on_path s i (named e)

  some_item : (xs : List ℕ) → not (is_nothing xs) ≡ true → (x : ℕ) × IsIn x xs
  some_item [] h = absurd (false≢true h)
  some_item (x ∷ xs) h = (x, inl refl)

  in_permits : (test : Permit → Bool) (k : ℕ) → IsIn k (places_where test permits) → IsIn (permit_at permits k) permits × (test (permit_at permits k) ≡ true)
  in_permits test k h =
      let w = from_filter (λ k. test (permit_at permits k)) k (numbers_below (length permits)) (subst (IsIn k) (places_are test permits) h) in
      let below = below_count (length permits) k w.0 in
      (contains_in permits (permit_at permits k) (k, below, get_or_default permits k (permit_at permits k) no_permit below), w.1)

  joined_forward : (e : ℕ × ℕ) (k : ℕ) → IsIn k (permits_between permits e.0 e.1) → is_joined permits (named e) ≡ true
  joined_forward e k m =
      let q = in_permits (straight e) k m in
      some_of (λ q. straight e q || turned e q) (permit_at permits k) permits q.0 (or_left (straight e (permit_at permits k)) (turned e (permit_at permits k)) q.1)

  joined_back : (e : ℕ × ℕ) (k : ℕ) → IsIn k (replied_between s.policy permits i (named e)) → is_joined permits (named e) ≡ true
  joined_back e k m = go told m
    where
      go : (b : Bool) → IsIn k (cond b (filter (λ k. has_replies (permit_at permits k).box) (permits_between permits e.1 e.0)) []) → is_joined permits (named e) ≡ true
      go false m = absurd m
      go true m =
          let n = from_filter (λ k. has_replies (permit_at permits k).box) k (permits_between permits e.1 e.0) m in
          let q = in_permits (turned e) k n.0 in
          some_of (λ q. straight e q || turned e q) (permit_at permits k) permits q.0 (or_right (straight e (permit_at permits k)) (turned e (permit_at permits k)) q.1)

  way_differs : (e : ℕ × ℕ) → on e ≡ true → (zone_of s e.0 == zone_of s e.1) ≡ false
  way_differs e h =
      let path = some_in (λ path. list_any (λ c. c.enter == i) path) (allowed_walks s (zone_of s e.0) (zone_of s e.1)) h in
      not-true (zone_of s e.0 == zone_of s e.1)
      (parts_of s (zone_of s e.0) (zone_of s e.1) path.0 (from_filter (is_allowed_walk s (zone_of s e.0) (zone_of s e.1)) path.0 (all_paths s) path.1).1).elsewhere

  -- a pair with a line has a permit
  lines_joined : (e : ℕ × ℕ) (l : Line) → IsIn l (lines_between s.policy here permits (permits_here s.policy permits i (named e))) → is_joined permits (named e) ≡ true
  lines_joined e l m =
      let forth = forward_lines s.policy here permits in
      let back = mirrored_lines s.policy here permits in
      ⊎_elim (λ f. let k = from_flat_map forth l (permits_between permits e.0 e.1) f in joined_forward e k.0 k.1)
      (λ f. let k = from_flat_map back l (replied_between s.policy permits i (named e)) f in joined_back e k.0 k.1)
      (in_either l (flat_map forth (permits_between permits e.0 e.1)) (flat_map back (replied_between s.policy permits i (named e))) m)

  -- ---- which pairs are closed

  abbrev inner : ℕ × ℕ → PairNumbers
  inner e = permits_here s.policy permits i (named e)

  abbrev reached_from : NetPair → PairNumbers → PairNumbers → Bool
  reached_from pair own outer = encloses_in s.policy here outer.pair pair && list_any (reaches_pair s.policy here permits own) (lines_between s.policy here permits outer)

  abbrev closed_by : ℕ × ℕ → NetPair → Bool
  closed_by e outer = reached_from (named e) (inner e) (permits_here s.policy permits i outer)

  closed_law : (e : ℕ × ℕ) → is_closed s v permits i (named e) ≡ list_any (closed_by e) (pairs_on_path s i)
  closed_law e = refl

  -- a pair on path with a line that reaches into another one
  record IsOuter (e : ℕ × ℕ) : Type 0 where
    pub pair : ℕ × ℕ
    pub there : IsIn pair all
    pub on_path : on pair ≡ true
    pub round : encloses_in s.policy here (named pair) (named e) ≡ true
    pub joined : is_joined permits (named pair) ≡ true
    pub closes : closed_by e (named pair) ≡ true

  outer_of : (e : ℕ × ℕ) (outer : NetPair) → IsIn outer (pairs_on_path s i) → closed_by e outer ≡ true → IsOuter e
  outer_of e outer m h =
      let w = from_filter (is_on_path s i) outer (all_pairs s.policy) m in
      let f = from_map named outer all w.0 in
      let closes : closed_by e (named f.0) ≡ true = subst (λ (o : NetPair). closed_by e o ≡ true) f.2 h in
      let parts = and_parts (encloses_in s.policy here (named f.0) (named e)) (list_any (reaches_pair s.policy here permits (inner e)) (lines_between s.policy here permits (inner f.0))) closes in
      let line = some_in (reaches_pair s.policy here permits (inner e)) (lines_between s.policy here permits (inner f.0)) parts.1 in
      record {
        pair = f.0;
        there = f.1;
        on_path = subst (λ (o : NetPair). is_on_path s i o ≡ true) f.2 w.1;
        round = parts.0;
        joined = lines_joined f.0 line.0 line.1;
        closes = closes;
      }

  outer_wanted : (e : ℕ × ℕ) (o : IsOuter e) → wanted o.pair ≡ true
  outer_wanted e o = joined_concerned s v permits o.pair o.there o.joined (way_differs o.pair o.on_path)

  -- what is part of something is there, and so is that
  part_seen : (q r : Option Cidr) → is_part_of q r ≡ true → is_some r ≡ true
  part_seen (Some q) (Some r) h = refl
  part_seen (Some q) None h = absurd (false≢true h)
  part_seen None (Some r) h = absurd (false≢true h)
  part_seen None None h = absurd (false≢true h)

  round_seen : (outer e : NetPair) → encloses_in s.policy here outer e ≡ true → is_seen s.policy here outer ≡ true
  round_seen outer e h =
      let a = (and_parts (not ((outer.src == e.src) && (outer.dst == e.dst))) (is_round s.policy here outer e) h).1 in
      let b = and_parts (is_part_of (prefix_in s.policy here e.src) (prefix_in s.policy here outer.src)) (is_part_of (prefix_in s.policy here e.dst) (prefix_in s.policy here outer.dst)) a in
      and_from (is_some (prefix_in s.policy here outer.src)) (is_some (prefix_in s.policy here outer.dst))
      (part_seen (prefix_in s.policy here e.src) (prefix_in s.policy here outer.src) b.0)
      (part_seen (prefix_in s.policy here e.dst) (prefix_in s.policy here outer.dst) b.1)

  -- that pair has its place in the row
  outer_place : (e : ℕ × ℕ) (o : IsOuter e) → (x : ℕ) × IsIn x row × (◌≡◌ {A = ℕ × ℕ} (pair_at j.pairs x) o.pair)
  outer_place e o =
      let c = in_contains j.pairs o.pair (subst (IsIn o.pair) (sym kept.pairs.pairs) (in_filter wanted o.pair all o.there (outer_wanted e o))) in
      let is : ◌≡◌ {A = ℕ × ℕ} (pair_at j.pairs c.0) o.pair = get_or_default j.pairs c.0 (0, 0) o.pair c.1 ∙ c.2 in
      let on_way = in_filter (is_on_way s j.pairs i) c.0 (numbers_below (length j.pairs)) (in_numbers (length j.pairs) c.0 c.1) (subst (λ (p : ℕ × ℕ). on p ≡ true) (sym is) o.on_path) in
      (c.0, in_filter seen c.0 way on_way (subst (λ (p : ℕ × ℕ). is_seen s.policy here (named p) ≡ true) (sym is) (round_seen (named o.pair) (named e) o.round)), is)

  row_closes : (e : ℕ × ℕ) (x : ℕ) → x < length j.pairs → reached_from (named e) (inner e) (numbers_at j told x) ≡ closed_by e (named (pair_at j.pairs x))
  row_closes e x h = ap (reached_from (named e) (inner e)) (numbers_are x h)

  closed_in_row : (e : ℕ × ℕ) → list_any (λ x. reached_from (named e) (inner e) (numbers_at j told x)) row ≡ list_any (closed_by e) (pairs_on_path s i)
  closed_in_row e =
      let test = λ (x : ℕ). reached_from (named e) (inner e) (numbers_at j told x) in
      same_truth (list_any test row) (list_any (closed_by e) (pairs_on_path s i))
      (λ t.
      let x = some_in test row t in
      let m = from_filter (is_on_way s j.pairs i) x.0 (numbers_below (length j.pairs)) (from_filter seen x.0 way x.1).0 in
      let below = below_count (length j.pairs) x.0 m.0 in
      let p = pair_at j.pairs x.0 in
      some_of (closed_by e) (named p) (pairs_on_path s i) (in_filter (is_on_path s i) (named p) (all_pairs s.policy) (in_map named p all (pair_wanted x.0 below).0) m.1) (sym (row_closes e x.0 below) ∙ x.2))
      (λ t.
      let o = some_in (closed_by e) (pairs_on_path s i) t in
      let outer = outer_of e o.0 o.1 o.2 in
      let x = outer_place e outer in
      let below = below_count (length j.pairs) x.0 (from_filter (is_on_way s j.pairs i) x.0 (numbers_below (length j.pairs)) (from_filter seen x.0 way x.1).0).0 in
      some_of test x.0 row x.1 (row_closes e x.0 below ∙ (ap (λ (p : ℕ × ℕ). closed_by e (named p)) x.2 ∙ outer.closes)))

  -- a pair is closed just where a pair of the row closes it
  closed_is : (w : ℕ) → w < length j.pairs → shut w ≡ is_closed s v permits i (named (pair_at j.pairs w))
  closed_is w h =
      let e = pair_at j.pairs w in
      list_any_map (reached_from (named e) (numbers_at j told w)) (numbers_at j told) row
      ∙ (ap (λ (own : PairNumbers). list_any (λ (x : ℕ). reached_from (named e) own (numbers_at j told x)) row) (numbers_are w h)
      ∙ (closed_in_row e ∙ sym (closed_law e)))

  block_is : (w : ℕ) → w < length j.pairs → block_at j told (w, shut w) ≡ block_for (pair_at j.pairs w)
  block_is w h =
      let e = pair_at j.pairs w in
      let pair = named e in
      ap (λ (xs : List ℕ). let b : Block = record { pair = pair; forward = xs; mirrored = cond told (row_at j.replied w) []; closed = shut w } in b) (forward_is w h)
      ∙ (ap (λ (xs : List ℕ). let b : Block = record { pair = pair; forward = permits_between permits e.0 e.1; mirrored = cond told xs []; closed = shut w } in b) (replied_is w h)
      ∙ ap (λ (c : Bool). let b : Block = record { pair = pair; forward = permits_between permits e.0 e.1; mirrored = replied_between s.policy permits i pair; closed = c } in b) (closed_is w h))

  -- ---- which pairs are placed

  abbrev need : ℕ × ℕ → Bool
  need e = is_needed s v permits i (block_for e)

  abbrev deep : ℕ → ℕ × ℕ → Bool
  deep k e = depth_of s v permits i (named e) == 64 - k

  abbrev passes : ℕ → ℕ × ℕ → Bool
  passes k e = (on e && need e) && deep k e

  -- a closed pair lies within one that a permit joins
  closed_wanted : (e : ℕ × ℕ) → on e ≡ true → is_closed s v permits i (named e) ≡ true → wanted e ≡ true
  closed_wanted e o h =
      let c = some_in (closed_by e) (pairs_on_path s i) (sym (closed_law e) ∙ h) in
      let outer = outer_of e c.0 c.1 c.2 in
      let p = outer.pair in
      let apart : not (zone_of s p.0 == zone_of s p.1) ≡ true = not_from_false (zone_of s p.0 == zone_of s p.1) (way_differs p outer.on_path) in
      let pair : is_joined_pair s permits (named p) ≡ true = and_from (is_joined permits (named p)) (not (zone_of s p.0 == zone_of s p.1)) outer.joined apart in
      let round = (and_parts (not ((p.0 == e.0) && (p.1 == e.1))) (is_round s.policy here (named p) (named e)) outer.round).1 in
      let zone = some_of (λ z. is_round s.policy (zone_view v z) (named p) (named e)) (zone_at s i) (numbers_below (zone_count s)) (in_numbers (zone_count s) (zone_at s i) kept.zone) round in
      let within = some_of (λ outer. is_joined_pair s permits outer && list_any (λ z. is_round s.policy (zone_view v z) outer (named e)) (numbers_below (zone_count s))) (named p) (all_pairs s.policy) (in_map named p all outer.there)
      (and_from (is_joined_pair s permits (named p)) (list_any (λ z. is_round s.policy (zone_view v z) (named p) (named e)) (numbers_below (zone_count s))) pair zone) in
      and_from (not (zone_of s e.0 == zone_of s e.1)) (is_concerned s v permits (named e)) (not_from_false (zone_of s e.0 == zone_of s e.1) (way_differs e o)) (or_right (is_joined_pair s permits (named e)) _ within)

  passed_wanted : (k : ℕ) (e : ℕ × ℕ) → IsIn e all → passes k e ≡ true → wanted e ≡ true
  passed_wanted k e h t =
      let a = and_parts (on e && need e) (deep k e) t in
      let b = and_parts (on e) (need e) a.0 in
      let c = and_parts (is_seen s.policy here (named e)) (not (is_nothing (permits_between permits e.0 e.1)) || not (is_nothing (replied_between s.policy permits i (named e))) || is_closed s v permits i (named e)) b.1 in
      let joined = λ (m : is_joined permits (named e) ≡ true). joined_concerned s v permits e h m (way_differs e b.0) in
      ⊎_elim
      (λ f. ⊎_elim (λ g. let k = some_item (permits_between permits e.0 e.1) g in joined (joined_forward e k.0 k.1)) (λ g. let k = some_item (replied_between s.policy permits i (named e)) g in joined (joined_back e k.0 k.1))
      (or_cases (not (is_nothing (permits_between permits e.0 e.1))) (not (is_nothing (replied_between s.policy permits i (named e)))) f))
      (λ f. closed_wanted e b.0 f)
      (or_cases (not (is_nothing (permits_between permits e.0 e.1)) || not (is_nothing (replied_between s.policy permits i (named e)))) (is_closed s v permits i (named e)) c.1)

  -- ---- one depth

  defined_at : (k : ℕ) → filter (λ b. depth_of s v permits i b.pair == 64 - k) (filter (is_needed s v permits i) (map (block_of s v permits i) (pairs_on_path s i))) ≡ map block_for (filter (passes k) all)
  defined_at k =
      let D = λ (b : Block). depth_of s v permits i b.pair == 64 - k in
      let N = is_needed s v permits i in
      ap (λ es. filter D (filter N (map (block_of s v permits i) es))) (filter_map (is_on_path s i) named all)
      ∙ (ap (λ bs. filter D (filter N bs)) (map_map (block_of s v permits i) named (filter on all))
      ∙ (ap (filter D) (filter_map N block_for (filter on all))
      ∙ (filter_map D block_for (filter need (filter on all))
      ∙ ap (map block_for) (ap (filter (deep k)) (filter_twice on need all) ∙ filter_twice (λ e. on e && need e) (deep k) all))))

  same_deep : (a b : ℕ) → a ≤ 64 → b ≤ 64 → (64 - a == b) ≡ (a == 64 - b)
  same_deep a b ha hb =
      same_truth (64 - a == b) (a == 64 - b)
      (λ t. let e = eqb-true (64 - a) b t in eq-eqb a (64 - b) (omega (arith, e, ha, hb)))
      (λ t. let e = eqb-true a (64 - b) t in eq-eqb (64 - a) b (omega (arith, e, ha, hb)))

  deep_is : (k : ℕ) (e : ℕ × ℕ) → k < 65 → IsIn e all → is_seen s.policy here (named e) ≡ true → (shallow s.policy e == k) ≡ deep k e
  deep_is k e hk h visible =
      let there = pair_there s (named e) (in_map named e all h) in
      let two = and_parts (is_some (prefix_in s.policy here e.0)) (is_some (prefix_in s.policy here e.1)) visible in
      let a = (kept.lengths e.0 there.src).length_is two.0 in
      let b = (kept.lengths e.1 there.dst).length_is two.1 in
      let x = (kept.lengths e.0 there.src).short in
      let y = (kept.lengths e.1 there.dst).short in
      same_deep ((net_of s.policy e.0).own.len + (net_of s.policy e.1).own.len) k (omega (arith, x, y)) (omega (arith, hk))
      ∙ ap (λ (d : ℕ). d == 64 - k) (let f : (net_of s.policy e.0).own.len + (net_of s.policy e.1).own.len ≡ depth_of s v permits i (named e) = omega (arith, a, b) in f)

  -- a seen pair on path with a filled block, at its depth
  passes_is : (a b c d f : Bool) → (b ≡ true → d ≡ f) → (a && (b && (c && d))) ≡ ((a && (b && c)) && f)
  passes_is true true true d f h = h refl
  passes_is true true false d f h = refl
  passes_is true false c d f h = refl
  passes_is false b c d f h = refl

  abbrev with_shut : ℕ → ℕ × Bool
  with_shut w = (w, shut w)

  kept_at : (k : ℕ) → k < 65 → map (block_at j told) (bucket s.policy j told (told_closed s.policy here permits j told row) k) ≡ map block_for (filter (passes k) all)
  kept_at k hk =
      let count = length j.pairs in
      let X = numbers_below count in
      let P = pair_at j.pairs in
      let inside = λ (w : ℕ) (m : IsIn w X). below_count count w m in
      ap (map (block_at j told)) (filter_map (is_in_bucket s.policy j told k) with_shut row)
      ∙ (map_map (block_at j told) with_shut (filter (λ w. is_in_bucket s.policy j told k (with_shut w)) row)
      ∙ (ap (map (λ w. block_at j told (with_shut w)))
      (filter_twice seen (λ w. is_in_bucket s.policy j told k (with_shut w)) way
      ∙ (filter_twice (is_on_way s j.pairs i) (λ w. seen w && is_in_bucket s.policy j told k (with_shut w)) X
      ∙ filter_same (λ w. is_on_way s j.pairs i w && (seen w && is_in_bucket s.policy j told k (with_shut w))) (λ w. passes k (P w)) X
      (λ w m.
      let e = P w in
      let there = (pair_wanted w (inside w m)).0 in
      let filled : is_filled (block_at j told (with_shut w)) ≡ is_filled (block_for e) = ap is_filled (block_is w (inside w m)) in
      ap (λ b. on e && (seen w && (b && (shallow s.policy e == k)))) filled
      ∙ passes_is (on e) (seen w) (is_filled (block_for e)) (shallow s.policy e == k) (deep k e) (λ t. deep_is k e hk there t))))
      ∙ (map_same (λ w. block_at j told (with_shut w)) (λ w. block_for (P w)) (filter (λ w. passes k (P w)) X) (λ w m. block_is w (inside w (from_filter (λ w. passes k (P w)) w X m).0))
      ∙ (sym (map_map block_for P (filter (λ w. passes k (P w)) X))
      ∙ ap (map block_for)
      (sym (filter_map (passes k) P X)
      ∙ (ap (filter (passes k)) (sym (fill_by_all P j.pairs count (0, 0) refl (λ n h. refl)) ∙ kept.pairs.pairs)
      ∙ (filter_twice wanted (passes k) all
      ∙ filter_same (λ e. wanted e && passes k e) (passes k) all
      (λ e m. same_truth (wanted e && passes k e) (passes k e) (λ t. (and_parts (wanted e) (passes k e) t).1) (λ t. and_from (wanted e) (passes k e) (passed_wanted k e m t) t)))))))))

  pub placed_is : placed s.policy j told (told_closed s.policy here permits j told row) ≡ placement s v permits i
  placed_is =
      flat_map_same (λ k. map (block_at j told) (bucket s.policy j told (told_closed s.policy here permits j told row) k))
      (λ k. filter (λ b. depth_of s v permits i b.pair == 64 - k) (filter (is_needed s v permits i) (map (block_of s v permits i) (pairs_on_path s i)))) (numbers_below 65)
      (λ k m. kept_at k (below_count 65 k m) ∙ sym (defined_at k))
