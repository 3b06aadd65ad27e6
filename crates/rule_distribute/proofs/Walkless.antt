-- A pair lacks a walk just where a permit has no path.
use Rattle.std.proofs.Common.{◌≡◌, ℕ, ◌<◌, ◌≤◌, inl, Bool, true, false, not, ◌&&◌, ◌||◌, List, [], ◌∷◌, length, refl, sym, ap, subst, ◌∙◌, ⊎_elim, arith, slice_index}
use Rattle.std.specs.Prelude.{◌==◌}
use Rattle.std.specs.List.{list_any}
use Rattle.std.proofs.lemmas.Bool.{false≢true, cases_lt, and_parts, and_from, or_left, eqb-true, eq-eqb, not-true, false_from_ne_true}
use Rattle.std.proofs.lemmas.List.{get_or_default}
use Rattle.policy_model.specs.Lists.{numbers_below, is_nothing}
use Rattle.policy_model.specs.Zones.{Site, zone_of}
use Rattle.policy_model.specs.Tags.{Views}
use Rattle.policy_model.specs.Walks.{allowed_walks}
use Rattle.policy_model.specs.Permits.{Permit, has_replies}
use Rattle.policy_model.specs.Blocks.{permit_at, no_permit}
use Rattle.policy_model.specs.Faults.{has_no_path}
use Rattle.policy_model.proofs.AllWalks.{IsIn, in_filter, in_numbers}
use Rattle.list_laws.proofs.Members.{from_filter, some_in, some_of}
use Rattle.permit_lines.specs.Given.{AreKnown}
use Rattle.rule_distribute.specs.Lacking.{lacks_walk, IsFirstLacking, NoneLacks}
use Rattle.rule_distribute.specs.Pairs.{IsBefore}
use Rattle.rule_distribute.specs.Placed.{Pairs, row_at, HaveRows, ArePairsOf}
use Rattle.rule_distribute.specs.Rows.{pair_at, ends_of, same_pair, belongs}
use Rattle.rule_distribute.proofs.Rising.{contains_in, in_contains}
use Rattle.rule_distribute.proofs.Concerns.{below_count, joined_listed}
use Rattle.rule_distribute.proofs.NetPairs.{ends_there, by}
use Rattle.rule_distribute.proofs.Joining.{pairs_in_order}

-- the permit goes between these networks, and has no path
abbrev pub is_at : Site → ℕ → ℕ → Permit → Bool
is_at s u w q = (q.src.net == u) && (q.dst.net == w) && has_no_path s q

-- Some permit without a path goes between these networks, and none goes between lesser ones.
pub record IsFirstWithout (s : Site) (permits : List Permit) (u w : ℕ) : Type 0 where
  pub there : list_any (is_at s u w) permits ≡ true
  pub least : (x y : ℕ) → list_any (is_at s x y) permits ≡ true → x < u → ⊥
  pub next : (x y : ℕ) → list_any (is_at s x y) permits ≡ true → x ≡ u → y < w → ⊥

some_item : (xs : List ℕ) → not (is_nothing xs) ≡ true → (x : ℕ) × IsIn x xs
some_item [] h = absurd (false≢true h)
some_item (x ∷ xs) h = (x, inl refl)

filled : (xs : List ℕ) (x : ℕ) → IsIn x xs → not (is_nothing xs) ≡ true
filled [] x i = absurd i
filled (y ∷ ys) x i = refl

module _ (s : Site) (v : Views) (permits : List Permit) (j : Pairs) (given : AreKnown s.policy permits) (are : ArePairsOf s v permits j) where
  record IsLackingFor (q : Permit) : Type 0 where
    pub place : ℕ
    pub below : place < length j.pairs
    pub is : ◌≡◌ {A = ℕ × ℕ} (pair_at j.pairs place) (q.src.net, q.dst.net)
    pub lacks : lacks_walk s j place ≡ true

  -- the pair of a permit without a path
  lacking_for : (q : Permit) → IsIn q permits → has_no_path s q ≡ true → IsLackingFor q
  lacking_for q i h =
      let from = zone_of s q.src.net in
      let to = zone_of s q.dst.net in
      let p = and_parts (not (from == to)) (is_nothing (allowed_walks s from to)) h in
      let ends = ends_there s permits given q i in
      let e : ℕ × ℕ = (q.src.net, q.dst.net) in
      let same : ((q.src.net == e.0) && (q.dst.net == e.1)) ≡ true = and_from (q.src.net == e.0) (q.dst.net == e.1) (eq-eqb q.src.net e.0 refl) (eq-eqb q.dst.net e.1 refl) in
      let joined = by s permits given q (record { src = e.0; dst = e.1 }) i (or_left _ _ same) in
      let here = joined_listed s v permits e ends.src ends.dst joined (not-true (from == to) p.0) in
      let c = in_contains j.pairs e (subst (IsIn e) (sym are.pairs) here) in
      let is : ◌≡◌ {A = ℕ × ℕ} (pair_at j.pairs c.0) e = get_or_default j.pairs c.0 (0, 0) e c.1 ∙ c.2 in
      let d = in_contains permits q i in
      let at : permit_at permits d.0 ≡ q = get_or_default permits d.0 no_permit q d.1 ∙ d.2 in
      let its : belongs s.zones j.pairs false q c.0 ≡ true = and_from _ _ (and_from _ _ p.0 refl) (ap (same_pair e) is ∙ same) in
      let truth : belongs s.zones j.pairs false (permit_at permits d.0) c.0 ≡ true = ap (λ (x : Permit). belongs s.zones j.pairs false x c.0) at ∙ its in
      let listed_there = in_filter (λ k. belongs s.zones j.pairs false (permit_at permits k) c.0) d.0 (numbers_below (length permits)) (in_numbers (length permits) d.0 d.1) truth in
      record {
        place = c.0;
        below = c.1;
        is = is;
        lacks = and_from _ _ (filled (row_at j.forward c.0) d.0 (subst (IsIn d.0) (sym (are.forward c.0 c.1)) listed_there))
            (ap (λ (x : ℕ × ℕ). is_nothing (allowed_walks s (zone_of s x.0) (zone_of s x.1))) is ∙ p.1);
      }

  pub none_without : NoneLacks s j → (q : Permit) → IsIn q permits → has_no_path s q ≡ false
  none_without none q i = false_from_ne_true (has_no_path s q) (λ t. let l = lacking_for q i t in false≢true (sym (none l.place l.below) ∙ l.lacks))

  -- a permit of a pair that lacks a walk
  without_at : (w : ℕ) → w < length j.pairs → lacks_walk s j w ≡ true → list_any (is_at s (pair_at j.pairs w).0 (pair_at j.pairs w).1) permits ≡ true
  without_at w below h =
      let e = pair_at j.pairs w in
      let p = and_parts (not (is_nothing (row_at j.forward w))) (is_nothing (allowed_walks s (zone_of s e.0) (zone_of s e.1))) h in
      let k = some_item (row_at j.forward w) p.0 in
      let m = from_filter (λ k. belongs s.zones j.pairs false (permit_at permits k) w) k.0 (numbers_below (length permits)) (subst (IsIn k.0) (are.forward w below) k.1) in
      let q = permit_at permits k.0 in
      let there = below_count (length permits) k.0 m.0 in
      let a = and_parts (not (slice_index s.zones q.src.net == slice_index s.zones q.dst.net) && (not false || has_replies q.box)) (same_pair (ends_of false q) e) m.1 in
      let differ = (and_parts (not (slice_index s.zones q.src.net == slice_index s.zones q.dst.net)) (not false || has_replies q.box) a.0).0 in
      let ends = and_parts (q.src.net == e.0) (q.dst.net == e.1) a.1 in
      let none = ap (λ n. is_nothing (allowed_walks s (zone_of s n) (zone_of s q.dst.net))) (eqb-true q.src.net e.0 ends.0)
      ∙ (ap (λ n. is_nothing (allowed_walks s (zone_of s e.0) (zone_of s n))) (eqb-true q.dst.net e.1 ends.1) ∙ p.1) in
      some_of (is_at s e.0 e.1) q permits (contains_in permits q (k.0, there, get_or_default permits k.0 q no_permit there)) (and_from _ _ a.1 (and_from _ _ differ none))

  -- the pairs of permits without a path, in order
  not_before : (e : ℕ × ℕ) (first : IsFirstLacking s j e) (x y : ℕ) → list_any (is_at s x y) permits ≡ true → (x < e.0 → ⊥) × (x ≡ e.0 → y < e.1 → ⊥)
  not_before e first x y h =
      let q = some_in (is_at s x y) permits h in
      let a = and_parts ((q.0.src.net == x) && (q.0.dst.net == y)) (has_no_path s q.0) q.2 in
      let b = and_parts (q.0.src.net == x) (q.0.dst.net == y) a.0 in
      let l = lacking_for q.0 q.1 a.1 in
      let u : (pair_at j.pairs l.place).0 ≡ x = ap (λ (z : ℕ × ℕ). z.0) l.is ∙ eqb-true q.0.src.net x b.0 in
      let n : (pair_at j.pairs l.place).1 ≡ y = ap (λ (z : ℕ × ℕ). z.1) l.is ∙ eqb-true q.0.dst.net y b.1 in
      let s0 : (pair_at j.pairs first.place).0 ≡ e.0 = ap (λ (z : ℕ × ℕ). z.0) first.is in
      let s1 : (pair_at j.pairs first.place).1 ≡ e.1 = ap (λ (z : ℕ × ℕ). z.1) first.is in
      ⊎_elim (λ (lt : l.place < first.place). absurd (false≢true (sym (first.first l.place lt) ∙ l.lacks)))
      (λ (le : first.place ≤ l.place).
      ⊎_elim
      (λ (lt : first.place < l.place).
      let before : IsBefore (pair_at j.pairs first.place) (pair_at j.pairs l.place) = pairs_in_order s v permits j are first.place l.place (0, 0) lt l.below in (
        ⊎_elim (λ low g. let z : ⊥ = omega (arith, low, g, u, s0) in z) (λ low g. let f = low.0 in let z : ⊥ = omega (arith, f, g, u, s0) in z) before,
        ⊎_elim (λ low g k. let z : ⊥ = omega (arith, low, g, u, s0) in z) (λ low g k. let f = low.1 in let z : ⊥ = omega (arith, f, k, n, s1) in z) before,
      ))
      (λ (back : l.place ≤ first.place).
      let same : first.place ≡ l.place = omega (arith, le, back) in
      let t0 : (pair_at j.pairs first.place).0 ≡ (pair_at j.pairs l.place).0 = ap (λ (n : ℕ). (pair_at j.pairs n).0) same in
      let t1 : (pair_at j.pairs first.place).1 ≡ (pair_at j.pairs l.place).1 = ap (λ (n : ℕ). (pair_at j.pairs n).1) same in (
        λ g. let z : ⊥ = omega (arith, g, u, s0, t0) in z,
        λ g k. let z : ⊥ = omega (arith, k, n, s1, t1) in z,
      ))
      (cases_lt first.place l.place))
      (cases_lt l.place first.place)

  pub first_without : (e : ℕ × ℕ) → IsFirstLacking s j e → IsFirstWithout s permits e.0 e.1
  first_without e first =
      record {
        there = subst (λ (x : ℕ × ℕ). list_any (is_at s x.0 x.1) permits ≡ true) first.is (without_at first.place first.below first.lacks);
        least = λ x y h. (not_before e first x y h).0;
        next = λ x y h. (not_before e first x y h).1;
      }

-- the networks of a pair that lacks a walk are there
pub lacking_there : (s : Site) (j : Pairs) (e : ℕ × ℕ) → HaveRows s.policy j → IsFirstLacking s j e → (e.0 < length s.policy.nets) × (e.1 < length s.policy.nets)
lacking_there s j e rows first = (
  subst (λ (x : ℕ × ℕ). x.0 < length s.policy.nets) first.is (rows.src first.place first.below),
  subst (λ (x : ℕ × ℕ). x.1 < length s.policy.nets) first.is (rows.dst first.place first.below),
)
