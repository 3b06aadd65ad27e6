-- What a sound policy says of its areas, and their zones.
use Rattle.std.proofs.Common.{◌≡◌, ℕ, zero, suc, ◌+◌, ◌<◌, ◌≤◌, Bool, true, false, not, cond, ◌&&◌, ◌||◌, List, [], ◌∷◌, length, refl, sym, ap, subst, ◌∙◌, ⊎_elim, arith, slice_index, slice_index_or}
use Rattle.std.specs.Prelude.{◌==◌, nat_lt, filter, Option, Some, None, is_some, IfSome}
use Rattle.std.specs.List.{list_all, range_with_len, All}
use Rattle.std.specs.List.Sorted.{IsStrictlyIncreasing}
use Rattle.std.proofs.lemmas.List.Kept.{IsStrictlyIncreasing-filter}
use Rattle.std.proofs.lemmas.List.Elements.{All-nil, All-cons}
use Rattle.std.proofs.lemmas.Bool.{and_parts, or_cases, eqb-true, false≢true, cases_Bool, ltb-true}
use Rattle.spoc_base.specs.declared.ids.IfId.{IfId}
use Rattle.policy_model.specs.Lists.{has, numbers_below, is_nothing}
use Rattle.policy_model.specs.Policy.{Policy, Area, no_area, area_of, router_at, is_managed}
use Rattle.policy_model.specs.Paths.{Crossing, leads, crosses_managed}
use Rattle.policy_model.specs.Zones.{Site, zone_at, zone_of}
use Rattle.policy_model.specs.Objects.{IsInArea, inside_borders, start_of}
use Rattle.topology.specs.Sound.{IsSound, are_below}
use Rattle.group_expand.specs.Seen.{iface_numbers}
use Rattle.group_expand.specs.Spread.{marked, inside_marks, Spreads, AreMarksOf, AreSpread}
use Rattle.group_expand.specs.Areas.{IsAreaRow, IsFirst, is_outside, is_cut_off}
use Rattle.group_expand.proofs.Marks.{marked_below, row_has}

-- ---- words

same_bool : (a b : Bool) → (a ≡ true → b ≡ true) → (b ≡ true → a ≡ true) → a ≡ b
same_bool true b f g = sym (f refl)
same_bool false true f g = g refl
same_bool false false f g = refl

kept : (test : ℕ → Bool) (x y : ℕ) (rest : List ℕ) (b : Bool) → test y ≡ b → (has rest x ≡ true → test x ≡ true) → has (cond b (y ∷ rest) rest) x ≡ true → test x ≡ true
kept test x y rest true e later h = ⊎_elim (λ same. sym (ap test (eqb-true y x same)) ∙ e) later (or_cases (y == x) (has rest x) h)
kept test x y rest false e later h = later h

passes_in : (test : ℕ → Bool) (x : ℕ) (xs : List ℕ) → has (filter test xs) x ≡ true → test x ≡ true
passes_in test x [] h = absurd (false≢true h)
passes_in test x (y ∷ ys) h = kept test x y (filter test ys) (test y) refl (passes_in test x ys) h

from_row : (test : ℕ → Bool) (n x : ℕ) → has (filter test (numbers_below n)) x ≡ true → test x ≡ true
from_row test n x h = passes_in test x (numbers_below n) h

range_from : (a n : ℕ) → (k : ℕ) → k < n → slice_index (range_with_len a n) k ≡ a + k
range_from a zero k h = absurd (omega (arith, h))
range_from a (suc n) zero h = omega arith
range_from a (suc n) (suc k) h = let e = range_from (a + 1) n k (omega (arith, h)) in omega (arith, e)

range_long : (a n : ℕ) → length (range_with_len a n) ≡ n
range_long a zero = refl
range_long a (suc n) = ap suc (range_long (a + 1) n)

numbers_rise : (n : ℕ) → IsStrictlyIncreasing (numbers_below n)
numbers_rise n k h =
    let long = range_long 0 n in
    let a = range_from 0 n k (omega (arith, h, long)) in
    let b = range_from 0 n (k + 1) (omega (arith, h, long)) in
    omega (arith, a, b)

-- ---- soundness

pub anchor_there : (p : Policy) (k n : ℕ) → IsSound p → k < length p.areas → (area_of p k).anchor ≡ Some n → n < length p.nets
anchor_there p k n sound h e = subst (λ (o : Option ℕ). IfSome o (λ m. m < length p.nets)) e (sound.numbered.anchors k h)

all_below : (count : ℕ) (ids : List IfId) → are_below count (iface_numbers ids) ≡ true → All (λ i. i.0 < count) ids
all_below count [] h = All-nil (λ (i : IfId). i.0 < count)
all_below count (i ∷ ids) h =
    let a = and_parts (nat_lt i.0 count) (are_below count (iface_numbers ids)) h in
    All-cons (λ (i : IfId). i.0 < count) i ids (ltb-true i.0 count a.0) (all_below count ids a.1)

pub borders_there : (p : Policy) (k : ℕ) (ids : List IfId) → IsSound p → k < length p.areas → (area_of p k).borders ≡ iface_numbers ids → All (λ i. i.0 < length p.ifaces) ids
borders_there p k ids sound h e = all_below (length p.ifaces) ids (subst (λ (xs : List ℕ). are_below (length p.ifaces) xs ≡ true) e (sound.numbered.borders k h))

at_each : (test : Area → Bool) (areas : List Area) (k : ℕ) → k < length areas → list_all test areas ≡ true → test (slice_index_or areas k no_area) ≡ true
at_each test [] k h all = absurd (omega (arith, h))
at_each test (a ∷ areas) zero h all = (and_parts (test a) (list_all test areas) all).0
at_each test (a ∷ areas) (suc k) h all = at_each test areas k (omega (arith, h)) (and_parts (test a) (list_all test areas) all).1

some_border : (anchor : Option ℕ) (borders : List ℕ) → anchor ≡ None → (is_some anchor || not (is_nothing borders)) ≡ true → 0 < length borders
some_border anchor [] e h = absurd (false≢true (sym (ap (λ (o : Option ℕ). is_some o || false) e) ∙ h))
some_border anchor (b ∷ borders) e h = omega arith

pub border_first : (p : Policy) (k : ℕ) → IsSound p → k < length p.areas → (area_of p k).anchor ≡ None → 0 < length (area_of p k).borders
border_first p k sound h none =
    let whole = at_each (λ a. (is_some a.anchor || not (is_nothing a.borders)) && list_all (λ i. is_managed p (router_at p i)) a.borders) p.areas k h sound.well_formed.areas in
    some_border (area_of p k).anchor (area_of p k).borders none (and_parts _ _ whole).0

-- ---- the start

-- where an area with this anchor and these borders starts
abbrev start_from : Site → Option ℕ → List ℕ → ℕ
start_from s (Some n) borders = zone_of s n
start_from s None [] = 0
start_from s None (i ∷ borders) = zone_at s i

same_start : (s : Site) (k : ℕ) → start_of s k ≡ start_from s (area_of s.policy k).anchor (area_of s.policy k).borders
same_start s k = refl

pub starts_at_anchor : (s : Site) (k n z : ℕ) → (area_of s.policy k).anchor ≡ Some n → z ≡ slice_index s.zones n → z ≡ start_of s k
starts_at_anchor s k n z e is = is ∙ sym (same_start s k ∙ ap (λ (o : Option ℕ). start_from s o (area_of s.policy k).borders) e)

first_border : (s : Site) (xs : List ℕ) → 0 < length xs → start_from s None xs ≡ zone_at s (slice_index xs 0)
first_border s [] h = absurd (omega (arith, h))
first_border s (x ∷ xs) h = refl

pub starts_at_border : (s : Site) (k z : ℕ) (borders : List ℕ) → (area_of s.policy k).anchor ≡ None → (area_of s.policy k).borders ≡ borders → 0 < length borders →
    z ≡ zone_at s (slice_index borders 0) → z ≡ start_of s k
starts_at_border s k z borders e f h is =
    is
    ∙ sym (same_start s k ∙ (ap (λ (o : Option ℕ). start_from s o (area_of s.policy k).borders) e ∙ (ap (start_from s None) f ∙ first_border s borders h)))

-- ---- the zones that are reached

module _ (s : Site) (k : ℕ) (marks : List Bool) (count : ℕ) (are : AreMarksOf marks count (area_of s.policy k).borders) where
  same_test : (c : Crossing) → inside_marks s.policy marks c ≡ inside_borders s.policy (area_of s.policy k).borders c
  same_test c =
      ap (λ (b : Bool). crosses_managed s.policy c && not b && not (marked marks c.leave)) (are.at c.enter)
      ∙ ap (λ (b : Bool). crosses_managed s.policy c && not (has (area_of s.policy k).borders c.enter) && not b) (are.at c.leave)

  same_all : (path : List Crossing) → list_all (inside_marks s.policy marks) path ≡ list_all (inside_borders s.policy (area_of s.policy k).borders) path
  same_all [] = refl
  same_all (c ∷ path) =
      ap (λ (b : Bool). b && list_all (inside_marks s.policy marks) path) (same_test c)
      ∙ ap (λ (b : Bool). inside_borders s.policy (area_of s.policy k).borders c && b) (same_all path)

  -- chains by marks are those of the area
  pub seen_in_area : (start z : ℕ) → start ≡ start_of s k → Spreads s marks start z → IsInArea s k z
  seen_in_area start z e r =
      record {
        path = r.path;
        crossings = sym (same_all r.path) ∙ r.crossings;
        ends = subst (λ (x : ℕ). leads (zone_at s) x r.path z ≡ true) e r.ends;
      }

  pub area_is_seen : (start z : ℕ) → start ≡ start_of s k → IsInArea s k z → Spreads s marks start z
  area_is_seen start z e r =
      record {
        path = r.path;
        crossings = same_all r.path ∙ r.crossings;
        ends = subst (λ (x : ℕ). leads (zone_at s) x r.path z ≡ true) (sym e) r.ends;
      }

  module _ (start : ℕ) (seen : List Bool) (most : ℕ) (begins : start ≡ start_of s k) (spread : AreSpread s marks start seen most) where
    pub marked_row : (row : List ℕ) → row ≡ filter (marked seen) (numbers_below (length seen)) → IsAreaRow s k row
    marked_row row e =
        record {
          ascending = subst IsStrictlyIncreasing (sym e) (IsStrictlyIncreasing-filter (marked seen) (numbers_below (length seen)) (numbers_rise (length seen)));
          zones = λ z. (
            λ h. seen_in_area start z begins ((spread.zones z).0 (from_row (marked seen) (length seen) z (subst (λ (xs : List ℕ). has xs z ≡ true) e h))),
            λ r. let m = (spread.zones z).1 (area_is_seen start z begins r) in
                subst (λ (xs : List ℕ). has xs z ≡ true) (sym e) (row_has (marked seen) (length seen) z (marked_below seen z m) m),
          );
        }

    -- each table of the area's zones has just those that are marked
    pub row_is_seen : (row : List ℕ) (z : ℕ) → IsAreaRow s k row → marked seen z ≡ has row z
    row_is_seen row z is =
        same_bool (marked seen z) (has row z) (λ m. (is.zones z).1 (seen_in_area start z begins ((spread.zones z).0 m)))
        (λ h. (spread.zones z).1 (area_is_seen start z begins ((is.zones z).0 h)))

    pub same_cut : (row : List ℕ) (i : ℕ) → IsAreaRow s k row → is_outside s marks seen i ≡ is_cut_off s k row i
    same_cut row i is =
        ap (λ (b : Bool). b && not (marked seen (zone_at s i))) (are.at i) ∙ ap (λ (b : Bool). has (area_of s.policy k).borders i && not b) (row_is_seen row (zone_at s i) is)

    -- the least interface that is marked while its zone isn't
    pub first_cut_off : (i : ℕ) → IsFirst (is_outside s marks seen) i → (row : List ℕ) → IsAreaRow s k row → IsFirst (is_cut_off s k row) i
    first_cut_off i f row is = record { passes = sym (same_cut row i is) ∙ f.passes; first = λ j h. sym (same_cut row j is) ∙ f.first j h }

    -- no border is cut off where none is that is there
    pub none_cut_off : (n : ℕ) → length marks ≤ n → ((i : ℕ) → i < n → is_outside s marks seen i ≡ false) → (row : List ℕ) → IsAreaRow s k row → (i : ℕ) → is_cut_off s k row i ≡ false
    none_cut_off n long none row is i =
        sym (same_cut row i is)
        ∙ ⊎_elim (λ m. none i (let b = marked_below marks i m in omega (arith, b, long))) (λ f. ap (λ (b : Bool). b && not (marked seen (zone_at s i))) f) (cases_Bool (marked marks i))
