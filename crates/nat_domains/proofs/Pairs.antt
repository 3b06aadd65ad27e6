-- The first tags of a network in a row.
use Rattle.std.proofs.Common.{◌≡◌, ℕ, zero, suc, ◌+◌, ◌-◌, ◌<◌, ◌≤◌, Bool, true, false, ◌&&◌, List, [], ◌∷◌, length, map, refl, sym, ap, subst, ◌∙◌, ⊎_elim, arith}
use Rattle.std.specs.Prelude.{◌==◌, nat_lt, Option, slice_index, slice_index_or}
use Rattle.std.specs.List.{list_any}
use Rattle.std.specs.List.Sorted.{IsStrictlyIncreasing}
use Rattle.std.proofs.lemmas.Bool.{and_parts, and_from, or_cases, eqb-true, lt-ltb, ltb-true, cases_eq, cases_lt, false≢true}
use Rattle.spoc_base.specs.Address.{Cidr}
use Rattle.policy_model.specs.Lists.{has}
use Rattle.policy_model.specs.Policy.{Policy, Net, net_of}
use Rattle.policy_model.specs.Zones.{Site, zone_of}
use Rattle.policy_model.specs.Tags.{Views, zone_view}
use Rattle.policy_model.specs.Faults.{has_tag, is_translated_inside}
use Rattle.policy_model.proofs.Views.{list_any_map}
use Rattle.topology.specs.Sound.{IsNumbered}
use Rattle.nat_domains.specs.Places.{NonePasses, IsFirstPlace}
use Rattle.nat_domains.specs.Translated.{is_pair, is_tag_at, HasNoTwo, HasNoPair, IsLeastPair, IsLeastInside}
use Rattle.nat_domains.proofs.Members.{has_at}
use Rattle.nat_domains.proofs.Viewed.{all_in}

-- ---- places

pub has_place : (xs : List ℕ) (n : ℕ) → has xs n ≡ true → (k : ℕ) × (k < length xs) × (slice_index xs k ≡ n)
has_place [] n h = absurd (false≢true h)
has_place (x ∷ xs) n h = ⊎_elim (λ e. (0, omega arith, eqb-true x n e)) (λ g. let w = has_place xs n g in (suc w.0, omega (arith, w.1), w.2)) (or_cases (x == n) (has xs n) h)

pub none_more : (test : ℕ → Bool) (from k : ℕ) → test k ≡ false → NonePasses test from k → NonePasses test from (k + 1)
none_more test from k fails old = record { fails = λ j low high. ⊎_elim (λ e. ap test e ∙ fails) (λ ne. old.fails j low (omega (arith, high, ne))) (cases_eq j k) }

module _ (xs : List ℕ) (up : IsStrictlyIncreasing xs) where
  rises : (gap j k : ℕ) → k ≡ j + gap → 0 < gap → k < length xs → slice_index xs j < slice_index xs k
  rises zero j k e more h = absurd (omega (arith, more))
  rises (suc gap) j k e more h =
      let last : j + gap + 1 ≡ k = omega (arith, e) in
      let step = up (j + gap) (omega (arith, last, h)) in
      let top = ap (slice_index xs) last in
      ⊎_elim (λ z. let same : j + gap ≡ j = omega (arith, z) in let low = ap (slice_index xs) same in omega (arith, step, top, low))
      (λ ne. let before = rises gap j (j + gap) refl (omega (arith, ne)) (omega (arith, last, h)) in omega (arith, before, step, top)) (cases_eq gap 0)

  pub rises_on : (j k : ℕ) → j < k → k < length xs → slice_index xs j < slice_index xs k
  rises_on j k less h = rises (k - j) j k (omega (arith, less)) (omega (arith, less)) h

  pub comes_after : (j k : ℕ) → j < length xs → slice_index xs j < slice_index xs k → j < k
  comes_after j k h less =
      ⊎_elim (λ low. low)
      (λ high. ⊎_elim (λ e. let same = ap (slice_index xs) e in absurd (omega (arith, same, less))) (λ ne. let up = rises_on k j (omega (arith, high, ne)) h in absurd (omega (arith, up, less))) (cases_eq j k))
      (cases_lt j k)

  pub not_lower : (j k : ℕ) → j ≤ k → k < length xs → slice_index xs j ≤ slice_index xs k
  not_lower j k low h =
      ⊎_elim (λ e. let same = ap (slice_index xs) e in omega (arith, same)) (λ ne. let up = rises_on j k (omega (arith, low, ne)) h in omega (arith, up)) (cases_eq j k)

-- ---- the parts of a pair

pub record HasParts (p : Policy) (row : List ℕ) (n tag other : ℕ) : Type 0 where
  pub less : tag < other
  pub first : has_tag p n tag ≡ true
  pub second : has_tag p n other ≡ true
  pub seen : has row tag ≡ true
  pub seen_too : has row other ≡ true

pub parts_of : (p : Policy) (row : List ℕ) (n tag other : ℕ) → is_pair p row n tag other ≡ true → HasParts p row n tag other
parts_of p row n tag other h =
    let a = and_parts (nat_lt tag other && has_tag p n tag && has_tag p n other && has row tag) (has row other) h in
    let b = and_parts (nat_lt tag other && has_tag p n tag && has_tag p n other) (has row tag) a.0 in
    let c = and_parts (nat_lt tag other && has_tag p n tag) (has_tag p n other) b.0 in
    let d = and_parts (nat_lt tag other) (has_tag p n tag) c.0 in
    record { less = ltb-true tag other d.0; first = d.1; second = c.1; seen = b.1; seen_too = a.1 }

pub pair_of : (p : Policy) (row : List ℕ) (n tag other : ℕ) → HasParts p row n tag other → is_pair p row n tag other ≡ true
pair_of p row n tag other w =
    and_from (nat_lt tag other && has_tag p n tag && has_tag p n other && has row tag) (has row other)
    (and_from (nat_lt tag other && has_tag p n tag && has_tag p n other) (has row tag)
    (and_from (nat_lt tag other && has_tag p n tag) (has_tag p n other) (and_from (nat_lt tag other) (has_tag p n tag) (lt-ltb tag other w.less) w.first) w.second) w.seen)
    w.seen_too

-- ---- one network

module _ (p : Policy) (n : ℕ) (row : List ℕ) (count : ℕ) (long : length row ≡ count) (up : IsStrictlyIncreasing row) where
  record IsAt (tag : ℕ) : Type 0 where
    pub place : ℕ
    pub below : place < count
    pub is : slice_index row place ≡ tag
    pub passes : is_tag_at p n row place ≡ true

  at_place : (tag : ℕ) → has_tag p n tag ≡ true → has row tag ≡ true → IsAt tag
  at_place tag its seen = let w = has_place row tag seen in record { place = w.0; below = omega (arith, w.1, long); is = w.2; passes = ap (has_tag p n) w.2 ∙ its }

  pub no_tag : NonePasses (is_tag_at p n row) 0 count → (tag : ℕ) → has_tag p n tag ≡ true → has row tag ≡ true → ⊥
  no_tag none tag its seen = let w = at_place tag its seen in false≢true (sym (none.fails w.place (omega arith) w.below) ∙ w.passes)

  pub least_tag : (a : ℕ) → IsFirstPlace (is_tag_at p n row) 0 count a → (tag : ℕ) → has_tag p n tag ≡ true → has row tag ≡ true → slice_index row a ≤ tag
  least_tag a first tag its seen =
      let w = at_place tag its seen in
      let after : a ≤ w.place = ⊎_elim (λ low. absurd (false≢true (sym (first.before.fails w.place (omega arith) low) ∙ w.passes))) (λ high. high) (cases_lt w.place a) in
      let h = not_lower row up a w.place after (omega (arith, w.below, long)) in omega (arith, h, w.is)

  pub no_two : NonePasses (is_tag_at p n row) 0 count → HasNoTwo p row n
  no_two none tag other h = let w = parts_of p row n tag other h in no_tag none tag w.first w.seen

  -- the second of two such tags stands behind the first place
  behind : (a : ℕ) → IsFirstPlace (is_tag_at p n row) 0 count a → (tag other : ℕ) → HasParts p row n tag other → IsAt other × (slice_index row a < other)
  behind a first tag other w =
      let h = least_tag a first tag w.first w.seen in
      (at_place other w.second w.seen_too, omega (arith, h, w.less))

  beyond : (a k : ℕ) → a < count → slice_index row a < slice_index row k → a + 1 ≤ k
  beyond a k h less = let w = comes_after row up a k (omega (arith, h, long)) less in omega (arith, w)

  pub no_second : (a : ℕ) → IsFirstPlace (is_tag_at p n row) 0 count a → NonePasses (is_tag_at p n row) (a + 1) count → HasNoTwo p row n
  no_second a first none tag other h =
      let w = behind a first tag other (parts_of p row n tag other h) in
      let after = beyond a w.0.place first.below (omega (arith, w.1, w.0.is)) in
      false≢true (sym (none.fails w.0.place after w.0.below) ∙ w.0.passes)

  pub two_first : (a b : ℕ) → IsFirstPlace (is_tag_at p n row) 0 count a → IsFirstPlace (is_tag_at p n row) (a + 1) count b → IsLeastPair p row n (slice_index row a) (slice_index row b)
  two_first a b first second =
      record {
        here = pair_of p row n (slice_index row a) (slice_index row b)
            (record {
              less = rises_on row up a b (omega (arith, second.low)) (omega (arith, second.below, long));
              first = first.passes;
              second = second.passes;
              seen = has_at row a (omega (arith, first.below, long));
              seen_too = has_at row b (omega (arith, second.below, long));
            });
        least = λ t o h.
            let w = parts_of p row n t o h in (
              least_tag a first t w.first w.seen,
              λ e. let u = behind a first t o w in
                  let after = beyond a u.0.place first.below (omega (arith, u.1, u.0.is)) in
                  let late : b ≤ u.0.place = ⊎_elim (λ low. absurd (false≢true (sym (second.before.fails u.0.place after low) ∙ u.0.passes))) (λ high. high) (cases_lt u.0.place b) in
                  let order = not_lower row up b u.0.place late (omega (arith, u.0.below, long)) in omega (arith, order, u.0.is),
            );
      }

-- ---- a network's own zone

module _ (s : Site) (v : Views) (n : ℕ) (row : List ℕ) (count : ℕ) (long : length row ≡ count) (is : row ≡ zone_view v (zone_of s n)) (up : IsStrictlyIncreasing (zone_view v (zone_of s n))) where
  its_rise : IsStrictlyIncreasing row
  its_rise = subst (λ (xs : List ℕ). IsStrictlyIncreasing xs) (sym is) up

  inside_parts : (tag : ℕ) → is_translated_inside s v n tag ≡ true → (has_tag s.policy n tag ≡ true) × (has row tag ≡ true)
  inside_parts tag h =
      let w = and_parts (has_tag s.policy n tag) (has (zone_view v (zone_of s n)) tag) h in (w.0, subst (λ (xs : List ℕ). has xs tag ≡ true) (sym is) w.1)

  pub none_inside : NonePasses (is_tag_at s.policy n row) 0 count → (tag : ℕ) → is_translated_inside s v n tag ≡ true → ⊥
  none_inside none tag h = let w = inside_parts tag h in no_tag s.policy n row count long its_rise none tag w.0 w.1

  pub least_inside : (a : ℕ) → IsFirstPlace (is_tag_at s.policy n row) 0 count a → IsLeastInside s v n (slice_index row a)
  least_inside a first =
      let seen = has_at row a (omega (arith, first.below, long)) in
      record {
        here = and_from (has_tag s.policy n (slice_index row a)) (has (zone_view v (zone_of s n)) (slice_index row a)) first.passes
            (subst (λ (xs : List ℕ). has xs (slice_index row a) ≡ true) is seen);
        least = λ t h. let w = inside_parts t h in least_tag s.policy n row count long its_rise a first t w.0 w.1;
      }

-- ---- no pair

few_nats : (nats : List (ℕ × Option Cidr)) (tag other : ℕ) → length nats < 2 → tag < other → list_any (λ nat. nat.0 == tag) nats ≡ true → list_any (λ nat. nat.0 == other) nats ≡ true → ⊥
few_nats [] tag other few less a b = false≢true a
few_nats (x ∷ []) tag other few less a b =
    ⊎_elim
    (λ e. ⊎_elim (λ g. let one = eqb-true x.0 tag e in let two = eqb-true x.0 other g in absurd (omega (arith, one, two, less))) (λ f. false≢true f) (or_cases (x.0 == other) false b))
    (λ f. false≢true f) (or_cases (x.0 == tag) false a)
few_nats (x ∷ y ∷ nats) tag other few less a b = absurd (omega arith)

pub few_tags : (p : Policy) (row : List ℕ) (n : ℕ) → length (net_of p n).nats < 2 → HasNoTwo p row n
few_tags p row n few tag other h = let w = parts_of p row n tag other h in few_nats (net_of p n).nats tag other few w.less w.first w.second

pub short_row : (p : Policy) (row : List ℕ) → length row < 2 → HasNoPair p row
short_row p row short n tag other h =
    let w = parts_of p row n tag other h in
    let a = has_place row tag w.seen in
    let b = has_place row other w.seen_too in
    let e : a.0 ≡ b.0 = omega (arith, short, a.1, b.1) in
    let same = ap (slice_index row) e in absurd (omega (arith, same, a.2, b.2, w.less))

past_end : (nets : List Net) (d : Net) (k : ℕ) → length nets ≤ k → slice_index_or nets k d ≡ d
past_end [] d k h = refl
past_end (x ∷ nets) d zero h = absurd (omega arith)
past_end (x ∷ nets) d (suc k) h = past_end nets d k (omega arith)

-- no network there has two such tags, so none has
pub no_pair : (p : Policy) (row : List ℕ) (count : ℕ) → length p.nets ≤ count → ((n : ℕ) → n < count → HasNoTwo p row n) → HasNoPair p row
no_pair p row count all none n tag other h =
    ⊎_elim (λ low. none n low tag other h)
    (λ high. let w = parts_of p row n tag other h in
    let e = past_end p.nets _ n (omega (arith, high, all)) in
    false≢true (subst (λ (net : Net). list_any (λ nat. nat.0 == tag) net.nats ≡ true) e w.first)) (cases_lt n count)

-- a network's tag is there
pub tag_there : (p : Policy) → IsNumbered p → (n tag : ℕ) → n < length p.nets → has_tag p n tag ≡ true → tag < length p.tags
tag_there p numbered n tag h its =
    let nats = (net_of p n).nats in
    ltb-true tag (length p.tags)
    (all_in (λ k. nat_lt k (length p.tags)) (map (λ (nat : ℕ × Option Cidr). nat.0) nats) tag (numbered.nats n h) (list_any_map (λ k. k == tag) (λ (nat : ℕ × Option Cidr). nat.0) nats ∙ its))
