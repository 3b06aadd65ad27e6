-- The first places of tables, one after the other.
use Rattle.std.proofs.Common.{◌≡◌, ℕ, ◌+◌, ◌<◌, ◌≤◌, Bool, true, false, List, [], ◌∷◌, ◌++◌, length, take, set, replicate, refl, sym, ap, subst, ◌∙◌, ⊎_elim, arith}
use Rattle.std.specs.Prelude.{slice_index_or, IsTrue}
use Rattle.std.specs.List.{All, AllPairs, Contains}
use Rattle.std.proofs.lemmas.Bool.{cases_lt, cases_eq, false≢true}
use Rattle.std.proofs.lemmas.List.{length-map, length_push, length-replicate, get_or-map, get_or_append_left, get_or_push, get_or_past, get_or-replicate, get_or-set_other, map_push, take_more, take-map, take-append-drop, length-take-le}
use Rattle.std.proofs.lemmas.List.Elements.{All-push, All-weaker, All-get_or, Contains-append_left}
use Rattle.policy_model.specs.Tags.{Views}
use Rattle.policy_model.specs.Faults.{all_views}
use Rattle.nat_view.specs.Seen.{has_view}
use Rattle.nat_view.specs.Places.{tags_at, rows_of, views_of, place_at}
use Rattle.nat_view.specs.Fails.{place_seen, place_number}
use Rattle.nat_view.specs.declared.fail.ViewAt.{ViewAt}
use Rattle.nat_view.specs.declared.fail.ViewAt.TheVariants as at
use Rattle.nat_view.specs.Firsts.{AreFirsts}
use Rattle.nat_view.specs.Met.{AreFirstPlaces, AreFirstBelow, AreNamed}
use Rattle.nat_view.specs.declared.table.Table.{Table}
use Rattle.nat_view.proofs.Placing.{number_of, IsNamed, named}

contains_last : (xs : List ℕ) (y : ℕ) → Contains (xs ++ y ∷ []) y
contains_last xs y = let n = length_push xs y in (length xs, omega (arith, n), get_or_push xs y y (length xs) refl)

order_more : (xs : List ℕ) (y : ℕ) → AllPairs (λ a b. a < b) xs → All (λ x. x < y) xs → AllPairs (λ a b. a < b) (xs ++ y ∷ [])
order_more xs y order below = λ i j d lt h.
    let n = length_push xs y in
    let low : i < length xs = omega (arith, lt, h, n) in
    let e = get_or_append_left xs (y ∷ []) d i low in
    ⊎_elim
    (λ (inner : j < length xs). let f = get_or_append_left xs (y ∷ []) d j inner in let g = order i j d lt inner in omega (arith, e, f, g))
    (λ (ge : length xs ≤ j). let at : length xs ≡ j = omega (arith, ge, h, n) in let f = get_or_push xs y d j at in let g = All-get_or (λ x. x < y) xs i d low below in omega (arith, e, f, g))
    (cases_lt j (length xs))

listed_below : (xs : List ℕ) (k x : ℕ) → All (λ y. y < k) xs → Contains xs x → x < k
listed_below xs k x below there = subst (λ y. y < k) there.2 (All-get_or (λ y. y < k) xs there.0 x there.1 below)

module _ (places : List ℕ) where
  pub met_none : (n : ℕ) (met : List Bool) (listed : List ℕ) → met ≡ replicate n false → listed ≡ [] → AreFirstBelow places met listed 0
  met_none n met listed e f =
      subst (λ flags. AreFirstBelow places flags listed 0) (sym e)
      (subst (λ xs. AreFirstBelow places (replicate n false) xs 0) (sym f)
      (record {
        order = λ i j d lt h. absurd (let z : ⊥ = omega (arith, h) in z);
        below = λ i d h. absurd (let z : ⊥ = omega (arith, h) in z);
        flagged = λ t h. absurd (false≢true (sym (unset t) ∙ h));
        each = λ j h. absurd (let z : ⊥ = omega (arith, h) in z);
      }))
    where
      unset : (t : ℕ) → slice_index_or (replicate n false) t false ≡ false
      unset t =
          let m = length-replicate n false in
          ⊎_elim (λ lt. get_or-replicate n t false false lt) (λ ge. get_or_past (replicate n false) t false (omega (arith, m, ge))) (cases_lt t n)

  pub met_again : (met : List Bool) (listed : List ℕ) (k table : ℕ) → table ≡ slice_index_or places k 0 → slice_index_or met table false ≡ true → AreFirstBelow places met listed k → AreFirstBelow places met listed (k + 1)
  met_again met listed k table is set so_far =
      record {
        order = so_far.order;
        below = All-weaker (λ i. i < k) (λ i. i < k + 1) (λ i h. omega (arith, h)) listed so_far.below;
        flagged = so_far.flagged;
        each = λ j h.
            ⊎_elim
            (λ (e : j ≡ k).
            let w = so_far.flagged table set in
            let low = listed_below listed k w.place so_far.below w.there in
            record { place = w.place; there = w.there; before = omega (arith, low, e); same = w.is ∙ (is ∙ ap (λ n. slice_index_or places n 0) (sym e)) })
            (λ ne. so_far.each j (omega (arith, h, ne))) (cases_eq j k);
      }

  pub met_first : (met : List Bool) (listed : List ℕ) (k table : ℕ) → table ≡ slice_index_or places k 0 → AreFirstBelow places met listed k → AreFirstBelow places (set met table true) (listed ++ k ∷ []) (k + 1)
  met_first met listed k table is so_far =
      record {
        order = order_more listed k so_far.order so_far.below;
        below = All-push (λ i. i < k + 1) listed k (All-weaker (λ i. i < k) (λ i. i < k + 1) (λ i h. omega (arith, h)) listed so_far.below) (omega arith);
        flagged = λ t h.
            ⊎_elim (λ e. record { place = k; there = contains_last listed k; is = sym is ∙ sym e })
            (λ ne. let w = so_far.flagged t (sym (get_or-set_other met table t true false ne) ∙ h) in record { place = w.place; there = Contains-append_left listed (k ∷ []) w.place w.there; is = w.is }) (cases_eq t table);
        each = λ j h.
            ⊎_elim (λ (e : j ≡ k). record { place = k; there = contains_last listed k; before = omega (arith, e); same = ap (λ n. slice_index_or places n 0) (sym e) })
            (λ ne. let w = so_far.each j (omega (arith, h, ne)) in record { place = w.place; there = Contains-append_left listed (k ∷ []) w.place w.there; before = w.before; same = w.same }) (cases_eq j k);
      }

  pub met_all : (met : List Bool) (listed : List ℕ) (k : ℕ) → k ≡ length places → AreFirstBelow places met listed k → AreFirstPlaces places listed
  met_all met listed k e all = record { order = all.order; below = subst (λ n. All (λ i. i < n) listed) e all.below; each = λ j h. all.each j (subst (λ n. j < n) (sym e) h) }

  -- equal tables have equal tags
  pub first_rows : (tables : List Table) (listed : List ℕ) → AreFirstPlaces places listed → AreFirsts (rows_of tables places) listed
  first_rows tables listed all =
      let n = length-map places (tags_at tables) in
      record {
        order = all.order;
        below = All-weaker (λ k. k < length places) (λ k. k < length (rows_of tables places)) (λ k h. omega (arith, h, n)) listed all.below;
        each = λ k h.
            let low : k < length places = omega (arith, h, n) in
            let w = all.each k low in
            let before = w.before in
            record {
              place = w.place;
              listed = w.there;
              before = before;
              same =
                  get_or-map (tags_at tables) places w.place 0 [] (omega (arith, before, low)) ∙ (ap (tags_at tables) w.same ∙ sym (get_or-map (tags_at tables) places k 0 [] low));
            };
      }

pub zones_first : (tables : List Table) (places listed : List ℕ) (zones : ℕ) → AreFirstPlaces (take zones places) listed → AreFirsts (take zones (rows_of tables places)) listed
zones_first tables places listed zones all = subst (λ rows. AreFirsts rows listed) (sym (take-map (tags_at tables) zones places)) (first_rows (take zones places) tables listed all)

pub places_first : (tables : List Table) (places listed : List ℕ) (zones : ℕ) → AreFirstPlaces places listed → AreFirsts (all_views (views_of zones (rows_of tables places))) listed
places_first tables places listed zones all = subst (λ rows. AreFirsts rows listed) (sym (take-append-drop zones (rows_of tables places))) (first_rows places tables listed all)

-- the zones are as many as their number
pub zones_are : (tables : List Table) (places : List ℕ) (zones : ℕ) → zones ≤ length places → length (take zones (rows_of tables places)) ≡ zones
zones_are tables places zones fits = let n = length-map places (tags_at tables) in length-take-le zones (rows_of tables places) (omega (arith, n, fits))

-- ---- the names of places

pub seen_number : (v : Views) (at : ViewAt) → number_of v (place_seen at) ≡ place_number (length v.zones) at
seen_number v (at.Zone z) = refl
seen_number v (at.Router r) = refl

pub names_more : (tables : List Table) (places : List ℕ) (zones : ℕ) (names : List ViewAt) (listed : List ℕ) (i d : ℕ) (one : ViewAt) → zones ≤ length places → All (λ k. k < length places) listed → i < length listed →
    place_seen one ≡ place_at zones (slice_index_or listed i d) → AreNamed (views_of zones (rows_of tables places)) names (take i listed) → AreNamed (views_of zones (rows_of tables places)) (names ++ one ∷ []) (take (i + 1) listed)
names_more tables places zones names listed i d one fits below low is so_far =
    let v = views_of zones (rows_of tables places) in
    let n = length-map places (tags_at tables) in
    let k = slice_index_or listed i d in
    let lt : k < length places = All-get_or (λ k. k < length places) listed i d low below in
    let all : length (all_views v) ≡ length places = ap length (take-append-drop zones (rows_of tables places)) ∙ n in
    let long = zones_are tables places zones fits in
    let named_k = named v k (omega (arith, lt, all)) in
    let same : place_at (length v.zones) k ≡ place_seen one = ap (λ z. place_at z k) long ∙ sym is in
    let w = subst (IsNamed v k) same named_k in
    record {
      numbers = map_push (place_number (length v.zones)) names one
          ∙ (ap (λ xs. xs ++ place_number (length v.zones) one ∷ []) so_far.numbers
          ∙ (ap (λ x. take i listed ++ x ∷ []) (sym (seen_number v one) ∙ w.number) ∙ sym (take_more listed i d low)));
      viewed = All-push (λ a. IsTrue (has_view v (place_seen a))) names one so_far.viewed w.viewed;
    }
