-- The rows of the pairs on path, pair by pair.
use Rattle.std.proofs.Common.{◌≡◌, ℕ, ◌+◌, ◌<◌, ◌≤◌, cond, List, [], ◌∷◌, ◌++◌, length, map, sym, ap, subst, ◌∙◌, ⊎_elim, arith, slice_index, slice_index_or}
use Rattle.std.specs.List.{list_any}
use Rattle.std.proofs.lemmas.Bool.{cases_lt}
use Rattle.std.proofs.lemmas.List.{map-id, get_or_past, get_or_default}
use Rattle.policy_model.specs.Lists.{numbers_below}
use Rattle.policy_model.specs.Zones.{Site, zone_of}
use Rattle.policy_model.specs.Marks.{marked_crossings}
use Rattle.policy_model.proofs.AllWalks.{IsIn, in_map}
use Rattle.policy_model.proofs.Views.{list_any_map}
use Rattle.list_laws.proofs.Members.{from_filter}
use Rattle.policy_laws.proofs.Placed.{from_numbers}
use Rattle.zone_graph.specs.Grouped.{HasGroups}
use Rattle.zone_graph.specs.declared.marks.Crossing.{Crossing}
use Rattle.rule_distribute.specs.Rows.{pair_at}
use Rattle.rule_distribute.specs.Paths.{crossing_seen, enters, with_entered, is_on_way, path_row, AreLow, EnterBelow}
use Rattle.rule_distribute.proofs.Rising.{contains_in}
use Rattle.rule_distribute.proofs.Filled.{filter_next}
use Rattle.rule_distribute.proofs.Marks.{enters_at, enters_marked, marked_there}

module _ (s : Site) (pairs : List (ℕ × ℕ)) (w : ℕ) (old : List (List ℕ)) (groups : HasGroups (λ (k : ℕ). k) old (path_row s pairs w)) where
  row_is : (i : ℕ) → i < length old → slice_index_or old i [] ≡ path_row s pairs w i
  row_is i h = sym (map-id (slice_index_or old i [])) ∙ groups.each i h

  low_in : (i k : ℕ) → k < length (path_row s pairs w i) → slice_index (path_row s pairs w i) k < w
  low_in i k h =
      let row = path_row s pairs w i in
      let here : IsIn (slice_index row k) row = contains_in row (slice_index row k) (k, h, get_or_default row k (slice_index row k) 0 h) in
      let n = (from_numbers 0 w (slice_index row k) (from_filter (is_on_way s pairs i) (slice_index row k) (numbers_below w) here).0).1 in
      omega (arith, n)

  pub are_low : AreLow old w
  are_low = record {
    low = λ i k h. ⊎_elim
        (λ (lt : i < length old). subst (λ (r : List ℕ). slice_index r k < w) (sym (row_is i lt)) (low_in i k (subst (λ (r : List ℕ). k < length r) (row_is i lt) h)))
        (λ (past : length old ≤ i). absurd (let e = ap length (get_or_past old i [] past) in let z : ⊥ = omega (arith, h, e) in z))
        (cases_lt i (length old));
  }

  pub next_pair : (cs : List Crossing) (new : List (List ℕ)) → length new ≡ length old → map crossing_seen cs ≡ marked_crossings s (zone_of s (pair_at pairs w).0) (zone_of s (pair_at pairs w).1) →
      ((i : ℕ) → i < length old → slice_index_or new i [] ≡ with_entered cs w i (slice_index_or old i [])) → HasGroups (λ (k : ℕ). k) new (path_row s pairs (w + 1))
  next_pair cs new each marks made = record {
    each = λ i h.
        let lt : i < length old = omega (arith, h, each) in
        let test : enters cs i ≡ is_on_way s pairs i w =
        sym (list_any_map (enters_at i) crossing_seen cs) ∙ (ap (list_any (enters_at i)) marks ∙ enters_marked s (zone_of s (pair_at pairs w).0) (zone_of s (pair_at pairs w).1) i)
        in
        map-id (slice_index_or new i [])
        ∙ (made i lt
        ∙ (ap (λ row. row ++ cond (enters cs i) (w ∷ []) []) (row_is i lt)
        ∙ (ap (λ b. path_row s pairs w i ++ cond b (w ∷ []) []) test ∙ sym (filter_next (is_on_way s pairs i) w))));
  }

pub enter_below : (s : Site) (cs : List Crossing) (from to n : ℕ) → map crossing_seen cs ≡ marked_crossings s from to → length s.policy.ifaces ≡ n → EnterBelow cs n
enter_below s cs from to n marks count = λ k c below is.
    let here = subst (IsIn (crossing_seen c)) marks (in_map crossing_seen c cs (contains_in cs c (k, below, is))) in
    let lt = marked_there s from to (crossing_seen c) here in
    omega (arith, lt, count)
