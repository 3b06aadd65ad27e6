-- Tables by their pairs of zones.
use Rattle.std.proofs.Common.{◌≡◌, ℕ, ◌+◌, ◌<◌, ◌≤◌, Bool, true, false, cond, List, [], ◌∷◌, length, get_or, map, refl, sym, ap, subst, ◌∙◌, ⊎_elim, arith, slice_index_or}
use Rattle.std.specs.Prelude.{None, Some, is_some, unwrap_or}
use Rattle.std.specs.BTreeMap.{BTreeMap}
use Rattle.std.specs.BTreeMap.{get, is_at}
use Rattle.std.specs.List.{Contains}
use Rattle.std.specs.Map.{lookup}
use Rattle.std.specs.Ordering.{is_eq}
use Rattle.std.proofs.lemmas.Bool.{and_from, eq-eqb, false≢true, cases_lt}
use Rattle.std.proofs.lemmas.List.{get_or-map, get_or_default}
use Rattle.policy_model.specs.Zones.{Site}
use Rattle.zone_graph.specs.declared.marks.MarkTable.{MarkTable}
use Rattle.zone_graph.specs.declared.marks.PairMarks.{PairMarks}
use Rattle.static_routes.specs.Chains.{pair_order}
use Rattle.static_routes.specs.Tables.{zones_named, pair_at, AreMarked, AreMarksOf, AreFiled}
use Rattle.static_routes.proofs.Tuples.{pair_is, ties}

same_some : {A : Type 0} (x y : A) → Some x ≡ Some y → x ≡ y
same_some x y e = ap (λ o. unwrap_or o x) e

-- at first there is none
pub filed_none : (names : List (ℕ × ℕ)) (places : BTreeMap (ℕ × ℕ) ℕ) → places.entries ≡ [] → AreFiled names 0 places
filed_none names places e =
    record {
      there = λ k h. absurd (let z : ⊥ = omega (arith, h) in z);
      at = λ q k is. absurd (false≢true (ap is_some (sym (ap (λ es. lookup (is_at (pair_order q)) es) e) ∙ is)));
    }

-- one more
pub filed_more : (names : List (ℕ × ℕ)) (n : ℕ) (key : ℕ × ℕ) (old new : BTreeMap (ℕ × ℕ) ℕ) → key ≡ pair_at names n → ((q : ℕ × ℕ) → get pair_order new q ≡ cond (is_eq (pair_order key q)) (Some n) (get pair_order old q)) →
    AreFiled names n old → AreFiled names (n + 1) new
filed_more names n key old new its updates filed = record { there = there; at = at }
  where
    there : (k : ℕ) → k < n + 1 → is_some (get pair_order new (pair_at names k)) ≡ true
    there k h = ap is_some (updates (pair_at names k)) ∙ go (is_eq (pair_order key (pair_at names k))) refl
      where
        go : (b : Bool) → is_eq (pair_order key (pair_at names k)) ≡ b → is_some (cond b (Some n) (get pair_order old (pair_at names k))) ≡ true
        go true e = refl
        go false e =
            ⊎_elim (λ (lt : k < n). filed.there k lt)
            (λ (ge : n ≤ k).
            let same : k ≡ n = omega (arith, h, ge) in
            let x = pair_at names k in
            let here : key ≡ x = its ∙ ap (pair_at names) (sym same) in
            let tied : is_eq (pair_order key x) ≡ true = ap (λ (y : ℕ × ℕ). is_eq (pair_order y x)) here ∙ (sym (ties x x) ∙ and_from _ _ (eq-eqb x.0 x.0 refl) (eq-eqb x.1 x.1 refl)) in
            absurd (false≢true (sym e ∙ tied)))
            (cases_lt k n)

    at : (e : ℕ × ℕ) (k : ℕ) → get pair_order new e ≡ Some k → (k < n + 1) × (pair_at names k ≡ e)
    at e k is = go (is_eq (pair_order key e)) refl (sym (updates e) ∙ is)
      where
        go : (b : Bool) → is_eq (pair_order key e) ≡ b → cond b (Some n) (get pair_order old e) ≡ Some k → (k < n + 1) × (pair_at names k ≡ e)
        go true t h =
            let same = same_some n k h in (
              omega (arith, same),
              ap (pair_at names) (sym same) ∙ (sym its ∙ pair_is key e (ties key e ∙ t)),
            )
        go false t h = let old_at = filed.at e k h in let low = old_at.0 in (omega (arith, low), old_at.1)

-- a pair that is among them is found
pub filed_there : (names : List (ℕ × ℕ)) (n : ℕ) (places : BTreeMap (ℕ × ℕ) ℕ) (z : ℕ × ℕ) → AreFiled names n places → n ≡ length names → Contains names z → is_some (get pair_order places z) ≡ true
filed_there names n places z filed all c =
    let low = c.1 in
    let below : c.0 < n = omega (arith, low, all) in
    subst (λ (e : ℕ × ℕ). is_some (get pair_order places e) ≡ true) (get_or_default names c.0 (0, 0) z low ∙ c.2) (filed.there c.0 below)

pub not_missing : (names : List (ℕ × ℕ)) (n : ℕ) (places : BTreeMap (ℕ × ℕ) ℕ) (z : ℕ × ℕ) → AreFiled names n places → n ≡ length names → Contains names z → get pair_order places z ≡ None → ⊥
not_missing names n places z filed all c none = false≢true (sym (ap is_some none) ∙ filed_there names n places z filed all c)

-- the name of a table by its place
pub named_at : (tables : List PairMarks) (k : ℕ) (t : PairMarks) → k < length tables → t ≡ get_or tables k t → zones_named t ≡ pair_at (map zones_named tables) k
named_at tables k t below is = ap zones_named is ∙ sym (get_or-map zones_named tables k t (0, 0) below)

-- the pair of zones of a table, read one by one
pub key_is : (tables : List PairMarks) (k : ℕ) (a b : PairMarks) → k < length tables → a ≡ get_or tables k a → b ≡ get_or tables k b → ◌≡◌ {A = ℕ × ℕ} (a.from.0, b.to.0) (pair_at (map zones_named tables) k)
key_is tables k a b below first second =
    let x = named_at tables k a below first in
    let y = named_at tables k b below second in
    λ i. ((x i).0, (y i).1)

-- what is found is the table of the pair
pub found_below : (tables : List PairMarks) (places : BTreeMap (ℕ × ℕ) ℕ) (z : ℕ × ℕ) (k : ℕ) → AreFiled (map zones_named tables) (length tables) places → get pair_order places z ≡ Some k → k < length tables
found_below tables places z k filed is = (filed.at z k is).0

first_of : {A : Type 0} (xs : List A) (n : ℕ) → n < length xs → A
first_of [] n h = absurd (let z : ⊥ = omega (arith, h) in z)
first_of (x ∷ xs) n h = x

pub found_marks : (s : Site) (tables : List PairMarks) (places : BTreeMap (ℕ × ℕ) ℕ) (z : ℕ × ℕ) (k : ℕ) (marks : MarkTable) → AreFiled (map zones_named tables) (length tables) places → AreMarked s tables →
    get pair_order places z ≡ Some k → ((t : PairMarks) → marks ≡ (slice_index_or tables k t).marks) → AreMarksOf s z marks
found_marks s tables places z k marks filed marked is its =
    let at = filed.at z k is in
    let d = first_of tables k at.0 in
    let t = slice_index_or tables k d in
    let item : t ≡ get_or tables k t = get_or_default tables k d t at.0 in
    let name : zones_named t ≡ z = named_at tables k t at.0 item ∙ at.1 in
    subst (AreMarksOf s z) (sym (its d)) (subst (λ (e : ℕ × ℕ). AreMarksOf s e t.marks) name (marked k t at.0 (sym item)))
