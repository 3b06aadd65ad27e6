-- What is in a set after things were put in.
use Rattle.std.proofs.Common.{◌≡◌, ℕ, ◌⊎◌, inl, inr, Bool, true, List, [], ◌∷◌, refl, sym, ap, subst, ◌∙◌, ⊎_elim, nat_cmp}
use Rattle.std.specs.Prelude.{Option, None, Some}
use Rattle.std.specs.declared.cmp.Ordering.{Ordering}
use Rattle.std.specs.declared.cmp.Ordering.TheVariants.{Less, Equal, Greater}
use Rattle.std.specs.Ordering.{ordering_then, match_ordering, is_eq}
use Rattle.std.specs.Option.{option_cmp}
use Rattle.std.specs.BTreeSet.{insert_key}
use Rattle.std.specs.List.{list_any}
use Rattle.std.specs.Cmp.{IsTotalOrder}
use Rattle.std.specs.Cmp.Lexicographic.{options_total}
use Rattle.std.proofs.lemmas.Cmp.{nat_cmp_total, on_total, then_total, tied_itself}
use Rattle.policy_model.proofs.AllWalks.{IsIn}
use Rattle.list_laws.proofs.Members.{some_in, some_of}
use Rattle.static_routes.specs.Chains.{pair_order}
use Rattle.static_routes.specs.Found.{FoundHop, found_order, with_keys}
use Rattle.static_routes.proofs.Tuples.{tie_nat, ties, pair_is}
use Rattle.std.proofs.lemmas.Bool.{eqb-true}

module _ {K : Type 0} (order : K → K → Ordering) where
  -- where it is put, nothing else comes in
  from_insert : (keys : List K) (k e : K) → IsIn e (insert_key order keys k) → (e ≡ k) ⊎ IsIn e keys
  from_insert [] k e i = i
  from_insert (x ∷ xs) k e i = go (order k x) (from_insert xs k e) i
    where
      go : (o : Ordering) → (IsIn e (insert_key order xs k) → (e ≡ k) ⊎ IsIn e xs) → IsIn e (match_ordering o (k ∷ x ∷ xs) (x ∷ xs) (x ∷ insert_key order xs k)) → (e ≡ k) ⊎ ((e ≡ x) ⊎ IsIn e xs)
      go Less later i = i
      go Equal later i = inr i
      go Greater later (inl h) = inr (inl h)
      go Greater later (inr h) = ⊎_elim (λ same. inl same) (λ there. inr (inr there)) (later h)

  pub from_keys : (keys es : List K) (e : K) → IsIn e (with_keys order keys es) → IsIn e keys ⊎ IsIn e es
  from_keys keys [] e i = inl i
  from_keys keys (x ∷ xs) e i =
      ⊎_elim (λ h. ⊎_elim (λ same. inr (inl same)) (λ there. inl there) (from_insert keys x e h)) (λ h. inr (inr h)) (from_keys (insert_key order keys x) xs e i)

  -- what compares as equal is the same
  module _ (one : (x y : K) → order x y ≡ Equal → x ≡ y) where
    in_insert : (keys : List K) (k e : K) → (e ≡ k) ⊎ IsIn e keys → IsIn e (insert_key order keys k)
    in_insert [] k e i = i
    in_insert (x ∷ xs) k e i = go (order k x) refl i (in_insert xs k e)
      where
        go : (o : Ordering) → order k x ≡ o → (e ≡ k) ⊎ ((e ≡ x) ⊎ IsIn e xs) → ((e ≡ k) ⊎ IsIn e xs → IsIn e (insert_key order xs k)) → IsIn e (match_ordering o (k ∷ x ∷ xs) (x ∷ xs) (x ∷ insert_key order xs k))
        go Less t i later = i
        go Equal t (inl same) later = inl (same ∙ one k x t)
        go Equal t (inr h) later = h
        go Greater t (inl same) later = inr (later (inl same))
        go Greater t (inr (inl h)) later = inl h
        go Greater t (inr (inr h)) later = inr (later (inr h))

    still_there : (keys es : List K) (e : K) → IsIn e keys → IsIn e (with_keys order keys es)
    still_there keys [] e i = i
    still_there keys (x ∷ xs) e i = still_there (insert_key order keys x) xs e (in_insert keys x e (inr i))

    pub in_keys : (keys es : List K) (e : K) → IsIn e es → IsIn e (with_keys order keys es)
    in_keys keys [] e i = absurd i
    in_keys keys (x ∷ xs) e (inl h) = still_there (insert_key order keys x) xs e (in_insert keys x e (inl h))
    in_keys keys (x ∷ xs) e (inr h) = in_keys (insert_key order keys x) xs e h

-- ---- equal keys

pub pair_one : (x y : ℕ × ℕ) → pair_order x y ≡ Equal → x ≡ y
pair_one x y h = pair_is x y (ties x y ∙ ap is_eq h)

same_nat : (a b : ℕ) → nat_cmp a b ≡ Equal → a ≡ b
same_nat a b h = eqb-true a b (tie_nat a b ∙ ap is_eq h)

same_option : (a b : Option ℕ) → option_cmp nat_cmp a b ≡ Equal → a ≡ b
same_option None None h = refl
same_option None (Some b) h = absurd (let z : ⊥ = cc in z)
same_option (Some a) None h = absurd (let z : ⊥ = cc in z)
same_option (Some a) (Some b) h = ap Some (same_nat a b h)

both_equal : (o p : Ordering) → ordering_then o p ≡ Equal → (o ≡ Equal) × (p ≡ Equal)
both_equal Less p h = absurd (let z : ⊥ = cc in z)
both_equal Equal p h = (refl, h)
both_equal Greater p h = absurd (let z : ⊥ = cc in z)

pub found_one : (x y : FoundHop) → found_order x y ≡ Equal → x ≡ y
found_one x y h =
    let w = both_equal (pair_order x.0 y.0) (ordering_then (nat_cmp x.1.0 y.1.0) (option_cmp nat_cmp x.1.1 y.1.1)) h in
    let v = both_equal (nat_cmp x.1.0 y.1.0) (option_cmp nat_cmp x.1.1 y.1.1) w.1 in
    let place = pair_one x.0 y.0 w.0 in
    let out = same_nat x.1.0 y.1.0 v.0 in
    let next = same_option x.1.1 y.1.1 v.1 in
    λ i. (place i, (out i, next i))

found_total : IsTotalOrder found_order
found_total =
    then_total (then_total (on_total (λ (x : FoundHop). x.0.0) nat_cmp_total) (on_total (λ (x : FoundHop). x.0.1) nat_cmp_total))
    (then_total (on_total (λ (x : FoundHop). x.1.0) nat_cmp_total) (on_total (λ (x : FoundHop). x.1.1) (options_total nat_cmp_total)))

abbrev pub holds : List FoundHop → FoundHop → Bool
holds keys e = list_any (λ k. is_eq (found_order e k)) keys

equal_of : (o : Ordering) → is_eq o ≡ true → o ≡ Equal
equal_of Less h = absurd (let z : ⊥ = cc in z)
equal_of Equal h = refl
equal_of Greater h = absurd (let z : ⊥ = cc in z)

pub held_in : (keys : List FoundHop) (e : FoundHop) → holds keys e ≡ true → IsIn e keys
held_in keys e h =
    let w = some_in (λ k. is_eq (found_order e k)) keys h in
    subst (λ (k : FoundHop). IsIn k keys) (sym (found_one e w.0 (equal_of (found_order e w.0) w.2))) w.1

pub in_held : (keys : List FoundHop) (e : FoundHop) → IsIn e keys → holds keys e ≡ true
in_held keys e i = some_of (λ k. is_eq (found_order e k)) e keys i (ap is_eq (tied_itself found_total e))
