-- Each item at its first place is what is found by adding one after the other what isn't there yet.
use Rattle.std.proofs.Common.{◌≡◌, ◌∙◌, refl, sym, ap, Bool, true, false, not, ◌&&◌, ◌||◌, cond, List, [], ◌∷◌, ◌++◌, filter, append_assoc, append-nil, true≢false}
use Rattle.std.specs.Prelude.{fold, ◌==◌}
use Rattle.std.specs.List.{list_any}
use Rattle.std.specs.Cmp.Lexicographic.{pointwise_decides}
use Rattle.std.proofs.lemmas.Bool.{eq-eqb, eqb-true}
use Rattle.spoc_base.specs.Address.{Cidr}
use Rattle.policy_model.specs.Lists.{once_each}
use Rattle.acl_print.specs.Groups.{is_equal, same_prefixes, is_several, with_group}

module _ {A : Type 0} where
  both_tests : (p q r : A → Bool) → ((x : A) → (q x && p x) ≡ r x) → (xs : List A) → filter p (filter q xs) ≡ filter r xs
  both_tests p q r e [] = refl
  both_tests p q r e (x ∷ xs) = by (both_tests p q r e xs) (q x) (e x)
    where
      by : filter p (filter q xs) ≡ filter r xs → (b : Bool) → (b && p x) ≡ r x → filter p (cond b (x ∷ filter q xs) (filter q xs)) ≡ cond (r x) (x ∷ filter r xs) (filter r xs)
      by so_far false f = so_far ∙ ap (λ c. cond c (x ∷ filter r xs) (filter r xs)) f
      by so_far true f = ap (λ l. cond (p x) (x ∷ l) l) so_far ∙ ap (λ c. cond c (x ∷ filter r xs) (filter r xs)) f

  any_more : (p : A → Bool) (xs : List A) (x : A) → list_any p (xs ++ x ∷ []) ≡ (list_any p xs || p x)
  any_more p [] x = or_false (p x)
    where
      or_false : (b : Bool) → (b || false) ≡ b
      or_false true = refl
      or_false false = refl
  any_more p (y ∷ ys) x = ap (λ b. p y || b) (any_more p ys x) ∙ or_assoc (p y) (list_any p ys) (p x)
    where
      or_assoc : (a b c : Bool) → (a || (b || c)) ≡ ((a || b) || c)
      or_assoc true b c = refl
      or_assoc false b c = refl

module _ {A : Type 0} (same : A → A → Bool) (decides : (x y : A) → (same x y ≡ true → x ≡ y) × (x ≡ y → same x y ≡ true)) where
  abbrev added : List A → A → List A
  added found x = cond (list_any (same x) found) found (found ++ x ∷ [])

  abbrev is_new : List A → A → Bool
  is_new found y = not (list_any (same y) found)

  same_back : (x y : A) → same x y ≡ same y x
  same_back x y = by (same x y) (same y x) refl refl
    where
      by : (a b : Bool) → same x y ≡ a → same y x ≡ b → a ≡ b
      by true true e f = refl
      by true false e f = sym ((decides y x).1 (sym ((decides x y).0 e))) ∙ f
      by false true e f = sym e ∙ (decides x y).1 (sym ((decides y x).0 f))
      by false false e f = refl

  old_again : (found : List A) (x : A) → list_any (same x) found ≡ true → (y : A) → (not (same x y) && is_new found y) ≡ is_new found y
  old_again found x there y = by (same x y) refl
    where
      by : (b : Bool) → same x y ≡ b → (not b && is_new found y) ≡ is_new found y
      by true e = ap not (sym there ∙ ap (λ z. list_any (same z) found) ((decides x y).0 e))
      by false e = refl

  new_now : (found : List A) (x y : A) → (not (same x y) && is_new found y) ≡ is_new (found ++ x ∷ []) y
  new_now found x y = ap (λ b. not b && is_new found y) (same_back x y) ∙ turned (same y x) (list_any (same y) found) ∙ sym (ap not (any_more (same y) found x))
    where
      turned : (a b : Bool) → (not a && not b) ≡ not (b || a)
      turned true true = refl
      turned true false = refl
      turned false true = refl
      turned false false = refl

  pub first_uses : (found xs : List A) → fold added found xs ≡ found ++ filter (is_new found) (once_each same xs)
  first_uses found [] = sym (append-nil found)
  first_uses found (x ∷ xs) = by (first_uses found xs) (first_uses (found ++ x ∷ []) xs) (list_any (same x) found) refl
    where
      rest : List A
      rest = filter (is_new found) (filter (λ y. not (same x y)) (once_each same xs))

      by : fold added found xs ≡ found ++ filter (is_new found) (once_each same xs) →
          fold added (found ++ x ∷ []) xs ≡ (found ++ x ∷ []) ++ filter (is_new (found ++ x ∷ [])) (once_each same xs) →
          (b : Bool) → list_any (same x) found ≡ b → fold added (cond b found (found ++ x ∷ [])) xs ≡ found ++ cond (not b) (x ∷ rest) rest
      by old new true e = old ∙ ap (λ l. found ++ l) (sym (both_tests (is_new found) (λ y. not (same x y)) (is_new found) (old_again found x e) (once_each same xs)))
      by old new false e =
          new ∙ append_assoc found (x ∷ []) (filter (is_new (found ++ x ∷ [])) (once_each same xs))
          ∙ ap (λ l. found ++ x ∷ l) (sym (both_tests (is_new found) (λ y. not (same x y)) (is_new (found ++ x ∷ [])) (new_now found x) (once_each same xs)))

  all_new : (xs : List A) → filter (is_new []) xs ≡ xs
  all_new [] = refl
  all_new (x ∷ xs) = ap (λ l. x ∷ l) (all_new xs)

  pub from_nothing : (xs : List A) → fold added [] xs ≡ once_each same xs
  from_nothing xs = first_uses [] xs ∙ all_new (once_each same xs)

  pub tested_alone : (test : A → Bool) (found xs : List A) → fold (λ l x. cond (test x) (added l x) l) found xs ≡ fold added found (filter test xs)
  tested_alone test found [] = refl
  tested_alone test found (x ∷ xs) = by (tested_alone test (added found x) xs) (tested_alone test found xs) (test x)
    where
      step : List A → A → List A
      step l y = cond (test y) (added l y) l

      by : fold (λ l y. cond (test y) (added l y) l) (added found x) xs ≡ fold added (added found x) (filter test xs) → fold (λ l y. cond (test y) (added l y) l) found xs ≡ fold added found (filter test xs) →
          (b : Bool) → fold (λ l y. cond (test y) (added l y) l) (cond b (added found x) found) xs ≡ fold added found (cond b (x ∷ filter test xs) (filter test xs))
      by one other true = one
      by one other false = other

and_true : (a b : Bool) → (a && b) ≡ true → (a ≡ true) × (b ≡ true)
and_true true b e = (refl, e)
and_true false b e = absurd (true≢false (sym e))

equal_decides : (p q : Cidr) → (is_equal p q ≡ true → p ≡ q) × (p ≡ q → is_equal p q ≡ true)
equal_decides p q = (there, back)
  where
    there : is_equal p q ≡ true → p ≡ q
    there e =
        let parts = and_true (p.net == q.net) (p.len == q.len) e in
        let n = eqb-true p.net q.net parts.0 in
        let m = eqb-true p.len q.len parts.1 in
        λ i. record { net = n i; len = m i }

    back : p ≡ q → is_equal p q ≡ true
    back e = ap (λ b. b && (p.len == q.len)) (eq-eqb p.net q.net (ap (λ (r : Cidr). r.net) e)) ∙ eq-eqb p.len q.len (ap (λ (r : Cidr). r.len) e)

pub groups_found : (ends : List (List Cidr)) → fold with_group [] ends ≡ once_each same_prefixes (filter is_several ends)
groups_found ends =
    tested_alone same_prefixes (pointwise_decides equal_decides) is_several [] ends ∙ from_nothing same_prefixes (pointwise_decides equal_decides) (filter is_several ends)
