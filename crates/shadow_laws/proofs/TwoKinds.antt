-- Things of two kinds, numbered by kind: all of the first kind come before those of the second.
use Rattle.std.proofs.Common.{◌≡◌, ℕ, ◌<◌, true, List, [], ◌∷◌, ◌++◌, map, refl, sym, subst, ⊎_elim, arith}
use Rattle.policy_model.specs.Lists.{numbers_below}
use Rattle.policy_model.specs.FirstFault.{is_lower}
use Rattle.policy_model.proofs.AllWalks.{IsIn, in_front, in_back, in_map, in_numbers, from_map}
use Rattle.list_laws.proofs.Members.{in_either}
use Rattle.fault_laws.proofs.Orders.{InOrder, from_numbers, order_numbers, order_append, order_map}
use Rattle.fault_laws.proofs.Shapes.{lower_here, lower_later}

-- ---- what is compared first

-- The first comes before the second, whatever follows them.
abbrev pub ComesBefore : {A : Type 0} → (A → List ℕ) → A → A → Type 0
ComesBefore order x y = (xs ys : List ℕ) → is_lower (order x ++ xs) (order y ++ ys) ≡ true

lower_behind : (zs xs ys : List ℕ) → is_lower xs ys ≡ true → is_lower (zs ++ xs) (zs ++ ys) ≡ true
lower_behind [] xs ys h = h
lower_behind (z ∷ zs) xs ys h = lower_later z z (zs ++ xs) (zs ++ ys) refl (lower_behind zs xs ys h)

-- Behind the same thing, what follows decides.
pub lower_same : {A : Type 0} (order : A → List ℕ) (x y : A) (xs ys : List ℕ) → x ≡ y → is_lower xs ys ≡ true → is_lower (order x ++ xs) (order y ++ ys) ≡ true
lower_same {A} order x y xs ys e h = subst (λ (z : A). is_lower (order x ++ xs) (order z ++ ys) ≡ true) e (lower_behind (order x) xs ys h)

module _ (A : Type 0) (low high : ℕ → A) (n k : ℕ) where
  abbrev lows : List A
  lows = map low (numbers_below n)

  abbrev highs : List A
  highs = map high (numbers_below k)

  -- ---- what is listed

  pub low_in : (a : ℕ) → a < n → IsIn (low a) (lows ++ highs)
  low_in a h = in_front (low a) lows highs (in_map low a (numbers_below n) (in_numbers n a h))

  pub high_in : (b : ℕ) → b < k → IsIn (high b) (lows ++ highs)
  high_in b h = in_back (high b) lows highs (in_map high b (numbers_below k) (in_numbers k b h))

  pub each_kind : (P : A → Type 0) → ((a : ℕ) → a < n → P (low a)) → ((b : ℕ) → b < k → P (high b)) → (x : A) → IsIn x (lows ++ highs) → P x
  each_kind P f g x i =
      ⊎_elim (λ h. let w = from_map low x (numbers_below n) h in subst P (sym w.2) (f w.0 (from_numbers n w.0 w.1)))
      (λ h. let w = from_map high x (numbers_below k) h in subst P (sym w.2) (g w.0 (from_numbers k w.0 w.1)))
      (in_either x lows highs i)

  -- ---- and in which order

  module _ (order : A → List ℕ) (of_low : (a : ℕ) → order (low a) ≡ 0 ∷ a ∷ []) (of_high : (b : ℕ) → order (high b) ≡ 1 ∷ b ∷ []) where
    by_orders : (x y : A) (v w : List ℕ) → order x ≡ v → order y ≡ w → ((xs ys : List ℕ) → is_lower (v ++ xs) (w ++ ys) ≡ true) → ComesBefore order x y
    by_orders x y v w e g h xs ys =
        subst (λ (o : List ℕ). is_lower (o ++ xs) (order y ++ ys) ≡ true) (sym e) (subst (λ (o : List ℕ). is_lower (v ++ xs) (o ++ ys) ≡ true) (sym g) (h xs ys))

    low_low : (a b : ℕ) → a < b → ComesBefore order (low a) (low b)
    low_low a b h = by_orders (low a) (low b) (0 ∷ a ∷ []) (0 ∷ b ∷ []) (of_low a) (of_low b) (λ xs ys. lower_later 0 0 (a ∷ xs) (b ∷ ys) refl (lower_here a b xs ys h))

    high_high : (a b : ℕ) → a < b → ComesBefore order (high a) (high b)
    high_high a b h = by_orders (high a) (high b) (1 ∷ a ∷ []) (1 ∷ b ∷ []) (of_high a) (of_high b) (λ xs ys. lower_later 1 1 (a ∷ xs) (b ∷ ys) refl (lower_here a b xs ys h))

    low_high : (a b : ℕ) → ComesBefore order (low a) (high b)
    low_high a b = by_orders (low a) (high b) (0 ∷ a ∷ []) (1 ∷ b ∷ []) (of_low a) (of_high b) (λ xs ys. lower_here 0 1 (a ∷ xs) (b ∷ ys) (omega arith))

    pub kinds_in_order : InOrder (ComesBefore order) (lows ++ highs)
    kinds_in_order =
        order_append (ComesBefore order) lows highs
        (order_map (λ (a b : ℕ). a < b) (ComesBefore order) low low_low (numbers_below n) (order_numbers n))
        (order_map (λ (a b : ℕ). a < b) (ComesBefore order) high high_high (numbers_below k) (order_numbers k))
        (λ x y i j.
        let v = from_map low x (numbers_below n) i in
        let w = from_map high y (numbers_below k) j in
        subst (λ (z : A). ComesBefore order z y) (sym v.2) (subst (λ (z : A). ComesBefore order (low v.0) z) (sym w.2) (low_high v.0 w.0)))
