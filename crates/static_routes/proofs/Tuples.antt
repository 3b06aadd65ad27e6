-- When two pairs of numbers compare as equal.
use Rattle.std.proofs.Common.{◌≡◌, ℕ, Bool, true, false, cond, eqb, ltb, ◌&&◌, sym, ap, refl, ◌∙◌, arith, nat_cmp}
use Rattle.std.specs.Ordering.{ordering_then, is_eq}
use Rattle.std.specs.declared.cmp.Ordering.{Ordering}
use Rattle.std.specs.declared.cmp.Ordering.TheVariants.{Less, Equal, Greater}
use Rattle.std.proofs.lemmas.Bool.{ltb-true, eqb-true, and_parts}
use Rattle.static_routes.specs.Chains.{pair_order}

abbrev pub pair_eq : ℕ × ℕ → ℕ × ℕ → Bool
pair_eq x y = eqb x.0 y.0 && eqb x.1 y.1

pub tie_nat : (a b : ℕ) → eqb a b ≡ is_eq (nat_cmp a b)
tie_nat a b = go (ltb a b) refl (eqb a b) refl
  where
    go : (c : Bool) → ltb a b ≡ c → (d : Bool) → eqb a b ≡ d → d ≡ is_eq (cond c Less (cond d Equal Greater))
    go true t true e = let lt = ltb-true a b t in let same = eqb-true a b e in absurd (let z : ⊥ = omega (arith, lt, same) in z)
    go true t false e = refl
    go false t true e = refl
    go false t false e = refl

tie_then : (o p : Ordering) → is_eq (ordering_then o p) ≡ (is_eq o && is_eq p)
tie_then Less p = refl
tie_then Equal p = refl
tie_then Greater p = refl

pub ties : (x y : ℕ × ℕ) → pair_eq x y ≡ is_eq (pair_order x y)
ties x y = ap (λ b. b && eqb x.1 y.1) (tie_nat x.0 y.0) ∙ (ap (λ b. is_eq (nat_cmp x.0 y.0) && b) (tie_nat x.1 y.1) ∙ sym (tie_then (nat_cmp x.0 y.0) (nat_cmp x.1 y.1)))

pub pair_is : (x y : ℕ × ℕ) → pair_eq x y ≡ true → x ≡ y
pair_is x y h =
    let w = and_parts (eqb x.0 y.0) (eqb x.1 y.1) h in
    ap (λ (n : ℕ). let r : ℕ × ℕ = (n, x.1) in r) (eqb-true x.0 y.0 w.0) ∙ ap (λ (n : ℕ). let r : ℕ × ℕ = (y.0, n) in r) (eqb-true x.1 y.1 w.1)
