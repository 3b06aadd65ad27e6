-- Chains of crossings.
use Rattle.std.proofs.Common.{◌≡◌, ℕ, Bool, true, false, ◌&&◌, eqb, List, [], ◌∷◌, ◌++◌, refl, sym, subst}
use Rattle.std.specs.List.{list_all}
use Rattle.std.proofs.lemmas.Bool.{and_parts, eqb-true, eq-eqb}
use Rattle.policy_model.specs.Paths.{Crossing, Reaches, leads}

pub both : (a b : Bool) → a ≡ true → b ≡ true → (a && b) ≡ true
both true b h k = k
both false b h k = h

module _ (allowed : Crossing → Bool) (at : ℕ → ℕ) where
  all_of_both : (p q : List Crossing) → list_all allowed p ≡ true → list_all allowed q ≡ true → list_all allowed (p ++ q) ≡ true
  all_of_both [] q hp hq = hq
  all_of_both (c ∷ p) q hp hq =
      let a = and_parts (allowed c) (list_all allowed p) hp in both (allowed c) (list_all allowed (p ++ q)) a.0 (all_of_both p q a.1 hq)

  leads_on : (p q : List Crossing) (from mid to : ℕ) → leads at from p mid ≡ true → leads at mid q to ≡ true → leads at from (p ++ q) to ≡ true
  leads_on [] q from mid to hp hq = subst (λ (x : ℕ). leads at x q to ≡ true) (sym (eqb-true from mid hp)) hq
  leads_on (c ∷ p) q from mid to hp hq =
      let a = and_parts (eqb (at c.enter) from) (leads at (at c.leave) p mid) hp in
      both (eqb (at c.enter) from) (leads at (at c.leave) (p ++ q) to) a.0 (leads_on p q (at c.leave) mid to a.1 hq)

  pub reaches_itself : (n : ℕ) → Reaches allowed at n n
  reaches_itself n = record { path = []; crossings = refl; ends = eq-eqb n n refl }

  pub reaches_on : (n m k : ℕ) → Reaches allowed at n m → Reaches allowed at m k → Reaches allowed at n k
  reaches_on n m k r s =
      record { path = r.path ++ s.path; crossings = all_of_both r.path s.path r.crossings s.crossings; ends = leads_on r.path s.path n m k r.ends s.ends }

  pub one_step : (c : Crossing) → allowed c ≡ true → Reaches allowed at (at c.enter) (at c.leave)
  one_step c h =
      record {
        path = c ∷ [];
        crossings = both (allowed c) true h refl;
        ends = both (eqb (at c.enter) (at c.enter)) (eqb (at c.leave) (at c.leave)) (eq-eqb (at c.enter) (at c.enter) refl) (eq-eqb (at c.leave) (at c.leave) refl);
      }
