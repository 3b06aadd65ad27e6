-- That networks are joined is reflexive, symmetric and transitive.
use Rattle.std.proofs.Common.{◌≡◌, ℕ, Bool, true, false, not, ◌&&◌, eqb, List, [], ◌∷◌, ◌++◌, length, refl, sym, subst, ap, ◌∙◌}
use Rattle.std.specs.Prelude.{◌==◌, nat_lt}
use Rattle.std.specs.List.{list_all}
use Rattle.std.proofs.lemmas.Bool.{and_parts, eqb-true, eq-eqb}
use Rattle.policy_model.specs.Policy.{Policy, net_at, router_at, is_managed}
use Rattle.policy_model.specs.Paths.{Crossing, Reaches, leads, is_through_router, crosses_unmanaged}
use Rattle.policy_model.specs.Zones.{AreJoined}

pub both : (a b : Bool) → a ≡ true → b ≡ true → (a && b) ≡ true
both true b h k = k
both false b h k = h

module _ (allowed : Crossing → Bool) (at : ℕ → ℕ) where
  all_of_both : (p q : List Crossing) → list_all allowed p ≡ true → list_all allowed q ≡ true → list_all allowed (p ++ q) ≡ true
  all_of_both [] q hp hq = hq
  all_of_both (c ∷ p) q hp hq =
      let a = and_parts (allowed c) (list_all allowed p) hp in both (allowed c) (list_all allowed (p ++ q)) a.0 (all_of_both p q a.1 hq)

  leads_on : (p q : List Crossing) (from mid to : ℕ) → leads at from p mid ≡ true → leads at mid q to ≡ true → leads at from (p ++ q) to ≡ true
  leads_on [] q from mid to hp hq = subst (λ (x : ℕ). leads at x q to ≡ true) (sym (eqb-true from mid hp)) hq
  leads_on (c ∷ p) q from mid to hp hq =
      let a = and_parts (eqb (at c.enter) from) (leads at (at c.leave) p mid) hp in
      both (eqb (at c.enter) from) (leads at (at c.leave) (p ++ q) to) a.0 (leads_on p q (at c.leave) mid to a.1 hq)

  pub reaches_itself : (n : ℕ) → Reaches allowed at n n
  reaches_itself n = record { path = []; crossings = refl; ends = eq-eqb n n refl }

  pub reaches_on : (n m k : ℕ) → Reaches allowed at n m → Reaches allowed at m k → Reaches allowed at n k
  reaches_on n m k r s =
      record { path = r.path ++ s.path; crossings = all_of_both r.path s.path r.crossings s.crossings; ends = leads_on r.path s.path n m k r.ends s.ends }

  pub one_step : (c : Crossing) → allowed c ≡ true → Reaches allowed at (at c.enter) (at c.leave)
  one_step c h =
      record {
        path = c ∷ [];
        crossings = both (allowed c) true h refl;
        ends = both (eqb (at c.enter) (at c.enter)) (eqb (at c.leave) (at c.leave)) (eq-eqb (at c.enter) (at c.enter) refl) (eq-eqb (at c.leave) (at c.leave) refl);
      }

  back_from : ((c : Crossing) → allowed c ≡ true → allowed (record { enter = c.leave; leave = c.enter }) ≡ true) →
      (p : List Crossing) (n m : ℕ) → list_all allowed p ≡ true → leads at n p m ≡ true → Reaches allowed at m n
  back_from turns [] n m all ends = subst (λ (x : ℕ). Reaches allowed at x n) (eqb-true n m ends) (reaches_itself n)
  back_from turns (c ∷ p) n m all ends =
      let a = and_parts (allowed c) (list_all allowed p) all in
      let e = and_parts (eqb (at c.enter) n) (leads at (at c.leave) p m) ends in
      let step = one_step (record { enter = c.leave; leave = c.enter }) (turns c a.0) in
      reaches_on m (at c.leave) n (back_from turns p (at c.leave) m a.1 e.1)
      (subst (λ (x : ℕ). Reaches allowed at (at c.leave) x) (eqb-true (at c.enter) n e.0) step)

  pub reaches_back : ((c : Crossing) → allowed c ≡ true → allowed (record { enter = c.leave; leave = c.enter }) ≡ true) →
      (n m : ℕ) → Reaches allowed at n m → Reaches allowed at m n
  reaches_back turns n m r = back_from turns r.path n m r.crossings r.ends

  pub labels_alike : (label : ℕ → ℕ) → ((c : Crossing) → allowed c ≡ true → label (at c.enter) ≡ label (at c.leave)) →
      (path : List Crossing) (n m : ℕ) → list_all allowed path ≡ true → leads at n path m ≡ true → label n ≡ label m
  labels_alike label steps [] n m all ends = ap label (eqb-true n m ends)
  labels_alike label steps (c ∷ path) n m all ends =
      let a = and_parts (allowed c) (list_all allowed path) all in
      let e = and_parts (eqb (at c.enter) n) (leads at (at c.leave) path m) ends in
      ap label (sym (eqb-true (at c.enter) n e.0)) ∙ (steps c a.0 ∙ labels_alike label steps path (at c.leave) m a.1 e.1)

-- an unmanaged router lets through both ways
pub turns_round : (p : Policy) (c : Crossing) → crosses_unmanaged p c ≡ true → crosses_unmanaged p (record { enter = c.leave; leave = c.enter }) ≡ true
turns_round p c h =
    let a = and_parts (is_through_router p c) (not (is_managed p (router_at p c.enter))) h in
    let b = and_parts (nat_lt c.enter (length p.ifaces) && nat_lt c.leave (length p.ifaces)) (router_at p c.enter == router_at p c.leave) a.0 in
    let d = and_parts (nat_lt c.enter (length p.ifaces)) (nat_lt c.leave (length p.ifaces)) b.0 in
    let same = eqb-true (router_at p c.enter) (router_at p c.leave) b.1 in
    both (is_through_router p (record { enter = c.leave; leave = c.enter })) (not (is_managed p (router_at p c.leave)))
    (both (nat_lt c.leave (length p.ifaces) && nat_lt c.enter (length p.ifaces)) (router_at p c.leave == router_at p c.enter)
    (both (nat_lt c.leave (length p.ifaces)) (nat_lt c.enter (length p.ifaces)) d.1 d.0) (eq-eqb (router_at p c.leave) (router_at p c.enter) (sym same)))
    (subst (λ (r : ℕ). not (is_managed p r) ≡ true) same a.1)

pub joined_itself : (p : Policy) (n : ℕ) → AreJoined p n n
joined_itself p n = reaches_itself (crosses_unmanaged p) (net_at p) n

pub joined_on : (p : Policy) (n m k : ℕ) → AreJoined p n m → AreJoined p m k → AreJoined p n k
joined_on p = reaches_on (crosses_unmanaged p) (net_at p)

pub joined_back : (p : Policy) (n m : ℕ) → AreJoined p n m → AreJoined p m n
joined_back p = reaches_back (crosses_unmanaged p) (net_at p) (turns_round p)

pub joined_by : (p : Policy) (c : Crossing) → crosses_unmanaged p c ≡ true → AreJoined p (net_at p c.enter) (net_at p c.leave)
joined_by p = one_step (crosses_unmanaged p) (net_at p)
