-- The interfaces of an unmanaged router stand at joined networks.
use Rattle.std.proofs.Common.{◌≡◌, ℕ, zero, suc, ◌+◌, ◌<◌, false, not, ◌&&◌, List, length, map, refl, sym, subst, ap, ◌∙◌, arith, slice_index, slice_index_or, ◌-◌, ◌≤◌, ⊎_elim}
use Rattle.std.specs.Prelude.{◌==◌, nat_lt}
use Rattle.std.proofs.lemmas.Bool.{cases_eq, eqb-true, eq-eqb, lt-ltb}
use Rattle.std.proofs.Math.ListN.{get_or-map}
use Rattle.spoc_base.specs.declared.ids.IfId.{IfId}
use Rattle.policy_model.specs.Policy.{Policy, net_at, router_at, is_managed}
use Rattle.policy_model.specs.Paths.{is_through_router}
use Rattle.policy_model.specs.Zones.{AreJoined}
use Rattle.policy_model.specs.Tags.{ifaces_of}
use Rattle.zone_graph.specs.Forest.{AreTied, AllTied, KeepsTies, TiesBelow}
use Rattle.zone_graph.proofs.Joining.{both, joined_by}
use Rattle.zone_graph.proofs.Rows.{passed, standing}

pub in_row : (p : Policy) (r k : ℕ) → k < length (ifaces_of p r) → (slice_index (ifaces_of p r) k < length p.ifaces) × (router_at p (slice_index (ifaces_of p r) k) ≡ r)
in_row p r k h =
    let w = passed (λ i. router_at p i == r) (length p.ifaces) k h in (w.0, eqb-true (router_at p (slice_index (ifaces_of p r) k)) r w.1)

pub neighbours_joined : (p : Policy) (r j k : ℕ) → is_managed p r ≡ false → j < length (ifaces_of p r) → k < length (ifaces_of p r) →
    AreJoined p (net_at p (slice_index (ifaces_of p r) j)) (net_at p (slice_index (ifaces_of p r) k))
neighbours_joined p r j k free hj hk =
    let a = in_row p r j hj in
    let b = in_row p r k hk in
    let e = slice_index (ifaces_of p r) j in
    let l = slice_index (ifaces_of p r) k in
    joined_by p (record { enter = e; leave = l })
    (both (is_through_router p (record { enter = e; leave = l })) (not (is_managed p (router_at p e)))
    (both (nat_lt e (length p.ifaces) && nat_lt l (length p.ifaces)) (router_at p e == router_at p l)
    (both (nat_lt e (length p.ifaces)) (nat_lt l (length p.ifaces)) (lt-ltb e (length p.ifaces) a.0) (lt-ltb l (length p.ifaces) b.0))
    (eq-eqb (router_at p e) (router_at p l) (a.1 ∙ sym b.1)))
    (ap (λ (x : ℕ). not (is_managed p x)) a.1 ∙ ap not free))

-- neighbours' ties tie the first to each
from_first : (p : Policy) (parents ifs : List ℕ) → AllTied p parents ifs → (k : ℕ) → k < length ifs → AreTied parents (net_at p (slice_index ifs 0)) (net_at p (slice_index ifs k))
from_first p parents ifs all zero h label follows = refl
from_first p parents ifs all (suc k) h label follows =
    let e : k + 1 ≡ suc k = omega arith in
    from_first p parents ifs all k (omega (arith, h)) label follows ∙ (all k (omega (arith, h)) label follows ∙ ap (λ (x : ℕ). label (net_at p (slice_index ifs x))) e)

-- all interfaces of the router stand at tied networks
pub all_alike : (p : Policy) (parents : List ℕ) (r i j : ℕ) → AllTied p parents (ifaces_of p r) → i < length p.ifaces → j < length p.ifaces →
    router_at p i ≡ r → router_at p j ≡ r → AreTied parents (net_at p i) (net_at p j)
all_alike p parents r i j all hi hj ri rj label follows =
    let a = standing (λ x. router_at p x == r) (length p.ifaces) i hi (eq-eqb (router_at p i) r ri) in
    let b = standing (λ x. router_at p x == r) (length p.ifaces) j hj (eq-eqb (router_at p j) r rj) in
    ap (λ (x : ℕ). label (net_at p x)) (sym a.2) ∙ (sym (from_first p parents (ifaces_of p r) all a.0 a.1 label follows)
    ∙ (from_first p parents (ifaces_of p r) all b.0 b.1 label follows ∙ ap (λ (x : ℕ). label (net_at p x)) b.2))

-- a list of interfaces, by number
pub at_row : (ids : List IfId) (row : List ℕ) → map (λ i. i.0) ids ≡ row → (k : ℕ) → (slice_index_or ids k (record { 0 = 0 })).0 ≡ slice_index row k
at_row ids row e k = sym (get_or-map (λ (i : IfId). i.0) ids k (record { 0 = 0 })) ∙ ap (λ (xs : List ℕ). slice_index xs k) e

-- one tie more
pub next_tied : (p : Policy) (old new ifs : List ℕ) (k a b : ℕ) → 1 ≤ k → KeepsTies old new →
    ((j : ℕ) → j + 1 < k → j + 1 < length ifs → AreTied old (net_at p (slice_index ifs j)) (net_at p (slice_index ifs (j + 1)))) →
    a ≡ net_at p (slice_index ifs (k - 1)) → b ≡ net_at p (slice_index ifs k) → AreTied new a b →
    (j : ℕ) → j + 1 < k + 1 → j + 1 < length ifs → AreTied new (net_at p (slice_index ifs j)) (net_at p (slice_index ifs (j + 1)))
next_tied p old new ifs k a b one keeps so_far ea eb tied j hj hl label follows =
    ⊎_elim
    (λ e.
    let f : k - 1 ≡ j = omega (arith, e) in
    ap (λ (x : ℕ). label (net_at p (slice_index ifs x))) (sym f) ∙ (ap label (sym ea) ∙ (tied label follows ∙ (ap label eb
    ∙ ap (λ (x : ℕ). label (net_at p (slice_index ifs x))) (sym e)))))
    (λ ne. so_far j (omega (arith, hj, ne)) hl label (keeps label follows)) (cases_eq (j + 1) k)

-- one router more
pub more_tied : (p : Policy) (old new : List ℕ) (r : ℕ) → KeepsTies old new → TiesBelow p old r → (is_managed p r ≡ false → AllTied p new (ifaces_of p r)) → TiesBelow p new (r + 1)
more_tied p old new r keeps so_far tied q hq free =
    ⊎_elim (λ e. subst (λ (x : ℕ). AllTied p new (ifaces_of p x)) (sym e) (tied (subst (λ (x : ℕ). is_managed p x ≡ false) e free)))
    (λ ne. λ k hk label follows. so_far q (omega (arith, hq, ne)) free k hk label (keeps label follows)) (cases_eq q r)
