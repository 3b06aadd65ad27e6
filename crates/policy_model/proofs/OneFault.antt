-- A policy has one first fault at most: two faults that neither comes before the other are one.
use Rattle.std.proofs.Common.{◌≡◌, ℕ, zero, suc, Bool, true, false, not, cond, ◌&&◌, ◌||◌, List, [], ◌∷◌, refl, sym, ap, ◌∙◌, ⊎_elim}
use Rattle.std.specs.Prelude.{◌==◌, nat_lt, Option, Some, None, slice_index}
use Rattle.std.proofs.lemmas.Bool.{and_parts, or_cases, or_left, eqb-true, eq-eqb, lt-ltb, false≢true, not-true, cases_order}
use Rattle.policy_model.specs.Zones.{zone_of}
use Rattle.policy_model.specs.Permits.{Permit}
use Rattle.policy_model.specs.Blocks.{permit_at}
use Rattle.policy_model.specs.Routes.{NextHop}
use Rattle.policy_model.specs.FirstFault.{FaultCase, AreaSplit, NatConflict, NatTwice, NatInside, LimitViews, SamePrefix, HostShadowed, IfaceShadowed, ManagedEnd, LimitPermits, NoPath, HiddenEnd, LimitLines, LimitRoutes, NoHopAddress, AmbiguousHop, ViewPlace, AtZone, AtRouter, is_lower, order_of, HasFault, IsFirstFault}
use Rattle.policy_model.specs.Headline.{Meaning, permits_in}

-- ---- the order is total

neither : (xs ys : List ℕ) → is_lower xs ys ≡ false → is_lower ys xs ≡ false → xs ≡ ys
neither [] [] a b = refl
neither [] (y ∷ ys) a b = absurd (false≢true (sym a))
neither (x ∷ xs) [] a b = absurd (false≢true (sym b))
neither (x ∷ xs) (y ∷ ys) a b =
    ⊎_elim
    (λ e. ap (λ (n : ℕ). n ∷ xs) e
    ∙ ap (λ zs. y ∷ zs) (neither xs ys (rest (nat_lt x y) (x == y) (is_lower xs ys) (eq-eqb x y e) a) (rest (nat_lt y x) (y == x) (is_lower ys xs) (eq-eqb y x (sym e)) b)))
    (λ o. absurd (⊎_elim (λ less. false≢true (sym a ∙ or_left (nat_lt x y) _ (lt-ltb x y less))) (λ more. false≢true (sym b ∙ or_left (nat_lt y x) _ (lt-ltb y x more))) o))
    (cases_order x y)
  where
    rest : (p q r : Bool) → q ≡ true → (p || (q && r)) ≡ false → r ≡ false
    rest true q r e h = absurd (false≢true (sym h))
    rest false true r e h = h
    rest false false r e h = absurd (false≢true e)

-- ---- what a fault's order says of it

abbrev place_from : ℕ → ℕ → ViewPlace
place_from k n = cond (k == 0) (AtZone n) (AtRouter n)

abbrev next_from : ℕ → Option ℕ
next_from zero = None
next_from (suc k) = Some k

abbrev hop_from : ℕ → ℕ → NextHop
hop_from out k = record { out = out; next = next_from k }

-- the fault whose row and values these are
abbrev fault_from : List Permit → List ℕ → FaultCase
fault_from permits xs =
    let row = slice_index xs 0 in
    let a = slice_index xs 1 in
    let b = slice_index xs 2 in
    let c = slice_index xs 3 in
    let d = slice_index xs 4 in
    let e = slice_index xs 5 in
    cond (row == 0) (AreaSplit a b)
    (cond (row == 1) (NatConflict b a)
    (cond (row == 2) (NatTwice b a c d)
    (cond (row == 3) (NatInside a b)
    (cond (row == 4) LimitViews
    (cond (row == 5) (SamePrefix c d (place_from a b))
    (cond (row == 6) (cond (c == 0) (HostShadowed d e (place_from a b)) (IfaceShadowed d (e == 1) (slice_index xs 6) (place_from a b)))
    (cond (row == 7) (ManagedEnd a b)
    (cond (row == 8) LimitPermits
    (cond (row == 9) (NoPath a b)
    (cond (row == 10) (HiddenEnd a (permit_at permits a).src.net (permit_at permits a).dst.net (cond (c == 0) (permit_at permits a).src.net (permit_at permits a).dst.net) b)
    (cond (row == 11) LimitLines
    (cond (row == 12) LimitRoutes
    (cond (row == 13) (NoHopAddress a b c) (AmbiguousHop a b (hop_from c d) (hop_from e (slice_index xs 6))))))))))))))))

its_end : (src dst n : ℕ) (b : Bool) → (src == n) ≡ b → ((n == src) || (n == dst)) ≡ true → cond ((cond b 0 1) == 0) src dst ≡ n
its_end src dst n true is h = eqb-true src n is
its_end src dst n false is h =
    ⊎_elim (λ e. absurd (false≢true (sym is ∙ eq-eqb src n (sym (eqb-true n src e))))) (λ e. sym (eqb-true n dst e)) (or_cases (n == src) (n == dst) h)

read_back : (m : Meaning) (f : FaultCase) → HasFault m f → fault_from (permits_in m) (order_of (permits_in m) f) ≡ f
read_back m (AreaSplit k i) h = refl
read_back m (NatConflict t z) h = refl
read_back m (NatTwice n z t o) h = refl
read_back m (NatInside n t) h = refl
read_back m LimitViews h = refl
read_back m (SamePrefix n o (AtZone z)) h = refl
read_back m (SamePrefix n o (AtRouter r)) h = refl
read_back m (HostShadowed n o (AtZone z)) h = refl
read_back m (HostShadowed n o (AtRouter r)) h = refl
read_back m (IfaceShadowed i true o (AtZone z)) h = refl
read_back m (IfaceShadowed i true o (AtRouter r)) h = refl
read_back m (IfaceShadowed i false o (AtZone z)) h = refl
read_back m (IfaceShadowed i false o (AtRouter r)) h = refl
read_back m (ManagedEnd k i) h = refl
read_back m LimitPermits h = refl
read_back m (NoPath u w) h = refl
read_back m (HiddenEnd k u w n z) h =
    let q : Permit = permit_at (permits_in m) k in
    let a = and_parts _ _ h.2 in
    let b = and_parts _ _ a.0 in
    let c = and_parts (not (zone_of m.site q.src.net == zone_of m.site q.dst.net)) ((n == q.src.net) || (n == q.dst.net)) b.0 in
    ap (λ (x : ℕ). HiddenEnd k q.src.net q.dst.net x z) (its_end q.src.net q.dst.net n (q.src.net == n) refl c.1)
    ∙ (ap (λ (x : ℕ). HiddenEnd k x q.dst.net n z) h.3 ∙ ap (λ (x : ℕ). HiddenEnd k u x n z) h.4)
read_back m LimitLines h = refl
read_back m LimitRoutes h = refl
read_back m (NoHopAddress r n i) h = refl
read_back m (AmbiguousHop r n x y) h = by_next x.out x.next y.out y.next
  where
    by_next : (o : ℕ) (k : Option ℕ) (p : ℕ) (l : Option ℕ) →
        let x : NextHop = record { out = o; next = k } in
        let y : NextHop = record { out = p; next = l } in
        fault_from (permits_in m) (order_of (permits_in m) (AmbiguousHop r n x y)) ≡ AmbiguousHop r n x y
    by_next o None p None = refl
    by_next o None p (Some l) = refl
    by_next o (Some k) p None = refl
    by_next o (Some k) p (Some l) = refl

pub one_first_fault : (m : Meaning) (f g : FaultCase) → IsFirstFault m f → IsFirstFault m g → f ≡ g
one_first_fault m f g hf hg =
    let permits = permits_in m in
    let same = neither (order_of permits f) (order_of permits g) (not-true (is_lower (order_of permits f) (order_of permits g)) (hg.first f hf.there))
    (not-true (is_lower (order_of permits g) (order_of permits f)) (hf.first g hg.there)) in
    sym (read_back m f hf.there) ∙ (ap (fault_from permits) same ∙ read_back m g hg.there)
