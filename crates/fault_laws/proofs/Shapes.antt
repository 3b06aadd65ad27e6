-- What a fault's row says of it, and how rows compare.
use Rattle.std.proofs.Common.{◌≡◌, ℕ, ◌<◌, true, cond, ◌&&◌, List, [], ◌∷◌, refl, ap, ◌∙◌, ⊎_elim, arith}
use Rattle.std.specs.Prelude.{◌==◌, nat_lt, slice_index}
use Rattle.std.proofs.lemmas.Bool.{or_left, or_right, or_cases, and_parts, and_from, eqb-true, eq-eqb, ltb-true, lt-ltb, false≢true}
use Rattle.policy_model.specs.Permits.{Permit}
use Rattle.policy_model.specs.FirstFault.{FaultCase, AreaSplit, NatConflict, NatTwice, NatInside, LimitViews, SamePrefix, HostShadowed, IfaceShadowed, ManagedEnd, LimitPermits, NoPath, HiddenEnd, LimitLines, LimitRoutes, NoHopAddress, AmbiguousHop, ViewPlace, AtZone, AtRouter, is_lower, order_of}
use Rattle.topology.specs.First.{row_of}

-- ---- the order of words

pub lower_here : (x y : ℕ) (xs ys : List ℕ) → x < y → is_lower (x ∷ xs) (y ∷ ys) ≡ true
lower_here x y xs ys h = or_left (nat_lt x y) ((x == y) && is_lower xs ys) (lt-ltb x y h)

pub lower_later : (x y : ℕ) (xs ys : List ℕ) → x ≡ y → is_lower xs ys ≡ true → is_lower (x ∷ xs) (y ∷ ys) ≡ true
lower_later x y xs ys e h = or_right (nat_lt x y) ((x == y) && is_lower xs ys) (and_from (x == y) (is_lower xs ys) (eq-eqb x y e) h)

-- No two words come before each other.
pub not_both : (xs ys : List ℕ) → is_lower xs ys ≡ true → is_lower ys xs ≡ true → ⊥
not_both [] [] h g = false≢true h
not_both [] (y ∷ ys) h g = false≢true g
not_both (x ∷ xs) [] h g = false≢true h
not_both (x ∷ xs) (y ∷ ys) h g =
    ⊎_elim
    (λ a. ⊎_elim (λ b. let p = ltb-true x y a in let q = ltb-true y x b in omega (arith, p, q))
    (λ b. let p = ltb-true x y a in let q = eqb-true y x (and_parts (y == x) (is_lower ys xs) b).0 in omega (arith, p, q))
    (or_cases (nat_lt y x) ((y == x) && is_lower ys xs) g))
    (λ a. let p = and_parts (x == y) (is_lower xs ys) a in
    let same = eqb-true x y p.0 in
    ⊎_elim (λ b. let q = ltb-true y x b in omega (arith, same, q))
    (λ b. not_both xs ys p.1 (and_parts (y == x) (is_lower ys xs) b).1)
    (or_cases (nat_lt y x) ((y == x) && is_lower ys xs) g))
    (or_cases (nat_lt x y) ((x == y) && is_lower xs ys) h)

-- ---- rows

starts : (permits : List Permit) (f : FaultCase) → (rest : List ℕ) × (order_of permits f ≡ row_of f ∷ rest)
starts permits (AreaSplit area border) = (area ∷ border ∷ [], refl)
starts permits (NatConflict tag zone) = (zone ∷ tag ∷ [], refl)
starts permits (NatTwice net zone tag other) = (zone ∷ net ∷ tag ∷ other ∷ [], refl)
starts permits (NatInside net tag) = (net ∷ tag ∷ [], refl)
starts permits LimitViews = ([], refl)
starts permits (SamePrefix net other at) = (_, refl)
starts permits (HostShadowed host net at) = (_, refl)
starts permits (IfaceShadowed iface shared net at) = (_, refl)
starts permits (ManagedEnd service iface) = (service ∷ iface ∷ [], refl)
starts permits LimitPermits = ([], refl)
starts permits (NoPath src dst) = (src ∷ dst ∷ [], refl)
starts permits (HiddenEnd permit src dst net zone) = (_, refl)
starts permits LimitLines = ([], refl)
starts permits LimitRoutes = ([], refl)
starts permits (NoHopAddress router net iface) = (router ∷ net ∷ iface ∷ [], refl)
starts permits (AmbiguousHop router net first second) = (_, refl)

-- A fault of an earlier row comes first.
pub lower_row : (permits : List Permit) (f g : FaultCase) → row_of f < row_of g → is_lower (order_of permits f) (order_of permits g) ≡ true
lower_row permits f g h =
    let a = starts permits f in
    let b = starts permits g in
    ap (λ (xs : List ℕ). is_lower xs (order_of permits g)) a.1 ∙ (ap (is_lower (row_of f ∷ a.0)) b.1 ∙ lower_here (row_of f) (row_of g) a.0 b.0 h)

-- ---- the fault of a row, by its values

abbrev pub value : ℕ → FaultCase → ℕ
value k f = slice_index (order_of [] f) k

abbrev pub place_of : ℕ → ℕ → ViewPlace
place_of k n = cond (k == 0) (AtZone n) (AtRouter n)

-- the networks of a hidden end's permit and the hidden one, which its order doesn't tell
abbrev pub hidden_src : FaultCase → ℕ
hidden_src (HiddenEnd permit src dst net zone) = src
hidden_src _ = 0

abbrev pub hidden_dst : FaultCase → ℕ
hidden_dst (HiddenEnd permit src dst net zone) = dst
hidden_dst _ = 0

abbrev pub hidden_net : FaultCase → ℕ
hidden_net (HiddenEnd permit src dst net zone) = net
hidden_net _ = 0

-- as far as rows are treated here
abbrev shape : ℕ → FaultCase → FaultCase
shape r f =
    cond (r == 0) (AreaSplit (value 1 f) (value 2 f))
    (cond (r == 1) (NatConflict (value 2 f) (value 1 f))
    (cond (r == 2) (NatTwice (value 2 f) (value 1 f) (value 3 f) (value 4 f))
    (cond (r == 3) (NatInside (value 1 f) (value 2 f))
    (cond (r == 4) LimitViews
    (cond (r == 5) (SamePrefix (value 3 f) (value 4 f) (place_of (value 1 f) (value 2 f)))
    (cond (r == 7) (ManagedEnd (value 1 f) (value 2 f))
    (cond (r == 8) LimitPermits
    (cond (r == 9) (NoPath (value 1 f) (value 2 f))
    (cond (r == 10) (HiddenEnd (value 1 f) (hidden_src f) (hidden_dst f) (hidden_net f) (value 2 f))
    (cond (r == 11) LimitLines
    (cond (r == 12) LimitRoutes f)))))))))))

its_shape : (f : FaultCase) → f ≡ shape (row_of f) f
its_shape (AreaSplit area border) = refl
its_shape (NatConflict tag zone) = refl
its_shape (NatTwice net zone tag other) = refl
its_shape (NatInside net tag) = refl
its_shape LimitViews = refl
its_shape (SamePrefix net other (AtZone z)) = refl
its_shape (SamePrefix net other (AtRouter r)) = refl
its_shape (HostShadowed host net at) = refl
its_shape (IfaceShadowed iface shared net at) = refl
its_shape (ManagedEnd service iface) = refl
its_shape LimitPermits = refl
its_shape (NoPath src dst) = refl
its_shape (HiddenEnd permit src dst net zone) = refl
its_shape LimitLines = refl
its_shape LimitRoutes = refl
its_shape (NoHopAddress router net iface) = refl
its_shape (AmbiguousHop router net first second) = refl

at_row : (r : ℕ) (f : FaultCase) → row_of f ≡ r → f ≡ shape r f
at_row r f e = its_shape f ∙ ap (λ (k : ℕ). shape k f) e

pub at_split : (f : FaultCase) → row_of f ≡ 0 → f ≡ AreaSplit (value 1 f) (value 2 f)
at_split f e = at_row 0 f e

pub at_conflict : (f : FaultCase) → row_of f ≡ 1 → f ≡ NatConflict (value 2 f) (value 1 f)
at_conflict f e = at_row 1 f e

pub at_twice : (f : FaultCase) → row_of f ≡ 2 → f ≡ NatTwice (value 2 f) (value 1 f) (value 3 f) (value 4 f)
at_twice f e = at_row 2 f e

pub at_inside : (f : FaultCase) → row_of f ≡ 3 → f ≡ NatInside (value 1 f) (value 2 f)
at_inside f e = at_row 3 f e

pub at_views : (f : FaultCase) → row_of f ≡ 4 → f ≡ LimitViews
at_views f e = at_row 4 f e

pub at_same : (f : FaultCase) → row_of f ≡ 5 → f ≡ SamePrefix (value 3 f) (value 4 f) (place_of (value 1 f) (value 2 f))
at_same f e = at_row 5 f e

pub at_managed : (f : FaultCase) → row_of f ≡ 7 → f ≡ ManagedEnd (value 1 f) (value 2 f)
at_managed f e = at_row 7 f e

pub at_permits : (f : FaultCase) → row_of f ≡ 8 → f ≡ LimitPermits
at_permits f e = at_row 8 f e

pub at_path : (f : FaultCase) → row_of f ≡ 9 → f ≡ NoPath (value 1 f) (value 2 f)
at_path f e = at_row 9 f e

pub at_hidden : (f : FaultCase) → row_of f ≡ 10 → f ≡ HiddenEnd (value 1 f) (hidden_src f) (hidden_dst f) (hidden_net f) (value 2 f)
at_hidden f e = at_row 10 f e

pub at_lines : (f : FaultCase) → row_of f ≡ 11 → f ≡ LimitLines
at_lines f e = at_row 11 f e

pub at_routes : (f : FaultCase) → row_of f ≡ 12 → f ≡ LimitRoutes
at_routes f e = at_row 12 f e
