-- Whether a path leads somewhere can be tested: a path without a repeated entering interface is no longer than there are interfaces.
use Rattle.std.proofs.Common.{◌≡◌, ℕ, zero, suc, ◌+◌, ◌≤◌, inl, inr, Bool, true, false, not, cond, ◌||◌, List, [], ◌∷◌, length, map, refl, sym, ap, subst, ◌∙◌, ⊎_elim, arith}
use Rattle.std.specs.Prelude.{◌==◌}
use Rattle.std.specs.List.{list_any, list_all, range_with_len}
use Rattle.std.proofs.Math.ListN.{length-map}
use Rattle.std.proofs.lemmas.Bool.{and_parts, and_from, or_cases, or_left, or_right, eqb-true, eq-eqb, false≢true, not_from_false}
use Rattle.policy_model.specs.Lists.{has, are_distinct, lists_up_to, pairs_of}
use Rattle.policy_model.specs.Policy.{Policy, all_ifaces}
use Rattle.policy_model.specs.Paths.{Crossing, Reaches, leads, all_steps, is_through_router}
use Rattle.policy_model.proofs.AllWalks.{IsIn, in_map, in_pairs, in_numbers, in_lists_up_to, from_map, length-le_of_distinct}
use Rattle.policy_model.proofs.Tested.{crossing_below}
use Rattle.meaning_laws.specs.Tables.{is_path, reaches}

abbrev pub enters : List Crossing → List ℕ
enters path = map (λ (c : Crossing). c.enter) path

-- the path from where it first enters at the interface
from_enter : ℕ → List Crossing → List Crossing
from_enter e [] = []
from_enter e (c ∷ path) = cond (c.enter == e) (c ∷ path) (from_enter e path)

-- the path without its loops
trimmed : List Crossing → List Crossing
trimmed [] = []
trimmed (c ∷ path) = cond (has (enters (trimmed path)) c.enter) (from_enter c.enter (trimmed path)) (c ∷ trimmed path)

-- ---- what a part keeps

from_all : (t : Crossing → Bool) (e : ℕ) (path : List Crossing) → list_all t path ≡ true → list_all t (from_enter e path) ≡ true
unfolding from_enter
from_all t e [] h = refl
from_all t e (c ∷ path) h = go (c.enter == e) (from_all t e path (and_parts (t c) (list_all t path) h).1)
  where
    go : (b : Bool) → list_all t (from_enter e path) ≡ true → list_all t (cond b (c ∷ path) (from_enter e path)) ≡ true
    go true ih = h
    go false ih = ih

from_distinct : (e : ℕ) (path : List Crossing) → are_distinct (enters path) ≡ true → are_distinct (enters (from_enter e path)) ≡ true
unfolding from_enter
from_distinct e [] h = refl
from_distinct e (c ∷ path) h = go (c.enter == e) (from_distinct e path (and_parts (not (has (enters path) c.enter)) (are_distinct (enters path)) h).1)
  where
    go : (b : Bool) → are_distinct (enters (from_enter e path)) ≡ true → are_distinct (enters (cond b (c ∷ path) (from_enter e path))) ≡ true
    go true ih = h
    go false ih = ih

from_leads : (at : ℕ → ℕ) (e from to : ℕ) (path : List Crossing) → has (enters path) e ≡ true → leads at from path to ≡ true → leads at (at e) (from_enter e path) to ≡ true
unfolding from_enter
from_leads at e from to [] there h = absurd (false≢true there)
from_leads at e from to (c ∷ path) there h =
    let w = and_parts (at c.enter == from) (leads at (at c.leave) path to) h in
    go (c.enter == e) refl w.1 (λ later. from_leads at e (at c.leave) to path later w.1)
  where
    rest_has : (a b : Bool) → a ≡ false → (a || b) ≡ true → b ≡ true
    rest_has true b f h = absurd (false≢true (sym f))
    rest_has false b f h = h

    go : (b : Bool) → (c.enter == e) ≡ b → leads at (at c.leave) path to ≡ true → (has (enters path) e ≡ true → leads at (at e) (from_enter e path) to ≡ true) →
        leads at (at e) (cond b (c ∷ path) (from_enter e path)) to ≡ true
    go true is rest ih = and_from (at c.enter == at e) (leads at (at c.leave) path to) (eq-eqb (at c.enter) (at e) (ap at (eqb-true c.enter e is))) rest
    go false is rest ih = ih (rest_has (c.enter == e) (has (enters path) e) is there)

trimmed_all : (t : Crossing → Bool) (path : List Crossing) → list_all t path ≡ true → list_all t (trimmed path) ≡ true
unfolding trimmed
trimmed_all t [] h = refl
trimmed_all t (c ∷ path) h =
    let a = and_parts (t c) (list_all t path) h in
    let ih = trimmed_all t path a.1 in
    go (has (enters (trimmed path)) c.enter) a.0 ih
  where
    go : (b : Bool) → t c ≡ true → list_all t (trimmed path) ≡ true → list_all t (cond b (from_enter c.enter (trimmed path)) (c ∷ trimmed path)) ≡ true
    go true here rest = from_all t c.enter (trimmed path) rest
    go false here rest = and_from (t c) (list_all t (trimmed path)) here rest

trimmed_distinct : (path : List Crossing) → are_distinct (enters (trimmed path)) ≡ true
unfolding trimmed
trimmed_distinct [] = refl
trimmed_distinct (c ∷ path) = go (has (enters (trimmed path)) c.enter) refl (trimmed_distinct path)
  where
    go : (b : Bool) → has (enters (trimmed path)) c.enter ≡ b → are_distinct (enters (trimmed path)) ≡ true →
        are_distinct (enters (cond b (from_enter c.enter (trimmed path)) (c ∷ trimmed path))) ≡ true
    go true is rest = from_distinct c.enter (trimmed path) rest
    go false is rest = and_from (not (has (enters (trimmed path)) c.enter)) (are_distinct (enters (trimmed path))) (not_from_false (has (enters (trimmed path)) c.enter) is) rest

trimmed_leads : (at : ℕ → ℕ) (from to : ℕ) (path : List Crossing) → leads at from path to ≡ true → leads at from (trimmed path) to ≡ true
unfolding trimmed
trimmed_leads at from to [] h = h
trimmed_leads at from to (c ∷ path) h =
    let w = and_parts (at c.enter == from) (leads at (at c.leave) path to) h in
    let ih = trimmed_leads at (at c.leave) to path w.1 in
    go (has (enters (trimmed path)) c.enter) refl w.0 ih
  where
    go : (b : Bool) → has (enters (trimmed path)) c.enter ≡ b → (at c.enter == from) ≡ true → leads at (at c.leave) (trimmed path) to ≡ true →
        leads at from (cond b (from_enter c.enter (trimmed path)) (c ∷ trimmed path)) to ≡ true
    go true is here rest =
        subst (λ (k : ℕ). leads at k (from_enter c.enter (trimmed path)) to ≡ true) (eqb-true (at c.enter) from here) (from_leads at c.enter (at c.leave) to (trimmed path) is rest)
    go false is here rest = and_from (at c.enter == from) (leads at (at c.leave) (trimmed path) to) here rest

-- ---- the test

module _ (p : Policy) (allowed : Crossing → Bool) (through : (c : Crossing) → allowed c ≡ true → is_through_router p c ≡ true) (at : ℕ → ℕ) where
  each_through : (path : List Crossing) → list_all allowed path ≡ true → (c : Crossing) → IsIn c path → is_through_router p c ≡ true
  each_through [] all c h = absurd h
  each_through (d ∷ path) all c (inl e) = through c (ap allowed e ∙ (and_parts (allowed d) (list_all allowed path) all).0)
  each_through (d ∷ path) all c (inr h) = each_through path (and_parts (allowed d) (list_all allowed path) all).1 c h

  step_there : (c : Crossing) → is_through_router p c ≡ true → IsIn c (all_steps p)
  step_there c h =
      let d = crossing_below p c h in
      let n = length p.ifaces in
      in_map (λ (e : ℕ × ℕ). record { enter = e.0; leave = e.1 }) (c.enter, c.leave) (pairs_of (all_ifaces p) (all_ifaces p))
      (in_pairs c.enter c.leave (all_ifaces p) (all_ifaces p) (in_numbers n c.enter d.0) (in_numbers n c.leave d.1))

  range_long : (a n : ℕ) → length (range_with_len a n) ≡ n
  range_long a zero = refl
  range_long a (suc n) = ap suc (range_long (a + 1) n)

  short : (path : List Crossing) → list_all allowed path ≡ true → are_distinct (enters path) ≡ true → length path ≤ length p.ifaces
  short path all once =
      let le = length-le_of_distinct (enters path) (all_ifaces p) once
      (λ x h. let w = from_map (λ (c : Crossing). c.enter) x path h in
      let c : Crossing = w.0 in
      subst (λ (k : ℕ). IsIn k (all_ifaces p)) (sym w.2) (in_numbers (length p.ifaces) c.enter (crossing_below p c (each_through path all c w.1)).0)) in
      omega (arith, le, length-map path (λ (c : Crossing). c.enter), range_long 0 (length p.ifaces))

  some_of : {A : Type 0} (test : A → Bool) (x : A) (xs : List A) → IsIn x xs → test x ≡ true → list_any test xs ≡ true
  some_of test x [] h t = absurd h
  some_of test x (y ∷ ys) (inl e) t = or_left (test y) (list_any test ys) (ap test (sym e) ∙ t)
  some_of test x (y ∷ ys) (inr h) t = or_right (test y) (list_any test ys) (some_of test x ys h t)

  some_in : {A : Type 0} (test : A → Bool) (xs : List A) → list_any test xs ≡ true → (x : A) × (test x ≡ true)
  some_in test [] h = absurd (false≢true h)
  some_in test (x ∷ xs) h = ⊎_elim (λ t. (x, t)) (λ t. some_in test xs t) (or_cases (test x) (list_any test xs) h)

  pub reached : (from to : ℕ) → Reaches allowed at from to → reaches p allowed at from to ≡ true
  reached from to r =
      let path = trimmed r.path in
      let all = trimmed_all allowed r.path r.crossings in
      let ends = trimmed_leads at from to r.path r.ends in
      let le = short path all (trimmed_distinct r.path) in
      some_of (is_path allowed at from to) path (lists_up_to (length p.ifaces) (all_steps p))
      (in_lists_up_to (length p.ifaces) (all_steps p) path (λ c h. step_there c (each_through path all c h)) le)
      (and_from (list_all allowed path) (leads at from path to) all ends)

  pub leads_there : (from to : ℕ) → reaches p allowed at from to ≡ true → Reaches allowed at from to
  leads_there from to h =
      let w = some_in (is_path allowed at from to) (lists_up_to (length p.ifaces) (all_steps p)) h in
      let a = and_parts (list_all allowed w.0) (leads at from w.0 to) w.1 in
      record { path = w.0; crossings = a.0; ends = a.1 }
