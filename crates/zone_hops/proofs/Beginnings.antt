-- The marked routers begin the ways to the target, and no others do.
use Rattle.std.proofs.Common.{◌≡◌, ℕ, zero, suc, ◌+◌, ◌<◌, ◌≤◌, inl, inr, Bool, true, false, not, cond, List, [], ◌∷◌, ◌++◌, length, drop, refl, sym, ap, subst, ◌∙◌, arith, slice_index, append_assoc}
use Rattle.std.specs.Prelude.{◌==◌, filter}
use Rattle.std.specs.List.{list_any, list_all, range_with_len}
use Rattle.std.proofs.lemmas.Bool.{and_parts, or_parts, or_left, or_right, eqb-true, eq-eqb, false≢true, not-true}
use Rattle.std.proofs.lemmas.List.{append-nil}
use Rattle.policy_model.specs.Lists.{has, are_distinct}
use Rattle.policy_model.specs.Policy.{Policy, net_at, router_at, is_managed}
use Rattle.policy_model.specs.Paths.{Crossing, leads, places_on, crosses_unmanaged}
use Rattle.policy_model.specs.Routes.{is_chain, all_chains, starts_at, first_hops}
use Rattle.policy_model.proofs.AllWalks.{IsIn}
use Rattle.list_laws.proofs.Members.{from_filter, some_in}
use Rattle.topology.specs.Kept.{ifaces_at}
use Rattle.group_expand.specs.Spread.{marked}
use Rattle.group_expand.proofs.Rows.{left_of, none_left}
use Rattle.zone_hops.specs.Search.{IsSearch, AreBeginnings}
use Rattle.zone_hops.proofs.Chains.{through, parts_of, passes, longer, listed}

-- a chain that is in the list begins with its first interface
begins_one : (c : Crossing) (path : List Crossing) (xs : List (List Crossing)) → IsIn (c ∷ path) xs → list_any (starts_at c.enter) xs ≡ true
begins_one c path [] h = absurd h
begins_one c path (x ∷ xs) (inl e) = or_left (starts_at c.enter x) (list_any (starts_at c.enter) xs) (ap (starts_at c.enter) (sym e) ∙ eq-eqb c.enter c.enter refl)
begins_one c path (x ∷ xs) (inr h) = or_right (starts_at c.enter x) (list_any (starts_at c.enter) xs) (begins_one c path xs h)

both_ways : (a b : Bool) → (a ≡ true → b ≡ true) → (b ≡ true → a ≡ true) → a ≡ b
both_ways true b f g = sym (f refl)
both_ways false true f g = g refl
both_ways false false f g = refl

module _ (p : Policy) (n t : ℕ) (seen passed : List Bool) (s : IsSearch p n t seen passed [] [] []) (started : marked seen t ≡ true) where
  -- from a marked network on to one before it
  back : (c : Crossing) → crosses_unmanaged p c ≡ true → marked seen (net_at p c.leave) ≡ true → marked passed (router_at p c.enter) ≡ true
  back c h here =
      let w = passes p c h in
      subst (λ (r : ℕ). marked passed r ≡ true) (sym w.same)
      (s.nets_done c.leave w.leaves (subst (λ (r : ℕ). is_managed p r ≡ false) w.same (not-true (is_managed p (router_at p c.enter)) w.unmanaged)) here refl)

  -- each network on a path to the target is marked that stays away
  closed : (m : ℕ) (path : List Crossing) → list_all (crosses_unmanaged p) path ≡ true → leads (net_at p) m path t ≡ true → has (places_on (net_at p) m path) n ≡ false → marked seen m ≡ true
  closed m [] all ends apart = subst (λ (x : ℕ). marked seen x ≡ true) (sym (eqb-true m t ends)) started
  closed m (c ∷ path) all ends apart =
      let a = and_parts (crosses_unmanaged p c) (list_all (crosses_unmanaged p) path) all in
      let e = and_parts (net_at p c.enter == m) (leads (net_at p) (net_at p c.leave) path t) ends in
      let k = or_parts (m == n) (has (places_on (net_at p) (net_at p c.leave) path) n) apart in
      let is : net_at p c.enter ≡ m = eqb-true (net_at p c.enter) m e.0 in
      let here = closed (net_at p c.leave) path a.1 e.1 k.1 in
      subst (λ (x : ℕ). marked seen x ≡ true) is
      (s.routers_done c.enter (passes p c a.0).enters (λ same. false≢true (sym k.0 ∙ eq-eqb m n (sym is ∙ same))) (back c a.0 here) refl refl)

  -- the first router of a chain is marked
  first_marked : (i : ℕ) (path : List Crossing) → is_chain p n t path ≡ true → starts_at i path ≡ true → marked passed (router_at p i) ≡ true
  first_marked i [] h b = absurd (false≢true b)
  first_marked i (c ∷ path) h b =
      let w = parts_of p n t (c ∷ path) h in
      let a = and_parts (crosses_unmanaged p c) (list_all (crosses_unmanaged p) path) w.crossings in
      let e = and_parts (net_at p c.enter == n) (leads (net_at p) (net_at p c.leave) path t) w.ends in
      let d = and_parts (not (has (places_on (net_at p) (net_at p c.leave) path) n)) (are_distinct (places_on (net_at p) (net_at p c.leave) path)) w.nets_once in
      subst (λ (x : ℕ). marked passed (router_at p x) ≡ true) (eqb-true c.enter i b)
      (back c a.0 (closed (net_at p c.leave) path a.1 e.1 (not-true (has (places_on (net_at p) (net_at p c.leave) path) n) d.0)))

  module _ (placed : (i : ℕ) → i < length p.ifaces → router_at p i < length p.routers) where
    -- an interface at n of a marked router begins a chain
    begins : (i : ℕ) → i < length p.ifaces → net_at p i ≡ n → marked passed (router_at p i) ≡ true → list_any (starts_at i) (all_chains p n t) ≡ true
    begins i hi at h =
        let w = s.router (router_at p i) h in
        let path = w.leads.path in
        let c = longer p i w.by t path hi w.there (sym w.its) w.unmanaged w.leads.chain
        (subst (λ (x : ℕ). has (places_on (net_at p) (net_at p w.by) path) x ≡ false) (sym at) w.leads.apart) w.fresh in
        begins_one (through i w.by) path (all_chains p n t)
        (listed p placed n t (through i w.by ∷ path) (subst (λ (x : ℕ). is_chain p x t (through i w.by ∷ path) ≡ true) at c))

    pub are_beginnings : length passed ≡ length p.routers → AreBeginnings p n t passed
    are_beginnings long =
        record {
          each = long;
          begin = λ i hi at. both_ways (list_any (starts_at i) (all_chains p n t)) (marked passed (router_at p i))
              (λ h. let w = some_in (starts_at i) (all_chains p n t) h in first_marked i w.0 (from_filter (is_chain p n t) w.0 _ w.1).1 w.2)
              (begins i hi at);
        }

-- ---- the list

module _ (p : Policy) (n t : ℕ) (passed : List Bool) (all : AreBeginnings p n t passed) where
  -- what begins a chain stands at its first network
  stands : (i : ℕ) → list_any (starts_at i) (all_chains p n t) ≡ true → (net_at p i == n) ≡ true
  stands i h =
      let w = some_in (starts_at i) (all_chains p n t) h in
      first w.0 (from_filter (is_chain p n t) w.0 _ w.1).1 w.2
    where
      first : (path : List Crossing) → is_chain p n t path ≡ true → starts_at i path ≡ true → (net_at p i == n) ≡ true
      first [] h b = absurd (false≢true b)
      first (c ∷ path) h b =
          subst (λ (x : ℕ). (net_at p x == n) ≡ true) (eqb-true c.enter i b)
          (and_parts (net_at p c.enter == n) (leads (net_at p) (net_at p c.leave) path t) (parts_of p n t (c ∷ path) h).ends).0

  abbrev test : ℕ → Bool
  test i = list_any (starts_at i) (all_chains p n t)

  abbrev is_marked : ℕ → Bool
  is_marked i = marked passed (router_at p i)

  one : (i : ℕ) (rest : List ℕ) (a b : Bool) → i < length p.ifaces → (net_at p i == n) ≡ a → test i ≡ b →
      cond b (i ∷ filter is_marked rest) (filter is_marked rest) ≡ filter is_marked (cond a (i ∷ rest) rest)
  one i rest true b hi at is =
      ap (λ (x : Bool). cond x (i ∷ filter is_marked rest) (filter is_marked rest)) (sym is ∙ all.begin i hi (eqb-true (net_at p i) n at))
  one i rest false true hi at is = absurd (false≢true (sym at ∙ stands i is))
  one i rest false false hi at is = refl

  some_of_them : (a k : ℕ) → a + k ≤ length p.ifaces → filter test (range_with_len a k) ≡ filter is_marked (filter (λ i. net_at p i == n) (range_with_len a k))
  some_of_them a zero h = refl
  some_of_them a (suc k) h =
      ap (λ (xs : List ℕ). cond (test a) (a ∷ xs) xs) (some_of_them (a + 1) k (omega (arith, h)))
      ∙ one a (filter (λ i. net_at p i == n) (range_with_len (a + 1) k)) (net_at p a == n) (test a) (omega (arith, h)) refl refl

  pub first_hops_are : first_hops p n t ≡ filter is_marked (ifaces_at p n)
  first_hops_are = some_of_them 0 (length p.ifaces) (omega arith)

-- a loop over a row that pushes those that pass
pub pushed_on : (test : ℕ → Bool) (row old new all : List ℕ) (i k : ℕ) → i ≡ slice_index row k → k < length row → new ≡ cond (test i) (old ++ i ∷ []) old →
    old ++ filter test (drop k row) ≡ all → new ++ filter test (drop (k + 1) row) ≡ all
pushed_on test row old new all i k is below e so_far = by (test i) refl
  where
    next : drop k row ≡ i ∷ drop (k + 1) row
    next = left_of row k below ∙ ap (λ (x : ℕ). x ∷ drop (k + 1) row) (sym is)

    by : (b : Bool) → test i ≡ b → new ++ filter test (drop (k + 1) row) ≡ all
    by true t =
        ap (λ (xs : List ℕ). xs ++ filter test (drop (k + 1) row)) (e ∙ ap (λ (b : Bool). cond b (old ++ i ∷ []) old) t)
        ∙ (append_assoc old (i ∷ []) (filter test (drop (k + 1) row))
        ∙ (ap (λ (xs : List ℕ). old ++ xs) (sym (ap (filter test) next ∙ ap (λ (b : Bool). cond b (i ∷ filter test (drop (k + 1) row)) (filter test (drop (k + 1) row))) t)) ∙ so_far))
    by false t =
        ap (λ (xs : List ℕ). xs ++ filter test (drop (k + 1) row)) (e ∙ ap (λ (b : Bool). cond b (old ++ i ∷ []) old) t)
        ∙ (ap (λ (xs : List ℕ). old ++ xs) (sym (ap (filter test) next ∙ ap (λ (b : Bool). cond b (i ∷ filter test (drop (k + 1) row)) (filter test (drop (k + 1) row))) t)) ∙ so_far)

pub pushed_all : (test : ℕ → Bool) (row some all : List ℕ) (k : ℕ) → row ≡ all → length row ≤ k → some ++ filter test (drop k row) ≡ filter test row → some ≡ filter test all
pushed_all test row some all k e long h =
    sym (append-nil some) ∙ (ap (λ (xs : List ℕ). some ++ filter test xs) (sym (none_left row k long)) ∙ (h ∙ ap (filter test) e))
