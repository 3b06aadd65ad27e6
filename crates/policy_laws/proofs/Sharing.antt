-- Of the interfaces of one network that share an address an allowed walk uses one at most.
use Rattle.std.proofs.Common.{◌≡◌, ℕ, ◌<◌, ◌≤◌, inl, inr, Bool, true, false, not, ◌&&◌, List, [], ◌∷◌, length, map, refl, sym, ap, subst, ◌∙◌, ⊎_elim}
use Rattle.std.specs.Prelude.{◌==◌, Option, Some, None, is_some, filter}
use Rattle.std.specs.List.{list_all, list_any}
use Rattle.std.proofs.lemmas.Bool.{and_parts, and_from, eqb-true, eq-eqb, ne_eqb, not-true, not_from_false, false≢true, both_ways, cases_eq, cases_lt}
use Rattle.std.proofs.lemmas.List.{get_or_past}
use Rattle.std.proofs.lemmas.List.Folds.{list_all-append, list_all-map}
use Rattle.policy_model.specs.Lists.{has}
use Rattle.policy_model.specs.Policy.{Policy, Restriction, Iface, no_iface, iface_of, net_at, all_nets, all_ifaces}
use Rattle.policy_model.specs.Paths.{interfaces_on}
use Rattle.policy_model.specs.Walks.{has_two_of, same_address, sharing_ifaces, sharers, begins_set, shared_sets, restricted_sets, ListsShared}
use Rattle.policy_model.proofs.AllWalks.{IsIn, in_back, in_map, in_flat_map, in_filter, in_numbers, parts_of}
use Rattle.list_laws.proofs.Members.{some_of, each_in, from_filter}
use Rattle.policy_laws.specs.Routed.{IsWired}
use Rattle.policy_laws.specs.Sharing.{UsesOneSharer, KeepsRestrictions}

same_some : (o p : Option ℕ) → same_address o p ≡ true → o ≡ p
same_some None p h = absurd (false≢true h)
same_some (Some a) None h = absurd (false≢true h)
same_some (Some a) (Some b) h = ap Some (eqb-true a b h)

module _ (p : Policy) (wired : IsWired p) where
  -- by the network and the address
  abbrev those : ℕ → Option ℕ → List ℕ
  those n o = filter (λ j. (net_at p j == n) && same_address (iface_of p j).shared o) (sharing_ifaces p)

  below : (i a : ℕ) → (iface_of p i).shared ≡ Some a → i < length p.ifaces
  below i a h =
      ⊎_elim (λ lt. lt)
      (λ (past : length p.ifaces ≤ i). absurd (false≢true (ap is_some (sym (ap (λ (x : Iface). x.shared) (get_or_past p.ifaces i no_iface past)) ∙ h))))
      (cases_lt i (length p.ifaces))

  shares : (i a : ℕ) → (iface_of p i).shared ≡ Some a → IsIn i (sharing_ifaces p)
  shares i a h = in_filter (λ j. is_some (iface_of p j).shared) i (all_ifaces p) (in_numbers (length p.ifaces) i (below i a h)) (ap is_some h)

  in_those : (i n a : ℕ) → (iface_of p i).shared ≡ Some a → net_at p i ≡ n → IsIn i (those n (Some a))
  in_those i n a h e =
      in_filter (λ j. (net_at p j == n) && same_address (iface_of p j).shared (Some a)) i (sharing_ifaces p) (shares i a h)
      (and_from (net_at p i == n) (same_address (iface_of p i).shared (Some a)) (eq-eqb (net_at p i) n e) (ap (λ o. same_address o (Some a)) h ∙ eq-eqb a a refl))

  -- where two share an address, their set is listed
  listed : (n a i j : ℕ) → IsIn i (those n (Some a)) → IsIn j (those n (Some a)) → (i ≡ j → ⊥) → IsIn (those n (Some a)) (shared_sets p)
  listed n a i j hi hj apart = go (those n (Some a)) refl hi hj
    where
      from : (m : ℕ) → IsIn m (those n (Some a)) → (IsIn m (sharing_ifaces p)) × (net_at p m ≡ n) × ((iface_of p m).shared ≡ Some a)
      from m h =
          let w = from_filter (λ j. (net_at p j == n) && same_address (iface_of p j).shared (Some a)) m (sharing_ifaces p) h in
          let v = and_parts (net_at p m == n) (same_address (iface_of p m).shared (Some a)) w.1 in
          (w.0, eqb-true (net_at p m) n v.0, same_some (iface_of p m).shared (Some a) v.1)

      go : (xs : List ℕ) → those n (Some a) ≡ xs → IsIn i xs → IsIn j xs → IsIn (those n (Some a)) (shared_sets p)
      go [] is hi hj = absurd hi
      go (m ∷ []) is (inl e) (inl f) = absurd (apart (e ∙ sym f))
      go (m ∷ []) is (inl e) (inr f) = absurd f
      go (m ∷ []) is (inr e) hj = absurd e
      go (m ∷ k ∷ rest) is hi hj =
          let first = from m (subst (λ (ys : List ℕ). IsIn m ys) (sym is) (inl refl)) in
          let its : sharers p m ≡ those n (Some a) = ap (λ (c : ℕ). those c (iface_of p m).shared) first.1 ∙ ap (those n) first.2 in
          let begins : begins_set m (sharers p m) ≡ true = ap (begins_set m) (its ∙ is) ∙ eq-eqb m m refl in
          let here = in_filter (λ x. (net_at p x == n) && begins_set x (sharers p x)) m (sharing_ifaces p) first.0
          (and_from (net_at p m == n) (begins_set m (sharers p m)) (eq-eqb (net_at p m) n first.1) begins) in
          let there : IsIn (sharers p m) (shared_sets p) =
          in_flat_map (λ c. map (sharers p) (filter (λ x. (net_at p x == c) && begins_set x (sharers p x)) (sharing_ifaces p))) n (sharers p m) (all_nets p)
          (in_numbers (length p.nets) n (subst (λ (c : ℕ). c < length p.nets) first.1 (wired.placed m (below m a first.2)).0))
          (in_map (sharers p) m (filter (λ x. (net_at p x == n) && begins_set x (sharers p x)) (sharing_ifaces p)) here) in
          subst (λ (xs : List ℕ). IsIn xs (shared_sets p)) its there

  two_of : (members interfaces : List ℕ) (i j : ℕ) → IsIn i members → IsIn j members → (i ≡ j → ⊥) → has interfaces i ≡ true → has interfaces j ≡ true → has_two_of members interfaces ≡ true
  two_of members interfaces i j hi hj apart gi gj =
      some_of (λ x. list_any (λ y. not (x == y) && has interfaces x && has interfaces y) members) i members hi
      (some_of (λ y. not (i == y) && has interfaces i && has interfaces y) j members hj
      (and_from (not (i == j) && has interfaces i) (has interfaces j) (and_from (not (i == j)) (has interfaces i) (not_from_false (i == j) (ne_eqb i j apart)) gi) gj))

  pub one_sharer : (zones : List ℕ) → UsesOneSharer (record { policy = p; zones = zones })
  one_sharer zones from to path i j a walk hi hj nets si sj =
      let n = net_at p j in
      let set = those n (Some a) in
      let in_i = in_those i n a si nets in
      let in_j = in_those j n a sj refl in
      ⊎_elim (λ e. e)
      (λ apart. absurd (
      let free = each_in (λ members. not (has_two_of members (interfaces_on path))) (restricted_sets p) (parts_of (record { policy = p; zones = zones }) from to path walk).unrestricted set
      (in_back set (map (λ (r : Restriction). r.members) p.restrictions) (shared_sets p) (listed n a i j in_i in_j apart)) in
      both_ways (has_two_of set (interfaces_on path)) (not-true (has_two_of set (interfaces_on path)) free) (two_of set (interfaces_on path) i j in_i in_j apart hi hj)))
      (cases_eq i j)

-- ---- restrictions that list the implied ones

and_same : (a b : Bool) → ((a && b) && b) ≡ (a && b)
and_same true true = refl
and_same true false = refl
and_same false b = refl

pub kept : (p : Policy) → ListsShared p → KeepsRestrictions p
kept p lists path =
    let test : List ℕ → Bool = λ members. not (has_two_of members (interfaces_on path)) in
    let of : Restriction → List ℕ = λ r. r.members in
    let shared = list_all test (shared_sets p) in
    let both : list_all (λ r. test (of r)) p.restrictions ≡ (list_all (λ r. test (of r)) lists.declared && shared) =
    ap (list_all (λ r. test (of r))) lists.all
    ∙ (list_all-append (λ r. test (of r)) lists.declared lists.implied
    ∙ ap (λ b. list_all (λ r. test (of r)) lists.declared && b) (sym (list_all-map test of lists.implied) ∙ ap (list_all test) lists.members)) in
    list_all-append test (map of p.restrictions) (shared_sets p)
    ∙ (ap (λ b. b && shared) (list_all-map test of p.restrictions ∙ both)
    ∙ (and_same (list_all (λ r. test (of r)) lists.declared) shared ∙ sym both))
