-- The restrictions that are declared, and those that shared addresses imply.
use Rattle.std.proofs.Common.{◌≡◌, ℕ, ◌+◌, ◌<◌, ◌≤◌, ◌^◌, Bool, true, false, cond, List, [], ◌∷◌, ◌++◌, length, map, take, drop, refl, sym, ap, ◌∙◌, arith, length-append}
use Rattle.std.specs.Prelude.{IsTrue, filter, None}
use Rattle.std.specs.List.{list_all}
use Rattle.std.proofs.lemmas.Bool.{eqb-true, ne_eqb}
use Rattle.std.proofs.lemmas.List.{length-map}
use Rattle.std.proofs.Math.Seq.{take-append_seam, drop-append_seam}
use Rattle.topology.specs.Sound.{is_short, declared_count, declared_restrictions, implied_restrictions, HasImplied}
use Rattle.policy_model.specs.Policy.{Policy, Restriction}
use Rattle.policy_model.specs.Walks.{shared_sets}
use Rattle.spoc_ast.specs.Written.{DeclText}
use Rattle.policy_decls.specs.Names.{RestrictionName, IfaceName, Mention, declared_names}
use Rattle.policy_decls.specs.Said.{names_of, restrictions_declared, policy_declared, implied_by, restrictions_implied, policy_said}
use Rattle.decl_laws.proofs.NamesByKind.{is_of, as_many, restriction_names}
use Rattle.decl_laws.proofs.NameNumbers.{iface_count}
use Rattle.decl_laws.proofs.Sharing.{few_sets}

members_of : (p : Policy) (sets : List (List ℕ)) → map (λ (x : Restriction). x.members) (map (implied_by p) sets) ≡ sets
members_of p [] = refl
members_of p (set ∷ sets) = ap (λ rest. set ∷ rest) (members_of p sets)

-- what passes two tests that exclude each other is no more than there is
two_kinds : {A : Type 0} (f g : A → Bool) → ((x : A) → f x ≡ true → g x ≡ false) → (xs : List A) → length (filter f xs) + length (filter g xs) ≤ length xs
two_kinds f g apart [] = omega arith
two_kinds f g apart (x ∷ xs) = by (two_kinds f g apart xs) (f x) (g x) (apart x)
  where
    by : length (filter f xs) + length (filter g xs) ≤ length xs → (a b : Bool) → (a ≡ true → b ≡ false) → length (cond a (x ∷ filter f xs) (filter f xs)) + length (cond b (x ∷ filter g xs) (filter g xs)) ≤ length (x ∷ xs)
    by rest true true h = absurd (let e : true ≡ false = h refl in cc)
    by rest true false h = omega (arith, rest)
    by rest false true h = omega (arith, rest)
    by rest false false h = omega (arith, rest)

module _ (decls : List DeclText) where
  abbrev declared : List Restriction
  declared = restrictions_declared decls

  abbrev implied : List Restriction
  implied = restrictions_implied (policy_declared decls)

  implied_many : length implied ≡ length (shared_sets (policy_said decls))
  implied_many = length-map (shared_sets (policy_said decls)) (implied_by (policy_declared decls))

  pub count_declared : declared_count (policy_said decls) ≡ length declared
  count_declared = let all = length-append declared implied in let n = implied_many in omega (arith, all, n)

  pub declared_are : declared_restrictions (policy_said decls) ≡ restrictions_declared decls
  declared_are = ap (λ n. take n (declared ++ implied)) count_declared ∙ take-append_seam declared implied

  pub implied_are : implied_restrictions (policy_said decls) ≡ restrictions_implied (policy_declared decls)
  implied_are = ap (λ n. drop n (declared ++ implied)) count_declared ∙ drop-append_seam declared implied

  pub has_implied : list_all (λ (x : Restriction). is_short x.name) (restrictions_declared decls) ≡ true → HasImplied (policy_said decls)
  has_implied short = record {
    within = let all = length-append declared implied in let n = implied_many in omega (arith, all, n);
    members = ap (map (λ (x : Restriction). x.members)) implied_are ∙ members_of (policy_declared decls) (shared_sets (policy_said decls));
    names = ap (list_all (λ (x : Restriction). is_short x.name)) declared_are ∙ short;
  }

  other_kind : (m : Mention) → is_of RestrictionName m ≡ true → is_of IfaceName m ≡ false
  other_kind m e = ne_eqb _ 4 (λ f. let g = eqb-true _ 10 e in omega (arith, f, g))

  -- restrictions are no more than names
  pub few_restrictions : (most : ℕ) → length (declared_names decls) < most → length (policy_said decls).restrictions < most
  few_restrictions most h =
      let all = length-append declared implied in
      let n = implied_many in
      let few = few_sets (policy_said decls) in
      let ds = as_many (λ (x : Restriction). x.name) (λ m. m.text) declared (names_of decls RestrictionName) (restriction_names decls) in
      let is = iface_count decls in
      let two = two_kinds (is_of RestrictionName) (is_of IfaceName) other_kind (declared_names decls) in
      omega (arith, all, n, few, ds, is, two, h)
