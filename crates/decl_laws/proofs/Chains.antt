-- Chains of groups are no longer than groups nest.
use Rattle.std.proofs.Common.{◌≡◌, inl, inr, ⊎_elim, refl, sym, ap, subst, ◌∙◌, ℕ, zero, suc, ◌<◌, ◌≤◌, true, false, ◌&&◌, List, [], ◌∷◌, ◌++◌, length, Option, Some, None, nat_lt, arith}
use Rattle.std.specs.Prelude.{flat_map, filter, ◌==◌}
use Rattle.std.specs.Str.{bytes_eq}
use Rattle.std.specs.List.{list_any}
use Rattle.std.proofs.lemmas.Bool.{false≢true, and_parts, or_left, cases_lt, ltb-true, eqb-true}
use Rattle.topology.specs.Sound.{groups_in, is_chain}
use Rattle.policy_model.specs.Lists.{has}
use Rattle.policy_model.specs.Policy.{Group, no_group, group_of}
use Rattle.spoc_ast.specs.Written.{Lexeme, SetText, NoParts, NetworkNamed, HostNamed, PortNamed, GroupNamed, AggregateNamed, AreaNamed, UserNamed, NetworksIn, HostsIn, ZonesIn, Joining, Keeping, Leaving, DeclText, GroupDecl}
use Rattle.policy_decls.specs.Names.{GroupName, same_kind, Mention, mention, names_in, declared_names, same_name}
use Rattle.policy_decls.specs.Uses.{uses_in_set, uses_in_objects, uses_in}
use Rattle.policy_decls.specs.Nesting.{is_nesting, nesting_names, nested_in, nests}
use Rattle.policy_decls.specs.Said.{expr_in, expr_or_none, number_of_name, adds_of, policy_said}
use Rattle.policy_model.proofs.AllWalks.{IsIn, in_front, in_back, in_flat_map, in_filter}
use Rattle.list_laws.proofs.Members.{in_either, some_in, some_of}
use Rattle.list_laws.proofs.Tables.{from_flat_map}
use Rattle.decl_laws.proofs.Places.{at_in, none_passes}
use Rattle.decl_laws.proofs.Taken.{IsFaultless}
use Rattle.decl_laws.proofs.NamesByKind.{group_names}
use Rattle.decl_laws.proofs.NameNumbers.{bytes_alike}
use Rattle.decl_laws.proofs.Declared.{known}
use Rattle.decl_laws.proofs.Stands.{said_at}

-- the name that a number in a set is of
pub record IsGroupIn (decls : List DeclText) (uses : List Mention) (h : ℕ) : Type 0 where
  pub name : Lexeme
  pub used : IsIn (mention GroupName name) uses
  pub number : h ≡ number_of_name decls GroupName name

-- how a group is declared
pub record IsGroup (decls : List DeclText) (x : Group) : Type 0 where
  pub name : Lexeme
  pub desc : Option Lexeme
  pub objects : Option SetText
  pub there : IsIn (GroupDecl name desc objects) decls
  pub named : x.name ≡ name.text
  pub says : x.objects ≡ expr_or_none decls objects

group_front : (decls : List DeclText) (xs ys : List Mention) (h : ℕ) → IsGroupIn decls xs h → IsGroupIn decls (xs ++ ys) h
group_front decls xs ys h g = record { name = g.name; used = in_front (mention GroupName g.name) xs ys g.used; number = g.number }

group_back : (decls : List DeclText) (xs ys : List Mention) (h : ℕ) → IsGroupIn decls ys h → IsGroupIn decls (xs ++ ys) h
group_back decls xs ys h g = record { name = g.name; used = in_back (mention GroupName g.name) xs ys g.used; number = g.number }

module _ (decls : List DeclText) where
  either_group : (e f : SetText) (h : ℕ) → IsIn h (groups_in (expr_in decls e) ++ groups_in (expr_in decls f)) → (IsIn h (groups_in (expr_in decls e)) → IsGroupIn decls (uses_in_set e) h) →
      (IsIn h (groups_in (expr_in decls f)) → IsGroupIn decls (uses_in_set f) h) → IsGroupIn decls (uses_in_set e ++ uses_in_set f) h
  either_group e f h g left right =
      ⊎_elim (λ k. group_front decls (uses_in_set e) (uses_in_set f) h (left k)) (λ k. group_back decls (uses_in_set e) (uses_in_set f) h (right k))
      (in_either h (groups_in (expr_in decls e)) (groups_in (expr_in decls f)) g)

  group_used : (e : SetText) (h : ℕ) → IsIn h (groups_in (expr_in decls e)) → IsGroupIn decls (uses_in_set e) h
  group_used NoParts h g = absurd g
  group_used (NetworkNamed name) h g = absurd g
  group_used (HostNamed name) h g = absurd g
  group_used (PortNamed port) h g = absurd g
  group_used (GroupNamed name) h (inl e) = record { name = name; used = inl refl; number = e }
  group_used (GroupNamed name) h (inr g) = absurd g
  group_used (AggregateNamed name) h g = absurd g
  group_used (AreaNamed name) h g = absurd g
  group_used UserNamed h g = absurd g
  group_used (NetworksIn e) h g = group_used e h g
  group_used (HostsIn e) h g = group_used e h g
  group_used (ZonesIn only e) h g = group_used e h g
  group_used (Joining e f) h g = either_group e f h g (group_used e h) (group_used f h)
  group_used (Keeping e f) h g = either_group e f h g (group_used e h) (group_used f h)
  group_used (Leaving e f) h g = either_group e f h g (group_used e h) (group_used f h)

  used_by : (objects : Option SetText) (h : ℕ) → IsIn h (groups_in (expr_or_none decls objects)) → IsGroupIn decls (uses_in_objects objects) h
  used_by None h g = absurd g
  used_by (Some e) h g = group_used e h g

  group_declared : (d : DeclText) → IsIn d decls → (x : Group) → IsIn x (adds_of decls d).groups → IsGroup decls x
  group_declared (GroupDecl name desc objects) g x (inl e) =
      record { name = name; desc = desc; objects = objects; there = g; named = ap (λ y. y.name) e; says = ap (λ y. y.objects) e }
  group_declared (GroupDecl name desc objects) g x (inr h) = absurd h
  group_declared _ g x h = absurd h

  -- what a group names is that of its text
  nested_same : (a b : Lexeme) → a.text ≡ b.text → nested_in decls (mention GroupName a) ≡ nested_in decls (mention GroupName b)
  nested_same a b e =
      let tests : same_name (mention GroupName a) ≡ same_name (mention GroupName b) = λ i m. same_kind GroupName m.kind && bytes_eq [] m.owner && bytes_eq (e i) m.text in
      ap (λ test. flat_map (λ decl. filter (λ used. same_kind used.kind GroupName) (uses_in decl)) (filter (λ decl. list_any test (names_in decl)) decls)) tests

  nests_same : (n : ℕ) (a b : Lexeme) → a.text ≡ b.text → nests decls n (mention GroupName a) ≡ nests decls n (mention GroupName b)
  nests_same zero a b e = refl
  nests_same (suc zero) a b e = refl
  nests_same (suc (suc n)) a b e = ap (list_any (nests decls (suc n))) (nested_same a b e)

  nests_alike : (n : ℕ) (a b : Lexeme) → a.text ≡ b.text → nests decls n (mention GroupName a) ≡ true → nests decls n (mention GroupName b) ≡ true
  nests_alike n a b e h = sym (nests_same n a b e) ∙ h

  nested_there : (name : Lexeme) (desc : Option Lexeme) (objects : Option SetText) (used : Mention) → IsIn (GroupDecl name desc objects) decls → IsIn used (uses_in_objects objects) →
      same_kind used.kind GroupName ≡ true → IsIn used (nested_in decls (mention GroupName name))
  nested_there name desc objects used g h kind =
      let d = GroupDecl name desc objects in
      let test = λ (decl : DeclText). list_any (same_name (mention GroupName name)) (names_in decl) in
      let own : test d ≡ true = or_left (same_name (mention GroupName name) (mention GroupName name)) false (bytes_alike name.text name.text refl) in
      in_flat_map (λ decl. filter (λ used. same_kind used.kind GroupName) (uses_in decl)) d used (filter test decls) (in_filter test d decls g own) (in_filter (λ used. same_kind used.kind GroupName) used (uses_in_objects objects) h kind)

  in_has : (xs : List ℕ) (h : ℕ) → has xs h ≡ true → IsIn h xs
  in_has xs h t = let w = some_in (λ x. x == h) xs t in subst (λ x. IsIn x xs) (eqb-true w.0 h w.2) w.1

  module _ (faultless : (d : DeclText) → IsIn d decls → IsFaultless decls d) where
    -- each next group of a chain is one that the group names
    chain_nests : (n g : ℕ) (gs : List ℕ) → is_chain (policy_said decls) (g ∷ gs) ≡ true → n ≤ length (g ∷ gs) → (x : IsGroup decls (group_of (policy_said decls) g)) → nests decls n (mention GroupName x.name) ≡ true
    chain_nests zero g gs chain long x = refl
    chain_nests (suc zero) g gs chain long x = refl
    chain_nests (suc (suc n)) g [] chain long x = absurd (omega arith)
    chain_nests (suc (suc n)) g (h ∷ gs) chain long x =
        let p = policy_said decls in
        let a = and_parts (nat_lt g (length p.groups) && has (groups_in (group_of p g).objects) h) (is_chain p (h ∷ gs)) chain in
        let b = and_parts (nat_lt g (length p.groups)) (has (groups_in (group_of p g).objects) h) a.0 in
        let next = used_by x.objects h (in_has (groups_in (expr_or_none decls x.objects)) h (subst (λ e. has (groups_in e) h ≡ true) x.says b.1)) in
        let declared = known decls faultless (GroupDecl x.name x.desc x.objects) (mention GroupName next.name) x.there next.used in
        let at = said_at decls (λ d. (adds_of decls d).groups) (λ y. y.name) GroupName (group_names decls) next.name declared no_group in
        let own : IsGroup decls (group_of p (number_of_name decls GroupName next.name)) = group_declared at.decl at.there (group_of p (number_of_name decls GroupName next.name)) at.said in
        let y : IsGroup decls (group_of p h) = subst (λ k. IsGroup decls (group_of p k)) (sym next.number) own in
        let same : y.name.text ≡ next.name.text = sym y.named ∙ ap (λ k. (group_of p k).name) next.number ∙ at.named in
        some_of (nests decls (suc n)) (mention GroupName next.name) (nested_in decls (mention GroupName x.name)) (nested_there x.name x.desc x.objects (mention GroupName next.name) x.there next.used refl)
        (nests_alike (suc n) y.name next.name same (chain_nests (suc n) h gs a.1 (omega arith) y))

    pub no_long_chain : (n : ℕ) → 0 < n → list_any (nests decls n) (nesting_names decls) ≡ false → (groups : List ℕ) → is_chain (policy_said decls) groups ≡ true → length groups < n
    no_long_chain n positive none [] chain = positive
    no_long_chain n positive none (g ∷ gs) chain = ⊎_elim (λ below. below) (λ long. absurd (too_long long)) (cases_lt (length (g ∷ gs)) n)
      where
        first : (gs : List ℕ) → is_chain (policy_said decls) (g ∷ gs) ≡ true → g < length (policy_said decls).groups
        first [] c = ltb-true g (length (policy_said decls).groups) c
        first (h ∷ hs) c =
            let p = policy_said decls in
            let a = and_parts (nat_lt g (length p.groups) && has (groups_in (group_of p g).objects) h) (is_chain p (h ∷ hs)) c in
            ltb-true g (length p.groups) (and_parts (nat_lt g (length p.groups)) (has (groups_in (group_of p g).objects) h) a.0).0

        too_long : n ≤ length (g ∷ gs) → ⊥
        too_long long =
            let p = policy_said decls in
            let w = from_flat_map (λ d. (adds_of decls d).groups) (group_of p g) decls (at_in p.groups g no_group (first gs chain)) in
            let x = group_declared w.0 w.1 (group_of p g) w.2 in
            let m = mention GroupName x.name in
            let there : IsIn m (nesting_names decls) = in_filter is_nesting m (declared_names decls) (in_flat_map names_in (GroupDecl x.name x.desc x.objects) m decls x.there (inl refl)) refl in
            false≢true (sym (none_passes (nests decls n) (nesting_names decls) none m there) ∙ chain_nests n g gs chain long x)
