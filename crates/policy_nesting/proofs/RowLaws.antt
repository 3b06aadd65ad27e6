-- The rows of declarations are those of the names that they give.
use Rattle.std.proofs.Common.{arith, ◌≡◌, ◌∙◌, refl, sym, ap, subst, ℕ, ◌≤◌, Bool, true, false, ◌||◌, cond, List, [], ◌∷◌, ◌++◌, length, map, filter, flat_map, append-nil, append_assoc, length-append}
use Rattle.std.specs.List.{list_any}
use Rattle.std.proofs.lemmas.List.{map-append}
use Rattle.std.proofs.lemmas.List.Elements.{filter-append}
use Rattle.std.proofs.lemmas.List.Folds.{list_any-append}
use Rattle.std.proofs.lemmas.List.Concat.{flat_map-append}
use Rattle.spoc_ast.specs.Written.{Lexeme, NetPartText, NetIp, NetHost, NetNat, NetIdle, RoutPartText, RoutManaged, RoutModel, RoutRouting, RoutIface, RoutIdle, DeclText, NetworkDecl, RouterDecl, GroupDecl, AreaDecl, AggregateDecl, ProtocolDecl, ProtocolGroupDecl, RestrictionDecl, ServiceDecl}
use Rattle.policy_decls.specs.Names.{Mention, GroupName, ProtocolGroupName, mention, same_kind, same_name, names_in, names_in_net_part, names_in_rout_part, declared_names}
use Rattle.policy_decls.specs.Uses.{uses_in}
use Rattle.policy_decls.specs.Nesting.{nested_in, is_nesting}
use Rattle.policy_decls.specs.Said.{number_among}
use Rattle.policy_names.specs.Tables.{of_kind}
use Rattle.policy_nesting.specs.declared.nodes.Nesting.{Nesting}
use Rattle.policy_nesting.specs.declared.nodes.Nesting.TheVariants.{Objects, Protocols}
use Rattle.policy_nesting.specs.Nodes.{kind_of, is_node, used_of, row_in, nodes_of}
use Rattle.policy_nesting.proofs.Testing.{or_first}
use Rattle.policy_nesting.proofs.Apart.{Apart, apart_middle, of_same, or_none, both_none}

-- the names of the kind that a declaration gives
abbrev pub own_names : Nesting → DeclText → List Mention
own_names n decl = of_kind (names_in decl) (kind_of n)

none_in_net : (n : Nesting) (net : Lexeme) (parts : List NetPartText) → of_kind (flat_map (names_in_net_part net) parts) (kind_of n) ≡ []
none_in_net n net [] = refl
none_in_net n net (NetIp prefix ∷ parts) = none_in_net n net parts
none_in_net Objects net (NetHost name hosts ∷ parts) = none_in_net Objects net parts
none_in_net Protocols net (NetHost name hosts ∷ parts) = none_in_net Protocols net parts
none_in_net Objects net (NetNat name nats ∷ parts) = none_in_net Objects net parts
none_in_net Protocols net (NetNat name nats ∷ parts) = none_in_net Protocols net parts
none_in_net n net (NetIdle idle ∷ parts) = none_in_net n net parts

none_in_router : (n : Nesting) (router : Lexeme) (parts : List RoutPartText) → of_kind (flat_map (names_in_rout_part router) parts) (kind_of n) ≡ []
none_in_router n router [] = refl
none_in_router n router (RoutManaged filter ∷ parts) = none_in_router n router parts
none_in_router n router (RoutModel model ∷ parts) = none_in_router n router parts
none_in_router n router (RoutRouting routing ∷ parts) = none_in_router n router parts
none_in_router Objects router (RoutIface name own ∷ parts) = none_in_router Objects router parts
none_in_router Protocols router (RoutIface name own ∷ parts) = none_in_router Protocols router parts
none_in_router n router (RoutIdle idle ∷ parts) = none_in_router n router parts

pub not_node : (n : Nesting) (decl : DeclText) → is_node n decl ≡ false → own_names n decl ≡ []
not_node Objects (NetworkDecl name desc parts) e = none_in_net Objects name parts
not_node Protocols (NetworkDecl name desc parts) e = none_in_net Protocols name parts
not_node Objects (RouterDecl name desc parts) e = none_in_router Objects name parts
not_node Protocols (RouterDecl name desc parts) e = none_in_router Protocols name parts
not_node Objects (GroupDecl name desc objects) e = absurd (cc)
not_node Protocols (GroupDecl name desc objects) e = refl
not_node Objects (AreaDecl name desc parts) e = refl
not_node Protocols (AreaDecl name desc parts) e = refl
not_node Objects (AggregateDecl name desc parts) e = refl
not_node Protocols (AggregateDecl name desc parts) e = refl
not_node Objects (ProtocolDecl name protocol notes) e = refl
not_node Protocols (ProtocolDecl name protocol notes) e = refl
not_node Objects (ProtocolGroupDecl name prts) e = refl
not_node Protocols (ProtocolGroupDecl name prts) e = absurd (cc)
not_node Objects (RestrictionDecl name desc ports) e = refl
not_node Protocols (RestrictionDecl name desc ports) e = refl
not_node Objects (ServiceDecl name desc idle user rules) e = refl
not_node Protocols (ServiceDecl name desc idle user rules) e = refl

-- a declaration of a group gives its name alone
pub by_node : {P : Type 0} (n : Nesting) (decl : DeclText) → is_node n decl ≡ true → ((g : Mention) → names_in decl ≡ g ∷ [] → own_names n decl ≡ g ∷ [] → g.kind ≡ kind_of n → P) → P
by_node n (NetworkDecl name desc parts) e h = absurd (cc)
by_node n (RouterDecl name desc parts) e h = absurd (cc)
by_node Objects (GroupDecl name desc objects) e h = h (mention GroupName name) refl refl refl
by_node Protocols (GroupDecl name desc objects) e h = absurd (cc)
by_node n (AreaDecl name desc parts) e h = absurd (cc)
by_node n (AggregateDecl name desc parts) e h = absurd (cc)
by_node n (ProtocolDecl name protocol notes) e h = absurd (cc)
by_node Objects (ProtocolGroupDecl name prts) e h = absurd (cc)
by_node Protocols (ProtocolGroupDecl name prts) e h = h (mention ProtocolGroupName name) refl refl refl
by_node n (RestrictionDecl name desc ports) e h = absurd (cc)
by_node n (ServiceDecl name desc idle user rules) e h = absurd (cc)

-- ---- lists

any_flat : {A B : Type 0} (p : B → Bool) (f : A → List B) (xs : List A) → list_any p (flat_map f xs) ≡ list_any (λ x. list_any p (f x)) xs
any_flat p f [] = refl
any_flat p f (x ∷ xs) = list_any-append p (f x) (flat_map f xs) ∙ ap (λ b. list_any p (f x) || b) (any_flat p f xs)

dropped : {A : Type 0} (p : A → Bool) (x : A) (xs : List A) → p x ≡ false → filter p (x ∷ xs) ≡ filter p xs
dropped p x xs e = ap (λ b. cond b (x ∷ filter p xs) (filter p xs)) e

filter_none : {A : Type 0} (p : A → Bool) (xs : List A) → list_any p xs ≡ false → filter p xs ≡ []
filter_none p [] e = refl
filter_none p (x ∷ xs) e = let parts = or_none (p x) (list_any p xs) e in dropped p x xs parts.0 ∙ filter_none p xs parts.1

only_one : {A : Type 0} (p : A → Bool) (before : List A) (x : A) (after : List A) → list_any p before ≡ false → p x ≡ true → list_any p after ≡ false → filter p (before ++ x ∷ after) ≡ x ∷ []
only_one p before x after e h g =
    filter-append p before (x ∷ after) ∙ ap (λ l. l ++ filter p (x ∷ after)) (filter_none p before e) ∙ ap (λ b. cond b (x ∷ filter p after) (filter p after)) h ∙ ap (λ l. x ∷ l) (filter_none p after g)

-- ---- rows

of_kind_append : (n : Nesting) (xs ys : List Mention) → of_kind (xs ++ ys) (kind_of n) ≡ of_kind xs (kind_of n) ++ of_kind ys (kind_of n)
of_kind_append n xs ys = filter-append (λ name. same_kind name.kind (kind_of n)) xs ys

module _ (n : Nesting) (all : List DeclText) (apart : Apart (declared_names all)) where
  abbrev gives : Mention → DeclText → Bool
  gives g decl = list_any (same_name g) (names_in decl)

  only_giver : (before after : List DeclText) (decl : DeclText) (g : Mention) → all ≡ before ++ decl ∷ after → names_in decl ≡ g ∷ [] → filter (gives g) all ≡ decl ∷ []
  only_giver before after decl g e h =
      let split : declared_names all ≡ declared_names before ++ g ∷ declared_names after = ap declared_names e ∙ flat_map-append names_in before (decl ∷ after) ∙ ap (λ l. declared_names before ++ (l ++ declared_names after)) h in
      let others = apart_middle (declared_names before) (declared_names after) g (subst Apart split apart) in
      ap (filter (gives g)) e
      ∙ only_one (gives g) before decl after (sym (any_flat (same_name g) names_in before) ∙ others.0)
      (ap (list_any (same_name g)) h ∙ or_first (same_name g g) false (of_same g g (record { kind = refl; owner = refl; text = refl }))) (sym (any_flat (same_name g) names_in after) ∙ others.1)

  nested_here : (before after : List DeclText) (decl : DeclText) (g : Mention) → all ≡ before ++ decl ∷ after → names_in decl ≡ g ∷ [] → g.kind ≡ kind_of n → nested_in all g ≡ used_of n decl
  nested_here before after decl g e h kind =
      ap (flat_map (λ d. filter (λ used. same_kind used.kind g.kind) (uses_in d))) (only_giver before after decl g e h)
      ∙ append-nil (filter (λ used. same_kind used.kind g.kind) (uses_in decl)) ∙ ap (λ k. filter (λ used. same_kind used.kind k) (uses_in decl)) kind

  abbrev numbers_at : Mention → List ℕ
  numbers_at g = map (number_among (of_kind (declared_names all) (kind_of n))) (nested_in all g)

  own_row : (before after : List DeclText) (decl : DeclText) (b : Bool) → is_node n decl ≡ b → all ≡ before ++ decl ∷ after → row_in (declared_names all) n decl ≡ map numbers_at (own_names n decl)
  own_row before after decl false s e =
      ap (λ b. cond b (map (number_among (of_kind (declared_names all) (kind_of n))) (used_of n decl) ∷ []) []) s ∙ sym (ap (map numbers_at) (not_node n decl s))
  own_row before after decl true s e =
      by_node n decl s (λ g h own kind.
      ap (λ b. cond b (map (number_among (of_kind (declared_names all) (kind_of n))) (used_of n decl) ∷ []) []) s
      ∙ ap (λ l. map (number_among (of_kind (declared_names all) (kind_of n))) l ∷ []) (sym (nested_here before after decl g e h kind)) ∙ sym (ap (map numbers_at) own))

  rows_here : (before rest : List DeclText) → all ≡ before ++ rest → flat_map (row_in (declared_names all) n) rest ≡ map numbers_at (of_kind (declared_names rest) (kind_of n))
  rows_here before [] e = refl
  rows_here before (decl ∷ rest) e =
      ap (λ l. l ++ flat_map (row_in (declared_names all) n) rest) (own_row before rest decl (is_node n decl) refl e)
      ∙ ap (λ l. map numbers_at (own_names n decl) ++ l) (rows_here (before ++ decl ∷ []) rest (e ∙ sym (append_assoc before (decl ∷ []) rest)))
      ∙ sym (ap (map numbers_at) (of_kind_append n (names_in decl) (declared_names rest)) ∙ map-append numbers_at (own_names n decl) (of_kind (declared_names rest) (kind_of n)))

  pub rows_law : flat_map (row_in (declared_names all) n) all ≡ nodes_of all n
  rows_law = rows_here [] all refl

own_few : (n : Nesting) (decl : DeclText) (b : Bool) → is_node n decl ≡ b → length (own_names n decl) ≤ 1
own_few n decl false s = omega (arith, ap length (not_node n decl s))
own_few n decl true s = by_node n decl s (λ g h own kind. omega (arith, ap length own))

pub nodes_few : (n : Nesting) (decls : List DeclText) → length (of_kind (declared_names decls) (kind_of n)) ≤ length decls
nodes_few n [] = omega arith
nodes_few n (decl ∷ decls) =
    omega (arith, own_few n decl (is_node n decl) refl, nodes_few n decls, ap length (of_kind_append n (names_in decl) (declared_names decls)), length-append (own_names n decl) (of_kind (declared_names decls) (kind_of n)))

-- ---- groups among names

pub own_nesting : (n : Nesting) (decl : DeclText) → is_node n decl ≡ true → filter is_nesting (names_in decl) ≡ names_in decl
own_nesting n decl e =
    by_node n decl e (λ g h own kind. ap (filter is_nesting) h ∙ ap (λ b. cond b (g ∷ []) []) (nests_kind n g kind) ∙ sym h)
  where
    nests_kind : (m : Nesting) (g : Mention) → g.kind ≡ kind_of m → is_nesting g ≡ true
    nests_kind Objects g kind = ap (λ k. same_kind k GroupName || same_kind k ProtocolGroupName) kind
    nests_kind Protocols g kind = ap (λ k. same_kind k GroupName || same_kind k ProtocolGroupName) kind

module _ {A : Type 0} (p q : A → Bool) where
  head_none : (b : Bool) (x : A) (xs : List A) → cond b (x ∷ xs) xs ≡ [] → (b ≡ false) × (xs ≡ [])
  head_none true x xs e = absurd (cc)
  head_none false x xs e = (refl, e)

  neither : (xs : List A) → filter p xs ≡ [] → filter q xs ≡ [] → filter (λ x. p x || q x) xs ≡ []
  neither [] e h = refl
  neither (x ∷ xs) e h =
      let a = head_none (p x) x (filter p xs) e in
      let b = head_none (q x) x (filter q xs) h in
      dropped (λ y. p y || q y) x xs (both_none (p x) (q x) a.0 b.0) ∙ neither xs a.1 b.1

pub no_nesting : (decl : DeclText) → is_node Objects decl ≡ false → is_node Protocols decl ≡ false → filter is_nesting (names_in decl) ≡ []
no_nesting decl e h = neither (λ name. same_kind name.kind GroupName) (λ name. same_kind name.kind ProtocolGroupName) (names_in decl) (not_node Objects decl e) (not_node Protocols decl h)
