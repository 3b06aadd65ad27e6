-- Whether a group lies on a circle, by its node.
use Rattle.std.proofs.Common.{arith, ◌≡◌, ◌∙◌, refl, sym, ap, subst, ℕ, ◌<◌, ◌≤◌, nat_lt, Bool, true, false, List, [], ◌++◌, flat_map, append-nil, length, get_or, position, Option, Some, None}
use Rattle.std.specs.List.{list_any, position_or_len}
use Rattle.std.proofs.lemmas.Option.{cond_some, same_Some, none-some}
use Rattle.spoc_ast.specs.Written.{DeclText}
use Rattle.policy_decls.specs.Names.{Mention, number_of_kind, same_kind, declared_names}
use Rattle.policy_decls.specs.Uses.{names_it}
use Rattle.policy_decls.specs.Nesting.{is_on_circle}
use Rattle.policy_decls.specs.Said.{number_among}
use Rattle.policy_names.specs.Tables.{of_kind, numbered}
use Rattle.policy_nesting.specs.declared.nodes.Nesting.{Nesting}
use Rattle.policy_nesting.specs.declared.nodes.Nesting.TheVariants.{Objects, Protocols}
use Rattle.policy_nesting.specs.Graph.{leads, flag_at, AreNodes, AreChains}
use Rattle.policy_nesting.specs.Nodes.{kind_of, row_in, nodes_of, AreNamed}
use Rattle.policy_nesting.proofs.Testing.{own_number, below}
use Rattle.policy_nesting.proofs.Chains.{circle_chains}
use Rattle.policy_nesting.proofs.RowLaws.{nodes_few, rows_law}
use Rattle.policy_nesting.proofs.Apart.{Same, apart_of}
use Rattle.policy_nesting.proofs.Reaching.{place, rows_long, are_nodes, circle_is}

pub position_within : {A : Type 0} (p : A → Bool) (xs : List A) (i : ℕ) → position p xs ≡ Some i → i < length xs
position_within p xs i e =
    let parts = cond_some (nat_lt (position_or_len p xs) (length xs)) (position_or_len p xs) i e in
    subst (λ k. k < length xs) parts.1 (below (position_or_len p xs) (length xs) parts.0)

numbered_kind : (names : List Mention) (n : Nesting) → numbered names (kind_of n) ≡ of_kind names (kind_of n)
numbered_kind names Objects = refl
numbered_kind names Protocols = refl

pub numbered_long : (names : List Mention) (n : Nesting) → length (numbered names (kind_of n)) ≡ length (of_kind names (kind_of n))
numbered_long names n = ap length (numbered_kind names n)

pub rows_done : (n : Nesting) (decls : List DeclText) (names : List Mention) (rows : List (List ℕ)) (left : List DeclText) → names ≡ declared_names decls → left ≡ [] → AreNamed decls
    → rows ++ flat_map (row_in names n) left ≡ flat_map (row_in names n) decls → rows ≡ nodes_of decls n
rows_done n decls names rows left e f named h =
    sym (ap (λ l. rows ++ flat_map (row_in names n) l) f ∙ append-nil rows) ∙ h ∙ ap (λ l. flat_map (row_in l n) decls) e ∙ rows_law n decls (apart_of (declared_names decls) named.once)

pub rows_are_nodes : (n : Nesting) (decls : List DeclText) (rows : List (List ℕ)) → AreNamed decls → rows ≡ nodes_of decls n → AreNodes rows
rows_are_nodes n decls rows named e = subst AreNodes (sym e) (are_nodes decls n (apart_of (declared_names decls) named.once) named.known)

pub rows_as_long : (n : Nesting) (decls : List DeclText) (names : List Mention) (rows : List (List ℕ)) → names ≡ declared_names decls → AreNamed decls → rows ≡ nodes_of decls n → length rows ≡ length (of_kind names (kind_of n))
rows_as_long n decls names rows e named h =
    ap length h ∙ rows_long decls n (apart_of (declared_names decls) named.once) named.known ∙ ap (λ l. length (of_kind l (kind_of n))) (sym e)

-- where no long chain begins, there is no circle
pub no_circle : (rows : List (List ℕ)) (depth : ℕ) (deep : List Bool) (i : ℕ) → AreChains rows depth deep → i < length rows → flag_at deep i ≡ false → (m : ℕ) → false ≡ leads rows m i i
no_circle rows depth deep i h l e m = by_test (leads rows m i i) refl
  where
    by_test : (b : Bool) → leads rows m i i ≡ b → false ≡ b
    by_test true g = sym e ∙ h.each i l ∙ circle_chains rows m i g depth
    by_test false g = refl

module _ (n : Nesting) (decls : List DeclText) (names : List Mention) (same : names ≡ declared_names decls) (named : AreNamed decls) (g : Mention) (kind : g.kind ≡ kind_of n) (known : list_any (names_it g) names ≡ true) where
  own : same_kind g.kind (kind_of n) ≡ true
  own = ap (λ k. same_kind k (kind_of n)) kind ∙ own_number (number_of_kind (kind_of n))

  at_place : {P : Type 0} → ((i : ℕ) → position (names_it g) (of_kind (declared_names decls) (kind_of n)) ≡ Some i → number_among (of_kind (declared_names decls) (kind_of n)) g ≡ i → i < length (of_kind (declared_names decls) (kind_of n)) → Same g (get_or (of_kind (declared_names decls) (kind_of n)) i g) → P) → P
  at_place h = place decls n (apart_of (declared_names decls) named.once) named.known g g (ap (list_any (names_it g)) (sym same) ∙ known) own h

  its_position : (found : Option ℕ) → found ≡ position (names_it g) (numbered names g.kind) → found ≡ position (names_it g) (of_kind (declared_names decls) (kind_of n))
  its_position found e = e ∙ ap (λ k. position (names_it g) (numbered names k)) kind ∙ ap (position (names_it g)) (numbered_kind names n) ∙ ap (λ l. position (names_it g) (of_kind l (kind_of n))) same

  pub circle_none : (found : Option ℕ) → found ≡ position (names_it g) (numbered names g.kind) → found ≡ None → false ≡ is_on_circle decls g
  circle_none found e none = at_place (λ i at number within s. absurd (none-some i (sym none ∙ its_position found e ∙ at)))

  pub circle_at : (found : Option ℕ) (i : ℕ) (on : Bool) (rows : List (List ℕ)) → rows ≡ nodes_of decls n → found ≡ position (names_it g) (numbered names g.kind) → found ≡ Some i → ((m : ℕ) → length rows ≤ m → on ≡ leads rows m i i) → on ≡ is_on_circle decls g
  circle_at found i on rows r e some h =
      at_place (λ j at number within s.
      let here : i ≡ j = same_Some i j (sym some ∙ its_position found e ∙ at) in
      let few : length rows ≤ length decls = omega (arith, ap length r, rows_long decls n (apart_of (declared_names decls) named.once) named.known, nodes_few n decls) in
      h (length decls) few ∙ ap (λ l. leads l (length decls) i i) r ∙ ap (λ k. leads (nodes_of decls n) (length decls) k k) here
      ∙ sym (circle_is decls n (apart_of (declared_names decls) named.once) named.known (length decls) g g j within s))
