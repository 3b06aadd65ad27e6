-- Whether groups nest too deep, by the flags of their nodes.
use Rattle.std.proofs.Common.{arith, ◌≡◌, ◌∙◌, refl, sym, ap, ℕ, suc, ◌<◌, Bool, true, false, ◌||◌, cond, List, [], ◌∷◌, length, map, filter, get_or}
use Rattle.std.specs.List.{list_any}
use Rattle.std.proofs.lemmas.List.{length-map, get_or-map}
use Rattle.spoc_ast.specs.Written.{DeclText}
use Rattle.policy_decls.specs.Names.{Mention, GroupName, ProtocolGroupName, same_kind, declared_names}
use Rattle.policy_decls.specs.Nesting.{nests, nesting_names}
use Rattle.policy_names.specs.Tables.{of_kind}
use Rattle.policy_names.proofs.TestLemmas.{list_any_map}
use Rattle.policy_nesting.specs.declared.nodes.Nesting.{Nesting}
use Rattle.policy_nesting.specs.declared.nodes.Nesting.TheVariants.{Objects, Protocols}
use Rattle.policy_nesting.specs.Graph.{flag_at, chains}
use Rattle.policy_nesting.specs.Nodes.{kind_of, AreNamed, IsGraph}
use Rattle.policy_nesting.proofs.Apart.{apart_of}
use Rattle.policy_nesting.proofs.Reaching.{nest_is, rows_long}

same_flags : (xs ys : List Bool) → length xs ≡ length ys → ((k : ℕ) → k < length ys → get_or xs k false ≡ get_or ys k false) → xs ≡ ys
same_flags [] [] e h = refl
same_flags [] (y ∷ ys) e h = absurd (omega arith)
same_flags (x ∷ xs) [] e h = absurd (omega arith)
same_flags (x ∷ xs) (y ∷ ys) e h = ap (λ b. b ∷ xs) (h 0 (omega arith)) ∙ ap (λ l. y ∷ l) (same_flags xs ys (omega arith) (λ k l. h (suc k) (omega arith)))

-- some item of a list that isn't empty
with_item : {A P : Type 0} (xs : List A) (k : ℕ) → k < length xs → (A → P) → P
with_item [] k l h = absurd (omega arith)
with_item (x ∷ xs) k l h = h x

module _ (n : Nesting) (decls : List DeclText) (named : AreNamed decls) (depth : ℕ) (rows : List (List ℕ)) (flags : List Bool) (graph : IsGraph decls n depth rows flags) where
  abbrev groups : List Mention
  groups = of_kind (declared_names decls) (kind_of n)

  all_rows : length rows ≡ length groups
  all_rows = ap length graph.nodes ∙ rows_long decls n (apart_of (declared_names decls) named.once) named.known

  flag_is : (k : ℕ) → k < length groups → flag_at flags k ≡ get_or (map (nests decls depth) groups) k false
  flag_is k l =
      with_item groups k l (λ d.
      graph.deep.each k (omega (arith, all_rows)) ∙ ap (λ r. chains r depth k) graph.nodes
      ∙ sym (nest_is decls n (apart_of (declared_names decls) named.once) named.known depth (get_or groups k d) d k l (record { kind = refl; owner = refl; text = refl })) ∙ sym (get_or-map (nests decls depth) groups k d false l))

  pub any_deep : list_any (λ flag. flag) flags ≡ list_any (nests decls depth) groups
  any_deep =
      ap (list_any (λ flag. flag)) (same_flags flags (map (nests decls depth) groups) (graph.deep.long ∙ all_rows ∙ sym (length-map groups (nests decls depth))) (λ k l. flag_is k (simp length-map at l)))
      ∙ sym (list_any_map (λ flag. flag) (nests decls depth) groups)

module _ {A : Type 0} (p f g : A → Bool) where
  one_left : (a b c : Bool) → (a || (b || c)) ≡ ((a || b) || c)
  one_left true b c = refl
  one_left false b c = refl

  one_right : (a b c : Bool) → (a || (b || c)) ≡ (b || (a || c))
  one_right true true c = refl
  one_right true false c = refl
  one_right false b c = refl

  twice : (a b c : Bool) → (a || (b || c)) ≡ ((a || b) || (a || c))
  twice true b c = refl
  twice false b c = refl

  step : (a b : Bool) (x : A) (fs gs both : List A) → list_any p both ≡ (list_any p fs || list_any p gs) → list_any p (cond (a || b) (x ∷ both) both) ≡ (list_any p (cond a (x ∷ fs) fs) || list_any p (cond b (x ∷ gs) gs))
  step true true x fs gs both e = ap (λ r. p x || r) e ∙ twice (p x) (list_any p fs) (list_any p gs)
  step true false x fs gs both e = ap (λ r. p x || r) e ∙ one_left (p x) (list_any p fs) (list_any p gs)
  step false true x fs gs both e = ap (λ r. p x || r) e ∙ one_right (p x) (list_any p fs) (list_any p gs)
  step false false x fs gs both e = e

  any_of_two : (xs : List A) → list_any p (filter (λ x. f x || g x) xs) ≡ (list_any p (filter f xs) || list_any p (filter g xs))
  any_of_two [] = refl
  any_of_two (x ∷ xs) = step (f x) (g x) x (filter f xs) (filter g xs) (filter (λ y. f y || g y) xs) (any_of_two xs)

pub nesting_deep : (decls : List DeclText) (depth : ℕ) → AreNamed decls → (rows : List (List ℕ)) (flags : List Bool) → IsGraph decls Objects depth rows flags → (others : List (List ℕ)) (other_flags : List Bool) → IsGraph decls Protocols depth others other_flags
    → (list_any (λ flag. flag) flags || list_any (λ flag. flag) other_flags) ≡ list_any (nests decls depth) (nesting_names decls)
nesting_deep decls depth named rows flags g others other_flags h =
    ap (λ b. b || list_any (λ flag. flag) other_flags) (any_deep Objects decls named depth rows flags g) ∙ ap (λ b. list_any (nests decls depth) (of_kind (declared_names decls) GroupName) || b) (any_deep Protocols decls named depth others other_flags h)
    ∙ sym (any_of_two (nests decls depth) (λ name. same_kind name.kind GroupName) (λ name. same_kind name.kind ProtocolGroupName) (declared_names decls))
