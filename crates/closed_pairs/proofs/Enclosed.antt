-- The pairs inside a pair, source by source.
use Rattle.std.proofs.Common.{◌≡◌, ℕ, Bool, true, false, cond, not, ◌&&◌, List, [], ◌∷◌, ◌++◌, map, flat_map, filter, refl, sym, ap, subst, ◌∙◌, Option, Some, None}
use Rattle.std.specs.Prelude.{◌==◌}
use Rattle.std.proofs.lemmas.List.Elements.{filter-append}
use Rattle.spoc_base.specs.Address.{Cidr}
use Rattle.policy_model.specs.Lists.{pairs_of}
use Rattle.policy_model.specs.Policy.{Policy, all_nets}
use Rattle.policy_model.specs.Places.{prefix_in}
use Rattle.policy_model.specs.Blocks.{NetPair, all_pairs, is_part_of}
use Rattle.nat_view.specs.Seen.{nets_within}
use Rattle.closed_pairs.specs.Reaching.{encloses_in, others_from}

abbrev pair_with : ℕ → ℕ → NetPair
pair_with x y = record { src = x; dst = y }

abbrev named : ℕ × ℕ → NetPair
named e = record { src = e.0; dst = e.1 }

map_append : {A B : Type 0} (f : A → B) (xs ys : List A) → map f (xs ++ ys) ≡ map f xs ++ map f ys
map_append f [] ys = refl
map_append f (x ∷ xs) ys = ap (λ zs. f x ∷ zs) (map_append f xs ys)

row_named : (x : ℕ) (ys : List ℕ) → map named (map (λ y. (x, y)) ys) ≡ map (pair_with x) ys
row_named x [] = refl
row_named x (y ∷ ys) = ap (λ zs. pair_with x y ∷ zs) (row_named x ys)

module _ (t : NetPair → Bool) (f g : ℕ → Bool) where
  abbrev kept : NetPair → Bool
  kept e = t e && (f e.src && g e.dst)

  row_in : (x : ℕ) → f x ≡ true → (ys : List ℕ) → filter t (map (pair_with x) (filter g ys)) ≡ filter kept (map (pair_with x) ys)
  row_in x h [] = refl
  row_in x h (y ∷ ys) = by (f x) h (g y) (t (pair_with x y)) refl (row_in x h ys)
    where
      by : (a : Bool) → a ≡ true → (b c : Bool) → t (pair_with x y) ≡ c → filter t (map (pair_with x) (filter g ys)) ≡ filter kept (map (pair_with x) ys) →
          filter t (map (pair_with x) (cond b (y ∷ filter g ys) (filter g ys))) ≡ cond (c && (a && b)) (pair_with x y ∷ filter kept (map (pair_with x) ys)) (filter kept (map (pair_with x) ys))
      by false e b c s rest = absurd (subst (λ v. cond v ⊥ Unit) e tt)
      by true e false false s rest = rest
      by true e false true s rest = rest
      by true e true c s rest =
          ap (λ z. cond z (pair_with x y ∷ filter t (map (pair_with x) (filter g ys))) (filter t (map (pair_with x) (filter g ys)))) s
          ∙ (ap (λ zs. cond c (pair_with x y ∷ zs) zs) rest ∙ same c)
        where
          same : (c : Bool) → cond c (pair_with x y ∷ filter kept (map (pair_with x) ys)) (filter kept (map (pair_with x) ys)) ≡ cond (c && true) (pair_with x y ∷ filter kept (map (pair_with x) ys)) (filter kept (map (pair_with x) ys))
          same true = refl
          same false = refl

  row_out : (x : ℕ) → f x ≡ false → (ys : List ℕ) → filter kept (map (pair_with x) ys) ≡ []
  row_out x h [] = refl
  row_out x h (y ∷ ys) = by (f x) h (t (pair_with x y)) (row_out x h ys)
    where
      by : (a : Bool) → a ≡ false → (c : Bool) → filter kept (map (pair_with x) ys) ≡ [] → cond (c && (a && g y)) (pair_with x y ∷ filter kept (map (pair_with x) ys)) (filter kept (map (pair_with x) ys)) ≡ []
      by false e true rest = rest
      by false e false rest = rest
      by true e c rest = absurd (subst (λ v. cond v Unit ⊥) e tt)

  -- each that passes with each that passes
  by_rows : (xs ys : List ℕ) → flat_map (λ x. filter t (map (pair_with x) (filter g ys))) (filter f xs) ≡ filter kept (map named (pairs_of xs ys))
  by_rows [] ys = refl
  by_rows (x ∷ xs) ys = by (f x) refl (by_rows xs ys) ∙ sym split
    where
      row : List NetPair
      row = filter kept (map (pair_with x) ys)

      rest : List NetPair
      rest = filter kept (map named (pairs_of xs ys))

      split : filter kept (map named (map (λ y. (x, y)) ys ++ pairs_of xs ys)) ≡ row ++ rest
      split =
          ap (filter kept) (map_append named (map (λ y. (x, y)) ys) (pairs_of xs ys) ∙ ap (λ zs. zs ++ map named (pairs_of xs ys)) (row_named x ys))
          ∙ filter-append kept (map (pair_with x) ys) (map named (pairs_of xs ys))

      by : (a : Bool) → f x ≡ a → flat_map (λ x. filter t (map (pair_with x) (filter g ys))) (filter f xs) ≡ rest →
          flat_map (λ x. filter t (map (pair_with x) (filter g ys))) (cond a (x ∷ filter f xs) (filter f xs)) ≡ row ++ rest
      by true e so_far = ap (λ zs. zs ++ flat_map (λ x. filter t (map (pair_with x) (filter g ys))) (filter f xs)) (row_in x e ys) ∙ ap (λ zs. row ++ zs) so_far
      by false e so_far = so_far ∙ sym (ap (λ zs. zs ++ rest) (row_out x e ys))

-- what is pushed source by source are the pairs inside
pub inside_pairs : (p : Policy) (view : List ℕ) (outer : NetPair) (src dst : Cidr) → prefix_in p view outer.src ≡ Some src → prefix_in p view outer.dst ≡ Some dst →
    flat_map (others_from outer (nets_within p view dst)) (nets_within p view src) ≡ filter (encloses_in p view outer) (all_pairs p)
inside_pairs p view outer src dst a b =
    let t : NetPair → Bool = λ (e : NetPair). not ((outer.src == e.src) && (outer.dst == e.dst)) in
    by_rows t (λ n. is_part_of (prefix_in p view n) (Some src)) (λ n. is_part_of (prefix_in p view n) (Some dst)) (all_nets p) (all_nets p)
    ∙ ap (λ (o : Option Cidr × Option Cidr). filter (λ (e : NetPair). t e && (is_part_of (prefix_in p view e.src) o.0 && is_part_of (prefix_in p view e.dst) o.1)) (all_pairs p))
    (λ i. (sym a i, sym b i))

-- ---- nothing lies in a hidden network

part_of_none : (o : Option Cidr) → is_part_of o None ≡ false
part_of_none None = refl
part_of_none (Some q) = refl

all_out : (t : NetPair → Bool) → ((e : NetPair) → t e ≡ false) → (es : List NetPair) → filter t es ≡ []
all_out t out [] = refl
all_out t out (e ∷ es) = ap (λ b. cond b (e ∷ filter t es) (filter t es)) (out e) ∙ all_out t out es

and_out : (a b : Bool) → b ≡ false → (a && b) ≡ false
and_out true b e = e
and_out false b e = refl

module _ (p : Policy) (view : List ℕ) (outer : NetPair) where
  pub none_in_source : prefix_in p view outer.src ≡ None → filter (encloses_in p view outer) (all_pairs p) ≡ []
  none_in_source h =
      all_out (encloses_in p view outer)
      (λ e. and_out (not ((outer.src == e.src) && (outer.dst == e.dst))) (is_part_of (prefix_in p view e.src) (prefix_in p view outer.src) && is_part_of (prefix_in p view e.dst) (prefix_in p view outer.dst))
      (ap (λ o. is_part_of (prefix_in p view e.src) o && is_part_of (prefix_in p view e.dst) (prefix_in p view outer.dst)) h
      ∙ ap (λ b. b && is_part_of (prefix_in p view e.dst) (prefix_in p view outer.dst)) (part_of_none (prefix_in p view e.src))))
      (all_pairs p)

  pub none_in_destination : prefix_in p view outer.dst ≡ None → filter (encloses_in p view outer) (all_pairs p) ≡ []
  none_in_destination h =
      all_out (encloses_in p view outer)
      (λ e. and_out (not ((outer.src == e.src) && (outer.dst == e.dst))) (is_part_of (prefix_in p view e.src) (prefix_in p view outer.src) && is_part_of (prefix_in p view e.dst) (prefix_in p view outer.dst))
      (and_out (is_part_of (prefix_in p view e.src) (prefix_in p view outer.src)) (is_part_of (prefix_in p view e.dst) (prefix_in p view outer.dst))
      (ap (is_part_of (prefix_in p view e.dst)) h ∙ part_of_none (prefix_in p view e.dst))))
      (all_pairs p)

pub pushed_inside : (p : Policy) (view : List ℕ) (outer : NetPair) (src dst : Cidr) → prefix_in p view outer.src ≡ Some src → prefix_in p view outer.dst ≡ Some dst →
    (pairs : List NetPair) (srcs dsts : List ℕ) → srcs ≡ nets_within p view src → dsts ≡ nets_within p view dst → pairs ≡ flat_map (others_from outer dsts) srcs →
    pairs ≡ filter (encloses_in p view outer) (all_pairs p)
pushed_inside p view outer src dst a b pairs srcs dsts e f g = g ∙ ((λ i. flat_map (others_from outer (f i)) (e i)) ∙ inside_pairs p view outer src dst a b)
