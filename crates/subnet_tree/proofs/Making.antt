-- The parts that are built make a tree.
use Rattle.std.proofs.Common.{◌≡◌, ℕ, ◌-◌, ◌<◌, List, [], ◌∷◌, length, map, sym, ap, subst, ◌∙◌, arith, nat_eq}
use Rattle.std.specs.Prelude.{Some, None, option_map, slice_index_or}
use Rattle.std.specs.List.Sorted.{IsPermutation}
use Rattle.std.specs.HashMap.{HashMap, get}
use Rattle.std.specs.declared.hash.FoldHasher.{FoldHasher}
use Rattle.std.specs.declared.hash.BuildHasherDefault.{BuildHasherDefault}
use Rattle.std.proofs.lemmas.List.{get_or-map, length-map}
use Rattle.std.proofs.lemmas.List.Sorted.{IsPermutation-map}
use Rattle.spoc_base.specs.Address.{IsCidr}
use Rattle.spoc_base.specs.declared.address.Prefix.{Prefix}
use Rattle.spoc_base.specs.declared.ids.NetId.{NetId}
use Rattle.subnet_tree.specs.Entries.{HaveDistinctNumbers, HaveDistinctPrefixes, AreInOrder, least_of_neighbours, IsLeastSame}
use Rattle.subnet_tree.specs.Knots.{no_knot, knot_at, AreKnots, entry_of_knot, assigned}
use Rattle.subnet_tree.specs.Shown.{entry_of, knot_of, net_of, pair_of}
use Rattle.subnet_tree.specs.Trees.{IsTree}
use Rattle.subnet_tree.specs.declared.nodes.Node.{Node}
use Rattle.subnet_tree.proofs.Answering.{AreOrdered, placed, assigned_parents}
use Rattle.subnet_tree.proofs.Ascending.{permuted_inside}
use Rattle.subnet_tree.proofs.Neighbours.{no_same, least_same_is}

abbrev Items : Type 0
Items = List (NetId × Prefix)

each_proper : (nodes : List Node) (k : ℕ) → k < length (map knot_of nodes) → IsCidr (knot_at (map knot_of nodes) k).prefix
each_proper [] k below = absurd (let z : ⊥ = omega (arith, below) in z)
each_proper (x ∷ xs) k below =
    let n = length-map (x ∷ xs) knot_of in
    let node = slice_index_or (x ∷ xs) k x in
    let e : knot_at (map knot_of (x ∷ xs)) k ≡ knot_of node = get_or-map knot_of (x ∷ xs) k x no_knot (omega (arith, below, n)) in
    subst (λ y. IsCidr y.prefix) (sym e) (record { short = node.prefix.short; aligned = node.prefix.aligned })

pub no_two_same : (given sorted : Items) → IsPermutation given sorted → AreInOrder (map entry_of sorted) → HaveDistinctNumbers (map entry_of given) →
    None ≡ least_of_neighbours (map entry_of sorted) (length sorted - 1) → HaveDistinctPrefixes (map entry_of given)
no_two_same given sorted perm order numbers e =
    let n = length-map sorted entry_of in
    no_same (map entry_of given) (map entry_of sorted) (IsPermutation-map entry_of given sorted perm) order numbers
    (ap (λ k. least_of_neighbours (map entry_of sorted) (k - 1)) n ∙ sym e)

pub two_same : (given sorted : Items) (n m : NetId) → IsPermutation given sorted → AreInOrder (map entry_of sorted) → HaveDistinctNumbers (map entry_of given) →
    Some (pair_of (n, m)) ≡ least_of_neighbours (map entry_of sorted) (length sorted - 1) → IsLeastSame (map entry_of given) n.0 m.0
two_same given sorted n m perm order numbers e =
    let l = length-map sorted entry_of in
    least_same_is (map entry_of given) (map entry_of sorted) (IsPermutation-map entry_of given sorted perm) order numbers (pair_of (n, m))
    (ap (λ k. least_of_neighbours (map entry_of sorted) (k - 1)) l ∙ sym e)

pub made_tree : (given sorted kept : Items) (nodes : List Node) (parents : HashMap ℕ NetId (BuildHasherDefault FoldHasher)) → kept ≡ given → IsPermutation given sorted → AreInOrder (map entry_of sorted) →
    HaveDistinctNumbers (map entry_of given) → HaveDistinctPrefixes (map entry_of given) → map entry_of_knot (map knot_of nodes) ≡ map entry_of sorted → AreKnots (map knot_of nodes) →
    ((n : ℕ) → option_map net_of (get nat_eq parents n) ≡ assigned (map knot_of nodes) n (length nodes)) → IsTree (map entry_of kept) (map knot_of nodes) parents
made_tree given sorted kept nodes parents same perm order numbers prefixes entries knots above =
    let ks = map knot_of nodes in
    let items = map entry_of given in
    let permuted : IsPermutation items (map entry_of_knot ks) = subst (IsPermutation items) (sym entries) (IsPermutation-map entry_of given sorted perm) in
    let all : AreOrdered items ks = record { knots = knots; permutation = permuted; order = subst AreInOrder (sym entries) order; proper = each_proper nodes; numbers = numbers; prefixes = prefixes } in
    let n = length-map nodes knot_of in
    subst (λ xs. IsTree (map entry_of xs) ks parents) (sym same) (record {
      knots = knots;
      placed = placed items ks all;
      above = λ q. assigned_parents items ks all q ∙ (ap (assigned ks q) n ∙ sym (above q));
      insides = λ p. permuted_inside items (map entry_of_knot ks) p permuted;
    })
