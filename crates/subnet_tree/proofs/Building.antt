-- The nodes as knots, for the functions that make and read them.
use Rattle.std.proofs.Common.{◌≡◌, ℕ, zero, suc, ◌+◌, ◌<◌, ◌≤◌, Bool, true, false, cond, List, [], ◌∷◌, ◌++◌, length, length-append, length-take-le, map, take, refl, sym, ap, subst, ◌∙◌, ⊎_elim, arith, append-nil}
use Rattle.std.specs.Prelude.{Option, Some, None, ◌==◌, nat_le, slice_index_or, filter, option_map, IfSome}
use Rattle.std.specs.List.Sorted.{IsNonDecreasingBy}
use Rattle.std.proofs.lemmas.List.{get_or-map, length-map, map-append, take_more, get_or-take, take_all}
use Rattle.std.proofs.lemmas.List.Elements.{filter-append}
use Rattle.std.proofs.lemmas.Bool.{and_parts, cases_lt, false_from_ne_true}
use Rattle.spoc_base.specs.Address.{Cidr, addresses, prefix_holds, is_inside}
use Rattle.spoc_base.specs.Shown.{cidr_of}
use Rattle.spoc_base.specs.declared.address.Prefix.{Prefix}
use Rattle.spoc_base.specs.declared.ids.NetId.{NetId}
use Rattle.list_laws.proofs.Nesting.{holds_parts}
use Rattle.subnet_tree.specs.Entries.{Entry, AreInOrder, no_entry, entry_at}
use Rattle.subnet_tree.specs.Knots.{Knot, no_knot, knot_at, last_below, last_holding, AreKnots, entry_of_knot, picked, above_at, assigned}
use Rattle.subnet_tree.specs.Shown.{knot_of, entry_of}
use Rattle.subnet_tree.specs.declared.nodes.Node.{Node}
use Rattle.subnet_tree.proofs.Climbing.{last_found, last_same, skipped, at_node}

-- ---- addresses ascend

pub node_net : (nodes : List Node) (i : ℕ) (d : Node) → i < length nodes → (knot_at (map knot_of nodes) i).prefix.net ≡ (slice_index_or nodes i d).prefix.net.0
node_net nodes i d below = ap (λ k. k.prefix.net) (get_or-map knot_of nodes i d no_knot below)

pub nodes_ascend : (nodes : List Node) → AreKnots (map knot_of nodes) → IsNonDecreasingBy (λ (node : Node). node.prefix.net.0) nodes
nodes_ascend nodes tree = λ i j d le below.
    ⊎_elim
    (λ (lt : i < j).
    let n = length-map nodes knot_of in
    let x = tree.ascending i j lt (omega (arith, below, n)) in
    let e = node_net nodes i d (omega (arith, lt, below)) in
    let f = node_net nodes j d below in
    omega (arith, x, e, f))
    (λ (ge : j ≤ i). let e : i ≡ j = omega (arith, le, ge) in let f = ap (λ k. (slice_index_or nodes k d).prefix.net.0) e in omega (arith, f))
    (cases_lt i j)

pub each_low : (P : ℕ → Type 0) (nodes : List Node) (i : ℕ) → i ≤ length nodes → ((k : ℕ) (d : Node) → k < i → P (slice_index_or nodes k d).prefix.net.0) → (k : ℕ) → k < i → P (knot_at (map knot_of nodes) k).prefix.net
each_low P [] i le h = λ k below. absurd (let z : ⊥ = omega (arith, le, below) in z)
each_low P (x ∷ xs) i le h = λ k below. subst P (sym (node_net (x ∷ xs) k x (omega (arith, le, below)))) (h k x below)

pub each_high : (P : ℕ → Type 0) (nodes : List Node) (i : ℕ) → ((k : ℕ) (d : Node) → i ≤ k → k < length nodes → P (slice_index_or nodes k d).prefix.net.0) → (k : ℕ) → i ≤ k → k < length nodes → P (knot_at (map knot_of nodes) k).prefix.net
each_high P [] i h = λ k low below. absurd (let z : ⊥ = omega (arith, below) in z)
each_high P (x ∷ xs) i h = λ k low below. subst P (sym (node_net (x ∷ xs) k x below)) (h k x low below)

-- ---- the last that holds

pub none_of_none : (ks : List Knot) (a n : ℕ) → n ≡ 0 → ◌≡◌ {A = Option ℕ} None (last_holding ks a n)
unfolding last_holding
none_of_none ks a n e = ap (last_below (λ k. prefix_holds (knot_at ks k).prefix a)) (sym e)

pub last_within : (o : Option ℕ) (ks : List Knot) (a n end : ℕ) → o ≡ last_holding ks a n → n ≡ end → IfSome o (λ i. i < end)
unfolding last_holding
last_within None ks a n end e f = tt
last_within (Some i) ks a n end e f = let w = (last_found (λ k. prefix_holds (knot_at ks k).prefix a) n i (sym e)).below in omega (arith, w, f)

-- ---- one more knot

module _ (ks : List Knot) (x : Knot) where
  at_old : (i : ℕ) → i < length ks → knot_at (ks ++ x ∷ []) i ≡ knot_at ks i
  at_old i below = get_or-append-front ks (x ∷ []) i no_knot below
    where
      get_or-append-front : {A : Type 0} (xs ys : List A) (i : ℕ) (d : A) → i < length xs → slice_index_or (xs ++ ys) i d ≡ slice_index_or xs i d
      get_or-append-front [] ys i d h = absurd (let z : ⊥ = omega (arith, h) in z)
      get_or-append-front (y ∷ xs) ys zero d h = refl
      get_or-append-front (y ∷ xs) ys (suc i) d h = get_or-append-front xs ys i d (omega (arith, h))

  at_new : knot_at (ks ++ x ∷ []) (length ks) ≡ x
  at_new = get_or-append-here ks
    where
      get_or-append-here : (xs : List Knot) → slice_index_or (xs ++ x ∷ []) (length xs) no_knot ≡ x
      get_or-append-here [] = refl
      get_or-append-here (y ∷ xs) = get_or-append-here xs

  last_kept : (a n : ℕ) → n ≤ length ks → last_holding (ks ++ x ∷ []) a n ≡ last_holding ks a n
  unfolding last_holding
  last_kept a n le = last_same (λ k. prefix_holds (knot_at (ks ++ x ∷ []) k).prefix a) (λ k. prefix_holds (knot_at ks k).prefix a) n (λ k below. ap (λ y. prefix_holds y.prefix a) (at_old k (omega (arith, le, below))))

  -- it goes behind the others if none of them begins above it
  pub one_knot_more : AreKnots ks → ((i : ℕ) → i < length ks → (knot_at ks i).prefix.net ≤ x.prefix.net) → x.above ≡ last_holding ks x.prefix.net (length ks) → AreKnots (ks ++ x ∷ [])
  one_knot_more tree low link =
      let n = length-append ks (x ∷ []) in
      record {
        ascending = λ i j lt below. ⊎_elim
            (λ (old : j < length ks).
            subst (λ y. y.prefix.net ≤ (knot_at (ks ++ x ∷ []) j).prefix.net) (sym (at_old i (omega (arith, lt, old))))
            (subst (λ y. (knot_at ks i).prefix.net ≤ y.prefix.net) (sym (at_old j old)) (tree.ascending i j lt old)))
            (λ (new : length ks ≤ j).
            let e : j ≡ length ks = omega (arith, new, below, n) in
            subst (λ y. y.prefix.net ≤ (knot_at (ks ++ x ∷ []) j).prefix.net) (sym (at_old i (omega (arith, lt, e))))
            (subst (λ y. (knot_at ks i).prefix.net ≤ y.prefix.net) (sym (ap (knot_at (ks ++ x ∷ [])) e ∙ at_new)) (low i (omega (arith, lt, e)))))
            (cases_lt j (length ks));
        linked = λ i below. ⊎_elim
            (λ (old : i < length ks).
            ap (λ y. y.above) (at_old i old) ∙ (tree.linked i old
            ∙ (sym (last_kept (knot_at ks i).prefix.net i (omega (arith, old))) ∙ ap (λ y. last_holding (ks ++ x ∷ []) y.prefix.net i) (sym (at_old i old)))))
            (λ (new : length ks ≤ i).
            let e : i ≡ length ks = omega (arith, new, below, n) in
            ap (λ y. y.above) (ap (knot_at (ks ++ x ∷ [])) e ∙ at_new) ∙ (link
            ∙ (sym (last_kept x.prefix.net (length ks) (omega arith))
            ∙ (ap (λ y. last_holding (ks ++ x ∷ []) y.prefix.net (length ks)) (sym (ap (knot_at (ks ++ x ∷ [])) e ∙ at_new)) ∙ ap (last_holding (ks ++ x ∷ []) (knot_at (ks ++ x ∷ []) i).prefix.net) (sym e)))))
            (cases_lt i (length ks));
      }

pub no_knots : AreKnots []
no_knots = record { ascending = λ i j lt below. absurd (let z : ⊥ = omega (arith, below) in z); linked = λ i below. absurd (let z : ⊥ = omega (arith, below) in z) }

-- ---- the loop over the items

abbrev pub knots_of : List Node → List Knot
knots_of nodes = map knot_of nodes

abbrev pub entries_of : List (NetId × Prefix) → List Entry
entries_of items = map entry_of items

-- what is made so far
pub record AreNodes (sorted : List (NetId × Prefix)) (i : ℕ) (nodes : List Node) : Type 0 where
  pub entries : map entry_of_knot (knots_of nodes) ≡ take i (entries_of sorted)
  pub knots : AreKnots (knots_of nodes)

take-none : {A : Type 0} (xs : List A) → take 0 xs ≡ []
take-none xs = refl

length-take-most : {A : Type 0} (i : ℕ) (xs : List A) → length (take i xs) ≤ i
length-take-most i xs =
    ⊎_elim (λ (lt : i < length xs). let e = length-take-le i xs (omega (arith, lt)) in omega (arith, e)) (λ (le : length xs ≤ i). let e = ap length (take_all i xs le) in omega (arith, e, le)) (cases_lt i (length xs))

knot_entry : (ks : List Knot) (k : ℕ) → k < length ks → entry_at (map entry_of_knot ks) k ≡ entry_of_knot (knot_at ks k)
knot_entry ks k below = get_or-map entry_of_knot ks k no_knot no_entry below

pub made_length : (sorted : List (NetId × Prefix)) (i : ℕ) (nodes : List Node) → AreNodes sorted i nodes → length (knots_of nodes) ≤ i
made_length sorted i nodes made =
    let e = ap length made.entries in
    let n = length-map (knots_of nodes) entry_of_knot in
    let t = length-take-most i (entries_of sorted) in
    omega (arith, e, n, t)

pub made_low : (sorted : List (NetId × Prefix)) (i : ℕ) (nodes : List Node) (item : NetId × Prefix) → AreInOrder (entries_of sorted) → AreNodes sorted i nodes → i < length sorted → item ≡ slice_index_or sorted i item →
    (k : ℕ) → k < length (knots_of nodes) → (knot_at (knots_of nodes) k).prefix.net ≤ item.1.net.0
made_low sorted i nodes item order made small is k below =
    let ks = knots_of nodes in
    let es = entries_of sorted in
    let under : k < i = let m = made_length sorted i nodes made in omega (arith, below, m) in
    let n = length-map sorted entry_of in
    let one : entry_of_knot (knot_at ks k) ≡ entry_at es k = sym (knot_entry ks k below) ∙ (ap (λ xs. entry_at xs k) made.entries ∙ get_or-take i es k no_entry under) in
    let two : entry_at es i ≡ entry_of item = get_or-map entry_of sorted i item no_entry small ∙ ap entry_of (sym is) in
    let p = (order k i no_entry under (omega (arith, small, n))).nets in
    let x = ap (λ e. e.prefix.net) one in
    let y = ap (λ e. e.prefix.net) two in
    omega (arith, p, x, y)

pub one_node_more : (sorted : List (NetId × Prefix)) (i : ℕ) (nodes : List Node) (item : NetId × Prefix) (above : Option ℕ) (new : List Node) →
    AreInOrder (entries_of sorted) → AreNodes sorted i nodes → i < length sorted → item ≡ slice_index_or sorted i item →
    above ≡ last_holding (knots_of nodes) item.1.net.0 (length nodes) → new ≡ nodes ++ (record { id = item.0; prefix = item.1; above = above }) ∷ [] → AreNodes sorted (i + 1) new
one_node_more sorted i nodes item above new order made small is link e =
    let node : Node = record { id = item.0; prefix = item.1; above = above } in
    let ks = knots_of nodes in
    let es = entries_of sorted in
    let n = length-map sorted entry_of in
    let f : knots_of new ≡ ks ++ knot_of node ∷ [] = ap knots_of e ∙ map-append knot_of nodes (node ∷ []) in
    let two : entry_at es i ≡ entry_of item = get_or-map entry_of sorted i item no_entry small ∙ ap entry_of (sym is) in
    record {
      entries = ap (map entry_of_knot) f ∙ (map-append entry_of_knot ks (knot_of node ∷ [])
          ∙ (ap (λ xs. xs ++ entry_of item ∷ []) made.entries
          ∙ (ap (λ x. take i es ++ x ∷ []) (sym two) ∙ sym (take_more es i no_entry (omega (arith, small, n))))));
      knots = subst AreKnots (sym f) (one_knot_more ks (knot_of node) made.knots (λ k below. made_low sorted i nodes item order made small is k below)
          (link ∙ ap (last_holding ks item.1.net.0) (sym (length-map nodes knot_of))));
    }

pub no_nodes : (sorted : List (NetId × Prefix)) → AreNodes sorted 0 []
no_nodes sorted = record { entries = sym (take-none (entries_of sorted)); knots = no_knots }

pub all_made : (sorted : List (NetId × Prefix)) (i : ℕ) (nodes : List Node) → AreNodes sorted i nodes → length sorted ≤ i → map entry_of_knot (knots_of nodes) ≡ entries_of sorted
all_made sorted i nodes made le = let n = length-map sorted entry_of in made.entries ∙ take_all i (entries_of sorted) (omega (arith, n, le))

-- ---- the nodes inside a prefix

kept_one : (b : Bool) (k : Knot) → map (λ x. x.net) (cond b (k ∷ []) []) ≡ cond b (k.net ∷ []) []
kept_one true k = refl
kept_one false k = refl

pub picked_more : (p : Cidr) (ks : List Knot) (i : ℕ) → i < length ks → picked p ks (suc i) ≡ picked p ks i ++ cond (is_inside (knot_at ks i).prefix p) ((knot_at ks i).net ∷ []) []
unfolding picked
picked_more p ks i below =
    let test : Knot → Bool = λ k. is_inside k.prefix p in
    let e : suc i ≡ i + 1 = omega arith in
    let x = knot_at ks i in
    ap (λ n. map (λ k. k.net) (filter test (take n ks))) e
    ∙ (ap (λ xs. map (λ k. k.net) (filter test xs)) (take_more ks i no_knot below)
    ∙ (ap (map (λ k. k.net)) (filter-append test (take i ks) (x ∷ []))
    ∙ (map-append (λ k. k.net) (filter test (take i ks)) (cond (test x) (x ∷ []) []) ∙ ap (λ xs. map (λ k. k.net) (filter test (take i ks)) ++ xs) (kept_one (test x) x))))

pub picked_none : (p : Cidr) (ks : List Knot) → picked p ks 0 ≡ []
unfolding picked
picked_none p ks = ap (λ xs. map (λ k. k.net) (filter (λ k. is_inside k.prefix p) xs)) (take-none ks)

pub picked_all : (p : Cidr) (ks : List Knot) → picked p ks (length ks) ≡ map (λ k. k.net) (filter (λ k. is_inside k.prefix p) ks)
unfolding picked
picked_all p ks = ap (λ xs. map (λ k. k.net) (filter (λ k. is_inside k.prefix p) xs)) (take_all (length ks) ks (omega arith))

-- what begins elsewhere isn't inside
begins_below : (q p : Cidr) → q.net < p.net → is_inside q p ≡ false
begins_below q p lt = false_from_ne_true (is_inside q p) (λ t. let w = holds_parts p q.net (and_parts (nat_le p.len q.len) (prefix_holds p q.net) t).1 in let x = w.low in let z : ⊥ = omega (arith, x, lt) in z)

begins_above : (q p : Cidr) → (addresses p).last < q.net → is_inside q p ≡ false
begins_above q p lt = false_from_ne_true (is_inside q p) (λ t. let w = holds_parts p q.net (and_parts (nat_le p.len q.len) (prefix_holds p q.net) t).1 in let x = w.high in let z : ⊥ = omega (arith, x, lt) in z)

pub none_picked : (p : Cidr) (ks : List Knot) (m n : ℕ) → m ≤ n → n ≤ length ks → ((k : ℕ) → m ≤ k → k < n → is_inside (knot_at ks k).prefix p ≡ false) → picked p ks n ≡ picked p ks m
none_picked p ks m zero le high none = let e : m ≡ 0 = omega arith in ap (picked p ks) (sym e)
none_picked p ks m (suc n) le high none =
    ⊎_elim
    (λ (lt : m < suc n). picked_more p ks n (omega (arith, high)) ∙ (ap (λ b. picked p ks n ++ cond b ((knot_at ks n).net ∷ []) []) (none n (omega arith) (omega arith))
    ∙ (append-nil (picked p ks n) ∙ none_picked p ks m n (omega (arith, lt)) (omega (arith, high)) (λ k low below. none k low (omega arith)))))
    (λ (ge : suc n ≤ m). let e : m ≡ suc n = omega (arith, ge, le) in ap (picked p ks) (sym e))
    (cases_lt m (suc n))

pub picked_start : (p : Cidr) (nodes : List Node) (start : ℕ) → start ≤ length nodes → ((k : ℕ) → k < start → (knot_at (knots_of nodes) k).prefix.net < p.net) → picked p (knots_of nodes) start ≡ []
picked_start p nodes start le low =
    let n = length-map nodes knot_of in
    none_picked p (knots_of nodes) 0 start (omega arith) (omega (arith, n, le)) (λ k z below. begins_below (knot_at (knots_of nodes) k).prefix p (low k below)) ∙ picked_none p (knots_of nodes)

pub picked_end : (p : Cidr) (nodes : List Node) (i end hi : ℕ) → end ≤ i → i ≤ length nodes → hi ≡ (addresses p).last → ((k : ℕ) → end ≤ k → k < length nodes → hi < (knot_at (knots_of nodes) k).prefix.net) →
    picked p (knots_of nodes) i ≡ picked p (knots_of nodes) (length nodes)
picked_end p nodes i end hi le small e high =
    let n = length-map nodes knot_of in
    sym (none_picked p (knots_of nodes) i (length nodes) small (omega (arith, n)) (λ k low below. begins_above (knot_at (knots_of nodes) k).prefix p (let x = high k (omega (arith, le, low)) below in omega (arith, x, e))))

pub picked_next : (p : Cidr) (nodes : List Node) (i : ℕ) (node : Node) (old new : List ℕ) → i < length nodes → node ≡ slice_index_or nodes i node → old ≡ picked p (knots_of nodes) i →
    new ≡ old ++ cond (is_inside (cidr_of node.prefix) p) (node.id.0 ∷ []) [] → new ≡ picked p (knots_of nodes) (i + 1)
picked_next p nodes i node old new below is e f =
    let n = length-map nodes knot_of in
    let s : suc i ≡ i + 1 = omega arith in
    f ∙ (ap (λ xs. xs ++ cond (is_inside (cidr_of node.prefix) p) (node.id.0 ∷ []) []) e
    ∙ (ap (λ k. picked p (knots_of nodes) i ++ cond (is_inside k.prefix p) (k.net ∷ []) []) (sym (at_node nodes i node below is))
    ∙ (sym (picked_more p (knots_of nodes) i (omega (arith, n, below))) ∙ ap (picked p (knots_of nodes)) s)))

-- ---- the networks above

pub above_below : (nodes : List Node) (i : ℕ) (node : Node) → AreKnots (knots_of nodes) → i < length nodes → node ≡ slice_index_or nodes i node → IfSome node.above (λ at. at < length nodes)
above_below nodes i node tree below is =
    let n = length-map nodes knot_of in
    let own = (knot_at (knots_of nodes) i).prefix.net in
    let e : node.above ≡ last_holding (knots_of nodes) own i = ap (λ k. k.above) (sym (at_node nodes i node below is)) ∙ tree.linked i (omega (arith, n, below)) in
    wider node.above (last_within node.above (knots_of nodes) own i i e refl)
  where
    wider : (o : Option ℕ) → IfSome o (λ at. at < i) → IfSome o (λ at. at < length nodes)
    wider None h = tt
    wider (Some at) h = omega (arith, h, below)

pub net_at : (nodes : List Node) (i : ℕ) (node : Node) → i < length nodes → node ≡ slice_index_or nodes i node → node.id.0 ≡ (knot_at (knots_of nodes) i).net
net_at nodes i node below is = ap (λ k. k.net) (sym (at_node nodes i node below is))

pub assigned_next : (nodes : List Node) (i : ℕ) (node : Node) (q : ℕ) (old new : Option ℕ) → i < length nodes → node ≡ slice_index_or nodes i node → old ≡ assigned (knots_of nodes) q i →
    new ≡ cond (node.id.0 == q) (above_at (knots_of nodes) node.above old) old → new ≡ assigned (knots_of nodes) q (i + 1)
assigned_next nodes i node q old new below is e f =
    let s : suc i ≡ i + 1 = omega arith in
    let ks = knots_of nodes in
    f ∙ (ap (λ o. cond (node.id.0 == q) (above_at ks node.above o) o) e
    ∙ (ap (λ k. cond (k.net == q) (above_at ks k.above (assigned ks q i)) (assigned ks q i)) (sym (at_node nodes i node below is)) ∙ ap (assigned ks q) s))

-- ---- the place of an address

past_end : (nodes : List Node) (a end : ℕ) → end ≤ length nodes → ((k : ℕ) → end ≤ k → k < length nodes → a < (knot_at (knots_of nodes) k).prefix.net) → last_holding (knots_of nodes) a (length nodes) ≡ last_holding (knots_of nodes) a end
unfolding last_holding
past_end nodes a end le high =
    skipped (λ k. prefix_holds (knot_at (knots_of nodes) k).prefix a) end (length nodes) le
    (λ k low below. false_from_ne_true (prefix_holds (knot_at (knots_of nodes) k).prefix a) (λ t. let x = (holds_parts (knot_at (knots_of nodes) k).prefix a t).low in let y = high k low below in let z : ⊥ = omega (arith, x, y) in z))

pub found_place : (nodes : List Node) (a end at : ℕ) (node : Node) → end ≤ length nodes → ((k : ℕ) → end ≤ k → k < length nodes → a < (knot_at (knots_of nodes) k).prefix.net) → Some at ≡ last_holding (knots_of nodes) a end →
    at < length nodes → node ≡ slice_index_or nodes at node → Some node.id.0 ≡ option_map (λ i. (knot_at (knots_of nodes) i).net) (last_holding (knots_of nodes) a (length nodes))
found_place nodes a end at node le high e below is =
    ap (λ n. Some n) (net_at nodes at node below is) ∙ ap (option_map (λ i. (knot_at (knots_of nodes) i).net)) (e ∙ sym (past_end nodes a end le high))

pub no_place : (nodes : List Node) (a end : ℕ) → end ≤ length nodes → ((k : ℕ) → end ≤ k → k < length nodes → a < (knot_at (knots_of nodes) k).prefix.net) → None ≡ last_holding (knots_of nodes) a end →
    None ≡ option_map (λ i. (knot_at (knots_of nodes) i).net) (last_holding (knots_of nodes) a (length nodes))
no_place nodes a end le high e = ap (option_map (λ i. (knot_at (knots_of nodes) i).net)) (e ∙ sym (past_end nodes a end le high))
