-- A table of prefixes as the items of a tree.
use Rattle.std.proofs.Common.{◌≡◌, ℕ, ◌+◌, ◌<◌, ◌≤◌, inl, inr, Bool, true, false, cond, List, [], ◌∷◌, ◌++◌, length, map, refl, sym, ap, subst, ◌∙◌, ⊎_elim, arith}
use Rattle.std.specs.Prelude.{Option, Some, None, is_some, unwrap_or, nat_le, ◌&&◌, filter, IsTrue}
use Rattle.std.specs.List.{Contains, AllPairs}
use Rattle.std.proofs.lemmas.Bool.{and_parts, and_from, cases_lt, ltb-true, lt-ltb, le-leb, leb-true}
use Rattle.std.proofs.lemmas.List.{get_or-map, length-map, length_push, get_or_push, get_or_append_left}
use Rattle.std.proofs.lemmas.List.Kept.{AllPairs-filter}
use Rattle.std.proofs.lemmas.List.FromFn.{length-range_with_len, get_or-range_with_len, filter_of_map_range_with_len_more}
use Rattle.spoc_base.specs.Address.{Cidr, same_prefix, any_address}
use Rattle.policy_model.specs.Lists.{numbers_below}
use Rattle.policy_model.specs.Policy.{Policy, net_of}
use Rattle.policy_model.specs.Places.{prefix_in}
use Rattle.policy_model.specs.Faults.{are_one_prefix, is_same_prefix}
use Rattle.policy_model.proofs.AllWalks.{IsIn, in_map, in_filter, in_numbers}
use Rattle.list_laws.proofs.Members.{from_filter}
use Rattle.list_laws.proofs.Tables.{from_range}
use Rattle.topology.specs.Sound.{keeps_length}
use Rattle.subnet_tree.specs.Entries.{Entry, HaveDistinctNumbers, HaveDistinctPrefixes, IsLeastSame}
use Rattle.subnet_tree.specs.Refusals.{Refuses}
use Rattle.subnet_tree.specs.declared.fail.TreeFail.{TreeFail}
use Rattle.subnet_tree.specs.declared.fail.TreeFail.TheVariants.{Same, Memory}
use Rattle.subnet_tree.proofs.Longest.{contains_in, in_contains}
use Rattle.nat_view.specs.Seen.{AreLeastSame, AreApartIn}
use Rattle.nat_view.specs.Tables.{prefix_at, has_prefix, item_at, entry_if, entries_below, entries_of, ArePrefixes, ArePrefixesBelow, IsTable}
use Rattle.nat_view.specs.Shown.{RefusesTable}

-- ---- making

map_same : (xs : List ℕ) → map (λ n. n) xs ≡ xs
map_same [] = refl
map_same (x ∷ xs) = ap (λ ys. x ∷ ys) (map_same xs)

kept_more : (test : ℕ → Bool) (n : ℕ) → filter test (numbers_below (n + 1)) ≡ filter test (numbers_below n) ++ cond (test n) (n ∷ []) []
kept_more test n =
    ap (filter test) (sym (map_same (numbers_below (n + 1))))
    ∙ (filter_of_map_range_with_len_more test (λ k. k) 0 n n (omega arith) ∙ ap (λ xs. filter test xs ++ cond (test n) (n ∷ []) []) (map_same (numbers_below n)))

map_more : {A B : Type 0} (f : A → B) (xs ys : List A) → map f (xs ++ ys) ≡ map f xs ++ map f ys
map_more f [] ys = refl
map_more f (x ∷ xs) ys = ap (λ zs. f x ∷ zs) (map_more f xs ys)

one_entry : (n : ℕ) (o : Option Cidr) → map (λ k. let e : Entry = record { net = k; prefix = unwrap_or o any_address } in e) (cond (is_some o) (n ∷ []) []) ≡ entry_if n o
one_entry n None = refl
one_entry n (Some q) = refl

map_at : (f g : ℕ → Entry) (b : Bool) (n : ℕ) → f n ≡ g n → map f (cond b (n ∷ []) []) ≡ map g (cond b (n ∷ []) [])
map_at f g true n e = ap (λ y. y ∷ []) e
map_at f g false n e = refl

pub one_item_more : (seen : List (Option Cidr)) (n : ℕ) → entries_below seen (n + 1) ≡ entries_below seen n ++ entry_if n (prefix_at seen n)
one_item_more seen n =
    let kept = filter (has_prefix seen) (numbers_below n) in
    let o = prefix_at seen n in
    let g = λ (k : ℕ). let e : Entry = record { net = k; prefix = unwrap_or o any_address } in e in
    ap (map (item_at seen)) (kept_more (has_prefix seen) n)
    ∙ (map_more (item_at seen) kept (cond (is_some o) (n ∷ []) [])
    ∙ ap (λ es. map (item_at seen) kept ++ es) (map_at (item_at seen) g (is_some o) n refl ∙ one_entry n o))

pub one_prefix_more : (p : Policy) (tags : List ℕ) (seen : List (Option Cidr)) (o : Option Cidr) (n : ℕ) → ArePrefixesBelow p tags seen n → prefix_in p tags n ≡ o → IsTrue (keeps_length (net_of p n).own o) → ArePrefixesBelow p tags (seen ++ o ∷ []) (n + 1)
one_prefix_more p tags seen o n so_far is len =
    let each = so_far.each in
    let old : (k : ℕ) → k < n → prefix_at (seen ++ o ∷ []) k ≡ prefix_at seen k = λ k h. get_or_append_left seen (o ∷ []) None k (omega (arith, h, each)) in
    let new : prefix_at (seen ++ o ∷ []) n ≡ o = get_or_push seen o None n each in
    record {
      each = length_push seen o ∙ ap (λ k. k + 1) each;
      are = λ k h. ⊎_elim
          (λ (lt : k < n). so_far.are k lt ∙ sym (old k lt))
          (λ (le : n ≤ k). let e : k ≡ n = omega (arith, h, le) in ap (prefix_in p tags) e ∙ (is ∙ sym (ap (prefix_at (seen ++ o ∷ [])) e ∙ new)))
          (cases_lt k n);
      lengths = λ k h. ⊎_elim
          (λ (lt : k < n). subst (λ x. IsTrue (keeps_length (net_of p k).own x)) (sym (old k lt)) (so_far.lengths k lt))
          (λ (le : n ≤ k). let e : k ≡ n = omega (arith, h, le) in
          subst (λ x. IsTrue (keeps_length (net_of p k).own x)) (sym (ap (prefix_at (seen ++ o ∷ [])) e ∙ new)) (subst (λ j. IsTrue (keeps_length (net_of p j).own o)) (sym e) len))
          (cases_lt k n);
    }

-- ---- the items

some_is : {A : Type 0} (x y : A) → ◌≡◌ {A = Option A} (Some x) (Some y) → x ≡ y
some_is x y e = cc

its_prefix : (o : Option Cidr) → is_some o ≡ true → o ≡ Some (unwrap_or o any_address)
its_prefix None e = absurd (let z : ⊥ = cc in z)
its_prefix (Some q) e = refl

pub item_there : (seen : List (Option Cidr)) (n : ℕ) (q : Cidr) → n < length seen → prefix_at seen n ≡ Some q → Contains (entries_of seen) (record { net = n; prefix = q })
item_there seen n q below is =
    let there = in_filter (has_prefix seen) n (numbers_below (length seen)) (in_numbers (length seen) n below) (ap is_some is) in
    let same : ◌≡◌ {A = Entry} (item_at seen n) (record { net = n; prefix = q }) = ap (λ o. let e : Entry = record { net = n; prefix = unwrap_or o any_address } in e) is in
    in_contains (entries_of seen) (record { net = n; prefix = q }) (subst (λ e. IsIn e (entries_of seen)) same (in_map (item_at seen) n (filter (has_prefix seen) (numbers_below (length seen))) there))

pub record IsItem (seen : List (Option Cidr)) (e : Entry) : Type 0 where
  pub below : e.net < length seen
  pub is : prefix_at seen e.net ≡ Some e.prefix

from_map : (f : ℕ → Entry) (e : Entry) (xs : List ℕ) → IsIn e (map f xs) → (n : ℕ) × IsIn n xs × (e ≡ f n)
from_map f e [] h = absurd h
from_map f e (x ∷ xs) (inl h) = (x, inl refl, h)
from_map f e (x ∷ xs) (inr h) = let w = from_map f e xs h in (w.0, inr w.1, w.2)

pub item_of : (seen : List (Option Cidr)) (e : Entry) → Contains (entries_of seen) e → IsItem seen e
item_of seen e c =
    let w = from_map (item_at seen) e (filter (has_prefix seen) (numbers_below (length seen))) (contains_in (entries_of seen) e c) in
    let k = from_filter (has_prefix seen) w.0 (numbers_below (length seen)) w.1 in
    let low = from_range 0 (length seen) w.0 k.0 in
    subst (IsItem seen) (sym w.2) (record { below = omega (arith, low); is = its_prefix (prefix_at seen w.0) k.1 })

numbers_ascend : (n : ℕ) → AllPairs (λ a b. a < b) (numbers_below n)
numbers_ascend n = λ i j d lt below.
    let c = length-range_with_len 0 n in
    let jb : j < n = omega (arith, below, c) in
    let a = get_or-range_with_len 0 n i d (omega (arith, lt, jb)) in
    let b = get_or-range_with_len 0 n j d jb in
    omega (arith, lt, a, b)

pub items_are_distinct : (seen : List (Option Cidr)) → HaveDistinctNumbers (entries_of seen)
items_are_distinct seen = λ i j d lt below e.
    let kept = filter (has_prefix seen) (numbers_below (length seen)) in
    let c = length-map kept (item_at seen) in
    let jb : j < length kept = omega (arith, below, c) in
    let ib : i < length kept = omega (arith, lt, jb) in
    let order = AllPairs-filter (λ a b. a < b) (has_prefix seen) (numbers_below (length seen)) (numbers_ascend (length seen)) i j 0 lt jb in
    let a = ap (λ (x : Entry). x.net) (get_or-map (item_at seen) kept i 0 d ib) in
    let b = ap (λ (x : Entry). x.net) (get_or-map (item_at seen) kept j 0 d jb) in
    let z : ⊥ = omega (arith, order, a, b, e) in z

-- ---- equal prefixes

cidr_same : (p q : Cidr) → same_prefix p q ≡ true → p ≡ q
cidr_same p q h =
    let a = nat_le p.net q.net in
    let b = nat_le q.net p.net in
    let c = nat_le p.len q.len in
    let d = nat_le q.len p.len in
    let x = and_parts (a && b && c) d h in
    let y = and_parts (a && b) c x.0 in
    let z = and_parts a b y.0 in
    let u = leb-true p.net q.net z.0 in
    let v = leb-true q.net p.net z.1 in
    let w = leb-true p.len q.len y.1 in
    let t = leb-true q.len p.len x.1 in
    let nets : p.net ≡ q.net = omega (arith, u, v) in
    let lens : p.len ≡ q.len = omega (arith, w, t) in
    ap (λ n. let r : Cidr = record { net = n; len = p.len } in r) nets ∙ ap (λ n. let r : Cidr = record { net = q.net; len = n } in r) lens

one_is_same : (p : Cidr) → same_prefix p p ≡ true
one_is_same p =
    let net : nat_le p.net p.net ≡ true = le-leb p.net p.net (omega arith) in
    let len : nat_le p.len p.len ≡ true = le-leb p.len p.len (omega arith) in
    and_from _ _ (and_from _ _ (and_from _ _ net net) len) len

two_are_one : (a b : Option Cidr) → are_one_prefix a b ≡ true → (q : Cidr) × (a ≡ Some q) × (b ≡ Some q)
two_are_one (Some q) (Some r) e = (q, refl, ap (λ x. Some x) (sym (cidr_same q r e)))
two_are_one (Some q) None e = absurd (let z : ⊥ = cc in z)
two_are_one None b e = absurd (let z : ⊥ = cc in z)

one_is_one : (a b : Option Cidr) (q : Cidr) → a ≡ Some q → b ≡ Some q → are_one_prefix a b ≡ true
one_is_one a b q e f = ap (λ x. are_one_prefix x b) e ∙ (ap (are_one_prefix (Some q)) f ∙ one_is_same q)

-- two networks have this prefix, the first below the second
pub record ShareOne (seen : List (Option Cidr)) (n m : ℕ) : Type 0 where
  pub order : n < m
  pub prefix : Cidr
  pub first : prefix_at seen n ≡ Some prefix
  pub second : prefix_at seen m ≡ Some prefix

module _ (p : Policy) (tags : List ℕ) (seen : List (Option Cidr)) (prefixes : ArePrefixes p tags seen) where
  below_count : (n : ℕ) → n < length p.nets → n < length seen
  below_count n h = let e = prefixes.each in omega (arith, h, e)

  below_nets : (n : ℕ) → n < length seen → n < length p.nets
  below_nets n h = let e = prefixes.each in omega (arith, h, e)

  -- the test of the fault, on the table
  pub same_means : (n m : ℕ) → m < length p.nets → is_same_prefix p tags n m ≡ true → ShareOne seen n m
  same_means n m below h =
      let w = and_parts _ _ h in
      let lt = ltb-true n m w.0 in
      let one = two_are_one (prefix_in p tags n) (prefix_in p tags m) w.1 in
      record { order = lt; prefix = one.0; first = sym (prefixes.are n (omega (arith, lt, below))) ∙ one.1; second = sym (prefixes.are m below) ∙ one.2 }

  pub same_from : (n m : ℕ) → m < length p.nets → ShareOne seen n m → is_same_prefix p tags n m ≡ true
  same_from n m below one =
      let lt = one.order in
      and_from _ _ (lt-ltb n m lt)
      (one_is_one (prefix_in p tags n) (prefix_in p tags m) one.prefix (prefixes.are n (omega (arith, lt, below)) ∙ one.first) (prefixes.are m below ∙ one.second))

  pub least_same : (n m : ℕ) → IsLeastSame (entries_of seen) n m → AreLeastSame p tags n m
  least_same n m h =
      let a = item_of seen h.first h.first_there in
      let b = item_of seen h.second h.second_there in
      let fn = h.first_number in
      let sn = h.second_number in
      let below : m < length p.nets = below_nets m (subst (λ k. k < length seen) sn b.below) in
      let first : prefix_at seen n ≡ Some h.first.prefix = ap (prefix_at seen) (sym fn) ∙ a.is in
      let second : prefix_at seen m ≡ Some h.first.prefix = ap (prefix_at seen) (sym sn) ∙ (b.is ∙ ap (λ x. Some x) (sym h.same)) in
      record {
        there = below;
        same = same_from n m below (record { order = h.ascending; prefix = h.first.prefix; first = first; second = second });
        least = λ k l lb s.
            let w = same_means k l lb s in
            let lt = w.order in
            h.least (record { net = k; prefix = w.prefix }) (record { net = l; prefix = w.prefix })
            (item_there seen k w.prefix (below_count k (omega (arith, lt, lb))) w.first) (item_there seen l w.prefix (below_count l lb) w.second) lt refl;
      }

  pub refused : (items : List Entry) (fail : TreeFail) → items ≡ entries_of seen → Refuses items fail → RefusesTable p tags fail
  refused items (Same n m) e h = least_same n.0 m.0 (subst (λ es. IsLeastSame es n.0 m.0) e h)
  refused items Memory e h = tt

pub apart_in : (p : Policy) (tags : List ℕ) (seen : List (Option Cidr)) (items : List Entry) → IsTable p tags seen items → AreApartIn p tags
apart_in p tags seen items t = λ n m below s.
    let w = same_means p tags seen t.prefixes n m below s in
    let apart = subst HaveDistinctPrefixes t.items_are t.apart in
    let lt = w.order in
    let nb = below_count p tags seen t.prefixes n (omega (arith, lt, below)) in
    let same : n ≡ m = apart (record { net = n; prefix = w.prefix }) (record { net = m; prefix = w.prefix }) (item_there seen n w.prefix nb w.first) (item_there seen m w.prefix (below_count p tags seen t.prefixes m below) w.second) refl in
    let z : ⊥ = omega (arith, lt, same) in z
