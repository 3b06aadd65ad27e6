-- The rows of interfaces by their classes are the sets of those that share an address.
use Rattle.std.proofs.Common.{◌≡◌, ◌∙◌, refl, sym, ap, subst, ℕ, zero, suc, ◌+◌, ◌<◌, inl, inr, Bool, true, false, ◌&&◌, ◌||◌, cond, eqb, List, [], ◌∷◌, ◌++◌, length, map, filter, flat_map, get_or, take, position, Option, Some, None, is_some, arith}
use Rattle.std.specs.Prelude.{codes, option_map}
use Rattle.std.specs.List.{All, list_any, list_all, range_with_len}
use Rattle.std.proofs.lemmas.Bool.{and_parts, and_from, eqb-true, eq-eqb, ne_eqb, false≢true, false_from_ne_true}
use Rattle.std.proofs.lemmas.List.{length-map, get_or-map, take_more}
use Rattle.std.proofs.lemmas.List.Folds.{list_all-append, list_all-map}
use Rattle.spoc_base.specs.declared.place.Source.{Source}
use Rattle.policy_model.specs.Lists.{numbers_below}
use Rattle.policy_model.specs.Policy.{Policy, Iface, no_iface, iface_of, net_of, router_of, net_at, router_at, all_nets, all_ifaces}
use Rattle.policy_model.specs.Walks.{same_address, sharing_ifaces, sharers, begins_set, shared_sets}
use Rattle.policy_model.proofs.AllWalks.{IsIn, in_map}
use Rattle.list_laws.proofs.Members.{each_in, filter_same, from_filter, same_truth}
use Rattle.policy_decls.specs.Said.{or_zero, iface_name, implied_by, restrictions_implied}
use Rattle.list_laws.proofs.Tables.{from_flat_map}
use Rattle.decl_laws.proofs.Places.{at_in, in_range, map_flat_map, flat_map_same, flat_map_nothing}
use Rattle.decl_laws.proofs.Cuts.{place, place_passes, number_is_place}
use Rattle.spoc_base.specs.declared.place.Named.{Named}
use Rattle.spoc_base.specs.declared.ids.IfId.{IfId}
use Rattle.topology.specs.declared.items.Iface as memory
use Rattle.topology.specs.declared.items.Restriction.{Restriction}
use Rattle.topology.specs.Texts.{text_at, name_at, net_span, IsIfaceCalled}
use Rattle.topology.specs.Kept.{IsIfaceWritten, IsImpliedWritten}
use Rattle.topology.specs.Seen.{iface_seen, restriction_seen}
use Rattle.policy_build.specs.Rows.{owned_by, all_owned}
use Rattle.policy_build.specs.Sharing.{same_pair, is_keyed, class_of, GrowsTo, iface_keyed, iface_class, begun, begun_by}
use Rattle.policy_build.proofs.Grown.{flat_map_append, map_map}
use Rattle.policy_build.proofs.Faultless.{all_of}

-- ---- keys

keyed_still : (old new : List (ℕ × ℕ)) → GrowsTo old new → (net : ℕ) (o : Option ℕ) → is_keyed old net o ≡ true → is_keyed new net o ≡ true
keyed_still old new grows net None h = refl
keyed_still old new grows net (Some a) h = grows (net, a) h

all_still : (old new : List (ℕ × ℕ)) → GrowsTo old new → (xs : List memory.Iface) → list_all (iface_keyed old) xs ≡ true → list_all (iface_keyed new) xs ≡ true
all_still old new grows [] h = refl
all_still old new grows (x ∷ xs) h =
    let w = and_parts (iface_keyed old x) (list_all (iface_keyed old) xs) h in
    and_from (iface_keyed new x) (list_all (iface_keyed new) xs) (keyed_still old new grows x.net.0 _ w.0) (all_still old new grows xs w.1)

pub keyed_more : (old new : List (ℕ × ℕ)) (xs : List memory.Iface) (i : ℕ) (d : memory.Iface) → i < length xs → list_all (iface_keyed old) (take i xs) ≡ true → GrowsTo old new → iface_keyed new (get_or xs i d) ≡ true →
    list_all (iface_keyed new) (take (i + 1) xs) ≡ true
keyed_more old new xs i d below h grows own =
    ap (list_all (iface_keyed new)) (take_more xs i d below) ∙ list_all-append (iface_keyed new) (take i xs) (get_or xs i d ∷ [])
    ∙ and_from (list_all (iface_keyed new) (take i xs)) (iface_keyed new (get_or xs i d) && true) (all_still old new grows (take i xs) h)
    (and_from (iface_keyed new (get_or xs i d)) true own refl)

-- the place of a key that is there
record HasPlace (keys : List (ℕ × ℕ)) (k : ℕ × ℕ) : Type 0 where
  below : or_zero (position (same_pair k) keys) < length keys
  there : same_pair k (get_or keys (or_zero (position (same_pair k) keys)) k) ≡ true

has_place : (keys : List (ℕ × ℕ)) (k : ℕ × ℕ) → list_any (same_pair k) keys ≡ true → HasPlace keys k
has_place keys k h =
    let w = place_passes (same_pair k) keys k h in
    let e = number_is_place (same_pair k) keys k h in
    record { below = subst (λ (n : ℕ). n < length keys) (sym e) w.0; there = ap (λ n. same_pair k (get_or keys n k)) e ∙ w.1 }

-- ---- classes

class_below : (keys : List (ℕ × ℕ)) (net : ℕ) (o : Option ℕ) → is_keyed keys net o ≡ true → class_of keys net o < length keys + 1
class_below keys net None h = omega arith
class_below keys net (Some a) h = let w = (has_place keys (net, a) h).below in omega (arith, w)

pub classes_below : (keys : List (ℕ × ℕ)) (xs : List memory.Iface) → list_all (iface_keyed keys) xs ≡ true → All (λ c. c < length keys + 1) (map (iface_class keys) xs)
classes_below keys xs h k d below =
    each k d xs h below
  where
    each : (k d : ℕ) (xs : List memory.Iface) → list_all (iface_keyed keys) xs ≡ true → k < length (map (iface_class keys) xs) → get_or (map (iface_class keys) xs) k d < length keys + 1
    each k d [] h below = absurd (omega arith)
    each zero d (x ∷ xs) h below = class_below keys x.net.0 _ (and_parts (iface_keyed keys x) (list_all (iface_keyed keys) xs) h).0
    each (suc k) d (x ∷ xs) h below = each k d xs (and_parts (iface_keyed keys x) (list_all (iface_keyed keys) xs) h).1 (omega arith)

any_default : (keys : List (ℕ × ℕ)) (j : ℕ) → j < length keys → (d e : ℕ × ℕ) → get_or keys j d ≡ get_or keys j e
any_default [] j below d e = absurd (omega arith)
any_default (k ∷ keys) zero below d e = refl
any_default (k ∷ keys) (suc j) below d e = any_default keys j (omega arith) d e

one_item : (keys : List (ℕ × ℕ)) (i j : ℕ) → i ≡ j → j < length keys → (d e : ℕ × ℕ) → get_or keys i d ≡ get_or keys j e
one_item keys i j same below d e = ap (λ k. get_or keys k d) same ∙ any_default keys j below d e

same_class : (keys : List (ℕ × ℕ)) (n a m : ℕ) (o : Option ℕ) → is_keyed keys n (Some a) ≡ true → is_keyed keys m o ≡ true →
    eqb (class_of keys m o) (class_of keys n (Some a)) ≡ (is_some o && (eqb m n && same_address o (Some a)))
same_class keys n a m None h g = let w = (has_place keys (n, a) h).below in ne_eqb (length keys) _ (λ e. omega (arith, e, w))
same_class keys n a m (Some b) h g = same_truth _ _ onward back
  where
    onward : eqb (class_of keys m (Some b)) (class_of keys n (Some a)) ≡ true → (eqb m n && eqb b a) ≡ true
    onward e =
        let v = has_place keys (n, a) h in
        let w = has_place keys (m, b) g in
        let same = eqb-true (class_of keys m (Some b)) (class_of keys n (Some a)) e in
        pairs (m, b) (n, a) (get_or keys (class_of keys m (Some b)) (m, b)) (get_or keys (class_of keys n (Some a)) (n, a)) w.there v.there
        (one_item keys (class_of keys m (Some b)) (class_of keys n (Some a)) same v.below (m, b) (n, a))
      where
        pairs : (p q x y : ℕ × ℕ) → same_pair p x ≡ true → same_pair q y ≡ true → x ≡ y → (eqb p.0 q.0 && eqb p.1 q.1) ≡ true
        pairs p q x y h g e =
            let v = and_parts (eqb p.0 x.0) (eqb p.1 x.1) h in
            let w = and_parts (eqb q.0 y.0) (eqb q.1 y.1) g in
            and_from (eqb p.0 q.0) (eqb p.1 q.1)
            (eq-eqb p.0 q.0 (eqb-true p.0 x.0 v.0 ∙ ap (λ (k : ℕ × ℕ). k.0) e ∙ sym (eqb-true q.0 y.0 w.0)))
            (eq-eqb p.1 q.1 (eqb-true p.1 x.1 v.1 ∙ ap (λ (k : ℕ × ℕ). k.1) e ∙ sym (eqb-true q.1 y.1 w.1)))

    back : (eqb m n && eqb b a) ≡ true → eqb (class_of keys m (Some b)) (class_of keys n (Some a)) ≡ true
    back e =
        let v = and_parts (eqb m n) (eqb b a) e in
        let nets = eqb-true m n v.0 in
        let addresses = eqb-true b a v.1 in
        eq-eqb _ _ (ap (λ k. class_of keys k (Some b)) nets ∙ ap (λ k. class_of keys n (Some k)) addresses)

fused : (p q : ℕ → Bool) (xs : List ℕ) → filter p (filter q xs) ≡ filter (λ x. q x && p x) xs
fused p q [] = refl
fused p q (x ∷ xs) = by (q x) (fused p q xs)
  where
    by : (b : Bool) → filter p (filter q xs) ≡ filter (λ x. q x && p x) xs → filter p (cond b (x ∷ filter q xs) (filter q xs)) ≡ cond (b && p x) (x ∷ filter (λ x. q x && p x) xs) (filter (λ x. q x && p x) xs)
    by true e = ap (λ l. cond (p x) (x ∷ l) l) e
    by false e = e

module _ (p : Policy) (keys : List (ℕ × ℕ)) (keyed : list_all (λ (x : Iface). is_keyed keys x.net x.shared) p.ifaces ≡ true) where
  keyed_at : (j : ℕ) → j < length p.ifaces → is_keyed keys (net_at p j) (iface_of p j).shared ≡ true
  keyed_at j below = each_in (λ (x : Iface). is_keyed keys x.net x.shared) p.ifaces keyed (iface_of p j) (at_in p.ifaces j no_iface below)

  module _ (classes : List ℕ) (is : classes ≡ map (λ (x : Iface). class_of keys x.net x.shared) p.ifaces) where
    many : length classes ≡ length p.ifaces
    many = ap length is ∙ length-map p.ifaces (λ (x : Iface). class_of keys x.net x.shared)

    class_at : (j : ℕ) → j < length p.ifaces → get_or classes j 0 ≡ class_of keys (net_at p j) (iface_of p j).shared
    class_at j below = ap (λ l. get_or l j 0) is ∙ get_or-map (λ (x : Iface). class_of keys x.net x.shared) p.ifaces j no_iface 0 below

    of_class : (n : ℕ) (o : Option ℕ) → is_some o ≡ true → is_keyed keys n o ≡ true →
        filter (λ j. eqb (get_or classes j 0) (class_of keys n o)) (numbers_below (length classes)) ≡ filter (λ j. eqb (net_at p j) n && same_address (iface_of p j).shared o) (sharing_ifaces p)
    of_class n None some own = absurd (false≢true some)
    of_class n (Some a) some own =
        ap (λ k. filter (λ j. eqb (get_or classes j 0) (class_of keys n (Some a))) (numbers_below k)) many
        ∙ filter_same (λ j. eqb (get_or classes j 0) (class_of keys n (Some a))) (λ j. is_some (iface_of p j).shared && (eqb (net_at p j) n && same_address (iface_of p j).shared (Some a))) (all_ifaces p)
        (λ j h. let low = in_range 0 (length p.ifaces) j h in
        let below : j < length p.ifaces = omega (arith, low) in
        ap (λ c. eqb c (class_of keys n (Some a))) (class_at j below) ∙ same_class keys n a (net_at p j) (iface_of p j).shared own (keyed_at j below))
        ∙ sym (fused (λ j. eqb (net_at p j) n && same_address (iface_of p j).shared (Some a)) (λ j. is_some (iface_of p j).shared) (all_ifaces p))

    pub owned_is : (i : ℕ) → i < length p.ifaces → is_some (iface_of p i).shared ≡ true → owned_by classes (get_or classes i 0) ≡ sharers p i
    owned_is i below some = ap (owned_by classes) (class_at i below) ∙ of_class (net_at p i) (iface_of p i).shared some (keyed_at i below)

-- ---- none that share

filter_none : (test : ℕ → Bool) (xs : List ℕ) → ((x : ℕ) → IsIn x xs → test x ≡ false) → filter test xs ≡ []
filter_none test [] h = refl
filter_none test (x ∷ xs) h = ap (λ b. cond b (x ∷ filter test xs) (filter test xs)) (h x (inl refl)) ∙ filter_none test xs (λ y g. h y (inr g))

unshared : (n : ℕ) (o : Option ℕ) → is_keyed [] n o ≡ true → is_some o ≡ false
unshared n None h = refl
unshared n (Some a) h = absurd (false≢true h)

pub none_implied : (p : Policy) → list_all (λ (x : Iface). is_keyed [] x.net x.shared) p.ifaces ≡ true → restrictions_implied p ≡ []
none_implied p keyed =
    let none : sharing_ifaces p ≡ [] =
    filter_none (λ i. is_some (iface_of p i).shared) (all_ifaces p) (λ i h. let low = in_range 0 (length p.ifaces) i h in unshared (net_at p i) (iface_of p i).shared (keyed_at p [] keyed i (omega (arith, low)))) in
    ap (map (implied_by p))
    (flat_map_nothing (λ n. map (sharers p) (filter (λ i. eqb (net_at p i) n && begins_set i (sharers p i)) (sharing_ifaces p)))
    (λ n. ap (λ xs. map (sharers p) (filter (λ i. eqb (net_at p i) n && begins_set i (sharers p i)) xs)) none) (all_nets p))

-- ---- each set where it begins

begun_is : (p : Policy) (i : ℕ) (b : Bool) → (is_some (iface_of p i).shared && begins_set i (sharers p i)) ≡ b → begun_by p i ≡ cond b (implied_by p (sharers p i) ∷ []) []
begun_is p i b e = ap (λ c. map (implied_by p) (cond c (sharers p i ∷ []) [])) e ∙ by b
  where
    by : (b : Bool) → map (implied_by p) (cond b (sharers p i ∷ []) []) ≡ cond b (implied_by p (sharers p i) ∷ []) []
    by true = refl
    by false = refl

pub begun_unshared : (p : Policy) (i : ℕ) → is_some (iface_of p i).shared ≡ false → begun_by p i ≡ []
begun_unshared p i e = begun_is p i false (ap (λ b. b && begins_set i (sharers p i)) e)

pub begun_later : (p : Policy) (i : ℕ) → is_some (iface_of p i).shared ≡ true → begins_set i (sharers p i) ≡ false → begun_by p i ≡ []
begun_later p i e f = begun_is p i false (ap (λ b. b && begins_set i (sharers p i)) e ∙ f)

pub begun_here : (p : Policy) (i : ℕ) → is_some (iface_of p i).shared ≡ true → begins_set i (sharers p i) ≡ true → begun_by p i ≡ implied_by p (sharers p i) ∷ []
begun_here p i e f = begun_is p i true (ap (λ b. b && begins_set i (sharers p i)) e ∙ f)

pub first_is : (i : ℕ) (xs : List ℕ) → begins_set i xs ≡ true → get_or xs 0 0 ≡ i
first_is i [] h = absurd (false≢true h)
first_is i (j ∷ []) h = absurd (false≢true h)
first_is i (j ∷ k ∷ rest) h = sym (eqb-true i j h)

-- of the interfaces at a network, those that begin a set, and the sets that each of them begins
kept_begun : (p : Policy) (test : ℕ → Bool) (xs : List ℕ) →
    map (implied_by p) (map (sharers p) (filter (λ i. is_some (iface_of p i).shared && (test i && begins_set i (sharers p i))) xs)) ≡ flat_map (begun_by p) (filter test xs)
kept_begun p test [] = refl
kept_begun p test (x ∷ xs) =
    by (filter (λ i. is_some (iface_of p i).shared && (test i && begins_set i (sharers p i))) xs) (test x) (is_some (iface_of p x).shared) (begins_set x (sharers p x)) refl refl (kept_begun p test xs)
  where
    by : (kept : List ℕ) (t s b : Bool) → is_some (iface_of p x).shared ≡ s → begins_set x (sharers p x) ≡ b → map (implied_by p) (map (sharers p) kept) ≡ flat_map (begun_by p) (filter test xs) →
        map (implied_by p) (map (sharers p) (cond (s && (t && b)) (x ∷ kept) kept)) ≡ flat_map (begun_by p) (cond t (x ∷ filter test xs) (filter test xs))
    by kept false true b e f later = later
    by kept false false b e f later = later
    by kept true true true e f later = ap (λ l. implied_by p (sharers p x) ∷ l) later ∙ ap (λ l. l ++ flat_map (begun_by p) (filter test xs)) (sym (begun_here p x e f))
    by kept true true false e f later = later ∙ ap (λ l. l ++ flat_map (begun_by p) (filter test xs)) (sym (begun_later p x e f))
    by kept true false b e f later = later ∙ ap (λ l. l ++ flat_map (begun_by p) (filter test xs)) (sym (begun_unshared p x e))

flat_flat : {A B C : Type 0} (f : B → List C) (g : A → List B) (xs : List A) → flat_map f (flat_map g xs) ≡ flat_map (λ x. flat_map f (g x)) xs
flat_flat f g [] = refl
flat_flat f g (x ∷ xs) = flat_map_append f (g x) (flat_map g xs) ∙ ap (λ l. flat_map f (g x) ++ l) (flat_flat f g xs)

module _ (p : Policy) where
  abbrev nets : List ℕ
  nets = map (λ (x : Iface). x.net) p.ifaces

  owned_nets : (n : ℕ) → owned_by nets n ≡ filter (λ i. eqb (net_at p i) n) (all_ifaces p)
  owned_nets n =
      ap (λ k. filter (λ i. eqb (get_or nets i 0) n) (numbers_below k)) (length-map p.ifaces (λ (x : Iface). x.net))
      ∙ filter_same (λ i. eqb (get_or nets i 0) n) (λ i. eqb (net_at p i) n) (all_ifaces p)
      (λ i h. let low = in_range 0 (length p.ifaces) i h in ap (λ k. eqb k n) (get_or-map (λ (x : Iface). x.net) p.ifaces i no_iface 0 (omega (arith, low))))

  at_net : (n : ℕ) → map (implied_by p) (map (sharers p) (filter (λ i. eqb (net_at p i) n && begins_set i (sharers p i)) (sharing_ifaces p))) ≡ flat_map (begun_by p) (owned_by nets n)
  at_net n =
      ap (λ l. map (implied_by p) (map (sharers p) l)) (fused (λ i. eqb (net_at p i) n && begins_set i (sharers p i)) (λ i. is_some (iface_of p i).shared) (all_ifaces p))
      ∙ kept_begun p (λ i. eqb (net_at p i) n) (all_ifaces p) ∙ ap (flat_map (begun_by p)) (sym (owned_nets n))

  -- the implied restrictions are those that each interface begins, in the order of networks
  pub implied_in_order : flat_map (begun_by p) (all_owned nets (length p.nets)) ≡ restrictions_implied p
  implied_in_order =
      flat_flat (begun_by p) (owned_by nets) (all_nets p) ∙ flat_map_same (λ n. flat_map (begun_by p) (owned_by nets n)) _ (λ n. sym (at_net n)) (all_nets p)
      ∙ sym (map_flat_map (implied_by p) (λ n. map (sharers p) (filter (λ i. eqb (net_at p i) n && begins_set i (sharers p i)) (sharing_ifaces p))) (all_nets p))

  pub owned_below : (i : ℕ) → IsIn i (all_owned nets (length p.nets)) → i < length p.ifaces
  owned_below i h =
      let w = from_flat_map (owned_by nets) i (all_nets p) h in
      let v = from_filter (λ k. eqb (get_or nets k 0) w.0) i (numbers_below (length nets)) w.2 in
      let low = in_range 0 (length nets) i v.0 in
      let many = length-map p.ifaces (λ (x : Iface). x.net) in
      omega (arith, low, many)

-- ---- interfaces in memory

pub some_mapped : {A B : Type 0} (f : A → B) (o : Option A) → is_some (option_map f o) ≡ is_some o
some_mapped f None = refl
some_mapped f (Some x) = refl

name_is : (sources : List Source) (router net : List ℕ) (named : Named) → IsIfaceCalled sources router net named → name_at sources named ≡ router ++ (codes "." ++ net)
name_is sources router net named c =
    ap (name_at sources) c.is ∙ ap (λ l. l ++ (codes "." ++ text_at sources (net_span named))) c.of_router ∙ ap (λ l. router ++ (codes "." ++ l)) c.at_net

module _ (sources : List Source) (p : Policy) (ifaces : List memory.Iface) (said : map (iface_seen sources) ifaces ≡ p.ifaces) where
  pub sizes : length ifaces ≡ length p.ifaces
  sizes = sym (length-map ifaces (iface_seen sources)) ∙ ap length said

  pub seen_at : (i : ℕ) (d : memory.Iface) → i < length ifaces → iface_of p i ≡ iface_seen sources (get_or ifaces i d)
  seen_at i d below = ap (λ l. get_or l i no_iface) (sym said) ∙ get_or-map (iface_seen sources) ifaces i d no_iface below

  pub order_below : (order : List IfId) → map (λ i. i.0) order ≡ all_owned (map (λ i. i.net.0) ifaces) (length p.nets) → All (λ i. i.0 < length ifaces) order
  order_below order is =
      let nets : map (λ (i : memory.Iface). i.net.0) ifaces ≡ map (λ (x : Iface). x.net) p.ifaces = sym (map_map (λ (x : Iface). x.net) (iface_seen sources) ifaces) ∙ ap (map (λ (x : Iface). x.net)) said in
      all_of (λ i. i.0 < length ifaces) order
      (λ i h. subst (λ n. i.0 < n) (sym sizes)
      (owned_below p i.0 (subst (λ l. IsIn i.0 l) (is ∙ ap (λ l. all_owned l (length p.nets)) nets) (in_map (λ (k : IfId). k.0) i order h))))

  pub in_order : (order : List IfId) → map (λ i. i.0) order ≡ all_owned (map (λ i. i.net.0) ifaces) (length p.nets) → flat_map (begun_by p) (map (λ i. i.0) order) ≡ restrictions_implied p
  in_order order is =
      let nets : map (λ (i : memory.Iface). i.net.0) ifaces ≡ map (λ (x : Iface). x.net) p.ifaces = sym (map_map (λ (x : Iface). x.net) (iface_seen sources) ifaces) ∙ ap (map (λ (x : Iface). x.net)) said in
      ap (flat_map (begun_by p)) (is ∙ ap (λ l. all_owned l (length p.nets)) nets) ∙ implied_in_order p

  pub keyed_said : (keys : List (ℕ × ℕ)) → list_all (iface_keyed keys) ifaces ≡ true → list_all (λ (x : Iface). is_keyed keys x.net x.shared) p.ifaces ≡ true
  keyed_said keys h = ap (list_all (λ (x : Iface). is_keyed keys x.net x.shared)) (sym said) ∙ list_all-map (λ (x : Iface). is_keyed keys x.net x.shared) (iface_seen sources) ifaces ∙ h

  pub classes_said : (keys : List (ℕ × ℕ)) (classes : List ℕ) → classes ≡ map (iface_class keys) ifaces → classes ≡ map (λ (x : Iface). class_of keys x.net x.shared) p.ifaces
  classes_said keys classes is =
      is ∙ sym (map_map (λ (x : Iface). class_of keys x.net x.shared) (iface_seen sources) ifaces) ∙ ap (map (λ (x : Iface). class_of keys x.net x.shared)) said

  -- without a key no interface shares an address
  pub none_said : (keys : List (ℕ × ℕ)) → length keys ≡ 0 → list_all (iface_keyed keys) ifaces ≡ true → restrictions_implied p ≡ []
  none_said [] e h = none_implied p (keyed_said [] h)
  none_said (k ∷ keys) e h = absurd (omega (arith, e))

  module _ (written : All (IsIfaceWritten sources p) ifaces) (i : ℕ) (d : memory.Iface) (below : i < length ifaces) where
    called_at : IsIfaceCalled sources (router_of p (router_at p i)).name (net_of p (net_at p i)).name (get_or ifaces i d).name
    called_at = subst (λ (x : Iface). IsIfaceCalled sources (router_of p x.router).name (net_of p x.net).name (get_or ifaces i d).name) (sym (seen_at i d below)) (written i d below).0

    module _ (x : Restriction) (named : x.name ≡ (get_or ifaces i d).name) (set : map (λ m. m.0) x.members.now ≡ sharers p i) (begins : begins_set i (sharers p i) ≡ true) where
      pub restriction_is : restriction_seen sources x ≡ implied_by p (sharers p i)
      restriction_is =
          let name : name_at sources x.name ≡ iface_name p (get_or (sharers p i) 0 0) = ap (name_at sources) named ∙ name_is sources _ _ _ called_at ∙ ap (iface_name p) (sym (first_is i (sharers p i) begins)) in
          λ k. record { name = name k; members = set k }

      pub written_is : IsImpliedWritten sources p x
      written_is =
          let least : get_or (map (λ m. m.0) x.members.now) 0 0 ≡ i = ap (λ l. get_or l 0 0) set ∙ first_is i (sharers p i) begins in
          subst (λ n. IsIfaceCalled sources (router_of p (router_at p n)).name (net_of p (net_at p n)).name x.name) (sym least)
          (subst (λ n. IsIfaceCalled sources (router_of p (router_at p i)).name (net_of p (net_at p i)).name n) (sym named) called_at)
