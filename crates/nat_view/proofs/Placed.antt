-- A tree of the prefixes answers as the view does.
use Rattle.std.proofs.Common.{◌≡◌, ℕ, zero, suc, ◌+◌, ◌<◌, inl, inr, Bool, true, false, cond, List, [], ◌∷◌, length, map, refl, sym, ap, ◌∙◌, arith}
use Rattle.std.specs.Prelude.{Option, Some, None, nat_lt, ◌&&◌, filter, option_map, is_some, unwrap_or}
use Rattle.std.specs.List.{fold, range_with_len}
use Rattle.std.specs.Option.{option_map_or}
use Rattle.std.proofs.lemmas.Bool.{le-ltb}
use Rattle.spoc_base.specs.Address.{Cidr, prefix_holds, is_inside, any_address}
use Rattle.policy_model.specs.Lists.{sorted_by, with_inserted}
use Rattle.policy_model.specs.Policy.{Policy, all_nets}
use Rattle.policy_model.specs.Places.{prefix_in, longest_by, holds_in, length_in, place}
use Rattle.policy_model.specs.Blocks.{is_part_of}
use Rattle.policy_model.proofs.AllWalks.{IsIn}
use Rattle.list_laws.proofs.Members.{from_filter, filter_same}
use Rattle.list_laws.proofs.Tables.{from_range}
use Rattle.list_laws.proofs.TableOrder.{from_range_low}
use Rattle.subnet_tree.specs.Entries.{Entry, longest, place_in, nets_inside}
use Rattle.nat_view.specs.Seen.{nets_within}
use Rattle.nat_view.specs.Tables.{prefix_at, has_prefix, item_at, entries_below, entries_of, IsTable, ArePrefixes}

-- ---- lists that are seen through a function

filter_map : {A B : Type 0} (test : B → Bool) (f : A → B) (xs : List A) → filter test (map f xs) ≡ map f (filter (λ x. test (f x)) xs)
filter_map test f [] = refl
filter_map test f (x ∷ xs) = ap (λ ys. cond (test (f x)) (f x ∷ ys) ys) (filter_map test f xs) ∙ at (test (f x))
  where
    at : (b : Bool) → cond b (f x ∷ map f (filter (λ x. test (f x)) xs)) (map f (filter (λ x. test (f x)) xs)) ≡ map f (cond b (x ∷ filter (λ x. test (f x)) xs) (filter (λ x. test (f x)) xs))
    at true = refl
    at false = refl

cond_map : {A B : Type 0} (f : A → B) (b : Bool) (x y : A) → cond b (f x) (f y) ≡ f (cond b x y)
cond_map f true x y = refl
cond_map f false x y = refl

abbrev best_of : {A : Type 0} → (A → ℕ) → A → List A → A
best_of len b xs = fold (λ best x. cond (nat_lt (len best) (len x)) x best) b xs

best_map : {A B : Type 0} (len : B → ℕ) (f : A → B) (b : A) (xs : List A) → best_of len (f b) (map f xs) ≡ f (best_of (λ x. len (f x)) b xs)
best_map len f b [] = refl
best_map len f b (x ∷ xs) =
    ap (λ y. best_of len y (map f xs)) (cond_map f (nat_lt (len (f b)) (len (f x))) x b) ∙ best_map len f (cond (nat_lt (len (f b)) (len (f x))) x b) xs

longest_map : {A B : Type 0} (len : B → ℕ) (f : A → B) (xs : List A) → longest_by len (map f xs) ≡ option_map f (longest_by (λ x. len (f x)) xs)
longest_map len f [] = refl
longest_map len f (x ∷ xs) = ap (λ y. Some y) (best_map len f x xs)

best_same : {A : Type 0} (f g : A → ℕ) (b : A) (xs : List A) → f b ≡ g b → ((x : A) → IsIn x xs → f x ≡ g x) → best_of f b xs ≡ best_of g b xs
best_same f g b [] e same = refl
best_same f g b (x ∷ xs) e same =
    let s = same x (inl refl) in
    let t = ap (λ n. nat_lt n (f x)) e ∙ ap (λ n. nat_lt (g b) n) s in
    ap (λ c. best_of f (cond c x b) xs) t ∙ best_same f g (cond (nat_lt (g b) (g x)) x b) xs (at (nat_lt (g b) (g x)) e s) (λ y h. same y (inr h))
  where
    at : (c : Bool) → f b ≡ g b → f x ≡ g x → f (cond c x b) ≡ g (cond c x b)
    at true e s = s
    at false e s = e

longest_same : {A : Type 0} (f g : A → ℕ) (xs : List A) → ((x : A) → IsIn x xs → f x ≡ g x) → longest_by f xs ≡ longest_by g xs
longest_same f g [] same = refl
longest_same f g (x ∷ xs) same = ap (λ y. Some y) (best_same f g x xs (same x (inl refl)) (λ y h. same y (inr h)))

option_map_twice : (seen : List (Option Cidr)) (o : Option ℕ) → option_map (λ (e : Entry). e.net) (option_map (item_at seen) o) ≡ o
option_map_twice seen None = refl
option_map_twice seen (Some n) = refl

map_twice : (seen : List (Option Cidr)) (xs : List ℕ) → map (λ (e : Entry). e.net) (map (item_at seen) xs) ≡ xs
map_twice seen [] = refl
map_twice seen (x ∷ xs) = ap (λ ys. x ∷ ys) (map_twice seen xs)

filter_twice : (p q : ℕ → Bool) (xs : List ℕ) → filter p (filter q xs) ≡ filter (λ x. q x && p x) xs
filter_twice p q [] = refl
filter_twice p q (x ∷ xs) = at (q x) (filter_twice p q xs)
  where
    at : (b : Bool) → filter p (filter q xs) ≡ filter (λ y. q y && p y) xs → filter p (cond b (x ∷ filter q xs) (filter q xs)) ≡ cond (b && p x) (x ∷ filter (λ y. q y && p y) xs) (filter (λ y. q y && p y) xs)
    at true ih = ap (λ ys. cond (p x) (x ∷ ys) ys) ih
    at false ih = ih

-- ---- a prefix that may not be there

holds_if : (o : Option Cidr) (a : ℕ) → (is_some o && prefix_holds (unwrap_or o any_address) a) ≡ option_map_or (λ q. prefix_holds q a) o false
holds_if None a = refl
holds_if (Some q) a = refl

length_if : (o : Option Cidr) → (unwrap_or o any_address).len ≡ option_map_or (λ (q : Cidr). q.len) o 0
length_if None = refl
length_if (Some q) = refl

inside_if : (o : Option Cidr) (outer : Cidr) → (is_some o && is_inside (unwrap_or o any_address) outer) ≡ is_part_of o (Some outer)
inside_if None outer = refl
inside_if (Some q) outer = refl

-- ---- sorted already

inserted_first : (x : ℕ) (ys : List ℕ) → ((y : ℕ) → IsIn y ys → x < y) → with_inserted nat_lt x ys ≡ x ∷ ys
inserted_first x [] h = refl
inserted_first x (y ∷ ys) h = let lt = h y (inl refl) in ap (λ b. cond b (y ∷ with_inserted nat_lt x ys) (x ∷ y ∷ ys)) (le-ltb y x (omega (arith, lt)))

in_order : (test : ℕ → Bool) (a n : ℕ) → sorted_by nat_lt (filter test (range_with_len a n)) ≡ filter test (range_with_len a n)
in_order test a zero = refl
in_order test a (suc n) = at (test a) (in_order test (a + 1) n) (λ y h. let w = from_filter test y (range_with_len (a + 1) n) h in let low = from_range_low (a + 1) n y w.0 in omega (arith, low))
  where
    at : (b : Bool) → sorted_by nat_lt (filter test (range_with_len (a + 1) n)) ≡ filter test (range_with_len (a + 1) n) → ((y : ℕ) → IsIn y (filter test (range_with_len (a + 1) n)) → a < y) →
        sorted_by nat_lt (cond b (a ∷ filter test (range_with_len (a + 1) n)) (filter test (range_with_len (a + 1) n))) ≡ cond b (a ∷ filter test (range_with_len (a + 1) n)) (filter test (range_with_len (a + 1) n))
    at true ih low = ap (λ ys. with_inserted nat_lt a ys) ih ∙ inserted_first a (filter test (range_with_len (a + 1) n)) low
    at false ih low = ih

-- ---- the answers

module _ (p : Policy) (tags : List ℕ) (seen : List (Option Cidr)) (prefixes : ArePrefixes p tags seen) where
  below : (n : ℕ) → IsIn n (all_nets p) → n < length p.nets
  below n h = let b = from_range 0 (length p.nets) n h in omega (arith, b)

  entries_are : entries_of seen ≡ entries_below seen (length p.nets)
  entries_are = ap (entries_below seen) prefixes.each

  holds_same : (a n : ℕ) → IsIn n (all_nets p) → (has_prefix seen n && prefix_holds (item_at seen n).prefix a) ≡ holds_in p tags n a
  holds_same a n h = holds_if (prefix_at seen n) a ∙ ap (λ o. option_map_or (λ q. prefix_holds q a) o false) (sym (prefixes.are n (below n h)))

  length_same : (n : ℕ) → IsIn n (all_nets p) → (item_at seen n).prefix.len ≡ length_in p tags n
  length_same n h = length_if (prefix_at seen n) ∙ ap (λ o. option_map_or (λ (q : Cidr). q.len) o 0) (sym (prefixes.are n (below n h)))

  inside_same : (outer : Cidr) (n : ℕ) → IsIn n (all_nets p) → (has_prefix seen n && is_inside (item_at seen n).prefix outer) ≡ is_part_of (prefix_in p tags n) (Some outer)
  inside_same outer n h = inside_if (prefix_at seen n) outer ∙ ap (λ o. is_part_of o (Some outer)) (sym (prefixes.are n (below n h)))

  place_is : (a : ℕ) → place_in (entries_below seen (length p.nets)) a ≡ place p tags a
  place_is a =
      let holds = λ (n : ℕ). prefix_holds (item_at seen n).prefix a in
      let there = filter (has_prefix seen) (all_nets p) in
      let kept = filter (λ n. holds_in p tags n a) (all_nets p) in
      ap longest (filter_map (λ e. prefix_holds e.prefix a) (item_at seen) there)
      ∙ (ap (λ xs. longest (map (item_at seen) xs)) (filter_twice holds (has_prefix seen) (all_nets p) ∙ filter_same (λ n. has_prefix seen n && holds n) (λ n. holds_in p tags n a) (all_nets p) (holds_same a))
      ∙ (ap (option_map (λ (e : Entry). e.net)) (longest_map (λ e. e.prefix.len) (item_at seen) kept)
      ∙ (option_map_twice seen (longest_by (λ n. (item_at seen n).prefix.len) kept)
      ∙ longest_same (λ n. (item_at seen n).prefix.len) (length_in p tags) kept (λ n h. length_same n (from_filter (λ k. holds_in p tags k a) n (all_nets p) h).0))))

  inside_is : (outer : Cidr) → nets_inside (entries_below seen (length p.nets)) outer ≡ nets_within p tags outer
  inside_is outer =
      let test = λ (n : ℕ). is_inside (item_at seen n).prefix outer in
      let there = filter (has_prefix seen) (all_nets p) in
      let part = λ (n : ℕ). is_part_of (prefix_in p tags n) (Some outer) in
      ap (λ es. sorted_by nat_lt (map (λ (e : Entry). e.net) es)) (filter_map (λ e. is_inside e.prefix outer) (item_at seen) there)
      ∙ (ap (sorted_by nat_lt) (map_twice seen (filter test there) ∙ (filter_twice test (has_prefix seen) (all_nets p) ∙ filter_same (λ n. has_prefix seen n && test n) part (all_nets p) (inside_same outer)))
      ∙ in_order part 0 (length p.nets))

pub placed : (p : Policy) (tags : List ℕ) (seen : List (Option Cidr)) (items : List Entry) (a : ℕ) → IsTable p tags seen items → place_in items a ≡ place p tags a
placed p tags seen items a t = ap (λ es. place_in es a) (t.items_are ∙ entries_are p tags seen t.prefixes) ∙ place_is p tags seen t.prefixes a

pub within : (p : Policy) (tags : List ℕ) (seen : List (Option Cidr)) (items : List Entry) (outer : Cidr) → IsTable p tags seen items → nets_inside items outer ≡ nets_within p tags outer
within p tags seen items outer t = ap (λ es. nets_inside es outer) (t.items_are ∙ entries_are p tags seen t.prefixes) ∙ inside_is p tags seen t.prefixes outer
