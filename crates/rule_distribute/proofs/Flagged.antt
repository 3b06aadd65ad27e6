-- The pairs of a row, each with whether it is closed.
use Rattle.std.proofs.Common.{◌≡◌, ℕ, ◌<◌, Bool, true, false, cond, List, [], ◌∷◌, length, map, refl, sym, ap, subst, ◌∙◌, arith, slice_index_or}
use Rattle.std.specs.List.{All, AllPairs}
use Rattle.std.proofs.lemmas.List.{get_or-map, length-map}
use Rattle.policy_model.specs.Policy.{Policy}
use Rattle.policy_model.specs.Permits.{Permit}
use Rattle.closed_pairs.specs.Reaching as closing
use Rattle.closed_pairs.specs.Seen.{pair_seen}
use Rattle.closed_pairs.specs.declared.pairs.PairPermits.{PairPermits}
use Rattle.rule_distribute.specs.Pairs.{IsBefore}
use Rattle.rule_distribute.specs.Placed.{Pairs, row_at, HaveRows, AreLess, numbers_at, is_shut, told_closed}

head_is : {A : Type 0} (x y : A) (xs ys : List A) → ◌≡◌ {A = List A} (x ∷ xs) (y ∷ ys) → x ≡ y
head_is x y xs ys e = cc

tail_is : {A : Type 0} (x y : A) (xs ys : List A) → ◌≡◌ {A = List A} (x ∷ xs) (y ∷ ys) → xs ≡ ys
tail_is x y xs ys e = cc

abbrev marked : (ℕ → Bool) → ℕ → ℕ × Bool
marked f w = (w, f w)

zipped : (f : ℕ → Bool) (items : List (ℕ × Bool)) → map (λ e. e.1) items ≡ map f (map (λ e. e.0) items) → items ≡ map (marked f) (map (λ e. e.0) items)
zipped f [] h = refl
zipped f (x ∷ xs) h =
    let flags = map (λ (e : ℕ × Bool). e.1) xs in
    let named = map f (map (λ (e : ℕ × Bool). e.0) xs) in
    let first : x.1 ≡ f x.0 = head_is x.1 (f x.0) flags named h in
    let rest : flags ≡ named = tail_is x.1 (f x.0) flags named h in
    ap (λ (b : Bool). let p : ℕ × Bool = (x.0, b) in p ∷ xs) first ∙ ap (λ (ys : List (ℕ × Bool)). marked f x.0 ∷ ys) (zipped f xs rest)

map_map : {A B C : Type 0} (f : B → C) (g : A → B) (xs : List A) → map f (map g xs) ≡ map (λ x. f (g x)) xs
map_map f g [] = refl
map_map f g (x ∷ xs) = ap (λ ys. f (g x) ∷ ys) (map_map f g xs)

module _ (j : Pairs) (told : Bool) (row : List ℕ) (pairs : List PairPermits) (are : map pair_seen pairs ≡ map (numbers_at j told) row) where
  pub as_many : length pairs ≡ length row
  as_many = sym (length-map pairs pair_seen) ∙ (ap length are ∙ length-map row (numbers_at j told))

  at_place : (k : ℕ) (d : PairPermits) → k < length pairs → pair_seen (slice_index_or pairs k d) ≡ numbers_at j told (slice_index_or row k 0)
  at_place k d below =
      let other = numbers_at j told 0 in
      let there : k < length row = let n = as_many in omega (arith, below, n) in
      sym (get_or-map pair_seen pairs k d other below) ∙ (ap (λ xs. slice_index_or xs k other) are ∙ get_or-map (numbers_at j told) row k 0 other there)

  module _ (low : All (λ w. w < length j.pairs) row) where
    place_low : (k : ℕ) → k < length pairs → slice_index_or row k 0 < length j.pairs
    place_low k below = low k 0 (let n = as_many in omega (arith, below, n))

    pub are_below : (count : ℕ) → AreLess count j → All (λ e. closing.AreBelow count (pair_seen e)) pairs
    are_below count less = λ k d below. subst (closing.AreBelow count) (sym (at_place k d below)) (numbers_below_count (slice_index_or row k 0) (place_low k below))
      where
        mirrored_low : (w : ℕ) (b : Bool) → w < length j.pairs → All (λ k. k < count) (cond b (row_at j.replied w) [])
        mirrored_low w true h = less.replied w h
        mirrored_low w false h = λ k d below. absurd (let z : ⊥ = omega (arith, below) in z)

        numbers_below_count : (w : ℕ) → w < length j.pairs → closing.AreBelow count (numbers_at j told w)
        numbers_below_count w h = record { forward = less.forward w h; mirrored = mirrored_low w told h }

    pub are_there : (p : Policy) → HaveRows p j → All (λ e. closing.AreThere p (pair_seen e).pair) pairs
    are_there p rows = λ k d below.
        let w = slice_index_or row k 0 in
        let h = place_low k below in
        subst (λ (n : closing.PairNumbers). closing.AreThere p n.pair) (sym (at_place k d below)) (record { src = rows.src w h; dst = rows.dst w h })

    pub in_order : AllPairs IsBefore j.pairs → AllPairs (λ a b. a < b) row → AllPairs (λ a b. closing.IsBefore (pair_seen a).pair (pair_seen b).pair) pairs
    in_order order rising = λ a b d lt below.
        let x = slice_index_or row a 0 in
        let y = slice_index_or row b 0 in
        let first : a < length pairs = omega (arith, lt, below) in
        let step : closing.IsBefore (numbers_at j told x).pair (numbers_at j told y).pair = order x y (0, 0) (rising a b 0 lt (let n = as_many in omega (arith, below, n))) (place_low b below) in
        subst (λ (n : closing.PairNumbers). closing.IsBefore (pair_seen (slice_index_or pairs a d)).pair n.pair) (sym (at_place b d below))
        (subst (λ (n : closing.PairNumbers). closing.IsBefore n.pair (numbers_at j told y).pair) (sym (at_place a d first)) step)

  module _ (p : Policy) (view : List ℕ) (permits : List Permit) (flags : List Bool) (closed : flags ≡ map (λ e. closing.is_closed_among p view permits (map pair_seen pairs) (pair_seen e)) pairs) where
    flags_are : flags ≡ map (is_shut p view permits j told row) row
    flags_are =
        closed
        ∙ (sym (map_map (closing.is_closed_among p view permits (map pair_seen pairs)) pair_seen pairs)
        ∙ (ap (λ ns. map (closing.is_closed_among p view permits ns) ns) are ∙ map_map (closing.is_closed_among p view permits (map (numbers_at j told) row)) (numbers_at j told) row))

    pub flag_each : length flags ≡ length row
    flag_each = ap length flags_are ∙ length-map row (is_shut p view permits j told row)

    pub places_are : (items : List (ℕ × Bool)) → map (λ e. e.0) items ≡ row → map (λ e. e.1) items ≡ flags → items ≡ told_closed p view permits j told row
    places_are items e f =
        let shut = is_shut p view permits j told row in
        zipped shut items (f ∙ (flags_are ∙ ap (map shut) (sym e))) ∙ ap (map (marked shut)) e
