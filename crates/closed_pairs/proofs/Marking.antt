-- Flags that are set pair by pair.
use Rattle.std.proofs.Common.{◌≡◌, ◌≢◌, ℕ, ◌+◌, ◌<◌, ◌≤◌, inl, inr, Bool, true, false, ◌&&◌, ◌||◌, List, [], ◌∷◌, ◌++◌, length, map, take, drop, set, append-nil, refl, sym, ap, subst, ◌∙◌, ⊎_elim, arith}
use Rattle.std.specs.Prelude.{filter, slice_index_or}
use Rattle.std.specs.List.{All, AllPairs, Contains, list_any}
use Rattle.std.proofs.Math.Bool.{or-false}
use Rattle.std.proofs.lemmas.Bool.{cases_Bool, cases_lt, cases_eq, and_parts, and_from, eqb-true, eq-eqb, false≢true}
use Rattle.std.proofs.lemmas.List.{length-map, length-set, map_push, take_more, take_all, drop_all, get_or-map, get_or-set_other, ext_get_or}
use Rattle.std.proofs.lemmas.List.Elements.{All-get_or}
use Rattle.std.proofs.lemmas.List.Folds.{list_any-append}
use Rattle.std.proofs.lemmas.Map.Views.{any-filter_same}
use Rattle.std.proofs.lemmas.Grind.{get_or-set_at}
use Rattle.policy_model.specs.Lists.{pairs_of}
use Rattle.policy_model.specs.Policy.{Policy, all_nets}
use Rattle.policy_model.specs.Permits.{Permit}
use Rattle.policy_model.specs.Blocks.{NetPair, all_pairs}
use Rattle.policy_model.proofs.AllWalks.{in_map, in_numbers, in_pairs}
use Rattle.list_laws.proofs.Members.{some_of}
use Rattle.permit_lines.specs.Pieces.{numbered_lines}
use Rattle.spoc_base.specs.declared.ids.NetId.{NetId}
use Rattle.closed_pairs.specs.declared.pairs.PairPermits.{PairPermits}
use Rattle.closed_pairs.specs.Seen.{pair_seen, nets_seen}
use Rattle.closed_pairs.specs.Reaching.{PairNumbers, AreThere, IsBefore, reaches_pair, encloses_in, is_closed_among}
use Rattle.closed_pairs.specs.Flags.{enters, same_nets, key_of, no_pair, numbers_at, flag_at, AreMarked, AreFlags}

-- ---- tests

stays_out : (x s r : Bool) → s ≡ false → x ≡ (x || (s && r))
stays_out true s r e = refl
stays_out false true r e = absurd (false≢true (sym e))
stays_out false false r e = refl

stays_set : (x y : Bool) → x ≡ true → x ≡ (x || y)
stays_set true y e = refl
stays_set false y e = absurd (false≢true e)

stays_idle : (x t r : Bool) → r ≡ false → x ≡ (x || (t && r))
stays_idle true t r e = refl
stays_idle false true r e = sym e
stays_idle false false r e = refl

now_set : (x s r q : Bool) → x ≡ false → s ≡ true → r ≡ q → r ≡ (x || (s && q))
now_set true s r q e f g = absurd (false≢true (sym e))
now_set false true r q e f g = g
now_set false false r q e f g = absurd (false≢true f)

joined : (a s t r : Bool) → ((a || (s && r)) || (t && r)) ≡ (a || ((s || t) && r))
joined true s t r = refl
joined false true t true = refl
joined false true true false = refl
joined false true false false = refl
joined false false t r = refl

and_true : (b : Bool) → (b && true) ≡ b
and_true true = refl
and_true false = refl

-- what is written over all of a list is there
written : (len : ℕ) (new old : List Bool) → length new ≡ length old → len ≡ length old → take len (new ++ drop (length new) old) ≡ new
written len new old e f =
    ap (λ n. take len (new ++ drop n old)) e ∙ (ap (λ xs. take len (new ++ xs)) (drop_all (length old) old (omega arith)) ∙ (ap (take len) (append-nil new) ∙ take_all len new (omega (arith, e, f))))

any_more : {A : Type 0} (f : A → Bool) (xs : List A) (y : A) → list_any f (xs ++ y ∷ []) ≡ (list_any f xs || f y)
any_more f xs y = list_any-append f xs (y ∷ []) ∙ ap (λ b. list_any f xs || b) (or-false (f y))

-- ---- pairs by their networks

same_pair : (x e : NetPair) → same_nets x e ≡ true → x ≡ e
same_pair x e h =
    let w = and_parts _ _ h in
    ap (λ (n : ℕ). let r : NetPair = record { src = n; dst = x.dst } in r) (eqb-true x.src e.src w.0)
    ∙ ap (λ (n : ℕ). let r : NetPair = record { src = e.src; dst = n } in r) (eqb-true x.dst e.dst w.1)

same_from : (x e : NetPair) → x.src ≡ e.src → x.dst ≡ e.dst → same_nets x e ≡ true
same_from x e f g = and_from _ _ (eq-eqb x.src e.src f) (eq-eqb x.dst e.dst g)

before_differs : (a b : NetPair) → IsBefore a b → a.src ≡ b.src → a.dst ≡ b.dst → ⊥
before_differs a b (inl lt) e f = omega (arith, lt, e)
before_differs a b (inr h) e f = let lt = h.1 in omega (arith, lt, f)

-- two pairs at different places differ
once : (ps : List PairNumbers) → AllPairs (λ a b. IsBefore a.pair b.pair) ps → (j k : ℕ) → j < length ps → k < length ps → j ≢ k → (numbers_at ps j).pair.src ≡ (numbers_at ps k).pair.src →
    (numbers_at ps j).pair.dst ≡ (numbers_at ps k).pair.dst → ⊥
once ps order j k hj hk differ e f =
    ⊎_elim (λ (lt : j < k). before_differs (numbers_at ps j).pair (numbers_at ps k).pair (order j k no_pair lt hk) e f)
    (λ (ge : k ≤ j). before_differs (numbers_at ps k).pair (numbers_at ps j).pair (order k j no_pair (omega (arith, ge, differ)) hj) (sym e) (sym f))
    (cases_lt j k)

pub at_index : {A B : Type 0} (f : A → B) (P : B → Type 0) (xs : List A) (k : ℕ) (d : A) → k < length xs → All P (map f xs) → P (f (slice_index_or xs k d))
at_index f P xs k d below all =
    let n = length-map xs f in
    let x = slice_index_or xs k d in
    subst P (get_or-map f xs k d (f x) below) (All-get_or P (map f xs) k (f x) (omega (arith, below, n)) all)

taken_more : {A B : Type 0} (f : A → B) (xs : List A) (k : ℕ) (d : A) → k < length xs → map f (take (k + 1) xs) ≡ map f (take k xs) ++ f (slice_index_or xs k d) ∷ []
taken_more f xs k d below = ap (map f) (take_more xs k d below) ∙ map_push f (take k xs) (slice_index_or xs k d)

-- a place among the keys is one among the pairs
pub record IsPlaceOf (ps : List PairNumbers) (k : ℕ) (key : ℕ × ℕ) : Type 0 where
  pub there : k < length ps
  pub is : key_of (numbers_at ps k) ≡ key

pub place_is : (ps : List PairNumbers) (keys : List (ℕ × ℕ)) (k : ℕ) (key : ℕ × ℕ) → keys ≡ map key_of ps → k < length keys → slice_index_or keys k (0, 0) ≡ key → IsPlaceOf ps k key
place_is ps keys k key e below is =
    let n = length-map ps key_of in
    let m = ap length e in
    let there : k < length ps = omega (arith, below, n, m) in
    record { there = there; is = sym (get_or-map key_of ps k no_pair (0, 0) there) ∙ (ap (λ ks. slice_index_or ks k (0, 0)) (sym e) ∙ is) }

pub reached_at : (R : PairNumbers → Bool) (pairs : List PairPermits) (k : ℕ) (d : PairPermits) (r : Bool) → k < length (map pair_seen pairs) → r ≡ R (pair_seen (slice_index_or pairs k d)) → r ≡ R (numbers_at (map pair_seen pairs) k)
reached_at R pairs k d r below is = let n = length-map pairs pair_seen in is ∙ ap R (sym (get_or-map pair_seen pairs k d no_pair (omega (arith, below, n))))

-- ---- one pair

module _ (ps : List PairNumbers) (R : PairNumbers → Bool) (inner : NetPair) (flags : List Bool) where
  pub mark_none : (Contains (map key_of ps) (inner.src, inner.dst) → ⊥) → AreMarked (λ e. same_nets inner e.pair && R e) ps flags flags
  mark_none none =
      record { each = refl; are = λ b h. stays_out (flag_at flags b) (same_nets inner (numbers_at ps b).pair) (R (numbers_at ps b)) (⊎_elim (λ t. absurd (none (there b h t))) (λ f. f) (cases_Bool (same_nets inner (numbers_at ps b).pair))) }
    where
      there : (b : ℕ) → b < length ps → same_nets inner (numbers_at ps b).pair ≡ true → Contains (map key_of ps) (inner.src, inner.dst)
      there b h t =
          let n = length-map ps key_of in
          let same : key_of (numbers_at ps b) ≡ (inner.src, inner.dst) = ap (λ (x : NetPair). let r : ℕ × ℕ = (x.src, x.dst) in r) (sym (same_pair inner (numbers_at ps b).pair t)) in
          (b, omega (arith, h, n), get_or-map key_of ps b no_pair (inner.src, inner.dst) h ∙ same)

  module _ (order : AllPairs (λ a b. IsBefore a.pair b.pair) ps) (k : ℕ) (at : IsPlaceOf ps k (inner.src, inner.dst)) where
    there : k < length ps
    there = at.there

    is : key_of (numbers_at ps k) ≡ (inner.src, inner.dst)
    is = at.is

    differs : (b : ℕ) → b < length ps → b ≢ k → same_nets inner (numbers_at ps b).pair ≡ false
    differs b h ne =
        ⊎_elim
        (λ t. let e = same_pair inner (numbers_at ps b).pair t in
        absurd (once ps order b k h there ne (sym (ap (λ (x : NetPair). x.src) e) ∙ sym (ap (λ (x : ℕ × ℕ). x.0) is)) (sym (ap (λ (x : NetPair). x.dst) e) ∙ sym (ap (λ (x : ℕ × ℕ). x.1) is))))
        (λ f. f) (cases_Bool (same_nets inner (numbers_at ps b).pair))

    pub mark_kept : flag_at flags k ≡ true → AreMarked (λ e. same_nets inner e.pair && R e) ps flags flags
    mark_kept set = record { each = refl; are = are }
      where
        are : (b : ℕ) → b < length ps → flag_at flags b ≡ (flag_at flags b || (same_nets inner (numbers_at ps b).pair && R (numbers_at ps b)))
        are b h =
            ⊎_elim (λ e. stays_set (flag_at flags b) (same_nets inner (numbers_at ps b).pair && R (numbers_at ps b)) (ap (flag_at flags) e ∙ set))
            (λ ne. stays_out (flag_at flags b) (same_nets inner (numbers_at ps b).pair) (R (numbers_at ps b)) (differs b h ne)) (cases_eq b k)

    pub mark_set : length flags ≡ length ps → flag_at flags k ≡ false → (r : Bool) → r ≡ R (numbers_at ps k) → AreMarked (λ e. same_nets inner e.pair && R e) ps flags (set flags k r)
    mark_set long unset r reached = record { each = length-set flags k r; are = are }
      where
        here : same_nets inner (numbers_at ps k).pair ≡ true
        here = same_from inner (numbers_at ps k).pair (sym (ap (λ (x : ℕ × ℕ). x.0) is)) (sym (ap (λ (x : ℕ × ℕ). x.1) is))

        are : (b : ℕ) → b < length ps → flag_at (set flags k r) b ≡ (flag_at flags b || (same_nets inner (numbers_at ps b).pair && R (numbers_at ps b)))
        are b h =
            ⊎_elim
            (λ e. get_or-set_at flags k b r false e (omega (arith, there, long))
            ∙ now_set (flag_at flags b) (same_nets inner (numbers_at ps b).pair) r (R (numbers_at ps b)) (ap (flag_at flags) e ∙ unset) (ap (λ (n : ℕ). same_nets inner (numbers_at ps n).pair) e ∙ here)
            (reached ∙ ap (λ (n : ℕ). R (numbers_at ps n)) (sym e)))
            (λ ne. get_or-set_other flags k b r false ne ∙ stays_out (flag_at flags b) (same_nets inner (numbers_at ps b).pair) (R (numbers_at ps b)) (differs b h ne)) (cases_eq b k)

-- ---- the pairs inside a pair

module _ (ps : List PairNumbers) (R : PairNumbers → Bool) where
  pub mark_begin : (flags : List Bool) → AreMarked (λ e. list_any (λ x. same_nets x e.pair) [] && R e) ps flags flags
  mark_begin flags = record { each = refl; are = λ b h. sym (or-false (flag_at flags b)) }

  pub mark_more : (xs : List NetPair) (x : NetPair) (old mid new : List Bool) → AreMarked (λ e. list_any (λ x. same_nets x e.pair) xs && R e) ps old mid → AreMarked (λ e. same_nets x e.pair && R e) ps mid new →
      AreMarked (λ e. list_any (λ x. same_nets x e.pair) (xs ++ x ∷ []) && R e) ps old new
  mark_more xs x old mid new so_far more =
      record {
        each = more.each ∙ so_far.each;
        are = λ b h.
            let e = numbers_at ps b in
            more.are b h
            ∙ (ap (λ c. c || (same_nets x e.pair && R e)) (so_far.are b h)
            ∙ (joined (flag_at old b) (list_any (λ y. same_nets y e.pair) xs) (same_nets x e.pair) (R e) ∙ ap (λ c. flag_at old b || (c && R e)) (sym (any_more (λ y. same_nets y e.pair) xs x))));
      }

  pub mark_step : (inside : List (NetId × NetId)) (k : ℕ) (d : NetId × NetId) (old mid new : List Bool) → k < length inside →
      AreMarked (λ e. list_any (λ x. same_nets x e.pair) (map nets_seen (take k inside)) && R e) ps old mid → AreMarked (λ e. same_nets (nets_seen (slice_index_or inside k d)) e.pair && R e) ps mid new →
      AreMarked (λ e. list_any (λ x. same_nets x e.pair) (map nets_seen (take (k + 1) inside)) && R e) ps old new
  mark_step inside k d old mid new below so_far more =
      subst (λ xs. AreMarked (λ e. list_any (λ x. same_nets x e.pair) xs && R e) ps old new) (sym (taken_more nets_seen inside k d below))
      (mark_more (map nets_seen (take k inside)) (nets_seen (slice_index_or inside k d)) old mid new so_far more)

module _ (p : Policy) where
  pair_in : (e : NetPair) → AreThere p e → list_any (λ x. same_nets x e) (all_pairs p) ≡ true
  pair_in e there =
      some_of (λ x. same_nets x e) e (all_pairs p)
      (in_map pair_of (e.src, e.dst) (pairs_of (all_nets p) (all_nets p)) (in_pairs e.src e.dst (all_nets p) (all_nets p) (in_numbers (length p.nets) e.src there.src) (in_numbers (length p.nets) e.dst there.dst)))
      (same_from e e refl refl)
    where
      pair_of : ℕ × ℕ → NetPair
      pair_of e = record { src = e.0; dst = e.1 }

  found : (t : NetPair → Bool) (e : NetPair) → AreThere p e → list_any (λ x. same_nets x e) (filter t (all_pairs p)) ≡ t e
  found t e there =
      any-filter_same (λ x. same_nets x e) t (t e) (λ x h. ap t (same_pair x e h)) (all_pairs p) ∙ (ap (λ b. t e && b) (pair_in e there) ∙ and_true (t e))

  pub mark_end : (t : NetPair → Bool) (ps : List PairNumbers) (R : PairNumbers → Bool) (xs : List NetPair) (old new : List Bool) → All (λ e. AreThere p e.pair) ps → xs ≡ filter t (all_pairs p) →
      AreMarked (λ e. list_any (λ x. same_nets x e.pair) xs && R e) ps old new → AreMarked (λ e. t e.pair && R e) ps old new
  mark_end t ps R xs old new there is marked =
      record {
        each = marked.each;
        are = λ b h.
            let e = numbers_at ps b in
            marked.are b h
            ∙ ap (λ c. flag_at old b || (c && R e)) (ap (λ ys. list_any (λ x. same_nets x e.pair) ys) is ∙ found t e.pair (All-get_or (λ e. AreThere p e.pair) ps b no_pair h there));
      }

  -- a pair without permits reaches into none
  pub mark_idle : (view : List ℕ) (permits : List Permit) (outer : PairNumbers) (t : NetPair → Bool) (ps : List PairNumbers) (flags : List Bool) → outer.forward ≡ [] → outer.mirrored ≡ [] →
      AreMarked (λ e. t e.pair && enters p view permits outer e) ps flags flags
  mark_idle view permits outer t ps flags e f =
      record {
        each = refl;
        are = λ b h.
            stays_idle (flag_at flags b) (t (numbers_at ps b).pair) (enters p view permits outer (numbers_at ps b))
            (λ i. list_any (reaches_pair p view permits (numbers_at ps b)) (numbered_lines p view permits (e i) (f i)));
      }

  -- ---- pair by pair

  module _ (view : List ℕ) (permits : List Permit) (ps : List PairNumbers) where
    pub flags_more : (xs : List PairNumbers) (outer : PairNumbers) (old new : List Bool) → AreFlags (is_closed_among p view permits xs) ps old →
        AreMarked (λ e. encloses_in p view outer.pair e.pair && enters p view permits outer e) ps old new → AreFlags (is_closed_among p view permits (xs ++ outer ∷ [])) ps new
    flags_more xs outer old new so_far more =
        record {
          each = more.each ∙ so_far.each;
          are = λ b h.
              let e = numbers_at ps b in
              more.are b h
              ∙ (ap (λ c. c || (encloses_in p view outer.pair e.pair && enters p view permits outer e)) (so_far.are b h)
              ∙ sym (any_more (λ o. encloses_in p view o.pair e.pair && enters p view permits o e) xs outer));
        }

    pub flags_step : (pairs : List PairPermits) (k : ℕ) (d : PairPermits) (old arg new : List Bool) (len : ℕ) → k < length pairs → AreFlags (is_closed_among p view permits (map pair_seen (take k pairs))) ps old → arg ≡ old →
        AreMarked (λ e. encloses_in p view (pair_seen (slice_index_or pairs k d)).pair e.pair && enters p view permits (pair_seen (slice_index_or pairs k d)) e) ps arg new → len ≡ length old →
        AreFlags (is_closed_among p view permits (map pair_seen (take (k + 1) pairs))) ps (take len (new ++ drop (length new) old))
    flags_step pairs k d old arg new len below so_far is more long =
        let outer = pair_seen (slice_index_or pairs k d) in
        let marked = subst (λ fs. AreMarked (λ e. encloses_in p view outer.pair e.pair && enters p view permits outer e) ps fs new) is more in
        subst (λ fs. AreFlags (is_closed_among p view permits (map pair_seen (take (k + 1) pairs))) ps fs) (sym (written len new old marked.each long))
        (subst (λ xs. AreFlags (is_closed_among p view permits xs) ps new) (sym (taken_more pair_seen pairs k d below)) (flags_more (map pair_seen (take k pairs)) outer old new so_far marked))

    pub flags_end : (flags : List Bool) → AreFlags (is_closed_among p view permits ps) ps flags → flags ≡ map (is_closed_among p view permits ps) ps
    flags_end flags all =
        let test = is_closed_among p view permits ps in
        let n = length-map ps test in
        let each = all.each in
        ext_get_or false flags (map test ps) (omega (arith, each, n))
        (λ b h. let low : b < length ps = omega (arith, h, each) in all.are b low ∙ sym (get_or-map test ps b no_pair false low))

pub map_twice : {A B C : Type 0} (g : B → C) (f : A → B) (xs : List A) → map g (map f xs) ≡ map (λ x. g (f x)) xs
map_twice g f [] = refl
map_twice g f (x ∷ xs) = ap (λ ys. g (f x) ∷ ys) (map_twice g f xs)
