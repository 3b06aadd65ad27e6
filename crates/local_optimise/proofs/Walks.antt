-- From one line of a key to the one before it, and from mask to mask.
use Rattle.std.proofs.Common.{◌≡◌, ℕ, zero, suc, ◌+◌, ◌<◌, Bool, true, false, cond, ◌&&◌, ◌||◌, List, length, take, get_or, replicate, refl, sym, ap, ◌∙◌, arith}
use Rattle.std.specs.Prelude.{Option, Some, None}
use Rattle.std.specs.List.{list_any}
use Rattle.std.proofs.lemmas.Bool.{and_parts, and_from, false_from_ne_true, both_ways}
use Rattle.std.proofs.lemmas.List.Folds.{list_any_more}
use Rattle.policy_model.specs.Filters.{Line, line_covers}
use Rattle.local_optimise.specs.declared.keys.Mask.{Mask}
use Rattle.local_optimise.specs.declared.keys.Key.{Key}
use Rattle.local_optimise.specs.Keys.{key_by, key_of, may_cover, first_prefix, leading_bits, Stem, has_stem, src_stem, dst_stem, may_be, TellsStems}
use Rattle.local_optimise.specs.Chained.{greatest, later, same_key, last_with}
use Rattle.local_optimise.specs.Held.{line_at, last_under, last_by}
use Rattle.local_optimise.proofs.Places.{some_same, Passing, greatest_passes, greatest_of_both, greatest_of_either, greatest_same, found_from}
use Rattle.local_optimise.proofs.SameKeys.{same_key_is}

-- what a walk along the places of a key keeps, for what passes another test too
pub record Walks (keys : ℕ → Key) (k : Key) (q : ℕ → Bool) (n : ℕ) (cursor : Option ℕ) : Type 0 where
  pub passing : (i : ℕ) → cursor ≡ Some i → Passing (λ j. same_key k (keys j)) n i
  pub same : greatest (λ j. same_key k (keys j) && q j) n ≡ found_from (λ j. same_key k (keys j)) q cursor

pub walk_begun : (keys : ℕ → Key) (k : Key) (q : ℕ → Bool) (n : ℕ) (cursor : Option ℕ) → cursor ≡ last_with keys k n → Walks keys k q n cursor
walk_begun keys k q n cursor e = record {
  passing = λ i at. greatest_passes (λ j. same_key k (keys j)) n i (sym e ∙ at);
  same = greatest_of_both (λ j. same_key k (keys j)) q n ∙ ap (found_from (λ j. same_key k (keys j)) q) (sym e);
}

-- the place before it with its key is the one before it with the key of the walk
key_along : (keys : ℕ → Key) (k : Key) (n i : ℕ) (before : Option ℕ) → Passing (λ j. same_key k (keys j)) n i → before ≡ last_with keys (keys i) i → before ≡ last_with keys k i
key_along keys k n i before at e = e ∙ ap (λ x. last_with keys x i) (sym (same_key_is k (keys i) at.passes))

pub walk_on : (keys : ℕ → Key) (k : Key) (q : ℕ → Bool) (n i : ℕ) (cursor before : Option ℕ) → Walks keys k q n cursor → cursor ≡ Some i → q i ≡ false → before ≡ last_with keys (keys i) i → Walks keys k q n before
walk_on keys k q n i cursor before w at fails e =
    let here = w.passing i at in
    let more = walk_begun keys k q i before (key_along keys k n i before here e) in
    record {
      passing = λ j f. let p = more.passing j f in record { below = omega (arith, p.below, here.below); passes = p.passes };
      same = w.same ∙ (ap (found_from (λ j. same_key k (keys j)) q) at ∙ (ap (λ b. cond b (Some i) (greatest (λ j. same_key k (keys j) && q j) i)) fails ∙ more.same));
    }

pub walk_below : (keys : ℕ → Key) (k : Key) (q : ℕ → Bool) (n i j : ℕ) (cursor before : Option ℕ) → Walks keys k q n cursor → cursor ≡ Some i → before ≡ last_with keys (keys i) i → before ≡ Some j → j < i
walk_below keys k q n i j cursor before w at e f = (greatest_passes (λ m. same_key (keys i) (keys m)) i j (sym e ∙ f)).below

pub walk_found : (keys : ℕ → Key) (k : Key) (q : ℕ → Bool) (n i : ℕ) (cursor : Option ℕ) → Walks keys k q n cursor → cursor ≡ Some i → q i ≡ true → Some i ≡ greatest (λ j. same_key k (keys j) && q j) n
walk_found keys k q n i cursor w at t = sym (w.same ∙ (ap (found_from (λ j. same_key k (keys j)) q) at ∙ ap (λ b. cond b (Some i) (greatest (λ j. same_key k (keys j) && q j) i)) t))

pub walk_ended : (keys : ℕ → Key) (k : Key) (q : ℕ → Bool) (n : ℕ) (cursor : Option ℕ) → Walks keys k q n cursor → cursor ≡ None → None ≡ greatest (λ j. same_key k (keys j) && q j) n
walk_ended keys k q n cursor w at = sym (w.same ∙ ap (found_from (λ j. same_key k (keys j)) q) at)

-- where the walk comes below a floor, the last one that passes both tests lies below it
pub walk_under : (keys : ℕ → Key) (k : Key) (q : ℕ → Bool) (n i j floor : ℕ) (cursor : Option ℕ) → Walks keys k q n cursor → cursor ≡ Some i → i < floor → greatest (λ m. same_key k (keys m) && q m) n ≡ Some j → j < floor
walk_under keys k q n i j floor cursor w at lt e = by (q i) (sym (ap (found_from (λ m. same_key k (keys m)) q) at) ∙ (sym w.same ∙ e))
  where
    by : (b : Bool) → cond b (Some i) (greatest (λ m. same_key k (keys m) && q m) i) ≡ Some j → j < floor
    by true f = let s : i ≡ j = some_same i j f in omega (arith, s, lt)
    by false f = let p = greatest_passes (λ m. same_key k (keys m) && q m) i j f in omega (arith, p.below, lt)

-- ---- one mask more

true_from_ne_false : (b : Bool) → (b ≡ false → ⊥) → b ≡ true
true_from_ne_false true h = refl
true_from_ne_false false h = absurd (h refl)

abbrev pub no_mask : Mask
no_mask = record { permit = false; src = 0; dst = 0; protocol = false; first = false; second = false }

either_and : (a b c : Bool) → ((a || b) && c) ≡ ((a && c) || (b && c))
either_and true true true = refl
either_and true true false = refl
either_and true false true = refl
either_and true false false = refl
either_and false b c = refl

neither_and : (a c : Bool) → ((a || false) && c) ≡ (a && c)
neither_and true c = refl
neither_and false c = refl

-- the lines that the first masks show
abbrev shown : Bool → Line → List Mask → List Line → ℕ → Bool
shown any l masks lines i = list_any (λ mask. may_cover any l mask && same_key (key_by mask l) (key_of (line_at lines i))) masks

shown_more : (any : Bool) (l : Line) (masks : List Mask) (lines : List Line) (k : ℕ) (mask d : Mask) (b : Bool) → k < length masks → mask ≡ get_or masks k d → may_cover any l mask ≡ b → (i : ℕ) →
    shown any l (take (k + 1) masks) lines i ≡ (shown any l (take k masks) lines i || (b && same_key (key_by mask l) (key_of (line_at lines i))))
shown_more any l masks lines k mask d b lt is e i =
    let t = λ (m : Mask). may_cover any l m && same_key (key_by m l) (key_of (line_at lines i)) in
    list_any_more t masks k d lt ∙ ap (λ c. shown any l (take k masks) lines i || c) (ap t (sym is) ∙ ap (λ c. c && same_key (key_by mask l) (key_of (line_at lines i))) e)

pub mask_looked_up : (any : Bool) (l : Line) (masks : List Mask) (lines : List Line) (k : ℕ) (mask d : Mask) → k < length masks → mask ≡ get_or masks k d → may_cover any l mask ≡ true →
    later (last_by any l (take k masks) lines) (last_under (key_by mask l) l lines) ≡ last_by any l (take (k + 1) masks) lines
mask_looked_up any l masks lines k mask d lt is e =
    let under = λ (i : ℕ). same_key (key_by mask l) (key_of (line_at lines i)) in
    let covers = λ (i : ℕ). line_covers (line_at lines i) l in
    sym (greatest_of_either (λ i. shown any l (take k masks) lines i && covers i) (λ i. under i && covers i) (length lines))
    ∙ greatest_same (λ i. (shown any l (take k masks) lines i && covers i) || (under i && covers i)) (λ i. shown any l (take (k + 1) masks) lines i && covers i) (length lines)
    (λ i below. sym (ap (λ b. b && covers i) (shown_more any l masks lines k mask d true lt is e i) ∙ either_and (shown any l (take k masks) lines i) (under i) (covers i)))

nothing_more : (any : Bool) (l : Line) (masks : List Mask) (lines : List Line) (k : ℕ) (mask d : Mask) → k < length masks → mask ≡ get_or masks k d → (i : ℕ) →
    (may_cover any l mask && same_key (key_by mask l) (key_of (line_at lines i))) ≡ false → shown any l (take (k + 1) masks) lines i ≡ (shown any l (take k masks) lines i || false)
nothing_more any l masks lines k mask d lt is i none =
    let t = λ (m : Mask). may_cover any l m && same_key (key_by m l) (key_of (line_at lines i)) in
    list_any_more t masks k d lt ∙ ap (λ c. shown any l (take k masks) lines i || c) (ap t (sym is) ∙ none)

-- a mask is passed over where no line has the line's values of what it asks
pub mask_passed_over : (any : Bool) (l : Line) (masks : List Mask) (lines : List Line) (k : ℕ) (mask d : Mask) → k < length masks → mask ≡ get_or masks k d →
    ((i : ℕ) → i < length lines → (may_cover any l mask && same_key (key_by mask l) (key_of (line_at lines i))) ≡ false) → last_by any l (take k masks) lines ≡ last_by any l (take (k + 1) masks) lines
mask_passed_over any l masks lines k mask d lt is none =
    let covers = λ (i : ℕ). line_covers (line_at lines i) l in
    greatest_same (λ i. shown any l (take k masks) lines i && covers i) (λ i. shown any l (take (k + 1) masks) lines i && covers i) (length lines)
    (λ i below. sym (ap (λ b. b && covers i) (nothing_more any l masks lines k mask d lt is i (none i below)) ∙ neither_and (shown any l (take k masks) lines i) (covers i)))

-- no line has them where one of its stems isn't there
pub none_with_stems : (any : Bool) (l : Line) (mask : Mask) (lines : List Line) (sources destinations : List Stem) (from to : List Bool) →
    TellsStems sources (first_prefix l.src).net from → TellsStems destinations (first_prefix l.dst).net to →
    ((i : ℕ) → i < length lines → has_stem sources (src_stem (line_at lines i)) ≡ true) → ((i : ℕ) → i < length lines → has_stem destinations (dst_stem (line_at lines i)) ≡ true) →
    (may_cover any l mask && (may_be from mask.src && may_be to mask.dst)) ≡ false →
    (i : ℕ) → i < length lines → (may_cover any l mask && same_key (key_by mask l) (key_of (line_at lines i))) ≡ false
none_with_stems any l mask lines sources destinations from to tell_from tell_to has_src has_dst isnt i lt =
    false_from_ne_true (may_cover any l mask && same_key (key_by mask l) (key_of (line_at lines i))) (λ t.
    let w = and_parts (may_cover any l mask) (same_key (key_by mask l) (key_of (line_at lines i))) t in
    let e = same_key_is (key_by mask l) (key_of (line_at lines i)) w.1 in
    let s = ap (λ (k : Key). has_stem sources (k.mask.src, k.src)) e ∙ has_src i lt in
    let d = ap (λ (k : Key). has_stem destinations (k.mask.dst, k.dst)) e ∙ has_dst i lt in
    both_ways (may_cover any l mask && (may_be from mask.src && may_be to mask.dst)) isnt
    (and_from (may_cover any l mask) (may_be from mask.src && may_be to mask.dst) w.0
    (and_from (may_be from mask.src) (may_be to mask.dst)
    (true_from_ne_false (may_be from mask.src) (λ f. both_ways (has_stem sources (mask.src, leading_bits mask.src (first_prefix l.src).net)) (tell_from mask.src f) s))
    (true_from_ne_false (may_be to mask.dst) (λ f. both_ways (has_stem destinations (mask.dst, leading_bits mask.dst (first_prefix l.dst).net)) (tell_to mask.dst f) d)))))

-- at first nothing is told
pub may_be_all : (n len : ℕ) → may_be (replicate n true) len ≡ true
may_be_all zero len = refl
may_be_all (suc n) zero = refl
may_be_all (suc n) (suc len) = may_be_all n len
