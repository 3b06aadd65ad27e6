-- Each place has the table of its tags.
use Rattle.std.proofs.Common.{◌≡◌, ℕ, ◌+◌, ◌-◌, ◌<◌, ◌≤◌, Bool, true, false, cond, List, [], ◌∷◌, ◌++◌, length, map, take, drop, refl, sym, ap, subst, ◌∙◌, ⊎_elim, arith}
use Rattle.std.specs.Prelude.{nat_lt, ◌==◌, ◌&&◌, ◌||◌, slice_index_or, IsTrue}
use Rattle.std.specs.List.{All}
use Rattle.std.proofs.lemmas.Bool.{cases_lt, ltb-true, ltb-false, lt-ltb, or_cases, and_parts, false≢true}
use Rattle.std.proofs.lemmas.List.{length-map, length-take, length_push, map_push, get_or-map, get_or-take, get_or_push, get_or_append_left, get_or-append_right, take_more, take_at, drop_at, length-append, take_all}
use Rattle.std.proofs.lemmas.List.Elements.{All-push, All-weaker, All-get_or, All-head, All-tail}
use Rattle.policy_model.specs.Policy.{Policy}
use Rattle.policy_model.specs.Tags.{Views}
use Rattle.policy_model.specs.Faults.{all_views}
use Rattle.policy_model.specs.FirstFault.{ViewPlace, AtZone, AtRouter, view_at, place_order, is_lower}
use Rattle.nat_view.specs.Seen.{has_view, AreApartIn, AreAllApart, AreFirstSame, AreLeastSame}
use Rattle.nat_view.specs.Shown.{numbers_of, tags_of, cidrs_of, IsTableOf, RefusesTable}
use Rattle.nat_view.specs.Places.{tags_at, rows_of, views_of, place_at, ArePlaced, AreUnlike, HasNoneOf, ShareTables, HasTable}
use Rattle.spoc_base.specs.declared.ids.NetId.{NetId}
use Rattle.spoc_base.specs.declared.ids.TagId.{TagId}
use Rattle.subnet_tree.specs.declared.fail.TreeFail.{TreeFail}
use Rattle.subnet_tree.specs.declared.fail.TreeFail.TheVariants as tree
use Rattle.nat_view.specs.Fails.{place_seen, IsFailAt, RefusesViews}
use Rattle.nat_view.specs.declared.fail.ViewFail.{ViewFail}
use Rattle.nat_view.specs.declared.fail.ViewFail.TheVariants.{Same, Memory}
use Rattle.nat_view.specs.declared.table.Table.{Table}
use Rattle.nat_view.proofs.Items.{apart_in}

-- ---- one table more

-- tags with one number are one
pub same_items : (xs ys : List TagId) → numbers_of xs ≡ numbers_of ys → xs ≡ ys
same_items [] [] e = refl
same_items [] (y ∷ ys) e = absurd (let z : ⊥ = cc in z)
same_items (x ∷ xs) [] e = absurd (let z : ⊥ = cc in z)
same_items (x ∷ xs) (y ∷ ys) e =
    let heads : x.0 ≡ y.0 = cc in
    let tails : numbers_of xs ≡ numbers_of ys = cc in
    ap (λ n. let t : TagId = record { 0 = n } in t ∷ xs) heads ∙ ap (λ zs. y ∷ zs) (same_items xs ys tails)

pub has_old : (p : Policy) (tags : List ℕ) (old : List Table) (k : ℕ) → All (IsTableOf p) old → AreUnlike old → k < length old → tags_at old k ≡ tags → HasTable p tags old old k
has_old p tags old k all unlike there is = record { tables_are = all; unlike = unlike; longer = omega arith; kept = λ i h. refl; there = there; is = is }

module _ (old : List Table) (t : Table) where
  old_tags : (i : ℕ) → i < length old → tags_at (old ++ t ∷ []) i ≡ tags_at old i
  old_tags i h = let m = length-map old tags_of in ap (λ xs. slice_index_or xs i []) (map_push tags_of old t) ∙ get_or_append_left (map tags_of old) (tags_of t ∷ []) [] i (omega (arith, h, m))

  new_tags : tags_at (old ++ t ∷ []) (length old) ≡ tags_of t
  new_tags = ap (λ xs. slice_index_or xs (length old) []) (map_push tags_of old t) ∙ get_or_push (map tags_of old) (tags_of t) [] (length old) (length-map old tags_of)

  -- the new table has other tags than the old ones
  one_unlike : HasNoneOf old (tags_of t) → (i j : ℕ) → i < length old → length old ≤ j → j < length (old ++ t ∷ []) → tags_at (old ++ t ∷ []) i ≡ tags_at (old ++ t ∷ []) j → ⊥
  one_unlike other i j ib le jb e =
      let n = length_push old t in
      let at : j ≡ length old = omega (arith, le, jb, n) in
      other i ib (sym (old_tags i ib) ∙ (e ∙ (ap (tags_at (old ++ t ∷ [])) at ∙ new_tags)))

  more_unlike : AreUnlike old → HasNoneOf old (tags_of t) → AreUnlike (old ++ t ∷ [])
  more_unlike unlike other = λ i j ib jb e.
      let n = length_push old t in
      ⊎_elim
      (λ (il : i < length old). ⊎_elim
      (λ (jl : j < length old). unlike i j il jl (sym (old_tags i il) ∙ (e ∙ old_tags j jl)))
      (λ (jg : length old ≤ j). absurd (one_unlike other i j il jg jb e))
      (cases_lt j (length old)))
      (λ (ig : length old ≤ i). ⊎_elim
      (λ (jl : j < length old). absurd (one_unlike other j i jl ig ib (sym e)))
      (λ (jg : length old ≤ j). omega (arith, ig, jg, ib, jb, n))
      (cases_lt j (length old)))
      (cases_lt i (length old))

pub has_new : (p : Policy) (tags : List ℕ) (old : List Table) (t : Table) → All (IsTableOf p) old → AreUnlike old → HasNoneOf old tags → IsTableOf p t → tags_of t ≡ tags → HasTable p tags old (old ++ t ∷ []) (length old)
has_new p tags old t all unlike other table is =
    let n = length_push old t in
    record {
      tables_are = All-push (IsTableOf p) old t all table;
      unlike = more_unlike old t unlike (λ k h e. other k h (e ∙ is));
      longer = omega (arith, n);
      kept = old_tags old t;
      there = omega (arith, n);
      is = new_tags old t ∙ is;
    }

rows_same : (f g : ℕ → List ℕ) (xs : List ℕ) → All (λ i. f i ≡ g i) xs → map f xs ≡ map g xs
rows_same f g [] h = refl
rows_same f g (x ∷ xs) h = ap (λ y. y ∷ map f xs) (All-head (λ i. f i ≡ g i) x xs h) ∙ ap (λ ys. g x ∷ ys) (rows_same f g xs (All-tail (λ i. f i ≡ g i) x xs h))

pub one_place_more : (p : Policy) (wanted : List (List ℕ)) (old new : List Table) (places : List ℕ) (k i : ℕ) → ArePlaced p wanted old places k → k < length wanted → HasTable p (slice_index_or wanted k []) old new i →
    ArePlaced p wanted new (places ++ i ∷ []) (k + 1)
one_place_more p wanted old new places k i so_far lt has =
    let longer = has.longer in
    let kept = rows_same (tags_at new) (tags_at old) places (All-weaker (λ j. j < length old) (λ j. tags_at new j ≡ tags_at old j) has.kept places so_far.below) in
    record {
      tables_are = has.tables_are;
      unlike = has.unlike;
      below = All-push (λ j. j < length new) places i (All-weaker (λ j. j < length old) (λ j. j < length new) (λ j h. omega (arith, h, longer)) places so_far.below) has.there;
      rows = map_push (tags_at new) places i ∙ (ap (λ xs. xs ++ tags_at new i ∷ []) (kept ∙ so_far.rows) ∙ (ap (λ x. take k wanted ++ x ∷ []) has.is ∙ sym (take_more wanted k [] lt)));
    }

-- ---- one table for equal rows

pub tables_are_shared : (p : Policy) (wanted : List (List ℕ)) (tables : List Table) (places : List ℕ) (k : ℕ) → ArePlaced p wanted tables places k → length wanted ≤ k → ShareTables wanted places
tables_are_shared p wanted tables places k placed all = λ i j ib jb e.
    let rows = placed.rows ∙ take_all k wanted all in
    let n = ap length rows in
    let m = length-map places (tags_at tables) in
    let at : (h : ℕ) → h < length wanted → h < length places = λ h b. omega (arith, n, m, b) in
    let row : (h : ℕ) → h < length wanted → tags_at tables (slice_index_or places h 0) ≡ slice_index_or wanted h [] = λ h b. sym (get_or-map (tags_at tables) places h 0 [] (at h b)) ∙ ap (λ xs. slice_index_or xs h []) rows in
    placed.unlike (slice_index_or places i 0) (slice_index_or places j 0)
    (All-get_or (λ x. x < length tables) places i 0 (at i ib) placed.below) (All-get_or (λ x. x < length tables) places j 0 (at j jb) placed.below)
    (row i ib ∙ (e ∙ sym (row j jb)))

-- ---- no two networks with one prefix

table_apart : (p : Policy) (tables : List Table) → All (IsTableOf p) tables → (i : ℕ) → i < length tables → AreApartIn p (tags_at tables i)
table_apart p [] all i h = absurd (let z : ⊥ = omega (arith, h) in z)
table_apart p (t ∷ ts) all i h =
    let found = slice_index_or (t ∷ ts) i t in
    subst (AreApartIn p) (sym (get_or-map tags_of (t ∷ ts) i t [] h)) (apart_in p (tags_of found) (cidrs_of found.seen.items) found.tree (All-get_or (IsTableOf p) (t ∷ ts) i t h all))

pub rows_apart : (p : Policy) (wanted : List (List ℕ)) (tables : List Table) (places : List ℕ) (k : ℕ) → ArePlaced p wanted tables places k → k ≤ length wanted → (j : ℕ) → j < k → AreApartIn p (slice_index_or wanted j [])
rows_apart p wanted tables places k placed fits j lt =
    let n = ap length placed.rows in
    let m = length-map places (tags_at tables) in
    let o = length-take k wanted in
    let jp : j < length places = omega (arith, n, m, o, lt, fits) in
    let i = slice_index_or places j 0 in
    let e = sym (get_or-map (tags_at tables) places j 0 [] jp) ∙ (ap (λ xs. slice_index_or xs j []) placed.rows ∙ get_or-take k wanted j [] lt) in
    subst (AreApartIn p) e (table_apart p tables placed.tables_are i (All-get_or (λ x. x < length tables) places j 0 jp placed.below))

-- ---- places by number

abbrev pub number_of : Views → ViewPlace → ℕ
number_of v (AtZone z) = z
number_of v (AtRouter r) = length v.zones + r

pub row_of_place : (v : Views) (at : ViewPlace) → IsTrue (has_view v at) → slice_index_or (all_views v) (number_of v at) [] ≡ view_at v at
row_of_place v (AtZone z) h = get_or_append_left v.zones v.routers [] z (ltb-true z (length v.zones) h)
row_of_place v (AtRouter r) h =
    get_or-append_right v.zones v.routers (length v.zones) (length v.zones + r) [] refl (omega arith) ∙ ap (λ i. slice_index_or v.routers i []) (let e : (length v.zones + r) - length v.zones ≡ r = omega arith in e)

pub number_below : (v : Views) (at : ViewPlace) → IsTrue (has_view v at) → number_of v at < length (all_views v)
number_below v (AtZone z) h = let lt = ltb-true z (length v.zones) h in let n = length-append v.zones v.routers in omega (arith, lt, n)
number_below v (AtRouter r) h = let lt = ltb-true r (length v.routers) h in let n = length-append v.zones v.routers in omega (arith, lt, n)

less_of : (a b : ℕ) → (nat_lt a b || ((a == b) && false)) ≡ true → a < b
less_of a b h = ⊎_elim (λ e. ltb-true a b e) (λ e. absurd (false≢true (and_parts (a == b) false e).1)) (or_cases (nat_lt a b) ((a == b) && false) h)

pub lower_number : (v : Views) (one other : ViewPlace) → IsTrue (has_view v one) → IsTrue (is_lower (place_order one) (place_order other)) → number_of v one < number_of v other
lower_number v (AtZone z) (AtZone y) h lower = less_of z y lower
lower_number v (AtZone z) (AtRouter r) h lower = let lt = ltb-true z (length v.zones) h in omega (arith, lt)
lower_number v (AtRouter r) (AtZone y) h lower = absurd (false≢true lower)
lower_number v (AtRouter r) (AtRouter s) h lower = let lt = less_of r s lower in omega (arith, lt)

pub record IsNamed (v : Views) (k : ℕ) (at : ViewPlace) : Type 0 where
  pub number : number_of v at ≡ k
  pub viewed : IsTrue (has_view v at)

pub named : (v : Views) (k : ℕ) → k < length (all_views v) → IsNamed v k (place_at (length v.zones) k)
named v k below = go (nat_lt k (length v.zones)) refl
  where
    go : (b : Bool) → nat_lt k (length v.zones) ≡ b → IsNamed v k (cond b (AtZone k) (AtRouter (k - length v.zones)))
    go true e = record { number = refl; viewed = e }
    go false e =
        let le = ltb-false k (length v.zones) e in
        let n = length-append v.zones v.routers in
        record { number = omega (arith, le); viewed = lt-ltb (k - length v.zones) (length v.routers) (omega (arith, le, n, below)) }

pub first_same : (p : Policy) (v : Views) (tables : List Table) (places : List ℕ) (k n m : ℕ) (at : ViewPlace) (tags : List ℕ) → ArePlaced p (all_views v) tables places k → k < length v.zones + length v.routers → at ≡ place_at (length v.zones) k →
    tags ≡ slice_index_or (all_views v) k [] → AreLeastSame p tags n m → AreFirstSame p v at n m
first_same p v tables places k n m at tags placed below at_is tags_are least =
    let len = length-append v.zones v.routers in
    let fits : k < length (all_views v) = omega (arith, below, len) in
    let w = subst (IsNamed v k) (sym at_is) (named v k fits) in
    let num = w.number in
    record {
      viewed = w.viewed;
      least = subst (λ row. AreLeastSame p row n m) (tags_are ∙ (ap (λ i. slice_index_or (all_views v) i []) (sym num) ∙ row_of_place v at w.viewed)) least;
      before = λ other h lower.
          let lt = lower_number v other at h lower in
          subst (AreApartIn p) (row_of_place v other h) (rows_apart p (all_views v) tables places k placed (omega (arith, fits)) (number_of v other) (omega (arith, lt, num)));
    }

pub all_apart : (p : Policy) (v : Views) (tables : List Table) (places : List ℕ) (k : ℕ) → ArePlaced p (all_views v) tables places k → k ≡ length v.zones + length v.routers → AreAllApart p v
all_apart p v tables places k placed all = λ at h.
    let len = length-append v.zones v.routers in
    let lt = number_below v at h in
    subst (AreApartIn p) (row_of_place v at h) (rows_apart p (all_views v) tables places k placed (omega (arith, all, len)) (number_of v at) (omega (arith, lt, all, len)))

-- the rows are those of the views
pub rows_are : (p : Policy) (v : Views) (tables : List Table) (places : List ℕ) (k zones : ℕ) → ArePlaced p (all_views v) tables places k → k ≡ length v.zones + length v.routers → zones ≡ length v.zones →
    views_of zones (rows_of tables places) ≡ v
rows_are p v tables places k zones placed all e =
    let len = length-append v.zones v.routers in
    let rows : rows_of tables places ≡ v.zones ++ v.routers = placed.rows ∙ take_all k (all_views v) (omega (arith, all, len)) in
    ap (views_of zones) rows
    ∙ (ap (λ (x : List (List ℕ)). let w : Views = record { zones = x; routers = drop zones (v.zones ++ v.routers) } in w) (take_at v.zones v.routers zones (sym e))
    ∙ ap (λ (x : List (List ℕ)). let w : Views = record { zones = v.zones; routers = x } in w) (drop_at v.zones v.routers zones (sym e)))

pub refused_at : (p : Policy) (v : Views) (tables : List Table) (places : List ℕ) (k : ℕ) (tags : List ℕ) (fail : TreeFail) (out : ViewFail) → ArePlaced p (all_views v) tables places k → k < length v.zones + length v.routers →
    tags ≡ slice_index_or (all_views v) k [] → RefusesTable p tags fail → IsFailAt (place_at (length v.zones) k) fail out → RefusesViews p v out
refused_at p v tables places k tags (tree.Same n m) (Same place first second) placed below e least is =
    first_same p v tables places k first.0 second.0 (place_seen place) tags placed below is.0 e
    (subst (λ (x : NetId). AreLeastSame p tags x.0 second.0) (sym is.1) (subst (λ (x : NetId). AreLeastSame p tags n.0 x.0) (sym is.2) least))
refused_at p v tables places k tags (tree.Same n m) Memory placed below e least is = tt
refused_at p v tables places k tags tree.Memory (Same place first second) placed below e least is = absurd is
refused_at p v tables places k tags tree.Memory Memory placed below e least is = tt
