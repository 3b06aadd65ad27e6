-- Rows that grow by one tag.
use Rattle.std.proofs.Common.{◌≡◌, ℕ, zero, suc, ◌+◌, ◌<◌, ◌≤◌, Bool, true, false, cond, List, [], ◌∷◌, ◌++◌, length, map, set, refl, sym, ap, subst, ◌∙◌, ⊎_elim, arith}
use Rattle.std.specs.Prelude.{◌==◌, ◌↔◌, Vec, filter, slice_index, slice_index_or}
use Rattle.std.specs.List.{range_with_len}
use Rattle.std.specs.List.Sorted.{IsStrictlyIncreasing}
use Rattle.std.proofs.lemmas.List.{get_or-set_same, get_or-set_other, length-map, get_or-map, map-set, map-append, append-nil}
use Rattle.std.proofs.lemmas.List.Elements.{filter-append}
use Rattle.std.proofs.lemmas.List.Kept.{IsStrictlyIncreasing-filter}
use Rattle.std.proofs.lemmas.Bool.{cases_eq, eq-eqb, ne_eqb, false≢true}
use Rattle.spoc_base.specs.declared.ids.TagId.{TagId}
use Rattle.policy_model.specs.Lists.{has, numbers_below}
use Rattle.zone_graph.specs.Grouped.{row_items}
use Rattle.nat_domains.specs.Marks.{is_marked}
use Rattle.nat_domains.specs.Rows.{tag_rows, IsPutIf, HasAdded, AreListed, AreBare, ListsOneMore}
use Rattle.nat_domains.proofs.Members.{has_kept, kept_has}

-- ---- rows in memory

pub one_more_bare : {A : Type 0} (rows new : List (Vec TagId A)) (row : Vec TagId A) (n : ℕ) → new ≡ rows ++ row ∷ [] → row.items ≡ [] → AreBare (tag_rows rows) n → AreBare (tag_rows new) (n + 1)
one_more_bare {A} rows new row n made bare old =
    record {
      each = ap (λ (r : List (Vec TagId A)). length (tag_rows r)) made ∙ (long rows row ∙ ap (λ (k : ℕ). k + 1) old.each);
      bare = λ k. ap (λ (r : List (Vec TagId A)). slice_index_or (tag_rows r) k []) made ∙ still_bare rows row k bare old.bare;
    }
  where
    long : (rows : List (Vec TagId A)) (row : Vec TagId A) → length (tag_rows (rows ++ row ∷ [])) ≡ length (tag_rows rows) + 1
    long [] row = refl
    long (r ∷ rows) row = let w = long rows row in omega (arith, w)

    still_bare : (rows : List (Vec TagId A)) (row : Vec TagId A) (k : ℕ) → row.items ≡ [] → ((j : ℕ) → slice_index_or (tag_rows rows) j [] ≡ []) →
        slice_index_or (tag_rows (rows ++ row ∷ [])) k [] ≡ []
    still_bare [] row zero bare empty = ap (map (λ (tag : TagId). tag.0)) bare
    still_bare [] row (suc k) bare empty = refl
    still_bare (r ∷ rows) row zero bare empty = empty 0
    still_bare (r ∷ rows) row (suc k) bare empty = still_bare rows row k bare (λ j. empty (suc j))

pub row_put : {A : Type 0} (rows : List (Vec TagId A)) (k : ℕ) (d new : Vec TagId A) (tag : TagId) → k < length rows → new.items ≡ (slice_index_or rows k d).items ++ tag ∷ [] →
    row_items (set rows k new) ≡ set (row_items rows) k (slice_index_or (row_items rows) k [] ++ tag ∷ [])
row_put {A} rows k d new tag there made =
    map-set (λ (r : Vec TagId A). r.items) rows k new
    ∙ ap (λ (r : List TagId). set (row_items rows) k r) (made ∙ ap (λ (r : List TagId). r ++ tag ∷ []) (sym (get_or-map (λ (r : Vec TagId A). r.items) rows k d [] there)))

pub put_yes : {A : Type 0} (rows new : List (Vec TagId A)) (k : ℕ) (tag : TagId) → k < length rows →
    row_items new ≡ set (row_items rows) k (slice_index_or (row_items rows) k [] ++ tag ∷ []) → IsPutIf tag.0 k true (tag_rows rows) (tag_rows new)
put_yes {A} rows new k tag there made =
    let number = λ (row : List TagId). map (λ (t : TagId). t.0) row in
    let there_too : k < length (row_items rows) = subst (λ (n : ℕ). k < n) (sym (length-map rows (λ (r : Vec TagId A). r.items))) there in
    let there_row : k < length (tag_rows rows) = subst (λ (n : ℕ). k < n) (sym (length-map (row_items rows) number)) there_too in
    let is : tag_rows new ≡ set (tag_rows rows) k (slice_index_or (tag_rows rows) k [] ++ tag.0 ∷ []) =
    ap (map number) made ∙ (map-set number (row_items rows) k (slice_index_or (row_items rows) k [] ++ tag ∷ [])
    ∙ ap (λ (r : List ℕ). set (tag_rows rows) k r) (map-append (λ (t : TagId). t.0) (slice_index_or (row_items rows) k []) (tag ∷ [])
    ∙ ap (λ (r : List ℕ). r ++ tag.0 ∷ []) (sym (get_or-map number (row_items rows) k [] [] there_too)))) in
    record {
      here = ap (λ (r : List (List ℕ)). slice_index_or r k []) is ∙ get_or-set_same (tag_rows rows) k (slice_index_or (tag_rows rows) k [] ++ tag.0 ∷ []) [] there_row;
      others = λ j ne. ap (λ (r : List (List ℕ)). slice_index_or r j []) is ∙ get_or-set_other (tag_rows rows) k j (slice_index_or (tag_rows rows) k [] ++ tag.0 ∷ []) [] ne;
    }

pub put_no : (tag k : ℕ) (rows : List (List ℕ)) → IsPutIf tag k false rows rows
put_no tag k rows = record { here = sym (append-nil (slice_index_or rows k [])); others = λ j ne. refl }

pub count_kept : {A : Type 0} (rows new : List (Vec TagId A)) → length new ≡ length rows → length (tag_rows new) ≡ length (tag_rows rows)
count_kept {A} rows new e =
    let number = λ (row : List TagId). map (λ (t : TagId). t.0) row in
    length-map (row_items new) number ∙ (length-map new (λ (r : Vec TagId A). r.items) ∙ (e ∙ (sym (length-map rows (λ (r : Vec TagId A). r.items)) ∙ sym (length-map (row_items rows) number))))

-- The tag was put at the end of each marked row below a number, and the rows from there on are as they were.
pub record ArePutBelow (tag : ℕ) (marks : List Bool) (rows new : List (List ℕ)) (k : ℕ) : Type 0 where
  pub put : (j : ℕ) → j < k → slice_index_or new j [] ≡ slice_index_or rows j [] ++ cond (is_marked marks j) (tag ∷ []) []
  pub rest : (j : ℕ) → k ≤ j → slice_index_or new j [] ≡ slice_index_or rows j []

pub nothing_put : (tag : ℕ) (marks : List Bool) (rows : List (List ℕ)) → ArePutBelow tag marks rows rows 0
nothing_put tag marks rows = record { put = λ j h. absurd (omega (arith, h)); rest = λ j h. refl }

pub one_put : (tag : ℕ) (marks : List Bool) (rows now new : List (List ℕ)) (k : ℕ) → IsPutIf tag k (is_marked marks k) now new → ArePutBelow tag marks rows now k →
    ArePutBelow tag marks rows new (k + 1)
one_put tag marks rows now new k one old =
    let here = one.here ∙ ap (λ (r : List ℕ). r ++ cond (is_marked marks k) (tag ∷ []) []) (old.rest k (omega arith)) in
    record {
      put = λ j h. ⊎_elim (λ e. subst (λ (x : ℕ). slice_index_or new x [] ≡ slice_index_or rows x [] ++ cond (is_marked marks x) (tag ∷ []) []) (sym e) here)
          (λ ne. one.others j ne ∙ old.put j (omega (arith, h, ne))) (cases_eq j k);
      rest = λ j h. one.others j (λ e. absurd (omega (arith, h, e))) ∙ old.rest j (omega (arith, h));
    }

pub rows_long : {A : Type 0} (rows : List (Vec TagId A)) → length (tag_rows rows) ≡ length rows
rows_long {A} rows = length-map (row_items rows) (λ (row : List TagId). map (λ (t : TagId). t.0) row) ∙ length-map rows (λ (r : Vec TagId A). r.items)

pub all_put : {A : Type 0} (tag : ℕ) (marks : List Bool) (rows new : List (Vec TagId A)) (k : ℕ) → length new ≡ length rows → length rows ≤ k →
    ArePutBelow tag marks (tag_rows rows) (tag_rows new) k → HasAdded tag marks (tag_rows rows) (tag_rows new)
all_put {A} tag marks rows new k same high put =
    record { each = count_kept rows new same; row = λ j h. put.put j (let w = rows_long rows in omega (arith, h, w, high)) }

-- ---- numbers below a bound

range_last : (a n : ℕ) → range_with_len a (n + 1) ≡ range_with_len a n ++ (a + n) ∷ []
range_last a zero = let e : a ≡ a + 0 = omega arith in ap (λ (x : ℕ). x ∷ []) e
range_last a (suc n) =
    let e : a + 1 + n ≡ a + suc n = omega arith in
    let f : suc n + 1 ≡ suc (n + 1) = omega arith in
    ap (range_with_len a) f ∙ ap (λ (xs : List ℕ). a ∷ xs) (range_last (a + 1) n ∙ ap (λ (x : ℕ). range_with_len (a + 1) n ++ x ∷ []) e)

filter_next : (test : ℕ → Bool) (n : ℕ) → filter test (numbers_below (n + 1)) ≡ filter test (numbers_below n) ++ cond (test n) (n ∷ []) []
filter_next test n =
    let e : 0 + n ≡ n = omega arith in
    ap (filter test) (range_last 0 n ∙ ap (λ (x : ℕ). numbers_below n ++ x ∷ []) e) ∙ filter-append test (numbers_below n) (n ∷ [])

pub filter_alike : (f g : ℕ → Bool) (a n : ℕ) → ((k : ℕ) → a ≤ k → k < a + n → f k ≡ g k) → filter f (range_with_len a n) ≡ filter g (range_with_len a n)
filter_alike f g a zero h = refl
filter_alike f g a (suc n) h =
    let rest = filter_alike f g (a + 1) n (λ k low high. h k (omega (arith, low)) (omega (arith, high))) in
    ap (λ (b : Bool). cond b (a ∷ filter f (range_with_len (a + 1) n)) (filter f (range_with_len (a + 1) n))) (h a (omega arith) (omega arith))
    ∙ ap (λ (xs : List ℕ). cond (g a) (a ∷ xs) xs) rest

range_steps : (a n k : ℕ) → k < n → slice_index (range_with_len a n) k ≡ a + k
range_steps a zero k h = absurd (omega (arith, h))
range_steps a (suc n) zero h = omega arith
range_steps a (suc n) (suc k) h = let w = range_steps (a + 1) n k (omega (arith, h)) in omega (arith, w)

range_long : (a n : ℕ) → length (range_with_len a n) ≡ n
range_long a zero = refl
range_long a (suc n) = ap suc (range_long (a + 1) n)

range_ascends : (n : ℕ) → IsStrictlyIncreasing (numbers_below n)
range_ascends n k h =
    let e = range_long 0 n in let f = range_steps 0 n k (omega (arith, h, e)) in let g = range_steps 0 n (k + 1) (omega (arith, h, e)) in omega (arith, f, g)

-- ---- what the rows list

pub nothing_listed : (P : ℕ → ℕ → Type 0) (rows : List (List ℕ)) (n : ℕ) → AreBare rows n → AreListed P rows 0
nothing_listed P rows n bare = record { test = λ k tag. true; decides = λ k tag h less. absurd (omega (arith, less)); are = λ k h. bare.bare k }

alike : (a b : Bool) → (a ≡ true → b ≡ true) → (b ≡ true → a ≡ true) → a ≡ b
alike true b f g = sym (f refl)
alike false true f g = g refl
alike false false f g = refl

-- one tag more
pub one_listed : (P : ℕ → ℕ → Type 0) (rows new : List (List ℕ)) (marks : List Bool) (t : ℕ) → HasAdded t marks rows new →
    ((k : ℕ) → (is_marked marks k ≡ true) ↔ P k t) → AreListed P rows t → AreListed P new (t + 1)
one_listed P rows new marks t added marked old =
    let test : ℕ → ℕ → Bool = λ k tag. cond (tag == t) (is_marked marks k) (old.test k tag) in
    let at_last = λ (k : ℕ). ap (λ (b : Bool). cond b (is_marked marks k) (old.test k t)) (eq-eqb t t refl) in
    let before = λ (k tag : ℕ) (less : tag < t). ap (λ (b : Bool). cond b (is_marked marks k) (old.test k tag)) (ne_eqb tag t (λ e. absurd (omega (arith, e, less)))) in
    let inside = λ (k : ℕ) (h : k < length new). subst (λ (n : ℕ). k < n) added.each h in
    record {
      test = test;
      decides = λ k tag h less. ⊎_elim
          (λ e. let here : test k tag ≡ is_marked marks k = ap (test k) e ∙ at_last k in
          (λ g. subst (λ (x : ℕ). P k x) (sym e) ((marked k).0 (sym here ∙ g)), λ g. here ∙ (marked k).1 (subst (λ (x : ℕ). P k x) e g)))
          (λ ne. let low : tag < t = omega (arith, less, ne) in
          let d = old.decides k tag (inside k h) low in (λ g. d.0 (sym (before k tag low) ∙ g), λ g. before k tag low ∙ d.1 g))
          (cases_eq tag t);
      are = λ k h. added.row k (inside k h)
          ∙ (ap (λ (xs : List ℕ). xs ++ cond (is_marked marks k) (t ∷ []) []) (old.are k (inside k h) ∙ filter_alike (old.test k) (test k) 0 t (λ j low high. sym (before k j (omega (arith, high)))))
          ∙ (ap (λ (b : Bool). filter (test k) (numbers_below t) ++ cond b (t ∷ []) []) (sym (at_last k)) ∙ sym (filter_next (test k) t)));
    }

-- a tag that is put into the marked rows, and one that is put into none

pub lists_more : (P : ℕ → ℕ → Type 0) (tag : ℕ) (marks : List Bool) (rows new : List (List ℕ)) → HasAdded tag marks rows new → ((k : ℕ) → (is_marked marks k ≡ true) ↔ P k tag) →
    ListsOneMore P tag rows new
lists_more P tag marks rows new added marked = record { each = added.each; more = λ old. one_listed P rows new marks tag added marked old }

pub lists_none : (P : ℕ → ℕ → Type 0) (tag : ℕ) (rows : List (List ℕ)) → ((k : ℕ) → P k tag → ⊥) → ListsOneMore P tag rows rows
lists_none P tag rows none =
    let added : HasAdded tag [] rows rows = record { each = refl; row = λ k h. sym (append-nil (slice_index_or rows k [])) } in
    lists_more P tag [] rows rows added (λ k. (λ h. absurd (false≢true h), λ w. absurd (none k w)))

module _ (P : ℕ → ℕ → Type 0) (rows : List (List ℕ)) (n : ℕ) (listed : AreListed P rows n) (k : ℕ) (there : k < length rows) where
  pub listed_ascending : IsStrictlyIncreasing (slice_index_or rows k [])
  listed_ascending = subst (λ (xs : List ℕ). IsStrictlyIncreasing xs) (sym (listed.are k there)) (IsStrictlyIncreasing-filter (listed.test k) (numbers_below n) (range_ascends n))

  pub listed_holds : (tag : ℕ) → has (slice_index_or rows k []) tag ≡ true → (tag < n) × P k tag
  listed_holds tag h =
      let w = has_kept (listed.test k) 0 n tag (subst (λ (xs : List ℕ). has xs tag ≡ true) (listed.are k there) h) in
      let less : tag < n = omega (arith, w.1) in (less, (listed.decides k tag there less).0 w.2)

  pub holds_listed : (tag : ℕ) → tag < n → P k tag → has (slice_index_or rows k []) tag ≡ true
  holds_listed tag less h =
      subst (λ (xs : List ℕ). has xs tag ≡ true) (sym (listed.are k there)) (kept_has (listed.test k) 0 n tag (omega arith) (omega (arith, less)) ((listed.decides k tag there less).1 h))

  -- a test of the same fact gives the row
  pub listed_by : (test : ℕ → Bool) → ((tag : ℕ) → tag < n → (test tag ≡ true) ↔ P k tag) → slice_index_or rows k [] ≡ filter test (numbers_below n)
  listed_by test same =
      listed.are k there
      ∙ filter_alike (listed.test k) test 0 n
      (λ tag low high. let less : tag < n = omega (arith, high) in
      alike (listed.test k tag) (test tag) (λ h. (same tag less).1 ((listed.decides k tag there less).0 h)) (λ h. (listed.decides k tag there less).1 ((same tag less).0 h)))
