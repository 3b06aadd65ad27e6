-- The groups of a printed text.
use Rattle.std.proofs.Common.{◌≡◌, ◌⊎◌, inl, inr, ◌∙◌, refl, sym, ap, ℕ, suc, ◌+◌, ◌<◌, ◌≤◌, ◌^◌, eqb, leb, Bool, true, false, not, cond, filter, ◌&&◌, List, [], ◌∷◌, ◌++◌, length, map, flat_map, append-nil, arith, codes, decimal, bytes_eq, Some, None}
use Rattle.std.specs.List.{AllByRecursion, list_any, position_or_len}
use Rattle.std.specs.Option.{unwrap_or}
use Rattle.std.specs.Cmp.Lexicographic.{pointwise_decides}
use Rattle.std.proofs.lemmas.Grind.{flat_map-append}
use Rattle.std.proofs.lemmas.List.{append_cancel_left}
use Rattle.std.proofs.lemmas.Bool.{and_parts, eqb-true, eq-eqb, both_ways, false_from_ne_true, or_left, or_right, or_cases, or_from, lt-ltb, le-leb, false≢true}
use Rattle.std.proofs.lemmas.Fmt.{decimal_injective}
use Rattle.std.proofs.lemmas.Slice.Eq.{bytes_eq-Decides}
use Rattle.spoc_base.specs.Address.{Cidr}
use Rattle.spoc_base.specs.declared.dialect.Dialect.TheVariants.{Asa}
use Rattle.policy_model.specs.Lists.{once_each}
use Rattle.policy_model.specs.Filters.{Line}
use Rattle.acl_print.specs.Groups.{is_equal, same_prefixes, is_several, ends_of, groups_of, group_number, group_name}
use Rattle.device_reading.specs.Facts.{PortAt, Fact, OpensGroup, HasMember}
use Rattle.spoc_base.specs.Spelling.{is_word_byte}
use Rattle.device_reading.specs.Grammar.{IsWord, IsPrefix, owner, opens_group, member_in, AreFacts}
use Rattle.text_laws.specs.Printable.{IsPrintedEnd, IsPrintedLine, IsPrintedList}
use Rattle.text_laws.proofs.Pieces.{IsBetween, all_append, all_like}
use Rattle.text_laws.proofs.Numerals.{decimal_between}
use Rattle.text_laws.proofs.Ports.{all_filtered}
use Rattle.text_laws.proofs.Printed.{group_facts, groups_facts}
use Rattle.text_laws.proofs.Standing.{same_bytes, none_more, owner_heading, owner_kept, facts_join}

-- ---- equal prefixes

pub equal_decides : (p q : Cidr) → (is_equal p q ≡ true → p ≡ q) × (p ≡ q → is_equal p q ≡ true)
equal_decides p q = (there, back)
  where
    there : is_equal p q ≡ true → p ≡ q
    there e =
        let parts = and_parts (eqb p.net q.net) (eqb p.len q.len) e in
        let n = eqb-true p.net q.net parts.0 in
        let m = eqb-true p.len q.len parts.1 in
        λ i. record { net = n i; len = m i }

    back : p ≡ q → is_equal p q ≡ true
    back e = ap (λ b. b && eqb p.len q.len) (eq-eqb p.net q.net (ap (λ (r : Cidr). r.net) e)) ∙ eq-eqb p.len q.len (ap (λ (r : Cidr). r.len) e)

pub prefixes_decide : (ps qs : List Cidr) → (same_prefixes ps qs ≡ true → ps ≡ qs) × (ps ≡ qs → same_prefixes ps qs ≡ true)
prefixes_decide = pointwise_decides equal_decides

-- ---- what is in a list is among its items at their first places

module _ {A : Type 0} where
  any_kept : (test keep : A → Bool) → ((x : A) → test x ≡ true → keep x ≡ true) → (xs : List A) → list_any test xs ≡ true → list_any test (filter keep xs) ≡ true
  any_kept test keep h [] e = e
  any_kept test keep h (x ∷ xs) e = by (or_cases (test x) (list_any test xs) e) (any_kept test keep h xs) (keep x) refl
    where
      by : (test x ≡ true) ⊎ (list_any test xs ≡ true) → (list_any test xs ≡ true → list_any test (filter keep xs) ≡ true) → (b : Bool) → keep x ≡ b → list_any test (cond b (x ∷ filter keep xs) (filter keep xs)) ≡ true
      by (inl f) ih true k = or_left (test x) (list_any test (filter keep xs)) f
      by (inl f) ih false k = absurd (both_ways (keep x) k (h x f))
      by (inr f) ih true k = or_right (test x) (list_any test (filter keep xs)) (ih f)
      by (inr f) ih false k = ih f

  any_more : (test : A → Bool) (x : A) (xs : List A) → list_any test xs ≡ true → list_any test (x ∷ xs) ≡ true
  any_more test x xs e = or_right (test x) (list_any test xs) e

  module _ (same : A → A → Bool) (decides : (x y : A) → (same x y ≡ true → x ≡ y) × (x ≡ y → same x y ≡ true)) where
    each_there : (xs : List A) → AllByRecursion (λ x. list_any (same x) xs ≡ true) xs
    each_there [] = tt
    each_there (x ∷ xs) = (
      or_left (same x x) (list_any (same x) xs) ((decides x x).1 refl),
      all_like (λ y. list_any (same y) xs ≡ true) (λ y. list_any (same y) (x ∷ xs) ≡ true) (λ y. any_more (same y) x xs) xs (each_there xs),
    )

    other_kept : (x y : A) → same x y ≡ false → (z : A) → same x z ≡ true → not (same y z) ≡ true
    other_kept x y e z f = by (same y z) refl
      where
        by : (b : Bool) → same y z ≡ b → not b ≡ true
        by false g = refl
        by true g = absurd (both_ways (same x y) e ((decides x y).1 ((decides x z).0 f ∙ sym ((decides y z).0 g))))

    once_there : (x : A) (xs : List A) → list_any (same x) xs ≡ true → list_any (same x) (once_each same xs) ≡ true
    once_there x [] e = e
    once_there x (y ∷ ys) e = by (same x y) refl (or_cases (same x y) (list_any (same x) ys) e) (once_there x ys)
      where
        by : (b : Bool) → same x y ≡ b → (same x y ≡ true) ⊎ (list_any (same x) ys ≡ true) → (list_any (same x) ys ≡ true → list_any (same x) (once_each same ys) ≡ true) →
            list_any (same x) (y ∷ filter (λ z. not (same y z)) (once_each same ys)) ≡ true
        by true f c ih = or_left (same x y) (list_any (same x) (filter (λ z. not (same y z)) (once_each same ys))) f
        by false f (inl g) ih = absurd (both_ways (same x y) f g)
        by false f (inr g) ih =
            or_right (same x y) (list_any (same x) (filter (λ z. not (same y z)) (once_each same ys))) (any_kept (same x) (λ z. not (same y z)) (other_kept x y f) (once_each same ys) (ih g))

    all_once : (P : A → Type 0) (xs : List A) → AllByRecursion P xs → AllByRecursion P (once_each same xs)
    all_once P [] h = tt
    all_once P (x ∷ xs) h = (h.0, all_filtered P (λ y. not (same x y)) (once_each same xs) (all_once P xs h.1))

module _ {A B : Type 0} (P : B → Type 0) (f : A → List B) where
  split_all : (xs ys : List B) → AllByRecursion P (xs ++ ys) → AllByRecursion P xs × AllByRecursion P ys
  split_all [] ys h = (tt, h)
  split_all (x ∷ xs) ys h = let w = split_all xs ys h.1 in ((h.0, w.0), w.1)

  pub apart_all : (xs : List A) → AllByRecursion P (flat_map f xs) → AllByRecursion (λ x. AllByRecursion P (f x)) xs
  apart_all [] h = tt
  apart_all (x ∷ xs) h = let w = split_all (f x) (flat_map f xs) h in (w.0, apart_all xs w.1)

  pub flat_all : (xs : List A) → AllByRecursion (λ x. AllByRecursion P (f x)) xs → AllByRecursion P (flat_map f xs)
  flat_all [] h = tt
  flat_all (x ∷ xs) h = all_append P (f x) (flat_map f xs) h.0 (flat_all xs h.1)

-- ---- the ends of lines are among the groups

abbrev pub IsGrouped : List (List Cidr) → List Cidr → Type 0
IsGrouped groups ps = is_several ps ≡ true → list_any (same_prefixes ps) groups ≡ true

module _ (lists : List (List Line)) where
  abbrev ends : List (List Cidr)
  ends = flat_map (λ lines. flat_map ends_of lines) lists

  keeps_several : (ps : List Cidr) → is_several ps ≡ true → (qs : List Cidr) → same_prefixes ps qs ≡ true → is_several qs ≡ true
  keeps_several ps e qs f = ap is_several (sym ((prefixes_decide ps qs).0 f)) ∙ e

  grouped_at : (ps : List Cidr) → list_any (same_prefixes ps) ends ≡ true → IsGrouped (groups_of lists) ps
  grouped_at ps e several =
      once_there same_prefixes prefixes_decide ps (filter is_several ends) (any_kept (same_prefixes ps) is_several (keeps_several ps several) ends e)

  abbrev pub AreGrouped : List Line → Type 0
  AreGrouped lines = AllByRecursion (λ l. AllByRecursion (IsGrouped (groups_of lists)) (ends_of l)) lines

  pub all_grouped : AllByRecursion AreGrouped lists
  all_grouped =
      all_like (λ lines. AllByRecursion (IsGrouped (groups_of lists)) (flat_map ends_of lines)) AreGrouped (λ lines. apart_all (IsGrouped (groups_of lists)) ends_of lines) lists
      (apart_all (IsGrouped (groups_of lists)) (λ lines. flat_map ends_of lines) lists
      (all_like (λ ps. list_any (same_prefixes ps) ends ≡ true) (IsGrouped (groups_of lists)) grouped_at ends (each_there same_prefixes prefixes_decide ends)))

  end_prefixes : (ps : List Cidr) → IsPrintedEnd Asa ps → AllByRecursion IsPrefix ps
  end_prefixes [] h = absurd h
  end_prefixes (p ∷ ps) h = h

  line_prefixes : (l : Line) → IsPrintedLine Asa l → AllByRecursion (λ ps. AllByRecursion IsPrefix ps) (ends_of l)
  line_prefixes l h = (end_prefixes l.src h.src, (end_prefixes l.dst h.dst, tt))

  list_prefixes : (lines : List Line) → IsPrintedList Asa lines → AllByRecursion (λ ps. AllByRecursion IsPrefix ps) (flat_map ends_of lines)
  list_prefixes lines h =
      flat_all (λ ps. AllByRecursion IsPrefix ps) ends_of lines (all_like (IsPrintedLine Asa) (λ l. AllByRecursion (λ ps. AllByRecursion IsPrefix ps) (ends_of l)) line_prefixes lines h.1)

  pub group_prefixes : AllByRecursion (IsPrintedList Asa) lists → AllByRecursion (λ ps. AllByRecursion IsPrefix ps) (groups_of lists)
  group_prefixes h =
      let Good : List Cidr → Type 0 = λ ps. AllByRecursion IsPrefix ps in
      all_once same_prefixes prefixes_decide Good (filter is_several ends) (all_filtered Good is_several ends
      (flat_all Good (λ lines. flat_map ends_of lines) lists (all_like (IsPrintedList Asa) (λ lines. AllByRecursion Good (flat_map ends_of lines)) list_prefixes lists h)))

-- ---- the names of groups

digit_byte : (b : ℕ) → IsBetween 48 57 b → is_word_byte b ≡ true
digit_byte b h =
    let low = le-leb 48 b h.above in
    let high = le-leb b 57 h.below in
    or_right _ _ (or_right _ _ (or_left _ _ (ap (λ x. x && leb b 57) low ∙ high)))

pub group_word : (k : ℕ) → k < 2 ^ 64 → IsWord (group_name k)
group_word k h = record {
  some = λ e. cc;
  bytes = (refl, all_like (IsBetween 48 57) (λ b. is_word_byte b ≡ true) digit_byte (decimal k) (decimal_between k h));
}

pub other_group : (j k : ℕ) → j < 2 ^ 64 → k < 2 ^ 64 → (j ≡ k → ⊥) → bytes_eq (group_name j) (group_name k) ≡ false
other_group j k h l n =
    false_from_ne_true (bytes_eq (group_name j) (group_name k))
    (λ f. n (decimal_injective j k h l (append_cancel_left (codes "g") (decimal j) (decimal k) ((bytes_eq-Decides (group_name j) (group_name k)).0 f))))

-- what passes the test somewhere passes it at a place of the list
pub in_place : {A : Type 0} (test : A → Bool) (xs : List A) → list_any test xs ≡ true → position_or_len test xs < length xs
in_place test [] e = absurd (false≢true e)
in_place test (x ∷ xs) e = by (test x) (or_cases (test x) (list_any test xs) e) (in_place test xs) refl
  where
    by : (b : Bool) → (test x ≡ true) ⊎ (list_any test xs ≡ true) → (list_any test xs ≡ true → position_or_len test xs < length xs) → test x ≡ b → cond (not b) (1 + position_or_len test xs) 0 < suc (length xs)
    by true c ih f = omega arith
    by false (inl c) ih f = absurd (both_ways (test x) f c)
    by false (inr c) ih f = let l = ih c in omega (arith, l)

-- ---- the members of groups

members_own : (name : List ℕ) (members : List Cidr) → flat_map (member_in name) (map (HasMember name) members) ≡ members
members_own name [] = refl
members_own name (m ∷ members) = let e = same_bytes name in let k = members_own name members in λ i. cond (e i) (m ∷ []) [] ++ k i

members_other : (name other : List ℕ) (members : List Cidr) → bytes_eq name other ≡ false → flat_map (member_in other) (map (HasMember name) members) ≡ []
members_other name other [] e = refl
members_other name other (m ∷ members) e = let k = members_other name other members e in λ i. cond (e i) (m ∷ []) [] ++ k i

later_members : (j k : ℕ) (groups : List (List Cidr)) → j < k → k + length groups < 2 ^ 64 → flat_map (member_in (group_name j)) (groups_facts k groups) ≡ []
later_members j k [] h l = refl
later_members j k (g ∷ groups) h l =
    let e = members_other (group_name k) (group_name j) g (other_group k j (omega arith) (omega arith) (λ e. omega (arith, e))) in
    let f = later_members j (k + 1) groups (omega arith) (omega arith) in
    flat_map-append (member_in (group_name j)) (group_facts k g) (groups_facts (k + 1) groups) ∙ (λ i. e i ++ f i)

pub members_found : (k j : ℕ) (groups : List (List Cidr)) (ps : List Cidr) → list_any (same_prefixes ps) groups ≡ true → k + length groups < 2 ^ 64 → j ≡ k + position_or_len (same_prefixes ps) groups →
    flat_map (member_in (group_name j)) (groups_facts k groups) ≡ ps
members_found k j [] ps e l at = absurd (false≢true e)
members_found k j (g ∷ groups) ps e l at = by (same_prefixes ps g) refl at (or_cases (same_prefixes ps g) (list_any (same_prefixes ps) groups) e) (members_found (k + 1) j groups ps)
  where
    joined : flat_map (member_in (group_name j)) (groups_facts k (g ∷ groups)) ≡ flat_map (member_in (group_name j)) (group_facts k g) ++ flat_map (member_in (group_name j)) (groups_facts (k + 1) groups)
    joined = flat_map-append (member_in (group_name j)) (group_facts k g) (groups_facts (k + 1) groups)

    by : (b : Bool) → same_prefixes ps g ≡ b → j ≡ k + cond (not b) (1 + position_or_len (same_prefixes ps) groups) 0 → (same_prefixes ps g ≡ true) ⊎ (list_any (same_prefixes ps) groups ≡ true) →
        (list_any (same_prefixes ps) groups ≡ true → (k + 1) + length groups < 2 ^ 64 → j ≡ (k + 1) + position_or_len (same_prefixes ps) groups → flat_map (member_in (group_name j)) (groups_facts (k + 1) groups) ≡ ps) →
        flat_map (member_in (group_name j)) (groups_facts k (g ∷ groups)) ≡ ps
    by true f at c ih =
        let same : j ≡ k = omega (arith, at) in
        let own : flat_map (member_in (group_name j)) (group_facts k g) ≡ g = ap (λ n. flat_map (member_in (group_name n)) (group_facts k g)) same ∙ members_own (group_name k) g in
        let rest : flat_map (member_in (group_name j)) (groups_facts (k + 1) groups) ≡ [] = later_members j (k + 1) groups (omega (arith, same)) (omega arith) in
        joined ∙ (λ i. own i ++ rest i) ∙ append-nil g ∙ sym ((prefixes_decide ps g).0 f)
    by false f at (inl c) ih = absurd (both_ways (same_prefixes ps g) f c)
    by false f at (inr c) ih =
        let none : flat_map (member_in (group_name j)) (group_facts k g) ≡ [] =
        members_other (group_name k) (group_name j) g (other_group k j (omega arith) (omega (arith, at, in_place (same_prefixes ps) groups c)) (λ e. omega (arith, e, at))) in
        let rest = ih c (omega arith) (omega (arith, at)) in
        joined ∙ (λ i. none i ++ rest i)

pub number_is : (groups : List (List Cidr)) (ps : List Cidr) → list_any (same_prefixes ps) groups ≡ true → group_number groups ps ≡ position_or_len (same_prefixes ps) groups
number_is groups ps e =
    let at = position_or_len (same_prefixes ps) groups in
    ap (λ b. unwrap_or (cond b (Some at) None) 0) (lt-ltb at (length groups) (in_place (same_prefixes ps) groups e))

-- ---- the lines of groups

-- no group from this number on was opened
abbrev pub IsUnopened : List Fact → ℕ → Type 0
IsUnopened above k = (j : ℕ) → k ≤ j → j < 2 ^ 64 → list_any (opens_group (group_name j)) above ≡ false

no_opening : (name other : List ℕ) (members : List Cidr) → list_any (opens_group other) (map (HasMember name) members) ≡ false
no_opening name other [] = refl
no_opening name other (m ∷ members) = no_opening name other members

module _ (ports : List PortAt) where
  members_stand : (above : List Fact) (name : List ℕ) (members : List Cidr) → owner Asa above ≡ Some (OpensGroup name) → AllByRecursion IsPrefix members → AreFacts Asa ports above (map (HasMember name) members)
  members_stand above name [] o h = tt
  members_stand above name (m ∷ members) o h = ((o, h.0), members_stand (above ++ HasMember name m ∷ []) name members (owner_kept Asa above (HasMember name m) refl ∙ o) h.1)

  pub groups_stand : (above : List Fact) (k : ℕ) (groups : List (List Cidr)) → IsUnopened above k → AllByRecursion (λ ps. AllByRecursion IsPrefix ps) groups → k + length groups < 2 ^ 64 →
      AreFacts Asa ports above (groups_facts k groups)
  groups_stand above k [] u h l = tt
  groups_stand above k (g ∷ groups) u h l =
      let name = group_name k in
      let opening = OpensGroup name in
      let small : k < 2 ^ 64 = omega arith in
      let later : IsUnopened (above ++ group_facts k g) (k + 1) = λ j m n.
      none_more (opens_group (group_name j)) above (group_facts k g) (u j (omega (arith, m)) n)
      (or_from (bytes_eq name (group_name j)) _ (other_group k j small n (λ e. omega (arith, e, m))) (no_opening name (group_name j) g)) in
      facts_join Asa ports above (group_facts k g) (groups_facts (k + 1) groups)
      ((group_word k small, u k (omega arith) small), members_stand (above ++ opening ∷ []) name g (owner_heading Asa above opening refl) h.0)
      (groups_stand (above ++ group_facts k g) (k + 1) groups later h.1 (omega arith))
