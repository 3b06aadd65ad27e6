-- The numbers of names among those of their kind.
use Rattle.std.proofs.Common.{arith, ◌≡◌, ◌∙◌, refl, sym, ap, ℕ, ◌+◌, ◌<◌, ◌≤◌, Bool, true, false, not, ◌&&◌, ◌||◌, cond, List, [], ◌∷◌, length, map, filter, position, nat_lt, Some, None, Option, IfSome, get_or}
use Rattle.std.specs.Str.{bytes_eq}
use Rattle.std.specs.List.{list_all, position_or_len}
use Rattle.std.proofs.lemmas.List.{length-map}
use Rattle.std.proofs.lemmas.List.Filters.{length-filter_both}
use Rattle.std.proofs.lemmas.Option.{IfSome_then}
use Rattle.spoc_base.specs.declared.place.Named.{Named}
use Rattle.policy_model.specs.Lists.{once_each}
use Rattle.policy_decls.specs.Names.{NameKind, TagName, number_of_kind, same_kind, Mention}
use Rattle.policy_decls.specs.Uses.{is_tag, names_it}
use Rattle.policy_decls.specs.Said.{same_text}
use Rattle.policy_names.specs.declared.mention.NameKind as kinds
use Rattle.policy_names.specs.declared.mention.NameKind.TheVariants.{Network, Host, Tag, Router, Iface, Group, Area, Aggregate, Protocol, ProtocolGroup, Restriction, Service}
use Rattle.policy_names.specs.Seen.{kind_seen}
use Rattle.policy_names.specs.Tables.{Key, same_key, key, key_of, text_of, of_kind, row_of, numbered, AreTables}
use Rattle.policy_names.proofs.TestLemmas.{position_map}
use Rattle.policy_names.proofs.Noted.{eqb_sym, kind_below}

-- ---- tests that agree where a third one holds

pub and_first : (a b : Bool) → (a && b) ≡ true → a ≡ true
and_first true b e = refl
and_first false b e = e

pub and_second : (a b : Bool) → (a && b) ≡ true → b ≡ true
and_second true b e = e
and_second false b e = absurd (cc)

module _ {A : Type 0} (f p q : A → Bool) (agree : (x : A) → f x ≡ true → p x ≡ q x) where
  or_len_same : (xs : List A) → list_all f xs ≡ true → position_or_len p xs ≡ position_or_len q xs
  or_len_same [] h = refl
  or_len_same (x ∷ xs) h =
      ap (λ b. cond (not b) (1 + position_or_len p xs) 0) (agree x (and_first (f x) (list_all f xs) h)) ∙ ap (λ n. cond (not (q x)) (1 + n) 0) (or_len_same xs (and_second (f x) (list_all f xs) h))

  pub position_same : (xs : List A) → list_all f xs ≡ true → position p xs ≡ position q xs
  position_same xs h i = cond (nat_lt (or_len_same xs h i) (length xs)) (Some (or_len_same xs h i)) None

module _ {A : Type 0} (f : A → Bool) where
  kept : (x : A) (xs : List A) (b : Bool) → f x ≡ b → list_all f xs ≡ true → list_all f (cond b (x ∷ xs) xs) ≡ true
  kept x xs true e h = ap (λ b. b && list_all f xs) e ∙ h
  kept x xs false e h = h

  pub all_filter : (xs : List A) → list_all f (filter f xs) ≡ true
  all_filter [] = refl
  all_filter (x ∷ xs) = kept x (filter f xs) (f x) refl (all_filter xs)

  still : (x : A) (xs : List A) (b : Bool) → f x ≡ true → list_all f xs ≡ true → list_all f (cond b (x ∷ xs) xs) ≡ true
  still x xs true e h = ap (λ b. b && list_all f xs) e ∙ h
  still x xs false e h = h

  all_filter_still : (g : A → Bool) (xs : List A) → list_all f xs ≡ true → list_all f (filter g xs) ≡ true
  all_filter_still g [] h = refl
  all_filter_still g (x ∷ xs) h = still x (filter g xs) (g x) (and_first (f x) (list_all f xs) h) (all_filter_still g xs (and_second (f x) (list_all f xs) h))

  pub all_once : (same : A → A → Bool) (xs : List A) → list_all f xs ≡ true → list_all f (once_each same xs) ≡ true
  all_once same [] h = refl
  all_once same (x ∷ xs) h =
      ap (λ b. b && list_all f (filter (λ y. not (same x y)) (once_each same xs))) (and_first (f x) (list_all f xs) h)
      ∙ all_filter_still (λ y. not (same x y)) (once_each same xs) (all_once same xs (and_second (f x) (list_all f xs) h))

-- ---- numbers

and_swap : (a b : Bool) → (a && b) ≡ (b && a)
and_swap true true = refl
and_swap true false = refl
and_swap false true = refl
and_swap false false = refl

module _ (names : List Mention) (owner text : List ℕ) (shown : Named) where
  abbrev asked : NameKind → Mention
  asked k = record { kind = k; owner = owner; text = text; shown = shown }

  own_test : (k : NameKind) → is_tag k ≡ false → (x : Mention) → same_kind x.kind k ≡ true → same_key (key owner text) (key_of x) ≡ names_it (asked k) x
  own_test k e x h =
      and_swap (bytes_eq owner x.owner) (bytes_eq text x.text)
      ∙ sym (ap (λ b. (b && bytes_eq text x.text) && (is_tag k || bytes_eq owner x.owner)) (eqb_sym (number_of_kind k) (number_of_kind x.kind) ∙ h) ∙ ap (λ b. bytes_eq text x.text && (b || bytes_eq owner x.owner)) e)

  pub find_kind : (k : NameKind) → is_tag k ≡ false → position (same_key (key owner text)) (row_of names (number_of_kind k)) ≡ position (names_it (asked k)) (numbered names k)
  find_kind k e =
      sym (position_map (same_key (key owner text)) key_of (of_kind names k)) ∙ position_same (λ x. same_kind x.kind k) (λ x. same_key (key owner text) (key_of x)) (names_it (asked k)) (own_test k e) (of_kind names k) (all_filter (λ x. same_kind x.kind k) names)
      ∙ ap (λ b. position (names_it (asked k)) (cond b (once_each same_text (of_kind names k)) (of_kind names k))) (sym e)

  tag_test : (x : Mention) → same_kind x.kind TagName ≡ true → same_key (key [] text) (text_of x) ≡ names_it (asked TagName) x
  tag_test x h = sym (and_true (bytes_eq text x.text)) ∙ sym (ap (λ b. (b && bytes_eq text x.text) && true) (eqb_sym 2 (number_of_kind x.kind) ∙ h))
    where
      and_true : (b : Bool) → (b && true) ≡ b
      and_true true = refl
      and_true false = refl

  pub find_tag : position (same_key (key [] text)) (map text_of (once_each same_text (of_kind names TagName))) ≡ position (names_it (asked TagName)) (numbered names TagName)
  find_tag =
      sym (position_map (same_key (key [] text)) text_of (once_each same_text (of_kind names TagName)))
      ∙ position_same (λ x. same_kind x.kind TagName) (λ x. same_key (key [] text) (text_of x)) (names_it (asked TagName)) tag_test (once_each same_text (of_kind names TagName))
      (all_once (λ x. same_kind x.kind TagName) same_text (of_kind names TagName) (all_filter (λ x. same_kind x.kind TagName) names))

-- ---- how many there are

filter_length : {A : Type 0} (f : A → Bool) (xs : List A) → length (filter f xs) ≤ length xs
filter_length f xs = omega (arith, length-filter_both f (λ x. not (f x)) (λ _. refl) xs)

pub once_length : {A : Type 0} (same : A → A → Bool) (xs : List A) → length (once_each same xs) ≤ length xs
once_length same [] = omega arith
once_length same (x ∷ xs) = let a = filter_length (λ y. not (same x y)) (once_each same xs) in let b = once_length same xs in omega arith

pub numbered_length : (names : List Mention) (k : NameKind) → length (numbered names k) ≤ length names
numbered_length names k = by_kind (is_tag k)
  where
    by_kind : (b : Bool) → length (cond b (once_each same_text (of_kind names k)) (of_kind names k)) ≤ length names
    by_kind true = let a = once_length same_text (of_kind names k) in let b = filter_length (λ name. same_kind name.kind k) names in omega arith
    by_kind false = filter_length (λ name. same_kind name.kind k) names

pub row_length : (names : List Mention) (k : NameKind) → is_tag k ≡ false → length (row_of names (number_of_kind k)) ≡ length (numbered names k)
row_length names k e = length-map (of_kind names k) key_of ∙ ap (λ b. length (cond b (once_each same_text (of_kind names k)) (of_kind names k))) (sym e)

pub texts_length : (names : List Mention) → length (map text_of (once_each same_text (of_kind names TagName))) ≡ length (numbered names TagName)
texts_length names = length-map (once_each same_text (of_kind names TagName)) text_of

-- ---- the tables of a kind

pub not_tag : (k : kinds.NameKind) → (k ≡ Tag → ⊥) → is_tag (kind_seen k) ≡ false
not_tag Network h = refl
not_tag Host h = refl
not_tag Tag h = absurd (h refl)
not_tag Router h = refl
not_tag Iface h = refl
not_tag Group h = refl
not_tag Area h = refl
not_tag Aggregate h = refl
not_tag Protocol h = refl
not_tag ProtocolGroup h = refl
not_tag Restriction h = refl
not_tag Service h = refl

module _ (names : List Mention) (rows : List (List Key)) (texts : List Key) (tables : AreTables names rows texts) where
  row_is : (k : NameKind) (row : List Key) → row ≡ get_or rows (number_of_kind k) [] → row ≡ row_of names (number_of_kind k)
  row_is k row e = e ∙ tables.keys (number_of_kind k) (kind_below k)

  pub kind_found : (k : NameKind) (owner text : List ℕ) (shown : Named) (row : List Key) (found : Option ℕ) → is_tag k ≡ false → row ≡ get_or rows (number_of_kind k) [] → found ≡ position (same_key (key owner text)) row
      → found ≡ position (names_it (record { kind = k; owner = owner; text = text; shown = shown })) (numbered names k)
  kind_found k owner text shown row found e at h = h ∙ ap (position (same_key (key owner text))) (row_is k row at) ∙ find_kind names owner text shown k e

  pub tag_found : (owner text : List ℕ) (shown : Named) (found : Option ℕ) → found ≡ position (same_key (key [] text)) texts
      → found ≡ position (names_it (record { kind = TagName; owner = owner; text = text; shown = shown })) (numbered names TagName)
  tag_found owner text shown found h = h ∙ ap (position (same_key (key [] text))) tables.tags ∙ find_tag names owner text shown

  pub kind_length : (k : NameKind) (row : List Key) → is_tag k ≡ false → row ≡ get_or rows (number_of_kind k) [] → length row ≡ length (numbered names k)
  kind_length k row e at = ap length (row_is k row at) ∙ row_length names k e

  pub tag_length : length texts ≡ length (numbered names TagName)
  tag_length = ap length tables.tags ∙ texts_length names

  pub kind_within : (k : NameKind) (row : List Key) → is_tag k ≡ false → row ≡ get_or rows (number_of_kind k) [] → length row ≤ length names
  kind_within k row e at = let a = kind_length k row e at in let b = numbered_length names k in omega arith

  pub tag_within : length texts ≤ length names
  tag_within = let a = tag_length in let b = numbered_length names TagName in omega arith

  pub found_within : (found : Option ℕ) (most : ℕ) → most ≤ length names → IfSome found (λ n. n < most) → IfSome found (λ n. n < length names)
  found_within found most l h = IfSome_then found h (λ n m. omega arith)
