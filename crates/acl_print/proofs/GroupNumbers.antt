-- A group is found by its members as it is by its prefixes.
use Rattle.std.proofs.Common.{arith, ◌≡◌, ◌∙◌, refl, sym, ap, ◌&&◌, ◌||◌, Bool, true, false, List, [], ◌∷◌, ◌++◌, map, position, cond, nat_lt, Some, None}
use Rattle.std.proofs.lemmas.List.{length-map, map-append}
use Rattle.std.specs.List.{list_any, position_or_len}
use Rattle.std.specs.Cmp.Lexicographic.{pointwise}
use Rattle.spoc_base.specs.Address.{Cidr}
use Rattle.acl_print.specs.declared.groups.Member.{Member}
use Rattle.acl_print.specs.Seen.{member_seen}
use Rattle.acl_print.specs.Groups.{is_equal, same_prefixes, is_several, with_group}

module _ {A B : Type 0} (test : B → Bool) (f : A → B) where
  position_or_len_map : (xs : List A) → position_or_len (λ x. test (f x)) xs ≡ position_or_len test (map f xs)
  position_or_len_map [] = refl
  position_or_len_map (x ∷ xs) = Prim.grind (arith, position_or_len_map xs)

  position_map : (xs : List A) → position (λ x. test (f x)) xs ≡ position test (map f xs)
  position_map xs i = cond (nat_lt (position_or_len_map xs i) (sym (length-map xs f) i)) (Some (position_or_len_map xs i)) None

  pub list_any_map : (xs : List A) → list_any (λ x. test (f x)) xs ≡ list_any test (map f xs)
  list_any_map [] = refl
  list_any_map (x ∷ xs) = ap (λ b. test (f x) || b) (list_any_map xs)

same_members : (xs ys : List Member) → pointwise (λ a b. is_equal (member_seen a) (member_seen b)) xs ys ≡ same_prefixes (map member_seen xs) (map member_seen ys)
same_members [] [] = refl
same_members [] (y ∷ ys) = refl
same_members (x ∷ xs) [] = refl
same_members (x ∷ xs) (y ∷ ys) = ap (λ b. is_equal (member_seen x) (member_seen y) && b) (same_members xs ys)

module _ {K : Type 0} (items : K → List Member) (key : List Member) where
  abbrev is_key : K → Bool
  is_key k = pointwise (λ a b. is_equal (member_seen a) (member_seen b)) key (items k)

  abbrev prefixes_in : K → List Cidr
  prefixes_in k = map member_seen (items k)

  pub number_by_members : (keys : List K) → position is_key keys ≡ position (same_prefixes (map member_seen key)) (map prefixes_in keys)
  number_by_members keys = (λ i. position (λ k. same_members key (items k) i) keys) ∙ position_map (same_prefixes (map member_seen key)) prefixes_in keys

  pub is_there_by_members : (keys : List K) → list_any is_key keys ≡ list_any (same_prefixes (map member_seen key)) (map prefixes_in keys)
  is_there_by_members keys = (λ i. list_any (λ k. same_members key (items k) i) keys) ∙ list_any_map (same_prefixes (map member_seen key)) prefixes_in keys

  abbrev with_key : List K → K → List K
  with_key keys k = cond (list_any is_key keys) keys (keys ++ k ∷ [])

  -- one end more, where its members are added unless they are there
  pub added_by_members : (keys : List K) (k : K) (ps : List Cidr) (groups : List (List Cidr)) → items k ≡ key → map member_seen key ≡ ps → map prefixes_in keys ≡ groups → is_several ps ≡ true →
      map prefixes_in (with_key keys k) ≡ with_group groups ps
  added_by_members keys k ps groups its same view several =
      mapped (list_any is_key keys)
      ∙ ap (λ b. cond b (map prefixes_in keys) (map prefixes_in keys ++ prefixes_in k ∷ [])) (is_there_by_members keys)
      ∙ (λ i. cond (list_any (same_prefixes (same i)) (view i)) (view i) (view i ++ (ap (map member_seen) its ∙ same) i ∷ []))
      ∙ sym (ap (λ s. cond s (cond (list_any (same_prefixes ps) groups) groups (groups ++ ps ∷ [])) groups) several)
    where
      mapped : (b : Bool) → map prefixes_in (cond b keys (keys ++ k ∷ [])) ≡ cond b (map prefixes_in keys) (map prefixes_in keys ++ prefixes_in k ∷ [])
      mapped true = refl
      mapped false = map-append prefixes_in keys (k ∷ [])
