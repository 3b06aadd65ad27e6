-- The first declaration in which something stands that must not, in one walk.
use Rattle.std.proofs.Common.{arith, ◌≡◌, ◌∙◌, refl, sym, ap, subst, ℕ, zero, suc, ◌+◌, ◌<◌, Bool, true, false, cond, List, [], ◌∷◌, ◌++◌, length, filter, flat_map, take, drop, get_or, map, Some, None, Option, is_some, option_map, option_and_then, slice_get, append_assoc, append-nil, add-one, drop-cons, length-append}
use Rattle.std.specs.Prelude.{Result, IfOk}
use Rattle.std.specs.List.{list_any, range_with_len}
use Rattle.std.proofs.lemmas.Grind.{flat_map-append}
use Rattle.spoc_base.specs.declared.place.Named.{Named}
use Rattle.spoc_ast.specs.Written.{DeclText, NetworkDecl, RouterDecl, GroupDecl, AreaDecl, AggregateDecl, ProtocolDecl, ProtocolGroupDecl, RestrictionDecl, ServiceDecl}
use Rattle.spoc_ast.specs.declared.decl.Decl.{Decl}
use Rattle.spoc_ast.specs.Seen.{decl_seen}
use Rattle.policy_decls.specs.Names.{names_in, shown_at}
use Rattle.policy_decls.specs.Lookup.{IfaceText, ifaces_in, declared_ifaces}
use Rattle.policy_decls.specs.Shapes.{first_true, shape_in, shape_at, is_bad_device, is_bad_iface, is_outside, clash_with, has_hardware_of, is_bad_binding, is_bad_shared}
use Rattle.policy_decls.specs.Faults.{name_of_decl, first_shape}
use Rattle.policy_shapes.specs.Keys.{Key, has_key, with_keys, address_keys}
use Rattle.policy_shapes.specs.Rows.{shape_by, router_ifaces, decl_keys, or_rest, first_by}
use Rattle.policy_shapes.proofs.Known.{has_appended}
use Rattle.policy_shapes.proofs.Clashes.{addresses_clash}

-- ---- the least number of a declaration

module _ (all : List DeclText) (earlier : List IfaceText) (has : Key → Bool) (known : has ≡ has_key (flat_map address_keys earlier)) where
  pub shape_known : (decl : DeclText) → shape_in all earlier decl ≡ shape_by all has decl
  shape_known (NetworkDecl name desc parts) = refl
  shape_known (RouterDecl name desc parts) =
      let ifaces = router_ifaces name parts in
      ap (λ b. first_true ((6, is_bad_device parts) ∷ (7, list_any is_bad_iface ifaces) ∷ (8, list_any (is_outside all) ifaces) ∷ (9, b) ∷ (10, clash_with has_hardware_of [] ifaces) ∷ (11, list_any is_bad_binding ifaces) ∷ (15, list_any (is_bad_shared all) ifaces) ∷ []))
      (addresses_clash earlier has known ifaces)
  shape_known (GroupDecl name desc objects) = refl
  shape_known (AreaDecl name desc parts) = refl
  shape_known (AggregateDecl name desc parts) = refl
  shape_known (ProtocolDecl name protocol notes) = refl
  shape_known (ProtocolGroupDecl name prts) = refl
  shape_known (RestrictionDecl name desc ports) = refl
  shape_known (ServiceDecl name desc idle user rules) = refl

-- ---- the walk

-- what is found among the numbers from s on, of which there are n
abbrev found_from : List DeclText → ℕ → ℕ → Option (ℕ × Named)
found_from all s n = option_and_then (λ k. option_and_then (λ m. option_map (λ name. (m, name)) (name_of_decl all k)) (shape_at all k)) (slice_get (filter (λ k. is_some (shape_at all k)) (range_with_len s n)) 0)

get_middle : {A : Type 0} (before : List A) (x : A) (rest : List A) → slice_get (before ++ x ∷ rest) (length before) ≡ Some x
get_middle [] x rest = refl
get_middle (y ∷ before) x rest = let e : length (y ∷ before) ≡ suc (length before) = omega arith in ap (slice_get (y ∷ (before ++ x ∷ rest))) e ∙ get_middle before x rest

take_front : {A : Type 0} (before rest : List A) → take (length before) (before ++ rest) ≡ before
take_front [] rest = refl
take_front (y ∷ before) rest = let e : length (y ∷ before) ≡ suc (length before) = omega arith in ap (λ n. take n (y ∷ (before ++ rest))) e ∙ ap (λ l. y ∷ l) (take_front before rest)

module _ (all : List DeclText) where
  step : (s n : ℕ) (b : Bool) → is_some (shape_at all s) ≡ b → filter (λ k. is_some (shape_at all k)) (range_with_len s (suc n)) ≡ cond b (s ∷ filter (λ k. is_some (shape_at all k)) (range_with_len (s + 1) n)) (filter (λ k. is_some (shape_at all k)) (range_with_len (s + 1) n))
  step s n b e = ap (λ c. cond c (s ∷ filter (λ k. is_some (shape_at all k)) (range_with_len (s + 1) n)) (filter (λ k. is_some (shape_at all k)) (range_with_len (s + 1) n))) e

  here : (s n : ℕ) (d : DeclText) (o : Option ℕ) (rest : Option (ℕ × Named)) → shape_at all s ≡ o → slice_get all s ≡ Some d → found_from all (s + 1) n ≡ rest → found_from all s (suc n) ≡ or_rest o d rest
  here s n d None rest e g h =
      ap (λ l. option_and_then (λ k. option_and_then (λ m. option_map (λ name. (m, name)) (name_of_decl all k)) (shape_at all k)) (slice_get l 0)) (step s n false (ap is_some e)) ∙ h
  here s n d (Some number) rest e g h =
      ap (λ l. option_and_then (λ k. option_and_then (λ m. option_map (λ name. (m, name)) (name_of_decl all k)) (shape_at all k)) (slice_get l 0)) (step s n true (ap is_some e))
      ∙ ap (option_and_then (λ m. option_map (λ name. (m, name)) (name_of_decl all s))) e
      ∙ ap (λ found. option_map (λ name. (number, name)) (option_and_then (λ decl. shown_at (names_in decl) 0) found)) g

  keys_more : (before : List DeclText) (d : DeclText) (has : Key → Bool) → has ≡ has_key (flat_map address_keys (declared_ifaces before)) → with_keys has (decl_keys d) ≡ has_key (flat_map address_keys (declared_ifaces (before ++ d ∷ [])))
  keys_more before d has e =
      ap (λ h. with_keys h (decl_keys d)) e ∙ sym (has_appended (flat_map address_keys (declared_ifaces before)) (decl_keys d))
      ∙ ap has_key (sym (flat_map-append address_keys (declared_ifaces before) (ifaces_in d)))
      ∙ ap (λ l. has_key (flat_map address_keys (declared_ifaces before ++ l))) (sym (append-nil (ifaces_in d)))
      ∙ ap (λ l. has_key (flat_map address_keys l)) (sym (flat_map-append ifaces_in before (d ∷ [])))

  walk : (rest before : List DeclText) (s n : ℕ) (has : Key → Bool) → all ≡ before ++ rest → s ≡ length before → n ≡ length rest → has ≡ has_key (flat_map address_keys (declared_ifaces before)) → found_from all s n ≡ first_by all has rest
  walk [] before s n has a l m k = ap (λ n. found_from all s n) m
  walk (d ∷ rest) before s zero has a l m k = absurd (omega arith)
  walk (d ∷ rest) before s (suc n) has a l m k =
      let at : slice_get all s ≡ Some d = ap (λ l. slice_get l s) a ∙ ap (slice_get (before ++ d ∷ rest)) l ∙ get_middle before d rest in
      let front : take s all ≡ before = ap (take s) a ∙ ap (λ i. take i (before ++ d ∷ rest)) l ∙ take_front before (d ∷ rest) in
      let shape : shape_at all s ≡ shape_by all has d =
      ap (option_and_then (shape_in all (declared_ifaces (take s all)))) at ∙ ap (λ l. shape_in all (declared_ifaces l) d) front ∙ shape_known all (declared_ifaces before) has k d in
      let next : s + 1 ≡ length (before ++ d ∷ []) = more before s l in
      let less : n ≡ length rest = omega arith in
      here s n d (shape_by all has d) (first_by all (with_keys has (decl_keys d)) rest) shape at
      (walk rest (before ++ d ∷ []) (s + 1) n (with_keys has (decl_keys d)) (a ∙ sym (append_assoc before (d ∷ []) rest)) next less (keys_more before d has k))
    where
      more : (before : List DeclText) (s : ℕ) → s ≡ length before → s + 1 ≡ length (before ++ d ∷ [])
      more before s l = omega (arith, length-append before (d ∷ []))

pub walked : (all : List DeclText) → first_shape all ≡ first_by all (has_key []) all
walked all = walk all all [] 0 (length all) (has_key []) refl refl refl refl

-- ---- a step of the walk over declarations in memory

module _ (all : List DeclText) (decls : List Decl) (i : ℕ) (d : Decl) (is : d ≡ get_or decls i d) (within : i < length decls) (has : Key → Bool) (goal : Option (ℕ × Named)) (known : first_by all has (map decl_seen (drop i decls)) ≡ goal) where
  head : map decl_seen (drop i decls) ≡ decl_seen d ∷ map decl_seen (drop (i + 1) decls)
  head = rw (add-one, drop-cons decls i d within) (ap (λ x. decl_seen x ∷ map decl_seen (drop (suc i) decls)) (sym is))

  pub found_here : (number : ℕ) (name : Named) → Some number ≡ shape_by all has (decl_seen d) → Some name ≡ shown_at (names_in (decl_seen d)) 0 → Some (number, name) ≡ goal
  found_here number name e n =
      ap (option_map (λ name. (number, name))) n ∙ ap (λ o. or_rest o (decl_seen d) (first_by all (with_keys has (decl_keys (decl_seen d))) (map decl_seen (drop (i + 1) decls)))) e ∙ ap (first_by all has) (sym head) ∙ known

  pub not_here : (now : Key → Bool) → None ≡ shape_by all has (decl_seen d) → now ≡ with_keys has (decl_keys (decl_seen d)) → first_by all now (map decl_seen (drop (i + 1) decls)) ≡ goal
  not_here now e n =
      ap (λ h. first_by all h (map decl_seen (drop (i + 1) decls))) n ∙ ap (λ o. or_rest o (decl_seen d) (first_by all (with_keys has (decl_keys (decl_seen d))) (map decl_seen (drop (i + 1) decls)))) e
      ∙ ap (first_by all has) (sym head) ∙ known

pub at_last : {E : Type 0} (result : Result (Option (ℕ × Named)) E) (policy now items : List Decl) (all : List DeclText) → policy ≡ items → now ≡ items → map decl_seen items ≡ all
    → IfOk result (λ found. found ≡ first_by (map decl_seen policy) (has_key []) (map decl_seen now)) → IfOk result (λ found. found ≡ first_shape all)
at_last result policy now items all p n m h =
    subst (λ y. IfOk result (λ found. found ≡ y))
    (ap (λ l. first_by (map decl_seen l) (has_key []) (map decl_seen now)) p ∙ ap (λ l. first_by (map decl_seen items) (has_key []) (map decl_seen l)) n ∙ ap (λ l. first_by l (has_key []) l) m ∙ sym (walked all)) h
