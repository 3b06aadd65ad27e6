-- The sets of groups are made one after another, each after those that it names.
use Rattle.std.proofs.Common.{◌≡◌, ℕ, zero, suc, ◌+◌, ◌<◌, ◌≤◌, Bool, true, false, not, ◌&&◌, List, [], ◌∷◌, ◌++◌, length, map, set, refl, sym, ap, subst, ◌∙◌, ⊎_elim, arith, slice_index_or, flat_map}
use Rattle.std.specs.Prelude.{filter, nat_lt, ◌==◌, Vec}
use Rattle.std.specs.List.{list_any}
use Rattle.std.proofs.lemmas.Bool.{and_parts, and_from, ltb-true, ltb-false, lt-ltb, false≢true, cases_Bool, cases_eq, eq-eqb, eqb-true, or_cases, or_left, or_right, not-true, or_parts}
use Rattle.std.proofs.lemmas.List.{get_or-set_same, get_or-set_other, length-set, map-set}
use Rattle.std.proofs.lemmas.List.Folds.{list_any-append}
use Rattle.policy_model.specs.Lists.{has}
use Rattle.policy_model.specs.Policy.{Policy, ObjectExpr, NoObjects, OneNet, OneHost, OneIface, OfGroup, OfAggregate, OfArea, OfUser, NetsOf, HostsOf, ZonesOf, Joined, Common, Without, group_of, no_group}
use Rattle.policy_model.specs.Zones.{Site}
use Rattle.policy_model.specs.Objects.{Object, NetObject, objects_by, group_objects, object_set, has_object, net_of_object, hosts_of_object, zone_nets}
use Rattle.topology.specs.Sound.{IsSound, is_sound_expr, groups_in, is_chain}
use Rattle.group_expand.specs.declared.object.Object as code
use Rattle.group_expand.specs.Sets.{object_seen, rows_seen, group_set, are_there}
use Rattle.group_expand.specs.Spread.{marked, unmarked_count, Grows, AreUnmarked}
use Rattle.group_expand.specs.Groups.{waits, AreFilled, HasChain, HaveChains}
use Rattle.group_expand.proofs.Marks.{set_only, set_once}
use Rattle.group_expand.proofs.SoundSets.{objects_there}

-- ---- soundness in any place

pub sound_anywhere : (p : Policy) (user bracket : Bool) (e : ObjectExpr) → is_sound_expr p user bracket e ≡ true → is_sound_expr p true true e ≡ true
sound_anywhere p user bracket NoObjects h = refl
sound_anywhere p user bracket (OneNet n) h = h
sound_anywhere p user bracket (OneHost x) h = h
sound_anywhere p user bracket (OneIface i) h = h
sound_anywhere p user bracket (OfGroup g) h = h
sound_anywhere p user bracket (OfAggregate k) h = h
sound_anywhere p user bracket (OfArea k) h = (and_parts bracket (nat_lt k (length p.areas)) h).1
sound_anywhere p user bracket OfUser h = refl
sound_anywhere p user bracket (NetsOf e) h = sound_anywhere p user true e h
sound_anywhere p user bracket (HostsOf e) h = sound_anywhere p user true e h
sound_anywhere p user bracket (ZonesOf only e) h = sound_anywhere p user true e h
sound_anywhere p user bracket (Joined e f) h =
    let a = and_parts (is_sound_expr p user bracket e) (is_sound_expr p user bracket f) h in
    and_from (is_sound_expr p true true e) (is_sound_expr p true true f) (sound_anywhere p user bracket e a.0) (sound_anywhere p user bracket f a.1)
sound_anywhere p user bracket (Common e f) h =
    let a = and_parts (is_sound_expr p user bracket e) (is_sound_expr p user bracket f) h in
    and_from (is_sound_expr p true true e) (is_sound_expr p true true f) (sound_anywhere p user bracket e a.0) (sound_anywhere p user bracket f a.1)
sound_anywhere p user bracket (Without e f) h =
    let a = and_parts (is_sound_expr p user bracket e) (is_sound_expr p user bracket f) h in
    and_from (is_sound_expr p true true e) (is_sound_expr p true true f) (sound_anywhere p user bracket e a.0) (sound_anywhere p user bracket f a.1)

pub group_sound : (p : Policy) (g : ℕ) → IsSound p → g < length p.groups → is_sound_expr p true true (group_of p g).objects ≡ true
group_sound p g sound h = sound_anywhere p false false (group_of p g).objects (sound.sets.groups g h)

-- the groups that a sound expression names are there
pub named_there : (p : Policy) (e : ObjectExpr) (g : ℕ) → is_sound_expr p true true e ≡ true → has (groups_in e) g ≡ true → g < length p.groups
named_there p NoObjects g h n = absurd (false≢true n)
named_there p (OneNet x) g h n = absurd (false≢true n)
named_there p (OneHost x) g h n = absurd (false≢true n)
named_there p (OneIface i) g h n = absurd (false≢true n)
named_there p (OfGroup k) g h n =
    ⊎_elim (λ e. subst (λ (x : ℕ). x < length p.groups) (eqb-true k g e) (ltb-true k (length p.groups) h)) (λ e. absurd (false≢true e)) (or_cases (k == g) false n)
named_there p (OfAggregate k) g h n = absurd (false≢true n)
named_there p (OfArea k) g h n = absurd (false≢true n)
named_there p OfUser g h n = absurd (false≢true n)
named_there p (NetsOf e) g h n = named_there p e g h n
named_there p (HostsOf e) g h n = named_there p e g h n
named_there p (ZonesOf only e) g h n = named_there p e g h n
named_there p (Joined e f) g h n =
    let a = and_parts (is_sound_expr p true true e) (is_sound_expr p true true f) h in
    ⊎_elim (λ m. named_there p e g a.0 m) (λ m. named_there p f g a.1 m) (or_cases (has (groups_in e) g) (has (groups_in f) g) (sym (list_any-append (λ x. x == g) (groups_in e) (groups_in f)) ∙ n))
named_there p (Common e f) g h n =
    let a = and_parts (is_sound_expr p true true e) (is_sound_expr p true true f) h in
    ⊎_elim (λ m. named_there p e g a.0 m) (λ m. named_there p f g a.1 m) (or_cases (has (groups_in e) g) (has (groups_in f) g) (sym (list_any-append (λ x. x == g) (groups_in e) (groups_in f)) ∙ n))
named_there p (Without e f) g h n =
    let a = and_parts (is_sound_expr p true true e) (is_sound_expr p true true f) h in
    ⊎_elim (λ m. named_there p e g a.0 m) (λ m. named_there p f g a.1 m) (or_cases (has (groups_in e) g) (has (groups_in f) g) (sym (list_any-append (λ x. x == g) (groups_in e) (groups_in f)) ∙ n))

-- ---- sets by different tables of groups

module _ (s : Site) (areas : List (List ℕ)) (one two : ℕ → List Object) (user : List Object) where
  abbrev Agree : ObjectExpr → Type 0
  Agree e = (g : ℕ) → has (groups_in e) g ≡ true → one g ≡ two g

  left : (e f : ObjectExpr) → Agree (Joined e f) → Agree e
  left e f all g h = all g (list_any-append (λ x. x == g) (groups_in e) (groups_in f) ∙ or_left (has (groups_in e) g) (has (groups_in f) g) h)

  right : (e f : ObjectExpr) → Agree (Joined e f) → Agree f
  right e f all g h = all g (list_any-append (λ x. x == g) (groups_in e) (groups_in f) ∙ or_right (has (groups_in e) g) (has (groups_in f) g) h)

  pub same_objects : (e : ObjectExpr) → Agree e → objects_by s areas one user e ≡ objects_by s areas two user e
  same_objects NoObjects all = refl
  same_objects (OneNet n) all = refl
  same_objects (OneHost h) all = refl
  same_objects (OneIface i) all = refl
  same_objects (OfGroup g) all = all g (or_left (g == g) false (eq-eqb g g refl))
  same_objects (OfAggregate k) all = refl
  same_objects (OfArea k) all = refl
  same_objects OfUser all = refl
  same_objects (NetsOf e) all = ap (λ (l : List Object). object_set (map (λ o. NetObject (net_of_object s.policy o)) l)) (same_objects e all)
  same_objects (HostsOf e) all = ap (λ (l : List Object). object_set (flat_map (hosts_of_object s.policy) l)) (same_objects e all)
  same_objects (ZonesOf only e) all = ap (λ (l : List Object). object_set (zone_nets s only (map (net_of_object s.policy) l))) (same_objects e all)
  same_objects (Joined e f) all =
      ap (λ (l : List Object). object_set (l ++ objects_by s areas one user f)) (same_objects e (left e f all))
      ∙ ap (λ (l : List Object). object_set (objects_by s areas two user e ++ l)) (same_objects f (right e f all))
  same_objects (Common e f) all =
      ap (λ (l : List Object). filter (has_object (objects_by s areas one user f)) l) (same_objects e (left e f all))
      ∙ ap (λ (l : List Object). filter (has_object l) (objects_by s areas two user e)) (same_objects f (right e f all))
  same_objects (Without e f) all =
      ap (λ (l : List Object). filter (λ o. not (has_object (objects_by s areas one user f) o)) l) (same_objects e (left e f all))
      ∙ ap (λ (l : List Object). filter (λ o. not (has_object l o)) (objects_by s areas two user e)) (same_objects f (right e f all))

-- ---- one group more

none_waits : (done : List Bool) (gs : List ℕ) (g : ℕ) → list_any (λ k. not (marked done k)) gs ≡ false → has gs g ≡ true → marked done g ≡ true
none_waits done [] g h n = absurd (false≢true n)
none_waits done (k ∷ gs) g h n =
    let a = or_parts (not (marked done k)) (list_any (λ x. not (marked done x)) gs) h in
    ⊎_elim (λ e. subst (λ (x : ℕ). marked done x ≡ true) (eqb-true k g e) (not_not (marked done k) a.0)) (λ m. none_waits done gs g a.1 m) (or_cases (k == g) (has gs g) n)
  where
    not_not : (b : Bool) → not b ≡ false → b ≡ true
    not_not true e = refl
    not_not false e = absurd (false≢true (sym e))

module _ (s : Site) (areas : List (List ℕ)) where
  abbrev count : ℕ
  count = length s.policy.groups

  made : (done : List Bool) (groups : List (List Object)) (g depth left : ℕ) → AreFilled s areas done groups → waits done (group_of s.policy g).objects ≡ false →
      count ≤ depth + left → left + 1 ≡ unmarked_count done → left < count →
      objects_by s areas (group_set groups) [] (group_of s.policy g).objects ≡ group_objects s areas depth g
  made done groups g zero left filled ready h one few = absurd (omega (arith, h, few))
  made done groups g (suc depth) left filled ready h one few =
      same_objects s areas (group_set groups) (group_objects s areas depth) [] (group_of s.policy g).objects
      (λ k n. filled.its k depth (none_waits done (groups_in (group_of s.policy g).objects) k ready n) (omega (arith, h, one)))

  unmarked_most : (done : List Bool) → unmarked_count done ≤ length done
  unmarked_most [] = omega arith
  unmarked_most (true ∷ done) = let e = unmarked_most done in omega (arith, e)
  unmarked_most (false ∷ done) = let e = unmarked_most done in omega (arith, e)

  pub group_more : (done new_done : List Bool) (groups new_groups : List (List Object)) (g : ℕ) (row : List Object) → g < count → marked done g ≡ false →
      waits done (group_of s.policy g).objects ≡ false → row ≡ objects_by s areas (group_set groups) [] (group_of s.policy g).objects → are_there s.policy row ≡ true →
      new_groups ≡ set groups g row → new_done ≡ set done g true → AreFilled s areas done groups → AreFilled s areas new_done new_groups
  group_more done new_done groups new_groups g row below bare ready is there e f old =
      subst (λ (d : List Bool). AreFilled s areas d new_groups) (sym f)
      (subst (λ (gs : List (List Object)). AreFilled s areas (set done g true) gs) (sym e)
      (record {
        marks = length-set done g true ∙ old.marks;
        rows = length-set groups g row ∙ old.rows;
        its = λ k depth m h. ⊎_elim
            (λ same. ap (group_set (set groups g row)) same ∙ (get_or-set_same groups g row [] (omega (arith, below, old.rows)) ∙ (is
            ∙ (made done groups g depth (unmarked_count (set done g true)) old ready h once (omega (arith, once, unmarked_most done, old.marks))
            ∙ ap (group_objects s areas depth) (sym same)))))
            (λ other. get_or-set_other groups g k row [] other ∙ old.its k depth (set_only done g k other m) (omega (arith, h, once)))
            (cases_eq k g);
        there = λ k. ⊎_elim
            (λ same. ap (λ (x : ℕ). are_there s.policy (group_set (set groups g row) x)) same
            ∙ (ap (are_there s.policy) (get_or-set_same groups g row [] (omega (arith, below, old.rows))) ∙ there))
            (λ other. ap (are_there s.policy) (get_or-set_other groups g k row [] other) ∙ old.there k)
            (cases_eq k g);
      }))
    where
      once : unmarked_count (set done g true) + 1 ≡ unmarked_count done
      once = set_once done g (omega (arith, below, old.marks)) bare

  pub none_filled : (done : List Bool) (groups : List (List Object)) → AreUnmarked done count → length groups ≡ count → ((g : ℕ) → group_set groups g ≡ []) → AreFilled s areas done groups
  none_filled done groups bare rows empty =
      record {
        marks = bare.each;
        rows = rows;
        its = λ g depth m h. absurd (false≢true (sym (bare.bare g) ∙ m));
        there = λ g. ap (are_there s.policy) (empty g);
      }

-- ---- chains

waiting : (done : List Bool) (gs : List ℕ) → list_any (λ k. not (marked done k)) gs ≡ true → (k : ℕ) × (has gs k ≡ true) × (marked done k ≡ false)
waiting done [] h = absurd (false≢true h)
waiting done (k ∷ gs) h =
    ⊎_elim (λ e. (k, or_left (k == k) (has gs k) (eq-eqb k k refl), not-true (marked done k) e))
    (λ e. let w = waiting done gs e in (w.0, or_right (k == w.0) (has gs w.0) w.1, w.2)) (or_cases (not (marked done k)) (list_any (λ x. not (marked done x)) gs) h)

still_bare : (old new : List Bool) → Grows old new → (g : ℕ) → marked new g ≡ false → marked old g ≡ false
still_bare old new grows g h = ⊎_elim (λ t. absurd (false≢true (sym h ∙ grows g t))) (λ f. f) (cases_Bool (marked old g))

module _ (p : Policy) (sound : IsSound p) where
  longer : (g k count : ℕ) → g < length p.groups → has (groups_in (group_of p g).objects) k ≡ true → HasChain p k count → HasChain p g (count + 1)
  longer g k count below named chain =
      record {
        rest = k ∷ chain.rest;
        chain = and_from (nat_lt g (length p.groups) && has (groups_in (group_of p g).objects) k) (is_chain p (k ∷ chain.rest))
            (and_from (nat_lt g (length p.groups)) (has (groups_in (group_of p g).objects) k) (lt-ltb g (length p.groups) below) named) chain.chain;
        long = omega (arith, chain.long);
      }

  -- chains so far in a round: those of the groups below a number are longer
  abbrev pub ChainsSoFar : List Bool → List Bool → ℕ → Type 0
  ChainsSoFar old now g = (count : ℕ) → HaveChains p old count → (k : ℕ) → k < g → k < length p.groups → marked now k ≡ false → HasChain p k (count + 1)

  pub chains_begin : (done : List Bool) → ChainsSoFar done done 0
  chains_begin done count have k h there bare = absurd (omega (arith, h))

  pub chains_more : (first old new : List Bool) (g : ℕ) → g < length p.groups → Grows first old → Grows old new → (marked new g ≡ false → waits old (group_of p g).objects ≡ true) →
      ChainsSoFar first old g → ChainsSoFar first new (g + 1)
  chains_more first old new g below grown grows next so_far count have k h there bare =
      ⊎_elim (λ same. let w = waiting old (groups_in (group_of p g).objects) (next (subst (λ (x : ℕ). marked new x ≡ false) same bare)) in
      subst (λ (x : ℕ). HasChain p x (count + 1)) (sym same)
      (longer g w.0 count below w.1 (have w.0 (named_there p (group_of p g).objects w.0 (group_sound p g sound below) w.1) (still_bare first old grown w.0 w.2))))
      (λ other. so_far count have k (omega (arith, h, other)) there (still_bare old new grows k bare)) (cases_eq k g)

  pub chains_whole : (first new : List Bool) (g : ℕ) → length p.groups ≤ g → ChainsSoFar first new g → (count : ℕ) → HaveChains p first count → HaveChains p new (count + 1)
  chains_whole first new g all so_far count have k there bare = so_far count have k (omega (arith, all, there)) there bare

  pub chains_of_one : (done : List Bool) → HaveChains p done 0
  chains_of_one done g there bare = record { rest = []; chain = lt-ltb g (length p.groups) there; long = refl }

  pub all_done : (done : List Bool) (count : ℕ) → 64 ≤ count → HaveChains p done count → (g : ℕ) → g < length p.groups → marked done g ≡ true
  all_done done count long have g there =
      ⊎_elim (λ t. t) (λ f. let c = have g there f in let most = sound.limited.nesting (g ∷ c.rest) c.chain in absurd (omega (arith, most, c.long, long))) (cases_Bool (marked done g))

pub grows_on : (first old new : List Bool) → Grows first old → Grows old new → Grows first new
grows_on first old new a b n h = b n (a n h)

pub grows_none : (done : List Bool) → Grows done done
grows_none done n h = h

-- ---- tables

pub rows_set : {A : Type 0} (rows new : List (Vec code.Object A)) (g : ℕ) (row : Vec code.Object A) → new ≡ set rows g row → rows_seen new ≡ set (rows_seen rows) g (map object_seen row.items)
rows_set {A} rows new g row e = ap rows_seen e ∙ map-set (λ (r : Vec code.Object A). map object_seen r.items) rows g row

pub rows_empty : {A : Type 0} (rows : List (Vec code.Object A)) → ((g : ℕ) → slice_index_or (map (λ r. r.items) rows) g [] ≡ []) → (g : ℕ) → group_set (rows_seen rows) g ≡ []
rows_empty {A} [] empty g = by g
  where
    by : (g : ℕ) → slice_index_or {A = List Object} [] g [] ≡ []
    by zero = refl
    by (suc g) = refl
rows_empty {A} (r ∷ rows) empty zero = ap (map object_seen) (empty 0)
rows_empty {A} (r ∷ rows) empty (suc g) = rows_empty rows (λ k. empty (suc k)) g

-- the sets of groups are there
pub groups_there : (s : Site) (areas : List (List ℕ)) → IsSound s.policy → length s.zones ≡ length s.policy.nets → (depth g : ℕ) → are_there s.policy (group_objects s areas depth g) ≡ true
groups_there s areas sound each zero g = refl
groups_there s areas sound each (suc depth) g =
    objects_there s areas (group_objects s areas depth) [] sound each (groups_there s areas sound each depth) refl (group_of s.policy g).objects (sound_group g)
  where
    past : (groups : List _) (g : ℕ) → length groups ≤ g → slice_index_or groups g no_group ≡ no_group
    past [] zero h = refl
    past [] (suc g) h = refl
    past (x ∷ xs) zero h = absurd (omega (arith, h))
    past (x ∷ xs) (suc g) h = past xs g (omega (arith, h))

    sound_group : (g : ℕ) → is_sound_expr s.policy true true (group_of s.policy g).objects ≡ true
    sound_group g =
        ⊎_elim (λ h. group_sound s.policy g sound (ltb-true g (length s.policy.groups) h))
        (λ h. ap (λ x. is_sound_expr s.policy true true x.objects) (past s.policy.groups g (ltb-false g (length s.policy.groups) h))) (cases_Bool (nat_lt g (length s.policy.groups)))
