-- The files of a policy, from whatever listing of the folder.
use Rattle.std.proofs.Common.{◌≡◌, ◌<◌, ℕ, zero, suc, get_or, length, Bool, true, false, ◌&&◌, ◌||◌, List, [], ◌∷◌, Option, Some, None, All, IsSome, refl, sym, ap, ◌∙◌, arith, cond, T}
use Rattle.std.specs.Prelude.{is_some}
use Rattle.std.specs.Option.{unwrap_or}
use Rattle.std.specs.Str.{bytes_eq}
use Rattle.std.specs.List.{filter, list_any, AllByRecursion}
use Rattle.std.specs.List.Sorted.{IsStrictlySortedBy}
use Rattle.std.specs.declared.cmp.Ordering.TheVariants.{Less}
use Rattle.std.specs.Ordering.{nat_cmp}
use Rattle.std.specs.Cmp.Lexicographic.{slice_cmp, nat_list_cmp_total}
use Rattle.std.specs.FinMap as finite
use Rattle.std.specs.BTreeSet as tree
use Rattle.std.specs.BTreeMap.{is_at}
use Rattle.std.proofs.lemmas.List.Elements.{All-head, All-tail}
use Rattle.std.proofs.lemmas.Map.Views.{any-filter_same}
use Rattle.std.specs.FinMap.Entries.{below_all}
use Rattle.std.proofs.lemmas.Map.Keys.{sorted_head, sorted_tail}
use Rattle.std.proofs.lemmas.Map.Text.{is_eq-slice_cmp}
use Rattle.std.proofs.lemmas.Slice.Eq.{bytes_eq-Decides}
use Rattle.spoc_io.specs.Files.{Files, bytes_at, ListsPaths, paths}
use Rattle.spoc_run.specs.Paths.{is_policy_path}
use Rattle.spoc_run.specs.Policy.{policy_of, with_bytes}

both : (a b : Bool) → T a → T b → T (a && b)
both true b p q = q
both false b p q = p

below : (files : Files) (x : List ℕ) (ks : List (List ℕ)) → AllByRecursion (λ y. slice_cmp nat_cmp x y ≡ Less) ks → T (below_all (slice_cmp nat_cmp) x (with_bytes files ks))
below files x [] h = tt
below files x (k ∷ ks) h = both _ _ (rw h.0 tt) (below files x ks h.1)

sorted : (files : Files) (ks : List (List ℕ)) → IsStrictlySortedBy (slice_cmp nat_cmp) ks → T (finite.is_sorted (slice_cmp nat_cmp) (with_bytes files ks))
sorted files [] h = tt
sorted files (k ∷ ks) h = both _ _ (below files k ks (sorted_head (slice_cmp nat_cmp) k ks h)) (sorted files ks (sorted_tail (slice_cmp nat_cmp) k ks h))

-- what is found among the files under these paths
found : (files : Files) (ks : List (List ℕ)) (q : List ℕ) → finite.find (slice_cmp nat_cmp) q (with_bytes files ks) ≡ cond (list_any (bytes_eq q) ks) (Some (unwrap_or (bytes_at files q) [])) None
found files [] q = refl
found files (k ∷ ks) q = rw (is_eq-slice_cmp q k, found files ks q) (found_step (bytes_eq q k) refl)
  where
    found_step : (b : Bool) → bytes_eq q k ≡ b → cond b (Some (unwrap_or (bytes_at files k) [])) (cond (list_any (bytes_eq q) ks) (Some (unwrap_or (bytes_at files q) [])) None) ≡ cond (b || list_any (bytes_eq q) ks) (Some (unwrap_or (bytes_at files q) [])) None
    found_step true e = rw ((bytes_eq-Decides q k).0 e) refl
    found_step false e = refl

kept_step : (file : List ℕ × List ℕ) (files : Files) (q : List ℕ) (b t : Bool) → bytes_eq q file.0 ≡ b → is_policy_path file.0 ≡ t → finite.find (slice_cmp nat_cmp) q (filter (λ f. is_policy_path f.0) files) ≡ cond (is_policy_path q) (bytes_at files q) None → finite.find (slice_cmp nat_cmp) q (cond t (file ∷ filter (λ f. is_policy_path f.0) files) (filter (λ f. is_policy_path f.0) files)) ≡ cond (is_policy_path q) (cond b (Some file.1) (bytes_at files q)) None
kept_step file files q true true e f ih = rw (is_eq-slice_cmp q file.0, e) (rw ((bytes_eq-Decides q file.0).0 e, f) refl)
kept_step file files q true false e f ih = let skipped : is_policy_path q ≡ false = ap is_policy_path ((bytes_eq-Decides q file.0).0 e) ∙ f in ih ∙ rw skipped refl
kept_step file files q false true e f ih = rw (is_eq-slice_cmp q file.0, e) ih
kept_step file files q false false e f ih = ih

none_either : (t : Bool) → ◌≡◌ {A = Option (List ℕ)} None (cond t None None)
none_either true = refl
none_either false = refl

-- what is found among the policy's files
kept : (files : Files) (q : List ℕ) → finite.find (slice_cmp nat_cmp) q (filter (λ f. is_policy_path f.0) files) ≡ cond (is_policy_path q) (bytes_at files q) None
kept [] q = none_either (is_policy_path q)
kept (file ∷ files) q = kept_step file files q (bytes_eq q file.0) (is_policy_path file.0) refl refl (kept files q)

by_cases : (t : Bool) (o : Option (List ℕ)) → cond (t && is_some o) (Some (unwrap_or o [])) None ≡ cond t o None
by_cases true None = refl
by_cases true (Some x) = refl
by_cases false o = refl

-- the files under a policy's paths in order are the policy's files
pub policy_is : (files : Files) (ks : List (List ℕ)) → IsStrictlySortedBy (slice_cmp nat_cmp) ks → ((q : List ℕ) → list_any (bytes_eq q) ks ≡ (is_policy_path q && is_some (bytes_at files q))) → with_bytes files ks ≡ policy_of files
policy_is files ks h is =
    let t = finite.from_sorted {R = slice_cmp nat_cmp} (with_bytes files ks) in
    let s = finite.from_entries {R = slice_cmp nat_cmp} (filter (λ f. is_policy_path f.0) files) in
    let own = finite.entries-from_sorted (slice_cmp nat_cmp) (with_bytes files ks) (sorted files ks h) in
    let one : t ≡ s = finite.same_map nat_list_cmp_total (finite.slice_cmp-IsAntisymmetric finite.nat_cmp-IsAntisymmetric) t s (λ q.
    finite.get-from_sorted (slice_cmp nat_cmp) (with_bytes files ks) q (sorted files ks h)
    ∙ found files ks q ∙ rw (is q) (by_cases (is_policy_path q) (bytes_at files q))
    ∙ sym (finite.get-from_entries nat_list_cmp_total (filter (λ f. is_policy_path f.0) files) q ∙ kept files q)) in
    sym own ∙ ap finite.entries one

any_same : (q : List ℕ) (ks : List (List ℕ)) → list_any (is_at (slice_cmp nat_cmp q)) ks ≡ list_any (bytes_eq q) ks
any_same q [] = refl
any_same q (k ∷ ks) = rw (is_eq-slice_cmp q k, any_same q ks) refl

listed_any : (listed : List (List ℕ)) (wanted : tree.BTreeSet (List ℕ)) → tree.IsFromIterResult (slice_cmp nat_cmp) (filter is_policy_path listed) wanted → (q : List ℕ) →
    list_any (bytes_eq q) wanted.keys ≡ (is_policy_path q && list_any (bytes_eq q) listed)
listed_any listed wanted h q =
    sym (any_same q wanted.keys) ∙ h.0 q ∙ any_same q (filter is_policy_path listed)
    ∙ any-filter_same (bytes_eq q) is_policy_path (is_policy_path q) (λ k e. ap is_policy_path (sym ((bytes_eq-Decides q k).0 e))) listed

-- the set of the paths that were listed has those of the policy
pub wanted_any : (files : Files) (listed : List (List ℕ)) (wanted : tree.BTreeSet (List ℕ)) → tree.IsFromIterResult (slice_cmp nat_cmp) (filter is_policy_path listed) wanted → ListsPaths files listed → (q : List ℕ) → list_any (bytes_eq q) wanted.keys ≡ (is_policy_path q && is_some (bytes_at files q))
wanted_any files listed wanted h l q =
    listed_any listed wanted h q ∙ ap (λ b. is_policy_path q && b) (l.each q)

any_here : (ks : List (List ℕ)) (k : ℕ) (d : List ℕ) → k < length ks → list_any (bytes_eq (get_or ks k d)) ks ≡ true
any_here [] k d h = absurd (omega arith)
any_here (x ∷ ks) zero d h = rw ((bytes_eq-Decides x x).1 refl) refl
any_here (x ∷ ks) (suc k) d h = let inside : k < length ks = omega arith in rw (any_here ks k d inside) (or_true (bytes_eq (get_or ks k d) x))
  where
    or_true : (b : Bool) → (b || true) ≡ true
    or_true true = refl
    or_true false = refl

first : (a b : Bool) → (a && b) ≡ true → a ≡ true
first true b h = refl
first false b h = cc

-- and no others, whatever the folder holds
pub wanted_policy : (listed : List (List ℕ)) (wanted : tree.BTreeSet (List ℕ)) → tree.IsFromIterResult (slice_cmp nat_cmp) (filter is_policy_path listed) wanted →
    All (λ path. is_policy_path path ≡ true) wanted.keys
wanted_policy listed wanted h = λ k d inside.
    let q = get_or wanted.keys k d in
    first (is_policy_path q) (list_any (bytes_eq q) listed) (sym (listed_any listed wanted h q) ∙ any_here wanted.keys k d inside)

second : (a b : Bool) → (a && b) ≡ true → b ≡ true
second true b h = h
second false b h = cc

pub wanted_there : (files : Files) (ks : List (List ℕ)) → ((q : List ℕ) → list_any (bytes_eq q) ks ≡ (is_policy_path q && is_some (bytes_at files q))) → All (λ path. IsSome (bytes_at files path)) ks
wanted_there files ks is = λ k d h. second (is_policy_path (get_or ks k d)) _ (sym (is (get_or ks k d)) ∙ any_here ks k d h)

-- ---- files under a policy's paths in order are the policy's files of a folder that holds them

below_path : (x : List ℕ) (files : Files) → AllByRecursion (λ y. slice_cmp nat_cmp x y ≡ Less) (paths files) → T (below_all (slice_cmp nat_cmp) x files)
below_path x [] h = tt
below_path x (file ∷ files) h = both _ _ (rw h.0 tt) (below_path x files h.1)

in_order : (files : Files) → IsStrictlySortedBy (slice_cmp nat_cmp) (paths files) → T (finite.is_sorted (slice_cmp nat_cmp) files)
in_order [] h = tt
in_order (file ∷ files) h = both _ _ (below_path file.0 files (sorted_head (slice_cmp nat_cmp) file.0 (paths files) h)) (in_order files (sorted_tail (slice_cmp nat_cmp) file.0 (paths files) h))

all_kept : (files : Files) → All (λ path. is_policy_path path ≡ true) (paths files) → filter (λ file. is_policy_path file.0) files ≡ files
all_kept [] h = refl
all_kept (file ∷ files) h =
    let rest : filter (λ f. is_policy_path f.0) files ≡ files = all_kept files (All-tail (λ path. is_policy_path path ≡ true) file.0 (paths files) h) in
    ap (λ t. cond t (file ∷ filter (λ f. is_policy_path f.0) files) (filter (λ f. is_policy_path f.0) files)) (All-head (λ path. is_policy_path path ≡ true) file.0 (paths files) h)
    ∙ ap (λ fs. file ∷ fs) rest

pub own_policy : (files : Files) → IsStrictlySortedBy (slice_cmp nat_cmp) (paths files) → All (λ path. is_policy_path path ≡ true) (paths files) → policy_of files ≡ files
own_policy files h policy =
    let t = finite.from_sorted {R = slice_cmp nat_cmp} files in
    let s = finite.from_entries {R = slice_cmp nat_cmp} (filter (λ f. is_policy_path f.0) files) in
    let one : t ≡ s = finite.same_map nat_list_cmp_total (finite.slice_cmp-IsAntisymmetric finite.nat_cmp-IsAntisymmetric) t s (λ q.
    finite.get-from_sorted (slice_cmp nat_cmp) files q (in_order files h)
    ∙ ap (λ fs. finite.find (slice_cmp nat_cmp) q fs) (sym (all_kept files policy))
    ∙ sym (finite.get-from_entries nat_list_cmp_total (filter (λ f. is_policy_path f.0) files) q)) in
    sym (ap finite.entries one) ∙ finite.entries-from_sorted (slice_cmp nat_cmp) files (in_order files h)

-- the same of a folder that holds one file
pub one_policy : (path bytes : List ℕ) → is_policy_path path ≡ true → policy_of ((path, bytes) ∷ []) ≡ (path, bytes) ∷ []
unfolding IsStrictlySortedBy
one_policy path bytes policy = own_policy ((path, bytes) ∷ []) (tt, tt) (λ k d inside. only k d inside)
  where
    only : (k : ℕ) (d : List ℕ) → k < 1 → is_policy_path (get_or (path ∷ []) k d) ≡ true
    only zero d inside = policy
    only (suc k) d inside = absurd (omega arith)
