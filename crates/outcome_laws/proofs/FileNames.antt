-- No router is declared twice, and a device file is called by its router.
use Rattle.std.proofs.Common.{◌≡◌, inl, inr, refl, sym, ap, subst, ◌∙◌, ℕ, ◌<◌, Bool, true, false, ◌&&◌, List, [], ◌∷◌, length, map, arith}
use Rattle.std.specs.Prelude.{None}
use Rattle.std.specs.List.{IsDistinct, AllByRecursion}
use Rattle.std.specs.Str.{bytes_eq}
use Rattle.std.proofs.lemmas.Bool.{false≢true, and_from, false_from_ne_true}
use Rattle.std.proofs.lemmas.List.{same_lists, get_or-map}
use Rattle.std.proofs.Math.ListN.{length-map}
use Rattle.std.proofs.lemmas.List.FromFn.{length-map-range_with_len, get_or-map-range_with_len}
use Rattle.policy_model.specs.Policy.{Policy, Router, no_router, router_of, is_managed, all_routers, managed_routers}
use Rattle.policy_model.specs.Filters.{Line}
use Rattle.policy_model.proofs.AllWalks.{IsIn, from_map}
use Rattle.list_laws.proofs.Members.{from_filter}
use Rattle.list_laws.proofs.Tables.{from_flat_map}
use Rattle.spoc_ast.specs.Written.{DeclText}
use Rattle.policy_decls.specs.Names.{NameKind, TagName, RouterName, IfaceName, same_kind, Mention, names_in, declared_names, same_name}
use Rattle.policy_decls.specs.Said.{names_of, policy_said}
use Rattle.policy_decls.specs.Faults.{fault_of}
use Rattle.decl_laws.proofs.Rows.{no_rows}
use Rattle.decl_laws.proofs.Places.{AreApart, filter_apart, apart_by, map_apart}
use Rattle.decl_laws.proofs.Taken.{apart_names}
use Rattle.decl_laws.proofs.NamesByKind.{is_of, router_names}
use Rattle.decl_laws.proofs.NameNumbers.{bytes_same, bytes_alike, kind_onward, kind_back}
use Rattle.decl_laws.proofs.Distinct.{no_owner}
use Rattle.policy_outcome.specs.Files.{files_of, files_for}

-- ---- lists in which no two items are the same

apart_mapped : {A B : Type 0} (same : B → B → Bool) (f : A → B) (xs : List A) → AreApart (λ a b. same (f a) (f b)) xs → AreApart same (map f xs)
apart_mapped same f [] h = tt
apart_mapped same f (x ∷ xs) h = ((λ y g. let w = from_map f y xs g in ap (λ z. same z (f x)) w.2 ∙ h.0 w.0 w.1), apart_mapped same f xs h.1)

all_listed : {A : Type 0} (P : A → Type 0) (xs : List A) → ((y : A) → IsIn y xs → P y) → AllByRecursion P xs
all_listed P [] each = tt
all_listed P (x ∷ xs) each = (each x (inl refl), all_listed P xs (λ y h. each y (inr h)))

turned : (a b : List ℕ) → bytes_eq a b ≡ false → bytes_eq b a ≡ false
turned a b e = false_from_ne_true (bytes_eq b a) (λ t. false≢true (sym e ∙ bytes_alike a b (sym (bytes_same b a t))))

distinct_from : (names : List (List ℕ)) → AreApart bytes_eq names → IsDistinct bytes_eq names
unfolding IsDistinct
distinct_from [] h = tt
distinct_from (x ∷ xs) h = (all_listed (λ y. bytes_eq x y ≡ false) xs (λ y g. turned y x (h.0 y g)), distinct_from xs h.1)

-- ---- the names of routers

module _ (decls : List DeclText) (none : fault_of decls ≡ None) where
  plain_owner : (m : Mention) → IsIn m (declared_names decls) → same_kind m.kind RouterName ≡ true → m.owner ≡ []
  plain_owner m h e = let w = from_flat_map names_in m decls h in no_owner w.0 m w.2 (other TagName refl) (other IfaceName refl)
    where
      other : (k : NameKind) → same_kind RouterName k ≡ false → same_kind m.kind k ≡ false
      other k f = false_from_ne_true (same_kind m.kind k) (λ t. false≢true (sym f ∙ kind_onward RouterName m.kind k (kind_back m.kind RouterName e) t))

  same_router : (a b : Mention) → IsIn a (names_of decls RouterName) → IsIn b (names_of decls RouterName) → bytes_eq a.text b.text ≡ true → same_name a b ≡ true
  same_router a b g h e =
      let v = from_filter (is_of RouterName) a (declared_names decls) g in
      let w = from_filter (is_of RouterName) b (declared_names decls) h in
      and_from (same_kind a.kind b.kind && bytes_eq a.owner b.owner) (bytes_eq a.text b.text)
      (and_from (same_kind a.kind b.kind) (bytes_eq a.owner b.owner) (kind_onward a.kind RouterName b.kind v.1 (kind_back b.kind RouterName w.1))
      (bytes_alike a.owner b.owner (plain_owner a v.0 v.1 ∙ sym (plain_owner b w.0 w.1)))) e

  routers_apart : AreApart bytes_eq (map (λ x. x.name) (policy_said decls).routers)
  routers_apart =
      subst (AreApart bytes_eq) (sym (router_names decls))
      (apart_mapped bytes_eq (λ (m : Mention). m.text) (names_of decls RouterName)
      (apart_by same_name (λ a b. bytes_eq a.text b.text) (names_of decls RouterName) same_router (filter_apart same_name (is_of RouterName) (declared_names decls) (apart_names decls (no_rows decls none).twice))))

-- ---- the names of files

-- each router's name by its number
by_number : (p : Policy) → map (λ x. x.name) p.routers ≡ map (λ r. (router_of p r).name) (all_routers p)
by_number p =
    let name : ℕ → List ℕ = λ r. (router_of p r).name in
    let n = length-map p.routers (λ (x : Router). x.name) in
    same_lists (map (λ (x : Router). x.name) p.routers) (map name (all_routers p)) (n ∙ sym (length-map-range_with_len name 0 (length p.routers)))
    (λ k d below.
    let there : k < length p.routers = omega (arith, below, n) in
    get_or-map (λ (x : Router). x.name) p.routers k no_router d there ∙ sym (get_or-map-range_with_len name 0 (length p.routers) k k d there (omega arith)))

file_names : (p : Policy) (lists : List (List Line)) (routers : List ℕ) → map (λ file. file.0) (files_of p lists routers) ≡ map (λ r. (router_of p r).name) routers
file_names p lists [] = refl
file_names p lists (r ∷ rs) = ap (λ names. (router_of p r).name ∷ names) (file_names p lists rs)

pub files_distinct : (decls : List DeclText) (lists : List (List Line)) → fault_of decls ≡ None → IsDistinct bytes_eq (map (λ file. file.0) (files_for (policy_said decls) lists))
files_distinct decls lists none =
    let p = policy_said decls in
    let name : ℕ → List ℕ = λ r. (router_of p r).name in
    let apart = subst (AreApart bytes_eq) (by_number p) (routers_apart decls none) in
    let managed = filter_apart (λ a b. bytes_eq (name a) (name b)) (is_managed p) (all_routers p) (map_apart bytes_eq name (all_routers p) apart) in
    subst (IsDistinct bytes_eq) (sym (file_names p lists (managed_routers p))) (distinct_from (map name (managed_routers p)) (apart_mapped bytes_eq name (managed_routers p) managed))
