-- The file that lies under a router's name, where names of files are distinct.
use Rattle.std.proofs.Common.{◌≡◌, ℕ, Bool, true, false, cond, inl, inr, List, [], ◌∷◌, length, map, Option, Some, None, is_some, refl, sym, ap, subst, ◌∙◌}
use Rattle.std.specs.List.{AllByRecursion, IsDistinct}
use Rattle.std.specs.Str.{bytes_eq}
use Rattle.std.proofs.lemmas.Bool.{false≢true, false_from_ne_true}
use Rattle.std.proofs.lemmas.Slice.Eq.{bytes_eq-Decides}
use Rattle.spoc_io.specs.Files.{Files, bytes_at, paths}
use Rattle.policy_model.specs.Policy.{Policy, router_of, is_managed, all_routers, managed_routers}
use Rattle.policy_model.specs.Passing.{Config}
use Rattle.policy_model.proofs.AllWalks.{IsIn, in_filter, in_numbers, managed_is_there}
use Rattle.printed_laws.specs.ReadFiles.{IsReadAs, AreReadAs}
use Rattle.spoc_run.specs.Held.{HoldsConfig}

some_there : (o : Option (List ℕ)) (text : List ℕ) → o ≡ Some text → is_some o ≡ true
some_there o text e = ap is_some e

-- what one holds under the router's name, the other holds
pub held_config : (p : Policy) (held : Files) (r : ℕ) (config : Config) (files : Files) →
    ((name : List ℕ) → is_some (bytes_at files name) ≡ true → bytes_at held name ≡ bytes_at files name) → HoldsConfig p files r config → HoldsConfig p held r config
held_config p held r config files same h =
    let name = (router_of p r).name in
    record { text = h.text; there = same name (some_there (bytes_at files name) h.text h.there) ∙ h.there; read = h.read }

-- ---- among files

one_way : (a b : List ℕ) → bytes_eq a b ≡ false → bytes_eq b a ≡ false
one_way a b e = false_from_ne_true (bytes_eq b a) (λ t. false≢true (sym e ∙ (bytes_eq-Decides a b).1 (sym ((bytes_eq-Decides b a).0 t))))

-- a name under which something lies is none that all names differ from
not_first : (first name : List ℕ) (files : Files) (text : List ℕ) → AllByRecursion (λ y. bytes_eq first y ≡ false) (paths files) → bytes_at files name ≡ Some text → bytes_eq name first ≡ false
not_first first name [] text others e = absurd (none_is text e)
  where
    none_is : (text : List ℕ) → ◌≡◌ {A = Option (List ℕ)} None (Some text) → ⊥
    none_is text e = absurd (cc)
not_first first name (file ∷ files) text others e = go (not_first first name files text others.1) (bytes_eq name file.0) refl e
  where
    go : (bytes_at files name ≡ Some text → bytes_eq name first ≡ false) → (b : Bool) → bytes_eq name file.0 ≡ b → cond b (Some file.1) (bytes_at files name) ≡ Some text →
        bytes_eq name first ≡ false
    go later true is e = subst (λ (n : List ℕ). bytes_eq n first ≡ false) (sym ((bytes_eq-Decides name file.0).0 is)) (one_way first file.0 others.0)
    go later false is e = later e

module _ (p : Policy) (config : ℕ → Config) where
  here : (r : ℕ) (file : List ℕ × List ℕ) (files : Files) → IsReadAs p r (config r) file → HoldsConfig p (file ∷ files) r (config r)
  here r file files h = record {
    text = file.1;
    there = ap (λ b. cond b (Some file.1) (bytes_at files (router_of p r).name)) ((bytes_eq-Decides (router_of p r).name file.0).1 (sym h.name));
    read = h.text;
  }

  later : (r : ℕ) (file : List ℕ × List ℕ) (files : Files) → AllByRecursion (λ y. bytes_eq file.0 y ≡ false) (paths files) → HoldsConfig p files r (config r) → HoldsConfig p (file ∷ files) r (config r)
  later r file files others h = record {
    text = h.text;
    there = ap (λ b. cond b (Some file.1) (bytes_at files (router_of p r).name)) (not_first file.0 (router_of p r).name files h.text others h.there) ∙ h.there;
    read = h.read;
  }

  found_in : (routers : List ℕ) (files : Files) → AreReadAs p routers (map config routers) files → IsDistinct bytes_eq (paths files) → (r : ℕ) → IsIn r routers → HoldsConfig p files r (config r)
  unfolding IsDistinct
  found_in [] files reads names r h = absurd h
  found_in (k ∷ routers) [] reads names r h = absurd reads
  found_in (k ∷ routers) (file ∷ files) reads names r (inl e) = subst (λ (n : ℕ). HoldsConfig p (file ∷ files) n (config n)) (sym e) (here k file files reads.0)
  found_in (k ∷ routers) (file ∷ files) reads names r (inr h) = later r file files names.0 (found_in routers files reads.1 names.1 r h)

  pub config_found : (files : Files) → AreReadAs p (managed_routers p) (map config (managed_routers p)) files → IsDistinct bytes_eq (paths files) →
      (r : ℕ) → is_managed p r ≡ true → HoldsConfig p files r (config r)
  config_found files reads names r managed =
      found_in (managed_routers p) files reads names r (in_filter (is_managed p) r (all_routers p) (in_numbers (length p.routers) r (managed_is_there p r managed)) managed)
