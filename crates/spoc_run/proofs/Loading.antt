-- Reading one file after another.
use Rattle.std.proofs.Common.{◌≡◌, ◌≤◌, ◌-◌, ℕ, min, true, false, nat_lt, List, [], ◌∷◌, ◌++◌, Some, length, map, IsSome, refl, sym, ap, ◌∙◌, arith, append_assoc, cond}
use Rattle.std.proofs.lemmas.List.{map-append}
use Rattle.std.proofs.lemmas.List.Elements.{All-tail}
use Rattle.std.specs.Option.{unwrap_or}
use Rattle.spoc_io.specs.Files.{Files, bytes_at, paths}
use Rattle.spoc_base.specs.declared.place.Source.{Source}
use Rattle.spoc_run.specs.Policy.{with_bytes, first_large, most_of_all, most_of_one}
use Rattle.spoc_run.specs.Paths.{is_policy_path}
use Rattle.fault_text.specs.Texts.{pair_of}
use Rattle.spoc_run.specs.Sources.{ReadsOn, ReadsPaths, IsLargeOf}
use Rattle.spoc_run.specs.declared.load.LoadFail.{LoadFail}
use Rattle.spoc_run.specs.declared.load.LoadFail.TheVariants.{Read, Large, Memory}

-- one more file was read
pub reads_on : (files : Files) (all : List (List ℕ)) (path : List ℕ) (rest now : List (List ℕ)) (sources : List Source) (source : Source) (left : ℕ) → rest ≡ path ∷ now → source.path ≡ path → bytes_at files path ≡ Some source.text → length source.text ≤ min most_of_one left → ReadsOn files all rest sources left → ReadsOn files all now (sources ++ source ∷ []) (left - length source.text)
reads_on files all path rest now sources source left e p t small h =
    let here : unwrap_or (bytes_at files path) [] ≡ source.text = rw t refl in
    let split : with_bytes files rest ≡ (path, source.text) ∷ with_bytes files now = rw (e, here) refl in
    let one : pair_of source ≡ (path, source.text) = rw p refl in
    let fits : nat_lt (min most_of_one left) (length source.text) ≡ false = grind arith in
    let opened : first_large left ((path, source.text) ∷ with_bytes files now) ≡ first_large (left - length source.text) (with_bytes files now) = ap (λ b. cond b (Some path) (first_large (left - length source.text) (with_bytes files now))) fits in
    record {
      read = rw (map-append, one) (append_assoc (map pair_of sources) ((path, source.text) ∷ []) (with_bytes files now) ∙ rw (← split) h.read);
      large = sym opened ∙ (rw split at h.large);
      there = All-tail (λ path. IsSome (bytes_at files path)) path now (rw e at h.there);
    }

-- the same of a folder that doesn't tell its files
pub reads_paths : (all : List (List ℕ)) (path : List ℕ) (rest now : List (List ℕ)) (sources : List Source) (source : Source) (left : ℕ) → rest ≡ path ∷ now → source.path ≡ path → length source.text ≤ min most_of_one left → ReadsPaths all rest sources left → ReadsPaths all now (sources ++ source ∷ []) (left - length source.text)
reads_paths all path rest now sources source left e p small h =
    let one : pair_of source ≡ (path, source.text) = rw p refl in
    let more : map pair_of (sources ++ source ∷ []) ≡ map pair_of sources ++ (path, source.text) ∷ [] = rw (map-append, one) refl in
    let fits : nat_lt (min most_of_one left) (length source.text) ≡ false = grind arith in
    record {
      read = ap (λ fs. paths fs ++ now) more ∙ rw (map-append) (append_assoc (paths (map pair_of sources)) (path ∷ []) now) ∙ ap (λ xs. paths (map pair_of sources) ++ xs) (sym e) ∙ h.read;
      fits = λ next.
          ap (λ fs. first_large most_of_all (fs ++ next)) more
          ∙ ap (first_large most_of_all) (append_assoc (map pair_of sources) ((path, source.text) ∷ []) next)
          ∙ h.fits ((path, source.text) ∷ next)
          ∙ ap (λ b. cond b (Some path) (first_large (left - length source.text) next)) fits;
      policy = All-tail (λ path. is_policy_path path ≡ true) path now (rw e at h.policy);
    }

-- what holds of the path of a file that is too large
pub large_weaker : (d : LoadFail) (P Q : List ℕ → Type 0) → ((path : List ℕ) → P path → Q path) → IsLargeOf P d → IsLargeOf Q d
large_weaker Read P Q f h = h
large_weaker (Large path) P Q f h = f path h
large_weaker Memory P Q f h = h
