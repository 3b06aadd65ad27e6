-- The files that a target holds are those that were put.
use Rattle.std.proofs.Common.{◌≡◌, ℕ, true, false, List, Option, Some, None, Result, Ok, Err, is_some, map, refl, sym, subst, ◌∙◌}
use Rattle.std.specs.Option.{ForSome}
use Rattle.std.specs.List.{IsDistinct}
use Rattle.std.specs.Str.{bytes_eq}
use Rattle.spoc_io.specs.Causes.{BothTold}
use Rattle.spoc_io.specs.Files.{Files, bytes_at, paths}
use Rattle.policy_model.specs.Policy.{managed_routers}
use Rattle.policy_model.specs.Passing.{config_of}
use Rattle.policy_outcome.specs.Files.{config_for}
use Rattle.policy_outcome.specs.Outcome.{Written}
use Rattle.printed_laws.proofs.InPlace.{config_in_place}
use Rattle.source_laws.specs.Sources.{policy_in}
use Rattle.compile_core.specs.Exact.{AreExact}
use Rattle.spoc_run.specs.Outcome.{compiled_of, is_accepted, device_files}
use Rattle.spoc_run.specs.Puts.{PutsAll, or_else}
use Rattle.spoc_run.specs.Decided.{IsExactly}
use Rattle.spoc_run.specs.Held.{HoldsConfig, HoldsExact}
use Rattle.spoc_run.proofs.Finding.{held_config, config_found}

found_first : (o p : Option (List ℕ)) → is_some o ≡ true → or_else o p ≡ o
found_first (Some x) p e = refl
found_first None p e = absurd (not_true e)
  where
    not_true : false ≡ true → ⊥
    not_true e = absurd (cc)

not_accepted : false ≡ true → ⊥
not_accepted e = absurd (cc)

-- each file that was put is there
put_there : (files old held : Files) → PutsAll files old held → (name : List ℕ) → is_some (bytes_at files name) ≡ true → bytes_at held name ≡ bytes_at files name
put_there files old held puts name there = puts name ∙ found_first (bytes_at files name) (bytes_at old name) there

held_of : (sources old held : Files) → IsExactly sources → (w : Written) → compiled_of sources ≡ Ok w → PutsAll w.files old held → HoldsExact sources held
held_of sources old held exact w e puts =
    let p = policy_in sources in
    let is : AreExact sources w × IsDistinct bytes_eq (paths w.files) = exact w e in
    let there = put_there w.files old held puts in
    record {
      written = w;
      compiled = e;
      files = there;
      configs = map (config_for p is.0.lists) (managed_routers p);
      read = λ r managed. held_config p held r (config_of p (map (config_for p is.0.lists) (managed_routers p)) r) w.files there
          (subst (HoldsConfig p w.files r) (sym (config_in_place p (config_for p is.0.lists) r managed))
          (config_found p (config_for p is.0.lists) w.files is.0.read is.1 r managed));
      exact = is.0;
      decides = is.0.decides;
    }

held_by : (sources old held : Files) → IsExactly sources → (r : Result Written (List ℕ)) → compiled_of sources ≡ r → is_accepted r ≡ true → PutsAll (device_files r) old held → HoldsExact sources held
held_by sources old held exact (Ok w) e a puts = held_of sources old held exact w e puts
held_by sources old held exact (Err line) e a puts = absurd (not_accepted a)

some_is : (a b : Files) → ◌≡◌ {A = Option Files} (Some a) (Some b) → a ≡ b
some_is a b e = cc

none_is : (b : Files) → ◌≡◌ {A = Option Files} None (Some b) → ⊥
none_is b e = absurd (cc)

pub holds_exact : (sources : Files) (old new : Option Files) → IsExactly sources → is_accepted (compiled_of sources) ≡ true → BothTold (PutsAll (device_files (compiled_of sources))) old new → ForSome new (λ held. HoldsExact sources held)
holds_exact sources (Some old) (Some new) exact a puts held e =
    subst (λ held. HoldsExact sources held) (some_is new held e) (held_by sources old new exact (compiled_of sources) refl a puts)
holds_exact sources None (Some new) exact a puts held e = absurd puts
holds_exact sources (Some old) None exact a puts held e = absurd puts
holds_exact sources None None exact a puts held e = absurd (none_is held e)
