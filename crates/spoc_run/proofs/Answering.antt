-- By which files a status was decided.
use Rattle.std.proofs.Common.{◌≡◌, ◌≢◌, ℕ, zero, suc, min, true, false, ◌==◌, ◌||◌, List, [], ◌∷◌, ◌++◌, length, Option, Some, None, refl, sym, ap, subst, ◌∙◌, arith, cond, inl, inr}
use Rattle.std.specs.Prelude.{IsTrue, ◌⊎◌, Err, codes, nat_lt, option_map}
use Rattle.std.specs.Option.{ForSome}
use Rattle.std.specs.Str.{bytes_eq}
use Rattle.std.specs.List.{IsDistinct}
use Rattle.std.proofs.lemmas.Bool.{cases_eq}
use Rattle.spoc_io.specs.Files.{Files, paths}
use Rattle.spoc_io.specs.Causes.{Rose}
use Rattle.spoc_run.specs.Paths.{is_policy_path}
use Rattle.spoc_run.specs.Policy.{policy_of, first_large, most_of_all, most_of_one}
use Rattle.first_fault_laws.specs.Whole.{last_row}
use Rattle.source_laws.specs.Table.{HaveNone, TellsFirst}
use Rattle.spoc_run.specs.Outcome.{text_of, policy_text, is_compile, compiled_of, device_files}
use Rattle.spoc_run.specs.Caused.{IsDue}
use Rattle.spoc_run.specs.Decided.{IsExactly, AnswersSources, AnswersFail}
use Rattle.spoc_run.specs.Sources.{IsLargeOf, HasLoadCause}
use Rattle.spoc_run.specs.Answering.{IsDecided}
use Rattle.spoc_run.specs.declared.load.LoadFail.{LoadFail}
use Rattle.spoc_run.specs.declared.load.LoadFail.TheVariants.{Read, Large, Memory}
use Rattle.spoc_run.proofs.Wanted.{one_policy}

-- a status that no files decide
not_due : (status : ℕ) (sources : Files) → status ≢ 0 → status ≢ 1 → status ≢ 9 → IsDue status sources
not_due status sources zero_not one_not nine_not = record {
  done = λ e. absurd (zero_not e);
  fault = λ e. absurd (one_not e);
  small = λ e. elim e [ inl z ↦ absurd (zero_not z) | inr o ↦ absurd (one_not o) ];
  large = λ e. absurd (nine_not e);
}

some_is : (a b : Files) → ◌≡◌ {A = Option Files} (Some a) (Some b) → a ≡ b
some_is a b e = cc

-- the files that a folder tells, or others
files_or : Option Files → Files → Files
files_or (Some fs) other = fs
files_or None other = other

told_or : (known : Option Files) (other : Files) → ForSome known (λ fs. files_or known other ≡ fs)
unfolding files_or
told_or (Some fs) other = λ x e. some_is fs x e
told_or None other = λ x e. cc

policy_or : (known : Option Files) (other sources : Files) → ForSome known (λ fs. sources ≡ policy_of fs) → policy_of other ≡ sources → policy_of (files_or known other) ≡ sources
unfolding files_or
policy_or (Some fs) other sources told own = sym (told fs refl)
policy_or None other sources told own = own

of_known : (known : Option Files) (P : Files → Type 0) (other : Files) → ForSome known P → P other → P (files_or known other)
unfolding files_or
of_known (Some fs) P other told own = told fs refl
of_known None P other told own = own

-- a list of any length
long : (n : ℕ) → (xs : List ℕ) × (length xs ≡ n)
long zero = ([], refl)
long (suc n) = let rest = long n in (0 ∷ rest.0, ap suc rest.1)

-- a folder with one file that is too large
large_alone : (path bytes : List ℕ) → is_policy_path path ≡ true → length bytes ≡ 4194305 → first_large most_of_all (policy_of ((path, bytes) ∷ [])) ≡ Some path
large_alone path bytes policy size =
    let past : nat_lt (min most_of_one most_of_all) (length bytes) ≡ true = grind (arith, size) in
    ap (first_large most_of_all) (one_policy path bytes policy) ∙ ap (λ b. cond b (Some path) None) past

module _ (words : List (List ℕ)) (known : Option Files) (faults faults' larges larges' : ℕ) where
  -- words that match no form
  pub decided_usage : (put : Files) → is_compile words ≡ false → larges' ≡ larges → IsDistinct bytes_eq (paths put) →
      IsDecided words known faults faults' larges larges' 2 (codes "usage\n") put
  decided_usage put other stays names = record {
    files = files_or known [];
    told = told_or known [];
    caused = record {
      known = refl;
      usage = λ e. other;
      usage_only = λ e. refl;
      read = λ e. absurd (omega arith);
      large = λ e. absurd (omega arith);
      due = λ fs e. not_due 2 (policy_of fs) (λ z. absurd (omega arith)) (λ o. absurd (omega arith)) (λ n. absurd (omega arith));
    };
    counted = λ nine five. stays;
    says = refl;
    puts = λ e. absurd (omega arith);
    names = names;
    clear = λ e. absurd (omega arith);
    first = λ e. absurd (omega arith);
    exact = λ e. absurd (omega arith);
  }

  module _ (match : is_compile words ≡ true) where
    no_usage : {A : Type 0} → is_compile words ≡ false → A
    no_usage e = cc (match, e)

    -- a policy that was read
    module _ (sources : Files) (told : ForSome known (λ fs. sources ≡ policy_of fs)) (own : policy_of sources ≡ sources) (fits : first_large most_of_all sources ≡ None)
        (status : ℕ) (text : List ℕ) (put : Files) (answers : AnswersSources sources status text put) where
      abbrev files : Files
      files = files_or known sources

      policy : policy_of files ≡ sources
      policy = policy_or known sources sources told own

      three : (s : ℕ) → IsTrue (s == 0 || (s == 1 || s == 5)) → s ≢ 0 → s ≢ 1 → s ≡ 5
      three s h z o = grind arith

      of_five : status ≢ 0 → status ≢ 1 → status ≡ 5
      of_five z o = three status answers.known z o

      says_by : (status ≡ 0) ⊎ (status ≢ 0) → (status ≡ 1) ⊎ (status ≢ 1) → text_of status (Some files) ≡ Some text
      says_by (inl z) o = subst (λ s. text_of s (Some files) ≡ Some text) (sym z) (ap (policy_text 0) policy ∙ answers.summary z)
      says_by (inr z) (inl o) = subst (λ s. text_of s (Some files) ≡ Some text) (sym o) (ap (policy_text 1) policy ∙ answers.fault o)
      says_by (inr z) (inr o) = let five = of_five z o in subst (λ s. text_of s (Some files) ≡ Some text) (sym five) (ap (λ t. Some t) (sym (answers.memory five)))

      due : IsDue status sources
      due = record {
        done = answers.accepted;
        fault = answers.refused;
        small = λ e. fits;
        large = λ e. absurd (grind (arith, answers.known));
      }

      pub decided_sources : larges' ≡ larges → IsDecided words known faults faults' larges larges' status text put
      decided_sources stays = record {
        files = files;
        told = told_or known sources;
        caused = record {
          known = grind (arith, answers.known);
          usage = λ e. absurd (grind (arith, answers.known));
          usage_only = no_usage;
          read = λ e. absurd (grind (arith, answers.known));
          large = λ e. absurd (grind (arith, answers.known));
          due = λ fs e. subst (λ xs. IsDue status xs) (sym policy ∙ ap policy_of (some_is files fs e)) due;
        };
        counted = λ nine five. stays;
        says = says_by (cases_eq status 0) (cases_eq status 1);
        puts = λ e. answers.written e ∙ ap (λ xs. device_files (compiled_of xs)) (sym policy);
        names = answers.names;
        clear = λ e. subst (λ xs. HaveNone xs last_row) (sym policy) (answers.clear e);
        first = λ e. subst (λ xs. TellsFirst xs last_row text) (sym policy) (answers.first e);
        exact = λ e. subst (λ xs. IsExactly xs) (sym policy) (answers.exact e);
      }

    -- a policy that could not be read
    module _ (other : Files) (status : ℕ) (text : List ℕ) (put : Files) (names : IsDistinct bytes_eq (paths put)) where
      abbrev files_read : Files
      files_read = files_or known other

      -- by no file
      decided_without : status ≢ 0 → status ≢ 1 → status ≢ 2 → status ≢ 9 → (status ≡ 3) ⊎ (status ≡ 5) → (status ≡ 3 → Rose faults faults') → (status ≢ 5 → larges' ≡ larges) →
          text_of status (Some files_read) ≡ Some text → IsDecided words known faults faults' larges larges' status text put
      decided_without z o u n which read stays says = record {
        files = files_read;
        told = told_or known other;
        caused = record {
          known = elim which [ inl e ↦ grind (arith, e) | inr e ↦ grind (arith, e) ];
          usage = λ e. absurd (u e);
          usage_only = no_usage;
          read = read;
          large = λ e. absurd (n e);
          due = λ fs e. not_due status (policy_of fs) z o n;
        };
        counted = λ nine five. stays five;
        says = says;
        puts = λ e. absurd (z e);
        names = names;
        clear = λ e. absurd (z e);
        first = λ e. absurd (o e);
        exact = λ e. absurd (z e);
      }

      decided_three : status ≡ 3 → text ≡ codes "read fault\n" → Rose faults faults' → larges' ≡ larges → IsDecided words known faults faults' larges larges' status text put
      decided_three e t rose stays =
          decided_without (λ z. absurd (omega arith)) (λ o. absurd (omega arith)) (λ u. absurd (omega arith)) (λ n. absurd (omega arith)) (inl e) (λ _. rose) (λ _. stays)
          (subst (λ s. text_of s (Some files_read) ≡ Some text) (sym e) (ap (λ t. Some t) (sym t)))

      decided_five : status ≡ 5 → text ≡ codes "memory\n" → IsDecided words known faults faults' larges larges' status text put
      decided_five e t =
          decided_without (λ z. absurd (omega arith)) (λ o. absurd (omega arith)) (λ u. absurd (omega arith)) (λ n. absurd (omega arith)) (inr e) (λ three. absurd (omega arith)) (λ five. absurd (five e))
          (subst (λ s. text_of s (Some files_read) ≡ Some text) (sym e) (ap (λ t. Some t) (sym t)))

      -- by the first file that is too large
      decided_nine : (path : List ℕ) → first_large most_of_all (policy_of files_read) ≡ Some path → Rose larges larges' → status ≡ 9 → text ≡ codes "too large " ++ path ++ codes "\n" →
          IsDecided words known faults faults' larges larges' status text put
      decided_nine path large rose e t = record {
        files = files_read;
        told = told_or known other;
        caused = record {
          known = grind (arith, e);
          usage = λ u. absurd (omega arith);
          usage_only = no_usage;
          read = λ r. absurd (omega arith);
          large = λ _. rose;
          due = λ fs f. record {
            done = λ z. absurd (omega arith);
            fault = λ o. absurd (omega arith);
            small = λ w. elim w [ inl z ↦ absurd (omega arith) | inr o ↦ absurd (omega arith) ];
            large = λ _. rw (sym (ap (λ xs. first_large most_of_all (policy_of xs)) (some_is files_read fs f)) ∙ large) refl;
          };
        };
        counted = λ nine five. absurd (nine e);
        says = subst (λ s. text_of s (Some files_read) ≡ Some text) (sym e)
            (ap (option_map (λ path. codes "too large " ++ path ++ codes "\n")) large ∙ ap (λ t. Some t) (sym t));
        puts = λ z. absurd (omega arith);
        names = names;
        clear = λ z. absurd (omega arith);
        first = λ o. absurd (omega arith);
        exact = λ z. absurd (omega arith);
      }

    pub decided_fail : {T : Type 0} (fail : LoadFail) → HasLoadCause {T = T} faults faults' larges larges' (Err fail) →
        IsLargeOf (λ path. ForSome known (λ fs. first_large most_of_all (policy_of fs) ≡ Some path)) fail → IsLargeOf (λ path. is_policy_path path ≡ true) fail →
        (status : ℕ) (text : List ℕ) (put : Files) → AnswersFail fail status text put → IsDecided words known faults faults' larges larges' status text put
    decided_fail Read cause large named status text put answers = decided_three [] status text put answers.2 answers.0 answers.1 (cause.read refl) cause.stays
    decided_fail Memory cause large named status text put answers = decided_five [] status text put answers.2 answers.0 answers.1
    decided_fail (Large path) cause large named status text put answers =
        let bytes = long 4194305 in
        let other : Files = (path, bytes.0) ∷ [] in
        let first : first_large most_of_all (policy_of (files_or known other)) ≡ Some path =
        of_known known (λ xs. first_large most_of_all (policy_of xs) ≡ Some path) other large (large_alone path bytes.0 named bytes.1) in
        elim (cases_eq status 9) [
          | inl e ↦ decided_nine other status text put answers.3 path first cause.large e (answers.1 e)
          | inr n ↦ let five : status ≡ 5 = not_nine status answers.0 n in decided_five other status text put answers.3 five (answers.2 five)
        ]
      where
        not_nine : (s : ℕ) → IsTrue (s == 9 || s == 5) → s ≢ 9 → s ≡ 5
        not_nine s h n = grind arith
