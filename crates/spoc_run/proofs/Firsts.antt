-- A status that was decided, by the first fault of the policy.
use Rattle.std.proofs.Common.{◌≡◌, ◌≢◌, ℕ, true, List, [], Option, Some, None, IsSome, refl, subst, arith}
use Rattle.std.specs.Prelude.{IsTrue, slice_get}
use Rattle.std.specs.Option.{ForSome}
use Rattle.spoc_base.specs.declared.fault.Fault.{Fault}
use Rattle.first_fault_laws.specs.Whole.{last_row}
use Rattle.source_laws.specs.Table.{HaveNone, TellsFirst, SourceFault, OfTexts, OfPolicy, IsFirstOf, faults_in}
use Rattle.spoc_io.specs.Files.{Files}
use Rattle.spoc_io.specs.Causes.{Rose}
use Rattle.spoc_run.specs.Policy.{policy_of, first_large, most_of_all}
use Rattle.spoc_run.specs.Outcome.{is_compile}
use Rattle.spoc_run.specs.Caused.{is_either, is_status}
use Rattle.spoc_run.specs.Answering.{IsDecided, IsByFirstFault}

none_there : (xs : List Fault) (f : Fault) → xs ≡ [] → slice_get xs 0 ≡ Some f → ⊥
none_there xs f none e = cc (none, e)

-- sources without a fault have no first one
no_first : (sources : Files) (f : SourceFault) → HaveNone sources last_row → IsFirstOf sources last_row f → ⊥
no_first sources (OfTexts f) none first = none_there (faults_in sources) f none.texts first
no_first sources (OfPolicy f) none first = none.policy f (record { lower = omega arith; upper = first.2 }) first.1.there

pub none_tells : (sources : Files) (line : List ℕ) → HaveNone sources last_row → TellsFirst sources last_row line → ⊥
none_tells sources line none tells = no_first sources tells.fault none tells.first

module _ (words : List (List ℕ)) (known : Option Files) (faults faults' larges larges' status : ℕ) (text : List ℕ) (put : Files)
    (d : IsDecided words known faults faults' larges larges' status text put) where
  pub clear_of : status ≡ 0 → ForSome known (λ fs. HaveNone (policy_of fs) last_row)
  clear_of e = λ fs k. subst (λ xs. HaveNone (policy_of xs) last_row) (d.told fs k) (d.clear e)

  pub first_of : status ≡ 1 → ForSome known (λ fs. TellsFirst (policy_of fs) last_row text)
  first_of e = λ fs k. subst (λ xs. TellsFirst (policy_of xs) last_row text) (d.told fs k) (d.first e)

  module _ (match : is_compile words ≡ true) (quiet : Rose faults faults' → ⊥) (fs : Files) (k : known ≡ Some fs) (small : first_large most_of_all (policy_of fs) ≡ None) where
    no_large : IsSome (first_large most_of_all (policy_of fs)) → ⊥
    no_large some = let none : IsSome {T = List ℕ} None = rw small at some in cc none

    not_nine : status ≢ 9
    not_nine e = no_large (subst (λ xs. IsSome (first_large most_of_all (policy_of xs))) (d.told fs k) ((d.caused.due d.files refl).large e))

    not_two : status ≢ 2
    not_two e = cc (match, d.caused.usage e)

    not_three : status ≢ 3
    not_three e = quiet (d.caused.read e)

    left_zero : (s : ℕ) → IsTrue (is_status s) → s ≢ 1 → s ≢ 2 → s ≢ 3 → s ≢ 9 → IsTrue (is_either 0 5 s)
    left_zero s known one two three nine = grind arith

    left_one : (s : ℕ) → IsTrue (is_status s) → s ≢ 0 → s ≢ 2 → s ≢ 3 → s ≢ 9 → IsTrue (is_either 1 5 s)
    left_one s known zero two three nine = grind arith

    pub by_none : HaveNone (policy_of fs) last_row → IsTrue (is_either 0 5 status)
    by_none none = left_zero status d.caused.known (λ e. none_tells (policy_of fs) text none (first_of e fs k)) not_two not_three not_nine

    pub by_line : (line : List ℕ) → TellsFirst (policy_of fs) last_row line → IsTrue (is_either 1 5 status)
    by_line line tells = left_one status d.caused.known (λ e. none_tells (policy_of fs) line (clear_of e fs k) tells) not_two not_three not_nine

  pub by_first : is_compile words ≡ true → (Rose faults faults' → ⊥) → ForSome known (λ fs. IsByFirstFault (policy_of fs) status)
  by_first match quiet = λ fs k. record {
    clear = λ small none. by_none match quiet fs k small none;
    fault = λ small line tells. by_line match quiet fs k small line tells;
  }
