-- First places that pass a test.
use Rattle.std.specs.Prelude.{◌≡◌, ◌⊎◌, refl, ℕ, zero, suc, ◌+◌, ◌<◌, ◌≤◌, Bool, true, false, if◌then◌else◌, List, length, slice_get, Option, Some, None, option_and_then}
use Rattle.std.proofs.Common.{arith, ap, sym, ◌∙◌, inl, inr}
use Rattle.std.proofs.lemmas.Bool.{false≢true}
use Rattle.std.proofs.Math.Nat.{eq-or-lt_of_le}
use Rattle.std.proofs.lemmas.Option.{slice_get_within}
use Rattle.spoc_lexer.specs.Tokens.{Tok}
use Rattle.token_checks.specs.Places.{IsFirst, NonePasses, passes_there}
use Rattle.policy_files.specs.Fault.{first_from, first_token}

chosen : (test : ℕ → Bool) (j n : ℕ) (t : Bool) → test j ≡ t → first_from test j (suc n) ≡ (if t then Some j else first_from test (suc j) n)
chosen test j n t e = ap (λ b. if b then Some j else first_from test (suc j) n) e

-- from a place on that isn't behind the first
found_from : (test : ℕ → Bool) (k : ℕ) → IsFirst test k → (n j : ℕ) → j ≤ k → k < j + n → first_from test j n ≡ Some k
found_from test k first zero j low high = absurd (omega arith)
found_from test k first (suc n) j low high = step (eq-or-lt_of_le low) (λ lower. found_from test k first n (suc j) (omega arith) (omega arith))
  where
    step : (j ≡ k) ⊎ (j < k) → (j < k → first_from test (suc j) n ≡ Some k) → first_from test j (suc n) ≡ Some k
    step (inl e) rest = chosen test j n true (ap test e ∙ first.passes) ∙ ap Some e
    step (inr lower) rest = chosen test j n false (first.earlier j lower) ∙ rest lower

pub found : (test : ℕ → Bool) (k n : ℕ) → IsFirst test k → k < n → first_from test 0 n ≡ Some k
found test k n first high = found_from test k first n 0 (omega arith) (omega arith)

none_from : (test : ℕ → Bool) → NonePasses test → (n j : ℕ) → first_from test j n ≡ None
none_from test none zero j = refl
none_from test none (suc n) j = chosen test j n false (none j) ∙ none_from test none n (suc j)

pub none : (test : ℕ → Bool) (n : ℕ) → NonePasses test → first_from test 0 n ≡ None
none test n nothing = none_from test nothing n 0

-- where a test of a token passes, there is one
pub within : (test : Tok → Bool) (toks : List Tok) (k : ℕ) → passes_there test (slice_get toks k) ≡ true → k < length toks
within test toks k passes = there (slice_get toks k) refl
  where
    there : (o : Option Tok) → slice_get toks k ≡ o → k < length toks
    there None e = absurd (false≢true (sym (ap (passes_there test) e) ∙ passes))
    there (Some tok) e = slice_get_within toks k tok e

-- the token at the first place
pub token_found : (test : ℕ → Bool) (toks : List Tok) (k : ℕ) (tok : Tok) → IsFirst test k → slice_get toks k ≡ Some tok → first_token test toks ≡ Some tok
token_found test toks k tok first there =
    ap (λ o. option_and_then (slice_get toks) o) (found test k (length toks) first (slice_get_within toks k tok there)) ∙ there

pub no_token : (test : ℕ → Bool) (toks : List Tok) → NonePasses test → first_token test toks ≡ None
no_token test toks nothing = ap (λ o. option_and_then (slice_get toks) o) (none test (length toks) nothing)
