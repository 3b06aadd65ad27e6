-- The first token that passes a test, both ways.
use Rattle.std.specs.Prelude.{◌≡◌, ◌⊎◌, refl, ℕ, zero, suc, ◌<◌, Bool, true, false, List, [], ◌∷◌, length, slice_get, Some, None}
use Rattle.std.proofs.Common.{arith, ap, sym, ◌∙◌, inl, inr}
use Rattle.std.proofs.lemmas.Bool.{false≢true}
use Rattle.std.proofs.lemmas.Option.{none-some}
use Rattle.std.proofs.Math.Nat.{eq-or-lt_of_le}
use Rattle.spoc_lexer.specs.Tokens.{Tok}
use Rattle.token_checks.specs.Places.{IsFirst, NonePasses}
use Rattle.policy_files.specs.Fault.{first_token}
use Rattle.policy_files.proofs.First.{token_found, no_token}

abbrev FirstBelow : (ℕ → Bool) → ℕ → Type 0
FirstBelow test n = (k : ℕ) × IsFirst test k × (k < n)

abbrev NoneBelow : (ℕ → Bool) → ℕ → Type 0
NoneBelow test n = (k : ℕ) → k < n → test k ≡ false

below : (test : ℕ → Bool) (n : ℕ) → FirstBelow test n ⊎ NoneBelow test n
below test zero = inr (λ k h. absurd (omega arith))
below test (suc n) = step (below test n) (test n) refl
  where
    last : NoneBelow test n → test n ≡ false → (k : ℕ) → (k ≡ n) ⊎ (k < n) → test k ≡ false
    last none here k (inl e) = ap test e ∙ here
    last none here k (inr lower) = none k lower

    step : FirstBelow test n ⊎ NoneBelow test n → (b : Bool) → test n ≡ b → FirstBelow test (suc n) ⊎ NoneBelow test (suc n)
    step (inl first) b e = inl (first.0, first.1, omega (arith, first.2))
    step (inr none) true e = inl (n, record { passes = e; earlier = none }, omega arith)
    step (inr none) false e = inr (λ k h. last none e k (eq-or-lt_of_le (omega (arith, h))))

-- the first token that passes, or none passes
abbrev pub HasFirstOf : (ℕ → Bool) → List Tok → Tok → Type 0
HasFirstOf test toks tok = (place : ℕ) × IsFirst test place × (slice_get toks place ≡ Some tok)

there : (xs : List Tok) (k : ℕ) → k < length xs → (tok : Tok) × (slice_get xs k ≡ Some tok)
there [] k low = absurd (omega (arith, low))
there (x ∷ xs) zero low = (x, refl)
there (x ∷ xs) (suc k) low = there xs k (omega (arith, low))

module _ (test : ℕ → Bool) (toks : List Tok) (within : (k : ℕ) → test k ≡ true → k < length toks) where
  cases : ((tok : Tok) × HasFirstOf test toks tok) ⊎ NonePasses test
  cases = step (below test (length toks))
    where
      none : NoneBelow test (length toks) → (k : ℕ) (b : Bool) → test k ≡ b → test k ≡ false
      none fails k true e = absurd (false≢true (sym (fails k (within k e)) ∙ e))
      none fails k false e = e

      step : FirstBelow test (length toks) ⊎ NoneBelow test (length toks) → ((tok : Tok) × HasFirstOf test toks tok) ⊎ NonePasses test
      step (inl first) = let tok = there toks first.0 first.2 in inl (tok.0, (first.0, first.1, tok.1))
      step (inr fails) = inr (λ k. none fails k (test k) refl)

  pub first_is : (tok : Tok) → HasFirstOf test toks tok → first_token test toks ≡ Some tok
  first_is tok has = token_found test toks has.0 tok has.1 has.2

  pub none_is : NonePasses test → first_token test toks ≡ None
  none_is none = no_token test toks none

  pub first_there : (tok : Tok) → first_token test toks ≡ Some tok → HasFirstOf test toks tok
  first_there tok e = step cases
    where
      step : ((other : Tok) × HasFirstOf test toks other) ⊎ NonePasses test → HasFirstOf test toks tok
      step (inl found) = (found.1.0, found.1.1, found.1.2 ∙ (sym (first_is found.0 found.1) ∙ e))
      step (inr none) = absurd (none-some tok (sym (none_is none) ∙ e))

  pub none_there : first_token test toks ≡ None → NonePasses test
  none_there e = step cases
    where
      step : ((other : Tok) × HasFirstOf test toks other) ⊎ NonePasses test → NonePasses test
      step (inl found) = absurd (none-some found.0 (sym e ∙ first_is found.0 found.1))
      step (inr none) = none
