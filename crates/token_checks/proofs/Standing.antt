-- What stands at a place and before it.
use Rattle.std.proofs.Common.{◌≡◌, ◌≢◌, ◌<◌, ◌≤◌, ◌-◌, ℕ, zero, suc, Bool, false, List, Option, Some, None, option_map, length, get_or, slice_get, refl, sym, ap, ◌∙◌, inl, inr, arith}
use Rattle.std.proofs.lemmas.Bool.{cases_lt}
use Rattle.std.proofs.lemmas.Option.{slice_get-map, slice_get-get_or, slice_get_past}
use Rattle.spoc_lexer.specs.Seen.{seen}
use Rattle.spoc_lexer.specs.Tokens.{Tok}
use Rattle.spoc_lexer.specs.declared.token.Token.{Token}
use Rattle.token_checks.specs.Places.{toks_of, token_before, second_before, passes_there, NonePasses}

pub seen_at : (tokens : List Token) (place : ℕ) (other : Token) → place < length tokens → slice_get (toks_of tokens) place ≡ Some (seen (get_or tokens place other))
seen_at tokens place other h = slice_get-map seen tokens place ∙ ap (option_map seen) (slice_get-get_or tokens place other h)

pub none_past : (tokens : List Token) (place : ℕ) → length tokens ≤ place → slice_get (toks_of tokens) place ≡ None
none_past tokens place h = slice_get-map seen tokens place ∙ ap (option_map seen) (slice_get_past tokens place h)

-- the token before a place
pub seen_before : (tokens : List Token) (place : ℕ) (other : Token) → place ≢ 0 → place ≤ length tokens → ◌≡◌ {A = Option Tok} (Some (seen (get_or tokens (place - 1) other))) (token_before (toks_of tokens) place)
seen_before tokens zero other some h = absurd (some refl)
seen_before tokens (suc place) other some h =
    let here : suc place - 1 ≡ place = omega arith in
    let lower : place < length tokens = omega arith in
    ap (λ k. Some (seen (get_or tokens k other))) here ∙ sym (seen_at tokens place other lower)

-- the token before the one before a place
pub second_at : (toks : List Tok) (place : ℕ) → place ≢ 0 → token_before toks (place - 1) ≡ second_before toks place
second_at toks zero some = absurd (some refl)
second_at toks (suc place) some =
    let here : suc place - 1 ≡ place = omega arith in
    ap (token_before toks) here

-- a test at the token there
pub passes_here : (test : Tok → Bool) (tokens : List Token) (place : ℕ) (other : Token) → place < length tokens → test (seen (get_or tokens place other)) ≡ passes_there test (slice_get (toks_of tokens) place)
passes_here test tokens place other h = sym (ap (passes_there test) (seen_at tokens place other h))

-- a test that fails at each token passes nowhere
pub passes_nowhere : (test : ℕ → Tok → Bool) (tokens : List Token) (count : ℕ) → length tokens ≤ count → ((place : ℕ) → place < count → passes_there (test place) (slice_get (toks_of tokens) place) ≡ false) → NonePasses (λ place. passes_there (test place) (slice_get (toks_of tokens) place))
passes_nowhere test tokens count all within place = elim (cases_lt place count) as (λ _. passes_there (test place) (slice_get (toks_of tokens) place) ≡ false) [ inl h ↦ within place h | inr h ↦ past h ]
  where
    past : count ≤ place → passes_there (test place) (slice_get (toks_of tokens) place) ≡ false
    past h = let behind : length tokens ≤ place = omega arith in ap (passes_there (test place)) (none_past tokens place behind)
