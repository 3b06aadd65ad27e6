-- The level behind one token more.
use Rattle.std.proofs.Common.{◌≡◌, ◌<◌, ◌≤◌, ◌+◌, ◌-◌, ℕ, Bool, true, false, ◌&&◌, nat_le, cond, List, length, get_or, sym, ap, subst, ◌∙◌, arith}
use Rattle.std.proofs.lemmas.List.{get_or-map, length-map}
use Rattle.std.proofs.lemmas.List.Sums.{fold_more}
use Rattle.spoc_lexer.specs.Seen.{seen}
use Rattle.spoc_lexer.specs.Tokens.{Tok}
use Rattle.spoc_lexer.specs.declared.token.Token.{Token}
use Rattle.token_checks.specs.Places.{toks_of}
use Rattle.token_checks.specs.Nesting.{most_levels, opens, closes, level_behind, level_at, opens_beyond, is_too_deep_at}
use Rattle.token_checks.proofs.Standing.{passes_here}

pub one_more : (tokens : List Token) (place : ℕ) (other : Token) (level : ℕ) → place < length tokens → level ≡ level_at (toks_of tokens) place → level_behind level (seen (get_or tokens place other)) ≡ level_at (toks_of tokens) (place + 1)
one_more tokens place other level h e =
    let within : place < length (toks_of tokens) = let Below : ℕ → Type 0 = λ n. place < n in subst Below (sym (length-map tokens seen)) h in
    ap (λ n. level_behind n (seen (get_or tokens place other))) e
    ∙ ap (level_behind (level_at (toks_of tokens) place)) (sym (get_or-map seen tokens place other (seen other) h))
    ∙ sym (fold_more level_behind 0 (toks_of tokens) place (seen other) within)

-- a level that isn't beyond the last one stays so
stays_within : (level : ℕ) (tok : Tok) → level ≤ most_levels → opens_beyond level tok ≡ false → level_behind level tok ≤ most_levels
stays_within level tok h e = by (opens tok) (closes tok) e
  where
    by : (o c : Bool) → (o && nat_le most_levels level) ≡ false → cond o (level + 1) (cond c (level - 1) level) ≤ most_levels
    by true c e = grind arith
    by false true e = omega arith
    by false false e = h

pub stays_low : (tokens : List Token) (place : ℕ) (other : Token) (next level : ℕ) → next ≡ level_behind level (seen (get_or tokens place other)) → level ≤ most_levels → opens_beyond level (seen (get_or tokens place other)) ≡ false → next ≤ most_levels
stays_low tokens place other next level e h low = let Low : ℕ → Type 0 = λ n. n ≤ most_levels in subst Low (sym e) (stays_within level (seen (get_or tokens place other)) h low)

pub fails_here : (tokens : List Token) (place : ℕ) (other : Token) (level : ℕ) → place < length tokens → level ≡ level_at (toks_of tokens) place → opens_beyond level (seen (get_or tokens place other)) ≡ false → is_too_deep_at (toks_of tokens) place ≡ false
fails_here tokens place other level h at e =
    sym (passes_here (opens_beyond (level_at (toks_of tokens) place)) tokens place other h)
    ∙ ap (λ n. opens_beyond n (seen (get_or tokens place other))) (sym at)
    ∙ e
