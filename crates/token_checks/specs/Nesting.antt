-- How deep brackets stand in one another.
use Rattle.std.specs.Prelude.{ℕ, ◌+◌, ◌-◌, Bool, ◌&&◌, ◌||◌, nat_le, List, slice_get, take, if◌then◌else◌}
use Rattle.std.specs.List.{fold}
use Rattle.spoc_lexer.specs.Tokens.{Tok}
use Rattle.token_checks.specs.Places.{is_the_sign, passes_there}

-- so many brackets may be open at once
abbrev pub most_levels : ℕ
most_levels = 16

-- `{` or `[`
abbrev pub opens : Tok → Bool
opens tok = is_the_sign 123 tok || is_the_sign 91 tok

-- `}` or `]`
abbrev pub closes : Tok → Bool
closes tok = is_the_sign 125 tok || is_the_sign 93 tok

-- the level behind a token, from the level in front of it; a closing bracket at level 0 leaves it at 0
abbrev pub level_behind : ℕ → Tok → ℕ
level_behind level tok = if opens tok then level + 1 else if closes tok then level - 1 else level

-- the level in front of a place, which is 0 where the tokens begin
abbrev pub level_at : List Tok → ℕ → ℕ
level_at toks place = fold level_behind 0 (take place toks)

-- the token opens a level behind the last that is allowed
abbrev pub opens_beyond : ℕ → Tok → Bool
opens_beyond level tok = opens tok && nat_le most_levels level

-- the token at a place is a bracket that opens one level too many
abbrev pub is_too_deep_at : List Tok → ℕ → Bool
is_too_deep_at toks place = passes_there (opens_beyond (level_at toks place)) (slice_get toks place)
