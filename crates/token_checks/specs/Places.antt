-- Places in a list of tokens, counted from 0, and what stands there.
use Rattle.std.specs.Prelude.{◌≡◌, ◌<◌, ℕ, suc, zero, Bool, true, false, ◌&&◌, List, [], ◌∷◌, Option, Some, None, slice_get, map}
use Rattle.std.proofs.Common.{Bor}
use Rattle.std.specs.Str.{bytes_eq}
use Rattle.spoc_lexer.specs.Seen.{seen}
use Rattle.spoc_lexer.specs.Tokens.{Tok}
use Rattle.spoc_lexer.specs.declared.token.Token.{Token}
use Rattle.spoc_lexer.specs.declared.token.TokenKind.{TokenKind}
use Rattle.spoc_lexer.specs.declared.token.TokenKind.TheVariants.{Word, Sign, Description}

-- the tokens of the code
abbrev pub toks_of : List Token → List Tok
toks_of tokens = map seen tokens

-- the token of the code, where there is one
abbrev pub seen_there : Option (Bor Token) → Option Tok
seen_there None = None
seen_there (Some token) = Some (seen token.now)

-- the first place that passes the test
pub record IsFirst (test : ℕ → Bool) (place : ℕ) : Type 0 where
  pub passes : test place ≡ true
  pub earlier : (other : ℕ) → other < place → test other ≡ false

-- no place passes the test
abbrev pub NonePasses : (ℕ → Bool) → Type 0
NonePasses test = (place : ℕ) → test place ≡ false

-- the test passes where there is a token
abbrev pub passes_there : (Tok → Bool) → Option Tok → Bool
passes_there test None = false
passes_there test (Some tok) = test tok

-- the token before a place
abbrev pub token_before : List Tok → ℕ → Option Tok
token_before toks zero = None
token_before toks (suc place) = slice_get toks place

-- the token before that one
abbrev pub second_before : List Tok → ℕ → Option Tok
second_before toks zero = None
second_before toks (suc place) = token_before toks place

abbrev pub is_word_kind : TokenKind → Bool
is_word_kind Word = true
is_word_kind Sign = false
is_word_kind Description = false

abbrev pub is_sign_kind : TokenKind → Bool
is_sign_kind Word = false
is_sign_kind Sign = true
is_sign_kind Description = false

-- the token is this sign
abbrev pub is_the_sign : ℕ → Tok → Bool
is_the_sign byte tok = is_sign_kind tok.kind && bytes_eq tok.text (byte ∷ [])
