-- The words of a text's tokens.
use Rattle.std.specs.Prelude.{◌≡◌, ◌≢◌, List, []}
use Rattle.std.specs.List.{All}
use Rattle.spoc_lexer.specs.Tokens.{Tok}
use Rattle.spoc_lexer.specs.declared.token.TokenKind.TheVariants.{Word}

-- a word has bytes
abbrev pub IsWritten : Tok → Type 0
IsWritten tok = tok.kind ≡ Word → tok.text ≢ []

abbrev pub AreWritten : List Tok → Type 0
AreWritten toks = All IsWritten toks
