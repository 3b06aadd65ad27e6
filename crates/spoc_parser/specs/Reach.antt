-- Offsets of tokens.
use Rattle.std.specs.Prelude.{◌+◌, ◌^◌, ◌<◌, Bool, nat_lt, List, length}
use Rattle.std.specs.List.{All}
use Rattle.spoc_lexer.specs.declared.token.Token.{Token}

-- the token ends below 2^32
abbrev pub IsInReach : Token → Type 0
IsInReach token = token.start + length token.text.now < 2 ^ 32

abbrev pub AreInReach : List Token → Type 0
AreInReach tokens = All IsInReach tokens

-- the same as a test
abbrev pub is_in_reach : Token → Bool
is_in_reach token = nat_lt (token.start + length token.text.now) (2 ^ 32)
