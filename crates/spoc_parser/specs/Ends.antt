-- Where lists end.
use Rattle.std.specs.Prelude.{Bool, not, true, false, List, codes}
use Rattle.spoc_lexer.specs.Tokens.{Tok}
use Rattle.spoc_parser.specs.declared.lists.End.{End}
use Rattle.spoc_parser.specs.declared.lists.End.TheVariants.{Brace, Idle, Words}
use Rattle.spoc_parser.specs.Readers.{at_sign, at_word, never_ends, list_ends}
use Rattle.spoc_parser.specs.Reading.{no_idle}

abbrev pub is_at : End → List Tok → Bool
is_at Brace toks = at_sign (codes "}") toks
is_at Idle toks = no_idle toks
is_at Words toks = not (at_word toks)

-- behind a last comma a list may end, or it may not
abbrev pub closes : (is_open : Bool) → List Tok → Bool
closes true = list_ends
closes false = never_ends
