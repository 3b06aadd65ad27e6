-- What texts say, by the grammar of tokens and the grammar of declarations.
use Rattle.std.specs.Prelude.{◌≡◌, ℕ, ◌+◌, List, [], ◌∷◌, ◌++◌}
use Rattle.spoc_lexer.specs.Tokens.{Tok}
use Rattle.spoc_lexer.specs.Grammar.{HasTokens}
use Rattle.token_checks.specs.Places.{NonePasses}
use Rattle.token_checks.specs.LeftOut.{is_left_out_at}
use Rattle.token_checks.specs.Nesting.{is_too_deep_at}
use Rattle.spoc_ast.specs.Written.{DeclText}
use Rattle.spoc_parser.specs.Trees.{DeclIn}
use Rattle.spoc_parser.specs.Grammar.{SpellsFile}
use Rattle.syntax_laws.specs.Said.{decls_said}

-- no token is a word that is left out
abbrev pub OmitNothing : List Tok → Type 0
OmitNothing toks = NonePasses (is_left_out_at toks)

-- no bracket opens a seventeenth level
abbrev pub AreShallow : List Tok → Type 0
AreShallow toks = NonePasses (is_too_deep_at toks)

-- the tokens spell declarations, whose sets may have any number of levels, and in the file of that number these say this
abbrev pub SpellOut : ℕ → List Tok → List DeclText → Type 0
SpellOut file toks decls = (depth : ℕ) × (items : List (DeclIn depth)) × SpellsFile depth items toks × (decls ≡ decls_said file depth items)

-- the text of the file of that number says these declarations: it has tokens that spell them, no word that is left out, and no seventeenth level
pub record Says (file : ℕ) (text : List ℕ) (decls : List DeclText) : Type 0 where
  pub toks : List Tok
  pub divided : HasTokens text toks
  pub omits : OmitNothing toks
  pub shallow : AreShallow toks
  pub spelled : SpellOut file toks decls

-- each of the texts, from that file on, says declarations, and these are all of them, one text's behind the other's
abbrev pub SayFrom : ℕ → List (List ℕ) → List DeclText → Type 0
SayFrom file [] decls = decls ≡ []
SayFrom file (text ∷ texts) decls = (own others : List DeclText) × Says file text own × SayFrom (file + 1) texts others × (decls ≡ own ++ others)

-- the texts of a policy say these declarations
abbrev pub Say : List (List ℕ) → List DeclText → Type 0
Say texts decls = SayFrom 0 texts decls
