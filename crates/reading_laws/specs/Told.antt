-- Which fault of reading is told of texts, by the grammars.
use Rattle.std.specs.Prelude.{◌≡◌, ◌≤◌, ℕ, Bool, List, ◌∷◌, ◌++◌, length, take, slice_get, Some}
use Rattle.std.specs.List.{All}
use Rattle.spoc_base.specs.declared.fault.Fault.{Fault}
use Rattle.spoc_base.specs.declared.fault.Fault.TheVariants.{Lex, LeftOut, Deep, Syntax}
use Rattle.spoc_lexer.specs.Tokens.{Tok}
use Rattle.spoc_lexer.specs.Grammar.{HasTokens, StopsAt}
use Rattle.token_checks.specs.Places.{IsFirst}
use Rattle.token_checks.specs.LeftOut.{is_left_out_at}
use Rattle.token_checks.specs.Nesting.{is_too_deep_at}
use Rattle.spoc_parser.specs.Trees.{DeclIn}
use Rattle.spoc_parser.specs.Grammar.{SpellsFile}
use Rattle.policy_files.specs.Fault.{span_of}
use Rattle.reading_laws.specs.Said.{OmitNothing, AreShallow}

-- ---- texts as they should be

abbrev pub IsDivided : List ℕ → Type 0
IsDivided text = (toks : List Tok) × HasTokens text toks

-- it has tokens, and no word of them is left out
abbrev pub OmitsNothing : List ℕ → Type 0
OmitsNothing text = (toks : List Tok) × HasTokens text toks × OmitNothing toks

-- it has tokens, and no bracket of them opens a seventeenth level
abbrev pub IsShallow : List ℕ → Type 0
IsShallow text = (toks : List Tok) × HasTokens text toks × AreShallow toks

-- the tokens spell declarations, whose sets may have any number of levels
abbrev pub SpellDecls : List Tok → Type 0
SpellDecls toks = (depth : ℕ) × (items : List (DeclIn depth)) × SpellsFile depth items toks

-- it has tokens that spell declarations
abbrev pub IsSpelled : List ℕ → Type 0
IsSpelled text = (toks : List Tok) × HasTokens text toks × SpellDecls toks

-- ---- what is wrong with a text

-- the text has tokens, and of those that pass a test of their place this is the first
abbrev pub HasFirst : (List Tok → ℕ → Bool) → List ℕ → Tok → Type 0
HasFirst test text tok = (toks : List Tok) × HasTokens text toks × (place : ℕ) × IsFirst (test toks) place × (slice_get toks place ≡ Some tok)

-- the first word that is left out
abbrev pub OmitsFirst : List ℕ → Tok → Type 0
OmitsFirst = HasFirst is_left_out_at

-- the first bracket that opens a seventeenth level
abbrev pub NestsFirst : List ℕ → Tok → Type 0
NestsFirst = HasFirst is_too_deep_at

-- the token stands behind the longest front of the tokens that spells declarations
pub record EndsBefore (toks : List Tok) (tok : Tok) : Type 0 where
  pub front : List Tok
  pub behind : List Tok
  pub whole : toks ≡ front ++ tok ∷ behind
  pub spelled : SpellDecls front
  pub longest : (other left : List Tok) → toks ≡ other ++ left → SpellDecls other → length other ≤ length front

-- the text has tokens, and behind the longest run of declarations stands this one
abbrev pub SpellsUpTo : List ℕ → Tok → Type 0
SpellsUpTo text tok = (toks : List Tok) × HasTokens text toks × EndsBefore toks tok

-- ---- which one is told

-- this is wrong with the text of that number, and the texts before it are as they should be
pub record IsFirstWrong {A : Type 0} (Good : List ℕ → Type 0) (Wrong : List ℕ → A → Type 0) (texts : List (List ℕ)) (file : ℕ) (a : A) : Type 0 where
  pub text : List ℕ
  pub there : slice_get texts file ≡ Some text
  pub wrong : Wrong text a
  pub before : All Good (take file texts)

-- The fault is told of the texts. A byte at which no token begins is told of the first text that has one. Where all texts have tokens, a word that is left out is told
-- of the first text that has one, and its first one; where none has any, so is a bracket that opens a seventeenth level; and where none has one either, the token
-- behind the longest run of declarations of the first text that they don't spell to its end.
abbrev pub IsTold : List (List ℕ) → Fault → Type 0
IsTold texts (Lex file offset) = IsFirstWrong IsDivided StopsAt texts file offset
IsTold texts (LeftOut file offset word) =
    All IsDivided texts × (tok : Tok) × IsFirstWrong OmitsNothing OmitsFirst texts file tok × (offset ≡ tok.start) × (word ≡ span_of file tok)
IsTold texts (Deep file offset) = All OmitsNothing texts × (tok : Tok) × IsFirstWrong IsShallow NestsFirst texts file tok × (offset ≡ tok.start)
IsTold texts (Syntax file offset) =
    All OmitsNothing texts × All IsShallow texts × (tok : Tok) × IsFirstWrong IsSpelled SpellsUpTo texts file tok × (offset ≡ tok.start)
IsTold texts _ = ⊥
