-- The words of a text's tokens have bytes.
use Rattle.std.proofs.Common.{◌≡◌, ◌≢◌, ℕ, ◌+◌, List, [], ◌∷◌, ◌++◌, Ok, length, refl, sym, subst, ◌∙◌, append_assoc}
use Rattle.std.specs.List.{All, AllByRecursion}
use Rattle.std.proofs.lemmas.List.Elements.{All-from_recursion}
use Rattle.spoc_lexer.specs.Tokens.{Tok, tokens_of}
use Rattle.spoc_lexer.specs.Grammar.{Piece, Blank, Comment, Word, Sign, Text, StandsBefore, Stand, tokens_from}
use Rattle.spoc_lexer.proofs.Dividing.{has_tokens}
use Rattle.syntax_laws.specs.Words.{IsWritten}

abbrev IsFilled : Piece → Type 0
IsFilled (Blank byte) = Unit {0}
IsFilled (Comment line) = Unit {0}
IsFilled (Word own) = own ≢ []
IsFilled (Sign byte) = Unit {0}
IsFilled (Text line) = Unit {0}

stands_filled : (piece : Piece) (bytes : List ℕ) → StandsBefore piece bytes → IsFilled piece
stands_filled (Blank byte) bytes h = tt
stands_filled (Comment line) bytes h = tt
stands_filled (Word own) bytes h = h.0
stands_filled (Sign byte) bytes h = tt
stands_filled (Text line) bytes h = tt

all_filled : (pieces before rest : List Piece) → Stand pieces [] → pieces ≡ before ++ rest → AllByRecursion IsFilled rest
all_filled pieces before [] s e = tt
all_filled pieces before (piece ∷ rest) s e =
    (stands_filled piece _ (s.each before rest piece e), all_filled pieces (before ++ piece ∷ []) rest s (e ∙ sym (append_assoc before (piece ∷ []) rest)))

all_written : (at : ℕ) (pieces : List Piece) → AllByRecursion IsFilled pieces → AllByRecursion IsWritten (tokens_from at pieces)
all_written at [] h = tt
all_written at (Blank byte ∷ pieces) h = all_written (at + 1) pieces h.1
all_written at (Comment line ∷ pieces) h = all_written (at + length (35 ∷ line)) pieces h.1
all_written at (Word own ∷ pieces) h = (λ kind. h.0, all_written (at + length own) pieces h.1)
all_written at (Sign byte ∷ pieces) h = (λ kind e. cc, all_written (at + 1) pieces h.1)
all_written at (Text line ∷ pieces) h = (λ kind e. cc, all_written (at + length line) pieces h.1)

pub are_written : (text : List ℕ) (toks : List Tok) → tokens_of text ≡ Ok toks → All IsWritten toks
are_written text toks h =
    let found = has_tokens text toks h in
    subst (All IsWritten) found.2 (All-from_recursion IsWritten (tokens_from 0 found.0) (all_written 0 found.0 (all_filled found.0 [] found.0 found.1.0 refl)))
