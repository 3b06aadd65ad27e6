-- A file: declarations one behind the other.
use Rattle.std.specs.Prelude.{ℕ, zero, suc, List, [], length, Option, Some, None}
use Rattle.spoc_lexer.specs.Tokens.{Tok}
use Rattle.spoc_parser.specs.Trees.{DeclIn}
use Rattle.spoc_parser.specs.Readers.{Reader, with_first}
use Rattle.spoc_parser.specs.Reading.{read_decl_in}

-- the run goes on behind what was read, and else ends
abbrev pub goes_on : {A : Type 0} → Option (A × List Tok) → Reader (List A) → Reader (List A)
goes_on None read toks = Some ([], toks)
goes_on (Some r) read toks = with_first r.0 (read r.1)

-- the longest run, of so many at most
abbrev pub read_run : {A : Type 0} → Reader A → ℕ → Reader (List A)
read_run read zero toks = Some ([], toks)
read_run read (suc n) toks = goes_on (read toks) (read_run read n) toks

-- the longest run of declarations at the front, and the tokens behind it
abbrev pub run_of : (depth : ℕ) → Reader (List (DeclIn depth))
run_of depth toks = read_run (read_decl_in depth) (length toks) toks

-- the levels that sets of a file have at most: a set, and sixteen brackets that are open in it
abbrev pub most_levels : ℕ
most_levels = 17
