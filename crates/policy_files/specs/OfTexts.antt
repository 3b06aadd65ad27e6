-- The declarations of texts.
use Rattle.std.specs.Prelude.{ℕ, ◌+◌, List, [], ◌∷◌, ◌++◌, Option, Some, None}
use Rattle.spoc_lexer.specs.Tokens.{Tok, tokens_of}
use Rattle.spoc_ast.specs.Written.{DeclText}
use Rattle.spoc_parser.specs.Files.{run_of, most_levels}
use Rattle.syntax_laws.specs.Said.{decls_said}
use Rattle.policy_files.specs.Fault.{toks_in}

abbrev pub items_read : {A : Type 0} → Option (List A × List Tok) → List A
items_read None = []
items_read (Some r) = r.0

-- the longest run of declarations at the front of the text of the k-th file
abbrev pub decls_of_text : ℕ → List ℕ → List DeclText
decls_of_text k text = decls_said k most_levels (items_read (run_of most_levels (toks_in (tokens_of text))))

abbrev pub declared_from : ℕ → List (List ℕ) → List DeclText
declared_from k [] = []
declared_from k (text ∷ texts) = decls_of_text k text ++ declared_from (k + 1) texts

-- The declarations of the texts of a policy's files, in the order of the files. Where no text has a fault, each is read to its end.
abbrev pub declared : List (List ℕ) → List DeclText
declared texts = declared_from 0 texts
