-- What is read of a whole text.
use Rattle.std.proofs.Common.{◌≡◌, ℕ, true, List, [], Option, Some, None, Ok, length, refl, sym, ap, subst, ◌∙◌}
use Rattle.std.specs.Prelude.{flat_map}
use Rattle.std.specs.List.{All, AllByRecursion}
use Rattle.std.proofs.lemmas.List.Elements.{All-from_recursion, recursion_from_All}
use Rattle.spoc_ast.specs.declared.decl.File.{File}
use Rattle.spoc_ast.specs.Seen.{file_seen}
use Rattle.spoc_lexer.specs.Tokens.{Tok, tokens_of}
use Rattle.spoc_parser.specs.Files.{run_of}
use Rattle.spoc_parser.specs.Seen.{IsSetIn}
use Rattle.spoc_parser.specs.SeenFile.{Ran}
use Rattle.spoc_parser.specs.SeenParts.{IsDecl}
use Rattle.spoc_parser.specs.Trees.{DeclIn}
use Rattle.grammar_laws.proofs.Runs.{file_sound}
use Rattle.policy_decls.specs.Formed.{are_formed}
use Rattle.syntax_laws.specs.Said.{decls_said}
use Rattle.syntax_laws.specs.Words.{IsWritten}
use Rattle.syntax_laws.specs.WordsIn.{IsSlice, words_in}
use Rattle.syntax_laws.proofs.Phrases.{halves}
use Rattle.syntax_laws.proofs.Seeing.{decls_are}
use Rattle.syntax_laws.proofs.Slicing.{file_in_text}
use Rattle.syntax_laws.proofs.WellFormed.{file_is_formed}
use Rattle.syntax_laws.proofs.Written.{are_written}

pub run_formed : (file depth : ℕ) (text : List ℕ) (toks rest : List Tok) (decls : List (DeclIn depth)) → tokens_of text ≡ Ok toks → run_of depth toks ≡ Some (decls, rest) → are_formed (decls_said file depth decls) ≡ true
run_formed file depth text toks rest decls h run =
    let found = (file_sound depth (length toks)).fronts toks rest decls run in
    let all = subst (AllByRecursion IsWritten) found.2 (recursion_from_All IsWritten toks (are_written text toks h)) in
    file_is_formed file depth decls found.0 (All-from_recursion IsWritten found.0 (halves IsWritten found.0 rest all).0) found.1

pub run_in_text : (file depth : ℕ) (text : List ℕ) (toks rest : List Tok) (decls : List (DeclIn depth)) → tokens_of text ≡ Ok toks → run_of depth toks ≡ Some (decls, rest) → All (IsSlice file text) (flat_map words_in (decls_said file depth decls))
run_in_text file depth text toks rest decls h run =
    let found = (file_sound depth (length toks)).fronts toks rest decls run in
    file_in_text file text toks [] found.0 rest depth decls h found.2 found.1

abbrev Says : ℕ → (depth : ℕ) → List Tok → List Tok → File → Type 0
Says file depth toks rest tree = (decls : List (DeclIn depth)) × (run_of depth toks ≡ Some (decls, rest)) × (file_seen tree ≡ decls_said file depth decls)

pub tree_says : (file depth : ℕ) (toks rest : List Tok) (tree : File) → Ran (IsDecl file (IsSetIn file depth)) tree.decls.now rest (run_of depth toks) → Says file depth toks rest tree
tree_says file depth toks rest tree ran = by (run_of depth toks) refl ran
  where
    by : (o : Option (List (DeclIn depth) × List Tok)) → run_of depth toks ≡ o → Ran (IsDecl file (IsSetIn file depth)) tree.decls.now rest o → Says file depth toks rest tree
    by None is r = absurd r
    by (Some read) is r = (read.0, is ∙ ap (λ l. Some (read.0, l)) (sym r.1), decls_are file depth read.0 tree r.0)

pub tree_formed : (file depth : ℕ) (text : List ℕ) (toks rest : List Tok) (tree : File) → tokens_of text ≡ Ok toks → Ran (IsDecl file (IsSetIn file depth)) tree.decls.now rest (run_of depth toks) → are_formed (file_seen tree) ≡ true
tree_formed file depth text toks rest tree h ran =
    let says = tree_says file depth toks rest tree ran in
    ap are_formed says.2 ∙ run_formed file depth text toks rest says.0 h says.1

pub tree_in_text : (file depth : ℕ) (text : List ℕ) (toks rest : List Tok) (tree : File) → tokens_of text ≡ Ok toks → Ran (IsDecl file (IsSetIn file depth)) tree.decls.now rest (run_of depth toks) → All (IsSlice file text) (flat_map words_in (file_seen tree))
tree_in_text file depth text toks rest tree h ran =
    let says = tree_says file depth toks rest tree ran in
    subst (λ decls. All (IsSlice file text) (flat_map words_in decls)) (sym says.2) (run_in_text file depth text toks rest says.0 h says.1)
