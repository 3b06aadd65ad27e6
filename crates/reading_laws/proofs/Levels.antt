-- Declarations of any number of levels, as ones of the most levels that are read.
use Rattle.std.proofs.Common.{◌≡◌, ℕ, List, ◌++◌, map, sym, ap, subst, ◌∙◌, arith}
use Rattle.spoc_lexer.specs.Tokens.{Tok}
use Rattle.token_checks.specs.Places.{NonePasses}
use Rattle.token_checks.specs.Nesting.{is_too_deep_at}
use Rattle.spoc_parser.specs.Trees.{DeclIn}
use Rattle.spoc_parser.specs.Grammar.{SpellsFile}
use Rattle.spoc_parser.specs.Files.{most_levels}
use Rattle.grammar_laws.specs.Levels.{above, raised_by}
use Rattle.grammar_laws.proofs.Raising.{files_by_spell}
use Rattle.grammar_laws.proofs.Lowering.{adds_up, files_are_lowered}
use Rattle.syntax_laws.specs.Said.{decls_said}
use Rattle.reading_laws.proofs.Raised.{decls_same}

-- declarations of so many levels, spelled by these tokens, that say what others say
pub record Alike (levels : ℕ) (front : List Tok) (depth : ℕ) (items : List (DeclIn depth)) : Type 0 where
  pub decls : List (DeclIn levels)
  pub spelled : SpellsFile levels decls front
  pub same : (file : ℕ) → decls_said file levels decls ≡ decls_said file depth items

moved : (levels other : ℕ) (front : List Tok) (depth : ℕ) (items : List (DeclIn depth)) → levels ≡ other → Alike levels front depth items → Alike other front depth items
moved levels other front depth items e alike = subst (λ n. Alike n front depth items) e alike

pub lowered : (toks front behind : List Tok) (depth : ℕ) (items : List (DeclIn depth)) → NonePasses (is_too_deep_at toks) → toks ≡ front ++ behind → SpellsFile depth items front →
    Alike most_levels front depth items
lowered toks front behind depth items none whole spelled =
    let up : Alike (above most_levels depth) front depth items = record {
      decls = map (raised_by most_levels depth) items;
      spelled = files_by_spell most_levels depth items front spelled;
      same = λ file. decls_same file most_levels depth items;
    } in
    let level : above most_levels depth ≡ above depth most_levels = adds_up most_levels depth ∙ (omega arith) ∙ sym (adds_up depth most_levels) in
    let high = moved (above most_levels depth) (above depth most_levels) front depth items level up in
    let low = files_are_lowered depth most_levels toks front behind high.decls (omega arith) none whole high.spelled in
    record {
      decls = low.0;
      spelled = low.1;
      same = λ file. sym (decls_same file depth most_levels low.0) ∙ ap (decls_said file (above depth most_levels)) low.2 ∙ high.same file;
    }
