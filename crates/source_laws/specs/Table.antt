-- The first fault of sources, over the whole table of faults: from a byte at which no token begins to lists with too many lines.
use Rattle.std.specs.Prelude.{◌≡◌, ℕ, ◌+◌, ◌≤◌, Bool, is_some, List, [], ◌∷◌, ◌++◌, length, map, flat_map, filter, slice_get, Option, Some, None, option_map, option_and_then, Result, Ok, Err}
use Rattle.spoc_base.specs.declared.place.Named.{Named}
use Rattle.spoc_base.specs.declared.fault.Fault.{Fault}
use Rattle.spoc_base.specs.declared.fault.Fault.TheVariants.{Twice, Unknown, Circle, Shape, Limit}
use Rattle.spoc_lexer.specs.Tokens.{Tok, tokens_of}
use Rattle.token_checks.specs.LeftOut.{is_left_out_at}
use Rattle.token_checks.specs.Nesting.{is_too_deep_at}
use Rattle.spoc_ast.specs.Written.{DeclText}
use Rattle.policy_decls.specs.Names.{declared_names, is_again, shown_at}
use Rattle.policy_decls.specs.Uses.{used_names, is_unknown}
use Rattle.policy_decls.specs.Nesting.{nesting_names, is_on_circle}
use Rattle.policy_decls.specs.Shapes.{shape_at}
use Rattle.policy_decls.specs.Limits.{limit_passed}
use Rattle.policy_decls.specs.Faults.{name_of_decl}
use Rattle.policy_files.specs.Fault.{or_else, toks_in, bad_byte, unread_token, lex_fault, left_out_fault, deep_fault, syntax_fault}
use Rattle.policy_files.specs.OfTexts.{declared}
use Rattle.policy_source.specs.Faults.{fault_of_sources}
use Rattle.policy_model.specs.Lists.{numbers_below}
use Rattle.policy_model.specs.FirstFault.{FaultCase, IsFirstFault}
use Rattle.policy_model.specs.Headline.{Meaning}
use Rattle.topology.specs.First.{row_of, HasNone}
use Rattle.meaning_laws.specs.Tables.{meaning_of}
use Rattle.fault_text.specs.Texts.{fault_line}
use Rattle.fault_text.specs.Cases.{case_line}
use Rattle.policy_outcome.specs.Outcome.{Written, written_for}
use Rattle.first_fault_laws.specs.Whole.{last_row, prepare_case}
use Rattle.source_laws.specs.Sources.{source_texts, policy_in}

-- ---- all faults of texts

abbrev pub one_or_none : {A : Type 0} → Option A → List A
one_or_none None = []
one_or_none (Some a) = a ∷ []

-- what is wrong with each text, text by text, with the number of the text
abbrev pub in_each : {A : Type 0} → (List ℕ → List A) → ℕ → List (List ℕ) → List (ℕ × A)
in_each wrong k [] = []
in_each wrong k (text ∷ texts) = map (λ a. (k, a)) (wrong text) ++ in_each wrong (k + 1) texts

-- the tokens at the places that pass a test
abbrev pub tokens_at : (ℕ → Bool) → List Tok → List Tok
tokens_at test toks = flat_map (λ k. one_or_none (slice_get toks k)) (filter test (numbers_below (length toks)))

abbrev pub omitted_words : List ℕ → List Tok
omitted_words text = let toks = toks_in (tokens_of text) in tokens_at (is_left_out_at toks) toks

abbrev pub deep_brackets : List ℕ → List Tok
deep_brackets text = let toks = toks_in (tokens_of text) in tokens_at (is_too_deep_at toks) toks

-- The bad bytes of all texts, then the omitted words, then the brackets that nest too deep, then what is no declaration.
abbrev pub text_faults : List (List ℕ) → List Fault
text_faults texts =
    map lex_fault (in_each (λ text. one_or_none (bad_byte text)) 0 texts) ++ (map left_out_fault (in_each omitted_words 0 texts)
    ++ (map deep_fault (in_each deep_brackets 0 texts) ++ map syntax_fault (in_each (λ text. one_or_none (unread_token text)) 0 texts)))

-- ---- all faults of declarations

-- each name that is declared again
abbrev pub names_again : List DeclText → List Named
names_again decls = flat_map (λ k. one_or_none (shown_at (declared_names decls) k)) (filter (is_again (declared_names decls)) (numbers_below (length (declared_names decls))))

-- each name that is used and isn't declared
abbrev pub names_unknown : List DeclText → List Named
names_unknown decls = map (λ name. name.shown) (filter (is_unknown (declared_names decls)) (used_names decls))

-- each group and protocol group that reaches itself
abbrev pub names_on_circles : List DeclText → List Named
names_on_circles decls = map (λ name. name.shown) (filter (is_on_circle decls) (nesting_names decls))

-- each declaration in which something stands that must not, with the least number of that
abbrev pub shapes_in : List DeclText → List (ℕ × Named)
shapes_in decls =
    flat_map (λ k. one_or_none (option_and_then (λ n. option_map (λ name. (n, name)) (name_of_decl decls k)) (shape_at decls k)))
    (filter (λ k. is_some (shape_at decls k)) (numbers_below (length decls)))

-- The names that are declared again, then those that are not declared, then those on circles, then the shapes, then the first limit that is passed.
abbrev pub decl_faults : List DeclText → List Fault
decl_faults decls =
    map Twice (names_again decls) ++ (map Unknown (names_unknown decls) ++ (map Circle (names_on_circles decls) ++ (map (λ s. Shape s.0 s.1) (shapes_in decls) ++ map Limit (one_or_none (limit_passed decls)))))

-- ---- the whole table

-- All faults of texts and of what they declare, in the order in which they count.
abbrev pub faults_in : List (List ℕ × List ℕ) → List Fault
faults_in sources = text_faults (source_texts sources) ++ decl_faults (declared (source_texts sources))

-- what the policy means that sources declare
abbrev pub meant_by : List (List ℕ × List ℕ) → Meaning
meant_by sources = meaning_of (policy_in sources)

-- a fault of texts or of what they declare, or else one of what the policy means
pub data SourceFault : Type 0 where
  OfTexts : (fault : Fault) → SourceFault
  OfPolicy : (case : FaultCase) → SourceFault

-- The fault is the first one in the table, up to a row of those of policies.
abbrev pub IsFirstOf : List (List ℕ × List ℕ) → ℕ → SourceFault → Type 0
IsFirstOf sources highest (OfTexts fault) = slice_get (faults_in sources) 0 ≡ Some fault
IsFirstOf sources highest (OfPolicy case) = (faults_in sources ≡ []) × IsFirstFault (meant_by sources) case × (row_of case ≤ highest)

-- The sources have no fault up to that row.
pub record HaveNone (sources : List (List ℕ × List ℕ)) (highest : ℕ) : Type 0 where
  pub texts : faults_in sources ≡ []
  pub policy : HasNone (meant_by sources) 0 highest

abbrev pub line_of : List (List ℕ × List ℕ) → SourceFault → List ℕ
line_of sources (OfTexts fault) = fault_line sources fault
line_of sources (OfPolicy case) = case_line (meant_by sources).site case

-- The line is that of the first fault.
pub record TellsFirst (sources : List (List ℕ × List ℕ)) (highest : ℕ) (line : List ℕ) : Type 0 where
  pub fault : SourceFault
  pub first : IsFirstOf sources highest fault
  pub its : line ≡ line_of sources fault

-- What sources come to: what is written for their policy where they have no fault, and else the line of their first fault.
abbrev pub IsOutcomeIn : List (List ℕ × List ℕ) → Result Written (List ℕ) → Type 0
IsOutcomeIn sources (Ok written) = HaveNone sources last_row × (written ≡ written_for (meant_by sources))
IsOutcomeIn sources (Err line) = TellsFirst sources last_row line

-- ---- before services are looked at

-- the line of the first fault of texts, declarations, areas, tags and views
abbrev pub prepared_line : List (List ℕ × List ℕ) → Option (List ℕ)
prepared_line sources =
    or_else (option_map (fault_line sources) (fault_of_sources (source_texts sources))) (option_map (case_line (meant_by sources).site) (prepare_case (meant_by sources)))

abbrev pub IsToldIn : List (List ℕ × List ℕ) → ℕ → Option (List ℕ) → Type 0
IsToldIn sources highest None = HaveNone sources highest
IsToldIn sources highest (Some line) = TellsFirst sources highest line
