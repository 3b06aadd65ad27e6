-- Which fault of the texts of a policy counts, before anything is asked of what its declarations mean.
use Rattle.std.specs.Prelude.{ℕ, zero, suc, ◌+◌, Bool, if◌then◌else◌, List, [], ◌∷◌, length, slice_get, Option, Some, None, option_map, option_and_then, Result, Ok, Err}
use Rattle.spoc_base.specs.declared.place.Span.{Span}
use Rattle.spoc_base.specs.declared.fault.Fault.{Fault}
use Rattle.spoc_base.specs.declared.fault.Fault.TheVariants.{Lex, LeftOut, Deep, Syntax}
use Rattle.spoc_lexer.specs.Tokens.{Tok, tokens_of}
use Rattle.token_checks.specs.LeftOut.{is_left_out_at}
use Rattle.token_checks.specs.Nesting.{is_too_deep_at}
use Rattle.spoc_parser.specs.Files.{run_of, most_levels}

-- the first place of so many, from k on, that passes the test
abbrev pub first_from : (ℕ → Bool) → ℕ → ℕ → Option ℕ
first_from test k zero = None
first_from test k (suc n) = if test k then Some k else first_from test (suc k) n

-- the first token that passes a test of its place
abbrev pub first_token : (ℕ → Bool) → List Tok → Option Tok
first_token test toks = option_and_then (slice_get toks) (first_from test 0 (length toks))

-- the tokens of a text that has some
abbrev pub toks_in : Result (List Tok) ℕ → List Tok
toks_in (Err offset) = []
toks_in (Ok toks) = toks

-- ---- what is wrong with one text, each by itself

abbrev pub offset_in : Result (List Tok) ℕ → Option ℕ
offset_in (Err offset) = Some offset
offset_in (Ok toks) = None

-- the offset at which no token begins
abbrev pub bad_byte : List ℕ → Option ℕ
bad_byte text = offset_in (tokens_of text)

-- the first word that is left out
abbrev pub omitted_word : List ℕ → Option Tok
omitted_word text = let toks = toks_in (tokens_of text) in first_token (is_left_out_at toks) toks

-- the first bracket that opens one level too many
abbrev pub deep_bracket : List ℕ → Option Tok
deep_bracket text = let toks = toks_in (tokens_of text) in first_token (is_too_deep_at toks) toks

abbrev pub behind_run : {A : Type 0} → Option (A × List Tok) → Option Tok
behind_run None = None
behind_run (Some r) = slice_get r.1 0

-- the token behind the longest run of whole declarations
abbrev pub unread_token : List ℕ → Option Tok
unread_token text = behind_run (run_of most_levels (toks_in (tokens_of text)))

-- ---- the fault of all texts

abbrev pub or_else : {A : Type 0} → Option A → Option A → Option A
or_else None other = other
or_else (Some a) other = Some a

-- what a test finds in the first of some texts in which it finds something, with the number of that text, the first one being the k-th
abbrev pub first_in : {A : Type 0} → (List ℕ → Option A) → ℕ → List (List ℕ) → Option (ℕ × A)
first_in test k [] = None
first_in test k (text ∷ texts) = or_else (option_map (λ a. (k, a)) (test text)) (first_in test (k + 1) texts)

abbrev pub span_of : ℕ → Tok → Span
span_of k tok = record { file = k; start = tok.start; «end» = tok.start + length tok.text }

abbrev pub lex_fault : ℕ × ℕ → Fault
lex_fault found = Lex found.0 found.1

abbrev pub left_out_fault : ℕ × Tok → Fault
left_out_fault found = LeftOut found.0 found.1.start (span_of found.0 found.1)

abbrev pub deep_fault : ℕ × Tok → Fault
deep_fault found = Deep found.0 found.1.start

abbrev pub syntax_fault : ℕ × Tok → Fault
syntax_fault found = Syntax found.0 found.1.start

-- Bad bytes of all texts come before omitted words, these before brackets that nest too deep, and these before what is no declaration.
abbrev pub faults_from : ℕ → List (List ℕ) → Option Fault
faults_from k texts =
    or_else (option_map lex_fault (first_in bad_byte k texts)) (or_else (option_map left_out_fault (first_in omitted_word k texts))
    (or_else (option_map deep_fault (first_in deep_bracket k texts)) (option_map syntax_fault (first_in unread_token k texts))))

-- The fault that counts, by the texts of the policy files in the order of their paths.
abbrev pub fault_of_texts : List (List ℕ) → Option Fault
fault_of_texts texts = faults_from 0 texts
