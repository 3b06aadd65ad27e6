-- The order of the faults of texts, and the fault of one text.
use Rattle.std.specs.Prelude.{ℕ, nat_lt, if◌then◌else◌, List, Option, Some, None, option_map}
use Rattle.spoc_base.specs.declared.fault.Fault.{Fault}
use Rattle.spoc_base.specs.declared.fault.Fault.TheVariants.{Lex, LeftOut, Deep}
use Rattle.spoc_lexer.specs.Tokens.{Tok}
use Rattle.token_checks.specs.LeftOut.{is_left_out_at}
use Rattle.token_checks.specs.Nesting.{is_too_deep_at}
use Rattle.spoc_parser.specs.Files.{run_of, most_levels}
use Rattle.policy_files.specs.Fault.{or_else, lex_fault, left_out_fault, deep_fault, syntax_fault, bad_byte, omitted_word, deep_bracket, unread_token, first_token, behind_run}

-- the place of the fault's kind in the order of faults
abbrev pub rank : Fault → ℕ
rank (Lex file offset) = 0
rank (LeftOut file offset word) = 1
rank (Deep file offset) = 2
rank _ = 3

abbrev pub earlier_of : Fault → Fault → Fault
earlier_of a b = if nat_lt (rank b) (rank a) then b else a

-- the one whose kind comes first, or else the first one
abbrev pub earlier : Option Fault → Option Fault → Option Fault
earlier None b = b
earlier (Some a) None = Some a
earlier (Some a) (Some b) = Some (earlier_of a b)

-- the fault of the k-th text by itself
abbrev pub text_fault : ℕ → List ℕ → Option Fault
text_fault k text =
    or_else (option_map (λ offset. lex_fault (k, offset)) (bad_byte text)) (or_else (option_map (λ tok. left_out_fault (k, tok)) (omitted_word text))
    (or_else (option_map (λ tok. deep_fault (k, tok)) (deep_bracket text)) (option_map (λ tok. syntax_fault (k, tok)) (unread_token text))))

-- the fault of the k-th text, by its tokens
abbrev pub toks_fault : ℕ → List Tok → Option Fault
toks_fault k toks =
    or_else (option_map (λ tok. left_out_fault (k, tok)) (first_token (is_left_out_at toks) toks)) (or_else (option_map (λ tok. deep_fault (k, tok)) (first_token (is_too_deep_at toks) toks))
    (option_map (λ tok. syntax_fault (k, tok)) (behind_run (run_of most_levels toks))))
