-- The faults of a text, by its tokens.
use Rattle.std.specs.Prelude.{◌≡◌, ℕ, ◌+◌, ◌^◌, ◌<◌, ◌≤◌, List, [], ◌∷◌, length, map, Option, Some, option_map, Result, Ok, Err}
use Rattle.std.specs.List.{All}
use Rattle.std.proofs.Common.{ap}
use Rattle.std.proofs.lemmas.List.Elements.{All-nil, All-cons, All-head, All-tail}
use Rattle.spoc_base.specs.declared.fault.Fault.{Fault}
use Rattle.spoc_lexer.specs.Tokens.{Tok, tokens_of}
use Rattle.spoc_lexer.specs.Seen.{seen}
use Rattle.spoc_lexer.specs.declared.token.Token.{Token}
use Rattle.token_checks.specs.Places.{toks_of}
use Rattle.token_checks.specs.LeftOut.{is_left_out_at}
use Rattle.token_checks.proofs.Bounds.{ends_fit}
use Rattle.spoc_parser.specs.Reach.{AreInReach}
use Rattle.token_checks.specs.Nesting.{is_too_deep_at}
use Rattle.spoc_parser.specs.Files.{run_of, most_levels}
use Rattle.policy_files.specs.Fault.{or_else, lex_fault, left_out_fault, deep_fault, syntax_fault, toks_in, offset_in, first_token, behind_run}
use Rattle.policy_files.specs.Rank.{text_fault, toks_fault}

-- what a text's tokens, or the offset at which there are none, say of its fault
abbrev read_fault : ℕ → Result (List Tok) ℕ → Option Fault
read_fault k r =
    or_else (option_map (λ offset. lex_fault (k, offset)) (offset_in r)) (or_else (option_map (λ tok. left_out_fault (k, tok)) (first_token (is_left_out_at (toks_in r)) (toks_in r)))
    (or_else (option_map (λ tok. deep_fault (k, tok)) (first_token (is_too_deep_at (toks_in r)) (toks_in r)))
    (option_map (λ tok. syntax_fault (k, tok)) (behind_run (run_of most_levels (toks_in r))))))

pub by_toks : (k : ℕ) (text : List ℕ) (toks : List Tok) → tokens_of text ≡ Ok toks → text_fault k text ≡ toks_fault k toks
by_toks k text toks e = ap (read_fault k) e

pub by_offset : (k : ℕ) (text : List ℕ) (offset : ℕ) → tokens_of text ≡ Err offset → text_fault k text ≡ Some (lex_fault (k, offset))
by_offset k text offset e = ap (read_fault k) e

unmapped : {X Y : Type 0} (P : X → Type 0) (f : Y → X) (ys : List Y) → All P (map f ys) → All (λ y. P (f y)) ys
unmapped P f [] all = All-nil (λ y. P (f y))
unmapped P f (y ∷ ys) all = All-cons (λ y. P (f y)) y ys (All-head P (f y) (map f ys) all) (unmapped P f ys (All-tail P (f y) (map f ys) all))

-- the tokens of a text of at most 4 MiB end below 2^32
pub reach : (text : List ℕ) (tokens : List Token) → length text ≤ 4194304 → tokens_of text ≡ Ok (toks_of tokens) → AreInReach tokens
reach text tokens small e = unmapped (λ tok. tok.start + length tok.text < 2 ^ 32) seen tokens (ends_fit text (toks_of tokens) small e)
