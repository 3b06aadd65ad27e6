-- How far tokens reach, and how many they are.
use Rattle.std.proofs.Common.{◌≡◌, ◌≤◌, ◌<◌, ◌+◌, ◌^◌, ℕ, Bool, true, false, ◌&&◌, ◌||◌, ◌==◌, List, [], ◌∷◌, ◌++◌, Ok, length, cond, refl, ap, ◌∙◌, arith, true≢false}
use Rattle.std.specs.Prelude.{◌≢◌, codes}
use Rattle.std.specs.List.{All}
use Rattle.std.specs.Str.{bytes_eq}
use Rattle.std.proofs.lemmas.List.{length-append, length-map}
use Rattle.std.proofs.lemmas.List.Elements.{All-weaker}
use Rattle.std.proofs.lemmas.Slice.Eq.{bytes_eq-Decides}
use Rattle.spoc_lexer.specs.Tokens.{Tok, tokens_of, IsPart}
use Rattle.spoc_lexer.specs.Grammar.{Piece, Blank, Comment, Word, Sign, Text, joined, tokens_from}
use Rattle.spoc_lexer.specs.Seen.{seen}
use Rattle.spoc_lexer.specs.declared.token.Token.{Token}
use Rattle.token_checks.specs.Places.{toks_of}
use Rattle.spoc_lexer.proofs.Slices.{tokens_are_parts}
use Rattle.spoc_lexer.proofs.Standing.{Follow, follow}
use Rattle.spoc_lexer.proofs.Dividing.{has_tokens}

-- a part ends within the text
part_ends : (text : List ℕ) (tok : Tok) → IsPart text tok → tok.start + length tok.text ≤ length text
part_ends text tok part =
    let whole : length text ≡ length part.0 + (length tok.text + length part.1) = ap length part.2 ∙ length-append part.0 (tok.text ++ part.1) ∙ ap (λ n. length part.0 + n) (length-append tok.text part.1) in
    let start = part.3 in
    omega arith

pub ends_within : (text : List ℕ) (toks : List Tok) → tokens_of text ≡ Ok toks → All (λ tok. tok.start + length tok.text ≤ length text) toks
ends_within text toks e = All-weaker (IsPart text) (λ tok. tok.start + length tok.text ≤ length text) (part_ends text) toks (tokens_are_parts text toks e)

-- the word `description` is long enough for the text that it may open
abbrev spare : Bool → ℕ
spare b = cond b 1 0

named_is_long : (own : List ℕ) → own ≢ [] → 1 + spare (bytes_eq own (codes "description") || false) ≤ length own
named_is_long own some = by (bytes_eq own (codes "description")) refl
  where
    by : (b : Bool) → bytes_eq own (codes "description") ≡ b → 1 + spare (b || false) ≤ length own
    by true e = let long : length own ≡ 11 = ap length ((bytes_eq-Decides own (codes "description")).0 e) in omega arith
    by false e = not_empty own some
      where
        not_empty : (own : List ℕ) → own ≢ [] → 1 ≤ length own
        not_empty [] some = absurd (some refl)
        not_empty (byte ∷ own) some = omega arith

less_spare : (named opened : Bool) → spare (named || false) ≤ spare (named || opened)
less_spare true opened = omega arith
less_spare false opened = omega arith

sign_spare : (named opened equals : Bool) → spare (false || (named && equals)) ≤ spare (named || opened)
sign_spare true opened true = omega arith
sign_spare true opened false = omega arith
sign_spare false opened equals = omega arith

text_spare : (named opened : Bool) → true ≡ opened → spare (named || opened) ≡ 1
text_spare true true e = refl
text_spare false true e = refl
text_spare true false e = absurd (true≢false e)
text_spare false false e = absurd (true≢false e)

-- tokens of pieces are no more than bytes, but for a text that is opened or may be
few_from : (pieces : List Piece) (named opened : Bool) (at : ℕ) → Follow named opened pieces [] → length (tokens_from at pieces) ≤ length (joined pieces) + spare (named || opened)
few_from [] named opened at h = omega arith
few_from (Blank byte ∷ pieces) named opened at h =
    let later = few_from pieces named false (at + 1) h.2 in
    omega (arith, less_spare named opened)
few_from (Comment line ∷ pieces) named opened at h =
    let later = few_from pieces named false (at + length (35 ∷ line)) h.2 in
    omega (arith, less_spare named opened, length-append (35 ∷ line) (joined pieces))
few_from (Word own ∷ pieces) named opened at h =
    let later = few_from pieces (bytes_eq own (codes "description")) false (at + length own) h.2 in
    omega (arith, named_is_long own h.0.0, length-append own (joined pieces))
few_from (Sign byte ∷ pieces) named opened at h =
    let later = few_from pieces false (named && byte == 61) (at + 1) h.2 in
    omega (arith, sign_spare named opened (byte == 61))
few_from (Text line ∷ pieces) named opened at h =
    let later = few_from pieces false false (at + length line) h.2 in
    omega (arith, text_spare named opened h.1, length-append line (joined pieces))

pub few_tokens : (text : List ℕ) (toks : List Tok) → tokens_of text ≡ Ok toks → length toks ≤ length text
few_tokens text toks e =
    let found = has_tokens text toks e in
    let few = few_from found.0 false false 0 (follow found.0 [] found.1.0) in
    let count : length (tokens_from 0 found.0) ≡ length toks = ap length found.2 in
    let size : length (joined found.0) ≡ length text = ap length found.1.1 in
    omega arith

pub ends_fit : (text : List ℕ) (toks : List Tok) → length text ≤ 4194304 → tokens_of text ≡ Ok toks → All (λ tok. tok.start + length tok.text < 2 ^ 32) toks
ends_fit text toks small e = All-weaker (λ tok. tok.start + length tok.text ≤ length text) (λ tok. tok.start + length tok.text < 2 ^ 32) below toks (ends_within text toks e)
  where
    below : (tok : Tok) → tok.start + length tok.text ≤ length text → tok.start + length tok.text < 2 ^ 32
    below tok h = omega arith

pub numbers_fit : (text : List ℕ) (tokens : List Token) → length text ≤ 4194304 → tokens_of text ≡ Ok (toks_of tokens) → length tokens < 2 ^ 32
numbers_fit text tokens small e =
    let few = few_tokens text (toks_of tokens) e in
    let count : length (toks_of tokens) ≡ length tokens = length-map tokens seen in
    omega arith
