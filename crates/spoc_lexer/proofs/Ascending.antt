-- The tokens of a text begin one behind the other.
use Rattle.std.proofs.Common.{◌≡◌, ◌≤◌, ◌<◌, ◌+◌, ℕ, zero, suc, Bool, true, false, List, [], ◌∷◌, ◌++◌, Ok, length, map, refl, sym, subst, ◌∙◌, arith, true≢false}
use Rattle.std.specs.Prelude.{slice_index}
use Rattle.std.specs.List.Sorted.{IsStrictlyIncreasing}
use Rattle.std.proofs.lemmas.List.Elements.{recursion_from_All}
use Rattle.spoc_lexer.specs.Bytes.{is_word, is_sign}
use Rattle.spoc_lexer.specs.Tokens.{Tok, tokens_of}
use Rattle.spoc_lexer.specs.Grammar.{Piece, Blank, Comment, Word, Sign, Text, bytes_of, joined, is_in_line, BeginsWithout, tokens_from, AreAscending}
use Rattle.spoc_lexer.proofs.Standing.{named_behind, open_behind, Follow, follow}
use Rattle.spoc_lexer.proofs.Dividing.{has_tokens}

-- numbers that rise, from a least one on
abbrev Rise : ℕ → List ℕ → Type 0
Rise least [] = Unit {0}
Rise least (x ∷ xs) = (least ≤ x) × Rise (x + 1) xs

rise_from : (low high : ℕ) (xs : List ℕ) → low ≤ high → Rise high xs → Rise low xs
rise_from low high [] h r = tt
rise_from low high (x ∷ xs) h r = let above : high ≤ x = r.0 in (omega arith, r.1)

increasing : (least : ℕ) (xs : List ℕ) → Rise least xs → IsStrictlyIncreasing xs
increasing least [] r k h = absurd (omega arith)
increasing least (x ∷ []) r k h = absurd (omega arith)
increasing least (x ∷ y ∷ ys) r zero h = let above : x + 1 ≤ y = r.1.0 in omega arith
increasing least (x ∷ y ∷ ys) r (suc k) h =
    let next : suc (k + 1) ≡ suc k + 1 = omega arith in
    subst (λ m. slice_index (y ∷ ys) k < slice_index (x ∷ y ∷ ys) m) next (increasing (x + 1) (y ∷ ys) r.1 k (omega arith))

abbrev starts : List Tok → List ℕ
starts toks = map (λ tok. tok.start) toks

-- no piece but a blank begins outside a line
first_word : (byte : ℕ) → is_word byte ≡ true → is_in_line byte ≡ true
first_word byte h = grind arith

first_sign : (byte : ℕ) → is_sign byte ≡ true → is_in_line byte ≡ true
first_sign byte h = grind arith

-- the tokens of pieces rise, and behind a text the next one isn't at its end
abbrev Rises : List Piece → Type 0
Rises pieces = (named opened : Bool) (at : ℕ) → Follow named opened pieces [] → Rise at (starts (tokens_from at pieces)) × (opened ≡ false → BeginsWithout is_in_line (joined pieces ++ []) → Rise (at + 1) (starts (tokens_from at pieces)))

module _ (pieces : List Piece) (rises : Rises pieces) (named opened : Bool) (at : ℕ) where
  tail_from : (piece : Piece) (low : ℕ) → low ≤ at + length (bytes_of piece) → Follow (named_behind named piece) (open_behind named piece) pieces [] → Rise low (starts (tokens_from (at + length (bytes_of piece)) pieces))
  tail_from piece low h f = rise_from low (at + length (bytes_of piece)) _ h (rises (named_behind named piece) (open_behind named piece) (at + length (bytes_of piece)) f).0

  here : (piece : Piece) → Follow named opened (piece ∷ pieces) [] → Rise at (starts (tokens_from at (piece ∷ pieces)))
  here (Blank byte) h = tail_from (Blank byte) at (omega arith) h.2
  here (Comment line) h = tail_from (Comment line) at (omega arith) h.2
  here (Word []) h = absurd (h.0.0 refl)
  here (Word (byte ∷ own)) h = (omega arith, tail_from (Word (byte ∷ own)) (at + 1) (omega arith) h.2)
  here (Sign byte) h = (omega arith, tail_from (Sign byte) (at + 1) (omega arith) h.2)
  here (Text []) h = (omega arith, rise_from (at + 1) (at + 0 + 1) (starts (tokens_from (at + 0) pieces)) (omega arith) ((rises false false (at + 0) h.2).1 refl h.0.1))
  here (Text (byte ∷ line)) h = (omega arith, tail_from (Text (byte ∷ line)) (at + 1) (omega arith) h.2)

  later : (piece : Piece) → Follow named opened (piece ∷ pieces) [] → opened ≡ false → BeginsWithout is_in_line (joined (piece ∷ pieces) ++ []) → Rise (at + 1) (starts (tokens_from at (piece ∷ pieces)))
  later (Blank byte) h e end = tail_from (Blank byte) (at + 1) (omega arith) h.2
  later (Comment line) h e end = absurd (true≢false end)
  later (Word []) h e end = absurd (h.0.0 refl)
  later (Word (byte ∷ own)) h e end = absurd (true≢false (sym (first_word byte (recursion_from_All (λ b. is_word b ≡ true) (byte ∷ own) h.0.1).0) ∙ end))
  later (Sign byte) h e end = absurd (true≢false (sym (first_sign byte h.0) ∙ end))
  later (Text line) h e end = absurd (true≢false (h.1 ∙ e))

all_rise : (pieces : List Piece) → Rises pieces
all_rise [] = λ named opened at h. (tt, λ e end. tt)
all_rise (piece ∷ pieces) = λ named opened at h. (here pieces (all_rise pieces) named opened at piece h, later pieces (all_rise pieces) named opened at piece h)

-- the tokens of a text ascend
pub tokens_ascend : (text : List ℕ) (toks : List Tok) → tokens_of text ≡ Ok toks → AreAscending toks
tokens_ascend text toks e =
    let found = has_tokens text toks e in
    subst AreAscending found.2 (increasing 0 (starts (tokens_from 0 found.0)) (all_rise found.0 false false 0 (follow found.0 [] found.1.0)).0)
