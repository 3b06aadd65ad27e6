-- What a text is made of: its division into pieces, and the tokens of a division.
use Rattle.std.specs.Prelude.{◌≡◌, ◌≢◌, ◌↔◌, ℕ, ◌+◌, Bool, true, false, not, ◌==◌, ◌||◌, List, [], ◌∷◌, ◌++◌, length, map, codes}
use Rattle.std.specs.List.{AllPass}
use Rattle.std.specs.List.Sorted.{IsStrictlyIncreasing}
use Rattle.spoc_lexer.specs.Bytes.{is_blank, is_word, is_sign}
use Rattle.spoc_lexer.specs.Tokens.{Tok, word, sign, description}

-- a piece of a text
pub data Piece : Type 0 where
  -- a space, a tab, a line feed or a carriage return
  Blank : (byte : ℕ) → Piece
  -- a `#` and the rest of its line
  Comment : (line : List ℕ) → Piece
  -- a word
  Word : (bytes : List ℕ) → Piece
  -- one of the signs
  Sign : (byte : ℕ) → Piece
  -- the text of a description: the rest of the line behind the `=`
  Text : (line : List ℕ) → Piece

-- the bytes of a piece
abbrev pub bytes_of : Piece → List ℕ
bytes_of (Blank byte) = byte ∷ []
bytes_of (Comment line) = 35 ∷ line
bytes_of (Word bytes) = bytes
bytes_of (Sign byte) = byte ∷ []
bytes_of (Text line) = line

-- the bytes of pieces, one behind the other
abbrev pub joined : List Piece → List ℕ
joined [] = []
joined (piece ∷ pieces) = bytes_of piece ++ joined pieces

-- a byte inside a line
abbrev pub is_in_line : ℕ → Bool
is_in_line byte = not (byte == 10)

-- the bytes are none, or the first of them doesn't pass the test
abbrev pub BeginsWithout : (ℕ → Bool) → List ℕ → Type 0
BeginsWithout test [] = Unit {0}
BeginsWithout test (byte ∷ bytes) = test byte ≡ false

-- the piece is what it says, and ends where these bytes follow: words, comments and texts are as long as can be
abbrev pub StandsBefore : Piece → List ℕ → Type 0
StandsBefore (Blank byte) bytes = is_blank byte ≡ true
StandsBefore (Comment line) bytes = AllPass is_in_line line × BeginsWithout is_in_line bytes
StandsBefore (Word own) bytes = (own ≢ []) × AllPass is_word own × BeginsWithout is_word bytes
StandsBefore (Sign byte) bytes = is_sign byte ≡ true
StandsBefore (Text line) bytes = AllPass is_in_line line × BeginsWithout is_in_line bytes

-- a piece that is no token
abbrev pub is_gap : Piece → Bool
is_gap (Blank byte) = true
is_gap (Comment line) = true
is_gap (Word bytes) = false
is_gap (Sign byte) = false
is_gap (Text line) = false

abbrev pub is_text : Piece → Bool
is_text (Blank byte) = false
is_text (Comment line) = false
is_text (Word bytes) = false
is_text (Sign byte) = false
is_text (Text line) = true

-- the last token of the pieces is the word `description`
abbrev pub EndInDescription : List Piece → Type 0
EndInDescription pieces = (earlier gap : List Piece) × (pieces ≡ earlier ++ Word (codes "description") ∷ gap) × AllPass is_gap gap

-- the last piece is a `=`, and the token before it the word `description`
abbrev pub OpenText : List Piece → Type 0
OpenText pieces = (front : List Piece) × EndInDescription front × (pieces ≡ front ++ Sign 61 ∷ [])

abbrev pub begins_with_text : List Piece → Bool
begins_with_text [] = false
begins_with_text (piece ∷ pieces) = is_text piece

-- the pieces stand before these bytes: each ends where the next one begins, and a description's text stands exactly where one is opened
pub record Stand (pieces : List Piece) (behind : List ℕ) : Type 0 where
  pub each : (before after : List Piece) (piece : Piece) → pieces ≡ before ++ piece ∷ after → StandsBefore piece (joined after ++ behind)
  pub texts : (before after : List Piece) → pieces ≡ before ++ after → OpenText before ↔ (begins_with_text after ≡ true)

-- the token that a piece at an offset is, or none
abbrev pub token_of : ℕ → Piece → List Tok
token_of at (Blank byte) = []
token_of at (Comment line) = []
token_of at (Word bytes) = word at bytes ∷ []
token_of at (Sign byte) = sign at byte ∷ []
token_of at (Text line) = description at line ∷ []

-- the tokens of pieces of which the first is at an offset
abbrev pub tokens_from : ℕ → List Piece → List Tok
tokens_from at [] = []
tokens_from at (piece ∷ pieces) = token_of at piece ++ tokens_from (at + length (bytes_of piece)) pieces

-- the pieces are a division of the whole text
abbrev pub Divide : List Piece → List ℕ → Type 0
Divide pieces text = Stand pieces [] × (joined pieces ≡ text)

-- some division of the text has these tokens
abbrev pub HasTokens : List ℕ → List Tok → Type 0
HasTokens text toks = (pieces : List Piece) × Divide pieces text × (tokens_from 0 pieces ≡ toks)

-- a byte with which a blank, a comment, a word or a sign begins
abbrev pub begins_piece : ℕ → Bool
begins_piece byte = is_blank byte || (byte == 35 || (is_word byte || is_sign byte))

-- the text up to the offset is divided, and the byte there begins no piece
abbrev pub StopsAt : List ℕ → ℕ → Type 0
StopsAt text offset = (pieces : List Piece) × (byte : ℕ) × (behind : List ℕ) × Stand pieces (byte ∷ behind) × (begins_piece byte ≡ false) × (joined pieces ++ byte ∷ behind ≡ text) × (length (joined pieces) ≡ offset)

-- each token begins behind the start of the one before
abbrev pub AreAscending : List Tok → Type 0
AreAscending toks = IsStrictlyIncreasing (map (λ tok. tok.start) toks)
