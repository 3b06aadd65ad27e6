-- A division is read as its tokens.
use Rattle.std.proofs.Common.{◌≡◌, ◌+◌, ℕ, Bool, true, false, not, ◌==◌, ◌||◌, cond, List, [], ◌∷◌, ◌++◌, Result, Ok, Err, length, refl, sym, ap, ◌∙◌, arith, append_assoc, true≢false}
use Rattle.std.specs.Prelude.{◌≢◌}
use Rattle.std.specs.List.{AllPass, AllByRecursion}
use Rattle.std.proofs.lemmas.List.{append-nil, length-append}
use Rattle.std.proofs.lemmas.List.Elements.{recursion_from_All}
use Rattle.spoc_lexer.specs.Bytes.{is_blank, is_word, is_sign}
use Rattle.spoc_lexer.specs.Tokens.{Tok, Place, Between, InWord, InComment, InText, after, description, read, tokens_of}
use Rattle.spoc_lexer.specs.Grammar.{Piece, Blank, Comment, Word, Sign, Text, bytes_of, joined, is_in_line, BeginsWithout, StandsBefore, is_text, token_of, tokens_from, Divide, begins_piece, StopsAt}
use Rattle.spoc_lexer.proofs.Reading.{after-after, run_none, word_done, text_done, comment_done, line_feed, begins_word, begins_sign}
use Rattle.spoc_lexer.proofs.Standing.{named_behind, open_behind, named_after, Follow, follow}

-- one byte more in a run
one_more : (F : List ℕ → ℕ → List ℕ → Result (List Tok) ℕ) (text : List ℕ) (byte : ℕ) (run : List ℕ) (at : ℕ) (tail : List ℕ) → F ((text ++ byte ∷ []) ++ run) (at + 1 + length run) tail ≡ F (text ++ byte ∷ run) (at + length (byte ∷ run)) tail
one_more F text byte run at tail =
    let later : at + 1 + length run ≡ at + length (byte ∷ run) = omega arith in
    ap (λ w. F w (at + 1 + length run) tail) (append_assoc text (byte ∷ []) run) ∙ ap (λ m. F (text ++ byte ∷ run) m tail) later

not_false : (b : Bool) → not b ≡ false → b ≡ true
not_false true h = refl
not_false false h = absurd (true≢false h)

not_true : (b : Bool) → not b ≡ true → b ≡ false
not_true false h = refl
not_true true h = absurd (true≢false (sym h))

-- a word, a comment and a text up to where they end
over_word : (start : ℕ) (run text : List ℕ) (at : ℕ) (tail : List ℕ) → AllByRecursion (λ b. is_word b ≡ true) run → BeginsWithout is_word tail → read (InWord start text) at (run ++ tail) ≡ word_done start (text ++ run) (at + length run) tail
over_word start [] text at [] all end = run_none (word_done start) text [] at
over_word start [] text at (byte ∷ tail) all end =
    ap (λ b. cond b (read (InWord start (text ++ byte ∷ [])) (at + 1) tail) (word_done start text at (byte ∷ tail))) end
    ∙ run_none (word_done start) text (byte ∷ tail) at
over_word start (byte ∷ run) text at tail all end =
    ap (λ b. cond b (read (InWord start (text ++ byte ∷ [])) (at + 1) (run ++ tail)) (word_done start text at (byte ∷ (run ++ tail)))) all.0
    ∙ over_word start run (text ++ byte ∷ []) (at + 1) tail all.1 end
    ∙ one_more (word_done start) text byte run at tail

over_comment : (named : Bool) (run : List ℕ) (at : ℕ) (tail : List ℕ) → AllByRecursion (λ b. is_in_line b ≡ true) run → BeginsWithout is_in_line tail → read (InComment named) at (run ++ tail) ≡ read (Between named) (at + length run) tail
over_comment named [] at [] all end = run_none (comment_done named) [] [] at
over_comment named [] at (byte ∷ tail) all end =
    let feed = not_false (byte == 10) end in
    ap (λ b. cond b (read (Between named) (at + 1) tail) (read (InComment named) (at + 1) tail)) feed
    ∙ line_feed named at byte tail feed
    ∙ run_none (comment_done named) [] (byte ∷ tail) at
over_comment named (byte ∷ run) at tail all end =
    ap (λ b. cond b (read (Between named) (at + 1) (run ++ tail)) (read (InComment named) (at + 1) (run ++ tail))) (not_true (byte == 10) all.0)
    ∙ over_comment named run (at + 1) tail all.1 end
    ∙ one_more (comment_done named) [] byte run at tail

over_text : (start : ℕ) (run text : List ℕ) (at : ℕ) (tail : List ℕ) → AllByRecursion (λ b. is_in_line b ≡ true) run → BeginsWithout is_in_line tail → read (InText start text) at (run ++ tail) ≡ text_done start (text ++ run) (at + length run) tail
over_text start [] text at [] all end = run_none (text_done start) text [] at
over_text start [] text at (byte ∷ tail) all end =
    let feed = not_false (byte == 10) end in
    ap (λ b. cond b (after (description start text ∷ []) (read (Between false) (at + 1) tail)) (read (InText start (text ++ byte ∷ [])) (at + 1) tail)) feed
    ∙ ap (after (description start text ∷ [])) (line_feed false at byte tail feed)
    ∙ run_none (text_done start) text (byte ∷ tail) at
over_text start (byte ∷ run) text at tail all end =
    ap (λ b. cond b (after (description start text ∷ []) (read (Between false) (at + 1) (run ++ tail))) (read (InText start (text ++ byte ∷ [])) (at + 1) (run ++ tail))) (not_true (byte == 10) all.0)
    ∙ over_text start run (text ++ byte ∷ []) (at + 1) tail all.1 end
    ∙ one_more (text_done start) text byte run at tail

-- the kinds of bytes are apart
pub word_no_blank : (byte : ℕ) → is_word byte ≡ true → is_blank byte ≡ false
word_no_blank byte h = grind arith

pub word_no_hash : (byte : ℕ) → is_word byte ≡ true → (byte == 35) ≡ false
word_no_hash byte h = grind arith

pub sign_no_blank : (byte : ℕ) → is_sign byte ≡ true → is_blank byte ≡ false
sign_no_blank byte h = grind arith

pub sign_no_hash : (byte : ℕ) → is_sign byte ≡ true → (byte == 35) ≡ false
sign_no_hash byte h = grind arith

pub byte_is : (byte other : ℕ) → (byte == other) ≡ true → byte ≡ other
byte_is byte other h = grind arith

-- the byte is this one, which is in no word, or another sign
this_or : (byte other : ℕ) (rest : Bool) → is_word other ≡ false → (rest ≡ true → is_word byte ≡ false) → (byte == other || rest) ≡ true → is_word byte ≡ false
this_or byte other rest apart next h = by (byte == other) refl h
  where
    by : (b : Bool) → (byte == other) ≡ b → (b || rest) ≡ true → is_word byte ≡ false
    by true e h = ap is_word (byte_is byte other e) ∙ apart
    by false e h = next h

pub sign_no_word : (byte : ℕ) → is_sign byte ≡ true → is_word byte ≡ false
sign_no_word byte h =
    this_or byte 61 _ refl (this_or byte 123 _ refl (this_or byte 125 _ refl (this_or byte 91 _ refl (this_or byte 93 _ refl (this_or byte 59 _ refl (this_or byte 44 _ refl (this_or byte 38 _ refl
    (λ e. ap is_word (byte_is byte 33 e)))))))))
    h

-- where a piece is read from
abbrev spot : Bool → Bool → ℕ → Place
spot named opened at = cond opened (InText at []) (Between named)

after_nil : (r : Result (List Tok) ℕ) → r ≡ after [] r
after_nil (Ok toks) = refl
after_nil (Err offset) = refl

module _ (named : Bool) (at : ℕ) (tail : List ℕ) where
  -- what follows a piece
  abbrev Past : Piece → Result (List Tok) ℕ
  Past piece = after (token_of at piece) (read (spot (named_behind named piece) (open_behind named piece) (at + length (bytes_of piece))) (at + length (bytes_of piece)) tail)

  abbrev Reads : Piece → Type 0
  Reads piece = read (spot named (is_text piece) at) at (bytes_of piece ++ tail) ≡ Past piece

  blank_reads : (byte : ℕ) → is_blank byte ≡ true → Reads (Blank byte)
  blank_reads byte h = rw h (after_nil (read (Between named) (at + 1) tail))

  comment_reads : (line : List ℕ) → AllPass is_in_line line → BeginsWithout is_in_line tail → Reads (Comment line)
  comment_reads line all end =
      let later : at + 1 + length line ≡ at + length (35 ∷ line) = omega arith in
      over_comment named line (at + 1) tail (recursion_from_All (λ b. is_in_line b ≡ true) line all) end
      ∙ ap (λ m. read (Between named) m tail) later
      ∙ after_nil (read (Between named) (at + length (35 ∷ line)) tail)

  word_reads : (own : List ℕ) → own ≢ [] → AllPass is_word own → BeginsWithout is_word tail → Reads (Word own)
  word_reads [] some all end = absurd (some refl)
  word_reads (byte ∷ own) some all end =
      let each = recursion_from_All (λ b. is_word b ≡ true) (byte ∷ own) all in
      begins_word named at byte (λ place. read place (at + 1) (own ++ tail)) (word_no_blank byte each.0) (word_no_hash byte each.0) each.0
      ∙ over_word at own (byte ∷ []) (at + 1) tail each.1 end
      ∙ one_more (word_done at) [] byte own at tail

  sign_reads : (byte : ℕ) → is_sign byte ≡ true → Reads (Sign byte)
  sign_reads byte h = begins_sign named at byte (λ place. read place (at + 1) tail) (sign_no_blank byte h) (sign_no_hash byte h) (sign_no_word byte h) h

  text_reads : (line : List ℕ) → AllPass is_in_line line → BeginsWithout is_in_line tail → Reads (Text line)
  text_reads line all end = over_text at line [] at tail (recursion_from_All (λ b. is_in_line b ≡ true) line all) end

  piece_reads : (piece : Piece) → StandsBefore piece tail → Reads piece
  piece_reads (Blank byte) h = blank_reads byte h
  piece_reads (Comment line) h = comment_reads line h.0 h.1
  piece_reads (Word own) h = word_reads own h.0 h.1 h.2
  piece_reads (Sign byte) h = sign_reads byte h
  piece_reads (Text line) h = text_reads line h.0 h.1

-- pieces that follow are read as their tokens, and then what is behind
pieces_read : (named opened : Bool) (pieces : List Piece) (at : ℕ) (behind : List ℕ) → Follow named opened pieces behind → read (spot named opened at) at (joined pieces ++ behind) ≡ after (tokens_from at pieces) (read (Between (named_after named pieces)) (at + length (joined pieces)) behind)
pieces_read named opened [] at behind h =
    let here : at ≡ at + 0 = omega arith in
    ap (λ o. read (spot named o at) at behind) h
    ∙ ap (λ m. read (Between named) m behind) here
    ∙ after_nil (read (Between named) (at + 0) behind)
pieces_read named opened (piece ∷ pieces) at behind h =
    let next = at + length (bytes_of piece) in
    let size : next + length (joined pieces) ≡ at + length (bytes_of piece ++ joined pieces) = omega (arith, length-append (bytes_of piece) (joined pieces)) in
    ap (λ o. read (spot named o at) at ((bytes_of piece ++ joined pieces) ++ behind)) (sym h.1)
    ∙ ap (read (spot named (is_text piece) at) at) (append_assoc (bytes_of piece) (joined pieces) behind)
    ∙ piece_reads named at (joined pieces ++ behind) piece h.0
    ∙ ap (after (token_of at piece)) (pieces_read (named_behind named piece) (open_behind named piece) pieces next behind h.2)
    ∙ after-after (token_of at piece) (tokens_from next pieces) (read (Between (named_after (named_behind named piece) pieces)) (next + length (joined pieces)) behind)
    ∙ ap (λ m. after (tokens_from at (piece ∷ pieces)) (read (Between (named_after (named_behind named piece) pieces)) m behind)) size

pub follow_divided : (text : List ℕ) (pieces : List Piece) → Follow false false pieces [] → joined pieces ≡ text → tokens_of text ≡ Ok (tokens_from 0 pieces)
follow_divided text pieces h whole =
    ap tokens_of (sym whole ∙ sym (append-nil (joined pieces)))
    ∙ pieces_read false false pieces 0 [] h
    ∙ ap (λ l. Ok l) (append-nil (tokens_from 0 pieces))

pub divided : (text : List ℕ) (pieces : List Piece) → Divide pieces text → tokens_of text ≡ Ok (tokens_from 0 pieces)
divided text pieces h = follow_divided text pieces (follow pieces [] h.0) h.1

begins_none : (byte : ℕ) → begins_piece byte ≡ false → (is_blank byte ≡ false) × ((byte == 35) ≡ false) × (is_word byte ≡ false) × (is_sign byte ≡ false)
begins_none byte h = by (is_blank byte) (byte == 35) (is_word byte) (is_sign byte) h
  where
    by : (a b c d : Bool) → (a || (b || (c || d))) ≡ false → (a ≡ false) × (b ≡ false) × (c ≡ false) × (d ≡ false)
    by true b c d h = absurd (true≢false h)
    by false true c d h = absurd (true≢false h)
    by false false true d h = absurd (true≢false h)
    by false false false true h = absurd (true≢false h)
    by false false false false h = (refl, refl, refl, refl)

read_none : (named : Bool) (at byte : ℕ) (behind : List ℕ) → begins_piece byte ≡ false → read (Between named) at (byte ∷ behind) ≡ Err at
read_none named at byte behind h = let none = begins_none byte h in rw (none.0, none.1, none.2, none.3) refl

pub follow_stopped : (pieces : List Piece) (byte : ℕ) (behind : List ℕ) → Follow false false pieces (byte ∷ behind) → begins_piece byte ≡ false → tokens_of (joined pieces ++ byte ∷ behind) ≡ Err (length (joined pieces))
follow_stopped pieces byte behind h none =
    let here : 0 + length (joined pieces) ≡ length (joined pieces) = omega arith in
    pieces_read false false pieces 0 (byte ∷ behind) h
    ∙ ap (after (tokens_from 0 pieces)) (read_none (named_after false pieces) (0 + length (joined pieces)) byte behind none)
    ∙ ap (λ m. Err m) here

pub stops_at : (text : List ℕ) (offset : ℕ) → StopsAt text offset → tokens_of text ≡ Err offset
stops_at text offset h =
    ap tokens_of (sym h.5)
    ∙ follow_stopped h.0 h.1 h.2 (follow h.0 (h.1 ∷ h.2) h.3) h.4
    ∙ ap (λ m. Err m) h.6
