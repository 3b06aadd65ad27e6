-- Each text is divided, or up to a byte that begins no piece.
use Rattle.std.proofs.Common.{◌≡◌, ◌≤◌, ℕ, zero, suc, Bool, true, false, ◌==◌, ◌&&◌, ◌||◌, List, [], ◌∷◌, ◌++◌, Result, Ok, Err, length, refl, sym, ap, subst, ◌∙◌, arith, append_assoc}
use Rattle.std.specs.List.{AllPass}
use Rattle.std.proofs.lemmas.List.{append-nil, length-append}
use Rattle.std.proofs.lemmas.List.Elements.{All-nil, All-cons}
use Rattle.spoc_lexer.specs.Bytes.{is_blank, is_word, is_sign}
use Rattle.spoc_lexer.specs.Tokens.{Tok, tokens_of}
use Rattle.spoc_lexer.specs.Grammar.{Piece, Blank, Comment, Word, Sign, Text, bytes_of, joined, is_in_line, BeginsWithout, StandsBefore, is_text, tokens_from, HasTokens, begins_piece, StopsAt}
use Rattle.spoc_lexer.proofs.Standing.{named_behind, open_behind, Follow, stand}
use Rattle.spoc_lexer.proofs.Divided.{byte_is, follow_divided, follow_stopped}

-- a longest run of bytes that pass a test, and the bytes behind it
abbrev Run : (ℕ → Bool) → List ℕ → Type 0
Run test bytes = (run tail : List ℕ) × AllPass test run × BeginsWithout test tail × (bytes ≡ run ++ tail)

run_of : (test : ℕ → Bool) (bytes : List ℕ) → Run test bytes
run_of test [] = ([], [], All-nil (λ b. test b ≡ true), tt, refl)
run_of test (byte ∷ bytes) = by (test byte) refl (run_of test bytes)
  where
    by : (b : Bool) → test byte ≡ b → Run test bytes → Run test (byte ∷ bytes)
    by true e r = (byte ∷ r.0, r.1, All-cons (λ b. test b ≡ true) byte r.0 e r.2, r.3, ap (λ l. byte ∷ l) r.4)
    by false e r = ([], byte ∷ bytes, All-nil (λ b. test b ≡ true), e, refl)

-- the bytes are none, or the first begins no piece
abbrev Stops : List ℕ → Type 0
Stops [] = Unit {0}
Stops (byte ∷ bytes) = begins_piece byte ≡ false

abbrev Divides : Bool → Bool → List ℕ → Type 0
Divides named opened bytes = (pieces : List Piece) × (behind : List ℕ) × Follow named opened pieces behind × (bytes ≡ joined pieces ++ behind) × Stops behind

-- one piece more
more : (named : Bool) (piece : Piece) (bytes tail : List ℕ) → StandsBefore piece tail → bytes ≡ bytes_of piece ++ tail → Divides (named_behind named piece) (open_behind named piece) tail → Divides named (is_text piece) bytes
more named piece bytes tail stands e d =
    (piece ∷ d.0, d.1, (subst (StandsBefore piece) d.3 stands, refl, d.2), e ∙ ap (λ l. bytes_of piece ++ l) d.3 ∙ sym (append_assoc (bytes_of piece) (joined d.0) d.1), d.4)

-- what is no longer than so many bytes is divided
abbrev Can : ℕ → Type 0
Can n = (named : Bool) (bytes : List ℕ) → length bytes ≤ n → Divides named false bytes

or_false : (b c : Bool) → b ≡ false → c ≡ false → (b || c) ≡ false
or_false b c e f = λ i. e i || f i

module _ (n : ℕ) (can : Can n) where
  with_text : (named opened : Bool) (bytes : List ℕ) → length bytes ≤ n → Divides named opened bytes
  with_text named false bytes h = can named bytes h
  with_text named true bytes h =
      let r = run_of is_in_line bytes in
      more named (Text r.0) bytes r.1 (r.2, r.3) r.4 (can false r.1 (omega (arith, h, ap length r.4, length-append r.0 r.1)))

  one_more : (named : Bool) (byte : ℕ) (bytes : List ℕ) → length bytes ≤ n → Divides named false (byte ∷ bytes)
  one_more named byte bytes h = by (is_blank byte) (byte == 35) (is_word byte) (is_sign byte) refl refl refl refl
    where
      by : (a b c d : Bool) → is_blank byte ≡ a → (byte == 35) ≡ b → is_word byte ≡ c → is_sign byte ≡ d → Divides named false (byte ∷ bytes)
      by true b c d blank hash letter mark = more named (Blank byte) (byte ∷ bytes) bytes blank refl (can named bytes h)
      by false true c d blank hash letter mark =
          let r = run_of is_in_line bytes in
          more named (Comment r.0) (byte ∷ bytes) r.1 (r.2, r.3) (λ i. byte_is byte 35 hash i ∷ r.4 i) (can named r.1 (omega (arith, h, ap length r.4, length-append r.0 r.1)))
      by false false true d blank hash letter mark =
          let r = run_of is_word bytes in
          more named (Word (byte ∷ r.0)) (byte ∷ bytes) r.1 (λ e. cc, All-cons (λ b. is_word b ≡ true) byte r.0 letter r.2, r.3) (ap (λ l. byte ∷ l) r.4) (can (named_behind named (Word (byte ∷ r.0))) r.1 (omega (arith, h, ap length r.4, length-append r.0 r.1)))
      by false false false true blank hash letter mark =
          more named (Sign byte) (byte ∷ bytes) bytes mark refl (with_text false (named && byte == 61) bytes h)
      by false false false false blank hash letter mark =
          ([], byte ∷ bytes, refl, refl, or_false (is_blank byte) _ blank (or_false (byte == 35) _ hash (or_false (is_word byte) (is_sign byte) letter mark)))

no_bytes : Can zero
no_bytes named [] h = ([], [], refl, refl, tt)
no_bytes named (byte ∷ bytes) h = absurd (omega arith)

some_bytes : (n : ℕ) → Can n → Can (suc n)
some_bytes n can named [] h = ([], [], refl, refl, tt)
some_bytes n can named (byte ∷ bytes) h = one_more n can named byte bytes (omega arith)

can_all : (n : ℕ) → Can n
can_all zero = no_bytes
can_all (suc n) = some_bytes n (can_all n)

every : (text : List ℕ) → Divides false false text
every text = can_all (length text) false text (omega arith)

ok_is : (a b : List Tok) → ◌≡◌ {A = Result (List Tok) ℕ} (Ok a) (Ok b) → a ≡ b
ok_is a b h = cc

pub err_is : (a b : ℕ) → ◌≡◌ {A = Result (List Tok) ℕ} (Err a) (Err b) → a ≡ b
err_is a b h = cc

never : (a : List Tok) (b : ℕ) → ◌≡◌ {A = Result (List Tok) ℕ} (Ok a) (Err b) → ⊥
never a b h = cc

-- tokens are those of a division
pub has_tokens : (text : List ℕ) (toks : List Tok) → tokens_of text ≡ Ok toks → HasTokens text toks
has_tokens text toks e = let d = every text in by d.0 d.1 d.2 d.3 d.4
  where
    by : (pieces : List Piece) (behind : List ℕ) → Follow false false pieces behind → text ≡ joined pieces ++ behind → Stops behind → HasTokens text toks
    by pieces [] h whole stops =
        let all = sym (whole ∙ append-nil (joined pieces)) in
        (pieces, (stand pieces [] h, all), ok_is (tokens_from 0 pieces) toks (sym (follow_divided text pieces h all) ∙ e))
    by pieces (byte ∷ behind) h whole stops =
        absurd (never toks (length (joined pieces)) (sym e ∙ ap tokens_of whole ∙ follow_stopped pieces byte behind h stops))

-- a refusal is where a division stops
pub stops_there : (text : List ℕ) (offset : ℕ) → tokens_of text ≡ Err offset → StopsAt text offset
stops_there text offset e = let d = every text in by d.0 d.1 d.2 d.3 d.4
  where
    by : (pieces : List Piece) (behind : List ℕ) → Follow false false pieces behind → text ≡ joined pieces ++ behind → Stops behind → StopsAt text offset
    by pieces [] h whole stops =
        let all = sym (whole ∙ append-nil (joined pieces)) in
        absurd (never (tokens_from 0 pieces) offset (sym (follow_divided text pieces h all) ∙ e))
    by pieces (byte ∷ behind) h whole stops =
        (pieces, byte, behind, stand pieces (byte ∷ behind) h, stops, sym whole, err_is (length (joined pieces)) offset (sym (ap tokens_of whole ∙ follow_stopped pieces byte behind h stops) ∙ e))
