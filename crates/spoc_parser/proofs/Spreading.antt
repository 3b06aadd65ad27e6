-- Texts that are spread over words.
use Rattle.std.proofs.Common.{◌≡◌, ◌≤◌, ◌<◌, ◌+◌, ◌-◌, ℕ, zero, suc, Bool, true, false, List, [], ◌∷◌, ◌++◌, Some, Ok, length, take, drop, map, refl, sym, ap, subst, ◌∙◌, arith, append_assoc}
use Rattle.std.specs.Prelude.{◌&&◌, ◌||◌, get_or}
use Rattle.std.proofs.lemmas.List.{append-nil}
use Rattle.spoc_lexer.specs.Tokens.{Tok}
use Rattle.spoc_ast.specs.declared.word.Word.{Word}
use Rattle.spoc_parser.specs.declared.forms.Form.{Form}
use Rattle.spoc_parser.specs.declared.forms.Form.TheVariants.{Any}
use Rattle.spoc_parser.specs.declared.fail.Stop.TheVariants.{Unread}
use Rattle.spoc_parser.specs.declared.lists.End.TheVariants.{Words}
use Rattle.spoc_parser.specs.Trees.{Lexeme}
use Rattle.spoc_parser.specs.Texts.{is_joint, last_joins, first_joins, are_joined, joined, fits}
use Rattle.spoc_parser.specs.Readers.{is_word, lexeme_of, word_count, words_of, texts_of, read_up_to, read_word, read_spread, with_first}
use Rattle.spoc_parser.specs.Ends.{is_at}
use Rattle.spoc_parser.specs.Seen.{Gives, FailsAs}
use Rattle.spoc_parser.specs.SeenParts.{AreWords, written}

pub last_is : (text : List ℕ) → 1 ≤ length text → is_joint (get_or text (length text - 1) 0) ≡ last_joins text
last_is [] h = absurd (omega (arith, h))
last_is (b ∷ []) h = refl
last_is (b ∷ c ∷ bs) h =
    let more : 1 ≤ length (c ∷ bs) = omega arith in
    let e : length (b ∷ c ∷ bs) - 1 ≡ suc (length (c ∷ bs) - 1) = omega arith in
    ap (λ k. is_joint (get_or (b ∷ c ∷ bs) k 0)) e ∙ last_is (c ∷ bs) more

step_at : (words : List Word) (j : ℕ) (d e : Word) (b : Bool) → suc j < length words → b ≡ (last_joins (get_or words j d).text.now || first_joins (get_or words (suc j) e).text.now) → are_joined (drop j (written words)) ≡ (b && are_joined (drop (suc j) (written words)))
step_at [] j d e b h k = absurd (omega (arith, h))
step_at (w ∷ []) j d e b h k = absurd (omega (arith, h))
step_at (w ∷ v ∷ words) zero d e b h k = ap (λ x. x && are_joined (drop 1 (written (w ∷ v ∷ words)))) (sym k)
step_at (w ∷ v ∷ words) (suc j) d e b h k = let less : suc j < length (v ∷ words) = omega (arith, h) in step_at (v ∷ words) j d e b less k

-- the seam before a word
pub joins_at : (words : List Word) (at : ℕ) (d e : Word) (b : Bool) → 0 < at → at < length words → b ≡ (last_joins (get_or words (at - 1) d).text.now || first_joins (get_or words at e).text.now) → are_joined (drop (at - 1) (written words)) ≡ (b && are_joined (drop at (written words)))
joins_at words zero d e b h l k = absurd (omega (arith, h))
joins_at words (suc j) d e b h l k =
    let is : suc j - 1 ≡ j = omega arith in
    subst (λ i. are_joined (drop i (written words)) ≡ (b && are_joined (drop (suc j) (written words)))) (sym is)
    (step_at words j d e b l (subst (λ i. b ≡ (last_joins (get_or words i d).text.now || first_joins (get_or words (suc j) e).text.now)) is k))

-- no seam is left
pub joins_end : (words : List Word) (j : ℕ) → length words ≤ suc j → are_joined (drop j (written words)) ≡ true
joins_end [] zero h = refl
joins_end [] (suc j) h = refl
joins_end (w ∷ []) zero h = refl
joins_end (w ∷ []) (suc j) h = joins_end [] j (omega arith)
joins_end (w ∷ v ∷ words) zero h = absurd (omega (arith, h))
joins_end (w ∷ v ∷ words) (suc j) h = joins_end (v ∷ words) j (omega (arith, h))

joined_suc : (words : List Word) (i : ℕ) (d : Word) → i < length words → joined (take (suc i) (written words)) ≡ joined (take i (written words)) ++ (get_or words i d).text.now
joined_suc [] i d h = absurd (omega (arith, h))
joined_suc (w ∷ words) zero d h = append-nil w.text.now
joined_suc (w ∷ words) (suc i) d h =
    let less : i < length words = omega (arith, h) in
    ap (λ l. w.text.now ++ l) (joined_suc words i d less) ∙ sym (append_assoc w.text.now (joined (take i (written words))) (get_or words i d).text.now)

-- one word more
pub joined_more : (words : List Word) (i : ℕ) (d : Word) (before now : List ℕ) → i < length words → before ≡ joined (take i (written words)) → now ≡ before ++ (get_or words i d).text.now → now ≡ joined (take (i + 1) (written words))
joined_more words i d before now h e k =
    let is : suc i ≡ i + 1 = omega arith in
    k ∙ ap (λ l. l ++ (get_or words i d).text.now) e ∙ sym (joined_suc words i d h) ∙ ap (λ n. joined (take n (written words))) is

-- the run of words that is gathered
pub run_is : (toks : List Tok) (n : ℕ) → length toks ≤ n → read_up_to (is_at Words) (read_word Any) n toks ≡ Some (words_of toks, drop (word_count toks) toks)
run_is [] zero h = refl
run_is [] (suc n) h = refl
run_is (t ∷ toks) zero h = absurd (omega (arith, h))
run_is (t ∷ toks) (suc n) h = by (is_word t.kind) refl (run_is toks n (omega (arith, h)))
  where
    by : (b : Bool) → is_word t.kind ≡ b → read_up_to (is_at Words) (read_word Any) n toks ≡ Some (words_of toks, drop (word_count toks) toks) → read_up_to (is_at Words) (read_word Any) (suc n) (t ∷ toks) ≡ Some (words_of (t ∷ toks), drop (word_count (t ∷ toks)) (t ∷ toks))
    by true e k =
        let is : suc (word_count toks) ≡ 1 + word_count toks = omega arith in
        rw e (ap (with_first (lexeme_of t)) k ∙ ap (λ m. Some (map lexeme_of (take m (t ∷ toks)), drop m (t ∷ toks))) is)
    by false e k = rw e refl

-- words have the texts that they are seen with
pub texts_are : (file : ℕ) (xs : List Lexeme) (ys : List Word) → AreWords file xs ys → written ys ≡ texts_of xs
texts_are file [] [] h = refl
texts_are file [] (y ∷ ys) h = absurd h
texts_are file (x ∷ xs) [] h = absurd h
texts_are file (x ∷ xs) (y ∷ ys) h = ap (λ t. t ∷ written ys) h.0.3 ∙ ap (λ l. x.text ∷ l) (texts_are file xs ys h.1)

-- the text is of the form
pub spread_yes : {V : Type 0} (file : ℕ) (form : Form) (v : V) (items : V → List Word) (toks rest : List Tok) → Gives (λ xs w. AreWords file xs (items w)) (Ok v) rest (Some (words_of toks, drop (word_count toks) toks)) → are_joined (written (items v)) ≡ true → fits form (joined (written (items v))) ≡ true → Gives (λ xs w. AreWords file xs (items w)) (Ok v) rest (read_spread form toks)
spread_yes file form v items toks rest h a b =
    let same = texts_are file (words_of toks) (items v) h.0 in
    let joins : are_joined (texts_of (words_of toks)) ≡ true = ap are_joined (sym same) ∙ a in
    let fit : fits form (joined (texts_of (words_of toks))) ≡ true = ap (λ l. fits form (joined l)) (sym same) ∙ b in
    rw (joins, fit) h

pub spread_apart : {V : Type 0} (file : ℕ) (form : Form) (v : V) (items : V → List Word) (toks rest : List Tok) → Gives (λ xs w. AreWords file xs (items w)) (Ok v) rest (Some (words_of toks, drop (word_count toks) toks)) → are_joined (written (items v)) ≡ false → FailsAs Unread (read_spread form toks)
spread_apart file form v items toks rest h a =
    let joins : are_joined (texts_of (words_of toks)) ≡ false = ap are_joined (sym (texts_are file (words_of toks) (items v) h.0)) ∙ a in
    rw joins tt

pub spread_unfit : {V : Type 0} (file : ℕ) (form : Form) (v : V) (items : V → List Word) (toks rest : List Tok) → Gives (λ xs w. AreWords file xs (items w)) (Ok v) rest (Some (words_of toks, drop (word_count toks) toks)) → are_joined (written (items v)) ≡ true → fits form (joined (written (items v))) ≡ false → FailsAs Unread (read_spread form toks)
spread_unfit file form v items toks rest h a b =
    let same = texts_are file (words_of toks) (items v) h.0 in
    let joins : are_joined (texts_of (words_of toks)) ≡ true = ap are_joined (sym same) ∙ a in
    let fit : fits form (joined (texts_of (words_of toks))) ≡ false = ap (λ l. fits form (joined l)) (sym same) ∙ b in
    rw (joins, fit) tt
