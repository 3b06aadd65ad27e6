-- What is spelled is read, whatever follows where it may.
use Rattle.std.proofs.Common.{◌≡◌, ◌+◌, ◌≤◌, ℕ, zero, suc, Bool, true, false, not, ◌&&◌, List, [], ◌∷◌, ◌++◌, Option, Some, None, length, take, drop, map, cond, true≢false, refl, sym, ap, subst, ◌∙◌, append_assoc, append-nil, inl, inr, arith}
use Rattle.std.specs.Prelude.{codes, ◌==◌, nat_lt, option_map}
use Rattle.std.specs.Str.{bytes_eq}
use Rattle.std.specs.List.{list_all, position_or_len}
use Rattle.std.proofs.lemmas.Slice.Eq.{bytes_eq-Decides}
use Rattle.std.proofs.lemmas.Bool.{eqb-true, lt-ltb}
use Rattle.std.proofs.lemmas.List.{length-append}
use Rattle.std.proofs.Math.Seq.{take-append_seam, drop-append_seam, drop-append-add}
use Rattle.spoc_lexer.specs.Tokens.{Tok}
use Rattle.spoc_lexer.specs.declared.token.TokenKind.TheVariants.{Word, Sign}
use Rattle.spoc_parser.specs.declared.forms.Form.{Form}
use Rattle.spoc_parser.specs.Trees.{Lexeme, PortItem}
use Rattle.spoc_parser.specs.Texts.{is_empty, is_name_byte, is_name, fits, cut_at}
use Rattle.spoc_parser.specs.Phrases.{Phrase, ◌then◌, ◌or◌, nothing, where_true, word_token, sign, key, a_word, named, at_port, a_text, spread, perhaps, many, further, listed, listed_open}
use Rattle.spoc_parser.specs.Readers.{Reader, then_read, ◌>>=◌, done, past, at_sign, at_word, step_where, read_sign, read_key, lexeme_of, read_word, read_text, lexeme_behind, read_named, port_at, port_of_cut, with_rest, read_port, word_count, words_of, are_spread, read_spread, read_spread_or_none, read_unless, with_first, read_up_to, read_until, read_commas, read_further, read_listed, never_ends, list_ends}
use Rattle.spoc_parser.specs.Grammar.{spread_or_none}
use Rattle.grammar_laws.proofs.Found.{and_true, one_before, sign_shape}

-- such a phrase is read as this value, where F holds of the tokens that follow
pub record Takes {A : Type 0} (P : Phrase) (F : List Tok → Type 0) (read : Reader A) (x : A) : Type 0 where
  pub takes : (front rest : List Tok) → P front → F rest → read (front ++ rest) ≡ Some (x, rest)

-- anything may follow
abbrev pub Always : List Tok → Type 0
Always rest = Unit {0}

-- where the test gives this
abbrev pub Where : (List Tok → Bool) → Bool → List Tok → Type 0
Where test b rest = test rest ≡ b

-- where such a phrase begins, the test gives this
pub record Tells (P : Phrase) (test : List Tok → Bool) (b : Bool) : Type 0 where
  pub tells : (front rest : List Tok) → P front → test (front ++ rest) ≡ b

-- ---- tests at the beginning of phrases

pub then_tells : {P Q : Phrase} {test : List Tok → Bool} {b : Bool} → Tells P test b → Tells (P then Q) test b
then_tells {test = test} t = record { tells = λ front rest p. ap (λ l. test (l ++ rest)) p.4 ∙ ap test (append_assoc p.0 p.1 rest) ∙ t.tells p.0 (p.1 ++ rest) p.2 }

pub or_tells : {P Q : Phrase} {test : List Tok → Bool} {b : Bool} → Tells P test b → Tells Q test b → Tells (P or Q) test b
or_tells {P} {Q} {test} {b} t u = record { tells = by }
  where
    by : (front rest : List Tok) → (P or Q) front → test (front ++ rest) ≡ b
    by front rest (inl p) = t.tells front rest p
    by front rest (inr q) = u.tells front rest q

pub where_tells : {P : Phrase} {test : List Tok → Bool} {b : Bool} (holds : Bool) → Tells P test b → Tells (where_true holds P) test b
where_tells holds t = record { tells = λ front rest p. t.tells front rest p.1 }

pub many_tells : {A : Type 0} {spells : A → Phrase} {Q : Phrase} {test : List Tok → Bool} {b : Bool} → ((x : A) → Tells (spells x) test b) → Tells Q test b → (xs : List A) → Tells (many spells xs then Q) test b
many_tells {test = test} t u [] = record { tells = λ front rest p. ap (λ l. test (l ++ rest)) (p.4 ∙ ap (λ l. l ++ p.1) p.2) ∙ u.tells p.1 rest p.3 }
many_tells t u (x ∷ xs) = then_tells (then_tells (t x))

pub perhaps_tells : {A : Type 0} {spells : A → Phrase} {Q : Phrase} {test : List Tok → Bool} {b : Bool} → ((x : A) → Tells (spells x) test b) → Tells Q test b → (o : Option A) → Tells (perhaps spells o then Q) test b
perhaps_tells {test = test} t u None = record { tells = λ front rest p. ap (λ l. test (l ++ rest)) (p.4 ∙ ap (λ l. l ++ p.1) p.2) ∙ u.tells p.1 rest p.3 }
perhaps_tells t u (Some x) = then_tells (t x)

pub listed_tells : {A : Type 0} {spells : A → Phrase} {test : List Tok → Bool} {b : Bool} → ((x : A) → Tells (spells x) test b) → (xs : List A) → Tells (listed spells xs) test b
listed_tells t [] = record { tells = λ front rest p. absurd p }
listed_tells t (x ∷ xs) = then_tells (t x)

-- a word at a place
abbrev pub word_at : ℕ → List ℕ → Tok
word_at start text = record { kind = Word; text = text; start = start }

abbrev pub sign_at : ℕ → List ℕ → Tok
sign_at start text = record { kind = Sign; text = text; start = start }

pub key_tells : {text : List ℕ} {test : List Tok → Bool} {b : Bool} → ((start : ℕ) (rest : List Tok) → test (word_at start text ∷ rest) ≡ b) → Tells (key text) test b
key_tells {test = test} t = record { tells = λ front rest p. ap (λ l. test (l ++ rest)) p.1 ∙ t p.0 rest }

pub sign_tells : {text : List ℕ} {test : List Tok → Bool} {b : Bool} → ((start : ℕ) (rest : List Tok) → test (sign_at start text ∷ rest) ≡ b) → Tells (sign text) test b
sign_tells {test = test} t = record { tells = λ front rest p. ap (λ l. test (l ++ rest)) p.1 ∙ t p.0 rest }

pub word_tells : (form : Form) (word : Lexeme) {test : List Tok → Bool} {b : Bool} → ((text : List ℕ) (start : ℕ) (rest : List Tok) → fits form text ≡ true → test (word_at start text ∷ rest) ≡ b) → Tells (a_word form word) test b
word_tells form word {test = test} t = record { tells = λ front rest p. ap (λ l. test (l ++ rest)) p.1 ∙ t word.text word.start rest p.0 }

pub named_tells : (kind : List ℕ) (name : Lexeme) {test : List Tok → Bool} {b : Bool} → ((text : List ℕ) (start : ℕ) (rest : List Tok) → is_name text ≡ true → test (word_at start (kind ++ text) ∷ rest) ≡ b) → Tells (named kind name) test b
named_tells kind name {test = test} t = record { tells = λ front rest p. ap (λ l. test (l ++ rest)) p.3 ∙ t name.text p.0 rest p.1 }

-- the same, where something stands behind
pub by_key : {text : List ℕ} {P : Phrase} {test : List Tok → Bool} {b : Bool} → ((start : ℕ) (rest : List Tok) → test (word_at start text ∷ rest) ≡ b) → Tells (key text then P) test b
by_key t = then_tells (key_tells t)

pub by_sign : {text : List ℕ} {P : Phrase} {test : List Tok → Bool} {b : Bool} → ((start : ℕ) (rest : List Tok) → test (sign_at start text ∷ rest) ≡ b) → Tells (sign text then P) test b
by_sign t = then_tells (sign_tells t)

pub by_name : (kind : List ℕ) (name : Lexeme) {P : Phrase} {test : List Tok → Bool} {b : Bool} → ((text : List ℕ) (start : ℕ) (rest : List Tok) → is_name text ≡ true → test (word_at start (kind ++ text) ∷ rest) ≡ b) → Tells (named kind name then P) test b
by_name kind name t = then_tells (named_tells kind name t)

pub port_tells : (place : PortItem) {test : List Tok → Bool} {b : Bool} → ((text : List ℕ) (start : ℕ) (rest : List Tok) → test (word_at start (codes "interface:" ++ text) ∷ rest) ≡ b) → Tells (at_port place) test b
port_tells place {test = test} t = record { tells = λ front rest p. ap (λ l. test (l ++ rest)) p.5 ∙ t (place.router.text ++ 46 ∷ place.net.text) p.0 rest }

-- ---- one reader behind another

-- the first phrase is read where the second begins
pub follow_takes : {A B : Type 0} {P Q : Phrase} {F : List Tok → Type 0} {test : List Tok → Bool} {b : Bool} {read : Reader A} (f : A → Reader B) {x : A} {y : B} → Takes P (Where test b) read x → Tells Q test b → Takes Q F (f x) y → Takes (P then Q) F (read >>= f) y
follow_takes {read = read} f {x = x} s t u = record {
  takes = λ front rest p q.
      ap (λ l. then_read (read (l ++ rest)) f) p.4
      ∙ ap (λ l. then_read (read l) f) (append_assoc p.0 p.1 rest)
      ∙ ap (λ o. then_read o f) (s.takes p.0 (p.1 ++ rest) p.2 (t.tells p.1 rest p.3))
      ∙ u.takes p.1 rest p.3 q;
}

pub then_takes : {A B : Type 0} {P Q : Phrase} {F : List Tok → Type 0} {read : Reader A} (f : A → Reader B) {x : A} {y : B} → Takes P Always read x → Takes Q F (f x) y → Takes (P then Q) F (read >>= f) y
then_takes {read = read} f {x = x} s u = record {
  takes = λ front rest p q.
      ap (λ l. then_read (read (l ++ rest)) f) p.4
      ∙ ap (λ l. then_read (read l) f) (append_assoc p.0 p.1 rest)
      ∙ ap (λ o. then_read o f) (s.takes p.0 (p.1 ++ rest) p.2 tt)
      ∙ u.takes p.1 rest p.3 q;
}

-- the last reader, and what is made of the value
pub last_takes : {A B : Type 0} {P : Phrase} {F : List Tok → Type 0} {read : Reader A} (f : A → Reader B) {x : A} {y : B} → Takes P F read x → ((toks : List Tok) → f x toks ≡ Some (y, toks)) → Takes P F (read >>= f) y
last_takes f s t = record { takes = λ front rest p q. ap (λ o. then_read o f) (s.takes front rest p q) ∙ t rest }

-- a smaller phrase, where fewer tokens may follow
pub less_takes : {A : Type 0} {P Q : Phrase} {F G : List Tok → Type 0} {read : Reader A} {x : A} → Takes P F read x → ((front : List Tok) → Q front → P front) → ((rest : List Tok) → G rest → F rest) → Takes Q G read x
less_takes s p f = record { takes = λ front rest q g. s.takes front rest (p front q) (f rest g) }

-- a phrase that does not occur
pub absent_takes : {A : Type 0} {P : Phrase} {F : List Tok → Type 0} {read : Reader A} {x : A} → ((front : List Tok) → P front → ⊥) → Takes P F read x
absent_takes no_front = record { takes = λ front rest p f. absurd (no_front front p) }

pub or_takes : {A : Type 0} {P Q : Phrase} {F : List Tok → Type 0} {read : Reader A} {x : A} → Takes P F read x → Takes Q F read x → Takes (P or Q) F read x
or_takes {A} {P} {Q} {F} {read} {x} s t = record { takes = by }
  where
    by : (front rest : List Tok) → (P or Q) front → F rest → read (front ++ rest) ≡ Some (x, rest)
    by front rest (inl p) f = s.takes front rest p f
    by front rest (inr q) f = t.takes front rest q f

-- the one reader or the other
pub yes_takes : {A : Type 0} {P : Phrase} {F : List Tok → Type 0} (test : List Tok → Bool) {read : Reader A} (other : Reader A) {x : A} → Tells P test true → Takes P F read x → Takes P F (λ toks. cond (test toks) (read toks) (other toks)) x
yes_takes test {read = read} other t s = record { takes = λ front rest p f. ap (λ b. cond b (read (front ++ rest)) (other (front ++ rest))) (t.tells front rest p) ∙ s.takes front rest p f }

pub no_takes : {A : Type 0} {P : Phrase} {F : List Tok → Type 0} (test : List Tok → Bool) (read : Reader A) {other : Reader A} {x : A} → Tells P test false → Takes P F other x → Takes P F (λ toks. cond (test toks) (read toks) (other toks)) x
no_takes test read {other = other} t s = record { takes = λ front rest p f. ap (λ b. cond b (read (front ++ rest)) (other (front ++ rest))) (t.tells front rest p) ∙ s.takes front rest p f }

-- a value of no tokens
pub done_takes : {A : Type 0} {F : List Tok → Type 0} (x : A) → Takes nothing F (done x) x
done_takes x = record { takes = λ front rest p f. ap (λ l. done x (l ++ rest)) p }

-- ---- single tokens

pub same_text : (text : List ℕ) → bytes_eq text text ≡ true
same_text text = (bytes_eq-Decides text text).1 refl

pub sign_takes : (text : List ℕ) → Takes (sign text) Always (read_sign text) tt
sign_takes text = record { takes = λ front rest p f. ap (λ l. read_sign text (l ++ rest)) p.1 ∙ ap (λ b. step_where b (sign_at p.0 text ∷ rest)) (same_text text) }

pub key_takes : (text : List ℕ) → Takes (key text) Always (read_key text) tt
key_takes text = record { takes = λ front rest p f. ap (λ l. read_key text (l ++ rest)) p.1 ∙ ap (λ b. step_where b (word_at p.0 text ∷ rest)) (same_text text) }

pub text_takes : (text : Lexeme) → Takes (a_text text) Always read_text text
text_takes text = record { takes = λ front rest p f. ap (λ l. read_text (l ++ rest)) p }

pub word_takes : (form : Form) (word : Lexeme) → Takes (a_word form word) Always (read_word form) word
word_takes form word = record { takes = λ front rest p f. ap (λ l. read_word form (l ++ rest)) p.1 ∙ ap (λ b. cond b (Some (word, rest)) None) p.0 }

pub named_takes : (kind : List ℕ) (name : Lexeme) → Takes (named kind name) Always (read_named kind) name
named_takes kind name = record {
  takes = λ front rest p f.
      ap (λ l. read_named kind (l ++ rest)) p.3
      ∙ ap (λ b. cond b (Some (lexeme_behind (length kind) (word_at p.0 (kind ++ name.text)), rest)) None)
      ((λ i. bytes_eq (take-append_seam kind name.text i) kind && is_name (drop-append_seam kind name.text i)) ∙ λ i. same_text kind i && p.1 i)
      ∙ λ i. Some (record { start = sym p.2 i; text = drop-append_seam kind name.text i }, rest);
}

-- ---- the two names of an interface

name_byte : (c : ℕ) → is_name_byte c ≡ true → (c == 46) ≡ false
name_byte c h = by (c == 46) refl
  where
    by : (b : Bool) → (c == 46) ≡ b → b ≡ false
    by false is = refl
    by true is = absurd (true≢false (sym h ∙ ap is_name_byte (eqb-true c 46 is)))

place_is : (router rest : List ℕ) → list_all is_name_byte router ≡ true → position_or_len (λ c. c == 46) (router ++ 46 ∷ rest) ≡ length router
place_is [] rest h = refl
place_is (c ∷ cs) rest h =
    let both = and_true (is_name_byte c) (list_all is_name_byte cs) h in
    ap (λ b. cond (not b) (1 + position_or_len (λ c. c == 46) (cs ++ 46 ∷ rest)) 0) (name_byte c both.0) ∙ ap (λ n. 1 + n) (place_is cs rest both.1) ∙ one_before (length cs)

cut_is : (router rest : List ℕ) → is_name router ≡ true → cut_at 46 (router ++ 46 ∷ rest) ≡ Some (router, rest)
cut_is router rest h =
    let place = place_is router rest (and_true (not (is_empty router)) (list_all is_name_byte router) h).1 in
    let below : nat_lt (length router) (length (router ++ 46 ∷ rest)) ≡ true = within in
    ap (λ n. option_map (λ i. (take i (router ++ 46 ∷ rest), drop (i + 1) (router ++ 46 ∷ rest))) (cond (nat_lt n (length (router ++ 46 ∷ rest))) (Some n) None)) place
    ∙ ap (λ b. option_map (λ i. (take i (router ++ 46 ∷ rest), drop (i + 1) (router ++ 46 ∷ rest))) (cond b (Some (length router)) None)) below
    ∙ λ i. Some (take-append_seam router (46 ∷ rest) i, behind i)
  where
    within : nat_lt (length router) (length (router ++ 46 ∷ rest)) ≡ true
    within = lt-ltb (length router) (length (router ++ 46 ∷ rest)) (omega (arith, length-append router (46 ∷ rest)))

    behind : drop (length router + 1) (router ++ 46 ∷ rest) ≡ rest
    behind = drop-append-add router (46 ∷ rest) 1

pub port_takes : (place : PortItem) → Takes (at_port place) Always read_port place
port_takes place = record {
  takes = λ front rest p f.
      ap (λ l. read_port (l ++ rest)) p.5
      ∙ ap (λ o. with_rest (port_of_cut (p.0 + 10) o) rest) (cut_is place.router.text place.net.text p.1)
      ∙ ap (λ b. with_rest (cond b (Some (port_at (p.0 + 10) place.router.text place.net.text)) None) rest) (λ i. p.1 i && p.2 i)
      ∙ λ i. Some (record { router = record { start = sym p.3 i; text = place.router.text }; net = record { start = sym p.4 i; text = place.net.text } }, rest);
}

-- ---- texts over several words

none_ahead : (toks : List Tok) → at_word toks ≡ false → word_count toks ≡ 0
none_ahead [] h = refl
none_ahead (t ∷ toks) h = ap (λ b. cond b (1 + word_count toks) 0) h

count_is : (words : List Lexeme) (rest : List Tok) → at_word rest ≡ false → word_count (map word_token words ++ rest) ≡ length (map word_token words)
count_is [] rest h = none_ahead rest h
count_is (w ∷ ws) rest h = ap (λ n. 1 + n) (count_is ws rest h) ∙ one_before (length (map word_token ws))

lexemes_are : (words : List Lexeme) → map lexeme_of (map word_token words) ≡ words
lexemes_are [] = refl
lexemes_are (w ∷ ws) = ap (λ l. w ∷ l) (lexemes_are ws)

pub spread_takes : (form : Form) (words : List Lexeme) → Takes (spread form words) (Where at_word false) (read_spread form) words
spread_takes form words = record {
  takes = λ front rest p q.
      let count = count_is words rest q in
      let front_is : take (word_count (map word_token words ++ rest)) (map word_token words ++ rest) ≡ map word_token words = ap (λ n. take n (map word_token words ++ rest)) count ∙ take-append_seam (map word_token words) rest in
      let read_is : words_of (map word_token words ++ rest) ≡ words = ap (map lexeme_of) front_is ∙ lexemes_are words in
      let left_is : drop (word_count (map word_token words ++ rest)) (map word_token words ++ rest) ≡ rest = ap (λ n. drop n (map word_token words ++ rest)) count ∙ drop-append_seam (map word_token words) rest in
      ap (λ l. read_spread form (l ++ rest)) p.2
      ∙ (λ i. cond (are_spread form (read_is i)) (Some (read_is i, left_is i)) None)
      ∙ ap (λ b. cond b (Some (words, rest)) None) (λ i. p.0 i && p.1 i);
}

pub spread_or_none_takes : (form : Form) → fits form [] ≡ false → (words : List Lexeme) → Takes (spread_or_none form words) (Where at_word false) (read_spread_or_none form) words
spread_or_none_takes form empty [] = record { takes = by }
  where
    by : (front rest : List Tok) → spread_or_none form [] front → at_word rest ≡ false → read_spread_or_none form (front ++ rest) ≡ Some ([], rest)
    by front rest (inl p) q = ap (λ l. read_spread_or_none form (l ++ rest)) p ∙ ap (λ b. cond b (read_spread form rest) (Some ([], rest))) q
    by front rest (inr p) q = absurd (true≢false (sym p.1 ∙ empty))
spread_or_none_takes form empty (w ∷ ws) = or_takes (absent_takes (λ front p. p)) (yes_takes at_word (λ toks. Some ([], toks)) (record { tells = λ front rest p. ap (λ l. at_word (l ++ rest)) p.2 }) (spread_takes form (w ∷ ws)))

-- ---- none, one or several

pub unless_takes : {A : Type 0} {spells : A → Phrase} {G : List Tok → Type 0} (ends : List Tok → Bool) {read : Reader A} → ((x : A) → Takes (spells x) G read x) → ((x : A) → Tells (spells x) ends false) → ((rest : List Tok) → ends rest ≡ true → G rest) → (o : Option A) → Takes (perhaps spells o) (Where ends true) (read_unless ends read) o
unless_takes ends {read} reads goes ok None = record { takes = λ front rest p q. ap (λ l. read_unless ends read (l ++ rest)) p ∙ ap (λ b. cond b (Some (None, rest)) (then_read (read rest) (λ x. done (Some x)))) q }
unless_takes ends {read} reads goes ok (Some x) = no_takes ends (λ toks. Some (None, toks)) (goes x) (last_takes (λ x. done (Some x)) (less_takes (reads x) (λ front p. p) ok) (λ toks. refl))

abbrev pub has_token : List Tok → Bool
has_token [] = false
has_token (t ∷ toks) = true

pub size_of : {P : Phrase} → Tells P has_token true → (front : List Tok) → P front → 1 ≤ length front
size_of {P} t front p = by front (t.tells front [] p)
  where
    by : (front : List Tok) → has_token (front ++ []) ≡ true → 1 ≤ length front
    by [] h = absurd (true≢false (sym h))
    by (x ∷ xs) h = omega arith

module _ {A : Type 0} (spells : A → Phrase) (ends : List Tok → Bool) (read : Reader A) (reads : (x : A) → Takes (spells x) Always read x) (goes : (x : A) → Tells (spells x) ends false) (sizes : (x : A) → Tells (spells x) has_token true) where
  up_to_takes : (xs : List A) (n : ℕ) (front rest : List Tok) → many spells xs front → ends rest ≡ true → length front ≤ n → read_up_to ends read n (front ++ rest) ≡ Some (xs, rest)
  up_to_takes [] zero front rest p q fuel = ap (λ l. read_up_to ends read zero (l ++ rest)) p ∙ ap (λ b. cond b (Some ([], rest)) None) q
  up_to_takes [] (suc n) front rest p q fuel = ap (λ l. read_up_to ends read (suc n) (l ++ rest)) p ∙ ap (λ b. cond b (Some ([], rest)) (then_read (read rest) (λ x rest. with_first x (read_up_to ends read n rest)))) q
  up_to_takes (x ∷ xs) zero front rest p q fuel = absurd (omega (arith, ap length p.4, length-append p.0 p.1, size_of (sizes x) p.0 p.2, fuel))
  up_to_takes (x ∷ xs) (suc n) front rest p q fuel =
      ap (λ l. read_up_to ends read (suc n) l) (ap (λ l. l ++ rest) p.4 ∙ append_assoc p.0 p.1 rest)
      ∙ ap (λ b. cond b (Some ([], p.0 ++ (p.1 ++ rest))) (then_read (read (p.0 ++ (p.1 ++ rest))) (λ x rest. with_first x (read_up_to ends read n rest)))) ((goes x).tells p.0 (p.1 ++ rest) p.2)
      ∙ ap (λ o. then_read o (λ x rest. with_first x (read_up_to ends read n rest))) ((reads x).takes p.0 (p.1 ++ rest) p.2 tt)
      ∙ ap (with_first x) (up_to_takes xs n p.1 rest p.3 q (omega (arith, ap length p.4, length-append p.0 p.1, size_of (sizes x) p.0 p.2, fuel)))

  pub until_takes : (xs : List A) → Takes (many spells xs) (Where ends true) (read_until ends read) xs
  until_takes xs = record { takes = λ front rest p q. up_to_takes xs (length (front ++ rest)) front rest p q (omega (arith, length-append front rest)) }

-- ---- lists with commas

glue : (o f t r : List Tok) → ((o ++ f) ++ t) ++ r ≡ o ++ ((f ++ t) ++ r)
glue o f t r = simp append_assoc refl

module _ {A : Type 0} (spells : A → Phrase) (ends : List Tok → Bool) (T : Phrase) (F I : List Tok → Type 0) (read : Reader A) (reads : (x : A) → Takes (spells x) I read x) (goes : (x : A) → Tells (spells x) ends false)
    (comma_ok : (toks : List Tok) → at_sign (codes ",") toks ≡ true → I toks) (rest_ok : (rest : List Tok) → F rest → I rest) (tail_is : (tail : List Tok) → T tail → (nothing or sign (codes ",")) tail)
    (closes : (n : ℕ) (tail rest : List Tok) → T tail → F rest → length tail ≤ n → read_commas ends read n (tail ++ rest) ≡ Some ([], rest)) where
  more_ok : (xs : List A) (items tail rest : List Tok) → further spells xs items → T tail → F rest → I ((items ++ tail) ++ rest)
  more_ok [] items tail rest p t f = by (tail_is tail t)
    where
      by : (nothing or sign (codes ",")) tail → I ((items ++ tail) ++ rest)
      by (inl e) = subst I (sym (λ i. (p i ++ e i) ++ rest)) (rest_ok rest f)
      by (inr c) = comma_ok ((items ++ tail) ++ rest) (λ i. at_sign (codes ",") ((p i ++ c.1 i) ++ rest))
  more_ok (x ∷ xs) items tail rest p t f =
      comma_ok ((items ++ tail) ++ rest) (ap (λ l. at_sign (codes ",") ((l ++ tail) ++ rest)) (p.4 ∙ ap (λ l. l ++ p.1) (p.2.4 ∙ ap (λ l. l ++ p.2.1) p.2.2.1)))

  commas_takes : (xs : List A) (n : ℕ) (items tail rest : List Tok) → further spells xs items → T tail → F rest → length items + length tail ≤ n → read_commas ends read n ((items ++ tail) ++ rest) ≡ Some (xs, rest)
  commas_takes [] n items tail rest p t f fuel = ap (λ l. read_commas ends read n ((l ++ tail) ++ rest)) p ∙ closes n tail rest t f (omega (arith, fuel))
  commas_takes (x ∷ xs) zero items tail rest p t f fuel = absurd (omega (arith, ap length p.4, length-append p.0 p.1, ap length p.2.4, length-append p.2.0 p.2.1, ap length p.2.2.1, fuel))
  commas_takes (x ∷ xs) (suc n) items tail rest p t f fuel =
      ap (λ l. read_commas ends read (suc n) ((l ++ tail) ++ rest)) (p.4 ∙ ap (λ l. l ++ p.1) (p.2.4 ∙ ap (λ l. l ++ p.2.1) p.2.2.1))
      ∙ ap (λ l. read_commas ends read (suc n) (sign_at p.2.2.0 (codes ",") ∷ l)) (glue p.2.1 p.1 tail rest)
      ∙ ap (λ b. cond b (Some ([], p.2.1 ++ ((p.1 ++ tail) ++ rest))) (then_read (read (p.2.1 ++ ((p.1 ++ tail) ++ rest))) (λ x rest. with_first x (read_commas ends read n rest)))) ((goes x).tells p.2.1 ((p.1 ++ tail) ++ rest) p.2.3)
      ∙ ap (λ o. then_read o (λ x rest. with_first x (read_commas ends read n rest))) ((reads x).takes p.2.1 ((p.1 ++ tail) ++ rest) p.2.3 (more_ok xs p.1 tail rest p.3 t f))
      ∙ ap (with_first x) (commas_takes xs n p.1 tail rest p.3 t f (omega (arith, ap length p.4, length-append p.0 p.1, ap length p.2.4, length-append p.2.0 p.2.1, ap length p.2.2.1, fuel)))

  fits_all : (items tail rest : List Tok) → length items + length tail ≤ length ((items ++ tail) ++ rest)
  fits_all items tail rest = omega (arith, length-append (items ++ tail) rest, length-append items tail)

  pub further_by_takes : (xs : List A) → Takes (further spells xs then T) F (read_further ends read) xs
  further_by_takes xs = record {
    takes = λ front rest p f.
        ap (λ l. read_further ends read (l ++ rest)) p.4 ∙ commas_takes xs (length ((p.0 ++ p.1) ++ rest)) p.0 p.1 rest p.2 p.3 f (fits_all p.0 p.1 rest);
  }

  pub listed_by_takes : (xs : List A) → Takes (listed spells xs then T) F (read_listed ends read) xs
  listed_by_takes [] = absent_takes (λ front p. p.2)
  listed_by_takes (x ∷ xs) = record {
    takes = λ front rest p f.
        let own = p.2.0 in
        let items = p.2.1 in
        ap (λ l. read_listed ends read (l ++ rest)) (p.4 ∙ ap (λ l. l ++ p.1) p.2.4)
        ∙ ap (λ l. read_listed ends read l) (glue own items p.1 rest)
        ∙ ap (λ o. then_read o (λ x rest. with_first x (read_further ends read rest))) ((reads x).takes own ((items ++ p.1) ++ rest) p.2.2 (more_ok xs items p.1 rest p.2.3 p.3 f))
        ∙ ap (with_first x) (commas_takes xs (length ((items ++ p.1) ++ rest)) items p.1 rest p.2.3 p.3 f (fits_all items p.1 rest));
  }

no_comma : {A : Type 0} (ends : List Tok → Bool) (read : Reader A) (n : ℕ) (rest : List Tok) → at_sign (codes ",") rest ≡ false → read_commas ends read n rest ≡ Some ([], rest)
no_comma ends read zero rest h = ap (λ b. cond b None (Some ([], rest))) h
no_comma ends read (suc n) rest h = ap (λ b. cond b (cond (ends (past rest)) (Some ([], past rest)) (then_read (read (past rest)) (λ x rest. with_first x (read_commas ends read n rest)))) (Some ([], rest))) h

-- where a list ends
pub ends_is : (test : List Tok → Bool) (b : Bool) → ((start : ℕ) (rest : List Tok) → test (sign_at start (codes ";") ∷ rest) ≡ b) → ((start : ℕ) (rest : List Tok) → test (sign_at start (codes "]") ∷ rest) ≡ b) → (toks : List Tok) → list_ends toks ≡ true → test toks ≡ b
ends_is test b semicolon bracket toks h = by (at_sign (codes ";") toks) refl h
  where
    by : (c : Bool) → at_sign (codes ";") toks ≡ c → cond c true (at_sign (codes "]") toks) ≡ true → test toks ≡ b
    by true is e = let s = sign_shape (codes ";") toks is in ap test (s.2 ∙ ap (λ l. l ++ past toks) s.1.1) ∙ semicolon s.1.0 (past toks)
    by false is e = let s = sign_shape (codes "]") toks e in ap test (s.2 ∙ ap (λ l. l ++ past toks) s.1.1) ∙ bracket s.1.0 (past toks)

comma_is : (test : List Tok → Bool) (b : Bool) → ((start : ℕ) (rest : List Tok) → test (sign_at start (codes ",") ∷ rest) ≡ b) → (toks : List Tok) → at_sign (codes ",") toks ≡ true → test toks ≡ b
comma_is test b comma toks h = let s = sign_shape (codes ",") toks h in ap test (s.2 ∙ ap (λ l. l ++ past toks) s.1.1) ∙ comma s.1.0 (past toks)

module _ {A : Type 0} (spells : A → Phrase) (read : Reader A) (reads : (x : A) → Takes (spells x) Always read x) where
  no_more_closes : (n : ℕ) (tail rest : List Tok) → nothing tail → at_sign (codes ",") rest ≡ false → length tail ≤ n → read_commas never_ends read n (tail ++ rest) ≡ Some ([], rest)
  no_more_closes n tail rest t f fuel = ap (λ l. read_commas never_ends read n (l ++ rest)) t ∙ no_comma never_ends read n rest f

  pub further_takes : (xs : List A) → Takes (further spells xs) (Where (at_sign (codes ",")) false) (read_further never_ends read) xs
  further_takes xs = less_takes (further_by_takes spells never_ends nothing (Where (at_sign (codes ",")) false) Always read reads (λ x. record { tells = λ front rest p. refl }) (λ toks h. tt) (λ rest f. tt) (λ tail t. inl t) no_more_closes xs)
      (λ front p. (front, [], p, refl, sym (append-nil front))) (λ rest f. f)

  pub listed_takes : (xs : List A) → Takes (listed spells xs) (Where (at_sign (codes ",")) false) (read_listed never_ends read) xs
  listed_takes xs = less_takes (listed_by_takes spells never_ends nothing (Where (at_sign (codes ",")) false) Always read reads (λ x. record { tells = λ front rest p. refl }) (λ toks h. tt) (λ rest f. tt) (λ tail t. inl t) no_more_closes xs)
      (λ front p. (front, [], p, refl, sym (append-nil front))) (λ rest f. f)

module _ {A : Type 0} (spells : A → Phrase) (test : List Tok → Bool) (b : Bool) (read : Reader A) (reads : (x : A) → Takes (spells x) (Where test b) read x) (goes : (x : A) → Tells (spells x) list_ends false)
    (comma : (start : ℕ) (rest : List Tok) → test (sign_at start (codes ",") ∷ rest) ≡ b) (semicolon : (start : ℕ) (rest : List Tok) → test (sign_at start (codes ";") ∷ rest) ≡ b) (bracket : (start : ℕ) (rest : List Tok) → test (sign_at start (codes "]") ∷ rest) ≡ b) where
  end_closes : (n : ℕ) (tail rest : List Tok) → (nothing or sign (codes ",")) tail → list_ends rest ≡ true → length tail ≤ n → read_commas list_ends read n (tail ++ rest) ≡ Some ([], rest)
  end_closes n tail rest (inl e) f fuel = ap (λ l. read_commas list_ends read n (l ++ rest)) e ∙ no_comma list_ends read n rest (ends_is (at_sign (codes ",")) false (λ start rest. refl) (λ start rest. refl) rest f)
  end_closes zero tail rest (inr c) f fuel = absurd (omega (arith, ap length c.1, fuel))
  end_closes (suc n) tail rest (inr c) f fuel = ap (λ l. read_commas list_ends read (suc n) (l ++ rest)) c.1 ∙ ap (λ e. cond e (Some ([], rest)) (then_read (read rest) (λ x rest. with_first x (read_commas list_ends read n rest)))) f

  pub listed_open_takes : (xs : List A) → Takes (listed_open spells xs) (Where list_ends true) (read_listed list_ends read) xs
  listed_open_takes xs = listed_by_takes spells list_ends (nothing or sign (codes ",")) (Where list_ends true) (Where test b) read reads goes (comma_is test b comma) (ends_is test b semicolon bracket) (λ tail t. t) end_closes xs
