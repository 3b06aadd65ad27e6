-- What readers read is spelled by the tokens that they take.
use Rattle.std.proofs.Common.{◌≡◌, ◌+◌, ℕ, zero, suc, Bool, true, false, ◌&&◌, List, [], ◌∷◌, ◌++◌, Option, Some, None, length, take, drop, map, get_or, cond, refl, sym, ap, subst, ◌∙◌, append_assoc, append-nil, inl, inr, arith}
use Rattle.std.specs.Prelude.{codes, position, option_map, ◌==◌}
use Rattle.std.specs.Str.{bytes_eq}
use Rattle.std.proofs.lemmas.Slice.Eq.{bytes_eq-Decides}
use Rattle.std.proofs.lemmas.List.Quantifiers.{position-Some}
use Rattle.std.proofs.lemmas.Bool.{eqb-true}
use Rattle.std.proofs.lemmas.List.{take-append-drop}
use Rattle.std.proofs.Math.Seq.{split_at}
use Rattle.spoc_lexer.specs.Tokens.{Tok}
use Rattle.spoc_lexer.specs.declared.token.TokenKind.{TokenKind}
use Rattle.spoc_lexer.specs.declared.token.TokenKind.TheVariants.{Word, Sign, Description}
use Rattle.spoc_parser.specs.declared.forms.Form.{Form}
use Rattle.spoc_parser.specs.Trees.{Lexeme, PortItem}
use Rattle.spoc_parser.specs.Texts.{is_name, fits, begins_with, cut_at, are_joined, joined}
use Rattle.spoc_parser.specs.Phrases.{Phrase, ◌then◌, ◌or◌, nothing, word_token, sign, key, a_word, named, at_port, a_text, spread, perhaps, many, further, listed, listed_open}
use Rattle.spoc_parser.specs.Readers.{Reader, then_read, ◌>>=◌, done, past, at_sign, at_key, at_word, is_word, is_sign, is_text, step_where, read_sign, read_key, lexeme_of, read_word, read_text, lexeme_behind, read_named, port_at, port_of_cut, port_of, with_rest, read_port, word_count, words_of, texts_of, are_spread, read_spread, read_spread_or_none, read_unless, with_first, read_up_to, read_until, read_commas, read_further, read_listed, never_ends, list_ends}
use Rattle.spoc_parser.specs.Grammar.{spread_or_none}

-- a front of the tokens is such a phrase
abbrev pub Fronts : Phrase → List Tok → List Tok → Type 0
Fronts P toks rest = (front : List Tok) × P front × (toks ≡ front ++ rest)

-- what the reader reads is spelled by the tokens that it takes
pub record Sound {A : Type 0} (G : A → Phrase) (read : Reader A) : Type 0 where
  pub fronts : (toks rest : List Tok) (x : A) → read toks ≡ Some (x, rest) → Fronts (G x) toks rest

-- what makes the one phrase the other, where it stands behind
abbrev pub Behind : Phrase → Phrase → Phrase
Behind P G toks = (front : List Tok) → P front → G (front ++ toks)

-- ---- values that were read

pub then_some : {A B : Type 0} (o : Option (A × List Tok)) (f : A → Reader B) (y : B × List Tok) → then_read o f ≡ Some y → (r : A × List Tok) × (o ≡ Some r) × (f r.0 r.1 ≡ Some y)
then_some None f y h = cc
then_some (Some r) f y h = (r, refl, h)

abbrev value_or : {A : Type 0} → A → Option (A × List Tok) → A
value_or d None = d
value_or d (Some r) = r.0

abbrev rest_or : {A : Type 0} → List Tok → Option (A × List Tok) → List Tok
rest_or d None = d
rest_or d (Some r) = r.1

pub parts : {A : Type 0} (a b : A) (x y : List Tok) → ◌≡◌ {A = Option (A × List Tok)} (Some (a, x)) (Some (b, y)) → (a ≡ b) × (x ≡ y)
parts a b x y h = (ap (value_or a) h, ap (rest_or x) h)

pub first_some : {A : Type 0} (a : A) (o : Option (List A × List Tok)) (ys : List A) (rest : List Tok) → with_first a o ≡ Some (ys, rest) → (r : List A × List Tok) × (o ≡ Some r) × (a ∷ r.0 ≡ ys) × (r.1 ≡ rest)
first_some a None ys rest h = cc
first_some a (Some r) ys rest h = (r, refl, (parts (a ∷ r.0) ys r.1 rest h).0, (parts (a ∷ r.0) ys r.1 rest h).1)

-- no token is taken
pub none_taken : {A : Type 0} (G : A → Phrase) (a b : A) (toks rest : List Tok) → G a [] → ◌≡◌ {A = Option (A × List Tok)} (Some (a, toks)) (Some (b, rest)) → Fronts (G b) toks rest
none_taken G a b toks rest g h = ([], subst (λ z. G z []) (parts a b toks rest h).0 g, (parts a b toks rest h).1)

-- the tokens of two phrases
pub in_turn : (toks own left others behind rest : List Tok) → toks ≡ own ++ left → left ≡ others ++ behind → behind ≡ rest → toks ≡ (own ++ others) ++ rest
in_turn toks own left others behind rest a b c = a ∙ ap (λ l. own ++ l) (b ∙ ap (λ l. others ++ l) c) ∙ sym (append_assoc own others rest)

-- ---- one reader behind another

pub bind_sound : {A B : Type 0} {P : A → Phrase} {G : B → Phrase} {read : Reader A} {f : A → Reader B} → Sound P read → ((x : A) → Sound (λ y. Behind (P x) (G y)) (f x)) → Sound G (read >>= f)
bind_sound {read = read} {f = f} s t = record {
  fronts = λ toks rest y h.
      let r = then_some (read toks) f (y, rest) h in
      let front = s.fronts toks r.0.1 r.0.0 r.1 in
      let more = (t r.0.0).fronts r.0.1 rest y r.2 in
      (front.0 ++ more.0, more.1 front.0 front.1, in_turn toks front.0 r.0.1 more.0 rest rest front.2 more.2 refl);
}

-- the last reader, and what is made of the value
pub last_sound : {A B : Type 0} {P : A → Phrase} {G : B → Phrase} {read : Reader A} (g : A → B) → Sound P read → ((x : A) (front : List Tok) → P x front → G (g x) front) → Sound G (read >>= λ x. done (g x))
last_sound {G = G} {read = read} g s t = record {
  fronts = λ toks rest y h.
      let r = then_some (read toks) (λ x. done (g x)) (y, rest) h in
      let is = parts (g r.0.0) y r.0.1 rest r.2 in
      let front = s.fronts toks r.0.1 r.0.0 r.1 in
      (front.0, subst (λ z. G z front.0) is.0 (t r.0.0 front.0 front.1), front.2 ∙ ap (λ l. front.0 ++ l) is.1);
}

-- a phrase that is the other too
pub more_sound : {A : Type 0} {P G : A → Phrase} {read : Reader A} → Sound P read → ((x : A) (front : List Tok) → P x front → G x front) → Sound G read
more_sound s t = record { fronts = λ toks rest y h. let front = s.fronts toks rest y h in (front.0, t y front.0 front.1, front.2) }

-- the one reader or the other
pub if_sound : {A : Type 0} {G : A → Phrase} (test : List Tok → Bool) {read other : Reader A} → Sound G read → Sound G other → Sound G (λ toks. cond (test toks) (read toks) (other toks))
if_sound {A} {G} test {read = read} {other = other} s t = record { fronts = λ toks rest y h. by toks rest y (test toks) h }
  where
    by : (toks rest : List Tok) (y : A) (b : Bool) → cond b (read toks) (other toks) ≡ Some (y, rest) → Fronts (G y) toks rest
    by toks rest y true h = s.fronts toks rest y h
    by toks rest y false h = t.fronts toks rest y h

-- a token that passes the test is such a phrase
abbrev pub Shape : Phrase → (List Tok → Bool) → Type 0
Shape P test = (toks : List Tok) → test toks ≡ true → Fronts P toks (past toks)

-- the one reader behind the token that passes, or the other
pub past_sound : {A : Type 0} {P : Phrase} {G : A → Phrase} {test : List Tok → Bool} (read : Reader A) {other : Reader A} → Shape P test → Sound (λ y. Behind P (G y)) read → Sound G other → Sound G (λ toks. cond (test toks) (read (past toks)) (other toks))
past_sound {A} {P} {G} {test} read {other} shape s t = record { fronts = λ toks rest y h. by toks rest y (test toks) refl h }
  where
    by : (toks rest : List Tok) (y : A) (b : Bool) → test toks ≡ b → cond b (read (past toks)) (other toks) ≡ Some (y, rest) → Fronts (G y) toks rest
    by toks rest y true is h =
        let first = shape toks is in
        let more = s.fronts (past toks) rest y h in
        (first.0 ++ more.0, more.1 first.0 first.1, in_turn toks first.0 (past toks) more.0 rest rest first.2 more.2 refl)
    by toks rest y false is h = t.fronts toks rest y h

-- a value of no tokens
pub done_sound : {A : Type 0} {G : A → Phrase} (x : A) → G x [] → Sound G (done x)
done_sound {G = G} x g = record { fronts = λ toks rest y h. none_taken G x y toks rest g h }

pub refuse_sound : {A : Type 0} {G : A → Phrase} → Sound {A = A} G (λ toks. None)
refuse_sound = record { fronts = λ toks rest y h. cc }

-- ---- single tokens

pub same_bytes : (a b : List ℕ) → bytes_eq a b ≡ true → a ≡ b
same_bytes a b h = (bytes_eq-Decides a b).0 h

pub and_true : (a b : Bool) → (a && b) ≡ true → (a ≡ true) × (b ≡ true)
and_true true b h = (refl, h)
and_true false b h = cc

pub cond_some : {B : Type 0} (b : Bool) (x : Option B) (y : B) → cond b x None ≡ Some y → (b ≡ true) × (x ≡ Some y)
cond_some true x y h = (refl, h)
cond_some false x y h = cc

pub kind_word : (k : TokenKind) → is_word k ≡ true → k ≡ Word
kind_word Word h = refl
kind_word Sign h = cc
kind_word Description h = cc

pub kind_sign : (k : TokenKind) → is_sign k ≡ true → k ≡ Sign
kind_sign Word h = cc
kind_sign Sign h = refl
kind_sign Description h = cc

pub kind_text : (k : TokenKind) → is_text k ≡ true → k ≡ Description
kind_text Word h = cc
kind_text Sign h = cc
kind_text Description h = refl

pub sign_shape : (text : List ℕ) → Shape (sign text) (at_sign text)
sign_shape text [] h = cc
sign_shape text (t ∷ toks) h =
    let is = and_true (is_sign t.kind) (bytes_eq t.text text) h in
    (record { kind = Sign; text = text; start = t.start } ∷ [], (t.start, refl), λ i. record { kind = kind_sign t.kind is.0 i; text = same_bytes t.text text is.1 i; start = t.start } ∷ toks)

pub key_shape : (text : List ℕ) → Shape (key text) (at_key text)
key_shape text [] h = cc
key_shape text (t ∷ toks) h =
    let is = and_true (is_word t.kind) (bytes_eq t.text text) h in
    (record { kind = Word; text = text; start = t.start } ∷ [], (t.start, refl), λ i. record { kind = kind_word t.kind is.0 i; text = same_bytes t.text text is.1 i; start = t.start } ∷ toks)

step_some : (b : Bool) (toks rest : List Tok) (x : Unit {0}) → step_where b toks ≡ Some (x, rest) → (b ≡ true) × (past toks ≡ rest)
step_some true toks rest x h = (refl, (parts tt x (past toks) rest h).1)
step_some false toks rest x h = cc

step_sound : {P : Phrase} (test : List Tok → Bool) → Shape P test → Sound (λ x. P) (λ toks. step_where (test toks) toks)
step_sound test shape = record {
  fronts = λ toks rest x h.
      let s = step_some (test toks) toks rest x h in
      let first = shape toks s.0 in
      (first.0, first.1, first.2 ∙ ap (λ l. first.0 ++ l) s.1);
}

pub sign_sound : (text : List ℕ) → Sound (λ x. sign text) (read_sign text)
sign_sound text = step_sound (at_sign text) (sign_shape text)

pub key_sound : (text : List ℕ) → Sound (λ x. key text) (read_key text)
key_sound text = step_sound (at_key text) (key_shape text)

pub text_sound : Sound a_text read_text
text_sound = record { fronts = by }
  where
    by : (toks rest : List Tok) (x : Lexeme) → read_text toks ≡ Some (x, rest) → Fronts (a_text x) toks rest
    by [] rest x h = cc
    by (t ∷ toks) rest x h =
        let text = cond_some (is_text t.kind) (Some (lexeme_of t, toks)) (x, rest) h in
        let is = parts (lexeme_of t) x toks rest text.1 in
        (record { kind = Description; text = x.text; start = x.start } ∷ [], refl, λ i. record { kind = kind_text t.kind text.0 i; text = (is.0 i).text; start = (is.0 i).start } ∷ is.1 i)

pub word_sound : (form : Form) → Sound (a_word form) (read_word form)
word_sound form = record { fronts = by }
  where
    by : (toks rest : List Tok) (x : Lexeme) → read_word form toks ≡ Some (x, rest) → Fronts (a_word form x) toks rest
    by [] rest x h = cc
    by (t ∷ toks) rest x h =
        let word = cond_some (is_word t.kind && fits form t.text) (Some (lexeme_of t, toks)) (x, rest) h in
        let both = and_true (is_word t.kind) (fits form t.text) word.0 in
        let is = parts (lexeme_of t) x toks rest word.1 in
        (word_token x ∷ [], (subst (λ w. fits form w.text ≡ true) is.0 both.1, refl), λ i. record { kind = kind_word t.kind both.0 i; text = (is.0 i).text; start = (is.0 i).start } ∷ is.1 i)

-- a text that begins so
begins_shape : (kind text : List ℕ) → begins_with kind text ≡ true → text ≡ kind ++ drop (length kind) text
begins_shape kind text h = sym (take-append-drop (length kind) text) ∙ ap (λ l. l ++ drop (length kind) text) (same_bytes (take (length kind) text) kind h)

pub named_sound : (kind : List ℕ) → Sound (named kind) (read_named kind)
named_sound kind = record { fronts = by }
  where
    by : (toks rest : List Tok) (x : Lexeme) → read_named kind toks ≡ Some (x, rest) → Fronts (named kind x) toks rest
    by [] rest x h = cc
    by (t ∷ toks) rest x h =
        let word = cond_some _ (Some (lexeme_behind (length kind) t, toks)) (x, rest) h in
        let both = and_true (is_word t.kind) _ word.0 in
        let more = and_true (begins_with kind t.text) _ both.1 in
        let is = parts (lexeme_behind (length kind) t) x toks rest word.1 in (
          record { kind = Word; text = kind ++ x.text; start = t.start } ∷ [],
          (t.start, subst (λ w. is_name w.text ≡ true) is.0 more.1, sym (ap (λ w. w.start) is.0), refl),
          λ i. record { kind = kind_word t.kind both.0 i; text = (begins_shape kind t.text more.0 ∙ ap (λ w. kind ++ w.text) is.0) i; start = t.start } ∷ is.1 i,
        )

-- a text around a byte
abbrev inside_or : {A : Type 0} → A → Option A → A
inside_or d None = d
inside_or d (Some x) = x

pub inside : {A : Type 0} (x y : A) → ◌≡◌ {A = Option A} (Some x) (Some y) → x ≡ y
inside x y h = ap (inside_or x) h

pub one_behind : (i : ℕ) → i + 1 ≡ suc i
one_behind i = omega arith

cut_shape : (b : ℕ) (text : List ℕ) (at : List ℕ × List ℕ) → cut_at b text ≡ Some at → text ≡ at.0 ++ b ∷ at.1
cut_shape b text at h = by (position (λ c. c == b) text) refl h
  where
    by : (o : Option ℕ) → position (λ c. c == b) text ≡ o → option_map (λ i. (take i text, drop (i + 1) text)) o ≡ Some at → text ≡ at.0 ++ b ∷ at.1
    by None is e = cc
    by (Some i) is e =
        let found = position-Some (λ c. c == b) text i 0 is in
        let pair : ◌≡◌ {A = List ℕ × List ℕ} (take i text, drop (i + 1) text) at = inside (take i text, drop (i + 1) text) at e in
        split_at text i 0 found.0 ∙ λ k. (pair k).0 ++ eqb-true (get_or text i 0) b found.1 k ∷ (ap (λ n. drop n text) (sym (one_behind i)) ∙ ap (λ q. q.1) pair) k

port_cut : (start : ℕ) (o : Option (List ℕ × List ℕ)) (p : PortItem) → port_of_cut start o ≡ Some p → (at : List ℕ × List ℕ) × (o ≡ Some at) × (is_name at.0 ≡ true) × (is_name at.1 ≡ true) × (port_at start at.0 at.1 ≡ p)
port_cut start None p h = cc
port_cut start (Some at) p h =
    let both = cond_some (is_name at.0 && is_name at.1) (Some (port_at start at.0 at.1)) p h in
    let names = and_true (is_name at.0) (is_name at.1) both.0 in
    (at, refl, names.0, names.1, inside (port_at start at.0 at.1) p both.1)

rest_some : {A : Type 0} (o : Option A) (toks rest : List Tok) (x : A) → with_rest o toks ≡ Some (x, rest) → (o ≡ Some x) × (toks ≡ rest)
rest_some None toks rest x h = cc
rest_some (Some y) toks rest x h = (ap Some (parts y x toks rest h).0, (parts y x toks rest h).1)

pub port_sound : Sound at_port read_port
port_sound = record { fronts = by }
  where
    by : (toks rest : List Tok) (x : PortItem) → read_port toks ≡ Some (x, rest) → Fronts (at_port x) toks rest
    by [] rest x h = cc
    by (t ∷ toks) rest x h =
        let word = cond_some _ (with_rest (port_of (lexeme_behind 10 t)) toks) (x, rest) h in
        let both = and_true (is_word t.kind) (begins_with (codes "interface:") t.text) word.0 in
        let more = rest_some (port_of (lexeme_behind 10 t)) toks rest x word.1 in
        let cut = port_cut (t.start + 10) (cut_at 46 (drop 10 t.text)) x more.0 in
        let text = begins_shape (codes "interface:") t.text both.1 ∙ ap (λ l. codes "interface:" ++ l) (cut_shape 46 (drop 10 t.text) cut.0 cut.1) in (
          record { kind = Word; text = codes "interface:" ++ (x.router.text ++ 46 ∷ x.net.text); start = t.start } ∷ [],
          (
            t.start,
            subst (λ p. is_name p.router.text ≡ true) cut.4 cut.2,
            subst (λ p. is_name p.net.text ≡ true) cut.4 cut.3,
            sym (ap (λ p. p.router.start) cut.4),
            sym (ap (λ p. p.net.start) cut.4) ∙ ap (λ p. t.start + 10 + length p.router.text + 1) cut.4,
            refl,
          ),
          λ i. record { kind = kind_word t.kind both.0 i; text = (text ∙ ap (λ p. codes "interface:" ++ (p.router.text ++ 46 ∷ p.net.text)) cut.4) i; start = t.start } ∷ more.1 i,
        )

-- ---- texts over several words

pub one_before : (n : ℕ) → 1 + n ≡ suc n
one_before n = omega arith

-- the words in front, as tokens
words_shape : (toks : List Tok) → toks ≡ map word_token (words_of toks) ++ drop (word_count toks) toks
words_shape [] = refl
words_shape (t ∷ toks) = by (words_shape toks) t.kind refl
  where
    by : toks ≡ map word_token (words_of toks) ++ drop (word_count toks) toks → (k : TokenKind) → t.kind ≡ k
        → t ∷ toks ≡ map word_token (map lexeme_of (take (cond (is_word k) (1 + word_count toks) 0) (t ∷ toks))) ++ drop (cond (is_word k) (1 + word_count toks) 0) (t ∷ toks)
    by again Word is =
        (λ i. record { kind = is i; text = t.text; start = t.start } ∷ again i)
        ∙ ap (λ n. map word_token (map lexeme_of (take n (t ∷ toks))) ++ drop n (t ∷ toks)) (sym (one_before (word_count toks)))
    by again Sign is = refl
    by again Description is = refl

pub spread_sound : (form : Form) → Sound (spread form) (read_spread form)
spread_sound form = record {
  fronts = λ toks rest x h.
      let read = cond_some (are_spread form (words_of toks)) (Some (words_of toks, drop (word_count toks) toks)) (x, rest) h in
      let is = parts (words_of toks) x (drop (word_count toks) toks) rest read.1 in
      let both = and_true (are_joined (texts_of (words_of toks))) (fits form (joined (texts_of (words_of toks)))) read.0 in (
        map word_token x,
        (subst (λ w. are_joined (texts_of w) ≡ true) is.0 both.0, subst (λ w. fits form (joined (texts_of w)) ≡ true) is.0 both.1, refl),
        words_shape toks ∙ λ i. map word_token (is.0 i) ++ is.1 i,
      );
}

pub spread_or_none_sound : (form : Form) → Sound (spread_or_none form) (read_spread_or_none form)
spread_or_none_sound form = if_sound at_word (more_sound (spread_sound form) (λ x front p. inr p)) (done_sound [] (inl refl))

-- ---- none, one or several

pub unless_sound : {A : Type 0} {spells : A → Phrase} (ends : List Tok → Bool) {read : Reader A} → Sound spells read → Sound (perhaps spells) (read_unless ends read)
unless_sound ends s = if_sound ends (done_sound None refl) (last_sound Some s (λ x front p. p))

pub up_to_sound : {A : Type 0} {spells : A → Phrase} (ends : List Tok → Bool) {read : Reader A} → Sound spells read → (n : ℕ) → Sound (many spells) (read_up_to ends read n)
up_to_sound ends s zero = if_sound ends (done_sound [] refl) refuse_sound
up_to_sound {A} {spells} ends {read} s (suc n) = record { fronts = λ toks rest xs h. by (up_to_sound ends s n) toks rest xs (ends toks) h }
  where
    by : Sound (many spells) (read_up_to ends read n) → (toks rest : List Tok) (xs : List A) (b : Bool)
        → cond {A = Option (List A × List Tok)} b (Some ([], toks)) (then_read (read toks) (λ x rest. with_first x (read_up_to ends read n rest))) ≡ Some (xs, rest) → Fronts (many spells xs) toks rest
    by again toks rest xs true h = none_taken (many spells) [] xs toks rest refl h
    by again toks rest xs false h =
        let one = then_some (read toks) _ (xs, rest) h in
        let more = first_some one.0.0 (read_up_to ends read n one.0.1) xs rest one.2 in
        let own = s.fronts toks one.0.1 one.0.0 one.1 in
        let others = again.fronts one.0.1 more.0.1 more.0.0 more.1 in (
          own.0 ++ others.0,
          subst (λ z. many spells z (own.0 ++ others.0)) more.2 (own.0, others.0, own.1, others.1, refl),
          in_turn toks own.0 one.0.1 others.0 more.0.1 rest own.2 others.2 more.3,
        )

pub until_sound : {A : Type 0} {spells : A → Phrase} (ends : List Tok → Bool) {read : Reader A} → Sound spells read → Sound (many spells) (read_until ends read)
until_sound ends s = record { fronts = λ toks rest xs h. (up_to_sound ends s (length toks)).fronts toks rest xs h }

-- a phrase that a comma may be, where the list ends behind it
abbrev pub EndsBy : (List Tok → Bool) → Phrase → Type 0
EndsBy ends T = T [] × ((front toks : List Tok) → sign (codes ",") front → ends toks ≡ true → T front)

pub never_by : EndsBy never_ends nothing
never_by = (refl, λ front toks p e. cc)

pub ends_by : EndsBy list_ends (nothing or sign (codes ","))
ends_by = (inl refl, λ front toks p e. inr p)

-- one item, and the others behind it
more_items : {A : Type 0} (spells : A → Phrase) (T : Phrase) (x : A) (xs : List A) (comma own others : List Tok) → sign (codes ",") comma → spells x own → (further spells xs then T) others → (further spells (x ∷ xs) then T) (comma ++ (own ++ others))
more_items spells T x xs comma own others c o p =
    ((comma ++ own) ++ p.0, p.1, (comma ++ own, p.0, (comma, own, c, o, refl), p.2, refl), p.3, ap (λ l. comma ++ (own ++ l)) p.4 ∙ simp append_assoc refl)

first_item : {A : Type 0} (spells : A → Phrase) (T : Phrase) (x : A) (xs : List A) (own others : List Tok) → spells x own → (further spells xs then T) others → (listed spells (x ∷ xs) then T) (own ++ others)
first_item spells T x xs own others o p = (own ++ p.0, p.1, (own, p.0, o, p.2, refl), p.3, ap (λ l. own ++ l) p.4 ∙ sym (append_assoc own p.0 p.1))

pub commas_sound : {A : Type 0} {spells : A → Phrase} (ends : List Tok → Bool) (T : Phrase) {read : Reader A} → EndsBy ends T → Sound spells read → (n : ℕ) → Sound (λ xs. further spells xs then T) (read_commas ends read n)
commas_sound ends T tail s zero = if_sound (at_sign (codes ",")) refuse_sound (done_sound [] ([], [], refl, tail.0, refl))
commas_sound {A} {spells} ends T {read} tail s (suc n) = record { fronts = λ toks rest xs h. by (commas_sound ends T tail s n) toks rest xs (at_sign (codes ",") toks) (ends (past toks)) refl refl h }
  where
    by : Sound (λ xs. further spells xs then T) (read_commas ends read n) → (toks rest : List Tok) (xs : List A) (b e : Bool) → at_sign (codes ",") toks ≡ b → ends (past toks) ≡ e
        → cond {A = Option (List A × List Tok)} b (cond {A = Option (List A × List Tok)} e (Some ([], past toks)) (then_read (read (past toks)) (λ x rest. with_first x (read_commas ends read n rest)))) (Some ([], toks)) ≡ Some (xs, rest)
        → Fronts (further spells xs then T) toks rest
    by again toks rest xs false e b_is e_is h = none_taken (λ ys. further spells ys then T) [] xs toks rest ([], [], refl, tail.0, refl) h
    by again toks rest xs true true b_is e_is h =
        let comma = sign_shape (codes ",") toks b_is in
        let is = parts [] xs (past toks) rest h in
        (comma.0, subst (λ z. (further spells z then T) comma.0) is.0 ([], comma.0, refl, tail.1 comma.0 (past toks) comma.1 e_is, refl), comma.2 ∙ ap (λ l. comma.0 ++ l) is.1)
    by again toks rest xs true false b_is e_is h =
        let comma = sign_shape (codes ",") toks b_is in
        let one = then_some (read (past toks)) _ (xs, rest) h in
        let more = first_some one.0.0 (read_commas ends read n one.0.1) xs rest one.2 in
        let own = s.fronts (past toks) one.0.1 one.0.0 one.1 in
        let others = again.fronts one.0.1 more.0.1 more.0.0 more.1 in (
          comma.0 ++ (own.0 ++ others.0),
          subst (λ z. (further spells z then T) (comma.0 ++ (own.0 ++ others.0))) more.2 (more_items spells T one.0.0 more.0.0 comma.0 own.0 others.0 comma.1 own.1 others.1),
          in_turn toks comma.0 (past toks) (own.0 ++ others.0) rest rest comma.2 (in_turn (past toks) own.0 one.0.1 others.0 more.0.1 rest own.2 others.2 more.3) refl,
        )

pub listed_by_sound : {A : Type 0} {spells : A → Phrase} (ends : List Tok → Bool) (T : Phrase) {read : Reader A} → EndsBy ends T → Sound spells read → Sound (λ xs. listed spells xs then T) (read_listed ends read)
listed_by_sound {A} {spells} ends T {read} tail s = record {
  fronts = λ toks rest xs h.
      let one = then_some (read toks) _ (xs, rest) h in
      let more = first_some one.0.0 (read_further ends read one.0.1) xs rest one.2 in
      let own = s.fronts toks one.0.1 one.0.0 one.1 in
      let others = (commas_sound ends T tail s (length one.0.1)).fronts one.0.1 more.0.1 more.0.0 more.1 in (
        own.0 ++ others.0,
        subst (λ z. (listed spells z then T) (own.0 ++ others.0)) more.2 (first_item spells T one.0.0 more.0.0 own.0 others.0 own.1 others.1),
        in_turn toks own.0 one.0.1 others.0 more.0.1 rest own.2 others.2 more.3,
      );
}

-- nothing behind
no_more : {P : Phrase} (front : List Tok) → (P then nothing) front → P front
no_more {P} front p = subst P (sym (p.4 ∙ ap (λ l. p.0 ++ l) p.3 ∙ append-nil p.0)) p.2

pub listed_sound : {A : Type 0} {spells : A → Phrase} {read : Reader A} → Sound spells read → Sound (listed spells) (read_listed never_ends read)
listed_sound {spells = spells} s = more_sound (listed_by_sound never_ends nothing never_by s) (λ xs front p. no_more {P = listed spells xs} front p)

pub listed_open_sound : {A : Type 0} {spells : A → Phrase} {read : Reader A} → Sound spells read → Sound (listed_open spells) (read_listed list_ends read)
listed_open_sound s = listed_by_sound list_ends (nothing or sign (codes ",")) ends_by s

pub further_sound : {A : Type 0} {spells : A → Phrase} {read : Reader A} → Sound spells read → Sound (further spells) (read_further never_ends read)
further_sound {spells = spells} s = record {
  fronts = λ toks rest xs h.
      let found = (commas_sound never_ends nothing never_by s (length toks)).fronts toks rest xs h in
      (found.0, no_more {P = further spells xs} found.0 found.1, found.2);
}
