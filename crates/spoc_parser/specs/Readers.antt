-- What readers are made of.
use Rattle.std.specs.Prelude.{ℕ, zero, suc, ◌+◌, Bool, true, false, ◌&&◌, List, [], ◌∷◌, length, take, drop, map, Option, Some, None, if◌then◌else◌, codes}
use Rattle.std.specs.Str.{bytes_eq}
use Rattle.std.specs.List.{prefix_len}
use Rattle.spoc_lexer.specs.Tokens.{Tok}
use Rattle.spoc_lexer.specs.declared.token.TokenKind.{TokenKind}
use Rattle.spoc_lexer.specs.declared.token.TokenKind.TheVariants.{Word, Sign, Description}
use Rattle.spoc_parser.specs.declared.forms.Form.{Form}
use Rattle.spoc_parser.specs.Trees.{Lexeme, PortItem}
use Rattle.spoc_parser.specs.Texts.{is_name, fits, begins_with, cut_at, are_joined, joined}

infixr 3 ◌>>=◌
-- a value and the tokens behind it, where they begin with one
abbrev pub Reader : Type 0 → Type 0
Reader A = List Tok → Option (A × List Tok)

-- reads on behind what was read
abbrev pub then_read : {A B : Type 0} → Option (A × List Tok) → (A → Reader B) → Option (B × List Tok)
then_read None f = None
then_read (Some r) f = f r.0 r.1

-- the one reader, and behind it the other
abbrev pub ◌>>=◌ : {A B : Type 0} → Reader A → (A → Reader B) → Reader B
◌>>=◌ read f toks = then_read (read toks) f

-- reads no token
abbrev pub done : {A : Type 0} → A → Reader A
done x toks = Some (x, toks)

-- reads nothing at all
abbrev pub refuse : {A : Type 0} → Reader A
refuse toks = None

-- the tokens behind the first
abbrev pub past : List Tok → List Tok
past [] = []
past (t ∷ toks) = toks

abbrev pub is_word : TokenKind → Bool
is_word Word = true
is_word Sign = false
is_word Description = false

abbrev pub is_sign : TokenKind → Bool
is_sign Word = false
is_sign Sign = true
is_sign Description = false

abbrev pub is_text : TokenKind → Bool
is_text Word = false
is_text Sign = false
is_text Description = true

-- the first token is this sign
abbrev pub at_sign : List ℕ → List Tok → Bool
at_sign text [] = false
at_sign text (t ∷ toks) = is_sign t.kind && bytes_eq t.text text

-- the first token is this word
abbrev pub at_key : List ℕ → List Tok → Bool
at_key text [] = false
at_key text (t ∷ toks) = is_word t.kind && bytes_eq t.text text

-- the first token is a word that begins so
abbrev pub at_kind : List ℕ → List Tok → Bool
at_kind kind [] = false
at_kind kind (t ∷ toks) = is_word t.kind && begins_with kind t.text

-- the first token is a word of this form
abbrev pub at_form : Form → List Tok → Bool
at_form form [] = false
at_form form (t ∷ toks) = is_word t.kind && fits form t.text

-- the first token is a word
abbrev pub at_word : List Tok → Bool
at_word [] = false
at_word (t ∷ toks) = is_word t.kind

-- past the first token, where the test holds
abbrev pub step_where : Bool → Reader (Unit {0})
step_where true toks = Some (tt, past toks)
step_where false toks = None

-- a sign that has to come
abbrev pub read_sign : List ℕ → Reader (Unit {0})
read_sign text toks = step_where (at_sign text toks) toks

-- a word that has to come
abbrev pub read_key : List ℕ → Reader (Unit {0})
read_key text toks = step_where (at_key text toks) toks

-- the word that a token is
abbrev pub lexeme_of : Tok → Lexeme
lexeme_of t = record { start = t.start; text = t.text }

-- a word of this form
abbrev pub read_word : Form → Reader Lexeme
read_word form [] = None
read_word form (t ∷ toks) = if is_word t.kind && fits form t.text then Some (lexeme_of t, toks) else None

-- the text of a description
abbrev pub read_text : Reader Lexeme
read_text [] = None
read_text (t ∷ toks) = if is_text t.kind then Some (lexeme_of t, toks) else None

-- a token without so many of its first bytes
abbrev pub lexeme_behind : ℕ → Tok → Lexeme
lexeme_behind n t = record { start = t.start + n; text = drop n t.text }

-- a word that is this kind and a name: the name
abbrev pub read_named : List ℕ → Reader Lexeme
read_named kind [] = None
read_named kind (t ∷ toks) = if is_word t.kind && (begins_with kind t.text && is_name (drop (length kind) t.text)) then Some (lexeme_behind (length kind) t, toks) else None

-- two words of which the first begins there, with a byte between them
abbrev pub port_at : ℕ → List ℕ → List ℕ → PortItem
port_at start router net = record { router = record { start = start; text = router }; net = record { start = start + length router + 1; text = net } }

-- two names with a `.` between them, as they are cut
abbrev pub port_of_cut : ℕ → Option (List ℕ × List ℕ) → Option PortItem
port_of_cut start None = None
port_of_cut start (Some parts) = if is_name parts.0 && is_name parts.1 then Some (port_at start parts.0 parts.1) else None

-- two names with a `.` between them
abbrev pub port_of : Lexeme → Option PortItem
port_of word = port_of_cut word.start (cut_at 46 word.text)

abbrev pub with_rest : {A : Type 0} → Option A → List Tok → Option (A × List Tok)
with_rest None toks = None
with_rest (Some x) toks = Some (x, toks)

-- `interface:R.N`
abbrev pub read_port : Reader PortItem
read_port [] = None
read_port (t ∷ toks) = if is_word t.kind && begins_with (codes "interface:") t.text then with_rest (port_of (lexeme_behind 10 t)) toks else None

-- how many words stand in front
abbrev pub word_count : List Tok → ℕ
word_count toks = prefix_len (λ (t : Tok). is_word t.kind) toks

-- the words in front
abbrev pub words_of : List Tok → List Lexeme
words_of toks = map lexeme_of (take (word_count toks) toks)

abbrev pub texts_of : List Lexeme → List (List ℕ)
texts_of words = map (λ word. word.text) words

-- these words are a text of the form, spread over them
abbrev pub are_spread : Form → List Lexeme → Bool
are_spread form words = are_joined (texts_of words) && fits form (joined (texts_of words))

-- all words in front, which have to be a text of this form
abbrev pub read_spread : Form → Reader (List Lexeme)
read_spread form toks = if are_spread form (words_of toks) then Some (words_of toks, drop (word_count toks) toks) else None

-- the same, where there is a word
abbrev pub read_spread_or_none : Form → Reader (List Lexeme)
read_spread_or_none form toks = if at_word toks then read_spread form toks else Some ([], toks)

-- none where the test holds of the tokens, and else one
abbrev pub read_unless : {A : Type 0} → (List Tok → Bool) → Reader A → Reader (Option A)
read_unless ends read toks = if ends toks then Some (None, toks) else then_read (read toks) (λ x. done (Some x))

-- the item and what was read behind it
abbrev pub with_first : {A : Type 0} → A → Option (List A × List Tok) → Option (List A × List Tok)
with_first x None = None
with_first x (Some r) = Some (x ∷ r.0, r.1)

-- items up to where the test holds of the tokens, at most so many
abbrev pub read_up_to : {A : Type 0} → (List Tok → Bool) → Reader A → ℕ → Reader (List A)
read_up_to ends read zero toks = if ends toks then Some ([], toks) else None
read_up_to ends read (suc n) toks = if ends toks then Some ([], toks) else then_read (read toks) (λ x rest. with_first x (read_up_to ends read n rest))

-- items up to where the test holds of the tokens; each has a token, so that there are no more items than tokens
abbrev pub read_until : {A : Type 0} → (List Tok → Bool) → Reader A → Reader (List A)
read_until ends read toks = read_up_to ends read (length toks) toks

-- at most so many items, each behind a comma; a comma behind which the test holds is the last token
abbrev pub read_commas : {A : Type 0} → (List Tok → Bool) → Reader A → ℕ → Reader (List A)
read_commas ends read zero toks = if at_sign (codes ",") toks then None else Some ([], toks)
read_commas ends read (suc n) toks =
    if at_sign (codes ",") toks
    then (if ends (past toks) then Some ([], past toks) else then_read (read (past toks)) (λ x rest. with_first x (read_commas ends read n rest)))
    else Some ([], toks)

-- the items behind each comma
abbrev pub read_further : {A : Type 0} → (List Tok → Bool) → Reader A → Reader (List A)
read_further ends read toks = read_commas ends read (length toks) toks

-- a first item, and the items behind each comma
abbrev pub read_listed : {A : Type 0} → (List Tok → Bool) → Reader A → Reader (List A)
read_listed ends read toks = then_read (read toks) (λ x rest. with_first x (read_further ends read rest))

-- no comma is the last token
abbrev pub never_ends : List Tok → Bool
never_ends toks = false

-- a list ends before `;` or `]`
abbrev pub list_ends : List Tok → Bool
list_ends toks = if at_sign (codes ";") toks then true else at_sign (codes "]") toks
