-- What rows of the grammar are made of.
use Rattle.std.specs.Prelude.{◌≡◌, ◌⊎◌, ℕ, ◌+◌, Bool, true, List, [], ◌∷◌, ◌++◌, length, map, Option, Some, None, codes}
use Rattle.spoc_lexer.specs.Tokens.{Tok}
use Rattle.spoc_lexer.specs.declared.token.TokenKind.TheVariants.{Word, Sign, Description}
use Rattle.spoc_parser.specs.declared.forms.Form.{Form}
use Rattle.spoc_parser.specs.Trees.{Lexeme, PortItem}
use Rattle.spoc_parser.specs.Texts.{is_name, fits, are_joined, joined}

infixr 4 ◌or◌
infixr 5 ◌then◌
-- some lists of tokens
abbrev pub Phrase : Type 1
Phrase = List Tok → Type 0

-- the one phrase, and behind it the other
abbrev pub ◌then◌ : Phrase → Phrase → Phrase
◌then◌ P Q toks = (front behind : List Tok) × P front × Q behind × (toks ≡ front ++ behind)

-- the one phrase or the other
abbrev pub ◌or◌ : Phrase → Phrase → Phrase
◌or◌ P Q toks = P toks ⊎ Q toks

-- no token
abbrev pub nothing : Phrase
nothing toks = toks ≡ []

-- no phrase
abbrev pub never : Phrase
never toks = ⊥

-- a phrase where a fact holds
abbrev pub where_true : Bool → Phrase → Phrase
where_true holds P toks = (holds ≡ true) × P toks

-- a word's token
abbrev pub word_token : Lexeme → Tok
word_token word = record { kind = Word; text = word.text; start = word.start }

-- a sign
abbrev pub sign : List ℕ → Phrase
sign text toks = (start : ℕ) × (toks ≡ record { kind = Sign; text = text; start = start } ∷ [])

-- a fixed word
abbrev pub key : List ℕ → Phrase
key text toks = (start : ℕ) × (toks ≡ record { kind = Word; text = text; start = start } ∷ [])

-- a word of this form
abbrev pub a_word : Form → Lexeme → Phrase
a_word form word toks = (fits form word.text ≡ true) × (toks ≡ word_token word ∷ [])

-- a word that is a kind and a name, as `network:n1` is; the name begins behind the kind
abbrev pub named : List ℕ → Lexeme → Phrase
named kind name toks = (start : ℕ) × (is_name name.text ≡ true) × (name.start ≡ start + length kind) × (toks ≡ record { kind = Word; text = kind ++ name.text; start = start } ∷ [])

-- `interface:R.N`
abbrev pub at_port : PortItem → Phrase
at_port port toks = (start : ℕ) × (is_name port.router.text ≡ true) × (is_name port.net.text ≡ true) × (port.router.start ≡ start + 10) × (port.net.start ≡ start + 10 + length port.router.text + 1)
    × (toks ≡ record { kind = Word; text = codes "interface:" ++ (port.router.text ++ 46 ∷ port.net.text); start = start } ∷ [])

-- the text of a description
abbrev pub a_text : Lexeme → Phrase
a_text text toks = toks ≡ record { kind = Description; text = text.text; start = text.start } ∷ []

-- a text of this form, spread over one word or several
abbrev pub spread : Form → List Lexeme → Phrase
spread form words toks = (are_joined (map (λ word. word.text) words) ≡ true) × (fits form (joined (map (λ word. word.text) words)) ≡ true) × (toks ≡ map word_token words)

-- none or one
abbrev pub perhaps : {A : Type 0} → (A → Phrase) → Option A → Phrase
perhaps spells None = nothing
perhaps spells (Some x) = spells x

-- any number
abbrev pub many : {A : Type 0} → (A → Phrase) → List A → Phrase
many spells [] = nothing
many spells (x ∷ xs) = spells x then many spells xs

-- one or more, one behind the other
abbrev pub some : {A : Type 0} → (A → Phrase) → List A → Phrase
some spells [] = never
some spells (x ∷ xs) = spells x then many spells xs

-- each with a comma before it
abbrev pub further : {A : Type 0} → (A → Phrase) → List A → Phrase
further spells xs = many (λ x. sign (codes ",") then spells x) xs

-- one or more, with commas between them
abbrev pub listed : {A : Type 0} → (A → Phrase) → List A → Phrase
listed spells [] = never
listed spells (x ∷ xs) = spells x then further spells xs

-- the same, perhaps with a comma at the end
abbrev pub listed_open : {A : Type 0} → (A → Phrase) → List A → Phrase
listed_open spells xs = listed spells xs then (nothing or sign (codes ","))

-- just one
abbrev pub single : {A : Type 0} → (A → Phrase) → List A → Phrase
single spells [] = never
single spells (x ∷ []) = spells x
single spells (x ∷ y ∷ ys) = never

-- there is none
abbrev pub none_of : {A : Type 0} → List A → Phrase
none_of [] = nothing
none_of (x ∷ xs) = never
