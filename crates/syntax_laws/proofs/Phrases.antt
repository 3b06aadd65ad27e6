-- What follows from a phrase, where a fact holds of each of its tokens.
use Rattle.std.proofs.Common.{◌≡◌, ◌⊎◌, inl, inr, ℕ, Bool, List, [], ◌∷◌, ◌++◌, Option, Some, None, subst, refl}
use Rattle.std.specs.Prelude.{IfSome}
use Rattle.std.specs.List.{AllByRecursion}
use Rattle.spoc_lexer.specs.Tokens.{Tok}
use Rattle.spoc_parser.specs.declared.forms.Form.{Form}
use Rattle.spoc_parser.specs.Trees.{Lexeme}
use Rattle.spoc_parser.specs.Phrases.{Phrase, ◌then◌, ◌or◌, where_true, a_word, perhaps, many, some, further, listed, listed_open, none_of}
use Rattle.spoc_parser.specs.Grammar.{setting, body, body_with}

-- where P holds of each token, Q follows from the phrase
pub record Gives (P : Tok → Type 0) (phrase : Phrase) (Q : Type 0) : Type 0 where
  pub gives : (toks : List Tok) → AllByRecursion P toks → phrase toks → Q

pub halves : {X : Type 0} (P : X → Type 0) (xs ys : List X) → AllByRecursion P (xs ++ ys) → AllByRecursion P xs × AllByRecursion P ys
halves P [] ys h = (tt, h)
halves P (x ∷ xs) ys h = let more = halves P xs ys h.1 in ((h.0, more.0), more.1)

-- by the first of two phrases, by the second, and by both
pub left : {P : Tok → Type 0} {one other : Phrase} {Q : Type 0} → Gives P one Q → Gives P (one then other) Q
left {P} g = record { gives = λ toks all p. g.gives p.0 (halves P p.0 p.1 (subst (AllByRecursion P) p.4 all)).0 p.2 }

pub right : {P : Tok → Type 0} {one other : Phrase} {Q : Type 0} → Gives P other Q → Gives P (one then other) Q
right {P} g = record { gives = λ toks all p. g.gives p.1 (halves P p.0 p.1 (subst (AllByRecursion P) p.4 all)).1 p.3 }

pub each : {P : Tok → Type 0} {one other : Phrase} {Q R S : Type 0} → (Q → R → S) → Gives P one Q → Gives P other R → Gives P (one then other) S
each {P} f g h = record {
  gives = λ toks all p. let parts = halves P p.0 p.1 (subst (AllByRecursion P) p.4 all) in f (g.gives p.0 parts.0 p.2) (h.gives p.1 parts.1 p.3);
}

pub setting_gives : {P : Tok → Type 0} {Q : Type 0} (name : List ℕ) (form : Form) (word : Lexeme) → Gives P (a_word form word) Q → Gives P (setting name form word) Q
setting_gives name form word g = right (right (left g))

-- nothing is asked
pub always : {P : Tok → Type 0} {phrase : Phrase} {Q : Type 0} → Q → Gives P phrase Q
always q = record { gives = λ toks all p. q }

pub then_so : {P : Tok → Type 0} {phrase : Phrase} {Q R : Type 0} → (Q → R) → Gives P phrase Q → Gives P phrase R
then_so f g = record { gives = λ toks all p. f (g.gives toks all p) }

pub either : {P : Tok → Type 0} {one other : Phrase} {Q : Type 0} → Gives P one Q → Gives P other Q → Gives P (one or other) Q
either {P} {one} {other} {Q} g h = record { gives = by }
  where
    by : (toks : List Tok) → AllByRecursion P toks → one toks ⊎ other toks → Q
    by toks all (inl p) = g.gives toks all p
    by toks all (inr p) = h.gives toks all p

pub where_gives : {P : Tok → Type 0} {phrase : Phrase} {Q : Type 0} (holds : Bool) → Gives P phrase Q → Gives P (where_true holds phrase) Q
where_gives holds g = record { gives = λ toks all p. g.gives toks all p.1 }

pub none_gives : {P : Tok → Type 0} {A Q : Type 0} (xs : List A) → (xs ≡ [] → Q) → Gives P (none_of xs) Q
none_gives [] f = record { gives = λ toks all p. f refl }
none_gives (x ∷ xs) f = record { gives = λ toks all p. absurd p }

-- ---- things that may be left out or are many

pub perhaps_gives : {P : Tok → Type 0} {A : Type 0} {spells : A → Phrase} {Q : A → Type 0} → ((x : A) → Gives P (spells x) (Q x)) → (o : Option A) → Gives P (perhaps spells o) (IfSome o Q)
perhaps_gives s None = always tt
perhaps_gives s (Some x) = s x

pub many_gives : {P : Tok → Type 0} {A : Type 0} {spells : A → Phrase} {Q : A → Type 0} → ((x : A) → Gives P (spells x) (Q x)) → (xs : List A) → Gives P (many spells xs) (AllByRecursion Q xs)
many_gives s [] = always tt
many_gives s (x ∷ xs) = each (λ q qs. (q, qs)) (s x) (many_gives s xs)

pub some_gives : {P : Tok → Type 0} {A : Type 0} {spells : A → Phrase} {Q : A → Type 0} → ((x : A) → Gives P (spells x) (Q x)) → (xs : List A) → Gives P (some spells xs) (AllByRecursion Q xs)
some_gives s [] = always tt
some_gives s (x ∷ xs) = each (λ q qs. (q, qs)) (s x) (many_gives s xs)

pub further_gives : {P : Tok → Type 0} {A : Type 0} {spells : A → Phrase} {Q : A → Type 0} → ((x : A) → Gives P (spells x) (Q x)) → (xs : List A) → Gives P (further spells xs) (AllByRecursion Q xs)
further_gives s xs = many_gives (λ x. right (s x)) xs

pub listed_gives : {P : Tok → Type 0} {A : Type 0} {spells : A → Phrase} {Q : A → Type 0} → ((x : A) → Gives P (spells x) (Q x)) → (xs : List A) → Gives P (listed spells xs) (AllByRecursion Q xs)
listed_gives s [] = always tt
listed_gives s (x ∷ xs) = each (λ q qs. (q, qs)) (s x) (further_gives s xs)

pub listed_open_gives : {P : Tok → Type 0} {A : Type 0} {spells : A → Phrase} {Q : A → Type 0} → ((x : A) → Gives P (spells x) (Q x)) → (xs : List A) → Gives P (listed_open spells xs) (AllByRecursion Q xs)
listed_open_gives s xs = left (listed_gives s xs)

pub body_gives : {P : Tok → Type 0} {A : Type 0} {spells : A → Phrase} {Q : A → Type 0} → ((x : A) → Gives P (spells x) (Q x)) → (xs : List A) → Gives P (body spells xs) (AllByRecursion Q xs)
body_gives s xs = right (right (left (many_gives s xs)))

pub parts_give : {P : Tok → Type 0} {A : Type 0} {spells : A → Phrase} {Q : A → Type 0} (desc : Option Lexeme) → ((x : A) → Gives P (spells x) (Q x)) → (xs : List A) → Gives P (body_with desc spells xs) (AllByRecursion Q xs)
parts_give desc s xs = right (right (right (left (many_gives s xs))))
