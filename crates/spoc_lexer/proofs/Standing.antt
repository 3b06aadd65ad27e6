-- Pieces that stand, from the first one on.
use Rattle.std.proofs.Common.{◌≡◌, ℕ, Bool, true, false, ◌==◌, ◌&&◌, List, [], ◌∷◌, ◌++◌, ◌⊎◌, refl, sym, ap, subst, ◌∙◌, arith, append_assoc, inl, inr, true≢false}
use Rattle.std.specs.Prelude.{codes}
use Rattle.std.specs.List.{AllPass, AllByRecursion}
use Rattle.std.specs.Str.{bytes_eq}
use Rattle.std.proofs.lemmas.List.Elements.{All-nil, All-cons, recursion_from_All}
use Rattle.std.proofs.lemmas.Slice.Eq.{bytes_eq-Decides}
use Rattle.spoc_lexer.specs.Grammar.{Piece, Blank, Comment, Word, Sign, Text, joined, StandsBefore, is_gap, is_text, EndInDescription, OpenText, begins_with_text, Stand}

-- whether the last token is the word `description`, one piece later
abbrev pub named_behind : Bool → Piece → Bool
named_behind named (Blank byte) = named
named_behind named (Comment line) = named
named_behind named (Word bytes) = bytes_eq bytes (codes "description")
named_behind named (Sign byte) = false
named_behind named (Text line) = false

-- whether a text follows, one piece later
abbrev pub open_behind : Bool → Piece → Bool
open_behind named (Blank byte) = false
open_behind named (Comment line) = false
open_behind named (Word bytes) = false
open_behind named (Sign byte) = named && byte == 61
open_behind named (Text line) = false

abbrev pub named_after : Bool → List Piece → Bool
named_after named [] = named
named_after named (piece ∷ pieces) = named_after (named_behind named piece) pieces

abbrev pub open_after : Bool → Bool → List Piece → Bool
open_after named opened [] = opened
open_after named opened (piece ∷ pieces) = open_after (named_behind named piece) (open_behind named piece) pieces

named-append : (named : Bool) (xs ys : List Piece) → named_after named (xs ++ ys) ≡ named_after (named_after named xs) ys
named-append named [] ys = refl
named-append named (x ∷ xs) ys = named-append (named_behind named x) xs ys

open-append : (named opened : Bool) (xs : List Piece) (y : Piece) → open_after named opened (xs ++ y ∷ []) ≡ open_behind (named_after named xs) y
open-append named opened [] y = refl
open-append named opened (x ∷ xs) y = open-append (named_behind named x) (open_behind named x) xs y

over_gap : (named : Bool) (piece : Piece) → is_gap piece ≡ true → named_behind named piece ≡ named
over_gap named (Blank byte) h = refl
over_gap named (Comment line) h = refl
over_gap named (Word bytes) h = absurd (true≢false (sym h))
over_gap named (Sign byte) h = absurd (true≢false (sym h))
over_gap named (Text line) h = absurd (true≢false (sym h))

over_gaps : (named : Bool) (gap : List Piece) → AllByRecursion (λ p. is_gap p ≡ true) gap → named_after named gap ≡ named
over_gaps named [] h = refl
over_gaps named (piece ∷ gap) h = ap (λ b. named_after b gap) (over_gap named piece h.0) ∙ over_gaps named gap h.1

named_from : (named : Bool) (pieces : List Piece) → EndInDescription pieces → named_after named pieces ≡ true
named_from named pieces h =
    ap (named_after named) h.2
    ∙ named-append named h.0 (Word (codes "description") ∷ h.1)
    ∙ over_gaps true h.1 (recursion_from_All (λ p. is_gap p ≡ true) h.1 h.3)

named_to : (named : Bool) (pieces : List Piece) → named_after named pieces ≡ true → ((named ≡ true) × AllPass is_gap pieces) ⊎ EndInDescription pieces
named_to named [] h = inl (h, All-nil (λ p. is_gap p ≡ true))
named_to named (piece ∷ pieces) h = by piece (named_to (named_behind named piece) pieces h)
  where
    by : (p : Piece) → ((named_behind named p ≡ true) × AllPass is_gap pieces) ⊎ EndInDescription pieces → ((named ≡ true) × AllPass is_gap (p ∷ pieces)) ⊎ EndInDescription (p ∷ pieces)
    by p (inr e) = inr (p ∷ e.0, e.1, ap (λ l. p ∷ l) e.2, e.3)
    by (Blank byte) (inl e) = inl (e.0, All-cons (λ p. is_gap p ≡ true) (Blank byte) pieces refl e.1)
    by (Comment line) (inl e) = inl (e.0, All-cons (λ p. is_gap p ≡ true) (Comment line) pieces refl e.1)
    by (Word bytes) (inl e) = inr ([], pieces, ap (λ w. Word w ∷ pieces) ((bytes_eq-Decides bytes (codes "description")).0 e.0), e.1)
    by (Sign byte) (inl e) = absurd (true≢false (sym e.0))
    by (Text line) (inl e) = absurd (true≢false (sym e.0))

and_true : (a b : Bool) → (a && b) ≡ true → (a ≡ true) × (b ≡ true)
and_true true b h = (refl, h)
and_true false b h = absurd (true≢false (sym h))

equals_is : (byte : ℕ) → (byte == 61) ≡ true → byte ≡ 61
equals_is byte h = grind arith

open_to : (named opened : Bool) (pieces : List Piece) → open_after named opened pieces ≡ true → ((pieces ≡ []) × (opened ≡ true)) ⊎ ((front : List Piece) × (named_after named front ≡ true) × (pieces ≡ front ++ Sign 61 ∷ []))
open_to named opened [] h = inl (refl, h)
open_to named opened (piece ∷ pieces) h = by piece (open_to (named_behind named piece) (open_behind named piece) pieces h)
  where
    by : (p : Piece) → ((pieces ≡ []) × (open_behind named p ≡ true)) ⊎ ((front : List Piece) × (named_after (named_behind named p) front ≡ true) × (pieces ≡ front ++ Sign 61 ∷ []))
        → ((p ∷ pieces ≡ []) × (opened ≡ true)) ⊎ ((front : List Piece) × (named_after named front ≡ true) × (p ∷ pieces ≡ front ++ Sign 61 ∷ []))
    by p (inr e) = inr (p ∷ e.0, e.1, ap (λ l. p ∷ l) e.2)
    by (Blank byte) (inl e) = absurd (true≢false (sym e.1))
    by (Comment line) (inl e) = absurd (true≢false (sym e.1))
    by (Word bytes) (inl e) = absurd (true≢false (sym e.1))
    by (Sign byte) (inl e) =
        let parts = and_true named (byte == 61) e.1 in
        inr ([], parts.0, λ i. Sign (equals_is byte parts.1 i) ∷ e.0 i)
    by (Text line) (inl e) = absurd (true≢false (sym e.1))

open_text_to : (pieces : List Piece) → open_after false false pieces ≡ true → OpenText pieces
open_text_to pieces h = by (open_to false false pieces h)
  where
    ended : (front : List Piece) → ((false ≡ true) × AllPass is_gap front) ⊎ EndInDescription front → EndInDescription front
    ended front (inl e) = absurd (true≢false (sym e.0))
    ended front (inr e) = e

    by : ((pieces ≡ []) × (false ≡ true)) ⊎ ((front : List Piece) × (named_after false front ≡ true) × (pieces ≡ front ++ Sign 61 ∷ [])) → OpenText pieces
    by (inl e) = absurd (true≢false (sym e.1))
    by (inr e) = (e.0, ended e.0 (named_to false e.0 e.1), e.2)

open_text_from : (pieces : List Piece) → OpenText pieces → open_after false false pieces ≡ true
open_text_from pieces h =
    ap (open_after false false) h.2
    ∙ open-append false false h.0 (Sign 61)
    ∙ ap (λ b. b && true) (named_from false h.0 h.1)

same_test : (b c : Bool) → (b ≡ true → c ≡ true) → (c ≡ true → b ≡ true) → b ≡ c
same_test true c f g = sym (f refl)
same_test false true f g = g refl
same_test false false f g = refl

-- the pieces stand before the bytes, where this came before
abbrev pub Follow : Bool → Bool → List Piece → List ℕ → Type 0
Follow named opened [] behind = opened ≡ false
Follow named opened (piece ∷ pieces) behind = StandsBefore piece (joined pieces ++ behind) × (is_text piece ≡ opened) × Follow (named_behind named piece) (open_behind named piece) pieces behind

module _ (pieces : List Piece) (behind : List ℕ) (stand : Stand pieces behind) where
  opened_is : (before after : List Piece) → pieces ≡ before ++ after → open_after false false before ≡ begins_with_text after
  opened_is before after e =
      let exactly = stand.texts before after e in
      same_test (open_after false false before) (begins_with_text after) (λ h. exactly.0 (open_text_to before h)) (λ h. open_text_from before (exactly.1 h))

  follow_behind : (before after : List Piece) → pieces ≡ before ++ after → Follow (named_after false before) (open_after false false before) after behind
  follow_behind before [] e = opened_is before [] e
  follow_behind before (piece ∷ after) e =
      let later = follow_behind (before ++ piece ∷ []) after (e ∙ sym (append_assoc before (piece ∷ []) after)) in
      (stand.each before after piece e, sym (opened_is before (piece ∷ after) e), subst (λ n. Follow n (open_behind (named_after false before) piece) after behind) (named-append false before (piece ∷ [])) (subst (λ o. Follow (named_after false (before ++ piece ∷ [])) o after behind) (open-append false false before piece) later))

pub follow : (pieces : List Piece) (behind : List ℕ) → Stand pieces behind → Follow false false pieces behind
follow pieces behind stand = follow_behind pieces behind stand [] pieces refl

first_is : (x y : Piece) (xs ys : List Piece) → x ∷ xs ≡ y ∷ ys → x ≡ y
first_is x y xs ys h = cc

others_are : (x y : Piece) (xs ys : List Piece) → x ∷ xs ≡ y ∷ ys → xs ≡ ys
others_are x y xs ys h = cc

each_stands : (behind : List ℕ) (named opened : Bool) (pieces before after : List Piece) (piece : Piece) → Follow named opened pieces behind → pieces ≡ before ++ piece ∷ after → StandsBefore piece (joined after ++ behind)
each_stands behind named opened [] [] after piece h e = cc
each_stands behind named opened [] (b ∷ before) after piece h e = cc
each_stands behind named opened (p ∷ pieces) [] after piece h e =
    subst (λ x. StandsBefore x (joined after ++ behind)) (first_is p piece pieces after e) (subst (λ l. StandsBefore p (joined l ++ behind)) (others_are p piece pieces after e) h.0)
each_stands behind named opened (p ∷ pieces) (b ∷ before) after piece h e =
    each_stands behind (named_behind named p) (open_behind named p) pieces before after piece h.2 (others_are p b pieces (before ++ piece ∷ after) e)

opened_here : (behind : List ℕ) (named opened : Bool) (pieces : List Piece) → Follow named opened pieces behind → opened ≡ begins_with_text pieces
opened_here behind named opened [] h = h
opened_here behind named opened (p ∷ pieces) h = sym h.1

opened_there : (behind : List ℕ) (named opened : Bool) (pieces before after : List Piece) → Follow named opened pieces behind → pieces ≡ before ++ after → open_after named opened before ≡ begins_with_text after
opened_there behind named opened pieces [] after h e = opened_here behind named opened pieces h ∙ ap begins_with_text e
opened_there behind named opened [] (b ∷ before) after h e = cc
opened_there behind named opened (p ∷ pieces) (b ∷ before) after h e =
    ap (λ q. open_after (named_behind named q) (open_behind named q) before) (sym (first_is p b pieces (before ++ after) e))
    ∙ opened_there behind (named_behind named p) (open_behind named p) pieces before after h.2 (others_are p b pieces (before ++ after) e)

pub stand : (pieces : List Piece) (behind : List ℕ) → Follow false false pieces behind → Stand pieces behind
stand pieces behind h = record {
  each = λ before after piece e. each_stands behind false false pieces before after piece h e;
  texts = λ before after e. (λ o. sym (opened_there behind false false pieces before after h e) ∙ open_text_from before o, λ t. open_text_to before (opened_there behind false false pieces before after h e ∙ t));
}
