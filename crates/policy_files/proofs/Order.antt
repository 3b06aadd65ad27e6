-- The order of faults.
use Rattle.std.specs.Prelude.{◌≡◌, refl, ℕ, ◌+◌, Bool, true, false, nat_lt, if◌then◌else◌, List, ◌∷◌, Option, Some, None, option_map}
use Rattle.std.proofs.Common.{arith, ap, sym, ◌∙◌}
use Rattle.spoc_base.specs.declared.fault.Fault.{Fault}
use Rattle.spoc_lexer.specs.Tokens.{Tok}
use Rattle.policy_files.specs.Fault.{or_else, first_in, lex_fault, left_out_fault, deep_fault, syntax_fault, bad_byte, omitted_word, deep_bracket, unread_token, faults_from}
use Rattle.policy_files.specs.Rank.{rank, earlier_of, earlier, text_fault}

-- the faults of a text, and those of others behind it
abbrev joined_rows : ℕ → Option ℕ → Option Tok → Option Tok → Option Tok → Option (ℕ × ℕ) → Option (ℕ × Tok) → Option (ℕ × Tok) → Option (ℕ × Tok) → Option Fault
joined_rows k a b c d a' b' c' d' =
    or_else (option_map lex_fault (or_else (option_map (λ x. (k, x)) a) a')) (or_else (option_map left_out_fault (or_else (option_map (λ x. (k, x)) b) b'))
    (or_else (option_map deep_fault (or_else (option_map (λ x. (k, x)) c) c')) (option_map syntax_fault (or_else (option_map (λ x. (k, x)) d) d'))))

abbrev own_rows : ℕ → Option ℕ → Option Tok → Option Tok → Option Tok → Option Fault
own_rows k a b c d =
    or_else (option_map (λ x. lex_fault (k, x)) a) (or_else (option_map (λ x. left_out_fault (k, x)) b)
    (or_else (option_map (λ x. deep_fault (k, x)) c) (option_map (λ x. syntax_fault (k, x)) d)))

abbrev other_rows : Option (ℕ × ℕ) → Option (ℕ × Tok) → Option (ℕ × Tok) → Option (ℕ × Tok) → Option Fault
other_rows a b c d = or_else (option_map lex_fault a) (or_else (option_map left_out_fault b) (or_else (option_map deep_fault c) (option_map syntax_fault d)))

rows : (k : ℕ) (a : Option ℕ) (b c d : Option Tok) (a' : Option (ℕ × ℕ)) (b' c' d' : Option (ℕ × Tok)) →
    joined_rows k a b c d a' b' c' d' ≡ earlier (own_rows k a b c d) (other_rows a' b' c' d')
rows k (Some x) b c d (Some _) b' c' d' = refl
rows k (Some x) b c d None (Some _) c' d' = refl
rows k (Some x) b c d None None (Some _) d' = refl
rows k (Some x) b c d None None None (Some _) = refl
rows k (Some x) b c d None None None None = refl
rows k None (Some x) c d (Some _) b' c' d' = refl
rows k None (Some x) c d None (Some _) c' d' = refl
rows k None (Some x) c d None None (Some _) d' = refl
rows k None (Some x) c d None None None (Some _) = refl
rows k None (Some x) c d None None None None = refl
rows k None None (Some x) d (Some _) b' c' d' = refl
rows k None None (Some x) d None (Some _) c' d' = refl
rows k None None (Some x) d None None (Some _) d' = refl
rows k None None (Some x) d None None None (Some _) = refl
rows k None None (Some x) d None None None None = refl
rows k None None None (Some x) (Some _) b' c' d' = refl
rows k None None None (Some x) None (Some _) c' d' = refl
rows k None None None (Some x) None None (Some _) d' = refl
rows k None None None (Some x) None None None (Some _) = refl
rows k None None None (Some x) None None None None = refl
rows k None None None None a' b' c' d' = refl

pub more : (k : ℕ) (text : List ℕ) (texts : List (List ℕ)) → faults_from k (text ∷ texts) ≡ earlier (text_fault k text) (faults_from (k + 1) texts)
more k text texts =
    rows k (bad_byte text) (omitted_word text) (deep_bracket text) (unread_token text)
    (first_in bad_byte (k + 1) texts) (first_in omitted_word (k + 1) texts) (first_in deep_bracket (k + 1) texts) (first_in unread_token (k + 1) texts)

chosen : (a b : Fault) (x : Bool) → nat_lt (rank b) (rank a) ≡ x → earlier_of a b ≡ (if x then b else a)
chosen a b x e = ap (λ t. if t then b else a) e

-- no kind is before a second one that is before a third, and not before the third; nor the other way round
between : (l m n : ℕ) → nat_lt m l ≡ true → nat_lt n m ≡ true → nat_lt n l ≡ true
between l m n = grind arith

behind : (l m n : ℕ) → nat_lt m l ≡ false → nat_lt n m ≡ false → nat_lt n l ≡ false
behind l m n = grind arith

three : (a b c : Fault) (x y : Bool) → nat_lt (rank b) (rank a) ≡ x → nat_lt (rank c) (rank b) ≡ y → earlier_of (earlier_of a b) c ≡ earlier_of a (earlier_of b c)
three a b c true true x y =
    ap (λ f. earlier_of f c) (chosen a b true x) ∙ chosen b c true y ∙ sym (ap (earlier_of a) (chosen b c true y) ∙ chosen a c true (between (rank a) (rank b) (rank c) x y))
three a b c true false x y = ap (λ f. earlier_of f c) (chosen a b true x) ∙ chosen b c false y ∙ sym (ap (earlier_of a) (chosen b c false y) ∙ chosen a b true x)
three a b c false true x y = ap (λ f. earlier_of f c) (chosen a b false x) ∙ sym (ap (earlier_of a) (chosen b c true y))
three a b c false false x y =
    ap (λ f. earlier_of f c) (chosen a b false x) ∙ chosen a c false (behind (rank a) (rank b) (rank c) x y) ∙ sym (ap (earlier_of a) (chosen b c false y) ∙ chosen a b false x)

pub joined : (a b c : Option Fault) → earlier (earlier a b) c ≡ earlier a (earlier b c)
joined None b c = refl
joined (Some a) None c = refl
joined (Some a) (Some b) None = refl
joined (Some a) (Some b) (Some c) = ap Some (three a b c (nat_lt (rank b) (rank a)) (nat_lt (rank c) (rank b)) refl refl)
