-- The first item of lists that are put together.
use Rattle.std.proofs.Common.{◌≡◌, ℕ, zero, suc, ◌+◌, ◌<◌, inl, Bool, true, false, cond, List, [], ◌∷◌, ◌++◌, length, map, Option, Some, None, refl, ap, ◌∙◌, arith}
use Rattle.std.specs.Prelude.{is_some, flat_map, filter, slice_get, option_map, option_and_then}
use Rattle.std.specs.List.{range_with_len}
use Rattle.std.proofs.lemmas.Bool.{false≢true}
use Rattle.spoc_lexer.specs.Tokens.{Tok}
use Rattle.policy_model.specs.Lists.{numbers_below}
use Rattle.policy_model.proofs.AllWalks.{IsIn}
use Rattle.list_laws.proofs.Members.{from_filter}
use Rattle.fault_laws.proofs.Orders.{from_numbers}
use Rattle.policy_files.specs.Fault.{or_else, first_from, first_token, first_in}
use Rattle.source_laws.specs.Table.{one_or_none, in_each, tokens_at}

abbrev pub head : {A : Type 0} → List A → Option A
head xs = slice_get xs 0

pub head_append : {A : Type 0} (xs ys : List A) → head (xs ++ ys) ≡ or_else (head xs) (head ys)
head_append [] ys = refl
head_append (x ∷ xs) ys = refl

-- the first of two lists, by the first of each
pub both : {A : Type 0} (xs ys : List A) (o p : Option A) → head xs ≡ o → head ys ≡ p → head (xs ++ ys) ≡ or_else o p
both xs ys o p e f = head_append xs ys ∙ ap (λ q. or_else q (head ys)) e ∙ ap (or_else o) f

head_map : {A B : Type 0} (f : A → B) (xs : List A) → head (map f xs) ≡ option_map f (head xs)
head_map f [] = refl
head_map f (x ∷ xs) = refl

pub mapped : {A B : Type 0} (f : A → B) (xs : List A) (o : Option A) → head xs ≡ o → head (map f xs) ≡ option_map f o
mapped f xs o e = head_map f xs ∙ ap (option_map f) e

pub head_one : {A : Type 0} (o : Option A) → head (one_or_none o) ≡ o
head_one None = refl
head_one (Some a) = refl

pub nothing_there : {A : Type 0} (xs : List A) → head xs ≡ None → xs ≡ []
nothing_there [] e = refl
nothing_there (x ∷ xs) e = cc e

-- ---- what each item gives

or_first : {A : Type 0} (o p : Option A) → is_some o ≡ true → or_else o p ≡ o
or_first None p h = absurd (false≢true h)
or_first (Some a) p h = refl

-- where each item gives something, the first item gives the first
pub head_given : {A B : Type 0} (body : A → Option B) (xs : List A) → ((x : A) → IsIn x xs → is_some (body x) ≡ true) →
    head (flat_map (λ x. one_or_none (body x)) xs) ≡ option_and_then body (head xs)
head_given body [] some = refl
head_given body (x ∷ xs) some =
    let rest = flat_map (λ y. one_or_none (body y)) xs in
    both (one_or_none (body x)) rest (body x) (head rest) (head_one (body x)) refl ∙ or_first (body x) (head rest) (some x (inl refl))

pub some_there : {A : Type 0} (xs : List A) (k : ℕ) → k < length xs → is_some (slice_get xs k) ≡ true
some_there [] k below = absurd (omega arith)
some_there (x ∷ xs) zero below = refl
some_there (x ∷ xs) (suc k) below = some_there xs k (omega arith)

-- the places that pass a test are places of the list
pub place_below : (test : ℕ → Bool) (n k : ℕ) → IsIn k (filter test (numbers_below n)) → k < n
place_below test n k h = from_numbers n k (from_filter test k (numbers_below n) h).0

pub first_passing : (test : ℕ → Bool) (k n : ℕ) → head (filter test (range_with_len k n)) ≡ first_from test k n
first_passing test k zero = refl
first_passing test k (suc n) =
    let same : k + 1 ≡ suc k = omega arith in
    go (test k) (first_passing test (k + 1) n ∙ ap (λ j. first_from test j n) same)
  where
    go : (b : Bool) → head (filter test (range_with_len (k + 1) n)) ≡ first_from test (suc k) n →
        head (cond b (k ∷ filter test (range_with_len (k + 1) n)) (filter test (range_with_len (k + 1) n))) ≡ cond b (Some k) (first_from test (suc k) n)
    go true e = refl
    go false e = e

pub head_tokens : (test : ℕ → Bool) (toks : List Tok) → head (tokens_at test toks) ≡ first_token test toks
head_tokens test toks =
    head_given (slice_get toks) (filter test (numbers_below (length toks))) (λ k h. some_there toks k (place_below test (length toks) k h))
    ∙ ap (option_and_then (slice_get toks)) (first_passing test 0 (length toks))

-- ---- text by text

pub head_in_each : {A : Type 0} (wrong : List ℕ → List A) (test : List ℕ → Option A) → ((text : List ℕ) → head (wrong text) ≡ test text) →
    (k : ℕ) (texts : List (List ℕ)) → head (in_each wrong k texts) ≡ first_in test k texts
head_in_each wrong test same k [] = refl
head_in_each wrong test same k (text ∷ texts) =
    both (map (λ a. (k, a)) (wrong text)) (in_each wrong (k + 1) texts) (option_map (λ a. (k, a)) (test text)) (first_in test (k + 1) texts)
    (mapped (λ a. (k, a)) (wrong text) (test text) (same text)) (head_in_each wrong test same (k + 1) texts)
