-- What is found in texts, text by text.
use Rattle.std.proofs.Common.{◌≡◌, ℕ, zero, suc, ◌+◌, ◌<◌, Bool, true, List, [], ◌∷◌, length, take, Option, Some, None, refl, sym, ap, subst, ◌∙◌, arith}
use Rattle.std.specs.Prelude.{option_map, Result, Ok, Err}
use Rattle.std.specs.List.{All}
use Rattle.std.proofs.lemmas.List.Elements.{All-nil, All-cons, All-head, All-tail}
use Rattle.std.proofs.lemmas.Option.{none-some, same_Some, some_pair_parts}
use Rattle.spoc_lexer.specs.Tokens.{Tok, tokens_of}
use Rattle.spoc_lexer.specs.Grammar.{HasTokens, StopsAt}
use Rattle.spoc_lexer.proofs.Divided.{divided, stops_at}
use Rattle.spoc_lexer.proofs.Dividing.{has_tokens, stops_there}
use Rattle.token_checks.specs.Places.{NonePasses, token_before, second_before}
use Rattle.token_checks.specs.LeftOut.{is_left_out_at, is_left_out}
use Rattle.token_checks.specs.Nesting.{is_too_deep_at, level_at, opens_beyond}
use Rattle.policy_files.proofs.First.{within}
use Rattle.spoc_parser.specs.Files.{run_of, most_levels}
use Rattle.policy_files.specs.Fault.{or_else, first_in, first_token, toks_in, offset_in, bad_byte, omitted_word, deep_bracket, unread_token, behind_run}
use Rattle.reading_laws.specs.Said.{AreShallow}
use Rattle.reading_laws.specs.Told.{IsDivided, OmitsNothing, IsShallow, IsSpelled, HasFirst, OmitsFirst, NestsFirst, SpellsUpTo, IsFirstWrong}
use Rattle.reading_laws.proofs.Firsts.{first_is, none_is, first_there, none_there}
use Rattle.reading_laws.proofs.Runs.{none_behind, spelled_whole, ends_there, ends_back}

-- what a test finds in a text that is as it should be in one way
pub record Finds {A : Type 0} (P Good : List ℕ → Type 0) (Wrong : List ℕ → A → Type 0) (test : List ℕ → Option A) : Type 0 where
  pub good_there : (text : List ℕ) → P text → test text ≡ None → Good text
  pub good_back : (text : List ℕ) → P text → Good text → test text ≡ None
  pub wrong_there : (text : List ℕ) (a : A) → P text → test text ≡ Some a → Wrong text a
  pub wrong_back : (text : List ℕ) (a : A) → P text → Wrong text a → test text ≡ Some a

-- ---- over all texts

module _ {A : Type 0} (P Good : List ℕ → Type 0) (Wrong : List ℕ → A → Type 0) (test : List ℕ → Option A) (finds : Finds P Good Wrong test) where
  chain : (k : ℕ) (text : List ℕ) (texts : List (List ℕ)) (o : Option A) → test text ≡ o →
      first_in test k (text ∷ texts) ≡ or_else (option_map (λ a. (k, a)) o) (first_in test (k + 1) texts)
  chain k text texts o e = ap (λ p. or_else (option_map (λ a. (k, a)) p) (first_in test (k + 1) texts)) e

  all_from : (k : ℕ) (texts : List (List ℕ)) → All P texts → first_in test k texts ≡ None → All Good texts
  all_from k [] ps e = All-nil Good
  all_from k (text ∷ texts) ps e = step (all_from (k + 1) texts (All-tail P text texts ps)) (test text) refl
    where
      step : (first_in test (k + 1) texts ≡ None → All Good texts) → (o : Option A) → test text ≡ o → All Good (text ∷ texts)
      step rest None h = All-cons Good text texts (finds.good_there text (All-head P text texts ps) h) (rest (sym (chain k text texts None h) ∙ e))
      step rest (Some a) h = absurd (none-some (k, a) (sym e ∙ chain k text texts (Some a) h))

  none_from : (k : ℕ) (texts : List (List ℕ)) → All P texts → All Good texts → first_in test k texts ≡ None
  none_from k [] ps goods = refl
  none_from k (text ∷ texts) ps goods =
      chain k text texts None (finds.good_back text (All-head P text texts ps) (All-head Good text texts goods)) ∙ none_from (k + 1) texts (All-tail P text texts ps) (All-tail Good text texts goods)

  abbrev WrongFrom : ℕ → List (List ℕ) → ℕ → A → Type 0
  WrongFrom k texts file a = (n : ℕ) × (file ≡ k + n) × IsFirstWrong Good Wrong texts n a

  wrong_from : (k : ℕ) (texts : List (List ℕ)) (file : ℕ) (a : A) → All P texts → first_in test k texts ≡ Some (file, a) → WrongFrom k texts file a
  wrong_from k [] file a ps e = absurd (none-some (file, a) e)
  wrong_from k (text ∷ texts) file a ps e = step (wrong_from (k + 1) texts file a (All-tail P text texts ps)) (test text) refl
    where
      here : (b : A) → test text ≡ Some b → (k ≡ file) × (b ≡ a) → WrongFrom k (text ∷ texts) file a
      here b h same = (
        0,
        sym same.0 ∙ omega arith,
        record {
          text = text;
          there = refl;
          wrong = finds.wrong_there text a (All-head P text texts ps) (h ∙ ap Some same.1);
          before = All-nil Good;
        },
      )

      behind : test text ≡ None → WrongFrom (k + 1) texts file a → WrongFrom k (text ∷ texts) file a
      behind h found = (
        suc found.0,
        found.1 ∙ omega arith,
        record {
          text = found.2.text;
          there = found.2.there;
          wrong = found.2.wrong;
          before = All-cons Good text (take found.0 texts) (finds.good_there text (All-head P text texts ps) h) found.2.before;
        },
      )

      step : (first_in test (k + 1) texts ≡ Some (file, a) → WrongFrom (k + 1) texts file a) → (o : Option A) → test text ≡ o → WrongFrom k (text ∷ texts) file a
      step rest None h = behind h (rest (sym (chain k text texts None h) ∙ e))
      step rest (Some b) h = here b h (some_pair_parts k file b a (sym (chain k text texts (Some b) h) ∙ e))

  found_from : (k : ℕ) (texts : List (List ℕ)) (n : ℕ) (a : A) → All P texts → IsFirstWrong Good Wrong texts n a → first_in test k texts ≡ Some (k + n, a)
  found_from k [] n a ps w = absurd (none-some w.text w.there)
  found_from k (text ∷ texts) zero a ps w =
      let wrong : Wrong text a = subst (λ t. Wrong t a) (sym (same_Some text w.text w.there)) w.wrong in
      let number : k ≡ k + zero = omega arith in
      chain k text texts (Some a) (finds.wrong_back text a (All-head P text texts ps) wrong) ∙ ap (λ m. Some (m, a)) number
  found_from k (text ∷ texts) (suc n) a ps w =
      let number : (k + 1) + n ≡ k + suc n = omega arith in
      let good = finds.good_back text (All-head P text texts ps) (All-head Good text (take n texts) w.before) in
      let more = found_from (k + 1) texts n a (All-tail P text texts ps) (record { text = w.text; there = w.there; wrong = w.wrong; before = All-tail Good text (take n texts) w.before }) in
      chain k text texts None good ∙ more ∙ ap (λ m. Some (m, a)) number

  pub all_good : (texts : List (List ℕ)) → All P texts → first_in test 0 texts ≡ None → All Good texts
  all_good = all_from 0

  pub none_found : (texts : List (List ℕ)) → All P texts → All Good texts → first_in test 0 texts ≡ None
  none_found = none_from 0

  pub first_wrong : (texts : List (List ℕ)) (file : ℕ) (a : A) → All P texts → first_in test 0 texts ≡ Some (file, a) → IsFirstWrong Good Wrong texts file a
  first_wrong texts file a ps e =
      let found = wrong_from 0 texts file a ps e in
      let number : found.0 ≡ file = omega (arith, found.1) in
      subst (λ n. IsFirstWrong Good Wrong texts n a) number found.2

  pub wrong_found : (texts : List (List ℕ)) (file : ℕ) (a : A) → All P texts → IsFirstWrong Good Wrong texts file a → first_in test 0 texts ≡ Some (file, a)
  wrong_found texts file a ps w =
      let number : 0 + file ≡ file = omega arith in
      found_from 0 texts file a ps w ∙ ap (λ n. Some (n, a)) number

-- ---- text by text

pub toks_are : (text : List ℕ) (toks : List Tok) → HasTokens text toks → tokens_of text ≡ Ok toks
toks_are text toks h = divided text h.0 h.1 ∙ ap Ok h.2

pub same_toks : (text : List ℕ) (toks others : List Tok) → HasTokens text toks → HasTokens text others → toks ≡ others
same_toks text toks others h k = ap toks_in (sym (toks_are text toks h) ∙ toks_are text others k)

abbrev pub Anything : List ℕ → Type 0
Anything text = Unit {0}

pub lexed : Finds Anything IsDivided StopsAt bad_byte
lexed = record {
  good_there = λ text p e. divided_there text (tokens_of text) refl e;
  good_back = λ text p h. ap offset_in (toks_are text h.0 h.1);
  wrong_there = λ text offset p e. stopped_there text offset (tokens_of text) refl e;
  wrong_back = λ text offset p h. ap offset_in (stops_at text offset h);
}
  where
    divided_there : (text : List ℕ) (r : Result (List Tok) ℕ) → tokens_of text ≡ r → offset_in r ≡ None → IsDivided text
    divided_there text (Ok toks) h e = (toks, has_tokens text toks h)
    divided_there text (Err offset) h e = absurd (none-some offset (sym e))

    stopped_there : (text : List ℕ) (offset : ℕ) (r : Result (List Tok) ℕ) → tokens_of text ≡ r → offset_in r ≡ Some offset → StopsAt text offset
    stopped_there text offset (Ok toks) h e = absurd (none-some offset e)
    stopped_there text offset (Err at) h e = stops_there text offset (h ∙ ap Err (same_Some at offset e))

module _ (test : List Tok → ℕ → Bool) (within : (toks : List Tok) (k : ℕ) → test toks k ≡ true → k < length toks) where
  abbrev first_of_toks : Result (List Tok) ℕ → Option Tok
  first_of_toks r = let toks = toks_in r in first_token (test toks) toks

  abbrev HasNone : List ℕ → Type 0
  HasNone text = (toks : List Tok) × HasTokens text toks × NonePasses (test toks)

  pub looked : Finds IsDivided HasNone (HasFirst test) (λ text. first_of_toks (tokens_of text))
  looked = record {
    good_there = λ text p e. (p.0, p.1, none_there (test p.0) p.0 (within p.0) (sym (ap first_of_toks (toks_are text p.0 p.1)) ∙ e));
    good_back = λ text p h. ap first_of_toks (toks_are text h.0 h.1) ∙ none_is (test h.0) h.0 (within h.0) h.2;
    wrong_there = λ text tok p e.
        let first = first_there (test p.0) p.0 (within p.0) tok (sym (ap first_of_toks (toks_are text p.0 p.1)) ∙ e) in
        (p.0, p.1, first.0, first.1, first.2);
    wrong_back = λ text tok p h. ap first_of_toks (toks_are text h.0 h.1) ∙ first_is (test h.0) h.0 (within h.0) tok (h.2, h.3, h.4);
  }

pub omitted : Finds IsDivided OmitsNothing OmitsFirst omitted_word
omitted = looked is_left_out_at (λ toks k h. within (is_left_out (second_before toks k) (token_before toks k)) toks k h)

pub nested : Finds IsDivided IsShallow NestsFirst deep_bracket
nested = looked is_too_deep_at (λ toks k h. within (opens_beyond (level_at toks k)) toks k h)

abbrev pub behind_toks : Result (List Tok) ℕ → Option Tok
behind_toks r = behind_run (run_of most_levels (toks_in r))

pub spelled : Finds IsShallow IsSpelled SpellsUpTo unread_token
spelled = record {
  good_there = λ text p e.
      let whole = spelled_whole p.0 p.2 (sym (ap behind_toks (toks_are text p.0 p.1)) ∙ e) in
      (p.0, p.1, (most_levels, whole.0, whole.1));
  good_back = λ text p h. ap behind_toks (toks_are text h.0 h.1) ∙ none_behind h.0 (moved text p h.0 h.1) h.2;
  wrong_there = λ text tok p e. (p.0, p.1, ends_there p.0 p.2 tok (sym (ap behind_toks (toks_are text p.0 p.1)) ∙ e));
  wrong_back = λ text tok p h. ap behind_toks (toks_are text h.0 h.1) ∙ ends_back h.0 (moved text p h.0 h.1) tok h.2;
}
  where
    moved : (text : List ℕ) → IsShallow text → (toks : List Tok) → HasTokens text toks → AreShallow toks
    moved text p toks h = subst AreShallow (same_toks text p.0 toks p.1 h) p.2
