-- A name is declared where it has a number.
use Rattle.std.proofs.Common.{arith, ◌≡◌, ◌∙◌, refl, sym, ap, ℕ, ◌+◌, Bool, true, false, not, ◌&&◌, ◌||◌, cond, List, [], ◌∷◌, length, position, nat_lt, Some, None, Option, is_some}
use Rattle.std.specs.Str.{bytes_eq}
use Rattle.std.specs.List.{list_any, list_all, position_or_len}
use Rattle.std.proofs.lemmas.Map.Views.{any-filter_same}
use Rattle.std.proofs.lemmas.Bool.Decides.{nat_tests}
use Rattle.policy_model.specs.Lists.{once_each}
use Rattle.policy_decls.specs.Names.{number_of_kind, same_kind, Mention}
use Rattle.policy_decls.specs.Uses.{is_tag, names_it, is_unknown}
use Rattle.policy_decls.specs.Said.{same_text}
use Rattle.policy_names.specs.Tables.{of_kind, numbered}
use Rattle.policy_names.proofs.Noted.{eqb_sym, once_any, text_alike}
use Rattle.policy_names.proofs.Numbers.{and_first, and_second, all_filter, all_once}

module _ {A : Type 0} (p : A → Bool) where
  some_of : (b : Bool) (n : ℕ) → is_some (cond b (Some n) None) ≡ b
  some_of true n = refl
  some_of false n = refl

  first_step : (b : Bool) (n l : ℕ) → nat_lt (cond (not b) (1 + n) 0) (1 + l) ≡ (b || nat_lt n l)
  first_step true n l = grind (arith, nat_tests)
  first_step false n l = grind (arith, nat_tests)

  before_end : (xs : List A) → nat_lt (position_or_len p xs) (length xs) ≡ list_any p xs
  before_end [] = refl
  before_end (x ∷ xs) = ap (nat_lt (position_or_len p (x ∷ xs))) same ∙ first_step (p x) (position_or_len p xs) (length xs) ∙ ap (λ b. p x || b) (before_end xs)
    where
      same : length (x ∷ xs) ≡ 1 + length xs
      same = omega arith

  pub has_position : (xs : List A) → is_some (position p xs) ≡ list_any p xs
  has_position xs = some_of (nat_lt (position_or_len p xs) (length xs)) (position_or_len p xs) ∙ before_end xs

any_same : {A : Type 0} (f p q : A → Bool) → ((x : A) → f x ≡ true → p x ≡ q x) → (xs : List A) → list_all f xs ≡ true → list_any p xs ≡ list_any q xs
any_same f p q agree [] h = refl
any_same f p q agree (x ∷ xs) h =
    ap (λ b. b || list_any p xs) (agree x (and_first (f x) (list_all f xs) h)) ∙ ap (λ b. q x || b) (any_same f p q agree xs (and_second (f x) (list_all f xs) h))

module _ (names : List Mention) (used : Mention) where
  own_kind : (x : Mention) → names_it used x ≡ true → same_kind x.kind used.kind ≡ true
  own_kind x e =
      eqb_sym (number_of_kind x.kind) (number_of_kind used.kind)
      ∙ and_first (same_kind used.kind x.kind) (bytes_eq used.text x.text) (and_first (same_kind used.kind x.kind && bytes_eq used.text x.text) (is_tag used.kind || bytes_eq used.owner x.owner) e)

  any_of_kind : list_any (names_it used) (of_kind names used.kind) ≡ list_any (names_it used) names
  any_of_kind = any-filter_same (names_it used) (λ x. same_kind x.kind used.kind) true own_kind names

  text_test : is_tag used.kind ≡ true → (x : Mention) → same_kind x.kind used.kind ≡ true → names_it used x ≡ bytes_eq used.text x.text
  text_test e x h =
      ap (λ b. (b && bytes_eq used.text x.text) && (is_tag used.kind || bytes_eq used.owner x.owner)) (eqb_sym (number_of_kind used.kind) (number_of_kind x.kind) ∙ h)
      ∙ ap (λ b. bytes_eq used.text x.text && (b || bytes_eq used.owner x.owner)) e ∙ and_true (bytes_eq used.text x.text)
    where
      and_true : (b : Bool) → (b && true) ≡ b
      and_true true = refl
      and_true false = refl

  any_numbered : (b : Bool) → is_tag used.kind ≡ b → list_any (names_it used) (cond b (once_each same_text (of_kind names used.kind)) (of_kind names used.kind)) ≡ list_any (names_it used) names
  any_numbered false e = any_of_kind
  any_numbered true e =
      let own = λ (x : Mention). same_kind x.kind used.kind in
      let all = all_filter own names in
      any_same own (names_it used) (λ x. bytes_eq used.text x.text) (text_test e) (once_each same_text (of_kind names used.kind)) (all_once own same_text (of_kind names used.kind) all)
      ∙ once_any same_text (λ x. bytes_eq used.text x.text) (text_alike used) (of_kind names used.kind)
      ∙ sym (any_same own (names_it used) (λ x. bytes_eq used.text x.text) (text_test e) (of_kind names used.kind) all) ∙ any_of_kind

  double_not : (b : Bool) → b ≡ not (not b)
  double_not true = refl
  double_not false = refl

  pub known : (found : Option ℕ) → found ≡ position (names_it used) (numbered names used.kind) → is_some found ≡ not (is_unknown names used)
  known found e =
      ap is_some e ∙ has_position (names_it used) (numbered names used.kind) ∙ any_numbered (is_tag used.kind) refl ∙ double_not (list_any (names_it used) names)
