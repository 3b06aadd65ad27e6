-- The first name of a list that stands in it before.
use Rattle.std.proofs.Common.{arith, ◌≡◌, ◌∙◌, refl, sym, ap, ℕ, zero, suc, ◌+◌, ◌<◌, Bool, true, false, cond, List, [], ◌∷◌, length, filter, take, Some, None, option_map, option_and_then, slice_get, add-zero}
use Rattle.std.specs.List.{list_any, range_with_len}
use Rattle.policy_decls.specs.Names.{Mention, same_name, is_again, shown_at}
use Rattle.policy_names.specs.Tables.{twice_among}

module _ (test : ℕ → Bool) where
  step : (s n : ℕ) (b : Bool) → test s ≡ b → filter test (range_with_len s (suc n)) ≡ cond b (s ∷ filter test (range_with_len (s + 1) n)) (filter test (range_with_len (s + 1) n))
  step s n b e = ap (λ c. cond c (s ∷ filter test (range_with_len (s + 1) n)) (filter test (range_with_len (s + 1) n))) e

  at_start : (s : ℕ) (b : Bool) → test (s + 0) ≡ b → test s ≡ b
  at_start s b e = ap test (sym (add-zero s)) ∙ e

  further : (s k : ℕ) (b : Bool) → test (s + suc k) ≡ b → test (s + 1 + k) ≡ b
  further s k b e = let same : s + 1 + k ≡ s + suc k = omega arith in ap test same ∙ e

  pub none_pass : (s n : ℕ) → ((k : ℕ) → k < n → test (s + k) ≡ false) → filter test (range_with_len s n) ≡ []
  none_pass s zero h = refl
  none_pass s (suc n) h = step s n false (at_start s false (h 0 (omega arith))) ∙ none_pass (s + 1) n (λ k l. further s k false (h (suc k) (omega arith)))

  pub first_pass : (i s n : ℕ) → i < n → ((k : ℕ) → k < i → test (s + k) ≡ false) → test (s + i) ≡ true → slice_get (filter test (range_with_len s n)) 0 ≡ Some (s + i)
  first_pass i s zero l h e = absurd (omega arith)
  first_pass zero s (suc n) l h e = ap (λ xs. slice_get xs 0) (step s n true (at_start s true e)) ∙ ap Some (sym (add-zero s))
  first_pass (suc i) s (suc n) l h e =
      let same : s + 1 + i ≡ s + suc i = omega arith in
      ap (λ xs. slice_get xs 0) (step s n false (at_start s false (h 0 (omega arith)))) ∙ first_pass i (s + 1) n (omega arith) (λ k m. further s k false (h (suc k) (omega arith))) (further s i true e) ∙ ap Some same

pub again_at : (names : List Mention) (k : ℕ) (m : Mention) → slice_get names k ≡ Some m → is_again names k ≡ list_any (same_name m) (take k names)
again_at names k m e = rw e refl

pub none_twice : (names : List Mention) → ((k : ℕ) → k < length names → is_again names k ≡ false) → twice_among names ≡ None
none_twice names h = ap (λ xs. option_and_then (shown_at names) (slice_get xs 0)) (none_pass (is_again names) 0 (length names) (λ k l. let same : 0 + k ≡ k = omega arith in ap (is_again names) same ∙ h k l))

pub first_twice : (names : List Mention) (i : ℕ) (m : Mention) → i < length names → slice_get names i ≡ Some m → ((k : ℕ) → k < i → is_again names k ≡ false) → is_again names i ≡ true → twice_among names ≡ Some m.shown
first_twice names i m l e h again =
    let same : (k : ℕ) → 0 + k ≡ k = λ k. omega arith in
    ap (option_and_then (shown_at names)) (first_pass (is_again names) i 0 (length names) l (λ k l. ap (is_again names) (same k) ∙ h k l) (ap (is_again names) (same i) ∙ again) ∙ ap Some (same i))
    ∙ ap (option_map (λ name. name.shown)) e
