-- The first word of a text, and what is left of the text.
use Rattle.std.proofs.Common.{◌≡◌, ◌∙◌, refl, sym, ap, ℕ, suc, ◌+◌, ◌-◌, ◌<◌, ◌≤◌, eqb, ltb, Bool, true, false, not, cond, List, [], ◌∷◌, length, take, drop, arith, length-drop, Option, Some, None}
use Rattle.std.specs.List.{position, position_or_len, slice_split, onto_first}
use Rattle.std.proofs.lemmas.List.{take_all}
use Rattle.std.proofs.lemmas.Bool.{ltb-false, ne_eqb}
use Rattle.std.proofs.lemmas.Option.{none-some, same_Some}
use Rattle.policy_model.specs.Lists.{is_nothing}
use Rattle.device_lines.specs.Entries.{first_word}
use Rattle.device_lines.specs.Seen.{words_of}

abbrev pub place : List ℕ → ℕ
place text = position_or_len (λ b. eqb b 32) text

pub within : (text : List ℕ) → place text ≤ length text
within [] = omega arith
within (b ∷ text) = by (eqb b 32) (within text)
  where
    by : (t : Bool) → place text ≤ length text → cond (not t) (1 + place text) 0 ≤ suc (length text)
    by true h = omega arith
    by false h = omega arith

longer : (b : ℕ) (xs : List (List ℕ)) (w : List ℕ) (ws : List (List ℕ)) → Some (w, ws) ≡ first_word xs → Some (b ∷ w, ws) ≡ first_word (onto_first b xs)
longer b [] w ws e = absurd (none-some (w, ws) (sym e))
longer b (x ∷ xs) w ws e = let same = same_Some {A = List ℕ × List (List ℕ)} (w, ws) (x, xs) e in ap (λ (r : List ℕ × List (List ℕ)). Some (b ∷ r.0, r.1)) same

at_place : (text : List ℕ) → Some (take (place text) text, words_of (drop (place text) text)) ≡ first_word (slice_split (λ b. eqb b 32) text)
at_place [] = refl
at_place (b ∷ text) = by (eqb b 32) (at_place text)
  where
    parts : List (List ℕ)
    parts = slice_split (λ c. eqb c 32) text

    by : (t : Bool) → Some (take (place text) text, words_of (drop (place text) text)) ≡ first_word (slice_split (λ c. eqb c 32) text) →
        Some (take (cond (not t) (1 + place text) 0) (b ∷ text), words_of (drop (cond (not t) (1 + place text) 0) (b ∷ text))) ≡ first_word (cond t ([] ∷ slice_split (λ c. eqb c 32) text) (onto_first b (slice_split (λ c. eqb c 32) text)))
    by true e = refl
    by false e =
        let one : 1 + place text ≡ suc (place text) = omega arith in
        ap (λ n. Some (take n (b ∷ text), words_of (drop n (b ∷ text)))) one ∙ longer b (slice_split (λ c. eqb c 32) text) (take (place text) text) (words_of (drop (place text) text)) e

pub cut_found : (text : List ℕ) (at : ℕ) → at ≡ place text → Some (take at text, words_of (take (length text - at) (drop at text))) ≡ first_word (slice_split (λ b. eqb b 32) text)
cut_found text at e =
    let all : take (length text - at) (drop at text) ≡ drop at text = take_all (length text - at) (drop at text) (omega (arith, length-drop at text)) in
    ap (λ rest. Some (take at text, words_of rest)) all ∙ ap (λ n. Some (take n text, words_of (drop n text))) e ∙ at_place text

pub place_found : (text : List ℕ) (at : ℕ) → position (λ b. eqb b 32) text ≡ Some at → at ≡ place text
place_found text at e = by (ltb (place text) (length text)) e
  where
    by : (t : Bool) → cond t (Some (place text)) None ≡ Some at → at ≡ place text
    by true f = sym (same_Some (place text) at f)
    by false f = absurd (none-some at f)

pub place_missing : (text : List ℕ) → position (λ b. eqb b 32) text ≡ None → length text ≡ place text
place_missing text e = by (ltb (place text) (length text)) refl e
  where
    by : (t : Bool) → ltb (place text) (length text) ≡ t → cond t (Some (place text)) None ≡ None → length text ≡ place text
    by true f g = absurd (none-some (place text) (sym g))
    by false f g = let l = ltb-false (place text) (length text) f in let k = within text in omega (arith, l, k)

parts_some : (text : List ℕ) → is_nothing (slice_split (λ b. eqb b 32) text) ≡ false
parts_some [] = refl
parts_some (b ∷ text) = by (eqb b 32) (slice_split (λ c. eqb c 32) text)
  where
    by : (t : Bool) (parts : List (List ℕ)) → is_nothing (cond t ([] ∷ parts) (onto_first b parts)) ≡ false
    by true parts = refl
    by false [] = refl
    by false (p ∷ ps) = refl

-- no words are left exactly where no bytes are
pub ended : (text : List ℕ) → eqb (length text) 0 ≡ is_nothing (words_of text)
ended [] = refl
ended (b ∷ text) = ne_eqb (suc (length text)) 0 (λ e. omega (arith, e)) ∙ sym (parts_some text)
