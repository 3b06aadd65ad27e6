-- How numbers and addresses are written in a line, and what they say.
use Rattle.std.specs.Prelude.{ℕ, ◌+◌, ◌-◌, ◌*◌, Bool, false, not, ◌&&◌, ◌==◌, nat_le, List, [], ◌∷◌, length, take, drop, fold, position, Option, Some, None, option_map, option_and_then, if◌then◌else◌}
use Rattle.std.specs.List.{list_all}
use Rattle.policy_model.specs.Lists.{is_nothing}

abbrev pub is_digit : ℕ → Bool
is_digit b = nat_le 48 b && nat_le b 57

-- a zero with something behind it
abbrev pub has_leading_zero : List ℕ → Bool
has_leading_zero [] = false
has_leading_zero (b ∷ []) = false
has_leading_zero (b ∷ c ∷ rest) = b == 48

-- one to five digits without a leading zero
abbrev pub is_number : List ℕ → Bool
is_number text = not (is_nothing text) && nat_le (length text) 5 && list_all is_digit text && not (has_leading_zero text)

-- what decimal digits say
abbrev pub value_of : List ℕ → ℕ
value_of digits = fold (λ n b. 10 * n + (b - 48)) 0 digits

abbrev pub number_of : List ℕ → Option ℕ
number_of text = if is_number text then Some (value_of text) else None

abbrev pub at_most : ℕ → ℕ → Option ℕ
at_most most n = if nat_le n most then Some n else None

-- a number from 0 to the most
abbrev pub number_to : ℕ → List ℕ → Option ℕ
number_to most text = option_and_then (at_most most) (number_of text)

-- what stands before the first such byte and what behind it, where there is one
abbrev pub cut_at : ℕ → List ℕ → Option (List ℕ × List ℕ)
cut_at b text = option_map (λ i. (take i text, drop (i + 1) text)) (position (λ c. c == b) text)

abbrev pub cut_by : ℕ → List ℕ → {A : Type 0} → (List ℕ → List ℕ → Option A) → Option A
cut_by b text then_of = option_and_then (λ parts. then_of parts.0 parts.1) (cut_at b text)

-- the address of its four bytes
abbrev pub address_from : ℕ → ℕ → ℕ → ℕ → ℕ
address_from a b c d = 16777216 * a + 65536 * b + 256 * c + d

-- four numbers from 0 to 255 joined by `.`
abbrev pub address_of : List ℕ → Option ℕ
address_of text =
    cut_by 46 text (λ first rest. cut_by 46 rest (λ second rest. cut_by 46 rest (λ third fourth.
    option_and_then (λ a. option_and_then (λ b. option_and_then (λ c. option_map (λ d. address_from a b c d) (number_to 255 fourth)) (number_to 255 third)) (number_to 255 second)) (number_to 255 first))))
