-- How words are written.
use Rattle.std.specs.Prelude.{ℕ, ◌+◌, ◌-◌, ◌*◌, Bool, true, false, not, ◌&&◌, ◌||◌, ◌==◌, nat_le, List, [], ◌∷◌, ◌++◌, length, take, drop, fold, position, Option, Some, None, option_map, codes}
use Rattle.std.specs.Str.{bytes_eq}
use Rattle.std.specs.List.{list_all}
use Rattle.spoc_parser.specs.declared.forms.Form.{Form}
use Rattle.spoc_parser.specs.declared.forms.Form.TheVariants.{Any, Name, Address, Prefix, Number, Range, Ports, Icmp, Filter, Routing, Note, ListKey, ValueKey, Flag}

abbrev pub is_empty : List ℕ → Bool
is_empty [] = true
is_empty (b ∷ bs) = false

abbrev pub is_digit : ℕ → Bool
is_digit b = nat_le 48 b && nat_le b 57

-- letters, digits, `_` and `-`
abbrev pub is_name_byte : ℕ → Bool
is_name_byte b = (nat_le 65 b && nat_le b 90) || ((nat_le 97 b && nat_le b 122) || (is_digit b || (b == 95 || b == 45)))

abbrev pub is_name : List ℕ → Bool
is_name text = not (is_empty text) && list_all is_name_byte text

-- a zero with something behind it
abbrev pub has_leading_zero : List ℕ → Bool
has_leading_zero [] = false
has_leading_zero (b ∷ []) = false
has_leading_zero (b ∷ c ∷ rest) = b == 48

-- one to five digits without a leading zero
abbrev pub is_number : List ℕ → Bool
is_number text = not (is_empty text) && (nat_le (length text) 5 && (list_all is_digit text && not (has_leading_zero text)))

-- what decimal digits say
abbrev pub value_of : List ℕ → ℕ
value_of digits = fold (λ n b. 10 * n + (b - 48)) 0 digits

-- a number from 0 to the most
abbrev pub is_number_to : ℕ → List ℕ → Bool
is_number_to most text = is_number text && nat_le (value_of text) most

-- what stands before the first such byte and what behind it, where there is one
abbrev pub cut_at : ℕ → List ℕ → Option (List ℕ × List ℕ)
cut_at b text = option_map (λ i. (take i text, drop (i + 1) text)) (position (λ c. c == b) text)

abbrev pub both_pass : Option (List ℕ × List ℕ) → (List ℕ → Bool) → (List ℕ → Bool) → Bool
both_pass None before behind = false
both_pass (Some parts) before behind = before parts.0 && behind parts.1

-- the text has such a byte; what stands before the first one passes the one test, and what behind it the other
abbrev pub are_around : ℕ → (List ℕ → Bool) → (List ℕ → Bool) → List ℕ → Bool
are_around b before behind text = both_pass (cut_at b text) before behind

-- a number from 0 to 255
abbrev pub is_octet : List ℕ → Bool
is_octet text = is_number_to 255 text

-- four numbers from 0 to 255, joined by `.`
abbrev pub is_address : List ℕ → Bool
is_address text = are_around 46 is_octet (are_around 46 is_octet (are_around 46 is_octet is_octet)) text

-- an address, `/` and a number from 0 to 32
abbrev pub is_prefix : List ℕ → Bool
is_prefix text = are_around 47 is_address (is_number_to 32) text

-- two addresses, joined by `-`
abbrev pub is_range : List ℕ → Bool
is_range text = are_around 45 is_address is_address text

-- a number, or two joined by `-`
abbrev pub is_span : List ℕ → Bool
is_span text = is_number text || are_around 45 is_number is_number text

-- the ports of a destination, or those of a source and a destination, joined by `:`
abbrev pub is_ports : List ℕ → Bool
is_ports text = is_span text || are_around 58 is_span is_span text

-- a type, or a type and a code, joined by `/`
abbrev pub is_icmp : List ℕ → Bool
is_icmp text = is_number text || are_around 47 is_number is_number text

-- what an ignored part's first word may be, where several words, one word or no words stand behind it
abbrev pub is_list_key : List ℕ → Bool
is_list_key text = bytes_eq text (codes "owner") || bytes_eq text (codes "overlaps")

abbrev pub is_value_key : List ℕ → Bool
is_value_key text = bytes_eq text (codes "subnet_of")

abbrev pub is_flag : List ℕ → Bool
is_flag text =
    bytes_eq text (codes "has_subnets") || (bytes_eq text (codes "multi_owner") || (bytes_eq text (codes "unknown_owner")
    || (bytes_eq text (codes "has_unenforceable") || bytes_eq text (codes "no_check_supernet_rules"))))

abbrev pub is_filter : List ℕ → Bool
is_filter text = bytes_eq text (codes "standard") || (bytes_eq text (codes "full") || bytes_eq text (codes "primary"))

abbrev pub is_routing : List ℕ → Bool
is_routing text = bytes_eq text (codes "dynamic") || bytes_eq text (codes "manual")

abbrev pub is_note : List ℕ → Bool
is_note text = bytes_eq text (codes "overlaps") || bytes_eq text (codes "no_check_supernet_rules")

-- a text is written in this form
abbrev pub fits : Form → List ℕ → Bool
fits Any text = true
fits Name text = is_name text
fits Address text = is_address text
fits Prefix text = is_prefix text
fits Number text = is_number text
fits Range text = is_range text
fits Ports text = is_ports text
fits Icmp text = is_icmp text
fits Filter text = is_filter text
fits Routing text = is_routing text
fits Note text = is_note text
fits ListKey text = is_list_key text
fits ValueKey text = is_value_key text
fits Flag text = is_flag text

-- a text begins so
abbrev pub begins_with : List ℕ → List ℕ → Bool
begins_with start text = bytes_eq (take (length start) text) start

-- one of `-`, `:` and `/`
abbrev pub is_joint : ℕ → Bool
is_joint b = b == 45 || (b == 58 || b == 47)

abbrev pub first_joins : List ℕ → Bool
first_joins [] = false
first_joins (b ∷ bs) = is_joint b

abbrev pub last_joins : List ℕ → Bool
last_joins [] = false
last_joins (b ∷ []) = is_joint b
last_joins (b ∷ c ∷ bs) = last_joins (c ∷ bs)

-- at each seam of the texts the byte before or the byte after is a joint
abbrev pub are_joined : List (List ℕ) → Bool
are_joined [] = true
are_joined (text ∷ []) = true
are_joined (text ∷ next ∷ texts) = (last_joins text || first_joins next) && are_joined (next ∷ texts)

-- the texts, one behind the other
abbrev pub joined : List (List ℕ) → List ℕ
joined [] = []
joined (text ∷ texts) = text ++ joined texts
