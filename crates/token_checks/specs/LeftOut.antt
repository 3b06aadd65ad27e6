-- The words of the language that this compiler leaves out, and the places where they are left out.
use Rattle.std.specs.Prelude.{ℕ, Bool, false, ◌&&◌, ◌||◌, List, [], ◌∷◌, Option, Some, None, slice_get, codes, length, take}
use Rattle.std.specs.List.{list_any}
use Rattle.std.specs.Str.{bytes_eq}
use Rattle.spoc_lexer.specs.Tokens.{Tok}
use Rattle.token_checks.specs.Places.{is_word_kind, is_the_sign, token_before, second_before, passes_there}

-- a word that begins with one of these is left out wherever it stands
abbrev pub beginnings : List (List ℕ)
beginnings =
    codes "crypto:" ∷ codes "ipsec:" ∷ codes "isakmp:" ∷ codes "owner:" ∷ codes "secondary:" ∷ codes "host:id:" ∷ []

-- left out where a part begins: behind `{`, `}` or `;`
abbrev pub part_words : List (List ℕ)
part_words =
    codes "dynamic" ∷ codes "identity" ∷ codes "crypto" ∷ codes "hub" ∷ codes "spoke" ∷ codes "bridged" ∷ codes "unnumbered"
    ∷ codes "negotiated" ∷ codes "loopback" ∷ codes "vip" ∷ codes "no_in_acl" ∷ codes "std_in_acl" ∷ codes "no_group_code"
    ∷ codes "filter_only" ∷ codes "log_deny" ∷ codes "inclusive_border" ∷ codes "router_attributes" ∷ codes "nat_in" ∷ codes "nat_out"
    ∷ codes "disabled" ∷ codes "disable_at" ∷ codes "policy_distribution_point" ∷ codes "general_permit" ∷ []

-- the parts whose value may be left out
abbrev pub valued_words : List (List ℕ)
valued_words = codes "managed" ∷ codes "routing" ∷ codes "user" ∷ []

-- left out as the value of such a part: behind its `=`
abbrev pub value_words : List (List ℕ)
value_words =
    codes "secondary" ∷ codes "local" ∷ codes "routing_only" ∷ codes "OSPF" ∷ codes "EIGRP" ∷ codes "RIPv2" ∷ codes "foreach" ∷ []

-- left out where a bracket begins: behind `[`
abbrev pub bracket_words : List (List ℕ)
bracket_words = codes "auto" ∷ codes "all" ∷ []

-- left out in a list: behind `,`
abbrev pub list_words : List (List ℕ)
list_words =
    codes "stateless" ∷ codes "oneway" ∷ codes "reversed" ∷ codes "src_net" ∷ codes "dst_net" ∷ codes "src_any" ∷ codes "dst_any" ∷ []

abbrev pub is_among : List (List ℕ) → List ℕ → Bool
is_among words text = list_any (bytes_eq text) words

abbrev pub begins_with : List ℕ → List ℕ → Bool
begins_with text beginning = bytes_eq beginning (take (length beginning) text)

-- the token before is this sign
abbrev pub stands_behind : ℕ → Option Tok → Bool
stands_behind byte None = false
stands_behind byte (Some before) = is_the_sign byte before

-- the token before is `{`, `}` or `;`
abbrev pub begins_part : Option Tok → Bool
begins_part before = stands_behind 123 before || (stands_behind 125 before || stands_behind 59 before)

-- the token is a word among these
abbrev pub is_word_among : List (List ℕ) → Option Tok → Bool
is_word_among words None = false
is_word_among words (Some tok) = is_word_kind tok.kind && is_among words tok.text

-- the token before is a `=`, and the one before that begins a part whose value may be left out
abbrev pub begins_value : Option Tok → Option Tok → Bool
begins_value second before = stands_behind 61 before && is_word_among valued_words second

-- a word is left out by its own beginning
abbrev pub has_beginning : List ℕ → Bool
has_beginning text = list_any (begins_with text) beginnings

-- a word is left out where a part, a value, a bracket or a further member of a list begins
abbrev pub is_part_word : Option Tok → List ℕ → Bool
is_part_word before text = begins_part before && is_among part_words text

abbrev pub is_value_word : Option Tok → Option Tok → List ℕ → Bool
is_value_word second before text = begins_value second before && is_among value_words text

abbrev pub is_bracket_word : Option Tok → List ℕ → Bool
is_bracket_word before text = stands_behind 91 before && is_among bracket_words text

abbrev pub is_list_word : Option Tok → List ℕ → Bool
is_list_word before text = stands_behind 44 before && is_among list_words text

-- a word is left out, where `before` is the token before it and `second` the one before that
abbrev pub is_left_out_word : Option Tok → Option Tok → List ℕ → Bool
is_left_out_word second before text =
    has_beginning text || (is_part_word before text || (is_value_word second before text || (is_bracket_word before text || is_list_word before text)))

-- the token is a word that is left out
abbrev pub is_left_out : Option Tok → Option Tok → Tok → Bool
is_left_out second before tok = is_word_kind tok.kind && is_left_out_word second before tok.text

-- the token at a place is a word that is left out
abbrev pub is_left_out_at : List Tok → ℕ → Bool
is_left_out_at toks place = passes_there (is_left_out (second_before toks place) (token_before toks place)) (slice_get toks place)
