-- How numbers, addresses, prefixes, ranges and protocols are written, and what they say.
use Rattle.std.specs.Prelude.{ℕ, ◌+◌, ◌-◌, ◌*◌, Bool, false, not, ◌&&◌, ◌||◌, ◌==◌, nat_le, nat_lt, List, [], ◌∷◌, length, take, drop, fold, flat_map, position, Option, Some, None, option_map, option_and_then, if◌then◌else◌}
use Rattle.std.specs.List.{list_all}
use Rattle.spoc_base.specs.Address.{Cidr, Interval}
use Rattle.spoc_base.specs.Boxes.{TransportBox, AnyTransport, TcpPorts, UdpPorts, IcmpTypes, ProtocolNumber}
use Rattle.policy_model.specs.Lists.{is_nothing, has}
use Rattle.spoc_ast.specs.Written.{Lexeme, SimpleText, SimpleIp, SimpleTcp, SimpleUdp, SimpleIcmp, SimpleProto}

abbrev pub is_digit : ℕ → Bool
is_digit b = nat_le 48 b && nat_le b 57

-- a zero with something behind it
abbrev pub has_leading_zero : List ℕ → Bool
has_leading_zero [] = false
has_leading_zero (b ∷ []) = false
has_leading_zero (b ∷ c ∷ rest) = b == 48

-- one to five digits without a leading zero
abbrev pub is_number : List ℕ → Bool
is_number text = not (is_nothing text) && nat_le (length text) 5 && list_all is_digit text && not (has_leading_zero text)

-- what decimal digits say
abbrev pub value_of : List ℕ → ℕ
value_of digits = fold (λ n b. 10 * n + (b - 48)) 0 digits

abbrev pub number_of : List ℕ → Option ℕ
number_of text = if is_number text then Some (value_of text) else None

abbrev pub at_most : ℕ → ℕ → Option ℕ
at_most most n = if nat_le n most then Some n else None

-- a number from 0 to the most
abbrev pub number_to : ℕ → List ℕ → Option ℕ
number_to most text = option_and_then (at_most most) (number_of text)

-- what stands before the first such byte and what behind it, where there is one
abbrev pub cut_at : ℕ → List ℕ → Option (List ℕ × List ℕ)
cut_at b text = option_map (λ i. (take i text, drop (i + 1) text)) (position (λ c. c == b) text)

abbrev pub cut_by : ℕ → List ℕ → {A : Type 0} → (List ℕ → List ℕ → Option A) → Option A
cut_by b text then_of = option_and_then (λ parts. then_of parts.0 parts.1) (cut_at b text)

-- the address of its four bytes
abbrev pub address_from : ℕ → ℕ → ℕ → ℕ → ℕ
address_from a b c d = 16777216 * a + 65536 * b + 256 * c + d

-- four numbers from 0 to 255 joined by `.`
abbrev pub address_of : List ℕ → Option ℕ
address_of text =
    cut_by 46 text (λ first rest. cut_by 46 rest (λ second rest. cut_by 46 rest (λ third fourth.
    option_and_then (λ a. option_and_then (λ b. option_and_then (λ c. option_map (λ d. address_from a b c d) (number_to 255 fourth)) (number_to 255 third)) (number_to 255 second)) (number_to 255 first))))

-- an address, `/` and a number from 0 to 32; a host bit may be set
abbrev pub prefix_of : List ℕ → Option Cidr
prefix_of text = cut_by 47 text (λ net len. option_and_then (λ a. option_map (λ n. record { net = a; len = n }) (number_to 32 len)) (address_of net))

-- the words over which something is spread, as one text
abbrev pub spread : List Lexeme → List ℕ
spread words = flat_map (λ w. w.text) words

abbrev pub both : {A : Type 0} → Option A → Option A → Option (A × A)
both a b = option_and_then (λ x. option_map (λ y. (x, y)) b) a

-- two addresses joined by `-`; the first may be the higher one
abbrev pub range_of : List ℕ → Option (ℕ × ℕ)
range_of text = cut_by 45 text (λ low high. both (address_of low) (address_of high))

-- `N` or `N-N`, as the two ends
abbrev pub ends_of : Option (List ℕ × List ℕ) → List ℕ → Option (ℕ × ℕ)
ends_of None text = option_map (λ n. (n, n)) (number_of text)
ends_of (Some parts) text = both (number_of parts.0) (number_of parts.1)

abbrev pub ports_of : List ℕ → Option (ℕ × ℕ)
ports_of text = ends_of (cut_at 45 text) text

-- source and destination ports: both behind and before a `:`, or the destination alone; nothing written means all
abbrev pub two_of : Option (List ℕ × List ℕ) → List ℕ → Option ((ℕ × ℕ) × (ℕ × ℕ))
two_of None text = option_map (λ d. ((0, 65535), d)) (ports_of text)
two_of (Some parts) text = both (ports_of parts.0) (ports_of parts.1)

abbrev pub port_pair_of : List ℕ → Option ((ℕ × ℕ) × (ℕ × ℕ))
port_pair_of text = if is_nothing text then Some ((0, 65535), (0, 65535)) else two_of (cut_at 58 text) text

-- a type, with a code behind `/` where there is one
abbrev pub kind_of : Option (List ℕ × List ℕ) → List ℕ → Option (Option ℕ × Option ℕ)
kind_of None text = option_map (λ k. (Some k, None)) (number_of text)
kind_of (Some parts) text = option_map (λ both_numbers. (Some both_numbers.0, Some both_numbers.1)) (both (number_of parts.0) (number_of parts.1))

abbrev pub icmp_of : List ℕ → Option (Option ℕ × Option ℕ)
icmp_of text = if is_nothing text then Some (None, None) else kind_of (cut_at 47 text) text

-- ---- what is out of range in a protocol

-- an end is above 65535, or the first above the last
abbrev pub is_bad_range : ℕ × ℕ → Bool
is_bad_range r = nat_lt 65535 r.0 || (nat_lt 65535 r.1 || nat_lt r.1 r.0)

abbrev pub is_bad_number : Option ℕ → Bool
is_bad_number None = false
is_bad_number (Some n) = nat_lt 255 n

-- 0, 1, 6, 17 and what is above 255
abbrev pub is_bad_protocol : ℕ → Bool
is_bad_protocol n = nat_lt 255 n || has (0 ∷ 1 ∷ 6 ∷ 17 ∷ []) n

abbrev pub holds_of : {A : Type 0} → (A → Bool) → Option A → Bool
holds_of test None = false
holds_of test (Some x) = test x

abbrev pub is_bad_pair : List Lexeme → Bool
is_bad_pair words = holds_of (λ pair. is_bad_range pair.0 || is_bad_range pair.1) (port_pair_of (spread words))

-- a port above 65535, a reversed range of ports, an ICMP number above 255, or a protocol number that may not be written
abbrev pub is_bad_simple : SimpleText → Bool
is_bad_simple SimpleIp = false
is_bad_simple (SimpleTcp words) = is_bad_pair words
is_bad_simple (SimpleUdp words) = is_bad_pair words
is_bad_simple (SimpleIcmp words) = holds_of (λ kind. is_bad_number kind.0 || is_bad_number kind.1) (icmp_of (spread words))
is_bad_simple (SimpleProto number) = holds_of is_bad_protocol (number_of number.text)

-- ---- what a protocol permits

abbrev pub interval_from : ℕ × ℕ → Interval
interval_from r = record { first = r.0; last = r.1 }

abbrev pub box_or_any : Option TransportBox → TransportBox
box_or_any None = AnyTransport
box_or_any (Some box) = box

abbrev pub box_in : SimpleText → TransportBox
box_in SimpleIp = AnyTransport
box_in (SimpleTcp words) = box_or_any (option_map (λ pair. TcpPorts (interval_from pair.0) (interval_from pair.1) false) (port_pair_of (spread words)))
box_in (SimpleUdp words) = box_or_any (option_map (λ pair. UdpPorts (interval_from pair.0) (interval_from pair.1)) (port_pair_of (spread words)))
box_in (SimpleIcmp words) = box_or_any (option_map (λ kind. IcmpTypes kind.0 kind.1) (icmp_of (spread words)))
box_in (SimpleProto number) = box_or_any (option_map ProtocolNumber (number_of number.text))
