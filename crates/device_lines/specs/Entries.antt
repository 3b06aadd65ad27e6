-- The words of an entry, read one after the other.
use Rattle.std.specs.Prelude.{ℕ, ◌-◌, ◌%◌, ◌^◌, Bool, true, false, not, ◌&&◌, ◌||◌, ◌==◌, nat_lt, bytes_eq, codes, List, [], ◌∷◌, Option, Some, None, option_map, option_and_then, if◌then◌else◌}
use Rattle.std.specs.List.{list_all}
use Rattle.spoc_base.specs.Address.{Cidr, Interval, any_address}
use Rattle.spoc_base.specs.Boxes.{TransportBox, AnyTransport, TcpPorts, UdpPorts, IcmpTypes, ProtocolNumber, all_ports}
use Rattle.spoc_base.specs.Spelling.{is_word_byte}
use Rattle.spoc_base.specs.declared.dialect.Dialect.{Dialect}
use Rattle.spoc_base.specs.declared.dialect.Dialect.TheVariants.{Ios, Asa}
use Rattle.policy_model.specs.Lists.{is_nothing}
use Rattle.acl_print.specs.Words.{mask_in}
use Rattle.device_reading.specs.Facts.{End, OnePrefix, NamedGroup, Entry}
use Rattle.text_laws.proofs.EntryRead.{length_in}
use Rattle.device_lines.specs.Numbers.{number_to, address_of}

-- something, and the words behind it
abbrev pub Taken : Type 0 → Type 0
Taken A = Option (A × List (List ℕ))

abbrev pub first_word : List (List ℕ) → Taken (List ℕ)
first_word [] = None
first_word (w ∷ ws) = Some (w, ws)

-- the word, where nothing stands behind it
abbrev pub only_word : List (List ℕ) → Option (List ℕ)
only_word ws = option_and_then (λ r. if is_nothing r.1 then Some r.0 else None) (first_word ws)

abbrev pub if_nothing : {A : Type 0} → List (List ℕ) → A → Option A
if_nothing ws x = if is_nothing ws then Some x else None

abbrev pub is_name : List ℕ → Bool
is_name name = not (is_nothing name) && list_all is_word_byte name

-- how long the prefixes are that have this mask
abbrev pub mask_length : Dialect → ℕ → Option ℕ
mask_length dialect m = if mask_in dialect (record { net = 0; len = length_in dialect m }) == m then Some (length_in dialect m) else None

-- a prefix of length 1 to 31 with no host bit
abbrev pub inner_prefix : ℕ → ℕ → Option Cidr
inner_prefix net len = if nat_lt 0 len && nat_lt len 32 && (net % 2 ^ (32 - len) == 0) then Some (record { net = net; len = len }) else None

abbrev pub masked : Dialect → ℕ → ℕ → Option Cidr
masked dialect net m = option_and_then (inner_prefix net) (mask_length dialect m)

abbrev pub take_host : List (List ℕ) → Taken Cidr
take_host ws = option_and_then (λ r. option_map (λ net. (record { net = net; len = 32 }, r.1)) (address_of r.0)) (first_word ws)

abbrev pub take_masked : Dialect → List ℕ → List (List ℕ) → Taken Cidr
take_masked dialect a ws =
    option_and_then (λ r. option_and_then (λ net. option_and_then (λ mask. option_map (λ p. (p, r.1)) (masked dialect net mask)) (address_of r.0)) (address_of a)) (first_word ws)

abbrev pub prefix_behind : Dialect → List ℕ → List (List ℕ) → Taken Cidr
prefix_behind dialect w ws =
    if bytes_eq w (codes "any") then Some (any_address, ws) else if bytes_eq w (codes "host") then take_host ws else take_masked dialect w ws

abbrev pub take_prefix : Dialect → List (List ℕ) → Taken Cidr
take_prefix dialect ws = option_and_then (λ r. prefix_behind dialect r.0 r.1) (first_word ws)

abbrev pub take_group : List (List ℕ) → Taken End
take_group ws = option_and_then (λ r. if is_name r.0 then Some (NamedGroup r.0 [], r.1) else None) (first_word ws)

abbrev pub has_groups : Dialect → Bool
has_groups Ios = false
has_groups Asa = true

abbrev pub end_behind : Dialect → List ℕ → List (List ℕ) → Taken End
end_behind dialect w ws =
    if has_groups dialect && bytes_eq w (codes "object-group") then take_group ws else option_map (λ r. (OnePrefix r.0, r.1)) (prefix_behind dialect w ws)

abbrev pub take_end : Dialect → List (List ℕ) → Taken End
take_end dialect ws = option_and_then (λ r. end_behind dialect r.0 r.1) (first_word ws)

abbrev pub take_one : List (List ℕ) → Taken Interval
take_one ws = option_and_then (λ r. option_map (λ n. (record { first = n; last = n }, r.1)) (number_to 65535 r.0)) (first_word ws)

abbrev pub proper_range : ℕ → ℕ → Option Interval
proper_range m n = if nat_lt m n && not ((m == 0) && (n == 65535)) then Some (record { first = m; last = n }) else None

abbrev pub take_two : List (List ℕ) → Taken Interval
take_two ws =
    option_and_then (λ a. option_and_then (λ b. option_and_then (λ m. option_and_then (λ n. option_map (λ r. (r, b.1)) (proper_range m n)) (number_to 65535 b.0)) (number_to 65535 a.0)) (first_word a.1)) (first_word ws)

abbrev pub ports_behind : List (List ℕ) → Taken (List ℕ) → Taken Interval
ports_behind ws None = Some (all_ports, ws)
ports_behind ws (Some r) = if bytes_eq r.0 (codes "eq") then take_one r.1 else if bytes_eq r.0 (codes "range") then take_two r.1 else Some (all_ports, ws)

-- the ports that stand before other words, and all ports where none stand there
abbrev pub take_ports : List (List ℕ) → Taken Interval
take_ports ws = ports_behind ws (first_word ws)

abbrev pub has_ports : List ℕ → Bool
has_ports protocol = bytes_eq protocol (codes "tcp") || bytes_eq protocol (codes "udp")

abbrev pub take_source : List ℕ → List (List ℕ) → Taken Interval
take_source protocol ws = if has_ports protocol then take_ports ws else Some (all_ports, ws)

abbrev pub has_mark : Dialect → Bool
has_mark Ios = true
has_mark Asa = false

abbrev pub marked : Dialect → List ℕ → Option Bool
marked dialect w = if has_mark dialect && bytes_eq w (codes "established") then Some true else None

-- the mark of established segments, or nothing
abbrev pub mark_in : Dialect → List (List ℕ) → Option Bool
mark_in dialect ws = if is_nothing ws then Some false else option_and_then (marked dialect) (only_word ws)

abbrev pub tcp_in : Dialect → Interval → List (List ℕ) → Option TransportBox
tcp_in dialect src ws = option_and_then (λ r. option_map (TcpPorts src r.0) (mark_in dialect r.1)) (take_ports ws)

abbrev pub udp_in : Interval → List (List ℕ) → Option TransportBox
udp_in src ws = option_and_then (λ r. if_nothing r.1 (UdpPorts src r.0)) (take_ports ws)

abbrev pub code_in : ℕ → List (List ℕ) → Option TransportBox
code_in kind ws = if is_nothing ws then Some (IcmpTypes (Some kind) None) else option_and_then (λ w. option_map (λ m. IcmpTypes (Some kind) (Some m)) (number_to 255 w)) (only_word ws)

abbrev pub icmp_in : List (List ℕ) → Option TransportBox
icmp_in ws = if is_nothing ws then Some (IcmpTypes None None) else option_and_then (λ r. option_and_then (λ n. code_in n r.1) (number_to 255 r.0)) (first_word ws)

abbrev pub is_other : ℕ → Bool
is_other n = not (n == 0) && not (n == 1) && not (n == 6) && not (n == 17)

abbrev pub other_in : List ℕ → List (List ℕ) → Option TransportBox
other_in protocol ws = option_and_then (λ n. if is_other n then if_nothing ws (ProtocolNumber n) else None) (number_to 255 protocol)

-- the transport, by the protocol, the source ports and what stands behind the destination
abbrev pub box_in : Dialect → List ℕ → Interval → List (List ℕ) → Option TransportBox
box_in dialect protocol src ws =
    if bytes_eq protocol (codes "ip") then if_nothing ws AnyTransport
    else if bytes_eq protocol (codes "tcp") then tcp_in dialect src ws
    else if bytes_eq protocol (codes "udp") then udp_in src ws
    else if bytes_eq protocol (codes "icmp") then icmp_in ws
    else other_in protocol ws

abbrev pub action_in : List ℕ → Option Bool
action_in w = if bytes_eq w (codes "permit") then Some true else if bytes_eq w (codes "deny") then Some false else None

abbrev pub behind_protocol : Dialect → Bool → List ℕ → List (List ℕ) → Option Entry
behind_protocol dialect permit protocol ws =
    option_and_then (λ s. option_and_then (λ p. option_and_then (λ d.
    option_map (λ b. record { permit = permit; src = s.0; dst = d.0; box = b }) (box_in dialect protocol p.0 d.1))
    (take_end dialect p.1)) (take_source protocol s.1)) (take_end dialect ws)

-- an entry by its action and the words behind that
abbrev pub entry_behind : Dialect → List ℕ → List (List ℕ) → Option Entry
entry_behind dialect action ws =
    option_and_then (λ permit. option_and_then (λ r. behind_protocol dialect permit r.0 r.1) (first_word ws)) (action_in action)

abbrev pub read_entry : Dialect → List (List ℕ) → Option Entry
read_entry dialect ws = option_and_then (λ r. entry_behind dialect r.0 r.1) (first_word ws)
