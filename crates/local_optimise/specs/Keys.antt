-- Lines by what they ask: a mask says which bits and fields, and a key says which values these have.
use Rattle.std.specs.Prelude.{ℕ, ◌/◌, ◌-◌, ◌^◌, Bool, true, false, ◌&&◌, ◌||◌, ◌==◌, if◌then◌else◌, nat_le, List, [], ◌∷◌, is_some, slice_index_or, ◌≡◌}
use Rattle.std.specs.List.{list_any}
use Rattle.std.specs.Option.{unwrap_or}
use Rattle.spoc_base.specs.Address.{Cidr, Interval, any_address}
use Rattle.spoc_base.specs.Boxes.{TransportBox, AnyTransport, TcpPorts, UdpPorts, IcmpTypes}
use Rattle.spoc_base.specs.Pieces.{protocol_of}
use Rattle.policy_model.specs.Filters.{Line, line_covers}
use Rattle.policy_model.specs.Optimised.{same_action}
use Rattle.local_optimise.specs.declared.keys.Mask.{Mask}
use Rattle.local_optimise.specs.declared.keys.Key.{Key}

-- the leading bits of the address, this many, as a number
abbrev pub leading_bits : ℕ → ℕ → ℕ
leading_bits len a = if len == 0 then 0 else a / 2 ^ (32 - len)

-- the length of an end's only prefix; an end with several asks for no bits
abbrev pub length_asked : List Cidr → ℕ
length_asked [] = 0
length_asked (p ∷ []) = p.len
length_asked (p ∷ q ∷ ps) = 0

-- the first prefix of an end
abbrev pub first_prefix : List Cidr → Cidr
first_prefix [] = any_address
first_prefix (p ∷ ps) = p

abbrev pub is_single : Interval → Bool
is_single r = nat_le r.last r.first

abbrev pub asks_protocol : TransportBox → Bool
asks_protocol AnyTransport = false
asks_protocol _ = true

-- one source port, or one type of ICMP
abbrev pub asks_first : TransportBox → Bool
asks_first (TcpPorts src dst established) = is_single src
asks_first (UdpPorts src dst) = is_single src
asks_first (IcmpTypes kind code) = is_some kind
asks_first _ = false

-- one destination port, or one code of ICMP
abbrev pub asks_second : TransportBox → Bool
asks_second (TcpPorts src dst established) = is_single dst
asks_second (UdpPorts src dst) = is_single dst
asks_second (IcmpTypes kind code) = is_some code
asks_second _ = false

-- the first source port, or the type of ICMP
abbrev pub first_value : TransportBox → ℕ
first_value (TcpPorts src dst established) = src.first
first_value (UdpPorts src dst) = src.first
first_value (IcmpTypes kind code) = unwrap_or kind 0
first_value _ = 0

-- the first destination port, or the code of ICMP
abbrev pub second_value : TransportBox → ℕ
second_value (TcpPorts src dst established) = dst.first
second_value (UdpPorts src dst) = dst.first
second_value (IcmpTypes kind code) = unwrap_or code 0
second_value _ = 0

-- what the line asks of headers, and whether it permits them
abbrev pub mask_of : Line → Mask
mask_of l = record {
  permit = l.permit;
  src = length_asked l.src;
  dst = length_asked l.dst;
  protocol = asks_protocol l.box;
  first = asks_first l.box;
  second = asks_second l.box;
}

-- the value where the mask asks for it, and 0 where it doesn't
abbrev pub where_asked : Bool → ℕ → ℕ
where_asked asked n = if asked then n else 0

-- the line's values of what the mask asks
abbrev pub key_by : Mask → Line → Key
key_by m l = record {
  mask = m;
  src = leading_bits m.src (first_prefix l.src).net;
  dst = leading_bits m.dst (first_prefix l.dst).net;
  protocol = where_asked m.protocol (protocol_of l.box);
  first = where_asked m.first (first_value l.box);
  second = where_asked m.second (second_value l.box);
}

-- a line lies under its values of what it asks itself
abbrev pub key_of : Line → Key
key_of l = key_by (mask_of l) l

-- the key of all lines of an action
abbrev pub action_key : Bool → Key
action_key permit = record {
  mask = record { permit = permit; src = 0; dst = 0; protocol = false; first = false; second = false };
  src = 0;
  dst = 0;
  protocol = 0;
  first = 0;
  second = 0;
}

-- the actions are one, unless any will do
abbrev pub suits : Bool → Bool → Bool → Bool
suits any a b = any || same_action a b

-- a line with this mask may cover the line: it has a fitting action, and its prefixes are no longer
abbrev pub may_cover : Bool → Line → Mask → Bool
may_cover any l m = suits any l.permit m.permit && nat_le m.src (first_prefix l.src).len && nat_le m.dst (first_prefix l.dst).len

-- a line of a fitting action covers the line
abbrev pub is_cover : Bool → Line → Line → Bool
is_cover any l m = suits any l.permit m.permit && line_covers m l

-- a stem of addresses: how many leading bits, and which
abbrev pub Stem : Type 0
Stem = ℕ × ℕ

abbrev pub same_stem : Stem → Stem → Bool
same_stem b c = (b.0 == c.0) && (b.1 == c.1)

abbrev pub has_stem : List Stem → Stem → Bool
has_stem stems b = list_any (same_stem b) stems

-- the stem that a line asks of sources, and of destinations
abbrev pub src_stem : Line → Stem
src_stem l = (length_asked l.src, leading_bits (length_asked l.src) (first_prefix l.src).net)

abbrev pub dst_stem : Line → Stem
dst_stem l = (length_asked l.dst, leading_bits (length_asked l.dst) (first_prefix l.dst).net)

-- whether the entry stands there, or there is none
abbrev pub may_be : List Bool → ℕ → Bool
may_be known len = slice_index_or known len true

-- where a list says false at a length, no stem of that length is the start of the address
abbrev pub TellsStems : List Stem → ℕ → List Bool → Type 0
TellsStems stems a known = (len : ℕ) → may_be known len ≡ false → has_stem stems (len, leading_bits len a) ≡ false
