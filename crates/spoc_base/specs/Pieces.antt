-- Sets of headers as boxes, and what is left of one box without another: the pieces, in their order.
use Rattle.std.specs.Prelude.{ℕ, ◌+◌, ◌-◌, Bool, true, false, ◌&&◌, ◌==◌, nat_lt, if◌then◌else◌, List, [], ◌∷◌, ◌++◌, map, flat_map, Option, Some, None}
use Rattle.std.specs.List.{range_with_len}
use Rattle.spoc_base.specs.Address.{Interval, interval_meets}
use Rattle.spoc_base.specs.Boxes.{TransportBox, AnyTransport, TcpPorts, UdpPorts, IcmpTypes, ProtocolNumber, all_ports, box_covers, box_meets}

-- the sources of one range, the destinations of another, and a set of transports
pub record HeaderBox : Type 0 where
  pub src : Interval
  pub dst : Interval
  pub transport : TransportBox

-- part by part, the two meet
abbrev pub header_box_meets : HeaderBox → HeaderBox → Bool
header_box_meets a b = interval_meets a.src b.src && interval_meets a.dst b.dst && box_meets a.transport b.transport

-- Of two ranges that meet: the part of the first that lies below the second.
abbrev pub below : Interval → Interval → Option Interval
below a b = if nat_lt a.first b.first then Some (record { first = a.first; last = b.first - 1 }) else None

-- the part of the first that lies above the second
abbrev pub above : Interval → Interval → Option Interval
above a b = if nat_lt b.last a.last then Some (record { first = b.last + 1; last = a.last }) else None

-- the numbers of both
abbrev pub common : Interval → Interval → Interval
common a b = record { first = if nat_lt a.first b.first then b.first else a.first; last = if nat_lt b.last a.last then b.last else a.last }

abbrev pub listed : {A : Type 0} → Option A → List A
listed None = []
listed (Some x) = x ∷ []

-- the numbers of the first that the second lacks: those below it, then those above
abbrev pub outside : Interval → Interval → List Interval
outside a b = listed (below a b) ++ listed (above a b)

-- A range of sources with one of destinations, without another such pair: the sources that it lacks, then with the common sources the destinations that it lacks.
abbrev pub pairs_left : Interval → Interval → Interval → Interval → List (Interval × Interval)
pairs_left src dst s d = map (λ x. (x, dst)) (outside src s) ++ map (λ y. (common src s, y)) (outside dst d)

-- the types and codes of ICMP
unfoldable pub all_bytes : List ℕ
all_bytes = range_with_len 0 256

-- the numbers of protocols
unfoldable pub all_protocols : List ℕ
all_protocols = range_with_len 1 255

-- the code of the ICMP type, unless it is the one that is taken away
abbrev pub other_code : ℕ → ℕ → ℕ → List TransportBox
other_code kind code n = if n == code then [] else IcmpTypes (Some kind) (Some n) ∷ []

-- Of the ICMP type without the code: each other code. Nothing is left where no code is given.
abbrev pub codes_left : ℕ → Option ℕ → List TransportBox
codes_left kind None = []
codes_left kind (Some code) = flat_map (other_code kind code) all_bytes

-- the whole ICMP type n, or in the place of the one that is taken away its codes that are left
abbrev pub kind_left : ℕ → Option ℕ → ℕ → List TransportBox
kind_left kind code n = if n == kind then codes_left n code else IcmpTypes (Some n) None ∷ []

-- of ICMP without ICMP, by the types of both and the code of the second
abbrev pub types_left : Option ℕ → Option ℕ → Option ℕ → List TransportBox
types_left (Some kind) k code = codes_left kind code
types_left None None code = []
types_left None (Some k) code = flat_map (kind_left k code) all_bytes

-- of two sets of one protocol
abbrev pub protocol_left : TransportBox → TransportBox → List TransportBox
protocol_left (TcpPorts src dst established) (TcpPorts s d e) = map (λ p. TcpPorts p.0 p.1 established) (pairs_left src dst s d)
protocol_left (UdpPorts src dst) (UdpPorts s d) = map (λ p. UdpPorts p.0 p.1) (pairs_left src dst s d)
protocol_left (IcmpTypes kind code) (IcmpTypes k c) = types_left kind k c
protocol_left a b = []

-- the number of the set's protocol, 0 where it has all of them
abbrev pub protocol_of : TransportBox → ℕ
protocol_of AnyTransport = 0
protocol_of (TcpPorts src dst established) = 6
protocol_of (UdpPorts src dst) = 17
protocol_of (IcmpTypes kind code) = 1
protocol_of (ProtocolNumber n) = n

abbrev pub whole_protocol : ℕ → TransportBox
whole_protocol n =
    if n == 1 then IcmpTypes None None else if n == 6 then TcpPorts all_ports all_ports false else if n == 17 then UdpPorts all_ports all_ports else ProtocolNumber n

-- of the whole protocol
abbrev pub whole_left : TransportBox → ℕ → List TransportBox
whole_left b n = if n == protocol_of b then protocol_left (whole_protocol n) b else whole_protocol n ∷ []

abbrev pub some_left : TransportBox → TransportBox → List TransportBox
some_left AnyTransport b = flat_map (whole_left b) all_protocols
some_left a b = protocol_left a b

-- Of two sets that meet: nothing of a set that the second covers, of all transports each protocol in turn, and else what is left of the protocol.
abbrev pub transports_left : TransportBox → TransportBox → List TransportBox
transports_left a b = if box_covers b a then [] else some_left a b

abbrev pub box_between : Interval → Interval → TransportBox → HeaderBox
box_between src dst transport = record { src = src; dst = dst; transport = transport }

-- the pieces that lack the second's sources or destinations
abbrev pub sides_left : HeaderBox → HeaderBox → List HeaderBox
sides_left a b = map (λ p. box_between p.0 p.1 a.transport) (pairs_left a.src a.dst b.src b.dst)

-- Of two boxes that meet: the sides, then with the common sources and destinations the transports that are left.
abbrev pub pieces_left : HeaderBox → HeaderBox → List HeaderBox
pieces_left a b = sides_left a b ++ map (box_between (common a.src b.src) (common a.dst b.dst)) (transports_left a.transport b.transport)

-- the first box without the second, in pieces
abbrev pub difference : HeaderBox → HeaderBox → List HeaderBox
difference a b = if header_box_meets a b then pieces_left a b else a ∷ []
