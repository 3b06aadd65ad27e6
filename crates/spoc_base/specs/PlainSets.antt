-- Sets of transports whose numbers are in their ranges.
use Rattle.std.specs.Prelude.{◌≡◌, ℕ, ◌<◌, ◌≤◌, false, Option, Some, None}
use Rattle.spoc_base.specs.Address.{Interval}
use Rattle.spoc_base.specs.Boxes.{TransportBox, AnyTransport, TcpPorts, UdpPorts, IcmpTypes, ProtocolNumber, IsOtherProtocol}

abbrev pub IsPorts : Interval → Type 0
IsPorts r = (r.first ≤ r.last) × (r.last < 65536)

abbrev pub IsByteAsked : Option ℕ → Type 0
IsByteAsked None = Unit {0}
IsByteAsked (Some n) = n < 256

-- the numbers of a set of transports are in their ranges, and ascend
abbrev pub IsBox : TransportBox → Type 0
IsBox AnyTransport = Unit {0}
IsBox (TcpPorts src dst established) = IsPorts src × IsPorts dst
IsBox (UdpPorts src dst) = IsPorts src × IsPorts dst
IsBox (IcmpTypes kind code) = IsByteAsked kind × IsByteAsked code
IsBox (ProtocolNumber n) = IsOtherProtocol n

-- ICMP has no code where it has no kind, and a protocol's number is none that has a name of its own.
abbrev pub IsProperSet : TransportBox → Type 0
IsProperSet AnyTransport = Unit {0}
IsProperSet (TcpPorts src dst established) = Unit {0}
IsProperSet (UdpPorts src dst) = Unit {0}
IsProperSet (IcmpTypes None (Some c)) = ⊥
IsProperSet (IcmpTypes kind code) = Unit {0}
IsProperSet (ProtocolNumber n) = IsOtherProtocol n

-- the set doesn't ask for established segments alone
abbrev pub IsUnmarked : TransportBox → Type 0
IsUnmarked (TcpPorts src dst established) = established ≡ false
IsUnmarked _ = Unit {0}

-- the numbers are in their ranges, and the set is a proper one without the mark
pub record IsPlainSet (t : TransportBox) : Type 0 where
  pub box : IsBox t
  pub set : IsProperSet t
  pub unmarked : IsUnmarked t
