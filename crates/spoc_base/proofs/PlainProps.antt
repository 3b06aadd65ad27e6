-- That a set of transports is plain is shown in one way at most.
use Rattle.std.specs.Prelude.{ℕ, Option, Some, None}
use Rattle.std.proofs.Props.{props}
use Rattle.spoc_base.specs.Boxes.{TransportBox, AnyTransport, TcpPorts, UdpPorts, IcmpTypes, ProtocolNumber}
use Rattle.spoc_base.specs.PlainSets.{IsByteAsked, IsBox, IsProperSet, IsUnmarked}

pub byte_prop : (o : Option ℕ) → IsProp (IsByteAsked o)
byte_prop None = Prim.hlevel props
byte_prop (Some n) = Prim.hlevel props

pub box_prop : (t : TransportBox) → IsProp (IsBox t)
box_prop AnyTransport = Prim.hlevel props
box_prop (TcpPorts src dst established) = Prim.hlevel props
box_prop (UdpPorts src dst) = Prim.hlevel props
box_prop (IcmpTypes kind code) = Prim.hlevel (props, byte_prop)
box_prop (ProtocolNumber n) = Prim.hlevel props

pub set_prop : (t : TransportBox) → IsProp (IsProperSet t)
set_prop AnyTransport = Prim.hlevel props
set_prop (TcpPorts src dst established) = Prim.hlevel props
set_prop (UdpPorts src dst) = Prim.hlevel props
set_prop (IcmpTypes None None) = Prim.hlevel props
set_prop (IcmpTypes None (Some c)) = Prim.hlevel props
set_prop (IcmpTypes (Some k) code) = Prim.hlevel props
set_prop (ProtocolNumber n) = Prim.hlevel props

pub unmarked_prop : (t : TransportBox) → IsProp (IsUnmarked t)
unmarked_prop AnyTransport = Prim.hlevel props
unmarked_prop (TcpPorts src dst established) = Prim.hlevel props
unmarked_prop (UdpPorts src dst) = Prim.hlevel props
unmarked_prop (IcmpTypes kind code) = Prim.hlevel props
unmarked_prop (ProtocolNumber n) = Prim.hlevel props
