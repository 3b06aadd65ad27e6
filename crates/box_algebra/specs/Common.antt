-- What a difference of ports asks.
use Rattle.std.specs.Prelude.{◌≡◌, true}
use Rattle.spoc_base.specs.Address.{interval_meets}
use Rattle.spoc_base.specs.Boxes.{TransportBox, TcpPorts, UdpPorts}

-- where both sets have ports of one protocol, they have source ports in common
abbrev pub HaveCommonPorts : TransportBox → TransportBox → Type 0
HaveCommonPorts (TcpPorts src dst established) (TcpPorts s d e) = interval_meets src s ≡ true
HaveCommonPorts (UdpPorts src dst) (UdpPorts s d) = interval_meets src s ≡ true
HaveCommonPorts a b = Unit {0}
