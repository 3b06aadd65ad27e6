-- The words of a line: addresses, prefixes, protocols and ports.
use Rattle.std.specs.Prelude.{ℕ, ◌-◌, ◌/◌, ◌%◌, ◌^◌, Bool, true, false, ◌&&◌, ◌==◌, List, [], ◌++◌, Option, Some, None, if◌then◌else◌, codes}
use Rattle.std.specs.Fmt.{decimal}
use Rattle.spoc_base.specs.Address.{Cidr, Interval, size_of}
use Rattle.spoc_base.specs.Boxes.{TransportBox, AnyTransport, TcpPorts, UdpPorts, IcmpTypes, ProtocolNumber}
use Rattle.spoc_base.specs.declared.dialect.Dialect.{Dialect}
use Rattle.spoc_base.specs.declared.dialect.Dialect.TheVariants.{Ios, Asa}

-- four decimals joined by `.`, the highest byte first
unfoldable pub dotted : ℕ → List ℕ
dotted a = decimal (a / 16777216) ++ codes "." ++ decimal (a / 65536 % 256) ++ codes "." ++ decimal (a / 256 % 256) ++ codes "." ++ decimal (a % 256)

-- the bits in which the addresses of a prefix differ
abbrev pub wildcard_of : Cidr → ℕ
wildcard_of p = size_of p - 1

-- the bits that its addresses share
abbrev pub netmask_of : Cidr → ℕ
netmask_of p = 2 ^ 32 - size_of p

-- an access list of IOS tells the bits that differ, and one of ASA those that are shared
abbrev pub mask_in : Dialect → Cidr → ℕ
mask_in Ios p = wildcard_of p
mask_in Asa p = netmask_of p

-- a network with its netmask, as 10.1.1.0 255.255.255.0
abbrev pub network_text : Cidr → List ℕ
network_text p = dotted p.net ++ codes " " ++ dotted (netmask_of p)

abbrev pub host_text : ℕ → List ℕ
host_text a = codes "host " ++ dotted a

-- the addresses of a prefix in an access list
unfoldable pub prefix_text : Dialect → Cidr → List ℕ
prefix_text dialect p =
    if p.len == 0 then codes "any"
    else if p.len == 32 then host_text p.net
    else dotted p.net ++ codes " " ++ dotted (mask_in dialect p)

abbrev pub action_text : Bool → List ℕ
action_text true = codes "permit "
action_text false = codes "deny "

abbrev pub protocol_text : TransportBox → List ℕ
protocol_text AnyTransport = codes "ip "
protocol_text (TcpPorts src dst established) = codes "tcp "
protocol_text (UdpPorts src dst) = codes "udp "
protocol_text (IcmpTypes kind code) = codes "icmp "
protocol_text (ProtocolNumber number) = decimal number ++ codes " "

-- nothing for all ports
unfoldable pub ports_text : Interval → List ℕ
ports_text r =
    if (r.first == 0) && (r.last == 65535) then []
    else if r.first == r.last then codes " eq " ++ decimal r.first
    else codes " range " ++ decimal r.first ++ codes " " ++ decimal r.last

-- nothing for any number
abbrev pub number_text : Option ℕ → List ℕ
number_text None = []
number_text (Some n) = codes " " ++ decimal n

-- what stands behind the source
abbrev pub source_ports : TransportBox → List ℕ
source_ports (TcpPorts src dst established) = ports_text src
source_ports (UdpPorts src dst) = ports_text src
source_ports _ = []

-- what stands behind the destination
abbrev pub other_ports : TransportBox → List ℕ
other_ports (TcpPorts src dst established) = ports_text dst
other_ports (UdpPorts src dst) = ports_text dst
other_ports (IcmpTypes kind code) = number_text kind ++ number_text code
other_ports _ = []

-- an ASA keeps state and has no such word
abbrev pub mark_text : Dialect → TransportBox → List ℕ
mark_text Ios (TcpPorts src dst true) = codes " established"
mark_text _ _ = []

-- the name of the list that filters what comes in at an interface
abbrev pub list_name : List ℕ → List ℕ
list_name hardware = hardware ++ codes "_in"
