-- The declarations of the code and their parts, as plain ones.
use Rattle.std.specs.Prelude.{◌≡◌, ℕ, List, map}
use Rattle.std.specs.List.{AllZip}
use Rattle.spoc_ast.specs.declared.word.Word.{Word}
use Rattle.spoc_ast.specs.declared.set.SetTree.{SetTree}
use Rattle.spoc_ast.specs.declared.decl.Idle.{Idle}
use Rattle.spoc_ast.specs.declared.decl.HostPart.{HostPart}
use Rattle.spoc_ast.specs.declared.decl.NatPart.{NatPart}
use Rattle.spoc_ast.specs.declared.decl.NetPart.{NetPart}
use Rattle.spoc_ast.specs.declared.decl.VirtPart.{VirtPart}
use Rattle.spoc_ast.specs.declared.decl.IfPart.{IfPart}
use Rattle.spoc_ast.specs.declared.decl.RoutPart.{RoutPart}
use Rattle.spoc_ast.specs.declared.decl.AreaPart.{AreaPart}
use Rattle.spoc_ast.specs.declared.decl.AnyPart.{AnyPart}
use Rattle.spoc_ast.specs.declared.decl.Simple.{Simple}
use Rattle.spoc_ast.specs.declared.decl.Prt.{Prt}
use Rattle.spoc_ast.specs.declared.decl.RuleTree.{RuleTree}
use Rattle.spoc_ast.specs.declared.decl.Decl.{Decl}
use Rattle.spoc_ast.specs.declared.decl.HostPart.TheVariants as HostParts
use Rattle.spoc_ast.specs.declared.decl.NatPart.TheVariants as NatParts
use Rattle.spoc_ast.specs.declared.decl.NetPart.TheVariants as NetParts
use Rattle.spoc_ast.specs.declared.decl.VirtPart.TheVariants as VirtParts
use Rattle.spoc_ast.specs.declared.decl.IfPart.TheVariants as IfParts
use Rattle.spoc_ast.specs.declared.decl.RoutPart.TheVariants as RoutParts
use Rattle.spoc_ast.specs.declared.decl.AreaPart.TheVariants as AreaParts
use Rattle.spoc_ast.specs.declared.decl.AnyPart.TheVariants as AnyParts
use Rattle.spoc_ast.specs.declared.decl.Simple.TheVariants as Simples
use Rattle.spoc_ast.specs.declared.decl.Prt.TheVariants as Prts
use Rattle.spoc_ast.specs.declared.decl.Decl.TheVariants as Decls
use Rattle.spoc_parser.specs.Trees.{Lexeme, IdleItem, HostItem, host_ip, host_range, host_idle, NatItem, nat_ip, nat_hidden, NetItem, net_ip, net_host, net_nat, net_idle, VirtItem, virt_ip, virt_kind, virt_id, IfaceItem, iface_ip, iface_hardware, iface_bind_nat, iface_virtual, iface_idle, RouterItem, router_managed, router_model, router_routing, router_iface, router_idle, AreaItem, area_anchor, area_border, area_idle, AnyItem, any_link, any_ip, any_idle, Proto, proto_ip, proto_tcp, proto_udp, proto_icmp, proto_number, ProtoItem, one_proto, a_protocol, a_protogroup, RuleOf, DeclOf, network_decl, router_decl, group_decl, area_decl, aggregate_decl, protocol_decl, protogroup_decl, restriction_decl, service_decl}
use Rattle.spoc_parser.specs.Seen.{IsWord, IsPort, IsPerhaps}

abbrev pub AreWords : ℕ → List Lexeme → List Word → Type 0
AreWords file = AllZip (IsWord file)

-- the bytes of words
abbrev pub written : List Word → List (List ℕ)
written words = map (λ (word : Word). word.text.now) words

abbrev pub IsIdle : ℕ → IdleItem → Idle → Type 0
IsIdle file item idle = IsWord file item.key idle.key × AreWords file item.values idle.values.now

abbrev pub IsHostItem : ℕ → HostItem → HostPart → Type 0
IsHostItem file (host_ip address) (HostParts.Ip word) = IsWord file address word
IsHostItem file (host_range range) (HostParts.Range words) = AreWords file range words.now
IsHostItem file (host_idle item) (HostParts.Idle idle) = IsIdle file item idle
IsHostItem file item part = ⊥

abbrev pub IsNatItem : ℕ → NatItem → NatPart → Type 0
IsNatItem file (nat_ip prefix) (NatParts.Ip word) = IsWord file prefix word
IsNatItem file nat_hidden NatParts.Hidden = Unit {0}
IsNatItem file item part = ⊥

abbrev pub IsNetItem : ℕ → NetItem → NetPart → Type 0
IsNetItem file (net_ip prefix) (NetParts.Ip word) = IsWord file prefix word
IsNetItem file (net_host name items) (NetParts.Host word parts) = IsWord file name word × AllZip (IsHostItem file) items parts.now
IsNetItem file (net_nat tag items) (NetParts.Nat word parts) = IsWord file tag word × AllZip (IsNatItem file) items parts.now
IsNetItem file (net_idle item) (NetParts.Idle idle) = IsIdle file item idle
IsNetItem file item part = ⊥

abbrev pub IsVirtItem : ℕ → VirtItem → VirtPart → Type 0
IsVirtItem file (virt_ip address) (VirtParts.Ip word) = IsWord file address word
IsVirtItem file (virt_kind name) (VirtParts.Kind word) = IsWord file name word
IsVirtItem file (virt_id number) (VirtParts.Id word) = IsWord file number word
IsVirtItem file item part = ⊥

abbrev pub IsIfaceItem : ℕ → IfaceItem → IfPart → Type 0
IsIfaceItem file (iface_ip address) (IfParts.Ip word) = IsWord file address word
IsIfaceItem file (iface_hardware name) (IfParts.Hardware word) = IsWord file name word
IsIfaceItem file (iface_bind_nat tags) (IfParts.BindNat words) = AreWords file tags words.now
IsIfaceItem file (iface_virtual items) (IfParts.Virtual parts) = AllZip (IsVirtItem file) items parts.now
IsIfaceItem file (iface_idle item) (IfParts.Idle idle) = IsIdle file item idle
IsIfaceItem file item part = ⊥

abbrev pub IsRouterItem : ℕ → RouterItem → RoutPart → Type 0
IsRouterItem file (router_managed filter) (RoutParts.Managed word) = IsPerhaps (IsWord file) filter word
IsRouterItem file (router_model name) (RoutParts.Model word) = IsWord file name word
IsRouterItem file (router_routing name) (RoutParts.Routing word) = IsWord file name word
IsRouterItem file (router_iface net items) (RoutParts.Iface word parts) = IsWord file net word × AllZip (IsIfaceItem file) items parts.now
IsRouterItem file (router_idle item) (RoutParts.Idle idle) = IsIdle file item idle
IsRouterItem file item part = ⊥

abbrev pub IsAreaItem : ℕ → AreaItem → AreaPart → Type 0
IsAreaItem file (area_anchor net) (AreaParts.Anchor word) = IsWord file net word
IsAreaItem file (area_border items) (AreaParts.Border ports) = AllZip (IsPort file) items ports.now
IsAreaItem file (area_idle item) (AreaParts.Idle idle) = IsIdle file item idle
IsAreaItem file item part = ⊥

abbrev pub IsAnyItem : ℕ → AnyItem → AnyPart → Type 0
IsAnyItem file (any_link net) (AnyParts.Link word) = IsWord file net word
IsAnyItem file (any_ip prefix) (AnyParts.Ip word) = IsWord file prefix word
IsAnyItem file (any_idle item) (AnyParts.Idle idle) = IsIdle file item idle
IsAnyItem file item part = ⊥

abbrev pub IsProto : ℕ → Proto → Simple → Type 0
IsProto file proto_ip Simples.Ip = Unit {0}
IsProto file (proto_tcp ports) (Simples.Tcp words) = AreWords file ports words.now
IsProto file (proto_udp ports) (Simples.Udp words) = AreWords file ports words.now
IsProto file (proto_icmp kind) (Simples.Icmp words) = AreWords file kind words.now
IsProto file (proto_number number) (Simples.Proto word) = IsWord file number word
IsProto file proto simple = ⊥

abbrev pub IsProtoItem : ℕ → ProtoItem → Prt → Type 0
IsProtoItem file (one_proto proto) (Prts.Simple simple) = IsProto file proto simple
IsProtoItem file (a_protocol name) (Prts.Protocol word) = IsWord file name word
IsProtoItem file (a_protogroup name) (Prts.Group word) = IsWord file name word
IsProtoItem file item prt = ⊥

abbrev pub IsRule : {S : Type 0} → ℕ → (S → SetTree → Type 0) → RuleOf S → RuleTree → Type 0
IsRule file R rule tree = (tree.deny ≡ rule.deny) × R rule.src tree.src × R rule.dst tree.dst × AllZip (IsProtoItem file) rule.prts tree.prts.now

abbrev pub IsDecl : {S : Type 0} → ℕ → (S → SetTree → Type 0) → DeclOf S → Decl → Type 0
IsDecl file R (network_decl name desc items) (Decls.Network word text parts) = IsWord file name word × IsPerhaps (IsWord file) desc text × AllZip (IsNetItem file) items parts.now
IsDecl file R (router_decl name desc items) (Decls.Router word text parts) = IsWord file name word × IsPerhaps (IsWord file) desc text × AllZip (IsRouterItem file) items parts.now
IsDecl file R (group_decl name desc objects) (Decls.Group word text set) = IsWord file name word × IsPerhaps (IsWord file) desc text × IsPerhaps R objects set
IsDecl file R (area_decl name desc items) (Decls.Area word text parts) = IsWord file name word × IsPerhaps (IsWord file) desc text × AllZip (IsAreaItem file) items parts.now
IsDecl file R (aggregate_decl name desc items) (Decls.Aggregate word text parts) = IsWord file name word × IsPerhaps (IsWord file) desc text × AllZip (IsAnyItem file) items parts.now
IsDecl file R (protocol_decl name proto notes) (Decls.Protocol word simple words) = IsWord file name word × IsProto file proto simple × AreWords file notes words.now
IsDecl file R (protogroup_decl name items) (Decls.ProtocolGroup word prts) = IsWord file name word × AllZip (IsProtoItem file) items prts.now
IsDecl file R (restriction_decl name desc items) (Decls.Restriction word text ports) = IsWord file name word × IsPerhaps (IsWord file) desc text × AllZip (IsPort file) items ports.now
IsDecl file R (service_decl name desc items users rules) (Decls.Service word text idle user trees) =
    IsWord file name word × IsPerhaps (IsWord file) desc text × AllZip (IsIdle file) items idle.now × R users user × AllZip (IsRule file R) rules trees.now
IsDecl file R item decl = ⊥
