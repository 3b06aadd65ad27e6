-- Each tree of the code is seen as what its plain tree says.
use Rattle.std.proofs.Common.{◌≡◌, ℕ, zero, suc, List, [], ◌∷◌, Some, None, refl, ap, ◌∙◌}
use Rattle.std.specs.Prelude.{map, option_map}
use Rattle.std.specs.List.{AllZip}
use Rattle.spoc_ast.specs.declared.set.SetTree.{SetTree, out-SetTree}
use Rattle.spoc_ast.specs.declared.set.InterTree.{out-InterTree}
use Rattle.spoc_ast.specs.declared.set.TermTree.{TermTree}
use Rattle.spoc_ast.specs.declared.set.TermTree.TheVariants as term_tree
use Rattle.spoc_ast.specs.declared.decl.Decl.{Decl}
use Rattle.spoc_ast.specs.declared.decl.File.{File}
use Rattle.spoc_ast.specs.declared.decl.HostPart.TheVariants as HostParts
use Rattle.spoc_ast.specs.declared.decl.NatPart.TheVariants as NatParts
use Rattle.spoc_ast.specs.declared.decl.NetPart.TheVariants as NetParts
use Rattle.spoc_ast.specs.declared.decl.VirtPart.TheVariants as VirtParts
use Rattle.spoc_ast.specs.declared.decl.IfPart.TheVariants as IfParts
use Rattle.spoc_ast.specs.declared.decl.RoutPart.TheVariants as RoutParts
use Rattle.spoc_ast.specs.declared.decl.AreaPart.TheVariants as AreaParts
use Rattle.spoc_ast.specs.declared.decl.AnyPart.TheVariants as AnyParts
use Rattle.spoc_ast.specs.declared.decl.Simple.TheVariants as Simples
use Rattle.spoc_ast.specs.declared.decl.Prt.TheVariants as Prts
use Rattle.spoc_ast.specs.declared.decl.Decl.TheVariants as Decls
use Rattle.spoc_ast.specs.Written.{Lexeme, SetText, NetworkNamed, HostNamed, PortNamed, GroupNamed, AggregateNamed, AreaNamed, NetworksIn, HostsIn, ZonesIn, HostIp, HostRange, HostIdle, NatIp, NatHidden, NetIp, NetHost, NetNat, NetIdle, VirtIp, VirtKind, VirtId, IfIp, IfHardware, IfBindNat, IfVirtual, IfIdle, RoutManaged, RoutModel, RoutRouting, RoutIface, RoutIdle, AreaAnchor, AreaBorder, AreaIdle, AnyLink, AnyIp, AnyIdle, SimpleTcp, SimpleUdp, SimpleIcmp, SimpleProto, PrtSimple, PrtProtocol, PrtGroup, NetworkDecl, RouterDecl, GroupDecl, AreaDecl, AggregateDecl, ProtocolDecl, ProtocolGroupDecl, RestrictionDecl, ServiceDecl}
use Rattle.spoc_ast.specs.Seen.{word_seen, port_seen, set_seen, inter_seen, term_seen, idle_seen, host_part_seen, nat_part_seen, net_part_seen, virt_part_seen, if_part_seen, rout_part_seen, area_part_seen, any_part_seen, simple_seen, prt_seen, rule_seen, decl_seen, file_seen, joined, narrowed, narrowing}
use Rattle.spoc_ast.proofs.Rows.{sets, parts}
use Rattle.spoc_parser.specs.Trees.{network, host, port, group, aggregate, area, user, nets, hosts, anys, host_ip, host_range, host_idle, nat_ip, nat_hidden, net_ip, net_host, net_nat, net_idle, virt_ip, virt_kind, virt_id, iface_ip, iface_hardware, iface_bind_nat, iface_virtual, iface_idle, router_managed, router_model, router_routing, router_iface, router_idle, area_anchor, area_border, area_idle, any_link, any_ip, any_idle, proto_ip, proto_tcp, proto_udp, proto_icmp, proto_number, one_proto, a_protocol, a_protogroup, network_decl, router_decl, group_decl, area_decl, aggregate_decl, protocol_decl, protogroup_decl, restriction_decl, service_decl, DeclIn}
use Rattle.spoc_parser.specs.Seen.{IsWord, IsPort, IsPerhaps, IsTermOf, IsFurther, IsInter, IsSet, IsSetIn}
use Rattle.spoc_parser.specs.SeenParts.{IsIdle, IsHostItem, IsNatItem, IsNetItem, IsVirtItem, IsIfaceItem, IsRouterItem, IsAreaItem, IsAnyItem, IsProto, IsProtoItem, IsRule, IsDecl}
use Rattle.syntax_laws.specs.Said.{lexeme_said, port_said, term_said, further_said, inter_said, parts_said, set_said, idle_said, host_item_said, nat_item_said, net_item_said, virt_item_said, iface_item_said, router_item_said, area_item_said, any_item_said, proto_said, proto_item_said, rule_said, decl_of_said, decl_said, decls_said}

-- ---- values that are the same part by part

two : {A B C : Type 0} (f : A → B → C) {a x : A} {b y : B} → a ≡ x → b ≡ y → f a b ≡ f x y
two f {a} {x} {b} {y} p q = ap (λ v. f v b) p ∙ ap (f x) q

three : {A B C D : Type 0} (f : A → B → C → D) {a x : A} {b y : B} {c z : C} → a ≡ x → b ≡ y → c ≡ z → f a b c ≡ f x y z
three f {a} {x} {b} {y} {c} {z} p q r = ap (λ v. f v b c) p ∙ two (f x) q r

abbrev placed : ℕ → ℕ → ℕ → List ℕ → Lexeme
placed file start last text = record { span = record { file = file; start = start; «end» = last }; text = text }

-- ---- words, and things that may be left out or are many

-- what R holds of is seen as what the other says
abbrev Same : {A X B : Type 0} → (A → X → Type 0) → (X → B) → (A → B) → Type 0
Same {A} {X} R sees says = (a : A) (x : X) → R a x → sees x ≡ says a

word_is : (file : ℕ) → Same (IsWord file) word_seen (lexeme_said file)
word_is file lexeme word h = two (λ f s. placed f s word.span.«end» word.text.now) h.0 h.1 ∙ two (placed file lexeme.start) h.2 h.3

port_is : (file : ℕ) → Same (IsPort file) port_seen (port_said file)
port_is file item place h = two (λ r n. record { router = r; net = n }) (word_is file item.router place.router h.0) (word_is file item.net place.net h.1)

maps : {A X B : Type 0} {R : A → X → Type 0} {sees : X → B} {says : A → B} → Same R sees says → Same (AllZip R) (map sees) (map says)
maps s [] [] h = refl
maps s [] (y ∷ ys) h = absurd h
maps s (x ∷ xs) [] h = absurd h
maps {sees = sees} {says} s (x ∷ xs) (y ∷ ys) h = ap (λ b. b ∷ map sees ys) (s x y h.0) ∙ ap (λ l. says x ∷ l) (maps s xs ys h.1)

perhaps_is : {A X B : Type 0} {R : A → X → Type 0} {sees : X → B} {says : A → B} → Same R sees says → Same (IsPerhaps R) (option_map sees) (option_map says)
perhaps_is s None None h = refl
perhaps_is s None (Some x) h = absurd h
perhaps_is s (Some a) None h = absurd h
perhaps_is s (Some a) (Some x) h = ap Some (s a x h)

-- ---- sets

term_is : {S : Type 0} (file : ℕ) {R : S → SetTree → Type 0} {says : S → SetText} → Same R set_seen says → Same (IsTermOf file R) term_seen (term_said file says)
term_is file s (network name) (term_tree.Network w) h = ap NetworkNamed (word_is file name w h)
term_is file s (host name) (term_tree.Host w) h = ap HostNamed (word_is file name w h)
term_is file s (port item) (term_tree.Port place) h = ap PortNamed (port_is file item place h)
term_is file s (group name) (term_tree.Group w) h = ap GroupNamed (word_is file name w h)
term_is file s (aggregate name) (term_tree.Aggregate w) h = ap AggregateNamed (word_is file name w h)
term_is file s (area name) (term_tree.Area w) h = ap AreaNamed (word_is file name w h)
term_is file s user term_tree.User h = refl
term_is file s (nets set) (term_tree.Nets tree) h = ap NetworksIn (s set tree h)
term_is file s (hosts set) (term_tree.Hosts tree) h = ap HostsIn (s set tree h)
term_is file {says = says} s (anys inside set) (term_tree.Anys word tree) h = ap (λ o. ZonesIn o (set_seen tree)) (perhaps_is (word_is file) inside word h.0) ∙ ap (λ e. ZonesIn (option_map (lexeme_said file) inside) e) (s set tree h.1)
term_is file s term tree h = absurd h

further_is : {T : Type 0} {R : T → TermTree → Type 0} {says : T → SetText} → Same R term_seen says → (e : SetText) → Same (AllZip (IsFurther R)) (narrowed e) (further_said says e)
further_is s e [] [] h = refl
further_is s e [] (y ∷ ys) h = absurd h
further_is s e (x ∷ xs) [] h = absurd h
further_is {says = says} s e (x ∷ xs) (y ∷ ys) h =
    ap (λ b. narrowed (narrowing b e (term_seen y.term)) ys) h.0.0
    ∙ ap (λ t. narrowed (narrowing x.0 e t) ys) (s x.1 y.term h.0.1)
    ∙ further_is s (narrowing x.0 e (says x.1)) xs ys h.1

inter_is : {T : Type 0} {R : T → TermTree → Type 0} {says : T → SetText} → Same R term_seen says → Same (IsInter R) inter_seen (inter_said says)
inter_is s i tree h =
    parts tree ∙ ap (λ e. narrowed e (out-InterTree tree).rest.now) (s i.0 (out-InterTree tree).first h.0)
    ∙ further_is s _ i.1 (out-InterTree tree).rest.now h.1

parts_are : {T : Type 0} {R : T → TermTree → Type 0} {says : T → SetText} → Same R term_seen says → Same (IsSet R) set_seen (parts_said says)
parts_are s set tree h = sets tree ∙ ap joined (maps (inter_is s) set (out-SetTree tree).inters.now h)

set_is : (file depth : ℕ) → Same (IsSetIn file depth) set_seen (set_said file depth)
set_is file zero set tree h = absurd h
set_is file (suc depth) set tree h = parts_are (term_is file (set_is file depth)) set tree h

-- ---- parts of declarations

idle_is : (file : ℕ) → Same (IsIdle file) idle_seen (idle_said file)
idle_is file item idle h =
    two (λ k vs. record { key = k; values = vs }) (word_is file item.key idle.key h.0) (maps (word_is file) item.values idle.values.now h.1)

host_item_is : (file : ℕ) → Same (IsHostItem file) host_part_seen (host_item_said file)
host_item_is file (host_ip address) (HostParts.Ip w) h = ap HostIp (word_is file address w h)
host_item_is file (host_range words) (HostParts.Range ws) h = ap HostRange (maps (word_is file) words ws.now h)
host_item_is file (host_idle item) (HostParts.Idle idle) h = ap HostIdle (idle_is file item idle h)
host_item_is file item part h = absurd h

nat_item_is : (file : ℕ) → Same (IsNatItem file) nat_part_seen (nat_item_said file)
nat_item_is file (nat_ip prefix) (NatParts.Ip w) h = ap NatIp (word_is file prefix w h)
nat_item_is file nat_hidden NatParts.Hidden h = refl
nat_item_is file item part h = absurd h

net_item_is : (file : ℕ) → Same (IsNetItem file) net_part_seen (net_item_said file)
net_item_is file (net_ip prefix) (NetParts.Ip w) h = ap NetIp (word_is file prefix w h)
net_item_is file (net_host name items) (NetParts.Host w ps) h = two NetHost (word_is file name w h.0) (maps (host_item_is file) items ps.now h.1)
net_item_is file (net_nat tag items) (NetParts.Nat w ps) h = two NetNat (word_is file tag w h.0) (maps (nat_item_is file) items ps.now h.1)
net_item_is file (net_idle item) (NetParts.Idle idle) h = ap NetIdle (idle_is file item idle h)
net_item_is file item part h = absurd h

virt_item_is : (file : ℕ) → Same (IsVirtItem file) virt_part_seen (virt_item_said file)
virt_item_is file (virt_ip address) (VirtParts.Ip w) h = ap VirtIp (word_is file address w h)
virt_item_is file (virt_kind word) (VirtParts.Kind w) h = ap VirtKind (word_is file word w h)
virt_item_is file (virt_id number) (VirtParts.Id w) h = ap VirtId (word_is file number w h)
virt_item_is file item part h = absurd h

iface_item_is : (file : ℕ) → Same (IsIfaceItem file) if_part_seen (iface_item_said file)
iface_item_is file (iface_ip address) (IfParts.Ip w) h = ap IfIp (word_is file address w h)
iface_item_is file (iface_hardware word) (IfParts.Hardware w) h = ap IfHardware (word_is file word w h)
iface_item_is file (iface_bind_nat tags) (IfParts.BindNat ws) h = ap IfBindNat (maps (word_is file) tags ws.now h)
iface_item_is file (iface_virtual items) (IfParts.Virtual ps) h = ap IfVirtual (maps (virt_item_is file) items ps.now h)
iface_item_is file (iface_idle item) (IfParts.Idle idle) h = ap IfIdle (idle_is file item idle h)
iface_item_is file item part h = absurd h

router_item_is : (file : ℕ) → Same (IsRouterItem file) rout_part_seen (router_item_said file)
router_item_is file (router_managed filter) (RoutParts.Managed w) h = ap RoutManaged (perhaps_is (word_is file) filter w h)
router_item_is file (router_model word) (RoutParts.Model w) h = ap RoutModel (word_is file word w h)
router_item_is file (router_routing word) (RoutParts.Routing w) h = ap RoutRouting (word_is file word w h)
router_item_is file (router_iface net items) (RoutParts.Iface w ps) h = two RoutIface (word_is file net w h.0) (maps (iface_item_is file) items ps.now h.1)
router_item_is file (router_idle item) (RoutParts.Idle idle) h = ap RoutIdle (idle_is file item idle h)
router_item_is file item part h = absurd h

area_item_is : (file : ℕ) → Same (IsAreaItem file) area_part_seen (area_item_said file)
area_item_is file (area_anchor net) (AreaParts.Anchor w) h = ap AreaAnchor (word_is file net w h)
area_item_is file (area_border items) (AreaParts.Border ports) h = ap AreaBorder (maps (port_is file) items ports.now h)
area_item_is file (area_idle item) (AreaParts.Idle idle) h = ap AreaIdle (idle_is file item idle h)
area_item_is file item part h = absurd h

any_item_is : (file : ℕ) → Same (IsAnyItem file) any_part_seen (any_item_said file)
any_item_is file (any_link net) (AnyParts.Link w) h = ap AnyLink (word_is file net w h)
any_item_is file (any_ip prefix) (AnyParts.Ip w) h = ap AnyIp (word_is file prefix w h)
any_item_is file (any_idle item) (AnyParts.Idle idle) h = ap AnyIdle (idle_is file item idle h)
any_item_is file item part h = absurd h

proto_is : (file : ℕ) → Same (IsProto file) simple_seen (proto_said file)
proto_is file proto_ip Simples.Ip h = refl
proto_is file (proto_tcp ports) (Simples.Tcp ws) h = ap SimpleTcp (maps (word_is file) ports ws.now h)
proto_is file (proto_udp ports) (Simples.Udp ws) h = ap SimpleUdp (maps (word_is file) ports ws.now h)
proto_is file (proto_icmp kind) (Simples.Icmp ws) h = ap SimpleIcmp (maps (word_is file) kind ws.now h)
proto_is file (proto_number number) (Simples.Proto w) h = ap SimpleProto (word_is file number w h)
proto_is file proto simple h = absurd h

proto_item_is : (file : ℕ) → Same (IsProtoItem file) prt_seen (proto_item_said file)
proto_item_is file (one_proto proto) (Prts.Simple simple) h = ap PrtSimple (proto_is file proto simple h)
proto_item_is file (a_protocol name) (Prts.Protocol w) h = ap PrtProtocol (word_is file name w h)
proto_item_is file (a_protogroup name) (Prts.Group w) h = ap PrtGroup (word_is file name w h)
proto_item_is file item prt h = absurd h

rule_is : {S : Type 0} (file : ℕ) {R : S → SetTree → Type 0} {says : S → SetText} → Same R set_seen says → Same (IsRule file R) rule_seen (rule_said file says)
rule_is file {says = says} s rule tree h =
    two (λ deny src. record { deny = deny; src = src; dst = set_seen tree.dst; prts = map prt_seen tree.prts.now }) h.0 (s rule.src tree.src h.1)
    ∙ two (λ dst prts. record { deny = rule.deny; src = says rule.src; dst = dst; prts = prts }) (s rule.dst tree.dst h.2) (maps (proto_item_is file) rule.prts tree.prts.now h.3)

-- ---- declarations

decl_of_is : {S : Type 0} (file : ℕ) {R : S → SetTree → Type 0} {says : S → SetText} → Same R set_seen says → Same (IsDecl file R) decl_seen (decl_of_said file says)
decl_of_is file s (network_decl name desc items) (Decls.Network w text ps) h = three NetworkDecl (word_is file name w h.0) (perhaps_is (word_is file) desc text h.1) (maps (net_item_is file) items ps.now h.2)
decl_of_is file s (router_decl name desc items) (Decls.Router w text ps) h = three RouterDecl (word_is file name w h.0) (perhaps_is (word_is file) desc text h.1) (maps (router_item_is file) items ps.now h.2)
decl_of_is file s (group_decl name desc objects) (Decls.Group w text set) h = three GroupDecl (word_is file name w h.0) (perhaps_is (word_is file) desc text h.1) (perhaps_is s objects set h.2)
decl_of_is file s (area_decl name desc items) (Decls.Area w text ps) h = three AreaDecl (word_is file name w h.0) (perhaps_is (word_is file) desc text h.1) (maps (area_item_is file) items ps.now h.2)
decl_of_is file s (aggregate_decl name desc items) (Decls.Aggregate w text ps) h = three AggregateDecl (word_is file name w h.0) (perhaps_is (word_is file) desc text h.1) (maps (any_item_is file) items ps.now h.2)
decl_of_is file s (protocol_decl name proto notes) (Decls.Protocol w simple ws) h = three ProtocolDecl (word_is file name w h.0) (proto_is file proto simple h.1) (maps (word_is file) notes ws.now h.2)
decl_of_is file s (protogroup_decl name items) (Decls.ProtocolGroup w ps) h = two ProtocolGroupDecl (word_is file name w h.0) (maps (proto_item_is file) items ps.now h.1)
decl_of_is file s (restriction_decl name desc items) (Decls.Restriction w text ports) h = three RestrictionDecl (word_is file name w h.0) (perhaps_is (word_is file) desc text h.1) (maps (port_is file) items ports.now h.2)
decl_of_is file {says = says} s (service_decl name desc items users rules) (Decls.Service w text idle tree trees) h =
    three (λ name desc idle. ServiceDecl name desc idle (set_seen tree) (map rule_seen trees.now)) (word_is file name w h.0) (perhaps_is (word_is file) desc text h.1) (maps (idle_is file) items idle.now h.2)
    ∙ two (λ set rows. ServiceDecl (lexeme_said file name) (option_map (lexeme_said file) desc) (map (idle_said file) items) set rows) (s users tree h.3) (maps (rule_is file s) rules trees.now h.4)
decl_of_is file s item decl h = absurd h

pub decl_is : (file depth : ℕ) (decl : DeclIn depth) (tree : Decl) → IsDecl file (IsSetIn file depth) decl tree → decl_seen tree ≡ decl_said file depth decl
decl_is file depth decl tree h = decl_of_is file (set_is file depth) decl tree h

pub decls_are : (file depth : ℕ) (decls : List (DeclIn depth)) (tree : File) → AllZip (IsDecl file (IsSetIn file depth)) decls tree.decls.now → file_seen tree ≡ decls_said file depth decls
decls_are file depth decls tree h = maps (decl_is file depth) decls tree.decls.now h
