-- The trees of a policy file, as plain data.
use Rattle.std.specs.Prelude.{ℕ, zero, suc, Bool, List, Option}

-- a word of the file: the offset at which it begins, and its bytes
pub record Lexeme : Type 0 where
  pub start : ℕ
  pub text : List ℕ

-- the interface of a router at a network
pub record PortItem : Type 0 where
  pub router : Lexeme
  pub net : Lexeme

-- a part without effect: its first word, and the words behind `=`
pub record IdleItem : Type 0 where
  pub key : Lexeme
  pub values : List Lexeme

-- a term of a set, where a set inside brackets is an S
pub data TermOf (S : Type 0) : Type 0 where
  network : (name : Lexeme) → TermOf S
  host : (name : Lexeme) → TermOf S
  port : (place : PortItem) → TermOf S
  group : (name : Lexeme) → TermOf S
  aggregate : (name : Lexeme) → TermOf S
  area : (name : Lexeme) → TermOf S
  user : TermOf S
  nets : (set : S) → TermOf S
  hosts : (set : S) → TermOf S
  anys : (inside : Option Lexeme) (set : S) → TermOf S

-- a term, and further ones, each with or without a `!`
abbrev pub InterOf : Type 0 → Type 0
InterOf T = T × List (Bool × T)

-- the parts of a set
abbrev pub SetOf : Type 0 → Type 0
SetOf T = List (InterOf T)

-- a set of so many levels at most: itself, and one for each bracket that is open somewhere in it
abbrev pub SetIn : ℕ → Type 0
SetIn zero = ⊥
SetIn (suc depth) = SetOf (TermOf (SetIn depth))

-- a term in which sets have so many levels at most
abbrev pub TermIn : ℕ → Type 0
TermIn depth = TermOf (SetIn depth)

-- a part of a host
pub data HostItem : Type 0 where
  host_ip : (address : Lexeme) → HostItem
  host_range : (words : List Lexeme) → HostItem
  host_idle : (idle : IdleItem) → HostItem

-- a part of a translation
pub data NatItem : Type 0 where
  nat_ip : (prefix : Lexeme) → NatItem
  nat_hidden : NatItem

-- a part of a network
pub data NetItem : Type 0 where
  net_ip : (prefix : Lexeme) → NetItem
  net_host : (name : Lexeme) (parts : List HostItem) → NetItem
  net_nat : (tag : Lexeme) (parts : List NatItem) → NetItem
  net_idle : (idle : IdleItem) → NetItem

-- a part of an address that interfaces share
pub data VirtItem : Type 0 where
  virt_ip : (address : Lexeme) → VirtItem
  virt_kind : (word : Lexeme) → VirtItem
  virt_id : (number : Lexeme) → VirtItem

-- a part of an interface
pub data IfaceItem : Type 0 where
  iface_ip : (address : Lexeme) → IfaceItem
  iface_hardware : (word : Lexeme) → IfaceItem
  iface_bind_nat : (tags : List Lexeme) → IfaceItem
  iface_virtual : (parts : List VirtItem) → IfaceItem
  iface_idle : (idle : IdleItem) → IfaceItem

-- a part of a router
pub data RouterItem : Type 0 where
  router_managed : (filter : Option Lexeme) → RouterItem
  router_model : (word : Lexeme) → RouterItem
  router_routing : (word : Lexeme) → RouterItem
  router_iface : (net : Lexeme) (parts : List IfaceItem) → RouterItem
  router_idle : (idle : IdleItem) → RouterItem

-- a part of an area
pub data AreaItem : Type 0 where
  area_anchor : (net : Lexeme) → AreaItem
  area_border : (ports : List PortItem) → AreaItem
  area_idle : (idle : IdleItem) → AreaItem

-- a part of an aggregate
pub data AnyItem : Type 0 where
  any_link : (net : Lexeme) → AnyItem
  any_ip : (prefix : Lexeme) → AnyItem
  any_idle : (idle : IdleItem) → AnyItem

-- a protocol, with the words over which its ports or numbers are spread
pub data Proto : Type 0 where
  proto_ip : Proto
  proto_tcp : (ports : List Lexeme) → Proto
  proto_udp : (ports : List Lexeme) → Proto
  proto_icmp : (kind : List Lexeme) → Proto
  proto_number : (number : Lexeme) → Proto

-- a protocol of a rule or of a protocol group
pub data ProtoItem : Type 0 where
  one_proto : (proto : Proto) → ProtoItem
  a_protocol : (name : Lexeme) → ProtoItem
  a_protogroup : (name : Lexeme) → ProtoItem

-- a rule, which denies or permits
pub record RuleOf (S : Type 0) : Type 0 where
  pub deny : Bool
  pub src : S
  pub dst : S
  pub prts : List ProtoItem

-- a declaration
pub data DeclOf (S : Type 0) : Type 0 where
  network_decl : (name : Lexeme) (desc : Option Lexeme) (parts : List NetItem) → DeclOf S
  router_decl : (name : Lexeme) (desc : Option Lexeme) (parts : List RouterItem) → DeclOf S
  group_decl : (name : Lexeme) (desc : Option Lexeme) (objects : Option S) → DeclOf S
  area_decl : (name : Lexeme) (desc : Option Lexeme) (parts : List AreaItem) → DeclOf S
  aggregate_decl : (name : Lexeme) (desc : Option Lexeme) (parts : List AnyItem) → DeclOf S
  protocol_decl : (name : Lexeme) (proto : Proto) (notes : List Lexeme) → DeclOf S
  protogroup_decl : (name : Lexeme) (prts : List ProtoItem) → DeclOf S
  restriction_decl : (name : Lexeme) (desc : Option Lexeme) (ports : List PortItem) → DeclOf S
  service_decl : (name : Lexeme) (desc : Option Lexeme) (idle : List IdleItem) (users : S) (rules : List (RuleOf S)) → DeclOf S

abbrev pub DeclIn : ℕ → Type 0
DeclIn depth = DeclOf (SetIn depth)
