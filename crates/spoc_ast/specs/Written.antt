-- What a policy file says, as plain data: a twin of each type of tree, with lists for slices.
use Rattle.std.specs.Prelude.{ℕ, Bool, List, Option}
use Rattle.spoc_base.specs.declared.place.Span.{Span}

-- a word: where it stands, and its bytes
pub record Lexeme : Type 0 where
  pub span : Span
  pub text : List ℕ

-- the interface of a router at a network
pub record PortText : Type 0 where
  pub router : Lexeme
  pub net : Lexeme

-- A set of objects, as it is written. Its parts are joined from the last one on; in a part each further term narrows what stands before it.
pub data SetText : Type 0 where
  NoParts : SetText
  NetworkNamed : (name : Lexeme) → SetText
  HostNamed : (name : Lexeme) → SetText
  PortNamed : (port : PortText) → SetText
  GroupNamed : (name : Lexeme) → SetText
  AggregateNamed : (name : Lexeme) → SetText
  AreaNamed : (name : Lexeme) → SetText
  UserNamed : SetText
  NetworksIn : SetText → SetText
  HostsIn : SetText → SetText
  ZonesIn : (only : Option Lexeme) → SetText → SetText
  Joining : SetText → SetText → SetText
  Keeping : SetText → SetText → SetText
  Leaving : SetText → SetText → SetText

-- a part without effect
pub record IdleText : Type 0 where
  pub key : Lexeme
  pub values : List Lexeme

pub data HostPartText : Type 0 where
  HostIp : (address : Lexeme) → HostPartText
  HostRange : (words : List Lexeme) → HostPartText
  HostIdle : (idle : IdleText) → HostPartText

pub data NatPartText : Type 0 where
  NatIp : (prefix : Lexeme) → NatPartText
  NatHidden : NatPartText

pub data NetPartText : Type 0 where
  NetIp : (prefix : Lexeme) → NetPartText
  NetHost : (name : Lexeme) (parts : List HostPartText) → NetPartText
  NetNat : (name : Lexeme) (parts : List NatPartText) → NetPartText
  NetIdle : (idle : IdleText) → NetPartText

-- a part of a shared address
pub data VirtPartText : Type 0 where
  VirtIp : (address : Lexeme) → VirtPartText
  VirtKind : (kind : Lexeme) → VirtPartText
  VirtId : (number : Lexeme) → VirtPartText

pub data IfPartText : Type 0 where
  IfIp : (address : Lexeme) → IfPartText
  IfHardware : (hardware : Lexeme) → IfPartText
  IfBindNat : (tags : List Lexeme) → IfPartText
  IfVirtual : (parts : List VirtPartText) → IfPartText
  IfIdle : (idle : IdleText) → IfPartText

pub data RoutPartText : Type 0 where
  RoutManaged : (filter : Option Lexeme) → RoutPartText
  RoutModel : (model : Lexeme) → RoutPartText
  RoutRouting : (routing : Lexeme) → RoutPartText
  RoutIface : (name : Lexeme) (parts : List IfPartText) → RoutPartText
  RoutIdle : (idle : IdleText) → RoutPartText

pub data AreaPartText : Type 0 where
  AreaAnchor : (name : Lexeme) → AreaPartText
  AreaBorder : (ports : List PortText) → AreaPartText
  AreaIdle : (idle : IdleText) → AreaPartText

pub data AnyPartText : Type 0 where
  AnyLink : (name : Lexeme) → AnyPartText
  AnyIp : (prefix : Lexeme) → AnyPartText
  AnyIdle : (idle : IdleText) → AnyPartText

-- a protocol, with the words over which its ports or numbers are spread
pub data SimpleText : Type 0 where
  SimpleIp : SimpleText
  SimpleTcp : (words : List Lexeme) → SimpleText
  SimpleUdp : (words : List Lexeme) → SimpleText
  SimpleIcmp : (words : List Lexeme) → SimpleText
  SimpleProto : (number : Lexeme) → SimpleText

pub data PrtText : Type 0 where
  PrtSimple : (simple : SimpleText) → PrtText
  PrtProtocol : (name : Lexeme) → PrtText
  PrtGroup : (name : Lexeme) → PrtText

-- a rule, which denies or permits
pub record RuleText : Type 0 where
  pub deny : Bool
  pub src : SetText
  pub dst : SetText
  pub prts : List PrtText

-- a declaration
pub data DeclText : Type 0 where
  NetworkDecl : (name : Lexeme) (desc : Option Lexeme) (parts : List NetPartText) → DeclText
  RouterDecl : (name : Lexeme) (desc : Option Lexeme) (parts : List RoutPartText) → DeclText
  GroupDecl : (name : Lexeme) (desc : Option Lexeme) (objects : Option SetText) → DeclText
  AreaDecl : (name : Lexeme) (desc : Option Lexeme) (parts : List AreaPartText) → DeclText
  AggregateDecl : (name : Lexeme) (desc : Option Lexeme) (parts : List AnyPartText) → DeclText
  ProtocolDecl : (name : Lexeme) (simple : SimpleText) (notes : List Lexeme) → DeclText
  ProtocolGroupDecl : (name : Lexeme) (prts : List PrtText) → DeclText
  RestrictionDecl : (name : Lexeme) (desc : Option Lexeme) (ports : List PortText) → DeclText
  ServiceDecl : (name : Lexeme) (desc : Option Lexeme) (idle : List IdleText) (user : SetText) (rules : List RuleText) → DeclText
