-- Words that are parts of the sources.
use Rattle.std.specs.Prelude.{◌≡◌, List}
use Rattle.std.specs.List.{All}
use Rattle.spoc_base.specs.declared.place.Source.{Source}
use Rattle.topology.specs.Texts.{LiesIn, text_at}
use Rattle.spoc_ast.specs.Written.{Lexeme, NetPartText, NetIp, NetHost, NetNat, NetIdle, IfPartText, IfIp, IfHardware, IfBindNat, IfVirtual, IfIdle, RoutPartText, RoutManaged, RoutModel, RoutRouting, RoutIface, RoutIdle, DeclText, NetworkDecl, RouterDecl, GroupDecl, AreaDecl, AggregateDecl, ProtocolDecl, ProtocolGroupDecl, RestrictionDecl, ServiceDecl}

-- the word stands in the sources where its span tells
pub record IsWordOf (sources : List Source) (w : Lexeme) : Type 0 where
  pub lies : LiesIn sources w.span
  pub same : text_at sources w.span ≡ w.text

-- the names that a part of a network gives
abbrev pub IsNetPartOf : List Source → NetPartText → Type 0
IsNetPartOf sources (NetIp prefix) = Unit {0}
IsNetPartOf sources (NetHost name parts) = IsWordOf sources name
IsNetPartOf sources (NetNat name parts) = IsWordOf sources name
IsNetPartOf sources (NetIdle idle) = Unit {0}

-- the hardware of an interface
abbrev pub IsIfPartOf : List Source → IfPartText → Type 0
IsIfPartOf sources (IfIp address) = Unit {0}
IsIfPartOf sources (IfHardware hardware) = IsWordOf sources hardware
IsIfPartOf sources (IfBindNat tags) = Unit {0}
IsIfPartOf sources (IfVirtual parts) = Unit {0}
IsIfPartOf sources (IfIdle idle) = Unit {0}

-- the interfaces of a router
abbrev pub IsRoutPartOf : List Source → RoutPartText → Type 0
IsRoutPartOf sources (RoutManaged filter) = Unit {0}
IsRoutPartOf sources (RoutModel model) = Unit {0}
IsRoutPartOf sources (RoutRouting routing) = Unit {0}
IsRoutPartOf sources (RoutIface name parts) = IsWordOf sources name × All (IsIfPartOf sources) parts
IsRoutPartOf sources (RoutIdle idle) = Unit {0}

-- The names that the declaration gives, and the hardware in it, are parts of the sources.
abbrev pub IsDeclOf : List Source → DeclText → Type 0
IsDeclOf sources (NetworkDecl name desc parts) = IsWordOf sources name × All (IsNetPartOf sources) parts
IsDeclOf sources (RouterDecl name desc parts) = IsWordOf sources name × All (IsRoutPartOf sources) parts
IsDeclOf sources (GroupDecl name desc objects) = IsWordOf sources name
IsDeclOf sources (AreaDecl name desc parts) = IsWordOf sources name
IsDeclOf sources (AggregateDecl name desc parts) = IsWordOf sources name
IsDeclOf sources (ProtocolDecl name protocol notes) = IsWordOf sources name
IsDeclOf sources (ProtocolGroupDecl name prts) = IsWordOf sources name
IsDeclOf sources (RestrictionDecl name desc ports) = IsWordOf sources name
IsDeclOf sources (ServiceDecl name desc idle user rules) = IsWordOf sources name

abbrev pub AreWordsOf : List Source → List DeclText → Type 0
AreWordsOf sources decls = All (IsDeclOf sources) decls
