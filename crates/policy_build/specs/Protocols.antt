-- The protocols and the protocol groups that are declared, in their order.
use Rattle.std.specs.Prelude.{◌≡◌, List, [], ◌∷◌, map, flat_map, Option, Some, None}
use Rattle.std.specs.Borrow.{Bor}
use Rattle.spoc_ast.specs.Written.{Lexeme, PrtText, PrtSimple, DeclText, NetworkDecl, RouterDecl, GroupDecl, AreaDecl, AggregateDecl, ProtocolDecl, ProtocolGroupDecl, RestrictionDecl, ServiceDecl}
use Rattle.spoc_ast.specs.Seen.{prt_seen, simple_seen}
use Rattle.spoc_ast.specs.declared.decl.Prt.{Prt}
use Rattle.spoc_ast.specs.declared.decl.Simple.{Simple}
use Rattle.policy_build.specs.declared.scope.Scope.{Scope}
use Rattle.policy_build.specs.declared.protocols.Protocols.{Protocols}
use Rattle.policy_build.specs.Views.{decls_of}

-- a protocol and its name
abbrev pub protocol_in : DeclText → Option (Lexeme × List PrtText)
protocol_in (NetworkDecl name desc parts) = None
protocol_in (RouterDecl name desc parts) = None
protocol_in (GroupDecl name desc objects) = None
protocol_in (AreaDecl name desc parts) = None
protocol_in (AggregateDecl name desc parts) = None
protocol_in (ProtocolDecl name protocol notes) = Some (name, PrtSimple protocol ∷ [])
protocol_in (ProtocolGroupDecl name prts) = None
protocol_in (RestrictionDecl name desc ports) = None
protocol_in (ServiceDecl name desc idle user rules) = None

-- the members of a protocol group and its name
abbrev pub group_in : DeclText → Option (Lexeme × List PrtText)
group_in (NetworkDecl name desc parts) = None
group_in (RouterDecl name desc parts) = None
group_in (GroupDecl name desc objects) = None
group_in (AreaDecl name desc parts) = None
group_in (AggregateDecl name desc parts) = None
group_in (ProtocolDecl name protocol notes) = None
group_in (ProtocolGroupDecl name prts) = Some (name, prts)
group_in (RestrictionDecl name desc ports) = None
group_in (ServiceDecl name desc idle user rules) = None

abbrev pub said_by : Option (Lexeme × List PrtText) → List (List PrtText)
said_by None = []
said_by (Some named) = named.1 ∷ []

abbrev pub protocols_in : List DeclText → List (List PrtText)
protocols_in decls = flat_map (λ d. said_by (protocol_in d)) decls

abbrev pub groups_in : List DeclText → List (List PrtText)
groups_in decls = flat_map (λ d. said_by (group_in d)) decls

abbrev pub simples_seen : List Simple → List (List PrtText)
simples_seen simples = map (λ simple. PrtSimple (simple_seen simple) ∷ []) simples

abbrev pub members_seen : List (Bor (List Prt)) → List (List PrtText)
members_seen groups = map (λ prts. map prt_seen prts.now) groups

-- the protocols and the groups in memory are those that are declared
pub record AreProtocols (scope : Scope) (protocols : Protocols) : Type 0 where
  pub simples : simples_seen protocols.simples.items ≡ protocols_in (decls_of scope)
  pub groups : members_seen protocols.groups.items ≡ groups_in (decls_of scope)
