-- The names that declarations use.
use Rattle.std.specs.Prelude.{Bool, not, ◌&&◌, ◌||◌, List, [], ◌∷◌, ◌++◌, map, flat_map, filter, Option, Some, None}
use Rattle.std.specs.Str.{bytes_eq}
use Rattle.std.specs.List.{list_any}
use Rattle.spoc_ast.specs.Written.{SetText, NoParts, NetworkNamed, HostNamed, PortNamed, GroupNamed, AggregateNamed, AreaNamed, UserNamed, NetworksIn, HostsIn, ZonesIn, Joining, Keeping, Leaving, IfPartText, IfIp, IfHardware, IfBindNat, IfVirtual, IfIdle, RoutPartText, RoutManaged, RoutModel, RoutRouting, RoutIface, RoutIdle, AreaPartText, AreaAnchor, AreaBorder, AreaIdle, AnyPartText, AnyLink, AnyIp, AnyIdle, PrtText, PrtSimple, PrtProtocol, PrtGroup, RuleText, DeclText, NetworkDecl, RouterDecl, GroupDecl, AreaDecl, AggregateDecl, ProtocolDecl, ProtocolGroupDecl, RestrictionDecl, ServiceDecl}
use Rattle.policy_decls.specs.Names.{NameKind, NetworkName, HostName, TagName, GroupName, AreaName, AggregateName, ProtocolName, ProtocolGroupName, same_kind, Mention, mention, mention_port}

-- the names in a set, as they stand
abbrev pub uses_in_set : SetText → List Mention
uses_in_set NoParts = []
uses_in_set (NetworkNamed name) = mention NetworkName name ∷ []
uses_in_set (HostNamed name) = mention HostName name ∷ []
uses_in_set (PortNamed port) = mention_port port ∷ []
uses_in_set (GroupNamed name) = mention GroupName name ∷ []
uses_in_set (AggregateNamed name) = mention AggregateName name ∷ []
uses_in_set (AreaNamed name) = mention AreaName name ∷ []
uses_in_set UserNamed = []
uses_in_set (NetworksIn e) = uses_in_set e
uses_in_set (HostsIn e) = uses_in_set e
uses_in_set (ZonesIn only e) = uses_in_set e
uses_in_set (Joining e f) = uses_in_set e ++ uses_in_set f
uses_in_set (Keeping e f) = uses_in_set e ++ uses_in_set f
uses_in_set (Leaving e f) = uses_in_set e ++ uses_in_set f

abbrev pub uses_in_prt : PrtText → List Mention
uses_in_prt (PrtSimple protocol) = []
uses_in_prt (PrtProtocol name) = mention ProtocolName name ∷ []
uses_in_prt (PrtGroup name) = mention ProtocolGroupName name ∷ []

abbrev pub uses_in_if_part : IfPartText → List Mention
uses_in_if_part (IfIp address) = []
uses_in_if_part (IfHardware hardware) = []
uses_in_if_part (IfBindNat tags) = map (mention TagName) tags
uses_in_if_part (IfVirtual parts) = []
uses_in_if_part (IfIdle idle) = []

abbrev pub uses_in_rout_part : RoutPartText → List Mention
uses_in_rout_part (RoutManaged filter) = []
uses_in_rout_part (RoutModel model) = []
uses_in_rout_part (RoutRouting routing) = []
uses_in_rout_part (RoutIface name parts) = mention NetworkName name ∷ flat_map uses_in_if_part parts
uses_in_rout_part (RoutIdle idle) = []

abbrev pub uses_in_area_part : AreaPartText → List Mention
uses_in_area_part (AreaAnchor name) = mention NetworkName name ∷ []
uses_in_area_part (AreaBorder ports) = map mention_port ports
uses_in_area_part (AreaIdle idle) = []

abbrev pub uses_in_any_part : AnyPartText → List Mention
uses_in_any_part (AnyLink name) = mention NetworkName name ∷ []
uses_in_any_part (AnyIp prefix) = []
uses_in_any_part (AnyIdle idle) = []

abbrev pub uses_in_rule : RuleText → List Mention
uses_in_rule rule = uses_in_set rule.src ++ uses_in_set rule.dst ++ flat_map uses_in_prt rule.prts

abbrev pub uses_in_objects : Option SetText → List Mention
uses_in_objects None = []
uses_in_objects (Some e) = uses_in_set e

-- The names that a declaration uses, in the order in which they stand. Parts without effect use none.
abbrev pub uses_in : DeclText → List Mention
uses_in (NetworkDecl name desc parts) = []
uses_in (RouterDecl name desc parts) = flat_map uses_in_rout_part parts
uses_in (GroupDecl name desc objects) = uses_in_objects objects
uses_in (AreaDecl name desc parts) = flat_map uses_in_area_part parts
uses_in (AggregateDecl name desc parts) = flat_map uses_in_any_part parts
uses_in (ProtocolDecl name protocol notes) = []
uses_in (ProtocolGroupDecl name prts) = flat_map uses_in_prt prts
uses_in (RestrictionDecl name desc ports) = map mention_port ports
uses_in (ServiceDecl name desc idle user rules) = uses_in_set user ++ flat_map uses_in_rule rules

abbrev pub used_names : List DeclText → List Mention
used_names decls = flat_map uses_in decls

abbrev pub is_tag : NameKind → Bool
is_tag k = same_kind k TagName

-- the name that is used is the one that is declared; a tag may be that of any network
abbrev pub names_it : Mention → Mention → Bool
names_it used declared = same_kind used.kind declared.kind && bytes_eq used.text declared.text && (is_tag used.kind || bytes_eq used.owner declared.owner)

abbrev pub is_unknown : List Mention → Mention → Bool
is_unknown names used = not (list_any (names_it used) names)
