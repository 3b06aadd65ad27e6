-- Names and files in memory, as plain data.
use Rattle.std.specs.Prelude.{◌≡◌, List, ◌++◌, map, flat_map}
use Rattle.spoc_ast.specs.Written.{DeclText}
use Rattle.spoc_ast.specs.Seen.{file_seen}
use Rattle.spoc_ast.specs.declared.decl.File.{File}
use Rattle.policy_decls.specs.Names as plain
use Rattle.policy_names.specs.declared.mention.NameKind.{NameKind}
use Rattle.policy_names.specs.declared.mention.NameKind.TheVariants as kind
use Rattle.policy_names.specs.declared.mention.Mention.{Mention}

abbrev pub kind_seen : NameKind → plain.NameKind
kind_seen kind.Network = plain.NetworkName
kind_seen kind.Host = plain.HostName
kind_seen kind.Tag = plain.TagName
kind_seen kind.Router = plain.RouterName
kind_seen kind.Iface = plain.IfaceName
kind_seen kind.Group = plain.GroupName
kind_seen kind.Area = plain.AreaName
kind_seen kind.Aggregate = plain.AggregateName
kind_seen kind.Protocol = plain.ProtocolName
kind_seen kind.ProtocolGroup = plain.ProtocolGroupName
kind_seen kind.Restriction = plain.RestrictionName
kind_seen kind.Service = plain.ServiceName

abbrev pub mention_seen : Mention → plain.Mention
mention_seen name = record { kind = kind_seen name.kind; owner = name.owner.now; text = name.text.now; shown = name.shown }

-- the declarations of files, those of the first file first
abbrev pub decls_of : List File → List DeclText
decls_of files = flat_map file_seen files

-- the list has grown by these names
abbrev pub GrowsBy : List plain.Mention → List Mention → List Mention → Type 0
GrowsBy names before now = map mention_seen now ≡ map mention_seen before ++ names
