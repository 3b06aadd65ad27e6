-- Words that are too long, where they stand.
use Rattle.std.specs.Prelude.{ℕ, Bool, false, ◌||◌, nat_lt, List, length}
use Rattle.std.specs.List.{list_any}
use Rattle.spoc_ast.specs.Written.{IfPartText, IfIp, IfHardware, IfBindNat, IfVirtual, IfIdle, RoutPartText, RoutManaged, RoutModel, RoutRouting, RoutIface, RoutIdle, DeclText, NetworkDecl, RouterDecl, GroupDecl, AreaDecl, AggregateDecl, ProtocolDecl, ProtocolGroupDecl, RestrictionDecl, ServiceDecl}
use Rattle.policy_decls.specs.Names.{Mention, names_in}

abbrev pub is_long : List ℕ → Bool
is_long text = nat_lt 100 (length text)

abbrev pub is_long_name : Mention → Bool
is_long_name name = is_long name.text

-- the part is hardware that is too long
abbrev pub is_long_part : IfPartText → Bool
is_long_part (IfIp address) = false
is_long_part (IfHardware hardware) = is_long hardware.text
is_long_part (IfBindNat tags) = false
is_long_part (IfVirtual parts) = false
is_long_part (IfIdle idle) = false

-- the part is an interface with such hardware
abbrev pub is_long_iface : RoutPartText → Bool
is_long_iface (RoutManaged filter) = false
is_long_iface (RoutModel model) = false
is_long_iface (RoutRouting routing) = false
is_long_iface (RoutIface name parts) = list_any is_long_part parts
is_long_iface (RoutIdle idle) = false

abbrev pub has_long_hardware : DeclText → Bool
has_long_hardware (NetworkDecl name desc parts) = false
has_long_hardware (RouterDecl name desc parts) = list_any is_long_iface parts
has_long_hardware (GroupDecl name desc objects) = false
has_long_hardware (AreaDecl name desc parts) = false
has_long_hardware (AggregateDecl name desc parts) = false
has_long_hardware (ProtocolDecl name protocol notes) = false
has_long_hardware (ProtocolGroupDecl name prts) = false
has_long_hardware (RestrictionDecl name desc ports) = false
has_long_hardware (ServiceDecl name desc idle user rules) = false

-- a name that the declaration gives is too long, or hardware in it
abbrev pub has_long_word : DeclText → Bool
has_long_word decl = list_any is_long_name (names_in decl) || has_long_hardware decl
