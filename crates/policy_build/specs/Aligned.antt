-- Prefixes without host bits, and what sets say where a prefix with one counts for none.
use Rattle.std.specs.Prelude.{Bool, true, not, ◌&&◌, List, Option, Some, None, option_and_then, if◌then◌else◌}
use Rattle.spoc_base.specs.Address.{Cidr}
use Rattle.spoc_ast.specs.Written.{Lexeme, SetText, NoParts, NetworkNamed, HostNamed, PortNamed, GroupNamed, AggregateNamed, AreaNamed, UserNamed, NetworksIn, HostsIn, ZonesIn, Joining, Keeping, Leaving, DeclText}
use Rattle.policy_model.specs.Policy.{ObjectExpr, NoObjects, OneNet, OneHost, OneIface, OfGroup, OfAggregate, OfArea, OfUser, NetsOf, HostsOf, ZonesOf, Joined, Common, Without}
use Rattle.policy_decls.specs.Names.{NetworkName, HostName, GroupName, AreaName, AggregateName}
use Rattle.policy_decls.specs.Numbers.{prefix_of}
use Rattle.policy_decls.specs.Lookup.{has_host_bit}
use Rattle.policy_decls.specs.Shapes.{is_unaligned}
use Rattle.policy_decls.specs.Said.{number_of_name, number_of_port}

abbrev pub if_aligned : Cidr → Option Cidr
if_aligned p = if has_host_bit p then None else Some p

-- the prefix that the word says, where it has no host bit
abbrev pub aligned_prefix : Lexeme → Option Cidr
aligned_prefix w = option_and_then if_aligned (prefix_of w.text)

-- the word, where there is one, is no prefix with a host bit
abbrev pub is_aligned_word : Option Lexeme → Bool
is_aligned_word None = true
is_aligned_word (Some w) = not (is_unaligned w)

-- no prefix that the set asks for has a host bit
abbrev pub asks_aligned : SetText → Bool
asks_aligned NoParts = true
asks_aligned (NetworkNamed name) = true
asks_aligned (HostNamed name) = true
asks_aligned (PortNamed port) = true
asks_aligned (GroupNamed name) = true
asks_aligned (AggregateNamed name) = true
asks_aligned (AreaNamed name) = true
asks_aligned UserNamed = true
asks_aligned (NetworksIn e) = asks_aligned e
asks_aligned (HostsIn e) = asks_aligned e
asks_aligned (ZonesIn only e) = is_aligned_word only && asks_aligned e
asks_aligned (Joining e f) = asks_aligned e && asks_aligned f
asks_aligned (Keeping e f) = asks_aligned e && asks_aligned f
asks_aligned (Leaving e f) = asks_aligned e && asks_aligned f

-- what a set says where a prefix with a host bit isn't asked for
abbrev pub aligned_expr : List DeclText → SetText → ObjectExpr
aligned_expr decls NoParts = NoObjects
aligned_expr decls (NetworkNamed name) = OneNet (number_of_name decls NetworkName name)
aligned_expr decls (HostNamed name) = OneHost (number_of_name decls HostName name)
aligned_expr decls (PortNamed port) = OneIface (number_of_port decls port)
aligned_expr decls (GroupNamed name) = OfGroup (number_of_name decls GroupName name)
aligned_expr decls (AggregateNamed name) = OfAggregate (number_of_name decls AggregateName name)
aligned_expr decls (AreaNamed name) = OfArea (number_of_name decls AreaName name)
aligned_expr decls UserNamed = OfUser
aligned_expr decls (NetworksIn e) = NetsOf (aligned_expr decls e)
aligned_expr decls (HostsIn e) = HostsOf (aligned_expr decls e)
aligned_expr decls (ZonesIn only e) = ZonesOf (option_and_then aligned_prefix only) (aligned_expr decls e)
aligned_expr decls (Joining e f) = Joined (aligned_expr decls e) (aligned_expr decls f)
aligned_expr decls (Keeping e f) = Common (aligned_expr decls e) (aligned_expr decls f)
aligned_expr decls (Leaving e f) = Without (aligned_expr decls e) (aligned_expr decls f)
