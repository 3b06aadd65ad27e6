-- What declarations without a fault give to those that build the policy.
use Rattle.std.specs.Prelude.{◌≡◌, ◌≤◌, Bool, true, List, flat_map, slice_get, Option, Some, None, option_and_then}
use Rattle.std.specs.List.{All}
use Rattle.spoc_base.specs.Address.{Cidr, Interval}
use Rattle.spoc_base.specs.declared.place.Source.{Source}
use Rattle.spoc_ast.specs.Written.{SetText, NetPartText, NetIp, NetHost, NetNat, NetIdle, IfPartText, IfIp, IfHardware, IfBindNat, IfVirtual, IfIdle, RoutPartText, RoutManaged, RoutModel, RoutRouting, RoutIface, RoutIdle, RuleText, DeclText, NetworkDecl, RouterDecl, GroupDecl, AreaDecl, AggregateDecl, ProtocolDecl, ProtocolGroupDecl, RestrictionDecl, ServiceDecl}
use Rattle.policy_decls.specs.Lookup.{own_prefix, ips_in_nat_part}
use Rattle.policy_decls.specs.Shapes.{spans_in, ips_in_any_part}
use Rattle.policy_decls.specs.Said.{first_prefix, range_or_none}
use Rattle.policy_build.specs.Aligned.{if_aligned, asks_aligned}
use Rattle.policy_build.specs.Fair.{are_fair}
use Rattle.policy_build.specs.Words.{IsWordOf}

-- the prefix, where there is one, has no host bit
abbrev pub IsAligned : Option Cidr → Type 0
IsAligned p = option_and_then if_aligned p ≡ p

-- the first number is not above the last
abbrev pub IsOrdered : Interval → Type 0
IsOrdered r = r.first ≤ r.last

abbrev pub IsGoodNetPart : List Source → NetPartText → Type 0
IsGoodNetPart sources (NetIp prefix) = Unit {0}
IsGoodNetPart sources (NetHost name parts) = IsWordOf sources name × IsOrdered (range_or_none (slice_get (flat_map spans_in parts) 0))
IsGoodNetPart sources (NetNat name parts) = IsWordOf sources name × IsAligned (first_prefix (flat_map ips_in_nat_part parts))
IsGoodNetPart sources (NetIdle idle) = Unit {0}

abbrev pub IsGoodIfPart : List Source → IfPartText → Type 0
IsGoodIfPart sources (IfIp address) = Unit {0}
IsGoodIfPart sources (IfHardware hardware) = IsWordOf sources hardware
IsGoodIfPart sources (IfBindNat tags) = Unit {0}
IsGoodIfPart sources (IfVirtual parts) = Unit {0}
IsGoodIfPart sources (IfIdle idle) = Unit {0}

abbrev pub IsGoodRoutPart : List Source → RoutPartText → Type 0
IsGoodRoutPart sources (RoutManaged filter) = Unit {0}
IsGoodRoutPart sources (RoutModel model) = Unit {0}
IsGoodRoutPart sources (RoutRouting routing) = Unit {0}
IsGoodRoutPart sources (RoutIface name parts) = IsWordOf sources name × All (IsGoodIfPart sources) parts
IsGoodRoutPart sources (RoutIdle idle) = Unit {0}

abbrev pub asks_aligned_objects : Option SetText → Bool
asks_aligned_objects None = true
asks_aligned_objects (Some e) = asks_aligned e

abbrev pub IsGoodRule : RuleText → Type 0
IsGoodRule rule = (asks_aligned rule.src ≡ true) × (asks_aligned rule.dst ≡ true) × (are_fair rule.prts ≡ true)

-- Its words are parts of the sources, no prefix has a host bit, a host's range isn't reversed, and no number of a protocol is out of range.
abbrev pub IsGood : List Source → DeclText → Type 0
IsGood sources (NetworkDecl name desc parts) = IsWordOf sources name × IsAligned (own_prefix parts) × All (IsGoodNetPart sources) parts
IsGood sources (RouterDecl name desc parts) = IsWordOf sources name × All (IsGoodRoutPart sources) parts
IsGood sources (GroupDecl name desc objects) = IsWordOf sources name × (asks_aligned_objects objects ≡ true)
IsGood sources (AreaDecl name desc parts) = IsWordOf sources name
IsGood sources (AggregateDecl name desc parts) = IsWordOf sources name × IsAligned (first_prefix (flat_map ips_in_any_part parts))
IsGood sources (ProtocolDecl name protocol notes) = Unit {0}
IsGood sources (ProtocolGroupDecl name prts) = Unit {0}
IsGood sources (RestrictionDecl name desc ports) = IsWordOf sources name
IsGood sources (ServiceDecl name desc idle user rules) = IsWordOf sources name × (asks_aligned user ≡ true) × All IsGoodRule rules
