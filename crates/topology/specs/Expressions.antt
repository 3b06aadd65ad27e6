-- Sets of objects as the definitions' expressions.
use Rattle.std.specs.Prelude.{Bool, true, false, option_map}
use Rattle.spoc_base.specs.Shown.{cidr_of}
use Rattle.policy_model.specs.Policy.{ObjectExpr, NoObjects, OneNet, OneHost, OneIface, OfGroup, OfAggregate, OfArea, OfUser, NetsOf, HostsOf, ZonesOf, Joined, Common, Without}
use Rattle.topology.specs.declared.sets.Union.{Union, Union', Row_of-Inter, end_of-Inter, more_of-Inter}
use Rattle.topology.specs.declared.sets.Inter.{Inter, Inter', Row_of-Further, end_of-Further, more_of-Further}
use Rattle.topology.specs.declared.sets.Term.{Term}
use Rattle.topology.specs.declared.sets.Term.TheVariants as term

-- what the first set keeps of the second, or without it
abbrev pub kept : Bool → ObjectExpr → ObjectExpr → ObjectExpr
kept true e f = Without e f
kept false e f = Common e f

abbrev mutual
  -- the parts of a union joined, from the last one on
  pub expr_of : Union → ObjectExpr
  expr_of (Union' p shape parts) = joined_parts parts

  pub joined_parts : {n : _} → Row_of-Inter n → ObjectExpr
  joined_parts end_of-Inter = NoObjects
  joined_parts (more_of-Inter part parts) = Joined (part_of part) (joined_parts parts)

  -- a part: its first term, with each further term in turn
  pub part_of : Inter → ObjectExpr
  part_of (Inter' first p shape rest) = narrowed (term_of first) rest

  pub narrowed : {n : _} → ObjectExpr → Row_of-Further n → ObjectExpr
  narrowed e end_of-Further = e
  narrowed e (more_of-Further without term rest) = narrowed (kept without e (term_of term)) rest

  pub term_of : Term → ObjectExpr
  term_of (term.Net n) = OneNet n.0
  term_of (term.Host h) = OneHost h.0
  term_of (term.Iface i) = OneIface i.0
  term_of (term.Group g) = OfGroup g
  term_of (term.Aggregate k) = OfAggregate k
  term_of (term.Area k) = OfArea k
  term_of term.User = OfUser
  term_of (term.Nets' p u) = NetsOf (expr_of u)
  term_of (term.Hosts' p u) = HostsOf (expr_of u)
  term_of (term.Anys' only p u) = ZonesOf (option_map cidr_of only) (expr_of u)
