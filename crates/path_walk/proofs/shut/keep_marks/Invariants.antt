use Rattle.std.proofs.Common.{◌≡◌, true}
use Rattle.std.specs.List.{list_all}
use Rattle.policy_model.specs.Lists.{numbers_below}
use Rattle.topology.specs.View.{policy_of}
use Rattle.path_walk.specs.Seen.{site_of, path_seen}
use Rattle.path_walk.specs.Shut.{keeps_marks}
use Rattle.path_walk.proofs.shut.keep_marks.Given as goal

abbrev pub invariant-loop-i : goal.invariant-loop-i
invariant-loop-i l = list_all (keeps_marks (site_of (policy_of l.fn.topo) l.fn.graph) l.fn.from.0 (path_seen l.fn.path) l.fn.zones l.fn.routers) (numbers_below l.i) ≡ true
