use Rattle.std.proofs.Common.{◌≡◌, false, take}
use Rattle.std.specs.List.{list_any}
use Rattle.topology.specs.View.{policy_of}
use Rattle.permit_lines.specs.Given.{site_with}
use Rattle.rule_distribute.specs.Hidden.{touches_zone}
use Rattle.rule_distribute.specs.Paths.{crossing_seen}
use Rattle.rule_distribute.proofs.hidden.passes.Given as goal

abbrev pub invariant-loop-c : goal.invariant-loop-c
invariant-loop-c l = list_any (λ c. touches_zone (site_with (policy_of l.topo) l.graph) l.z.0 (crossing_seen c)) (take l.c-index l.crossings) ≡ false
