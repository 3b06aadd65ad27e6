use Rattle.std.proofs.Common.{◌≡◌, map, flat_map, drop, ◌++◌}
use Rattle.spoc_ast.specs.Seen.{net_part_seen}
use Rattle.policy_decls.specs.Said.{nats_said}
use Rattle.policy_build.specs.Views.{decls_of, nat_seen}
use Rattle.policy_build.proofs.nets.nats.Given as goal

abbrev pub invariant-loop-part : goal.invariant-loop-part
invariant-loop-part l =
    map nat_seen l.found.items ++ flat_map (nats_said (decls_of l.scope)) (map net_part_seen (drop l.part-index l.parts)) ≡ flat_map (nats_said (decls_of l.scope)) (map net_part_seen l.parts)
