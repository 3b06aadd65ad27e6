use Rattle.std.proofs.Common.{◌≡◌, map, flat_map, drop, ◌++◌}
use Rattle.spoc_ast.specs.Seen.{word_seen, net_part_seen}
use Rattle.policy_decls.specs.Lookup.{ips_in_net_part}
use Rattle.policy_build.proofs.nets.own.Given as goal

abbrev pub invariant-loop-part : goal.invariant-loop-part
invariant-loop-part l =
    map word_seen l.ips.items ++ flat_map ips_in_net_part (map net_part_seen (drop l.part-index l.parts)) ≡ flat_map ips_in_net_part (map net_part_seen l.parts)
